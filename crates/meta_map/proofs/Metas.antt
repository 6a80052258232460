-- A `meta` line: whether it is heeded, its key and its value trimmed, and the row that it makes.
use Rattle.std.specs.Prelude.{Option}
use Prim.Native.Nat.{ℕ, zero, suc, ◌+◌, ◌-◌, ◌≤◌}
use mathlib.Core.Path.{◌≡◌, refl, ap, sym, ◌∙◌}
use mathlib.Core.Bool.{Bool, true, false, ◌&&◌}
use mathlib.Core.List.{List, [], ◌∷◌, ◌++◌, append_assoc}
use native.Mathlib.Omega.{arith}
use lib.ListN.{length, take, drop, length-take, length-drop, length-append}
use lib.Seq.{take-nil, take-take, drop-drop, take_at, drop_at, length-take-le}
use Rattle.rules.specs.Basic.{pick}
use Rattle.rules.specs.Utf8.{chars}
use Rattle.rules.specs.Text.{text_trimmed, text_outer_trimmed}
use Rattle.rules.specs.Event as rules
use Rattle.rules.specs.Model.{MetaEntry}
use Rattle.rules.specs.Modes as modes
use Rattle.rules.specs.Modes.{has_modes, key_of, key_text, value_text}
use Rattle.rules.specs.Metadata.{insert_meta}
use Rattle.rules.specs.Plain.{is_mode_key}
use Rattle.content.specs.Contents as contents
use Rattle.content.specs.Contents.{kept_in}
use Rattle.content.proofs.Plains.{plain_unescape}
use Rattle.content.proofs.Retains.{kept_trimmed}
use Rattle.text.specs.Trims.{drops_of, StartAt, EndAt}
use Rattle.text.specs.declared.Dropped.TheVariants.{White}
use Rattle.text.proofs.Trims.{trimmed_front, trimmed_both, trimmed_white}
use Rattle.parts.specs.Views.{part_of, content_in, text_in, TextWithin}
use Rattle.parts.specs.declared.Part.{Part}
use Rattle.parts.specs.declared.TextView.{TextView}
use Rattle.events.specs.declared.Between.{Between}
use Rattle.events.specs.declared.Between.TheVariants as between
use Rattle.events.specs.declared.Inside.{Inside}
use Rattle.events.specs.declared.Severity.{Severity}
use Rattle.sheet.specs.declared.BlockKind.{BlockKind}
use Rattle.events.specs.declared.EventView.{EventView}
use Rattle.events.specs.declared.EventView.TheVariants as event
use Rattle.events.specs.Views.{event_in, between_in, EventWithin, BetweenWithin}
use Rattle.config_keys.specs.Keys.{HeededKey}
use Rattle.known_events.specs.Fields.{TextField, BetweenFields, EventFields}
use Rattle.known_events.specs.Known.{KnownEvent}
use Rattle.meta_map.specs.Index.{part_at, map_in, RowIn, Indexed, Inserted}
use Rattle.meta_map.specs.Maps.{map_key, map_meta, map_on, TrimmedPart, MetaIndexed, EventIndexed, SheetIndexed, WordsIndexed}
use Rattle.model.specs.declared.layout.TheConstants.{STATE_WORDS, INDEX_WORDS, WORDS}

-- ---- parts of parts

drop_take : (b m : ℕ) (y : List ℕ) → drop b (take m y) ≡ take (m - b) (drop b y)
drop_take zero m y = let r : m - 0 ≡ m = omega arith in ap (λ (n : ℕ). take n y) (sym r)
drop_take (suc b) zero y = let r : 0 - suc b ≡ 0 = omega arith in ap (λ (n : ℕ). take n (drop (suc b) y)) (sym r)
drop_take (suc b) (suc m) [] = let r : suc m - suc b ≡ m - b = omega arith in sym (take-nil (suc m - suc b))
drop_take (suc b) (suc m) (c ∷ y) = let r : suc m - suc b ≡ m - b = omega arith in drop_take b m y ∙ ap (λ (n : ℕ). take n (drop b y)) (sym r)

-- k from a on of what stands between two places
part_in : (s : List ℕ) (from to a k : ℕ) → a + k ≤ to - from → take k (drop a (take (to - from) (drop from s))) ≡ take k (drop (from + a) s)
part_in s from to a k h = ap (take k) (drop_take a (to - from) (drop from s)) ∙ (take-take k (to - from - a) (drop a (drop from s)) (omega arith) ∙ ap (take k) (drop-drop a from s))

-- a part of a line of the sheet
part_of_line : (sheet : List ℕ) (from end : ℕ) (p : Part) → p.from ≤ p.to → p.to ≤ end - from → part_at sheet (from + p.from) (from + p.to) ≡ part_of (part_at sheet from end) p
unfolding part_of
part_of_line sheet from end p h g =
    let e : from + p.to - (from + p.from) ≡ p.to - p.from = omega arith in
    ap (λ (n : ℕ). take n (drop (from + p.from) sheet)) e ∙ sym (part_in sheet from end p.from (p.to - p.from) (omega arith))

line_long : (sheet : List ℕ) (from end : ℕ) → end ≤ length sheet → length (part_at sheet from end) ≡ end - from
line_long sheet from end h = omega (arith, length-take (end - from) (drop from sheet), length-drop from sheet)

-- ---- trimming

pub trimmed_part : (line : List ℕ) (p : Part) (a e : ℕ) → p.from ≤ p.to → p.to ≤ length line → StartAt (drops_of White) (take (p.to - p.from) (drop p.from line)) a
    → EndAt (drops_of White) (take (length (take (p.to - p.from) (drop p.from line)) - a) (drop a (take (p.to - p.from) (drop p.from line)))) e
    → TrimmedPart line p (record { from = p.from + a; to = p.from + a + e })
unfolding part_of
trimmed_part line p a e h g x y =
    let d : e ≡ p.from + a + e - (p.from + a) = omega arith in
    let l : length (take (p.to - p.from) (drop p.from line)) ≡ p.to - p.from = line_long line p.from p.to g in
    let k : e ≤ length (take (p.to - p.from) (drop p.from line)) - a = omega (arith, y.most, length-take (length (take (p.to - p.from) (drop p.from line)) - a) (drop a (take (p.to - p.from) (drop p.from line)))) in
    let same : take e (take (length (take (p.to - p.from) (drop p.from line)) - a) (drop a (take (p.to - p.from) (drop p.from line)))) ≡ take (p.from + a + e - (p.from + a)) (drop (p.from + a) line) =
    take-take e (length (take (p.to - p.from) (drop p.from line)) - a) (drop a (take (p.to - p.from) (drop p.from line))) k
    ∙ (part_in line p.from p.to a e (omega (arith, x.most)) ∙ ap (λ (n : ℕ). take n (drop (p.from + a) line)) d)
    in
    record {
      order = omega arith;
      most = omega (arith, x.most);
      trimmed = rw same at (trimmed_white (trimmed_both (drops_of White) x (trimmed_front (drops_of White) y)));
    }

-- ---- heeded keys

-- what a heeded key leaves of the map, and any other
module _ (k v : rules.Text) (es : List MetaEntry) where
  key_heeded : (b : Bool) (key : modes.Key) → (b && is_mode_key key) ≡ true → map_key (pick b key modes.ordinary) k v es ≡ es
  unfolding map_key is_mode_key
  key_heeded true (modes.config c) e = refl
  key_heeded true modes.unknown_config e = absurd (let z : ◌≡◌ {A = ℕ} 0 1 = cc in omega arith)
  key_heeded true modes.ordinary e = absurd (let z : ◌≡◌ {A = ℕ} 0 1 = cc in omega arith)
  key_heeded false key e = absurd (let z : ◌≡◌ {A = ℕ} 0 1 = cc in omega arith)

  key_entered : (b : Bool) (key : modes.Key) → (b && is_mode_key key) ≡ false → map_key (pick b key modes.ordinary) k v es ≡ insert_meta (key_text k) (value_text v) es
  unfolding map_key is_mode_key
  key_entered true (modes.config c) e = absurd (let z : ◌≡◌ {A = ℕ} 0 1 = cc in omega arith)
  key_entered true modes.unknown_config e = refl
  key_entered true modes.ordinary e = refl
  key_entered false key e = refl

text_content : (line : List ℕ) (v : TextView) → TextWithin line v → contents.content_in (part_of line v.content) ≡ (text_in line v).content
unfolding text_in content_in contents.content_in
text_content line v z = ap chars (plain_unescape (part_of line v.content) z.content.well)

module _ (sheet : List ℕ) (from end : ℕ) {k : TextView} (kz : TextWithin (part_at sheet from end) k) where
  heeded_key : {flags : ℕ} {b : Bool} {f : List ℕ} → f ≡ part_of (part_at sheet from end) k.content → HeededKey flags f b → b ≡ (has_modes flags && is_mode_key (key_of (key_text (text_in (part_at sheet from end) k))))
  unfolding key_text
  heeded_key {flags} {b} {f} e h = h.is ∙ ap (λ (cs : List ℕ). has_modes flags && is_mode_key (key_of (text_trimmed cs))) (ap contents.content_in e ∙ text_content (part_at sheet from end) k kz)

  pub meta_heeded : {flags : ℕ} {m₀ : List ℕ} {n : ℕ} {b : Bool} {f : List ℕ} (v : TextView) → Indexed sheet m₀ n → f ≡ part_of (part_at sheet from end) k.content → HeededKey flags f b → b ≡ true → MetaIndexed flags sheet (part_at sheet from end) m₀ n k v m₀ n
  unfolding map_meta
  meta_heeded {flags} {m₀} {n} v z e h t =
      record { map = sym (key_heeded (text_in (part_at sheet from end) k) (text_in (part_at sheet from end) v) (map_in sheet m₀ n) (has_modes flags) _ (sym (heeded_key e h) ∙ t)); indexed = z; count = omega arith }

  module _ {v : TextView} (vz : TextWithin (part_at sheet from end) v) (ends : end ≤ length sheet) (order : from ≤ end) {a b : Part} (x : TrimmedPart (part_at sheet from end) k.content a) (y : TrimmedPart (part_at sheet from end) v.content b) where
    key_part : part_at sheet (from + a.from) (from + a.to) ≡ part_of (part_at sheet from end) a
    key_part = part_of_line sheet from end a x.order (omega (arith, x.most, kz.content.ends, line_long sheet from end ends))

    value_part : part_at sheet (from + b.from) (from + b.to) ≡ part_of (part_at sheet from end) b
    value_part = part_of_line sheet from end b y.order (omega (arith, y.most, vz.content.ends, line_long sheet from end ends))

    pub meta_row : TextField (part_at sheet from end) k → TextField (part_at sheet from end) v → RowIn sheet (from + a.from) (from + a.to) (from + b.from) (from + b.to)
    unfolding TextField
    meta_row fk fv =
        record {
          key_order = omega (arith, x.order);
          key_most = omega (arith, x.most, kz.content.ends, line_long sheet from end ends);
          value_order = omega (arith, y.order);
          value_most = omega (arith, y.most, vz.content.ends, line_long sheet from end ends);
          key = rw key_part (x.trimmed.field fk);
          value = rw value_part (y.trimmed.field fv);
        }

    key_is : kept_in (part_at sheet (from + a.from) (from + a.to)) ≡ key_text (text_in (part_at sheet from end) k)
    unfolding key_text
    key_is = ap kept_in key_part ∙ (kept_trimmed (part_of (part_at sheet from end) k.content) (part_of (part_at sheet from end) a) x.trimmed.is ∙ ap text_trimmed (text_content (part_at sheet from end) k kz))

    value_is : contents.content_in (part_at sheet (from + b.from) (from + b.to)) ≡ value_text (text_in (part_at sheet from end) v)
    unfolding value_text
    value_is = ap contents.content_in value_part ∙ (y.trimmed.is ∙ ap text_outer_trimmed (text_content (part_at sheet from end) v vz))

    pub meta_entered : {flags : ℕ} {m₀ : List ℕ} {n : ℕ} {t : Bool} {f m : List ℕ} {r : ℕ} → f ≡ part_of (part_at sheet from end) k.content → HeededKey flags f t → t ≡ false → Inserted sheet m₀ n (from + a.from) (from + a.to) (from + b.from) (from + b.to) m r → MetaIndexed flags sheet (part_at sheet from end) m₀ n k v m r
    unfolding map_meta
    meta_entered {flags} {m₀} {n} e h g i =
        record {
          map = i.map ∙ (ap (λ (x : List ℕ). insert_meta x (contents.content_in (part_at sheet (from + b.from) (from + b.to))) (map_in sheet m₀ n)) key_is ∙ (ap (λ (x : List ℕ). insert_meta (key_text (text_in (part_at sheet from end) k)) x (map_in sheet m₀ n)) value_is
              ∙ sym (key_entered (text_in (part_at sheet from end) k) (text_in (part_at sheet from end) v) (map_in sheet m₀ n) (has_modes flags) _ (sym (heeded_key e h) ∙ g))));
          indexed = i.indexed;
          count = i.count;
        }

-- ---- any line

pub meta_within : {line : List ℕ} {v : EventView} {b : Between} {k w : TextView} → KnownEvent line v → v ≡ event.Between b → b ≡ between.Meta k w → TextWithin line k × TextWithin line w × TextField line k × TextField line w
unfolding EventWithin BetweenWithin EventFields BetweenFields
meta_within x e f =
    let p = rw (e, f) at x.within in
    let q = rw (e, f) at x.fields in
    (p.0, p.1, q.0, q.1)

module _ {flags : ℕ} {sheet line m₀ : List ℕ} {n : ℕ} {v : EventView} where
  pub event_meta : {b : Between} {k w : TextView} {m : List ℕ} {r : ℕ} → v ≡ event.Between b → b ≡ between.Meta k w → MetaIndexed flags sheet line m₀ n k w m r → EventIndexed flags sheet line m₀ n v m r
  unfolding event_in between_in map_on
  event_meta e f x = record { map = rw (e, f) x.map; indexed = x.indexed; count = x.count }

  module _ (z : Indexed sheet m₀ n) where
    pub event_section : {b : Between} {o : Option TextView} → v ≡ event.Between b → b ≡ between.Section o → EventIndexed flags sheet line m₀ n v m₀ n
    unfolding event_in between_in map_on
    event_section e f = record { map = rw (e, f); indexed = z; count = omega arith }

    pub event_start : {b : Between} {k : BlockKind} → v ≡ event.Between b → b ≡ between.Start k → EventIndexed flags sheet line m₀ n v m₀ n
    unfolding event_in between_in map_on
    event_start e f = record { map = rw (e, f); indexed = z; count = omega arith }

    pub event_inside : {i : Inside} → v ≡ event.Inside i → EventIndexed flags sheet line m₀ n v m₀ n
    unfolding event_in map_on
    event_inside e = record { map = rw e; indexed = z; count = omega arith }

    pub event_finding : {s : Severity} {k : ℕ} → v ≡ event.Finding s k → EventIndexed flags sheet line m₀ n v m₀ n
    unfolding event_in map_on
    event_finding e = record { map = rw e; indexed = z; count = omega arith }

-- ---- the window

pub words_indexed : {flags : ℕ} {text sheet m : List ℕ} {r : ℕ} (w : List ℕ) → WORDS ≤ length w → SheetIndexed flags text sheet m r → WordsIndexed flags text sheet w (take STATE_WORDS w ++ (m ++ drop INDEX_WORDS (drop STATE_WORDS w))) r
words_indexed {m = m} w h x =
    let a : length (take STATE_WORDS w) ≡ STATE_WORDS = length-take-le STATE_WORDS w (omega arith) in
    let k : length m ≡ INDEX_WORDS = x.indexed.long in
    let l : length (take STATE_WORDS w ++ m) ≡ WORDS = length-append (take STATE_WORDS w) m ∙ omega (arith, a, k) in
    let p : take INDEX_WORDS (drop STATE_WORDS (take STATE_WORDS w ++ (m ++ drop INDEX_WORDS (drop STATE_WORDS w)))) ≡ m = ap (take INDEX_WORDS) (drop_at (take STATE_WORDS w) (m ++ drop INDEX_WORDS (drop STATE_WORDS w)) STATE_WORDS a) ∙ take_at m (drop INDEX_WORDS (drop STATE_WORDS w)) INDEX_WORDS k in
    record {
      index = rw p x;
      front = take_at (take STATE_WORDS w) (m ++ drop INDEX_WORDS (drop STATE_WORDS w)) STATE_WORDS a;
      rest =
          ap (drop WORDS) (sym (append_assoc (take STATE_WORDS w) m (drop INDEX_WORDS (drop STATE_WORDS w))))
          ∙ (drop_at (take STATE_WORDS w ++ m) (drop INDEX_WORDS (drop STATE_WORDS w)) WORDS l ∙ drop-drop INDEX_WORDS STATE_WORDS w);
      long = length-append (take STATE_WORDS w) (m ++ drop INDEX_WORDS (drop STATE_WORDS w)) ∙ omega (arith, a, k, length-append m (drop INDEX_WORDS (drop STATE_WORDS w)), length-drop INDEX_WORDS (drop STATE_WORDS w), length-drop STATE_WORDS w);
    }
