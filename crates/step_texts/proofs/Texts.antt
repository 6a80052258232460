-- One law for each way through a text in a step.
use Prim.Native.Nat.{ℕ, suc, ◌+◌, ◌-◌, ◌<◌, ◌≤◌, ◌/◌, ◌%◌}
use mathlib.Core.Path.{◌≡◌, refl, sym, ap, ◌∙◌}
use mathlib.Core.Bool.{Bool, true, false}
use mathlib.Core.List.{List, [], ◌∷◌, reverse_aux}
use native.Mathlib.Omega.{arith}
use borrow.Author.Tests.{eq-eqb, ne_eqb}
use lib.ListN.{length, drop, replicate, length-replicate, length-reverse_aux, length-drop}
use lib.Seq.{length-take-le}
use Rattle.rules.specs.Basic.{any, when}
use Rattle.rules.specs.Unicode.{is_alphanumeric}
use Rattle.rules.specs.Event as rules
use Rattle.rules.specs.Finding.{found}
use Rattle.rules.specs.Units.{NamedUnit}
use Rattle.rules.specs.Inline.{Piece, text_piece, quantity_piece, inline_pieces}
use Rattle.rules.specs.Model.{Item, InlineQuantity}
use Rattle.rules.specs.Modes.{is_components, has_inline}
use Rattle.rules.specs.State.{State, set_block, set_place, set_kept, set_tables, set_inline, report}
use Rattle.rules.specs.Pass.{items_of, quantities_of, push_items, push_pieces, pieces, text_in_step}
use Rattle.content.specs.Contents as content
use Rattle.content.proofs.Plains as plains
use Rattle.inline.specs.Items.{CountsOf}
use Rattle.inline.specs.declared.Counts.{Counts}
use Rattle.parts.specs.Views.{part_of, span_in, text_in, TextWithin}
use Rattle.parts.specs.declared.TextView.{TextView}
use Rattle.parts.proofs.Contents.{content_of_lem}
use Rattle.model.specs.Blank.{blank, blank_place, blank_kept, blank_tables, blank_inline}
use Rattle.model.specs.Rows.{finding_of}
use Rattle.model.specs.Memory.{state_of, state_in, Sound}
use Rattle.model.specs.Small.{with_inline}
use Rattle.model.specs.declared.Noted.{Noted}
use Rattle.model.specs.declared.Held.{Held}
use Rattle.model.proofs.Writes.{writes_none}
use Rattle.memory.specs.Pushes.{FindingPushed}
use Rattle.memory.proofs.Smalls.{with_inline_lem}
use Rattle.memory.proofs.Bounds.{sound_inline, fit_counts}
use Rattle.memory.proofs.Writes.{finding_writes}
use Rattle.blocks.specs.Lined.{ItemsPushed}
use Rattle.blocks.proofs.Lines.{components_of, found_one, found_at, went_none}
use Rattle.blocks.proofs.Fitting.{items_fit, items_sound}
use Rattle.step_texts.specs.Texts.{PiecesPushed, TextDone}
use Rattle.sheet.specs.Words.{define_of}

-- ---- pieces

items_length : (n : ℕ) (ps : List Piece) → length (items_of n ps) ≡ length ps
unfolding items_of
items_length n [] = refl
items_length n (text_piece t ∷ ps) = ap suc (items_length n ps)
items_length n (quantity_piece a u ∷ ps) = ap suc (items_length (suc n) ps)

quantities_few : (ps : List Piece) → length (quantities_of ps) ≤ length ps
unfolding quantities_of
quantities_few [] = omega arith
quantities_few (text_piece t ∷ ps) = let i = quantities_few ps in omega arith
quantities_few (quantity_piece a u ∷ ps) = let i = quantities_few ps in omega arith

inline_same : (x : List Item) (a b : List InlineQuantity) (st : State) → length a ≡ length b → blank (push_items x [] (set_inline a st)) ≡ blank (push_items x [] (set_inline b st))
unfolding push_items set_block set_place set_kept set_inline set_tables blank blank_place blank_kept blank_tables
inline_same x a b st e = rw e

inline_count : (sheet w : List ℕ) (h : Held) → length (state_in sheet w h).tables.inline ≡ h.counts.inline
unfolding state_in state_of
inline_count sheet w h = length-replicate h.counts.inline blank_inline

module _ {n m : ℕ} (h : Held) {r : Held} (l : h.counts.inline + m ≤ 100000) (p : ItemsPushed n (with_inline (h.counts.inline + m) h) r) where
  pushed_is : (ps : List Piece) → length ps ≡ n → length (quantities_of ps) ≡ m → (sheet w : List ℕ) → state_in sheet w r ≡ blank (push_pieces ps [] (state_in sheet w h))
  unfolding push_pieces
  pushed_is ps e f sheet w =
      let st = state_in sheet w h in
      let x : List Item = items_of (length st.tables.inline) ps in
      let a = length-replicate (h.counts.inline + m) blank_inline in
      let b = length-reverse_aux (quantities_of ps) st.tables.inline in
      let c = inline_count sheet w h in
      let q : length (replicate (h.counts.inline + m) blank_inline) ≡ length (reverse_aux (quantities_of ps) st.tables.inline) = omega (arith, a, b, c, f) in
      (p.by x (items_length _ ps ∙ e)).is sheet w
      ∙ (ap (λ (s : State). blank (push_items x [] s)) (with_inline_lem sheet w h (h.counts.inline + m))
      ∙ inline_same x (replicate (h.counts.inline + m) blank_inline) (reverse_aux (quantities_of ps) st.tables.inline) st q)

  pieces_pushed : PiecesPushed n m h r
  pieces_pushed =
      record {
        told = λ ps e f. record { is = pushed_is ps e f; sound = λ w z. items_sound p w (sound_inline z (h.counts.inline + m) l) };
        fit = λ sheet w a. items_fit p sheet w (fit_counts refl refl a);
      }

pub pieces_pushed_at : {n m : ℕ} {h k r : Held} → h.counts.inline + m ≤ 100000 → k ≡ with_inline (h.counts.inline + m) h → ItemsPushed n k r → PiecesPushed n m h r
pieces_pushed_at {h = h} l e p = pieces_pushed h l (rw e at p)

pub items_room : (h : Held) {k : Held} (n m : ℕ) → h.counts.items + n ≤ 100000 → k ≡ with_inline (h.counts.inline + m) h → k.counts.items + n ≤ 100000
items_room h n m l e = rw e l

part_short : (line : List ℕ) (v : TextView) (f : List ℕ) → TextWithin line v → f ≡ part_of line v.content → length f ≤ length line
unfolding part_of
part_short line v f z e =
    let p = v.content in
    let a = z.content.ordered in
    let b = z.content.ends in
    let d = length-drop p.from line in
    let k = length-take-le (p.to - p.from) (drop p.from line) (omega (arith, a, b, d)) in
    rw e (omega (arith, k, b))

pub pieces_room : {us : List NamedUnit} {line f : List ℕ} {v : TextView} (n m : ℕ) {c : Counts} → TextWithin line v → f ≡ part_of line v.content → CountsOf us f c → n + length line < 100000 → m + length line < 100000
    → (n + c.items ≤ 100000) × (m + c.quantities ≤ 100000)
pieces_room {us} {line} {f} {v} n m z e k i j =
    let s = part_short line v f z e in
    let few = k.few in
    let a = k.items in
    let b = k.quantities in
    let q = quantities_few (inline_pieces us (content.content_in f)) in
    (omega (arith, s, few, i), omega (arith, s, few, a, b, q, j))

-- ---- the whole line

body_content : (line : List ℕ) (v : TextView) (f : List ℕ) → TextWithin line v → f ≡ part_of line v.content → content.content_in f ≡ (text_in line v).content
unfolding text_in
body_content line v f z e = ap content.content_in e ∙ plains.content_of_lem (part_of line v.content) (content_of_lem line v.content z.content)

body_has : (line : List ℕ) (v : TextView) (f : List ℕ) → TextWithin line v → f ≡ part_of line v.content → {a x : Bool} → a ≡ any is_alphanumeric (content.content_in f) → a ≡ x → any is_alphanumeric (text_in line v).content ≡ x
body_has line v f z g k q = ap (any is_alphanumeric) (sym (body_content line v f z g)) ∙ (sym k ∙ q)

body_span : (line : List ℕ) (v : TextView) → (text_in line v).span ≡ span_in v.span
unfolding text_in
body_span line v = refl

module _ (us : List NamedUnit) (flags : ℕ) (t : rules.Text) (st : State) where
  step_silent : is_components st.modes.define ≡ true → any is_alphanumeric t.content ≡ false → st ≡ text_in_step us flags t [] st
  unfolding text_in_step when report
  step_silent e b = rw (e, b)

  step_found : is_components st.modes.define ≡ true → any is_alphanumeric t.content ≡ true → report (found 4 t.span ∷ []) st ≡ text_in_step us flags t [] st
  unfolding text_in_step when
  step_found e b = rw (e, b)

  step_pieces : is_components st.modes.define ≡ false → (ps : List Piece) → pieces us flags t.content ≡ ps → push_pieces ps [] st ≡ text_in_step us flags t [] st
  unfolding text_in_step
  step_pieces e ps q = rw (e, q)

module _ {us : List NamedUnit} {flags : ℕ} {line : List ℕ} {v : TextView} {h : Held} {b : Bool} (e : b ≡ is_components (define_of h.define)) {w₀ : List ℕ} (s : Sound w₀ h) where
  module _ (f : List ℕ) (z : TextWithin line v) (g : f ≡ part_of line v.content) {a : Bool} (k : a ≡ any is_alphanumeric (content.content_in f)) (on : b ≡ true) where
    pub text_silent : a ≡ false → TextDone us flags line v w₀ h w₀ h
    text_silent q =
        record {
          went = record { is = λ sheet. (went_none s).is sheet ∙ ap blank (step_silent us flags (text_in line v) (state_in sheet w₀ h) (components_of sheet w₀ h e on) (body_has line v f z g k q)); sound = s; fit = λ sheet y. y; writes = writes_none };
          fit = λ sheet y. y;
        }

    pub text_found : {w : List ℕ} {r : Held} {x : Noted} → a ≡ true → finding_of x ≡ found 4 (record { start = v.span.start; end = v.span.end }) → FindingPushed w₀ h x w r → TextDone us flags line v w₀ h w r
    text_found {x = x} q o p =
        record {
          went = record {
            is = λ sheet. (found_one s p (found_at x v.span o ∙ ap (found 4) (sym (body_span line v)))).is sheet ∙ ap blank (step_found us flags (text_in line v) (state_in sheet w₀ h) (components_of sheet w₀ h e on) (body_has line v f z g k q));
            sound = p.sound;
            fit = p.fit;
            writes = finding_writes p;
          };
          fit = p.fit;
        }

  module _ (off : b ≡ false) {r : Held} where
    text_pieces : {n m : ℕ} (ps : List Piece) → pieces us flags (text_in line v).content ≡ ps → length ps ≡ n → length (quantities_of ps) ≡ m → PiecesPushed n m h r → TextDone us flags line v w₀ h w₀ r
    text_pieces ps q i j p =
        record {
          went = record {
            is = λ sheet. (p.told ps i j).is sheet w₀ ∙ ap blank (step_pieces us flags (text_in line v) (state_in sheet w₀ h) (components_of sheet w₀ h e off) ps q);
            sound = (p.told ps i j).sound w₀ s;
            fit = λ sheet y. p.fit sheet w₀ y;
            writes = writes_none;
          };
          fit = λ sheet y. p.fit sheet w₀ y;
        }

    pub text_plain : (flags / 2 % 2 ≡ 1 → ⊥) → PiecesPushed 1 0 h r → TextDone us flags line v w₀ h w₀ r
    unfolding pieces has_inline quantities_of
    text_plain n p = text_pieces (text_piece (text_in line v).content ∷ []) (rw (ne_eqb (flags / 2 % 2) 1 n)) refl refl p

    pub text_inline : {f : List ℕ} {c : Counts} → flags / 2 % 2 ≡ 1 → TextWithin line v → f ≡ part_of line v.content → CountsOf us f c → PiecesPushed c.items c.quantities h r → TextDone us flags line v w₀ h w₀ r
    unfolding pieces has_inline
    text_inline {f} n z g k p =
        text_pieces (inline_pieces us (content.content_in f)) (rw (eq-eqb (flags / 2 % 2) 1 n) (ap (inline_pieces us) (sym (body_content line v f z g)))) (sym k.items) (sym k.quantities) p
