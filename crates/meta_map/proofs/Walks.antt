-- The map of the pass depends on the `meta` lines alone; the walk over a sheet's lines that makes the same map.
use Prim.Native.Nat.{ℕ, suc, ◌+◌, ◌-◌, ◌≤◌, ◌<◌}
use mathlib.Core.Path.{◌≡◌, refl, ap, sym, ◌∙◌}
use mathlib.Core.Bool.{true}
use mathlib.Core.List.{List, [], ◌∷◌}
use Rattle.std.specs.Prelude.{Option, None, Some}
use native.Mathlib.Omega.{arith}
use native.Mathlib.Numerals.{add-one}
use borrow.Author.Tests.{ltb-false}
use lib.Dec.{ltb}
use lib.ListN.{length, take, drop}
use Rattle.rules.specs.Input.{Context}
use Rattle.rules.specs.Basic.{lf, is_some, all}
use Rattle.rules.specs.Sheet.{Lines, lines, Without}
use Rattle.rules.specs.Words.{define_key, duplicate_key, DefineMode, DuplicateMode}
use Rattle.rules.specs.Event.{Text, Between, meta_event, section_event, start_event, Event, between, inside, parser_event, spans_of}
use Rattle.rules.specs.Read.{parse_line}
use Rattle.rules.specs.Model.{MetaEntry}
use Rattle.rules.specs.Modes.{Key, config, unknown_config, ordinary}
use Rattle.rules.specs.State.{State, first_state, set_modes, set_metadata, report, Step, next, going}
use Rattle.rules.specs.Metadata.{store_meta, on_define, on_duplicate, on_key, on_metadata}
use Rattle.rules.specs.Pass.{is_open, on_between, on_event, walk}
use Rattle.rules.specs.Page.{table_lines, meta_line}
use Rattle.rules.specs.Answer.{Reading, events, unread, events_or, with_event, is_good_span, read_line, read_from, read_sheet}
use Rattle.rules.proofs.Basics.{pick_either}
use Rattle.rules.proofs.FaultWalk.{Takes, takes, walk_on}
use Rattle.sheet.specs.Lines.{lines_from, LineAt}
use Rattle.content.proofs.Lines.{line_without}
use Rattle.reading.proofs.Passes.{Rest, rest_ends, rest_ended}
use Rattle.output.specs.Put.{Put}
use Rattle.output.proofs.Texts.{text_is}
use Rattle.finding_lines.proofs.Asides.{section_aside, start_aside, inside_aside}
use Rattle.finding_lines.proofs.Parsers.{next_inj, stop_next, aside_next}
use Rattle.meta_map.specs.Index.{map_in, Indexed, MetasPut}
use Rattle.meta_map.specs.Maps.{map_key, map_meta, map_on, map_over, LineIndexed, SheetIndexed}

-- ---- the map in the pass

define_map : (k v : Text) (o : Option DefineMode) (st : State) → (on_define k v o st).metadata.map ≡ st.metadata.map
unfolding on_define set_modes report
define_map k v None st = refl
define_map k v (Some m) st = refl

duplicate_map : (k v : Text) (o : Option DuplicateMode) (st : State) → (on_duplicate k v o st).metadata.map ≡ st.metadata.map
unfolding on_duplicate set_modes report
duplicate_map k v None st = refl
duplicate_map k v (Some m) st = refl

key_map : (key : Key) (k v : Text) (st : State) → (on_key key k v st).metadata.map ≡ map_key key k v st.metadata.map
unfolding on_key store_meta set_metadata report map_key
key_map (config define_key) k v st = define_map k v _ st
key_map (config duplicate_key) k v st = duplicate_map k v _ st
key_map unknown_config k v st = refl
key_map ordinary k v st = refl

module _ (cx : Context) where
  between_map : (b : Between) (st : State) → (on_between cx b st).metadata.map ≡ map_on cx.flags (between b) st.metadata.map
  unfolding on_between map_on on_metadata map_meta
  between_map (meta_event k v) st = key_map _ k v st
  between_map (section_event n) st = ap (λ x. x.map) (section_aside n st).metadata
  between_map (start_event k) st = ap (λ x. x.map) (start_aside k st).metadata

  event_map : (e : Event) (st a : State) → on_event cx e st ≡ next a → a.metadata.map ≡ map_on cx.flags e st.metadata.map
  unfolding on_event
  event_map (between b) st a q =
      pick_either (λ (s : Step). s ≡ next a → a.metadata.map ≡ map_on cx.flags (between b) st.metadata.map) (is_open st.place.block) _ _ (λ _ e. stop_next e)
      (λ _ e. ap (λ (x : State). x.metadata.map) (sym (next_inj e)) ∙ between_map b st) q
  event_map (inside i) st a q = unfold map_on in ap (λ x. x.map) (aside_next _ (inside_aside cx i st.place.block st) q).metadata
  event_map (parser_event s n) st a q = unfold map_on report in ap (λ (x : State). x.metadata.map) (sym (next_inj q))

  going_inj : {a b : State} → going a ≡ going b → a ≡ b
  going_inj e = cc

  walk_map : (es : List Event) (line : ℕ) (st end : State) → walk cx line (going st) es ≡ going end → end.metadata.map ≡ map_over cx.flags es st.metadata.map
  unfolding map_over
  walk_map [] line st end q = unfold walk in ap (λ (x : State). x.metadata.map) (sym (going_inj q))
  walk_map (e ∷ es) line st end q =
      let t : Takes cx line e st = takes cx line e es st end q in
      walk_map es (suc line) t.after end (walk_on cx line e es st end t q)
      ∙ ap (λ (m : List MetaEntry). map_over cx.flags es m) (event_map e st t.after t.event)

  -- the map of a sheet that the pass accepts
  pub accepted_map : (es : List Event) (st : State) → walk cx 1 (going first_state) es ≡ going st → st.metadata.map ≡ map_over cx.flags es []
  accepted_map es st q = walk_map es 1 first_state st q ∙ unfold first_state in refl

-- the page's `meta` lines
pub metas_page : {text sheet m o₀ o : List ℕ} {flags n at r : ℕ} (cx : Context) (st : State) → cx.flags ≡ flags → walk cx 1 (going first_state) (events_or (read_sheet text sheet)) ≡ going st
    → SheetIndexed flags text sheet m n → MetasPut sheet m n o₀ at o r → Put (table_lines meta_line st.metadata.map) o₀ at o r
metas_page {text} {sheet} cx st c q x p =
    let m = rw c at (accepted_map cx (events_or (read_sheet text sheet)) st q) in text_is _ (ap (table_lines meta_line) (m ∙ sym x.map)) p.is

-- ---- a line of a sheet that was read

no_events : {P : Type 0} {n l : ℕ} {es : List Event} → unread n l ≡ events es → P
no_events e = absurd (let z : ◌≡◌ {A = ℕ} 0 1 = cc in omega arith)

-- its event is the first, and it is one of 4,096 lines
pub record Lined (text bytes line : List ℕ) (end number : ℕ) (es : List Event) : Type 0 where
  pub event : Event
  pub others : List Event
  pub parses : parse_line line ≡ Some event
  pub is : es ≡ event ∷ others
  pub rest : Rest text bytes (end + 1) (number + 1) others
  pub few : number ≤ 4096

module _ {text bytes line : List ℕ} {end number : ℕ} {es : List Event} where
  with_first : (e : Event) → parse_line line ≡ Some e → number ≤ 4096 → (r : Reading) → read_from text (length text) (suc number) (lines (drop (end + 1) bytes)) ≡ r → with_event e r ≡ events es → Lined text bytes line end number es
  unfolding with_event
  with_first e p f (unread n l) k q = no_events q
  with_first e p f (events fs) k q = record { event = e; others = fs; parses = p; is = sym (cc); rest = record { is = rw (add-one number) k }; few = f }

  lined_by : (o : Option Event) → parse_line line ≡ o → read_line text (length text) number o (read_from text (length text) (suc number) (lines (drop (end + 1) bytes))) ≡ events es → Lined text bytes line end number es
  unfolding read_line
  lined_by None p q = no_events q
  lined_by (Some e) p q =
      pick_either (λ (r : Reading). r ≡ events es → Lined text bytes line end number es) (ltb 4096 number) _ _ (λ _ k. no_events k)
      (λ f. pick_either (λ (r : Reading). r ≡ events es → Lined text bytes line end number es) (all (is_good_span text (length text)) (spans_of e)) _ _
      (λ _ k. with_first e p (ltb-false 4096 number f) (read_from text (length text) (suc number) (lines (drop (end + 1) bytes))) refl k) (λ _ k. no_events k)) q

module _ {text bytes : List ℕ} {from number : ℕ} {es : List Event} (w : Rest text bytes from number es) {r : Option ℕ} (l : LineAt bytes from r) {end : ℕ} (q : r ≡ Some end) where
  pub lined : Lined text bytes (take (end - from) (drop from bytes)) end number es
  unfolding read_from lines_from
  lined = lined_by (parse_line (take (end - from) (drop from bytes))) refl (sym (ap (λ (ls : Lines). read_from text (length text) number ls) (sym l.is ∙ ap (lines_from bytes from) q)) ∙ w.is)

  pub lined_known : (is_some (parse_line (take (end - from) (drop from bytes))) ≡ true) × Without lf (take (end - from) (drop from bytes))
  unfolding is_some lines_from
  lined_known = (rw lined.parses, line_without (drop from bytes) (sym l.is ∙ ap (lines_from bytes from) q))

-- ---- the walk: what is left to enter, from a line on

pub record Indexing (flags : ℕ) (text bytes m : List ℕ) (n from : ℕ) : Type 0 where
  pub number : ℕ
  pub others : List Event
  pub rest : Rest text bytes from number others
  pub indexed : Indexed bytes m n
  pub count : n + 1 ≤ number
  pub is : map_over flags others (map_in bytes m n) ≡ map_over flags (events_or (read_sheet text bytes)) []

pub index_starts : {text bytes m : List ℕ} {n : ℕ} (flags : ℕ) → read_sheet text bytes ≡ events (events_or (read_sheet text bytes)) → Indexed bytes m n → n ≡ 0 → Indexing flags text bytes m n 0
unfolding map_in
index_starts {text} {bytes} {m} flags q z e =
    record {
      number = 1;
      others = events_or (read_sheet text bytes);
      rest = record { is = unfold read_sheet in q };
      indexed = z;
      count = omega (arith, e);
      is = rw e;
    }

module _ {flags : ℕ} {text bytes m : List ℕ} {n from : ℕ} (v : Indexing flags text bytes m n from) where
  pub index_ends : length bytes ≤ from → SheetIndexed flags text bytes m n
  unfolding map_over
  index_ends h = record { indexed = v.indexed; map = ap (λ (es : List Event). map_over flags es (map_in bytes m n)) (sym (rest_ends v.rest h)) ∙ v.is }

  module _ {r : Option ℕ} (l : LineAt bytes from r) where
    pub index_cut : {P : Type 0} → from < length bytes → r ≡ None → P
    index_cut h q = rest_ended v.rest l h q

    module _ {end : ℕ} (q : r ≡ Some end) where
      pub index_known : (is_some (parse_line (take (end - from) (drop from bytes))) ≡ true) × Without lf (take (end - from) (drop from bytes))
      index_known = lined_known v.rest l q

      pub index_room : n < 4096
      index_room = omega (arith, (lined v.rest l q).few, v.count)

      pub index_on : {m' : List ℕ} {n' : ℕ} → LineIndexed flags bytes (take (end - from) (drop from bytes)) m n m' n' → Indexing flags text bytes m' n' (end + 1)
      index_on {m'} {n'} x =
          let z = lined v.rest l q in
          record {
            number = v.number + 1;
            others = z.others;
            rest = z.rest;
            indexed = x.indexed;
            count = omega (arith, x.count, v.count);
            is = ap (λ (es : List MetaEntry). map_over flags z.others es) (x.map z.event z.parses)
                ∙ over_first z.event z.others (map_in bytes m n) ∙ ap (λ (es : List Event). map_over flags es (map_in bytes m n)) (sym z.is) ∙ v.is;
          }
        where
          over_first : (e : Event) (rest : List Event) (es : List MetaEntry) → map_over flags rest (map_on flags e es) ≡ map_over flags (e ∷ rest) es
          over_first e rest es = unfold map_over in refl
