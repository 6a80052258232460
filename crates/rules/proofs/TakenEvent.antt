-- A line's fields are what is written of its event: writing a line that was read gives its own bytes back.
use Prim.Native.Nat.{ℕ}
use mathlib.Core.Path.{◌≡◌, refl, sym, ap, ◌∙◌, subst}
use mathlib.Core.List.{List, [], ◌∷◌, ◌++◌, append_assoc, append-nil}
use mathlib.Core.Bool.{Bool, true, false}
use Rattle.std.specs.Prelude.{Option, None, Some}
use native.Mathlib.Omega.{arith}
use lib.Dec.{eqb}
use borrow.Author.Tests.{eqb-true}
use Rattle.rules.specs.Basic.{pick, codes, minus, when, each, decimal}
use Rattle.rules.specs.Sheet.{escape_char, escape, number_up_to, Signed, signed_as, signed_of}
use Rattle.rules.specs.Words.{EventWord, meta_word, section_word, start_word, end_word, text_word, ingredient_word, cookware_word, timer_word, error_word, warning_word, event_words, BlockKind, block_kinds, references, IntermediateTarget, targets, Severity, severe, mild}
use Rattle.rules.specs.Event.{Span, Text, Quantity, Intermediate, ComponentEvent, ingredient_event, cookware_event, timer_event, Inside, end_event, text_event, component_event, Event, between, inside, parser_event}
use Rattle.rules.specs.Read.{Fields, opt, read_number, read_span, read_text, word, read_quantity, read_component, read_signed, read_intermediate, read_meta, read_section, read_start, read_end, read_text_line, read_ingredient, read_cookware, read_timer, read_finding, read_after}
use Rattle.rules.specs.Write.{opt_fields, span_fields, text_fields, quantity_fields, named_fields, signed_field, target_field, intermediate_fields, block_kind_field, component_fields, event_fields}
use Rattle.rules.proofs.Basics.{pick_either, no_some, some_inj}
use Rattle.rules.proofs.Numbers.{decimal_number, escape_decimal}
use Rattle.rules.proofs.Given.{raw, raw_both, GoodField, Back, Gives, Writes, gives_bind, gives_give, gives_saying, WritesOpt, NotEmpty, gives_opt}
use Rattle.rules.proofs.Taken.{number_fields, gives_number, two_parts, gives_span, gives_text, gives_opt_text, gives_word, gives_opt_quantity}
use Rattle.rules.proofs.TakenLine.{GoodComponent, at_raw, TakenComponent, gives_component}

-- ---- intermediate references

minus_escape : (n : ℕ) → escape (minus ∷ decimal n) ≡ minus ∷ decimal n
unfolding escape escape_char
minus_escape n = ap (λ (l : List ℕ). minus ∷ l) (escape_decimal n)

signed_field_lem : (f : List ℕ) (v : Signed) → GoodField f → signed_of f ≡ Some v → f ≡ escape (signed_field v)
unfolding signed_of signed_as signed_field when
signed_field_lem [] v g q = no_some q
signed_field_lem (c ∷ s) v g q =
    pick_either P (eqb c minus) _ _ (λ b. below (eqb-true c 45 b) (number_up_to 32768 s) refl) (λ b. above (number_up_to 32767 (c ∷ s)) refl) q
  where
    P : Option Signed → Type 0
    P o = o ≡ Some v → (c ∷ s) ≡ escape (signed_field v)

    on : (x : Signed) → (c ∷ s) ≡ escape (signed_field x) → Some x ≡ Some v → (c ∷ s) ≡ escape (signed_field v)
    on x e q = subst (λ (y : Signed). (c ∷ s) ≡ escape (signed_field y)) (some_inj q) e

    above : (o : Option ℕ) → number_up_to 32767 (c ∷ s) ≡ o → P (signed_as false o)
    above None e q = no_some q
    above (Some n) e q = on (record { negative = false; size = n }) (sym (escape_decimal n ∙ decimal_number 32767 n (c ∷ s) (omega arith) e)) q

    below : c ≡ 45 → (o : Option ℕ) → number_up_to 32768 s ≡ o → P (signed_as true o)
    below z None e q = no_some q
    below z (Some n) e q =
        pick_either P (eqb n 0) _ _ (λ b q. no_some q)
        (λ b q. on (record { negative = true; size = n }) (let h : decimal n ≡ s = decimal_number 32768 n s (omega arith) e in sym (minus_escape n ∙ rw (h, z))) q) q

abbrev signed_fields : Signed → Fields
signed_fields v = signed_field v ∷ []

gives_signed : Gives read_signed (Writes signed_fields)
unfolding read_signed
gives_signed = gives_saying signed_of signed_field signed_field_lem

abbrev relative_field : Bool → List ℕ
relative_field b = pick b (codes "r") (codes "n")

abbrev relative_fields : Bool → Fields
relative_fields b = relative_field b ∷ []

abbrev target_fields : IntermediateTarget → Fields
target_fields t = target_field t ∷ []

gives_relative : Gives (word references) (Writes relative_fields)
gives_relative = gives_word relative_field references (unfold escape escape_char in (refl, (refl, tt)))

gives_target : Gives (word targets) (Writes target_fields)
gives_target = gives_word target_field targets (unfold escape escape_char target_field in (refl, (refl, tt)))

intermediate_parts : (i : Intermediate) {a b c d : Fields} → a ≡ raw (relative_fields i.relative) → b ≡ raw (target_fields i.target)
    → c ≡ raw (signed_fields i.value)
    → d ≡ raw (span_fields i.span) → (a ++ (b ++ (c ++ (d ++ [])))) ≡ raw (intermediate_fields i)
unfolding intermediate_fields each
intermediate_parts i ha hb hc hd = rw (ha, hb, hc, hd) (simp (raw_both, append-nil))

gives_intermediate : Gives read_intermediate (Writes intermediate_fields)
unfolding read_intermediate
gives_intermediate =
    gives_bind (word references) _ (Writes relative_fields) (Writes intermediate_fields) gives_relative
    (λ r p1 h1 b1 g1. gives_bind (word targets) _ (Writes target_fields) _ gives_target
    (λ t p2 h2 b2 g2. gives_bind read_signed _ (Writes signed_fields) _ gives_signed
    (λ v p3 h3 b3 g3. gives_bind read_span _ (Writes span_fields) _ gives_span
    (λ s p4 h4 b4 g4. gives_give _ _ (intermediate_parts _ h1 h2 h3 h4)))))

intermediate_some : (i : Intermediate) → NotEmpty (raw (intermediate_fields i))
unfolding intermediate_fields each
intermediate_some i = (_, _, refl)

gives_opt_intermediate : Gives (opt read_intermediate) (WritesOpt intermediate_fields)
gives_opt_intermediate = gives_opt read_intermediate intermediate_fields intermediate_some gives_intermediate

-- ---- events

-- what the plain form asks of a component's line: its parts read back
abbrev pub GoodParts : ComponentEvent → Type 0
GoodParts (ingredient_event c i) = GoodComponent c × Back (opt read_intermediate) (raw (opt_fields intermediate_fields i)) i
GoodParts (cookware_event c) = GoodComponent c
GoodParts (timer_event s n q) = Back read_span (raw (span_fields s)) s

abbrev pub GoodInside : Inside → Type 0
GoodInside (end_event k) = Unit {0}
GoodInside (text_event t) = Unit {0}
GoodInside (component_event c) = GoodParts c

abbrev pub GoodEvent : Event → Type 0
GoodEvent (between b) = Unit {0}
GoodEvent (inside i) = GoodInside i
GoodEvent (parser_event s n) = Unit {0}

-- an event, and what its reader took after the line's word
pub record TakenEvent (w : List ℕ) (e : Event) (p : Fields) : Type 0 where
  pub is : (escape w ∷ p) ≡ raw (event_fields e)
  pub good : GoodEvent e

same_tail : {p q : Fields} (w : List ℕ) → p ≡ q → (escape w ∷ p) ≡ (escape w ∷ q)
same_tail w q = ap (λ (l : Fields). escape w ∷ l) q

gives_meta : Gives read_meta (TakenEvent (codes "meta"))
unfolding read_meta event_fields each
gives_meta =
    gives_bind read_text _ (Writes text_fields) (TakenEvent (codes "meta")) gives_text
    (λ k p hp bp gp. gives_bind read_text _ (Writes text_fields) _ gives_text
    (λ v r hr br gr. gives_give _ _ (record { is = same_tail (codes "meta") (two_parts (text_fields k) (text_fields v) hp hr); good = tt })))

one_part : {p : Fields} (x : Fields) → p ≡ raw x → (p ++ []) ≡ raw x
one_part {p} x h = append-nil p ∙ h

gives_section : Gives read_section (TakenEvent (codes "section"))
unfolding read_section event_fields each
gives_section =
    gives_bind (opt read_text) _ (WritesOpt text_fields) (TakenEvent (codes "section")) gives_opt_text
    (λ n p hp bp gp. gives_give _ _ (record { is = same_tail (codes "section") (one_part (opt_fields text_fields n) hp); good = tt }))

abbrev block_fields : BlockKind → Fields
block_fields k = block_kind_field k ∷ []

gives_block : Gives (word block_kinds) (Writes block_fields)
gives_block = gives_word block_kind_field block_kinds (unfold escape escape_char block_kind_field in (refl, (refl, tt)))

gives_start : Gives read_start (TakenEvent (codes "start"))
unfolding read_start event_fields each
gives_start =
    gives_bind (word block_kinds) _ (Writes block_fields) (TakenEvent (codes "start")) gives_block
    (λ k p hp bp gp. gives_give _ _ (record { is = same_tail (codes "start") (one_part (block_fields k) hp); good = tt }))

gives_end : Gives read_end (TakenEvent (codes "end"))
unfolding read_end event_fields each
gives_end =
    gives_bind (word block_kinds) _ (Writes block_fields) (TakenEvent (codes "end")) gives_block
    (λ k p hp bp gp. gives_give _ _ (record { is = same_tail (codes "end") (one_part (block_fields k) hp); good = tt }))

gives_line : Gives read_text_line (TakenEvent (codes "text"))
unfolding read_text_line event_fields each
gives_line =
    gives_bind read_text _ (Writes text_fields) (TakenEvent (codes "text")) gives_text
    (λ t p hp bp gp. gives_give _ _ (record { is = same_tail (codes "text") (one_part (text_fields t) hp); good = tt }))

gives_ingredient : Gives read_ingredient (TakenEvent (codes "ingredient"))
unfolding read_ingredient event_fields component_fields each
gives_ingredient =
    gives_bind read_component _ TakenComponent (TakenEvent (codes "ingredient")) gives_component
    (λ c p hp bp gp. gives_bind (opt read_intermediate) _ (WritesOpt intermediate_fields) _ gives_opt_intermediate
    (λ i r hr br gr. gives_give _ _ (record {
      is = same_tail (codes "ingredient") (two_parts (named_fields c) (opt_fields intermediate_fields i) hp.is hr);
      good = (hp.good, at_raw (opt_fields intermediate_fields i) hr br);
    })))

gives_cookware : Gives read_cookware (TakenEvent (codes "cookware"))
unfolding read_cookware event_fields component_fields each
gives_cookware =
    gives_bind read_component _ TakenComponent (TakenEvent (codes "cookware")) gives_component
    (λ c p hp bp gp. gives_give _ _ (record { is = same_tail (codes "cookware") (one_part (named_fields c) hp.is); good = hp.good }))

timer_parts : (s : Span) (n : Option Text) (q : Option Quantity) {a b c : Fields} → a ≡ raw (span_fields s) → b ≡ raw (opt_fields text_fields n)
    → c ≡ raw (opt_fields quantity_fields q)
    → (a ++ (b ++ (c ++ []))) ≡ raw (span_fields s ++ opt_fields text_fields n ++ opt_fields quantity_fields q)
timer_parts s n q ha hb hc = rw (ha, hb, hc) (simp (raw_both, append_assoc, append-nil))

gives_timer : Gives read_timer (TakenEvent (codes "timer"))
unfolding read_timer event_fields component_fields each
gives_timer =
    gives_bind read_span _ (Writes span_fields) (TakenEvent (codes "timer")) gives_span
    (λ s p1 h1 b1 g1. gives_bind (opt read_text) _ (WritesOpt text_fields) _ gives_opt_text
    (λ n p2 h2 b2 g2. gives_bind (opt read_quantity) _ (WritesOpt quantity_fields) _ gives_opt_quantity
    (λ q p3 h3 b3 g3. gives_give _ _ (record { is = same_tail (codes "timer") (timer_parts s n q h1 h2 h3); good = at_raw (span_fields s) h1 b1 }))))

severity_field : Severity → List ℕ
severity_field severe = codes "error"
severity_field mild = codes "warning"

finding_fields : (s : Severity) (n : ℕ) → event_fields (parser_event s n) ≡ severity_field s ∷ number_fields n
unfolding event_fields severity_field
finding_fields severe n = refl
finding_fields mild n = refl

gives_finding : (s : Severity) → Gives (read_finding s) (TakenEvent (severity_field s))
unfolding read_finding each
gives_finding s =
    gives_bind read_number _ (Writes number_fields) (TakenEvent (severity_field s)) gives_number
    (λ n p hp bp gp. gives_give _ _ (record { is = same_tail (severity_field s) (one_part (number_fields n) hp) ∙ ap raw (sym (finding_fields s n)); good = tt }))

-- ---- after the line's word

abbrev pub word_field : EventWord → List ℕ
word_field meta_word = codes "meta"
word_field section_word = codes "section"
word_field start_word = codes "start"
word_field end_word = codes "end"
word_field text_word = codes "text"
word_field ingredient_word = codes "ingredient"
word_field cookware_word = codes "cookware"
word_field timer_word = codes "timer"
word_field error_word = codes "error"
word_field warning_word = codes "warning"

abbrev pub word_fields : EventWord → Fields
word_fields w = word_field w ∷ []

pub gives_event_word : Gives (word event_words) (Writes word_fields)
gives_event_word =
    gives_word word_field event_words
    (unfold escape escape_char in (refl, (refl, (refl, (refl, (refl, (refl, (refl, (refl, (refl, (refl, tt)))))))))))

pub gives_after : (w : EventWord) → Gives (read_after w) (TakenEvent (word_field w))
unfolding read_after severity_field
gives_after meta_word = gives_meta
gives_after section_word = gives_section
gives_after start_word = gives_start
gives_after end_word = gives_end
gives_after text_word = gives_line
gives_after ingredient_word = gives_ingredient
gives_after cookware_word = gives_cookware
gives_after timer_word = gives_timer
gives_after error_word = gives_finding severe
gives_after warning_word = gives_finding mild
