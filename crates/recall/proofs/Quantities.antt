-- The quantity of a line that is an ingredient, by the readers up to it.
use Prim.Native.Nat.{ℕ, ◌+◌}
use mathlib.Core.Path.{◌≡◌, refl, ap, sym, ◌∙◌}
use mathlib.Core.Bool.{Bool, true, false}
use mathlib.Core.List.{List, [], ◌∷◌}
use Rattle.std.specs.Prelude.{Option, None, Some}
use native.Mathlib.Omega.{arith}
use borrow.Author.Tests.{le-leb}
use lib.ListN.{length}
use Rattle.rules.specs.Basic.{pick, codes, eq_list, word_in}
use Rattle.rules.specs.Utf8.{is_utf8}
use Rattle.rules.specs.Sheet.{fields_of}
use Rattle.rules.specs.Words.{EventWord, event_words, severe, mild, block_kinds, meta_word, section_word, start_word, end_word, text_word, ingredient_word, cookware_word, timer_word, error_word, warning_word}
use Rattle.rules.specs.Event.{Span, Text, Quantity, Modifiers, Component, Intermediate, Event, meta_event, section_event, start_event, end_event, text_event, component_event, ingredient_event, cookware_event, timer_event, between, inside, parser_event}
use Rattle.rules.specs.Read.{Fields, Reader, go_on, ◌>>=◌, give, saying, opt, field, word, no_more, read_number, read_span, read_text, read_quantity, read_modifiers, read_component, read_intermediate, read_meta, read_section, read_start, read_end, read_text_line, read_ingredient, read_cookware, read_timer, read_finding, read_after, read_event, first_read, parse_line}
use Rattle.rules.specs.Model.{ingredient}
use Rattle.rules.proofs.Basics.{no_some, some_inj, no_truth}
use Rattle.rules.proofs.Given.{eq_list_true}
use Rattle.sheet.specs.Lines.{fields_from, field_at}
use Rattle.parts.specs.Views.{opt_quantity_in, OptQuantityWithin}
use Rattle.parts.proofs.Leaves.{field_here}
use Rattle.model.specs.Rows.{component_in, component_inside, component_as, component_of_line}
use Rattle.model.specs.Fits.{is_of_kind, is_inside_of, is_component_of}
use Rattle.recall.specs.Recalls.{QuantityRecalled}
use Rattle.parts.specs.declared.QuantityView.{QuantityView}

-- ---- the word of a line that is an ingredient

abbrev at_end : Event → Reader Event
at_end e = no_more >>= (λ (u : Unit {0}). give e)

-- what was read after the word, with nothing after it, is an ingredient
abbrev IsOne : Option (Event × Fields) → Type 0
IsOne x = is_of_kind ingredient (first_read (go_on at_end x)) ≡ true

bind : {A P : Type 0} (f : A → Reader Event) (o : Option (A × Fields)) → ((a : A) (gs : Fields) → IsOne (f a gs) → P) → IsOne (go_on f o) → P
unfolding go_on first_read is_of_kind
bind f None g h = no_truth h
bind f (Some r) g h = g r.0 r.1 h

at_end_lem : (e : Event) (gs : Fields) → is_of_kind ingredient (first_read (at_end e gs)) ≡ true → first_read (at_end e gs) ≡ Some e
unfolding ◌>>=◌ go_on no_more give first_read is_of_kind
at_end_lem e [] h = refl
at_end_lem e (f ∷ gs) h = no_truth h

ended : (e : Event) (gs : Fields) → IsOne (give e gs) → first_read (go_on at_end (give e gs)) ≡ Some e
unfolding go_on give
ended e gs h = at_end_lem e gs h

other : {P : Type 0} (e : Event) (gs : Fields) → is_of_kind ingredient (Some e) ≡ false → IsOne (give e gs) → P
other e gs q h = no_truth (sym q ∙ (rw (ended e gs h) at h))

after_word_lem : (w : EventWord) (gs : Fields) → IsOne (read_after w gs) → w ≡ ingredient_word
unfolding read_after read_meta read_section read_start read_end read_text_line read_cookware read_timer read_finding ◌>>=◌ is_of_kind is_inside_of is_component_of
after_word_lem meta_word gs h = bind _ (read_text gs) (λ k hs p. bind _ (read_text hs) (λ v is q. other (between (meta_event k v)) is refl q) p) h
after_word_lem section_word gs h = bind _ (opt read_text gs) (λ n hs p. other (between (section_event n)) hs refl p) h
after_word_lem start_word gs h = bind _ (word block_kinds gs) (λ k hs p. other (between (start_event k)) hs refl p) h
after_word_lem end_word gs h = bind _ (word block_kinds gs) (λ k hs p. other (inside (end_event k)) hs refl p) h
after_word_lem text_word gs h = bind _ (read_text gs) (λ t hs p. other (inside (text_event t)) hs refl p) h
after_word_lem ingredient_word gs h = refl
after_word_lem cookware_word gs h = bind _ (read_component gs) (λ c hs p. other (inside (component_event (cookware_event c))) hs refl p) h
after_word_lem timer_word gs h =
    bind _ (read_span gs) (λ s hs p. bind _ (opt read_text hs) (λ n is q. bind _ (opt read_quantity is) (λ x js r. other (inside (component_event (timer_event s n x))) js refl r) q) p) h
after_word_lem error_word gs h = bind _ (read_number gs) (λ n hs p. other (parser_event severe n) hs refl p) h
after_word_lem warning_word gs h = bind _ (read_number gs) (λ n hs p. other (parser_event mild n) hs refl p) h

abbrev after_first : Option EventWord → Fields → Option (Event × Fields)
after_first o gs = go_on (λ (w : EventWord). read_after w >>= at_end) (saying o gs)

first_word : (o : Option EventWord) (gs : Fields) → is_of_kind ingredient (first_read (after_first o gs)) ≡ true → o ≡ Some ingredient_word
unfolding go_on saying first_read is_of_kind ◌>>=◌
first_word None gs h = no_truth h
first_word (Some w) gs h = ap (λ (x : EventWord). Some x) (after_word_lem w gs h)

event_first : (f : List ℕ) (gs : Fields) → read_event (f ∷ gs) ≡ after_first (word_in f event_words) gs
unfolding read_event word field ◌>>=◌ go_on
event_first f gs = refl

-- no other word of the table stands for it

told_word : (a b c d e f g h i j : Bool)
    → pick a (Some meta_word) (pick b (Some section_word) (pick c (Some start_word) (pick d (Some end_word) (pick e (Some text_word) (pick f (Some ingredient_word) (pick g (Some cookware_word) (pick h (Some timer_word) (pick i (Some error_word) (pick j (Some warning_word) None))))))))) ≡ Some ingredient_word
    → f ≡ true
told_word true b c d e f g h i j q = absurd (let z : ◌≡◌ {A = ℕ} 0 1 = cc in omega arith)
told_word false true c d e f g h i j q = absurd (let z : ◌≡◌ {A = ℕ} 0 1 = cc in omega arith)
told_word false false true d e f g h i j q = absurd (let z : ◌≡◌ {A = ℕ} 0 1 = cc in omega arith)
told_word false false false true e f g h i j q = absurd (let z : ◌≡◌ {A = ℕ} 0 1 = cc in omega arith)
told_word false false false false true f g h i j q = absurd (let z : ◌≡◌ {A = ℕ} 0 1 = cc in omega arith)
told_word false false false false false true g h i j q = refl
told_word false false false false false false true h i j q = absurd (let z : ◌≡◌ {A = ℕ} 0 1 = cc in omega arith)
told_word false false false false false false false true i j q = absurd (let z : ◌≡◌ {A = ℕ} 0 1 = cc in omega arith)
told_word false false false false false false false false true j q = absurd (let z : ◌≡◌ {A = ℕ} 0 1 = cc in omega arith)
told_word false false false false false false false false false true q = absurd (let z : ◌≡◌ {A = ℕ} 0 1 = cc in omega arith)
told_word false false false false false false false false false false q = no_some q

word_is : (f : List ℕ) → word_in f event_words ≡ Some ingredient_word → f ≡ codes "ingredient"
unfolding word_in
word_is f q =
    eq_list_true f (codes "ingredient")
    (told_word (eq_list f (codes "meta")) (eq_list f (codes "section")) (eq_list f (codes "start")) (eq_list f (codes "end")) (eq_list f (codes "text")) (eq_list f (codes "ingredient")) (eq_list f (codes "cookware")) (eq_list f (codes "timer")) (eq_list f (codes "error")) (eq_list f (codes "warning")) q)

-- ---- the component after it

pub record Got (gs : Fields) (e : Option Event) : Type 0 where
  pub component : Component
  pub rest : Fields
  pub is_read : read_component gs ≡ Some (component, rest)
  pub is_event : component_in ingredient e ≡ component

one_ended : (gs : Fields) (c : Component) (hs : Fields) → read_component gs ≡ Some (c, hs) → (o : Option (Option Intermediate × Fields))
    → IsOne (go_on (λ (i : Option Intermediate). give (inside (component_event (ingredient_event c i)))) o)
    → Got gs (first_read (go_on at_end (go_on (λ (i : Option Intermediate). give (inside (component_event (ingredient_event c i)))) o)))
unfolding go_on first_read is_of_kind component_in component_inside component_as
one_ended gs c hs q None h = no_truth h
one_ended gs c hs q (Some r) h = record { component = c; rest = hs; is_read = q; is_event = ap (component_in ingredient) (ended (inside (component_event (ingredient_event c r.0))) r.1 h) }

abbrev after_component : Component → Reader Event
after_component c = opt read_intermediate >>= (λ (i : Option Intermediate). give (inside (component_event (ingredient_event c i))))

one_read : (gs : Fields) (o : Option (Component × Fields)) → read_component gs ≡ o → IsOne (go_on after_component o) → Got gs (first_read (go_on at_end (go_on after_component o)))
unfolding go_on first_read is_of_kind ◌>>=◌
one_read gs None q h = no_truth h
one_read gs (Some r) q h = one_ended gs r.0 r.1 q (opt read_intermediate r.1) h

got_one_lem : (gs : Fields) → IsOne (read_ingredient gs) → Got gs (first_read (go_on at_end (read_ingredient gs)))
unfolding read_ingredient ◌>>=◌
got_one_lem gs h = one_read gs (read_component gs) refl h

-- ---- a component whose quantity was read

module _ (s : Span) (n : Text) (a : Option Text) (q : Option Quantity) where
  abbrev as_read : Option Text → Modifiers → Span → Component
  as_read t m ms = record { span = s; name = n; alias = a; quantity = q; note = t; modifiers = m; modifiers_span = ms }

  abbrev pub after_quantity : Reader Component
  after_quantity = opt read_text >>= (λ (t : Option Text). read_modifiers >>= (λ (m : Modifiers). read_span >>= (λ (ms : Span). give (as_read t m ms))))

  module _ {c : Component} {rest : Fields} where
    span_last : (t : Option Text) (m : Modifiers) (o : Option (Span × Fields)) → go_on (λ (ms : Span). give (as_read t m ms)) o ≡ Some (c, rest) → c.quantity ≡ q
    unfolding go_on give
    span_last t m None k = no_some k
    span_last t m (Some r) k = sym (ap (λ (p : Component × Fields). p.0.quantity) (some_inj k))

    modifiers_last : (t : Option Text) (o : Option (Modifiers × Fields)) → go_on (λ (m : Modifiers). read_span >>= (λ (ms : Span). give (as_read t m ms))) o ≡ Some (c, rest) → c.quantity ≡ q
    unfolding go_on ◌>>=◌
    modifiers_last t None k = no_some k
    modifiers_last t (Some r) k = span_last t r.0 (read_span r.1) k

    note_last : (o : Option (Option Text × Fields)) → go_on (λ (t : Option Text). read_modifiers >>= (λ (m : Modifiers). read_span >>= (λ (ms : Span). give (as_read t m ms)))) o ≡ Some (c, rest) → c.quantity ≡ q
    unfolding go_on ◌>>=◌
    note_last None k = no_some k
    note_last (Some r) k = modifiers_last r.0 (read_modifiers r.1) k

    pub quantity_of : (fs : Fields) → after_quantity fs ≡ Some (c, rest) → c.quantity ≡ q
    unfolding ◌>>=◌
    quantity_of fs k = note_last (opt read_text fs) k

-- ---- the whole line

line_fields : (line : List ℕ) → fields_of line ≡ field_at line 0 ∷ fields_from line (0 + length (field_at line 0) + 1)
unfolding fields_from
line_fields line = sym (rw (le-leb 0 (length line) (omega arith)) refl) ∙ field_here line 0 (omega arith) refl

utf8_one : (t : Bool) (o : Option Event) → is_of_kind ingredient (pick t o None) ≡ true → pick t o None ≡ o
unfolding is_of_kind
utf8_one true o e = refl
utf8_one false o e = no_truth e

module _ (line : List ℕ) (h : is_of_kind ingredient (parse_line line) ≡ true) where
  line_read : parse_line line ≡ first_read (after_first (word_in (field_at line 0) event_words) (fields_from line (0 + length (field_at line 0) + 1)))
  unfolding parse_line
  line_read = utf8_one (is_utf8 line) (first_read (read_event (fields_of line))) h ∙ ap first_read (ap read_event (line_fields line) ∙ event_first (field_at line 0) _)

  line_word : word_in (field_at line 0) event_words ≡ Some ingredient_word
  line_word = first_word _ _ (rw line_read at h)

  line_one : parse_line line ≡ first_read (go_on at_end (read_ingredient (fields_from line 11)))
  unfolding go_on saying read_after ◌>>=◌
  line_one = let w = word_is (field_at line 0) line_word in line_read ∙ rw (line_word, w)

  pub line_got : Got (fields_from line 11) (parse_line line)
  line_got = rw line_one (got_one_lem (fields_from line 11) (rw line_one at h))

  -- it is read
  pub not_ill : {P : Type 0} → read_component (fields_from line 11) ≡ None → P
  not_ill e = no_some (sym e ∙ line_got.is_read)

  -- what is read up to the quantity tells it
  pub quantity_got_lem : (s : Span) (n : Text) (a : Option Text) {q : Option QuantityView} (fs : Fields) → read_component (fields_from line 11) ≡ after_quantity s n a (opt_quantity_in line q) fs → OptQuantityWithin line q → QuantityRecalled line q
  unfolding component_of_line
  quantity_got_lem s n a {q} fs e w =
      record {
        is = sym (ap (λ (c : Component). c.quantity) line_got.is_event ∙ quantity_of s n a (opt_quantity_in line q) fs (sym e ∙ line_got.is_read));
        within = w;
      }
