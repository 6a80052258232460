-- The lines that the plain form changes read as they were meant: a line with REF added, a text line in a component's place.
use Prim.Native.Nat.{ℕ, ◌<◌}
use mathlib.Core.Path.{◌≡◌, refl, sym, ap, ◌∙◌, subst}
use mathlib.Core.List.{List, [], ◌∷◌, ◌++◌, append_assoc, append-nil}
use mathlib.Core.Bool.{Bool, true, false}
use Rattle.std.specs.Prelude.{Option, Some}
use native.Mathlib.Omega.{arith}
use Rattle.rules.specs.Basic.{codes, eq_list, when, on_some, each, word_in}
use Rattle.rules.specs.Utf8.{is_utf8, encode}
use Rattle.rules.specs.Sheet.{escape_char, escape}
use Rattle.rules.specs.Words.{EventWord, meta_word, section_word, start_word, end_word, text_word, ingredient_word, cookware_word, timer_word, error_word, warning_word, event_words, text_kind}
use Rattle.rules.specs.Event.{Span, Text, Modifiers, Component, Intermediate, ComponentEvent, ingredient_event, cookware_event, timer_event, start_event, end_event, text_event, component_event, Event, between, inside, component_span}
use Rattle.rules.specs.Read.{Fields, go_on, ◌>>=◌, give, saying, opt, field, no_more, read_span, content_of, read_content, read_text, word, read_component, read_intermediate, read_text_line, read_ingredient, read_cookware, read_after, read_event, parse_line}
use Rattle.rules.specs.Write.{opt_fields, span_fields, text_fields, quantity_fields, or_point, modifiers_field, named_fields, intermediate_fields, component_fields, event_fields}
use Rattle.rules.specs.Model.{with_ref}
use Rattle.rules.specs.Pass.{source_text}
use Rattle.rules.specs.Plain.{mark_ref, in_plain_text}
use Rattle.rules.proofs.Fields.{unescape_escape, escape_no_tab, escape_no_lf}
use Rattle.rules.proofs.Chars.{utf8_none, utf8_ascii}
use Rattle.rules.proofs.Scalars.{Scalars, chars_scalars}
use Rattle.rules.proofs.Encodes.{chars_encode, utf8_encode}
use Rattle.rules.proofs.Escaped.{utf8_escape}
use Rattle.rules.proofs.Given.{raw, raw_both, GoodField, Good, good_none, good_more, good_left, good_right, good_both, Back, after, given_back}
use Rattle.rules.proofs.Taken.{two_parts}
use Rattle.rules.proofs.TakenLine.{five, modifiers_fields, GoodComponent, component_back}
use Rattle.rules.proofs.TakenEvent.{GoodParts, word_field}
use Rattle.rules.proofs.Parsed.{parse_by, line_text}
use Rattle.rules.specs.Evaluate.{evaluate}

-- the event's line reads as the event
abbrev pub Readable : Event → Type 0
Readable e = parse_line (line_text e) ≡ Some e

word_reads : (w : EventWord) → word_in (escape (word_field w)) event_words ≡ Some w
unfolding word_in eq_list escape escape_char
word_reads meta_word = refl
word_reads section_word = refl
word_reads start_word = refl
word_reads end_word = refl
word_reads text_word = refl
word_reads ingredient_word = refl
word_reads cookware_word = refl
word_reads timer_word = refl
word_reads error_word = refl
word_reads warning_word = refl

-- a line by its word and the reader after it
line_reads : (w : EventWord) (fs : Fields) (e : Event) → Back (read_after w) fs e → read_event (escape (word_field w) ∷ fs) ≡ Some (e, [])
unfolding read_event word field saying ◌>>=◌ go_on no_more give
line_reads w fs e b = rw (word_reads w) (go (ap (read_after w) (sym (append-nil fs)) ∙ b.at []))
  where
    go : read_after w fs ≡ Some (e, []) → go_on (λ x. ◌>>=◌ no_more (λ u. give x)) (read_after w fs) ≡ Some (e, [])
    go q = rw q

-- ---- REF added to a component

marked_component_lem : (c : Component) → GoodComponent c → GoodComponent (mark_ref c)
unfolding mark_ref
marked_component_lem c h = record { place = h.place; named = h.named; aliased = h.aliased; amount = h.amount; noted = h.noted; marked = h.marked }

-- the modifiers' field among a component's fields
before : Component → Fields
before c = span_fields c.span ++ text_fields c.name ++ opt_fields text_fields c.alias ++ opt_fields quantity_fields c.quantity ++ opt_fields text_fields
    c.note

component_raw : (c : Component) → raw (named_fields c) ≡ raw (before c) ++ (raw (modifiers_fields c.modifiers) ++ raw (span_fields c.modifiers_span))
unfolding named_fields before each
component_raw c = simp (raw_both, append_assoc)

utf8_when : (b : Bool) (c : ℕ) (s : List ℕ) → c < 128 → is_utf8 (when b c ++ s) ≡ is_utf8 s
unfolding when
utf8_when true c s h = utf8_ascii c s h
utf8_when false c s h = refl

utf8_point : (s : List ℕ) → is_utf8 s ≡ true → is_utf8 (or_point s) ≡ true
unfolding or_point
utf8_point [] q = utf8_ascii 46 [] (omega arith) ∙ utf8_none
utf8_point (c ∷ s) q = q

modifiers_good : (m : Modifiers) → Good (raw (modifiers_fields m))
unfolding each
modifiers_good m =
    good_more (record { utf8 = utf8_escape (modifiers_field m) utf8; no_tab_lem = escape_no_tab (modifiers_field m); no_lf_lem = escape_no_lf (modifiers_field m) }) good_none
  where
    utf8 : is_utf8 (modifiers_field m) ≡ true
    utf8 =
        unfold modifiers_field in utf8_point _
        (ap is_utf8 (sym (five (when m.recipe 64) (when m.ref 38) (when m.hidden 45) (when m.opt 63) (when m.new 43) ∙ refl))
        ∙ utf8_when m.recipe 64 _ (omega arith) ∙ utf8_when m.ref 38 _ (omega arith) ∙ utf8_when m.hidden 45 _ (omega arith)
        ∙ utf8_when m.opt 63 _ (omega arith) ∙ ap is_utf8 (sym (append-nil (when m.new 43))) ∙ utf8_when m.new 43 [] (omega arith) ∙ utf8_none)

marked_good : (c : Component) → Good (raw (named_fields c)) → Good (raw (named_fields (mark_ref c)))
unfolding before mark_ref
marked_good c g =
    let h : Good (raw (before c) ++ (raw (modifiers_fields c.modifiers) ++ raw (span_fields c.modifiers_span))) = subst Good (component_raw c) g in
    let l : Good (raw (before c)) = good_left (raw (before c)) _ h in
    let r : Good (raw (span_fields c.modifiers_span)) = good_right (raw (modifiers_fields c.modifiers)) _ (good_right (raw (before c)) _ h) in
    subst Good (sym (component_raw (mark_ref c)))
    (good_both l (good_both (modifiers_good (with_ref c.modifiers)) r))

module _ (c : Component) where
  pub ingredient_marked : (i : Option Intermediate) → GoodParts (ingredient_event c i) → Good (raw (component_fields (ingredient_event c i)))
      → Readable (inside (component_event (ingredient_event (mark_ref c) i)))
  unfolding event_fields component_fields each read_after read_ingredient
  ingredient_marked i h (good_more w g) =
      parse_by _ (escape (codes "ingredient")) (raw (named_fields (mark_ref c) ++ opt_fields intermediate_fields i)) _ refl
      (good_more w (subst Good (sym (raw_both (named_fields (mark_ref c)) (opt_fields intermediate_fields i)))
      (good_both (marked_good c (good_left _ _ (subst Good (raw_both (named_fields c) (opt_fields intermediate_fields i)) g)))
      (good_right (raw (named_fields c)) _ (subst Good (raw_both (named_fields c) (opt_fields intermediate_fields i)) g)))))
      (line_reads ingredient_word _ _ back)
    where
      back : Back read_ingredient (raw (named_fields (mark_ref c) ++ opt_fields intermediate_fields i)) (inside (component_event (ingredient_event (mark_ref c) i)))
      back =
          subst (λ (p : Fields). Back read_ingredient p (inside (component_event (ingredient_event (mark_ref c) i))))
          (two_parts (named_fields (mark_ref c)) (opt_fields intermediate_fields i) refl refl)
          (unfold read_ingredient in
          after read_component _ _ _ (mark_ref c) (inside (component_event (ingredient_event (mark_ref c) i))) (component_back (mark_ref c) (marked_component_lem c h.0))
          (after (opt read_intermediate) _ _ _ i (inside (component_event (ingredient_event (mark_ref c) i))) h.1
          (given_back (inside (component_event (ingredient_event (mark_ref c) i))))))

  pub cookware_marked : GoodParts (cookware_event c) → Good (raw (component_fields (cookware_event c))) → Readable (inside (component_event (cookware_event (mark_ref c))))
  unfolding event_fields component_fields each read_after read_cookware
  cookware_marked h (good_more w g) =
      parse_by _ (escape (codes "cookware")) (raw (named_fields (mark_ref c))) _ refl (good_more w (marked_good c g)) (line_reads cookware_word _ _ back)
    where
      back : Back read_cookware (raw (named_fields (mark_ref c))) (inside (component_event (cookware_event (mark_ref c))))
      back =
          subst (λ (p : Fields). Back read_cookware p (inside (component_event (cookware_event (mark_ref c))))) (append-nil (raw (named_fields (mark_ref c))))
          (unfold read_cookware in
          after read_component _ _ _ (mark_ref c) (inside (component_event (cookware_event (mark_ref c)))) (component_back (mark_ref c) (marked_component_lem c h))
          (given_back (inside (component_event (cookware_event (mark_ref c))))))

-- ---- a text line of a component's span

content_back : (cs : List ℕ) → Scalars cs → Back read_content (raw (encode cs ∷ [])) cs
unfolding read_content field saying ◌>>=◌ go_on content_of on_some each
content_back cs h = record { at = λ rest. rw (unescape_escape (encode cs), chars_encode h) }

span_of : (c : ComponentEvent) → GoodParts c → Back read_span (raw (span_fields (component_span c))) (component_span c)
unfolding component_span
span_of (ingredient_event c i) h = h.0.place
span_of (cookware_event c) h = h.place
span_of (timer_event s n q) h = h

-- a component's fields start with its span
span_good : (c : ComponentEvent) → Good (raw (component_fields c)) → Good (raw (span_fields (component_span c)))
unfolding component_fields named_fields span_fields component_span each
span_good (ingredient_event c i) (good_more w (good_more a (good_more b g))) = good_more a (good_more b good_none)
span_good (cookware_event c) (good_more w (good_more a (good_more b g))) = good_more a (good_more b good_none)
span_good (timer_event s n q) (good_more w (good_more a (good_more b g))) = good_more a (good_more b good_none)

text_word_lem : GoodField (escape (codes "text"))
text_word_lem =
    record {
      utf8 = utf8_escape (codes "text") (utf8_ascii 116 _ (omega arith) ∙ utf8_ascii 101 _ (omega arith) ∙ utf8_ascii 120 _ (omega arith)
          ∙ utf8_ascii 116 _ (omega arith) ∙ utf8_none);
      no_tab_lem = escape_no_tab (codes "text");
      no_lf_lem = escape_no_lf (codes "text");
    }

pub text_readable : (s : Span) (cs : List ℕ) → Back read_span (raw (span_fields s)) s → Good (raw (span_fields s)) → Scalars cs
    → Readable (inside (text_event (record { span = s; content = cs })))
unfolding event_fields text_fields each read_after read_text_line
text_readable s cs b g h =
    parse_by _ (escape (codes "text")) (raw (span_fields s ++ (encode cs ∷ []))) _ refl
    (good_more text_word_lem
    (subst Good (sym (raw_both (span_fields s) (encode cs ∷ []))) (good_both g (good_more said good_none))))
    (line_reads text_word _ _ back)
  where
    said : GoodField (escape (encode cs))
    said = record { utf8 = utf8_escape (encode cs) (utf8_encode h); no_tab_lem = escape_no_tab (encode cs); no_lf_lem = escape_no_lf (encode cs) }

    t : Text
    t = record { span = s; content = cs }

    back : Back read_text_line (raw (span_fields s ++ (encode cs ∷ []))) (inside (text_event t))
    back =
        subst (λ (p : Fields). Back read_text_line p (inside (text_event t))) (append-nil _)
        (unfold read_text_line in after read_text _ _ [] t (inside (text_event t)) text_back (given_back (inside (text_event t))))
      where
        text_back : Back read_text (raw (span_fields s ++ (encode cs ∷ []))) t
        text_back =
            subst (λ (p : Fields). Back read_text p t) (two_parts (span_fields s) (encode cs ∷ []) refl refl)
            (unfold read_text in after read_span _ _ _ s t b (after read_content _ _ _ cs t (content_back cs h) (given_back t)))

pub source_readable : (text : List ℕ) (c : ComponentEvent) → GoodParts c → Good (raw (component_fields c)) → Readable (inside (in_plain_text text (component_event c)))
unfolding in_plain_text source_text
source_readable text c h g = text_readable (component_span c) _ (span_of c h) (span_good c g) (chars_scalars _)

-- ---- the two lines of a text block

pub start_readable : Readable (between (start_event text_kind))
unfolding evaluate
start_readable = refl

pub end_readable : Readable (inside (end_event text_kind))
unfolding evaluate
end_readable = refl
