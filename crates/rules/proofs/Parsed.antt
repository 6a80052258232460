-- Writing a line that was read gives its own bytes back; and the lines that the plain form changes read as they were meant.
use Prim.Native.Nat.{ℕ}
use mathlib.Core.Path.{◌≡◌, refl, sym, ap, ◌∙◌, subst}
use mathlib.Core.List.{List, [], ◌∷◌, ◌++◌, append-nil}
use mathlib.Core.Bool.{Bool, true, false, ◌&&◌}
use Rattle.std.specs.Prelude.{Option, None, Some}
use native.Mathlib.Omega.{arith}
use Rattle.rules.specs.Basic.{pick, tab, lf, each, split_at, join_by}
use Rattle.rules.specs.Utf8.{is_utf8}
use Rattle.rules.specs.Sheet.{fields_of, escape, line_of, Without, without_more}
use Rattle.rules.specs.Words.{EventWord, event_words}
use Rattle.rules.specs.Event.{Event}
use Rattle.rules.specs.Read.{Fields, go_on, ◌>>=◌, give, no_more, word, read_after, read_event, first_read, parse_line}
use Rattle.rules.specs.Write.{event_fields, write_line}
use Rattle.rules.proofs.Basics.{no_some, some_inj, and_left, and_right, and_both}
use Rattle.rules.proofs.Fields.{without_left, without_right, AllWithout, all_none, all_more, split_join, join_split, split_without}
use Rattle.rules.proofs.Chars.{utf8_split}
use Rattle.rules.proofs.Given.{raw, Good, good_none, good_more, good_right, Gave, Writes}
use Rattle.rules.proofs.TakenEvent.{GoodEvent, TakenEvent, word_field, word_fields, gives_event_word, gives_after}

-- ---- the fields of a line, and the line of some fields

join_good : (fs : Fields) → AllWithout tab fs → is_utf8 (join_by tab fs) ≡ true → Without lf (join_by tab fs) → Good fs
unfolding join_by
join_good [] t u n = good_none
join_good (f ∷ []) (all_more t all_none) u n = good_more (record { utf8 = u; no_tab_lem = t; no_lf_lem = n }) good_none
join_good (f ∷ g ∷ fs) (all_more t all) u n =
    let s : (is_utf8 f && is_utf8 (join_by tab (g ∷ fs))) ≡ true = sym (utf8_split f (join_by tab (g ∷ fs)) tab (omega arith)) ∙ u in
    good_more (record { utf8 = and_left _ _ s; no_tab_lem = t; no_lf_lem = without_left f _ n })
    (join_good (g ∷ fs) all (and_right (is_utf8 f) _ s) (tail (without_right f (tab ∷ join_by tab (g ∷ fs)) n)))
  where
    tail : {c : ℕ} {l : List ℕ} → Without lf (c ∷ l) → Without lf l
    tail (without_more q h) = h

split_good : (l : List ℕ) → is_utf8 l ≡ true → Without lf l → Good (split_at tab l)
split_good l u n =
    join_good (split_at tab l) (split_without tab l) (ap is_utf8 (join_split l) ∙ u) (subst (Without lf) (sym (join_split l)) n)

good_utf8 : {f : List ℕ} {fs : Fields} → Good (f ∷ fs) → is_utf8 (join_by tab (f ∷ fs)) ≡ true
unfolding join_by
good_utf8 (good_more h good_none) = h.utf8
good_utf8 {f} (good_more h (good_more {f = g} {fs = fs} k s)) =
    utf8_split f (join_by tab (g ∷ fs)) tab (omega arith) ∙ and_both _ _ h.utf8 (good_utf8 (good_more k s))

good_tabs : {fs : Fields} → Good fs → AllWithout tab fs
good_tabs good_none = all_none
good_tabs (good_more h s) = all_more h.no_tab_lem (good_tabs s)

pub parse_by : (fs : Fields) (f : List ℕ) (gs : Fields) (e : Event) → fs ≡ f ∷ gs → Good fs → read_event fs ≡ Some (e, []) → parse_line (join_by tab fs) ≡ Some e
parse_by fs f gs e z g q = subst (λ (x : Fields). parse_line (join_by tab x) ≡ Some e) (sym z) (by (subst Good z g) (rw z at q))
  where
    by : Good (f ∷ gs) → read_event (f ∷ gs) ≡ Some (e, []) → parse_line (join_by tab (f ∷ gs)) ≡ Some e
    by g q = unfold parse_line first_read in rw (good_utf8 g, split_join (good_tabs g), q)

-- ---- the whole line

-- the line of an event without its LF
abbrev pub line_text : Event → List ℕ
line_text e = join_by tab (raw (event_fields e))

-- what a line that reads as an event is
pub record Parsed (l : List ℕ) (e : Event) : Type 0 where
  pub fields : split_at tab l ≡ raw (event_fields e)
  pub parts : GoodEvent e
  pub good : Good (raw (event_fields e))

fields_taken : (fs : Fields) (e : Event) (rest : Fields) → Good fs → read_event fs ≡ Some (e, rest) → (fs ≡ raw (event_fields e)) × GoodEvent e
unfolding read_event ◌>>=◌ go_on
fields_taken fs e rest g q = by_word (word event_words fs) refl q
  where
    W : Type 0
    W = (fs ≡ raw (event_fields e)) × GoodEvent e

    Done : EventWord → Event → Option ((Unit {0}) × Fields) → Type 0
    Done w x o = go_on (λ u. give x) o ≡ Some (e, rest) → W

    by_end : (w : EventWord) (x : Event) (p gs hs : Fields) → fs ≡ raw (word_fields w) ++ gs → gs ≡ p ++ hs → TakenEvent (word_field w) x p
        → go_on (λ u. give x) (no_more hs) ≡ Some (e, rest) → W
    by_end w x p gs (y ∷ hs) z k t q = unfold no_more in no_some q
    by_end w x p gs [] z k t q =
        let m : x ≡ e = unfold no_more give in ap (λ (o : Event × Fields). o.0) (some_inj q) in
        let n : fs ≡ raw (event_fields x) = unfold each in (z ∙ ap (λ (l : Fields). escape (word_field w) ∷ l) (k ∙ append-nil p) ∙ t.is) in
        subst (λ (y : Event). (fs ≡ raw (event_fields y)) × GoodEvent y) m (n, t.good)

    by_after : (w : EventWord) (gs : Fields) → fs ≡ raw (word_fields w) ++ gs → Good gs → (o : Option (Event × Fields)) → read_after w gs ≡ o
        → go_on (λ x. ◌>>=◌ no_more (λ u. give x)) o ≡ Some (e, rest) → W
    by_after w gs z g None k q = no_some q
    by_after w gs z g (Some x) k q =
        let t : Gave (read_after w) (TakenEvent (word_field w)) gs x.0 x.1 = gives_after w gs x.0 x.1 k g in
        by_end w x.0 t.taken gs x.1 z t.is t.says q

    by_word : (o : Option (EventWord × Fields)) → word event_words fs ≡ o → go_on (λ w. ◌>>=◌ (read_after w) (λ x. ◌>>=◌ no_more (λ u. give x))) o ≡ Some (e, rest) → W
    by_word None k q = no_some q
    by_word (Some x) k q =
        let t : Gave (word event_words) (Writes word_fields) fs x.0 x.1 = gives_event_word fs x.0 x.1 k g in
        let z : fs ≡ raw (word_fields x.0) ++ x.1 = t.is ∙ ap (λ (l : Fields). l ++ x.1) t.says in
        by_after x.0 x.1 z (good_right (raw (word_fields x.0)) x.1 (subst Good z g)) (read_after x.0 x.1) refl q

pub parse_taken : (l : List ℕ) (e : Event) → Without lf l → parse_line l ≡ Some e → Parsed l e
unfolding parse_line first_read fields_of
parse_taken l e n q = by_utf8 (is_utf8 l) refl q
  where
    by_read : is_utf8 l ≡ true → (o : Option (Event × Fields)) → read_event (split_at tab l) ≡ o → first_read o ≡ Some e → Parsed l e
    by_read u None k q = no_some q
    by_read u (Some x) k q =
        let g : Good (split_at tab l) = split_good l u n in
        let t = fields_taken (split_at tab l) x.0 x.1 g k in
        subst (Parsed l) (some_inj q) (record { fields = t.0; parts = t.1; good = subst Good t.0 g })

    by_utf8 : (b : Bool) → is_utf8 l ≡ b → pick b (first_read (read_event (split_at tab l))) None ≡ Some e → Parsed l e
    by_utf8 true u q = by_read u (read_event (split_at tab l)) refl q
    by_utf8 false u q = no_some q

pub line_text_lem : (l : List ℕ) (e : Event) → Without lf l → parse_line l ≡ Some e → line_text e ≡ l
line_text_lem l e n q = ap (join_by tab) (sym (parse_taken l e n q).fields) ∙ join_split l

-- writing a read line gives its own bytes back
pub parse_writes : (l : List ℕ) (e : Event) → Without lf l → parse_line l ≡ Some e → write_line e ≡ l ++ (lf ∷ [])
unfolding write_line line_of
parse_writes l e n q = ap (λ (x : List ℕ). x ++ (lf ∷ [])) (line_text_lem l e n q)

-- reading a written line gives the event back
pub parse_written : (l : List ℕ) (e : Event) → Without lf l → parse_line l ≡ Some e → parse_line (line_text e) ≡ Some e
parse_written l e n q = ap parse_line (line_text_lem l e n q) ∙ q
