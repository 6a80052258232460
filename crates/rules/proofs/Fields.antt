-- Escapes, fields and lines: what is written reads back, and what was read writes back.
use Prim.Native.Nat.{ℕ, ◌<◌}
use mathlib.Core.Path.{◌≡◌, refl, sym, ap, ◌∙◌}
use mathlib.Core.List.{List, [], ◌∷◌, ◌++◌, append_assoc}
use mathlib.Core.Bool.{true, false}
use Rattle.std.specs.Prelude.{Option, None, Some}
use lib.Dec.{eqb}
use native.Mathlib.Omega.{arith}
use borrow.Author.Tests.{eqb-true, ne_eqb}
use Rattle.rules.specs.Basic.{tab, lf, cr, backslash, on_first, split_at, join_by, each}
use Rattle.rules.specs.Sheet.{Without, without_none, without_more, Lines, last, more, on_line, lines, fields_of, escaped, bare, onto, unescape, escape_char, escape, line_of}
use Rattle.rules.proofs.Basics.{pick_either, no_some, some_inj}

pub without_both : {b : ℕ} {s t : List ℕ} → Without b s → Without b t → Without b (s ++ t)
without_both without_none h = h
without_both (without_more q g) h = without_more q (without_both g h)

pub without_left : {b : ℕ} (s t : List ℕ) → Without b (s ++ t) → Without b s
without_left [] t h = without_none
without_left (c ∷ s) t (without_more q h) = without_more q (without_left s t h)

pub without_right : {b : ℕ} (s t : List ℕ) → Without b (s ++ t) → Without b t
without_right [] t h = h
without_right (c ∷ s) t (without_more q h) = without_right s t h

-- no b in any of these
pub data AllWithout (b : ℕ) : List (List ℕ) → Type 0 where
  all_none : AllWithout b []
  all_more : {f : List ℕ} {fs : List (List ℕ)} → Without b f → AllWithout b fs → AllWithout b (f ∷ fs)

-- ---- escapes

-- a byte that stands for itself is no CR
pub record Itself (c x : ℕ) : Type 0 where
  pub is : c ≡ x
  pub no_cr : eqb c cr ≡ false

pub bare_is : (c x : ℕ) → bare c ≡ Some x → Itself c x
unfolding bare
bare_is c x =
    pick_either (λ (o : Option ℕ). o ≡ Some x → Itself c x) (eqb c cr) _ _ (λ b e. no_some e) (λ n e. record { is = some_inj e; no_cr = n })

pub bare_itself : (c : ℕ) → eqb c cr ≡ false → bare c ≡ Some c
unfolding bare
bare_itself c q = rw q

pub bare_cr : (c : ℕ) → eqb c cr ≡ true → bare c ≡ None
unfolding bare
bare_cr c q = rw q

pub unescape_one : (c : ℕ) (t : List ℕ) → eqb c backslash ≡ false → unescape (c ∷ t) ≡ onto (bare c) (unescape t)
unfolding unescape
unescape_one c [] q = rw q
unescape_one c (d ∷ t) q = rw q

-- by cases: how a byte is spelled, and what a letter after a backslash stands for
pub escape_cases : (P : List ℕ → Type 0) (c : ℕ) → (c ≡ 92 → P (92 ∷ 92 ∷ [])) → (c ≡ 9 → P (92 ∷ 116 ∷ [])) → (c ≡ 10 → P (92 ∷ 110 ∷ [])) → (c ≡ 13 → P (92 ∷ 114 ∷ []))
    → (eqb c 92 ≡ false → eqb c 9 ≡ false → eqb c 10 ≡ false → eqb c 13 ≡ false → P (c ∷ [])) → P (escape_char c)
unfolding escape_char
escape_cases P c s t n r other =
    pick_either P (eqb c 92) _ _ (λ b. s (eqb-true c 92 b))
    (λ n1. pick_either P (eqb c 9) _ _ (λ b. t (eqb-true c 9 b))
    (λ n2. pick_either P (eqb c 10) _ _ (λ b. n (eqb-true c 10 b)) (λ n3. pick_either P (eqb c 13) _ _ (λ b. r (eqb-true c 13 b)) (other n1 n2 n3))))

pub escaped_cases : (P : Option ℕ → Type 0) (d : ℕ) → (d ≡ 92 → P (Some 92)) → (d ≡ 116 → P (Some 9)) → (d ≡ 110 → P (Some 10)) → (d ≡ 114 → P (Some 13)) → P None → P (escaped d)
unfolding escaped
escaped_cases P d s t n r none =
    pick_either P (eqb d 92) _ _ (λ b. s (eqb-true d 92 b))
    (λ _. pick_either P (eqb d 116) _ _ (λ b. t (eqb-true d 116 b))
    (λ _. pick_either P (eqb d 110) _ _ (λ b. n (eqb-true d 110 b)) (λ _. pick_either P (eqb d 114) _ _ (λ b. r (eqb-true d 114 b)) (λ _. none))))

char_read : (c : ℕ) (t : List ℕ) → unescape (escape_char c ++ t) ≡ onto (Some c) (unescape t)
unfolding unescape escaped
char_read c t = escape_cases P c as_read as_read as_read as_read (λ n1 n2 n3 n4. unescape_one c t n1 ∙ rw (bare_itself c n4))
  where
    P : List ℕ → Type 0
    P l = unescape (l ++ t) ≡ onto (Some c) (unescape t)

    as_read : {x : ℕ} → c ≡ x → onto (Some x) (unescape t) ≡ onto (Some c) (unescape t)
    as_read e = ap (λ (y : ℕ). onto (Some y) (unescape t)) (sym e)

pub unescape_escape : (s : List ℕ) → unescape (escape s) ≡ Some s
unfolding escape unescape onto
unescape_escape [] = refl
unescape_escape (c ∷ s) = char_read c (escape s) ∙ rw (unescape_escape s)

-- a byte that no escape is written with, and that is not left as it stands
record Spelled (b : ℕ) : Type 0 where
  slash : eqb 92 b ≡ false
  letter_t : eqb 116 b ≡ false
  letter_n : eqb 110 b ≡ false
  letter_r : eqb 114 b ≡ false
  other : (c : ℕ) → eqb c tab ≡ false → eqb c lf ≡ false → eqb c cr ≡ false → eqb c b ≡ false

char_without : {b : ℕ} → Spelled b → (c : ℕ) → Without b (escape_char c)
char_without {b} e c =
    escape_cases (Without b) c (λ _. pair e.slash) (λ _. pair e.letter_t) (λ _. pair e.letter_n) (λ _. pair e.letter_r)
    (λ n1 n2 n3 n4. without_more (e.other c n2 n3 n4) without_none)
  where
    pair : {d : ℕ} → eqb d b ≡ false → Without b (92 ∷ d ∷ [])
    pair q = without_more e.slash (without_more q without_none)

escape_without : {b : ℕ} → Spelled b → (s : List ℕ) → Without b (escape s)
unfolding escape
escape_without e [] = without_none
escape_without e (c ∷ s) = without_both (char_without e c) (escape_without e s)

pub escape_no_tab : (s : List ℕ) → Without tab (escape s)
escape_no_tab = escape_without (record { slash = refl; letter_t = refl; letter_n = refl; letter_r = refl; other = λ c p q r. p })

pub escape_no_lf : (s : List ℕ) → Without lf (escape s)
escape_no_lf = escape_without (record { slash = refl; letter_t = refl; letter_n = refl; letter_r = refl; other = λ c p q r. q })

pub escape_no_cr : (s : List ℕ) → Without cr (escape s)
escape_no_cr = escape_without (record { slash = refl; letter_t = refl; letter_n = refl; letter_r = refl; other = λ c p q r. r })

char_itself : (c : ℕ) → eqb c backslash ≡ false → eqb c tab ≡ false → eqb c lf ≡ false → eqb c cr ≡ false → escape_char c ≡ c ∷ []
unfolding escape_char
char_itself c p q r s = rw (p, q, r, s)

-- past CR only the backslash is escaped
pub char_past : (c : ℕ) → 13 < c → (c ≡ 92 → ⊥) → escape_char c ≡ c ∷ []
char_past c h n = char_itself c (ne_eqb c 92 n) (ne_eqb c 9 (λ e. omega arith)) (ne_eqb c 10 (λ e. omega arith)) (ne_eqb c 13 (λ e. omega arith))

-- a text with nothing to escape is its own escaped form
pub escape_plain : {s : List ℕ} → Without backslash s → Without tab s → Without lf s → Without cr s → escape s ≡ s
unfolding escape
escape_plain without_none without_none without_none without_none = refl
escape_plain (without_more {c} p f) (without_more q g) (without_more r h) (without_more t k) = rw (char_itself c p q r t, escape_plain f g h k)

-- a text that was read, taken apart: its first byte, and the others
pub record Read (o : Option ℕ) (p : Option (List ℕ)) (s : List ℕ) : Type 0 where
  pub head : ℕ
  pub tail : List ℕ
  pub first : o ≡ Some head
  pub others : p ≡ Some tail
  pub is : s ≡ head ∷ tail

pub read : (o : Option ℕ) (p : Option (List ℕ)) (s : List ℕ) → onto o p ≡ Some s → Read o p s
unfolding onto
read None p s e = no_some e
read (Some c) None s e = no_some e
read (Some c) (Some t) s e = record { head = c; tail = t; first = refl; others = refl; is = sym (some_inj e) }

letter_back : (d x : ℕ) → escaped d ≡ Some x → escape_char x ≡ backslash ∷ d ∷ []
unfolding escape_char
letter_back d x = escaped_cases P d (back 92 refl) (back 9 refl) (back 10 refl) (back 13 refl) (λ e. no_some e)
  where
    P : Option ℕ → Type 0
    P o = o ≡ Some x → escape_char x ≡ backslash ∷ d ∷ []

    back : (y : ℕ) {l : ℕ} → escape_char y ≡ backslash ∷ l ∷ [] → d ≡ l → Some y ≡ Some x → escape_char x ≡ backslash ∷ d ∷ []
    back y q u e = let k : y ≡ x = some_inj e in rw (← k, u) q

-- a field as it stands in a sheet is the escaped form of its text
pub escape_unescape : (f : List ℕ) {s : List ℕ} → Without tab f → Without lf f → unescape f ≡ Some s → escape s ≡ f
unfolding unescape escape
escape_unescape [] {s} t l e = let q : s ≡ [] = sym (some_inj e) in rw q
escape_unescape (c ∷ []) {s} (without_more q t) (without_more r l) e =
    pick_either (λ (o : Option (List ℕ)). o ≡ Some s → escape s ≡ c ∷ []) (eqb c backslash) _ _ (λ b e. no_some e)
    (λ n e. let u = read (bare c) (Some []) s e in
    let h = bare_is c u.head u.first in
    let k : [] ≡ u.tail = some_inj u.others in
    rw (u.is, ← h.is, ← k, char_itself c n q r h.no_cr))
    e
escape_unescape (c ∷ d ∷ f) {s} (without_more q (without_more q' t)) (without_more r (without_more r' l)) e =
    pick_either (λ (o : Option (List ℕ)). o ≡ Some s → escape s ≡ c ∷ d ∷ f) (eqb c backslash) _ _
    (λ b e. let u = read (escaped d) (unescape f) s e in
    rw (u.is, letter_back d u.head u.first, escape_unescape f t l u.others, eqb-true c 92 b))
    (λ n e. let u = read (bare c) (unescape (d ∷ f)) s e in
    let h = bare_is c u.head u.first in
    rw (u.is, ← h.is, char_itself c n q r h.no_cr, escape_unescape (d ∷ f) (without_more q' t) (without_more r' l) u.others))
    e

-- a field that was read has no bare CR
letter_no_cr : (d x : ℕ) → escaped d ≡ Some x → eqb d cr ≡ false
letter_no_cr d x = escaped_cases (λ (o : Option ℕ). o ≡ Some x → eqb d cr ≡ false) d (λ q e. rw q) (λ q e. rw q) (λ q e. rw q) (λ q e. rw q) (λ e. no_some e)

pub unescape_no_cr : (f : List ℕ) {s : List ℕ} → unescape f ≡ Some s → Without cr f
unfolding unescape
unescape_no_cr [] e = without_none
unescape_no_cr (c ∷ []) {s} e =
    pick_either (λ (o : Option (List ℕ)). o ≡ Some s → Without cr (c ∷ [])) (eqb c backslash) _ _ (λ b e. no_some e)
    (λ n e. let u = read (bare c) (Some []) s e in without_more (bare_is c u.head u.first).no_cr without_none) e
unescape_no_cr (c ∷ d ∷ f) {s} e =
    pick_either (λ (o : Option (List ℕ)). o ≡ Some s → Without cr (c ∷ d ∷ f)) (eqb c backslash) _ _
    (λ b e. let u = read (escaped d) (unescape f) s e in
    without_more (rw (eqb-true c 92 b)) (without_more (letter_no_cr d u.head u.first) (unescape_no_cr f u.others)))
    (λ n e. let u = read (bare c) (unescape (d ∷ f)) s e in without_more (bare_is c u.head u.first).no_cr (unescape_no_cr (d ∷ f) u.others)) e

-- ---- fields

-- at least one part
data Parts : List (List ℕ) → Type 0 where
  parts : {f : List ℕ} {fs : List (List ℕ)} → Parts (f ∷ fs)

first_parts : (x : ℕ) (fs : List (List ℕ)) → Parts (on_first x fs)
unfolding on_first
first_parts x [] = parts
first_parts x (f ∷ fs) = parts

module _ (b : ℕ) where
  split_some : (l : List ℕ) → Parts (split_at b l)
  unfolding split_at
  split_some [] = parts
  split_some (x ∷ l) = pick_either Parts (eqb x b) _ _ (λ e. parts) (λ n. first_parts x (split_at b l))

  pub split_one : {f : List ℕ} → Without b f → split_at b f ≡ f ∷ []
  unfolding split_at on_first
  split_one without_none = refl
  split_one (without_more q h) = rw (q, split_one h)

  split_sep : (r : List ℕ) → eqb b b ≡ true → split_at b (b ∷ r) ≡ [] ∷ split_at b r
  unfolding split_at
  split_sep r e = rw e

  pub split_more : {f : List ℕ} (r : List ℕ) → eqb b b ≡ true → Without b f → split_at b (f ++ (b ∷ r)) ≡ f ∷ split_at b r
  unfolding split_at on_first
  split_more r e without_none = split_sep r e
  split_more r e (without_more q h) = rw (q, split_more r e h)

  join_first : (x : ℕ) (fs : List (List ℕ)) → join_by b (on_first x fs) ≡ x ∷ join_by b fs
  unfolding join_by on_first
  join_first x [] = refl
  join_first x (f ∷ []) = refl
  join_first x (f ∷ g ∷ fs) = refl

  -- a separator before parts of which there is one at least
  join_sep : (l : List ℕ) → join_by b ([] ∷ split_at b l) ≡ b ∷ join_by b (split_at b l)
  join_sep l = more_sep (split_at b l) (split_some l)
    where
      more_sep : (fs : List (List ℕ)) → Parts fs → join_by b ([] ∷ fs) ≡ b ∷ join_by b fs
      more_sep [] x' = elim x' [ ]
      more_sep (f ∷ fs) parts = unfold join_by in refl

-- fields without a tab, joined and split again
pub split_join : {f : List ℕ} {fs : List (List ℕ)} → AllWithout tab (f ∷ fs) → fields_of (join_by tab (f ∷ fs)) ≡ f ∷ fs
unfolding fields_of join_by
split_join (all_more h all_none) = split_one tab h
split_join (all_more h (all_more {f = g} {fs = fs} k all)) = rw (split_more tab (join_by tab (g ∷ fs)) refl h, split_join (all_more k all))

-- any line, split and joined again
pub join_split : (l : List ℕ) → join_by tab (split_at tab l) ≡ l
unfolding split_at join_by
join_split [] = refl
join_split (x ∷ l) =
    pick_either (λ (fs : List (List ℕ)). join_by tab fs ≡ x ∷ l) (eqb x tab) _ _
    (λ b. join_sep tab l ∙ rw (join_split l, eqb-true x 9 b)) (λ n. join_first tab x (split_at tab l) ∙ rw (join_split l))

-- the parts hold no separator
first_without : {b : ℕ} (x : ℕ) (fs : List (List ℕ)) → eqb x b ≡ false → AllWithout b fs → AllWithout b (on_first x fs)
unfolding on_first
first_without x [] q h = all_more (without_more q without_none) all_none
first_without x (f ∷ fs) q (all_more h all) = all_more (without_more q h) all

pub split_without : (b : ℕ) (l : List ℕ) → AllWithout b (split_at b l)
unfolding split_at
split_without b [] = all_more without_none all_none
split_without b (x ∷ l) =
    pick_either (AllWithout b) (eqb x b) _ _ (λ e. all_more without_none (split_without b l)) (λ n. first_without x (split_at b l) n (split_without b l))

-- nor any byte that the whole did not hold
pub split_keeps : (b : ℕ) {c : ℕ} {l : List ℕ} → Without c l → AllWithout c (split_at b l)
unfolding split_at
split_keeps b without_none = all_more without_none all_none
split_keeps b {c} (without_more {c = x} {s = l} q h) =
    pick_either (AllWithout c) (eqb x b) _ _ (λ e. all_more without_none (split_keeps b h)) (λ n. first_without x (split_at b l) q (split_keeps b h))

-- escaped fields, as a page has them
pub all_escaped : (fs : List (List ℕ)) → AllWithout tab (each escape fs)
unfolding each
all_escaped [] = all_none
all_escaped (f ∷ fs) = all_more (escape_no_tab f) (all_escaped fs)

pub split_escaped : (f : List ℕ) (fs : List (List ℕ)) → fields_of (join_by tab (each escape (f ∷ fs))) ≡ each escape (f ∷ fs)
unfolding each
split_escaped f fs = split_join (all_more (escape_no_tab f) (all_escaped fs))

module _ {b : ℕ} (t : eqb tab b ≡ false) (e : (s : List ℕ) → Without b (escape s)) where
  join_without : (fs : List (List ℕ)) → Without b (join_by tab (each escape fs))
  unfolding join_by each
  join_without [] = without_none
  join_without (f ∷ []) = e f
  join_without (f ∷ g ∷ fs) = without_both (e f) (without_more t (join_without (g ∷ fs)))

pub join_no_lf : (fs : List (List ℕ)) → Without lf (join_by tab (each escape fs))
join_no_lf = join_without refl escape_no_lf

pub join_no_cr : (fs : List (List ℕ)) → Without cr (join_by tab (each escape fs))
join_no_cr = join_without refl escape_no_cr

-- ---- lines

pub lines_more : {l : List ℕ} (r : List ℕ) → Without lf l → lines (l ++ (lf ∷ r)) ≡ more l (lines r)
unfolding lines on_line
lines_more r without_none = refl
lines_more r (without_more q h) = rw (q, lines_more r h)

pub lines_last : {l : List ℕ} → Without lf l → lines l ≡ last l
unfolding lines on_line
lines_last without_none = refl
lines_last (without_more q h) = rw (q, lines_last h)

-- every line, the unended one too, has the property P
pub data EachLine (P : List ℕ → Type 0) : Lines → Type 0 where
  each_last : {l : List ℕ} → P l → EachLine P (last l)
  each_more : {l : List ℕ} {ls : Lines} → P l → EachLine P ls → EachLine P (more l ls)

on_line_without : (b : ℕ) {ls : Lines} → eqb b lf ≡ false → EachLine (Without lf) ls → EachLine (Without lf) (on_line b ls)
unfolding on_line
on_line_without b q (each_last h) = each_last (without_more q h)
on_line_without b q (each_more h hs) = each_more (without_more q h) hs

-- no line holds an LF
pub lines_without : (s : List ℕ) → EachLine (Without lf) (lines s)
unfolding lines
lines_without [] = each_last without_none
lines_without (b ∷ r) =
    pick_either (EachLine (Without lf)) (eqb b lf) _ _ (λ e. each_more without_none (lines_without r)) (λ n. on_line_without b n (lines_without r))

-- the line of some fields is one line
pub lines_line : (fs : List (List ℕ)) (r : List ℕ) → lines (line_of fs ++ r) ≡ more (join_by tab (each escape fs)) (lines r)
unfolding line_of
lines_line fs r = rw append_assoc (lines_more r (join_no_lf fs))
