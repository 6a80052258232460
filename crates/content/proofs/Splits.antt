-- A name split at its separators, and its paths.
use Prim.Native.Nat.{ℕ}
use mathlib.Core.Path.{◌≡◌, refl, sym, ap, ◌∙◌}
use mathlib.Core.List.{List, [], ◌∷◌, ◌++◌}
use mathlib.Core.Bool.{Bool, true, false, ◌&&◌, ◌||◌}
use Rattle.std.specs.Prelude.{None, Some}
use native.Mathlib.Omega.{arith}
use lib.Dec.{eqb}
use borrow.Author.Tests.{eqb-true, eqb-false, ne_eqb}
use Rattle.rules.specs.Basic.{pick, codes, slash, is_empty, on_first, split_at, join_by, each}
use Rattle.rules.specs.Model.{starts_with, is_path, as_slash, last_part, all_but_last, reference_parts, parse_reference}
use Rattle.rules.specs.Text.{retain}
use Rattle.rules.specs.Sheet.{Without, without_more}
use Rattle.rules.proofs.Basics.{pick_either, no_truth}
use Rattle.rules.proofs.Fields.{split_one}
use Rattle.content.specs.Names.{is_separator, separator_first}
use Rattle.content.proofs.Kept.{retain_other, retain_keeps}

-- ---- splitting and joining

data Parts : List (List ℕ) → Type 0 where
  parts : {p : List ℕ} {ps : List (List ℕ)} → Parts (p ∷ ps)

first_parts : (x : ℕ) (ps : List (List ℕ)) → Parts (on_first x ps)
unfolding on_first
first_parts x [] = parts
first_parts x (p ∷ ps) = parts

split_parts : (b : ℕ) (l : List ℕ) → Parts (split_at b l)
unfolding split_at
split_parts b [] = parts
split_parts b (x ∷ l) = pick_either Parts (eqb x b) _ _ (λ e. parts) (λ n. first_parts x (split_at b l))

on_append : (x : ℕ) {ps : List (List ℕ)} (qs : List (List ℕ)) → Parts ps → on_first x (ps ++ qs) ≡ on_first x ps ++ qs
unfolding on_first
on_append x qs parts = refl

split_end : (us vs : List ℕ) → Without slash vs → split_at slash (us ++ (slash ∷ vs)) ≡ split_at slash us ++ (vs ∷ [])
unfolding split_at
split_end [] vs h = rw (split_one slash h)
split_end (u ∷ us) vs h = rw (split_end us vs h) (go (eqb u slash))
  where
    go : (t : Bool) → pick t ([] ∷ (split_at slash us ++ (vs ∷ []))) (on_first u (split_at slash us ++ (vs ∷ []))) ≡ pick t ([] ∷ split_at slash us) (on_first u (split_at slash us)) ++ (vs ∷ [])
    go true = refl
    go false = on_append u (vs ∷ []) (split_parts slash us)

join_first : (x : ℕ) (ps : List (List ℕ)) → join_by slash (on_first x ps) ≡ x ∷ join_by slash ps
unfolding join_by on_first
join_first x [] = refl
join_first x (p ∷ []) = refl
join_first x (p ∷ q ∷ ps) = refl

join_more : {ps : List (List ℕ)} → Parts ps → join_by slash ([] ∷ ps) ≡ slash ∷ join_by slash ps
unfolding join_by
join_more parts = refl

pub join_split : (l : List ℕ) → join_by slash (split_at slash l) ≡ l
unfolding split_at join_by
join_split [] = refl
join_split (x ∷ l) =
    pick_either (λ (ps : List (List ℕ)). join_by slash ps ≡ x ∷ l) (eqb x slash) _ _
    (λ b. join_more (split_parts slash l) ∙ rw (join_split l, eqb-true x 47 b)) (λ n. join_first x (split_at slash l) ∙ rw (join_split l))

last_end : (ps : List (List ℕ)) (q : List ℕ) → last_part (ps ++ (q ∷ [])) ≡ q
unfolding last_part
last_end [] q = refl
last_end (p ∷ []) q = refl
last_end (p ∷ r ∷ ps) q = last_end (r ∷ ps) q

front_end : (ps : List (List ℕ)) (q : List ℕ) → all_but_last (ps ++ (q ∷ [])) ≡ ps
unfolding all_but_last
front_end [] q = refl
front_end (p ∷ []) q = refl
front_end (p ∷ r ∷ ps) q = rw (front_end (r ∷ ps) q)

-- ---- separators

pub slash_of : (c : ℕ) → is_separator c ≡ true → as_slash c ≡ slash
unfolding is_separator
slash_of c t = eqb-true (as_slash c) 47 t

pub each_append : (xs ys : List ℕ) → each as_slash (xs ++ ys) ≡ each as_slash xs ++ each as_slash ys
unfolding each
each_append [] ys = refl
each_append (x ∷ xs) ys = rw (each_append xs ys)

each_separator : (s : ℕ) (ys : List ℕ) → is_separator s ≡ true → each as_slash (s ∷ ys) ≡ slash ∷ each as_slash ys
unfolding each
each_separator s ys t = rw (slash_of s t)

other_same : (c : ℕ) → eqb (as_slash c) slash ≡ false → as_slash c ≡ c
unfolding as_slash
other_same c e = go (eqb c 92) e
  where
    go : (t : Bool) → eqb (pick t 47 c) 47 ≡ false → pick t 47 c ≡ c
    go true e = no_truth (sym e)
    go false e = refl

pub each_same : (ys : List ℕ) → Without slash (each as_slash ys) → each as_slash ys ≡ ys
unfolding each
each_same [] h = refl
each_same (y ∷ ys) (without_more q h) = rw (other_same y q, each_same ys h)

pub separator_solid : (c : ℕ) → is_separator c ≡ true → c ≡ 32 → ⊥
unfolding is_separator as_slash
separator_solid c t e = no_truth (rw e at t)

-- ---- collapsed blanks

pub retain_parts : (p : ℕ) (xs : List ℕ) (s : ℕ) (ys : List ℕ) → (s ≡ 32 → ⊥) → retain p (xs ++ (s ∷ ys)) ≡ retain p xs ++ (s ∷ retain 0 ys)
unfolding retain
retain_parts p [] s ys n = retain_other p s ys n
retain_parts p (x ∷ xs) s ys n = rw (retain_parts x xs s ys n) (go (eqb x 32 && eqb p 32))
  where
    go : (t : Bool) → pick t (retain x xs ++ (s ∷ retain 0 ys)) (x ∷ (retain x xs ++ (s ∷ retain 0 ys))) ≡ pick t (retain x xs) (x ∷ retain x xs) ++ (s ∷ retain 0 ys)
    go true = refl
    go false = refl

pub without_retain : (p : ℕ) (ys : List ℕ) → Without slash (each as_slash ys) → Without slash (each as_slash (retain p ys))
unfolding retain each
without_retain p [] h = h
without_retain p (y ∷ ys) (without_more q h) =
    pick_either (λ (l : List ℕ). Without slash (each as_slash l)) (eqb y 32 && eqb p 32) _ _ (λ _. without_retain y ys h)
    (λ _. unfold each in without_more q (without_retain y ys h))

-- a name with its last separator s
pub split_name : (xs : List ℕ) (s : ℕ) (ys : List ℕ) → is_separator s ≡ true → Without slash (each as_slash ys)
    → split_at slash (each as_slash (retain 0 (xs ++ (s ∷ ys)))) ≡ split_at slash (each as_slash (retain 0 xs)) ++ (retain 0 ys ∷ [])
split_name xs s ys t h =
    let w = without_retain 0 ys h in
    ap (λ (l : List ℕ). split_at slash (each as_slash l)) (retain_parts 0 xs s ys (separator_solid s t))
    ∙ ap (split_at slash) (each_append (retain 0 xs) (s ∷ retain 0 ys) ∙ ap (λ (l : List ℕ). each as_slash (retain 0 xs) ++ l) (each_separator s (retain 0 ys) t))
    ∙ split_end (each as_slash (retain 0 xs)) (each as_slash (retain 0 ys)) w ∙ rw (each_same (retain 0 ys) w)

-- ---- references

pub parse_plain : (n : List ℕ) → is_path n ≡ false → parse_reference n ≡ None
unfolding parse_reference
parse_plain n e = rw e

parts_end : (ps : List (List ℕ)) (q : List ℕ) → reference_parts (ps ++ (q ∷ [])) ≡ pick (is_empty q) None (Some (record { components = ps; name = q }))
unfolding reference_parts
parts_end ps q = rw (last_end ps q, front_end ps q)

pub parse_parts : (n : List ℕ) (ps : List (List ℕ)) (q : List ℕ) → is_path n ≡ true → split_at slash (each as_slash n) ≡ ps ++ (q ∷ [])
    → parse_reference n ≡ pick (is_empty q) None (Some (record { components = ps; name = q }))
unfolding parse_reference
parse_parts n ps q t e = rw (t, e) (parts_end ps q)

-- ---- whether a name starts as a path does

-- a word without blanks
data Dense : List ℕ → Type 0 where
  dense_none : Dense []
  dense_more : {x : ℕ} {xs : List ℕ} → eqb x 32 ≡ false → Dense xs → Dense (x ∷ xs)

starts_kept : {w : List ℕ} (p : ℕ) (cs : List ℕ) → Dense w → (p ≡ 32 → ⊥) → starts_with w (retain p cs) ≡ starts_with w cs
unfolding starts_with
starts_kept p cs dense_none n = refl
starts_kept p [] (dense_more m d) n = unfold retain in refl
starts_kept p (c ∷ cs) (dense_more {x} {xs} m d) n =
    rw (retain_keeps p c cs n) (go (λ q. starts_kept c cs d q) (eqb x c) refl)
  where
    go : ((c ≡ 32 → ⊥) → starts_with xs (retain c cs) ≡ starts_with xs cs) → (t : Bool) → eqb x c ≡ t → (eqb x c && starts_with xs (retain c cs)) ≡ (eqb x c && starts_with xs cs)
    go ih true e = rw (ih (λ q. eqb-false x 32 m (eqb-true x c e ∙ q)))
    go ih false e = rw e

one_slash : Dense (codes "./")
one_slash = dense_more refl (dense_more refl dense_none)

two_slash : Dense (codes "../")
two_slash = dense_more refl one_slash

one_back : Dense (codes ".\\")
one_back = dense_more refl (dense_more refl dense_none)

two_back : Dense (codes "..\\")
two_back = dense_more refl one_back

pub path_kept : (cs : List ℕ) → is_path (retain 0 cs) ≡ is_path cs
unfolding is_path
path_kept cs =
    let z : ◌≡◌ {A = ℕ} 0 32 → ⊥ = λ e. omega arith in
    rw (starts_kept 0 cs one_slash z, starts_kept 0 cs two_slash z, starts_kept 0 cs one_back z, starts_kept 0 cs two_back z)

-- the tests of `is_path`
or_falses : (a b c d : Bool) → a ≡ false → b ≡ false → c ≡ false → d ≡ false → (a || b || c || d) ≡ false
or_falses a b c d p q r s = rw (p, q, r, s)

pub path_none : is_path [] ≡ false
unfolding is_path starts_with
path_none = refl

pub path_other : (c : ℕ) (cs : List ℕ) → (c ≡ 46 → ⊥) → is_path (c ∷ cs) ≡ false
unfolding is_path starts_with
path_other c cs n = rw (ne_eqb 46 c (λ q. n (sym q)))

by_separator : {P : Type 0} (c : ℕ) → is_separator c ≡ true → (c ≡ 47 → P) → (c ≡ 92 → P) → P
unfolding is_separator as_slash
by_separator {P} c t f g = go (eqb c 92) refl t
  where
    go : (x : Bool) → eqb c 92 ≡ x → eqb (pick x 47 c) 47 ≡ true → P
    go true e t = g (eqb-true c 92 e)
    go false e t = f (eqb-true c 47 t)

separator_not : (c : ℕ) → is_separator c ≡ false → (eqb 47 c ≡ false) × (eqb 92 c ≡ false)
unfolding is_separator as_slash
separator_not c t = go (eqb c 92) refl t
  where
    go : (x : Bool) → eqb c 92 ≡ x → eqb (pick x 47 c) 47 ≡ false → (eqb 47 c ≡ false) × (eqb 92 c ≡ false)
    go true e t = no_truth (sym t)
    go false e t = (ne_eqb 47 c (λ q. eqb-false c 47 t (sym q)), ne_eqb 92 c (λ q. eqb-false c 92 e (sym q)))

pub path_one : (cs : List ℕ) → separator_first cs ≡ true → is_path (46 ∷ cs) ≡ true
unfolding is_path starts_with separator_first
path_one [] t = no_truth t
path_one (c ∷ cs) t = by_separator c t (λ e. rw e) (λ e. rw e)

pub path_short : separator_first [] ≡ false → is_path (46 ∷ []) ≡ false
unfolding is_path starts_with
path_short t = refl

pub path_third : (c : ℕ) (cs : List ℕ) → is_separator c ≡ false → (c ≡ 46 → ⊥) → is_path (46 ∷ c ∷ cs) ≡ false
unfolding is_path starts_with
path_third c cs t n = let s = separator_not c t in rw (s.0, s.1, ne_eqb 46 c (λ q. n (sym q)))

pub path_two : (cs : List ℕ) → is_path (46 ∷ 46 ∷ cs) ≡ separator_first cs
unfolding is_path starts_with separator_first
path_two [] = refl
path_two (c ∷ cs) = go (is_separator c) refl
  where
    go : (x : Bool) → is_separator c ≡ x → (false || (eqb 47 c && true) || false || (eqb 92 c && true)) ≡ is_separator c
    go true e =
        let k : (false || (eqb 47 c && true) || false || (eqb 92 c && true)) ≡ true = by_separator c e (λ q. rw q) (λ q. rw q) in
        k ∙ sym e
    go false e = let s = separator_not c e in rw (s.0, s.1, e)

-- a path has a separator
plain_first : (cs : List ℕ) → Without slash (each as_slash cs) → separator_first cs ≡ false
unfolding each separator_first is_separator
plain_first [] h = refl
plain_first (c ∷ cs) (without_more q h) = q

plain_rest : (c : ℕ) (cs : List ℕ) → Without slash (each as_slash (c ∷ cs)) → Without slash (each as_slash cs)
unfolding each
plain_rest c cs (without_more q h) = h

plain_second : (cs : List ℕ) → Without slash (each as_slash cs) → is_path (46 ∷ cs) ≡ false
plain_second [] h = path_short (unfold separator_first in refl)
plain_second (d ∷ ds) h = go (eqb d 46) refl
  where
    go : (x : Bool) → eqb d 46 ≡ x → is_path (46 ∷ d ∷ ds) ≡ false
    go true e = rw (eqb-true d 46 e) (path_two ds ∙ plain_first ds (plain_rest d ds h))
    go false e = path_third d ds (unfold separator_first in plain_first (d ∷ ds) h) (eqb-false d 46 e)

plain_path : (cs : List ℕ) → Without slash (each as_slash cs) → is_path cs ≡ false
plain_path [] h = path_none
plain_path (c ∷ cs) h = go (eqb c 46) refl
  where
    go : (x : Bool) → eqb c 46 ≡ x → is_path (c ∷ cs) ≡ false
    go true e = rw (eqb-true c 46 e) (plain_second cs (plain_rest c cs h))
    go false e = path_other c cs (eqb-false c 46 e)

pub path_parted : {P : Type 0} (cs : List ℕ) → is_path cs ≡ true → Without slash (each as_slash cs) → P
path_parted cs t h = no_truth (sym (plain_path cs h) ∙ t)
