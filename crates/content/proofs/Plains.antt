-- The bytes that a field stands for, one character at a time.
use Prim.Native.Nat.{ℕ, zero, suc, pred, ◌≤◌, ◌<◌}
use mathlib.Core.Path.{◌≡◌, refl, sym, ap, ◌∙◌}
use mathlib.Core.List.{List, [], ◌∷◌}
use mathlib.Core.Bool.{Bool, true, false, and-false}
use Rattle.std.specs.Prelude.{Option, None, Some}
use native.Mathlib.Omega.{arith}
use lib.Dec.{eqb}
use lib.ListN.{get_or, drop}
use borrow.Author.Tests.{eq-eqb, ne_eqb, eqb-true, eqb-false}
use Rattle.rules.specs.Basic.{on_some}
use Rattle.rules.specs.Sheet.{escaped, bare, onto, unescape}
use Rattle.rules.specs.Read.{content_of}
use Rattle.rules.specs.Utf8.{size_of, sized, first_of, chars}
use Rattle.rules.proofs.Basics.{pick_either, by_order, no_some, some_inj}
use Rattle.rules.proofs.Fields.{bare_is, escaped_cases, read}
use Rattle.rules.proofs.Begins.{Begins, one, two, three, four, second_ascii, later_ascii, second_from, later_from, size_1, size_2, size_3, size_4}
use Rattle.content.specs.Contents.{pair_or, plain_of, content_in}

pub plain_one : (c : ℕ) (s : List ℕ) → (c ≡ 92 → ⊥) → plain_of (c ∷ s) ≡ c ∷ plain_of s
unfolding plain_of
plain_one c [] n = refl
plain_one c (d ∷ s) n = rw (ne_eqb c 92 n)

pub plain_pair : (d : ℕ) (s : List ℕ) → plain_of (92 ∷ d ∷ s) ≡ pair_or (escaped d) (plain_of s) (plain_of (d ∷ s))
unfolding plain_of
plain_pair d s = refl

-- by cases on whether a byte is a backslash
pub by_backslash : {P : Type 0} (c : ℕ) → (c ≡ 92 → P) → ((c ≡ 92 → ⊥) → P) → P
by_backslash {P} c f g = by (eqb c 92) refl
  where
    by : (t : Bool) → eqb c 92 ≡ t → P
    by true e = f (eqb-true c 92 e)
    by false e = g (eqb-false c 92 e)

-- ---- a well-formed field stands for what the rules say

pub plain_unescape : (f : List ℕ) {u : List ℕ} → unescape f ≡ Some u → plain_of f ≡ u
unfolding plain_of unescape pair_or
plain_unescape [] e = some_inj e
plain_unescape (c ∷ []) {u} e =
    pick_either (λ (o : Option (List ℕ)). o ≡ Some u → c ∷ [] ≡ u) (eqb c 92) _ _ (λ b q. no_some q)
    (λ n q. let j = read (bare c) (Some []) u q in
    ap (λ (x : ℕ). x ∷ []) (bare_is c j.head j.first).is ∙ ap (λ (x : List ℕ). j.head ∷ x) (some_inj j.others) ∙ sym j.is)
    e
plain_unescape (c ∷ d ∷ s) {u} e =
    by_backslash c
    (λ b. let q : onto (escaped d) (unescape s) ≡ Some u = rw (eq-eqb c 92 b) at e in
    let j = read (escaped d) (unescape s) u q in
    rw (eq-eqb c 92 b, j.first) (ap (λ (x : List ℕ). j.head ∷ x) (plain_unescape s j.others) ∙ sym j.is))
    (λ n. let q : onto (bare c) (unescape (d ∷ s)) ≡ Some u = rw (ne_eqb c 92 n) at e in
    let j = read (bare c) (unescape (d ∷ s)) u q in
    rw (ne_eqb c 92 n)
    (ap (λ (x : List ℕ). c ∷ x) (plain_unescape (d ∷ s) j.others) ∙ ap (λ (x : ℕ). x ∷ j.tail) (bare_is c j.head j.first).is ∙ sym j.is))

pub content_of_lem : (f : List ℕ) {c : List ℕ} → content_of f ≡ Some c → content_in f ≡ c
unfolding content_of content_in
content_of_lem f {c} e = go (unescape f) refl e
  where
    go : (o : Option (List ℕ)) → unescape f ≡ o → on_some chars o ≡ Some c → chars (plain_of f) ≡ c
    go None q e = unfold on_some in no_some e
    go (Some u) q e = unfold on_some in (rw (plain_unescape f q) (some_inj e))

-- ---- an escape is ASCII before and after, so that characters of several bytes stand as they are

escaped_low : (d : ℕ) (s t : List ℕ) → get_or (pair_or (escaped d) s t) 0 0 < 128
unfolding pair_or
escaped_low d s t =
    escaped_cases (λ (o : Option ℕ). get_or (pair_or o s t) 0 0 < 128) d (λ _. omega arith) (λ _. omega arith) (λ _. omega arith) (λ _. omega arith) (omega arith)

plain_low : (c : ℕ) (s : List ℕ) → c < 128 → get_or (plain_of (c ∷ s)) 0 0 < 128
unfolding plain_of
plain_low c [] h = h
plain_low c (d ∷ s) h = pick_either (λ (l : List ℕ). get_or l 0 0 < 128) (eqb c 92) _ _ (λ _. escaped_low d (plain_of s) (plain_of (d ∷ s))) (λ _. h)

-- the first byte, or none
pub data First : List ℕ → Type 0 where
  low : {s : List ℕ} → get_or s 0 0 < 128 → get_or (plain_of s) 0 0 < 128 → First s
  high : {b : ℕ} {s : List ℕ} → 128 ≤ b → plain_of (b ∷ s) ≡ b ∷ plain_of s → First (b ∷ s)

pub first : (s : List ℕ) → First s
first [] = low {s = []} (omega arith) (unfold plain_of in omega arith)
first (b ∷ s) = by_order b 127 (λ h. low {s = b ∷ s} (omega arith) (plain_low b s (omega arith))) (λ h. high h (plain_one b s (λ e. omega arith)))

sized_2 : (a : ℕ) {s : List ℕ} → First s → sized 2 a (plain_of s) ≡ sized 2 a s
unfolding sized
sized_2 a {s} (low h g) = rw (second_ascii a (get_or s 0 0) h, second_ascii a (get_or (plain_of s) 0 0) g)
sized_2 a (high h e) = rw e

sized_3 : (a : ℕ) {s : List ℕ} → First s → sized 3 a (plain_of s) ≡ sized 3 a s
unfolding sized
sized_3 a {s} (low h g) = rw (second_ascii a (get_or s 0 0) h, second_ascii a (get_or (plain_of s) 0 0) g)
sized_3 a (high {b} {s} h e) = rw e (go (first s))
  where
    go : {s : List ℕ} → First s → sized 3 a (b ∷ plain_of s) ≡ sized 3 a (b ∷ s)
    go {s} (low h g) = unfold sized in (rw (later_ascii (get_or s 0 0) h, later_ascii (get_or (plain_of s) 0 0) g, and-false))
    go (high h e) = unfold sized in (rw e)

sized_4 : (n a : ℕ) {s : List ℕ} → First s → sized (suc (suc (suc (suc n)))) a (plain_of s) ≡ sized (suc (suc (suc (suc n)))) a s
unfolding sized
sized_4 n a {s} (low h g) = rw (second_ascii a (get_or s 0 0) h, second_ascii a (get_or (plain_of s) 0 0) g)
sized_4 n a (high {b} {s} h e) = rw e (go (first s))
  where
    more : (d : ℕ) {s : List ℕ} → First s → sized (suc (suc (suc (suc n)))) a (b ∷ d ∷ plain_of s) ≡ sized (suc (suc (suc (suc n)))) a (b ∷ d ∷ s)
    more d {s} (low h g) = unfold sized in (rw (later_ascii (get_or s 0 0) h, later_ascii (get_or (plain_of s) 0 0) g, and-false))
    more d (high h e) = unfold sized in (rw e)

    go : {s : List ℕ} → First s → sized (suc (suc (suc (suc n)))) a (b ∷ plain_of s) ≡ sized (suc (suc (suc (suc n)))) a (b ∷ s)
    go {s} (low h g) = unfold sized in (simp (later_ascii (get_or s 0 0) h, later_ascii (get_or (plain_of s) 0 0) g, and-false))
    go (high {b = d} {s} h e) = rw e (more d (first s))

sized_plain : (n a : ℕ) (s : List ℕ) → sized n a (plain_of s) ≡ sized n a s
unfolding sized
sized_plain zero a s = refl
sized_plain (suc zero) a s = refl
sized_plain (suc (suc zero)) a s = sized_2 a (first s)
sized_plain (suc (suc (suc zero))) a s = sized_3 a (first s)
sized_plain (suc (suc (suc (suc n)))) a s = sized_4 n a (first s)

pub first_plain : (a : ℕ) (s : List ℕ) → first_of a (plain_of s) ≡ first_of a s
unfolding first_of
first_plain a s = sized_plain (size_of a) a s

plain_high : (b : ℕ) (s : List ℕ) → 128 ≤ b → plain_of (b ∷ s) ≡ b ∷ plain_of s
plain_high b s h = plain_one b s (λ e. omega arith)

pub skip_plain : {a : ℕ} {s : List ℕ} {c : ℕ} → Begins a s c → drop (pred (size_of a)) (plain_of s) ≡ plain_of (drop (pred (size_of a)) s)
skip_plain (one {a} h) = rw (size_1 a h)
skip_plain (two {a} {b} {s} h g q) = rw (size_2 a h g, plain_high b s (second_from a b q))
skip_plain (three {a} {b} {d} {s} h g q l) = rw (size_3 a h g, plain_high b (d ∷ s) (second_from a b q), plain_high d s (later_from d l))
skip_plain (four {a} {b} {d} {g = e} {s} h g q l m) =
    rw (size_4 a h g, plain_high b (d ∷ e ∷ s) (second_from a b q), plain_high d (e ∷ s) (later_from d l), plain_high e s (later_from e m))
