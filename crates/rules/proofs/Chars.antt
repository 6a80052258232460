-- The code points of bytes, and whether bytes are UTF-8, by parts.
use Prim.Native.Nat.{ℕ, zero, suc, pred, ◌+◌, ◌≤◌, ◌<◌}
use mathlib.Core.Path.{◌≡◌, refl, sym, ap, ◌∙◌}
use mathlib.Core.List.{List, [], ◌∷◌, ◌++◌}
use mathlib.Core.Bool.{Bool, true, ◌&&◌, not}
use Rattle.std.specs.Prelude.{Option, None, Some}
use native.Mathlib.Nat.{le_of_suc-le-suc, not-suc-le-zero, add-zero}
use native.Mathlib.Omega.{arith}
use lib.ListN.{length, drop}
use Rattle.rules.specs.Basic.{is_some}
use Rattle.rules.specs.Utf8.{size_of, first_of, fault_or, fault_from, first_fault, is_utf8, char_or, followers, chars_from, chars}
use Rattle.rules.proofs.Basics.{and_left, and_right, no_truth}
use Rattle.rules.proofs.Begins.{Begins, one, begins, begins_more, begins_fits, first_some, first_ascii, size_1}

-- bytes are UTF-8, where k of them are left of the character before
unfoldable pub well_from : ℕ → List ℕ → Bool
well_from k [] = true
well_from (suc k) (a ∷ s) = well_from k s
well_from zero (a ∷ s) = is_some (first_of a s) && well_from (pred (size_of a)) s

pub well_fault : (at k : ℕ) (s : List ℕ) → not (is_some (fault_from at k s)) ≡ well_from k s
unfolding well_from fault_from is_some
well_fault at k [] = refl
well_fault at (suc k) (a ∷ s) = well_fault (suc at) k s
well_fault at zero (a ∷ s) = go (well_fault (suc at) (pred (size_of a)) s) (first_of a s)
  where
    go : not (is_some (fault_from (suc at) (pred (size_of a)) s)) ≡ well_from (pred (size_of a)) s → (o : Option ℕ)
        → not (is_some (fault_or at o (fault_from (suc at) (pred (size_of a)) s))) ≡ (is_some o && well_from (pred (size_of a)) s)
    go ih None = unfold fault_or is_some in refl
    go ih (Some c) = unfold fault_or is_some in ih

pub well_utf8 : (s : List ℕ) → is_utf8 s ≡ well_from 0 s
unfolding is_utf8 first_fault
well_utf8 s = well_fault 0 0 s

pub utf8_none : is_utf8 [] ≡ true
unfolding is_utf8 first_fault fault_from is_some
utf8_none = refl

-- ---- one character

-- the bytes of the character before are passed over
pub skip_chars : (k : ℕ) (s : List ℕ) → chars_from k s ≡ chars_from 0 (drop k s)
unfolding chars_from
skip_chars zero s = refl
skip_chars (suc k) [] = refl
skip_chars (suc k) (a ∷ s) = skip_chars k s

pub skip_well : (k : ℕ) (s : List ℕ) → well_from k s ≡ well_from 0 (drop k s)
unfolding well_from
skip_well zero s = refl
skip_well (suc k) [] = refl
skip_well (suc k) (a ∷ s) = skip_well k s

pub skip_fault : (at k : ℕ) (s : List ℕ) → fault_from at k s ≡ fault_from (at + k) 0 (drop k s)
unfolding fault_from
skip_fault at zero s = rw add-zero
skip_fault at (suc k) [] = refl
skip_fault at (suc k) (a ∷ s) = skip_fault (suc at) k s ∙ ap (λ (n : ℕ). fault_from n 0 (drop k s)) (omega arith)

-- bytes that start with a character
pub chars_begins : {a : ℕ} {s : List ℕ} {c : ℕ} → Begins a s c → chars_from 0 (a ∷ s) ≡ c ∷ chars_from (pred (size_of a)) s
unfolding chars_from char_or followers
chars_begins g = rw (first_some g)

pub well_begins : {a : ℕ} {s : List ℕ} {c : ℕ} → Begins a s c → well_from 0 (a ∷ s) ≡ well_from (pred (size_of a)) s
unfolding well_from is_some
well_begins g = rw (first_some g)

pub fault_begins : {a : ℕ} {s : List ℕ} {c : ℕ} (at : ℕ) → Begins a s c → fault_from at 0 (a ∷ s) ≡ fault_from (suc at) (pred (size_of a)) s
unfolding fault_from fault_or
fault_begins at g = rw (first_some g)

-- UTF-8 that is not empty starts with a character, and goes on with UTF-8
pub record Starts (a : ℕ) (s : List ℕ) : Type 0 where
  pub char : ℕ
  pub is : Begins a s char
  pub rest : well_from (pred (size_of a)) s ≡ true

pub starts : (a : ℕ) (s : List ℕ) → well_from 0 (a ∷ s) ≡ true → Starts a s
unfolding well_from is_some
starts a s q = go (first_of a s) refl (and_left _ _ q)
  where
    go : (o : Option ℕ) → first_of a s ≡ o → is_some o ≡ true → Starts a s
    go None e t = unfold is_some in no_truth t
    go (Some c) e t = record { char = c; is = begins a s c e; rest = and_right (is_some (first_of a s)) _ q }

-- ---- an ASCII byte

pub chars_ascii : (a : ℕ) (s : List ℕ) → a < 128 → chars (a ∷ s) ≡ a ∷ chars s
unfolding chars
chars_ascii a s h = chars_begins (one (omega arith)) ∙ rw (size_1 a (omega arith))

pub utf8_ascii : (a : ℕ) (s : List ℕ) → a < 128 → is_utf8 (a ∷ s) ≡ is_utf8 s
utf8_ascii a s h = rw (well_utf8 (a ∷ s), well_utf8 s) (well_begins (one (omega arith)) ∙ rw (size_1 a (omega arith)))

-- all bytes of a character are there
pub fits : (a : ℕ) (s : List ℕ) → followers a (first_of a s) ≤ length s
fits a s = go (first_of a s) refl
  where
    go : (o : Option ℕ) → first_of a s ≡ o → followers a o ≤ length s
    go None e = unfold followers in omega arith
    go (Some c) e = unfold followers in begins_fits (begins a s c e)

-- an ASCII byte parts a text, whatever bytes stand before and after it
split_from : (k b : ℕ) (p q : List ℕ) → k ≤ length p → b < 128 → chars_from k (p ++ (b ∷ q)) ≡ chars_from k p ++ (b ∷ chars q)
unfolding chars_from
split_from zero b [] q l h = unfold chars in chars_ascii b q h
split_from (suc k) b [] q l h = absurd (not-suc-le-zero l)
split_from (suc k) b (a ∷ p) q l h = split_from k b p q (le_of_suc-le-suc l) h
split_from zero b (a ∷ p) q l h = rw (first_ascii a b p q h, split_from (followers a (first_of a p)) b p q (fits a p) h)

pub chars_split : (p q : List ℕ) (b : ℕ) → b < 128 → chars (p ++ (b ∷ q)) ≡ chars p ++ (b ∷ chars q)
chars_split p q b h = unfold chars in (rw (split_from 0 b p q (omega arith) h))

well_split : (k b : ℕ) (p q : List ℕ) → k ≤ length p → b < 128 → well_from k (p ++ (b ∷ q)) ≡ (well_from k p && well_from 0 q)
unfolding well_from
well_split zero b [] q l h = well_begins (one (omega arith)) ∙ rw (size_1 b (omega arith))
well_split (suc k) b [] q l h = absurd (not-suc-le-zero l)
well_split (suc k) b (a ∷ p) q l h = well_split k b p q (le_of_suc-le-suc l) h
well_split zero b (a ∷ p) q l h = rw (first_ascii a b p q h) (go (λ g. well_split (pred (size_of a)) b p q g h) (first_of a p) refl)
  where
    W : List ℕ → Bool
    W t = well_from (pred (size_of a)) t

    go : (pred (size_of a) ≤ length p → W (p ++ (b ∷ q)) ≡ (W p && well_from 0 q)) → (o : Option ℕ) → first_of a p ≡ o
        → (is_some o && W (p ++ (b ∷ q))) ≡ (is_some o && W p && well_from 0 q)
    go ih None e = unfold is_some in refl
    go ih (Some c) e = unfold is_some in ih (begins_fits (begins a p c e))

pub utf8_split : (p q : List ℕ) (b : ℕ) → b < 128 → is_utf8 (p ++ (b ∷ q)) ≡ (is_utf8 p && is_utf8 q)
utf8_split p q b h = rw (well_utf8 (p ++ (b ∷ q)), well_utf8 p, well_utf8 q) (well_split 0 b p q (omega arith) h)

-- ---- UTF-8, then any bytes

append_from : (k : ℕ) (p q : List ℕ) → k ≤ length p → well_from k p ≡ true → chars_from k (p ++ q) ≡ chars_from k p ++ chars_from 0 q
unfolding chars_from well_from
append_from zero [] q l w = refl
append_from (suc k) [] q l w = absurd (not-suc-le-zero l)
append_from (suc k) (a ∷ p) q l w = append_from k p q (le_of_suc-le-suc l) w
append_from zero (a ∷ p) q l w =
    let g = starts a p w in
    chars_begins (begins_more q g.is)
    ∙ rw (append_from (pred (size_of a)) p q (begins_fits g.is) g.rest) (sym (ap (λ (x : List ℕ). x ++ chars_from 0 q) (chars_begins g.is)))

pub chars_append : (p q : List ℕ) → is_utf8 p ≡ true → chars (p ++ q) ≡ chars p ++ chars q
unfolding chars
chars_append p q w = append_from 0 p q (omega arith) (rw (well_utf8 p) at w)

well_append : (k : ℕ) (p q : List ℕ) → k ≤ length p → well_from k p ≡ true → well_from k (p ++ q) ≡ well_from 0 q
unfolding well_from
well_append zero [] q l w = refl
well_append (suc k) [] q l w = absurd (not-suc-le-zero l)
well_append (suc k) (a ∷ p) q l w = well_append k p q (le_of_suc-le-suc l) w
well_append zero (a ∷ p) q l w =
    let g = starts a p w in
    well_begins (begins_more q g.is) ∙ well_append (pred (size_of a)) p q (begins_fits g.is) g.rest

pub utf8_append : (p q : List ℕ) → is_utf8 p ≡ true → is_utf8 (p ++ q) ≡ is_utf8 q
utf8_append p q w = rw (well_utf8 (p ++ q), well_utf8 q) (well_append 0 p q (omega arith) (rw (well_utf8 p) at w))
