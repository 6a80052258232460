-- What the programs print.
use Prim.Native.Nat.{ℕ, zero, suc, ◌+◌, ◌/◌, ◌%◌, ◌≤◌}
use mathlib.Core.Path.{◌≡◌, refl, ap, sym, ◌∙◌}
use mathlib.Core.List.{List, [], ◌∷◌, ◌++◌}
use native.Mathlib.Omega.{arith}
use lib.Dec.{ltb}
use lib.ListN.{length, take, drop, length-append}
use lib.Seq.{take_at, drop_at}
use Rattle.rules.specs.Basic.{codes, tab, lf, digits, decimal}
use Rattle.rules.specs.Sheet.{escape, escape_char, refused_line}
use Rattle.rules.specs.Answer as rules
use Rattle.rules.specs.Answer.{answered, declined, printed}
use Rattle.rules.proofs.Basics.{pick_either}
use Rattle.rules.proofs.Numbers.{escape_decimal}
use Rattle.output.specs.Put.{Put, tabbed}
use Rattle.output.proofs.Puts.{keeps, put_room, put_fits}
use Rattle.output.proofs.Texts.{line_tabbed}
use Rattle.answers.specs.Answers.{Shown}

-- ---- the line of a refusal is short
digits_short : (k n : ℕ) → length (digits k n) ≤ k
unfolding digits
digits_short zero n = omega arith
digits_short (suc k) n =
    pick_either (λ (d : List ℕ). length d ≤ suc k) (ltb n 10) _ _ (λ b. omega arith)
    (λ b. omega (arith, digits_short k (n / 10), length-append (digits k (n / 10)) ((48 + n % 10) ∷ [])))

decimal_short : (n : ℕ) → length (decimal n) ≤ 10
unfolding decimal
decimal_short n = digits_short 10 n

refused_short : (n l : ℕ) → length (refused_line n l) ≤ 30
unfolding refused_line tabbed escape escape_char
refused_short n l =
    let a : List ℕ = tab ∷ (decimal l ++ []) in
    rw (line_tabbed (codes "refused") (decimal n ∷ decimal l ∷ []), escape_decimal n, escape_decimal l)
    (omega (
      arith,
      decimal_short n,
      decimal_short l,
      length-append (decimal n ++ a) (lf ∷ []),
      length-append (decimal n) a,
      length-append (decimal l) [],
    ))

-- ---- the two ways
module _ {a : rules.Answer} {o₀ : List ℕ} where
  pub page_shown : {n : ℕ} → n ≤ length o₀ → a ≡ answered (take n o₀) → Shown a o₀ o₀ n
  unfolding printed
  page_shown h q = rw q record { is = refl; rest = refl; fits = h }

  pub refusal_shown : {m l k : ℕ} {o : List ℕ} → 30 ≤ length o₀ → a ≡ declined m l → Put (refused_line m l) o₀ 0 o k → Shown a o₀ o k
  unfolding printed
  refusal_shown {m} {l} {k} {o} h q p =
      let s : List ℕ = refused_line m l in
      let z : 0 + length s ≤ length o₀ = omega (arith, refused_short m l) in
      let e : k ≡ length s = omega (arith, put_room p z) in
      let i : k ≤ length o₀ = omega arith in
      rw q
      record {
        is = ap (take k) (put_fits p i) ∙ take_at s (drop (0 + length s) o₀) k (sym e);
        rest =
            ap (drop k) (put_fits p i) ∙ drop_at s (drop (0 + length s) o₀) k (sym e)
            ∙ ap (λ (j : ℕ). drop j o₀) (let x : 0 + length s ≡ k = omega (arith, e) in x);
        fits = omega (arith, keeps p);
      }
