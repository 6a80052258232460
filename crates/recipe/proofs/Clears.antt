-- The answer once memory is cleared, and as one number.
use Prim.Native.Nat.{ℕ, ◌+◌, ◌-◌, ◌≤◌, ◌<◌}
use mathlib.Core.Path.{◌≡◌, refl, ap, sym, ◌∙◌, subst}
use mathlib.Core.List.{List, ◌++◌, append_assoc}
use native.Mathlib.Omega.{arith}
use Rattle.std.specs.Prelude.{Result, Ok, Err}
use borrow.Rule.Slice.PartMut.{put_mid}
use lib.ListN.{length, take, drop, length-drop, replicate, length-append, length-replicate, replicate-append-replicate}
use lib.Seq.{take_at, length-take-le}
use Rattle.rules.specs.Answer as rules
use Rattle.rules.specs.Answer.{Lent, answered, declined, out_after, work_after}
use Rattle.refusals.specs.declared.Refusal.{Refusal}
use Rattle.answers.specs.Answers.{answer_of, used_of, code_of, answer_code, usable_of}
use Rattle.answers.proofs.Answers.{code_is, usable_most, usable_short}
use Rattle.recipe.specs.Answers.{lends, usable_lent, Answered, AnswerLeft, Coded}

-- ---- the output o of an answer r, cleared behind the page
cleared_is : (o : List ℕ) (r : Result ℕ Refusal) → used_of r ≤ length o
    → answer_of r (take (used_of r) o ++ replicate (length o - used_of r) 0) ≡ answer_of r o
unfolding answer_of used_of
cleared_is o (Ok n) h = ap answered (take_at (take n o) (replicate (length o - n) 0) n (length-take-le n o h))
cleared_is o (Err f) h = refl

cleared_out : (o : List ℕ) (r : Result ℕ Refusal) → used_of r ≤ length o
    → take (used_of r) o ++ replicate (length o - used_of r) 0 ≡ out_after (length o) (answer_of r o)
unfolding answer_of used_of out_after
cleared_out o (Ok n) h = rw (length-take-le n o h)
cleared_out o (Err f) h =
    let e : length o - 0 ≡ length o = omega arith in
    ap (λ (k : ℕ). replicate k 0) e

cleared_long : (o : List ℕ) (k : ℕ) → k ≤ length o → length (take k o ++ replicate (length o - k) 0) ≡ length o
cleared_long o k h = rw (length-append, length-take-le k o h, length-replicate) (omega arith)

module _ {a : rules.Answer} {m : Lent} where
  pub answer_left : {o₁ w b o : List ℕ} {nw nb k : ℕ} {r : Result ℕ Refusal} → Answered a m.room o₁ r → nw ≡ m.words → w ≡ replicate nw 0
      → nb ≡ m.bytes → b ≡ replicate (nb - 0) 0 → k ≡ used_of r → o ≡ take k o₁ ++ replicate (length o₁ - k) 0 → AnswerLeft a m w b o r
  unfolding work_after
  answer_left {o₁} {w} {b} {o} {nw} {nb} {k} {r} d ew cw eb cb e c =
      let f : used_of r ≤ length o₁ = rw d.long d.fits in
      let q : o ≡ take (used_of r) o₁ ++ replicate (length o₁ - used_of r) 0 = rw e at c in
      record {
        is = ap (answer_of r) q ∙ cleared_is o₁ r f ∙ d.is;
        fits = rw (q, cleared_long o₁ (used_of r) f) f;
        out = q ∙ cleared_out o₁ r f ∙ rw (d.long, d.is);
        words = cw ∙ rw ew;
        bytes = cb ∙ ap (λ (k : ℕ). replicate k 0) (let e : nb - 0 ≡ m.bytes = omega arith in e);
      }

-- ---- as one number
-- an answer is a page or a refusal
pub not_answered : {P : Type 0} {n l : ℕ} {f : List ℕ} → declined n l ≡ answered f → P
not_answered q = absurd (let z : ◌≡◌ {A = ℕ} 0 1 = cc in omega arith)

pub same_bytes : {a b : List ℕ} → answered a ≡ answered b → a ≡ b
same_bytes q = cc

-- a page is no longer than the output that it stands in
page_fits : (o : List ℕ) (r : Result ℕ Refusal) (bytes : List ℕ) → used_of r ≤ length o → answer_of r o ≡ answered bytes → length bytes ≤ length o
unfolding used_of answer_of
page_fits o (Ok n) bytes h e = subst (λ (x : List ℕ). length x ≤ length o) (same_bytes e) (rw (length-take-le n o h) h)
page_fits o (Err f) bytes h e = not_answered e

-- an output of which the front was used, and the rest cleared
out_longer : (n room : ℕ) (a : rules.Answer) → n ≤ room → ((bytes : List ℕ) → a ≡ answered bytes → length bytes ≤ n) → out_after n a ++ replicate (room - n) 0 ≡ out_after room a
unfolding out_after
out_longer n room (answered bytes) l f =
    let h : length bytes ≤ n = f bytes refl in
    let e : (n - length bytes) + (room - n) ≡ room - length bytes = omega arith in
    append_assoc bytes _ _ ∙ ap (λ (x : List ℕ). bytes ++ x) (replicate-append-replicate (n - length bytes) (room - n) 0 ∙ ap (λ (k : ℕ). replicate k 0) e)
out_longer n room (declined k m) l f =
    let e : n + (room - n) ≡ room = omega arith in
    replicate-append-replicate n (room - n) 0 ∙ ap (λ (k : ℕ). replicate k 0) e

code_below : (bytes : List ℕ) → length bytes < 4294967296 → code_of (answered bytes) < 4294967296
unfolding code_of
code_below bytes h = h

pub front_long : (n : ℕ) (o : List ℕ) → n ≤ length o → length (take (n - 0) o) ≡ n
front_long n o h = let e : n - 0 ≡ n = omega arith in rw e (length-take-le n o h)

-- the answer of a front f of n bytes of the output o₀, and the output o with the rest cleared; g says the answer for what is lent
pub coded : (g : Lent → rules.Answer) (o₀ : List ℕ) {m : Lent} {w b f o : List ℕ} {n k : ℕ} {r : Result ℕ Refusal} {c : ℕ} → AnswerLeft (g (lends m k)) (lends m k) w b f r → length o₀ ≡ m.room
    → (n ≡ usable_of (length o₀)) × (n ≤ length o₀) → k ≡ n → length f ≡ k
    → o ≡ take n (put_mid 0 (n - 0) o₀ f) ++ replicate (length (put_mid 0 (n - 0) o₀ f) - n) 0 → c ≡ answer_code r → Coded (g (usable_lent m)) m w b o c
coded g o₀ {m} {w} {b} {f} {o} {n} {k} {r} {c} p z s v l q' e =
    let whole : n - 0 ≡ n = omega arith in
    let q : o ≡ take n (f ++ drop n o₀) ++ replicate (length (f ++ drop n o₀) - n) 0 = rw whole at q' in
    let u : n ≡ usable_of m.room = s.0 ∙ ap usable_of z in
    let x : AnswerLeft (g (usable_lent m)) (usable_lent m) w b f r = subst (λ (j : ℕ). AnswerLeft (g (lends m j)) (lends m j) w b f r) (v ∙ u) p in
    let y : length f ≡ n = l ∙ v in
    let t : length (f ++ drop n o₀) ≡ m.room = rw (length-append, length-drop) (let h : n ≤ length o₀ = s.1 in omega (arith, y, z, h)) in
    let fits : (bytes : List ℕ) → g (usable_lent m) ≡ answered bytes → length bytes ≤ n = λ bytes j. rw y at (page_fits f r bytes x.fits (x.is ∙ j)) in
    let front : f ≡ out_after n (g (usable_lent m)) = x.out ∙ ap (λ (j : ℕ). out_after j (g (usable_lent m))) (sym u) in
    let most : n ≤ m.room = rw u (usable_most m.room) in
    record {
      is = e ∙ code_is f r x.fits ∙ ap code_of x.is;
      short = λ bytes j. let h : length bytes ≤ usable_of m.room = rw u at (fits bytes j) in rw j (code_below bytes (omega (arith, h, usable_short m.room)));
      out = q ∙ rw (take_at f (drop n o₀) n y, t) (ap (λ (j : List ℕ). j ++ replicate (m.room - n) 0) front ∙ out_longer n m.room (g (usable_lent m)) most fits);
      words = x.words;
      bytes = x.bytes;
    }
