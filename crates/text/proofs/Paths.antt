-- Paths written as a page has them.
use Prim.Native.Nat.{ℕ, suc, ◌<◌, ◌≤◌, ◌+◌}
use mathlib.Core.Path.{◌≡◌, refl, sym, ap, ◌∙◌}
use mathlib.Core.Bool.{Bool, true, false, ◌&&◌, not, and-false}
use mathlib.Core.List.{List, [], ◌∷◌, ◌++◌}
use native.Mathlib.Omega.{arith}
use borrow.Author.Tests.{ne_eqb, eqb-true, eqb-false, not-true, not-false}
use lib.Dec.{eqb}
use lib.ListN.{length, get_or, drop, drop_of_length-le, get_or-eq_default}
use lib.Seq.{drop-cons, get_or-drop}
use Rattle.rules.specs.Basic.{pick, blank, each}
use Rattle.rules.specs.Model.{as_slash}
use Rattle.rules.specs.Text.{retain}
use Rattle.rules.specs.Sheet.{escape, escape_char}
use Rattle.rules.specs.Utf8.{encode, encode_char, Scalar}
use Rattle.rules.proofs.Basics.{and_left, and_right, by_order}
use Rattle.rules.proofs.Encodes.{encode_1}
use Rattle.rules.proofs.Escaped.{Highs, highs_none, highs_more, encode_highs}
use Rattle.rules.proofs.Scalars.{Scalars, scalars_none, scalars_more}
use Rattle.content.specs.Contents.{kept_in, spell}
use Rattle.content.specs.Parts.{Field}
use Rattle.content.proofs.Kept.{retain_front, retain_other, retain_keeps, retain_blank}
use Rattle.content.proofs.Spells.{spell_cons, escape_highs, char_written, field_spell, content_scalars}
use Rattle.text.specs.Paths.{is_back, path_bytes}

-- ---- `is_back`

module _ (w : List ℕ) (at : ℕ) where
  pub back_past : length w ≤ at → false ≡ is_back w at
  unfolding is_back
  back_past h = rw (get_or-eq_default w 0 h)

  pub back_last : get_or w at 0 ≡ 92 → length w ≤ at + 1 → false ≡ is_back w at
  unfolding is_back
  back_last e h = rw (e, get_or-eq_default w 0 h)

  pub back_other : (get_or w at 0 ≡ 92 → ⊥) → false ≡ is_back w at
  unfolding is_back
  back_other n = rw (ne_eqb (get_or w at 0) 92 n)

  pub back_next : get_or w at 0 ≡ 92 → eqb (get_or w (at + 1) 0) 92 ≡ is_back w at
  unfolding is_back
  back_next e = rw e

-- ---- the turns of `put_path`

path_cons : (p b : ℕ) (s : List ℕ) → (eqb b 92 && eqb (get_or s 0 0) 92) ≡ false → path_bytes p (b ∷ s) ≡ pick (eqb b 32 && eqb p 32) (path_bytes b s) (b ∷ path_bytes b s)
unfolding path_bytes retain
path_cons p b [] e = refl
path_cons p b (d ∷ s) e = rw e

path_back : (p : ℕ) (s : List ℕ) → path_bytes p (92 ∷ 92 ∷ s) ≡ 47 ∷ path_bytes 47 s
unfolding path_bytes
path_back p s = refl

module _ (w : List ℕ) (i : ℕ) {r : Bool} (q : r ≡ is_back w i) where
  back_here : r ≡ true → get_or w i 0 ≡ 92
  unfolding is_back
  back_here t = eqb-true (get_or w i 0) 92 (and_left _ _ (sym q ∙ t))

  back_there : r ≡ true → get_or w (i + 1) 0 ≡ 92
  unfolding is_back
  back_there t = eqb-true (get_or w (i + 1) 0) 92 (and_right (eqb (get_or w i 0) 92) _ (sym q ∙ t))

  pub back_within : r ≡ true → i + 1 < length w
  back_within t =
      by_order (length w) (i + 1) (λ l. absurd (let a = get_or-eq_default w 0 l in let b = back_there t in omega arith)) (λ l. l)

  pub path_two : (p : ℕ) → r ≡ true → path_bytes p (drop i w) ≡ (47 ∷ []) ++ path_bytes 47 (drop (i + 2) w)
  path_two p t =
      let l = back_within t in
      let k : suc i < length w = omega arith in
      let m : i < length w = omega arith in
      let n : i + 1 ≡ suc i = omega arith in
      let o : i + 2 ≡ suc (suc i) = omega arith in
      let a : get_or w (suc i) 0 ≡ 92 = rw n at (back_there t) in
      rw (o, drop-cons w i 0 m, drop-cons w (suc i) 0 k, back_here t, a) (path_back p (drop (suc (suc i)) w))

  module _ (h : i < length w) (t : r ≡ false) (p : ℕ) {gone : Bool} (g : gone ≡ (eqb (get_or w i 0) blank && eqb p blank)) where
    path_one : path_bytes p (drop i w) ≡ pick gone (path_bytes (get_or w i 0) (drop (i + 1) w)) (get_or w i 0 ∷ path_bytes (get_or w i 0) (drop (i + 1) w))
    path_one =
        let n : i + 1 ≡ suc i = omega arith in
        let z : suc i + 0 ≡ i + 1 = omega arith in
        let a : get_or (drop (suc i) w) 0 0 ≡ get_or w (i + 1) 0 = get_or-drop (suc i) w 0 0 ∙ rw z in
        let e : (eqb (get_or w i 0) 92 && eqb (get_or (drop (suc i) w) 0 0) 92) ≡ false = rw a (unfold is_back in (sym q ∙ t)) in
        rw (n, drop-cons w i 0 h, g) (path_cons p (get_or w i 0) (drop (suc i) w) e)

    pub path_goes : not gone ≡ false → path_bytes p (drop i w) ≡ path_bytes (get_or w i 0) (drop (i + 1) w)
    path_goes n = path_one ∙ rw (not-false gone n)

    pub path_stays : not gone ≡ true → path_bytes p (drop i w) ≡ (get_or w i 0 ∷ []) ++ path_bytes (get_or w i 0) (drop (i + 1) w)
    path_stays n = path_one ∙ rw (not-true gone n)

pub path_end : (w : List ℕ) (i p : ℕ) → length w ≤ i → path_bytes p (drop i w) ≡ []
unfolding path_bytes
path_end w i p h = rw (drop_of_length-le w h)

-- ---- what is written for a field

path_front : (p : ℕ) (s : List ℕ) → (p ≡ 32 → ⊥) → path_bytes p s ≡ path_bytes 0 s
unfolding path_bytes
path_front p [] n = refl
path_front p (b ∷ []) n = retain_front p (b ∷ []) n
path_front p (b ∷ d ∷ s) n = rw (ne_eqb p 32 n, ne_eqb 0 32 (λ e. omega arith), and-false)

path_other : (p b : ℕ) (s : List ℕ) → (b ≡ 92 → ⊥) → (b ≡ 32 → ⊥) → path_bytes p (b ∷ s) ≡ b ∷ path_bytes 0 s
path_other p b s n m =
    path_cons p b s (rw (ne_eqb b 92 n)) ∙ rw (ne_eqb b 32 m, path_front b s m)

path_blank : (p : ℕ) (s : List ℕ) → path_bytes p (32 ∷ s) ≡ pick (eqb p 32) (path_bytes 32 s) (32 ∷ path_bytes 32 s)
path_blank p s = path_cons p 32 s refl

-- an escape that stands for no backslash
path_escape : (p d : ℕ) (s : List ℕ) → (d ≡ 92 → ⊥) → (d ≡ 32 → ⊥) → path_bytes p (92 ∷ d ∷ s) ≡ 92 ∷ d ∷ path_bytes 0 s
path_escape p d s n m =
    path_cons p 92 (d ∷ s) (rw (ne_eqb d 92 n)) ∙ rw (path_other 92 d s n m)

-- bytes that are neither
data Other : List ℕ → Type 0 where
  other_one : {b : ℕ} → (b ≡ 92 → ⊥) → (b ≡ 32 → ⊥) → Other (b ∷ [])
  other_more : {b : ℕ} {w : List ℕ} → (b ≡ 92 → ⊥) → (b ≡ 32 → ⊥) → Other w → Other (b ∷ w)

path_others : (p : ℕ) {w : List ℕ} (s : List ℕ) → Other w → path_bytes p (w ++ s) ≡ w ++ path_bytes 0 s
path_others p s (other_one {b} n m) = path_other p b s n m
path_others p s (other_more {b} {w} n m o) = path_other p b (w ++ s) n m ∙ rw (path_others 0 s o)

high_others : {w : List ℕ} → 1 ≤ length w → Highs w → Other w
high_others l highs_none = absurd (omega arith)
high_others l (highs_more {a} h highs_none) = other_one {b = a} (λ e. omega arith) (λ e. omega arith)
high_others l (highs_more {a} h (highs_more {a = b} {s = t} k g)) = other_more {b = a} (λ e. omega arith) (λ e. omega arith) (high_others {w = b ∷ t} (omega arith) (highs_more k g))

low_escape : (c : ℕ) → (c ≡ 92 → ⊥) → (c ≡ 9 → ⊥) → (c ≡ 10 → ⊥) → (c ≡ 13 → ⊥) → escape (c ∷ []) ≡ c ∷ []
unfolding escape escape_char
low_escape c n1 n2 n3 n4 = rw (ne_eqb c 92 n1, ne_eqb c 9 n2, ne_eqb c 10 n3, ne_eqb c 13 n4)

char_others : (c : ℕ) → Scalar c → (c ≡ 92 → ⊥) → (c ≡ 9 → ⊥) → (c ≡ 10 → ⊥) → (c ≡ 13 → ⊥) → (c ≡ 32 → ⊥) → Other (escape (encode_char c))
char_others c h n1 n2 n3 n4 n5 =
    by_order c 127 (λ l. rw (encode_1 c (omega arith), low_escape c n1 n2 n3 n4) (other_one n1 n5))
    (λ l. let e = escape_highs (encode_highs c l) in rw e (high_others (rw e at (char_written c h).least) (encode_highs c l)))

spell_ascii : (c : ℕ) (cs : List ℕ) → c < 128 → spell (c ∷ cs) ≡ escape (c ∷ []) ++ spell cs
spell_ascii c cs h = spell_cons c cs ∙ rw (encode_1 c h)

spelled_back : (cs : List ℕ) → spell (92 ∷ cs) ≡ 92 ∷ 92 ∷ spell cs
spelled_back cs = spell_ascii 92 cs (omega arith) ∙ (unfold escape escape_char in refl)

spelled_slash : (cs : List ℕ) → spell (47 ∷ cs) ≡ 47 ∷ spell cs
spelled_slash cs = spell_ascii 47 cs (omega arith) ∙ (unfold escape escape_char in refl)

spelled_blank : (cs : List ℕ) → spell (32 ∷ cs) ≡ 32 ∷ spell cs
spelled_blank cs = spell_ascii 32 cs (omega arith) ∙ (unfold escape escape_char in refl)

-- a control character that is spelled by a letter
record ByLetter (c d : ℕ) : Type 0 where
  low : c < 32
  high : 92 < d
  is : escape (c ∷ []) ≡ 92 ∷ d ∷ []

by_t : ByLetter 9 116
unfolding escape escape_char
by_t = record { low = omega arith; high = omega arith; is = refl }

by_n : ByLetter 10 110
unfolding escape escape_char
by_n = record { low = omega arith; high = omega arith; is = refl }

by_r : ByLetter 13 114
unfolding escape escape_char
by_r = record { low = omega arith; high = omega arith; is = refl }

spelled_letter : {c d : ℕ} → ByLetter c d → (cs : List ℕ) → spell (c ∷ cs) ≡ 92 ∷ d ∷ spell cs
spelled_letter {c} b cs = spell_ascii c cs (omega (arith, b.low)) ∙ rw b.is

each_other : (c : ℕ) (cs : List ℕ) → (c ≡ 92 → ⊥) → each as_slash (c ∷ cs) ≡ c ∷ each as_slash cs
unfolding each as_slash
each_other c cs n = rw (ne_eqb c 92 n)

each_back : (cs : List ℕ) → each as_slash (92 ∷ cs) ≡ 47 ∷ each as_slash cs
unfolding each as_slash
each_back cs = refl

-- one code point, which is not dropped and no backslash
kept_one : (p c : ℕ) (cs : List ℕ) → (c ≡ 92 → ⊥) → (c ≡ 32 → ⊥) → spell (each as_slash (retain p (c ∷ cs))) ≡ escape (encode_char c) ++ spell (each as_slash (retain 0 cs))
kept_one p c cs n m = rw (retain_other p c cs m, each_other c (retain 0 cs) n) (spell_cons c (each as_slash (retain 0 cs)))

by_eq : {P : Type 0} (c x : ℕ) → (c ≡ x → P) → ((c ≡ x → ⊥) → P) → P
by_eq {P} c x f g = by (eqb c x) refl
  where
    by : (t : Bool) → eqb c x ≡ t → P
    by true e = f (eqb-true c x e)
    by false e = g (eqb-false c x e)

module _ (p : ℕ) (cs : List ℕ) (i : path_bytes 0 (spell cs) ≡ spell (each as_slash (retain 0 cs))) (j : path_bytes 32 (spell cs) ≡ spell (each as_slash (retain 32 cs))) where
  turn_back : path_bytes p (spell (92 ∷ cs)) ≡ spell (each as_slash (retain p (92 ∷ cs)))
  turn_back =
      rw (spelled_back cs, path_back p (spell cs), path_front 47 (spell cs) (λ e. omega arith), i, retain_other p 92 cs (λ e. omega arith), each_back (retain 0 cs))
      (sym (spelled_slash (each as_slash (retain 0 cs))))

  turn_blank : path_bytes p (spell (32 ∷ cs)) ≡ spell (each as_slash (retain p (32 ∷ cs)))
  turn_blank = rw (spelled_blank cs, path_blank p (spell cs)) (by (eqb p 32) refl)
    where
      by : (t : Bool) → eqb p 32 ≡ t → pick t (path_bytes 32 (spell cs)) (32 ∷ path_bytes 32 (spell cs)) ≡ spell (each as_slash (retain p (32 ∷ cs)))
      by true e = rw (eqb-true p 32 e, retain_blank cs) j
      by false e =
          rw (retain_keeps p 32 cs (eqb-false p 32 e), each_other 32 (retain 32 cs) (λ q. omega arith), spelled_blank (each as_slash (retain 32 cs)))
          (ap (λ (x : List ℕ). 32 ∷ x) j)

  turn_letter : {c d : ℕ} → ByLetter c d → path_bytes p (spell (c ∷ cs)) ≡ spell (each as_slash (retain p (c ∷ cs)))
  turn_letter {c} {d} b =
      let l = b.low in
      let h = b.high in
      rw (spelled_letter b cs, path_escape p d (spell cs) (λ e. omega arith) (λ e. omega arith), i, retain_other p c cs (λ e. omega arith), each_other c (retain 0 cs) (λ e. omega arith))
      (sym (spelled_letter b (each as_slash (retain 0 cs))))

  turn_path : (c : ℕ) → Scalar c → path_bytes p (spell (c ∷ cs)) ≡ spell (each as_slash (retain p (c ∷ cs)))
  turn_path c h =
      by_eq c 92 (λ e. rw e turn_back)
      (λ n1. by_eq c 32 (λ e. rw e turn_blank)
      (λ n2. by_eq c 9 (λ e. rw e (turn_letter by_t))
      (λ n3. by_eq c 10 (λ e. rw e (turn_letter by_n))
      (λ n4. by_eq c 13 (λ e. rw e (turn_letter by_r))
      (λ n5. rw (spell_cons c cs, path_others p (spell cs) (char_others c h n1 n3 n4 n5 n2), i) (sym (kept_one p c cs n1 n2)))))))

path_spelled : (p : ℕ) {cs : List ℕ} → Scalars cs → path_bytes p (spell cs) ≡ spell (each as_slash (retain p cs))
unfolding encode escape retain each path_bytes
path_spelled p scalars_none = refl
path_spelled p (scalars_more {c} {s} h g) = turn_path p s (path_spelled 0 g) (path_spelled 32 g) c h

pub field_path : {w : List ℕ} → Field w → path_bytes 0 w ≡ spell (each as_slash (kept_in w))
unfolding kept_in
field_path {w} h = ap (path_bytes 0) (sym (field_spell h)) ∙ path_spelled 0 (content_scalars w)
