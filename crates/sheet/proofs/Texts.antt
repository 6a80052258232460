-- Reading a field without its escapes: what one turn does; r is the answer on the whole.
use Prim.Native.Nat.{ℕ, suc, ◌+◌, ◌≤◌, ◌<◌}
use mathlib.Core.Path.{◌≡◌, refl, ap, sym, ◌∙◌}
use mathlib.Core.Bool.{true, false}
use Rattle.std.specs.Prelude.{Option, None, Some, Ok, Err}
use mathlib.Core.List.{List, [], ◌∷◌, ◌++◌}
use native.Mathlib.Numerals.{add-one}
use native.Mathlib.Omega.{arith}
use borrow.Author.Tests.{eq-eqb, ne_eqb, le-leb, lt-leb}
use lib.ListN.{length, get_or, drop, drop_of_length-le}
use lib.Seq.{drop-cons}
use Rattle.std.specs.Option as option
use Rattle.rules.specs.Basic.{is_some, on_some}
use Rattle.rules.specs.Sheet.{escaped, bare, onto, unescape}
use Rattle.rules.proofs.Basics.{by_order, no_truth}
use Rattle.rules.proofs.Fields.{bare_itself, bare_cr, unescape_one}
use Rattle.output.specs.Put.{Put}
use Rattle.output.proofs.Puts.{Leads, starts, turn, step, ends_in, ends_out, put_room, put_fits}
use Rattle.sheet.specs.declared.NotUnescaped.TheVariants.{Ill, NoRoom}
use Rattle.sheet.specs.Escapes.{room_for, held_after, Unescapes}

-- ---- the letter after a backslash
pub letter_other : (c : ℕ) → (c ≡ 92 → ⊥) → (c ≡ 116 → ⊥) → (c ≡ 110 → ⊥) → (c ≡ 114 → ⊥) → None ≡ escaped c
unfolding escaped
letter_other c n m l k = simp (ne_eqb c 92 n, ne_eqb c 116 m, ne_eqb c 110 l, ne_eqb c 114 k)

unescape_two : (c d : ℕ) (s : List ℕ) → c ≡ 92 → unescape (c ∷ d ∷ s) ≡ onto (escaped d) (unescape s)
unfolding unescape
unescape_two c d s q = rw (eq-eqb c 92 q)

unescape_cut : (c : ℕ) → c ≡ 92 → unescape (c ∷ []) ≡ None
unfolding unescape
unescape_cut c q = rw (eq-eqb c 92 q)

-- ---- one step of a field at i
module _ (s : List ℕ) (i : ℕ) (h : i < length s) where
  step_bare : (get_or s i 0 ≡ 92 → ⊥) → unescape (drop i s) ≡ onto (bare (get_or s i 0)) (unescape (drop (i + 1) s))
  step_bare q = rw (add-one, drop-cons s i 0 h) (unescape_one _ _ (ne_eqb _ _ q))

  pub step_plain_lem : (get_or s i 0 ≡ 92 → ⊥) → (get_or s i 0 ≡ 13 → ⊥) → unescape (drop i s) ≡ onto (Some (get_or s i 0)) (unescape (drop (i + 1) s))
  step_plain_lem q r = step_bare q ∙ rw (bare_itself _ (ne_eqb _ 13 r))

  pub step_ill : get_or s i 0 ≡ 13 → unescape (drop i s) ≡ None
  unfolding onto
  step_ill q = step_bare (λ e. omega arith) ∙ rw (bare_cr _ (eq-eqb _ 13 q))

  pub step_cut : get_or s i 0 ≡ 92 → length s ≤ i + 1 → unescape (drop i s) ≡ None
  step_cut q l =
      let m : length s ≤ suc i = omega arith in
      rw (drop-cons s i 0 h, drop_of_length-le s m) (unescape_cut _ q)

  step_letter : get_or s i 0 ≡ 92 → i + 1 < length s → unescape (drop i s) ≡ onto (escaped (get_or s (i + 1) 0)) (unescape (drop (i + 1 + 1) s))
  step_letter q l =
      let m : suc i < length s = omega arith in
      let k : i + 1 ≡ suc i = omega arith in
      let k2 : suc i + 1 ≡ suc (suc i) = omega arith in
      rw (k, k2, drop-cons s i 0 h, drop-cons s (suc i) 0 m) (unescape_two _ _ _ q)

  module _ (q : get_or s i 0 ≡ 92) (l : i + 1 < length s) {o : Option ℕ} (p : o ≡ escaped (get_or s (i + 1) 0)) where
    pub step_wrong : o ≡ None → unescape (drop i s) ≡ None
    unfolding onto
    step_wrong z = step_letter q l ∙ rw (← p, z)

    pub step_escaped : {e : ℕ} → o ≡ Some e → unescape (drop i s) ≡ onto (Some e) (unescape (drop (i + 1 + 1) s))
    step_escaped z = step_letter q l ∙ rw (← p, z)

pub step_none : (s : List ℕ) (i : ℕ) → length s ≤ i → unescape (drop i s) ≡ Some []
unfolding unescape
step_none s i h = rw (drop_of_length-le s h)

-- ---- the length of the text: that of n bytes and what is left
unfoldable pub length_from : ℕ → Option (List ℕ) → Option ℕ
length_from n None = None
length_from n (Some t) = Some (n + length t)

pub len_start : (t : Option (List ℕ)) → length_from 0 t ≡ on_some length t
unfolding length_from on_some
len_start None = refl
len_start (Some t) = let z : 0 + length t ≡ length t = omega arith in ap (λ (n : ℕ). Some n) z

on_length : (n x : ℕ) (t : Option (List ℕ)) → length_from n (onto (Some x) t) ≡ length_from (n + 1) t
unfolding length_from onto
on_length n x (Some t) = let e : n + suc (length t) ≡ n + 1 + length t = omega arith in rw e
on_length n x None = refl

module _ (n : ℕ) {o : Option (List ℕ)} {r : Option ℕ} (e : length_from n o ≡ r) where
  pub len_ill : o ≡ None → None ≡ r
  unfolding length_from
  len_ill q = rw q at e

  pub len_end : o ≡ Some [] → Some n ≡ r
  unfolding length_from
  len_end q = let z : n + 0 ≡ n = omega arith in rw z at (rw q at e)

  pub len_on : (x : ℕ) (t : Option (List ℕ)) → o ≡ onto (Some x) t → length_from (n + 1) t ≡ r
  len_on x t q = sym (on_length n x t) ∙ (rw q at e)

-- ---- whether there is a text
is_some_lem : (t : Option (List ℕ)) {k : ℕ} → Some k ≡ on_some length t → is_some t ≡ true
unfolding on_some is_some
is_some_lem None e = cc
is_some_lem (Some t) e = refl

is_none : (t : Option (List ℕ)) → None ≡ on_some length t → t ≡ None
unfolding on_some
is_none None e = refl
is_none (Some t) e = cc

pub well : (t : Option (List ℕ)) → option.is_some (on_some length t) ≡ is_some t
unfolding on_some is_some
well None = refl
well (Some t) = refl

-- ---- the text itself
unfoldable pub text_of : Option (List ℕ) → List ℕ
text_of None = []
text_of (Some t) = t

on_is : (x : ℕ) (t : Option (List ℕ)) → is_some (onto (Some x) t) ≡ true → is_some t ≡ true
unfolding onto is_some
on_is x (Some t) e = refl
on_is x None e = e

on_of : (x : ℕ) (t : Option (List ℕ)) → is_some (onto (Some x) t) ≡ true → text_of (onto (Some x) t) ≡ x ∷ text_of t
unfolding onto is_some text_of
on_of x (Some t) e = refl
on_of x None e = no_truth e

-- what is left of f at i is well formed, and to write it at n in o is to write the text of f at 0 in o₀
pub record Unescaping (f o₀ : List ℕ) (i : ℕ) (o : List ℕ) (n : ℕ) : Type 0 where
  pub left : is_some (unescape (drop i f)) ≡ true
  pub writes : Leads (text_of (unescape f)) o₀ 0 (text_of (unescape (drop i f))) o n

module _ {f o₀ o : List ℕ} {i n : ℕ} (u : Unescaping f o₀ i o n) where
  -- a backslash that is left has a letter after it
  pub letter_follows : i < length f → get_or f i 0 ≡ 92 → i + 1 < length f
  letter_follows h q = by_order (length f) (i + 1) (λ l. no_truth (cut (step_cut f i h q l))) (λ l. l)
    where
      cut : unescape (drop i f) ≡ None → false ≡ true
      cut e = unfold is_some in (rw e at u.left)

  -- one byte of the text
  on_step : (x j : ℕ) {o' : List ℕ} {n' : ℕ} → unescape (drop i f) ≡ onto (Some x) (unescape (drop j f)) → Put (x ∷ []) o n o' n' → Unescaping f o₀ j o' n'
  on_step x j e p =
      let w = rw e at u.left in
      record { left = on_is x _ w; writes = step _ (turn (ap text_of e ∙ on_of x _ w) u.writes) p }

  -- a byte that is left and starts no escape is no CR
  bare_there : i < length f → get_or f i 0 ≡ 13 → false ≡ true
  bare_there h q = unfold is_some in (rw (step_ill f i h q) at u.left)

  pub plain_on : {o' : List ℕ} {n' : ℕ} → i < length f → (get_or f i 0 ≡ 92 → ⊥) → Put (get_or f i 0 ∷ []) o n o' n' → Unescaping f o₀ (i + 1) o' n'
  plain_on h q p = on_step _ (i + 1) (step_plain_lem f i h q (λ r. no_truth (bare_there h r))) p

  module _ (h : i < length f) (q : get_or f i 0 ≡ 92) {l : Option ℕ} (p : l ≡ escaped (get_or f (i + 1) 0)) where
    -- and the two are an escape
    pub letter_there : l ≡ None → false ≡ true
    letter_there z = unfold is_some in (rw (step_wrong f i h q (letter_follows h q) p z) at u.left)

    pub letter_on : {o' : List ℕ} {n' e : ℕ} → l ≡ Some e → Put (e ∷ []) o n o' n' → Unescaping f o₀ (i + 1 + 1) o' n'
    letter_on z w = on_step _ (i + 1 + 1) (step_escaped f i h q (letter_follows h q) p z) w

-- ---- the three answers
pub starts_on : {f o : List ℕ} {l : Option ℕ} {k : ℕ} → l ≡ on_some length (unescape f) → l ≡ Some k → Unescaping f o 0 o 0
starts_on {f} p e = record { left = is_some_lem (unescape f) (sym e ∙ p); writes = starts }

pub ill_formed : {f o : List ℕ} {l : Option ℕ} → l ≡ on_some length (unescape f) → l ≡ None → Unescapes f o o (Err Ill)
unfolding room_for held_after
ill_formed {f} p e = let n = is_none (unescape f) (sym e ∙ p) in record { answer = rw n; bytes = rw n }

-- a text of a known length
record Told (t : Option (List ℕ)) (k : ℕ) : Type 0 where
  is : t ≡ Some (text_of t)
  long : length (text_of t) ≡ k

told : (t : Option (List ℕ)) {k : ℕ} → Some k ≡ on_some length t → Told t k
unfolding on_some text_of
told None e = cc
told (Some t) {k} e = record { is = refl; long = let q : length t ≡ k = cc in omega arith }

no_room_as : (f o t : List ℕ) {k : ℕ} → unescape f ≡ Some t → length t ≡ k → length o < k → Unescapes f o o (Err NoRoom)
unfolding room_for held_after
no_room_as f o t q l h =
    let m : length o < length t = omega arith in
    record { answer = rw (q, lt-leb (length t) (length o) m); bytes = rw (q, lt-leb (length t) (length o) m) }

pub no_room : {f o : List ℕ} {l : Option ℕ} {k : ℕ} → l ≡ on_some length (unescape f) → l ≡ Some k → length o < k → Unescapes f o o (Err NoRoom)
no_room {f} {o} p e h = let t = told (unescape f) (sym e ∙ p) in no_room_as f o _ t.is t.long h

written : (t o₀ o : List ℕ) (r : ℕ) → Put t o₀ 0 o r → length t ≤ length o₀ → o ≡ t ++ drop (length t) o₀
written t o₀ o r p h =
    let z : 0 + length t ≤ length o₀ = omega arith in
    let k : 0 + length t ≡ length t = omega arith in
    let e = put_room p z in
    rw k at (put_fits p (omega arith))

done_as : (f o₀ o t : List ℕ) (n : ℕ) {k : ℕ} → unescape f ≡ Some t → length t ≡ k → k ≤ length o₀ → Leads t o₀ 0 [] o n → Unescapes f o₀ o (Ok k)
unfolding room_for held_after
done_as f o₀ o t n q l h w =
    let m : length t ≤ length o₀ = omega arith in
    record {
      answer = rw (q, le-leb (length t) (length o₀) m, l);
      bytes = by_order n (length o) (λ g. written t o₀ o n (ends_in w g) m) (λ g. written t o₀ o (length o + 1) (ends_out w g) m) ∙ rw (q, le-leb (length t) (length o₀) m);
    }

pub done : {f o₀ o : List ℕ} {l : Option ℕ} {i n k : ℕ} → l ≡ on_some length (unescape f) → l ≡ Some k → k ≤ length o₀ → Unescaping f o₀ i o n → length f ≤ i → Unescapes f o₀ o (Ok k)
unfolding text_of
done {f} {o₀} {o} {l} {i} {n} p e h u g =
    let t = told (unescape f) (sym e ∙ p) in
    done_as f o₀ o _ n t.is t.long h (turn (ap text_of (step_none f i g)) u.writes)
