-- The field of modifiers.
use Prim.Native.Nat.{ℕ, ◌+◌, ◌≤◌, ◌<◌}
use mathlib.Core.Path.{◌≡◌, refl, sym, ◌∙◌}
use mathlib.Core.Bool.{Bool, true, false, not}
use mathlib.Core.List.{List, [], ◌∷◌, ◌++◌, append_assoc}
use lib.ListN.{length}
use Rattle.rules.specs.Basic.{tab, pick, when, is_empty}
use Rattle.rules.specs.Sheet.{escape_char, escape}
use Rattle.rules.specs.Event.{Modifiers}
use Rattle.rules.specs.Write.{or_point, modifiers_field}
use Rattle.rules.proofs.Basics.{no_truth}
use Rattle.output.specs.Put.{Put, tabbed}
use Rattle.output.proofs.Puts.{put_seq, starts, ends_in, ends_out}
use Rattle.output.proofs.Texts.{tabbed_one}
use Rattle.page_fields.specs.Letters.{letters}

-- ---- one letter

module _ {b : Bool} (c : ℕ) {o₀ : List ℕ} {at : ℕ} where
  pub letter_set : {o : List ℕ} {r : ℕ} → b ≡ true → Put (c ∷ []) o₀ at o r → Put (when b c) o₀ at o r
  unfolding when
  letter_set e x = rw e x

  pub letter_none : b ≡ false → at ≤ length o₀ → Put (when b c) o₀ at o₀ at
  unfolding when
  letter_none e h = rw e (ends_in starts h)

  pub letter_past : b ≡ false → length o₀ < at → Put (when b c) o₀ at o₀ (length o₀ + 1)
  unfolding when
  letter_past e h = rw e (ends_out starts h)

-- ---- all letters

pub put_letters : {o₀ o₁ o₂ o₃ o₄ o₅ : List ℕ} {at i j k l r : ℕ} (m : Modifiers) → Put (when m.recipe 64) o₀ at o₁ i → Put (when m.ref 38) o₁ i o₂ j → Put (when m.hidden 45) o₂ j o₃ k → Put (when m.opt 63) o₃ k o₄ l → Put (when m.new 43) o₄ l o₅ r → Put (letters m) o₀ at o₅ r
unfolding letters
put_letters m a b c d e = put_seq (put_seq (put_seq (put_seq a b) c) d) e

-- a value that is true where a is, and b elsewhere
module _ {a v : Bool} (b : Bool) where
  pub or_then : a ≡ true → v ≡ a → v ≡ pick a true b
  or_then e q = rw e (q ∙ e)

  pub or_else : a ≡ false → v ≡ b → v ≡ pick a true b
  or_else e q = rw e q

none_of : (a b c d e : Bool) → not (pick (pick (pick (pick a true b) true c) true d) true e) ≡ is_empty (letters (record { recipe = a; ref = b; hidden = c; opt = d; new = e }))
unfolding letters when is_empty
none_of true b c d e = refl
none_of false true c d e = refl
none_of false false true d e = refl
none_of false false false true e = refl
none_of false false false false true = refl
none_of false false false false false = refl

pub none_set : (m : Modifiers) (x y z r : Bool) → x ≡ pick m.recipe true m.ref → y ≡ pick x true m.hidden → z ≡ pick y true m.opt → r ≡ pick z true m.new → not r ≡ is_empty (letters m)
none_set m x y z r p q s t = rw (t, s, q, p) (none_of m.recipe m.ref m.hidden m.opt m.new)

-- ---- the field

escape_append : (s w : List ℕ) → escape (s ++ w) ≡ escape s ++ escape w
unfolding escape
escape_append [] w = refl
escape_append (c ∷ s) w = rw (escape_append s w, append_assoc)

-- what is written as it is, one after another
pub escape_both : (v w : List ℕ) → escape v ≡ v → escape w ≡ w → escape (v ++ w) ≡ v ++ w
escape_both v w e f = escape_append v w ∙ rw (e, f)

module _ (c : ℕ) (e : escape (c ∷ []) ≡ c ∷ []) where
  escape_when : (b : Bool) → escape (when b c) ≡ when b c
  unfolding when
  escape_when true = e
  escape_when false = unfold escape in refl

escape_letters : (m : Modifiers) → escape (letters m) ≡ letters m
unfolding letters
escape_letters m =
    escape_both _ _ (escape_both _ _ (escape_both _ _ (escape_both _ _ (escape_when 64 (unfold escape escape_char in refl) m.recipe) (escape_when 38 (unfold escape escape_char in refl) m.ref)) (escape_when 45 (unfold escape escape_char in refl) m.hidden))
    (escape_when 63 (unfold escape escape_char in refl) m.opt)) (escape_when 43 (unfold escape escape_char in refl) m.new)

point_of : (s : List ℕ) → is_empty s ≡ true → or_point s ≡ 46 ∷ []
unfolding is_empty or_point
point_of [] e = refl
point_of (c ∷ s) e = no_truth e

letters_of : (s : List ℕ) → is_empty s ≡ false → or_point s ≡ s
unfolding is_empty or_point
letters_of [] e = no_truth (sym e)
letters_of (c ∷ s) e = refl

module _ (m : Modifiers) {b : Bool} {o₀ o₁ o₂ : List ℕ} {at n r : ℕ} (e : b ≡ is_empty (letters m)) (x : Put (tab ∷ []) o₀ at o₁ n) where
  pub put_point : b ≡ true → Put (46 ∷ []) o₁ n o₂ r → Put (tabbed (modifiers_field m ∷ [])) o₀ at o₂ r
  put_point t y =
      let q : modifiers_field m ≡ 46 ∷ [] = (unfold modifiers_field letters in point_of (letters m) (sym e ∙ t)) in
      rw (q, tabbed_one (46 ∷ [])) (unfold escape escape_char in put_seq x y)

  pub put_some : b ≡ false → Put (letters m) o₁ n o₂ r → Put (tabbed (modifiers_field m ∷ [])) o₀ at o₂ r
  put_some t y =
      let q : modifiers_field m ≡ letters m = (unfold modifiers_field letters in letters_of (letters m) (sym e ∙ t)) in
      rw (q, tabbed_one (letters m), escape_letters m) (put_seq x y)
