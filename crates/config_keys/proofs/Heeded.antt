-- Keys that set a mode where the flags heed them.
use Prim.Native.Nat.{ℕ, ◌%◌}
use mathlib.Core.Path.{◌≡◌, refl, sym, ap, ◌∙◌}
use mathlib.Core.List.{List}
use mathlib.Core.Bool.{Bool, true, false}
use mathlib.Core.Logic.{◌⊎◌, inl, inr}
use borrow.Author.Tests.{eq-eqb, ne_eqb}
use lib.Dec.{eqb}
use Rattle.rules.specs.Text.{text_trimmed}
use Rattle.rules.specs.Modes.{key_of, has_modes}
use Rattle.rules.specs.Plain.{is_mode_key}
use Rattle.content.specs.Contents.{content_in}
use Rattle.config_keys.specs.Keys.{key_in, HeededKey}
use Rattle.config_keys.specs.declared.Key.{Key}
use Rattle.config_keys.specs.declared.Key.TheVariants.{Define, Duplicate, Unknown, Ordinary}

other_key : (k : Key) → (k ≡ Define → ⊥) → (k ≡ Duplicate → ⊥) → is_mode_key (key_in k) ≡ false
unfolding is_mode_key key_in
other_key Define n m = absurd (n refl)
other_key Duplicate n m = absurd (m refl)
other_key Unknown n m = refl
other_key Ordinary n m = refl

module _ {flags : ℕ} {f : List ℕ} where
  pub heeded_off : (flags % 2 ≡ 1 → ⊥) → HeededKey flags f (eqb (flags % 2) 1)
  unfolding has_modes
  heeded_off n = record { is = rw (ne_eqb (flags % 2) 1 n) }

  module _ (k : Key) (on : flags % 2 ≡ 1) (p : key_in k ≡ key_of (text_trimmed (content_in f))) where
    heeded_by : {r : Bool} → is_mode_key (key_in k) ≡ r → HeededKey flags f r
    unfolding has_modes
    heeded_by e = record { is = rw (eq-eqb (flags % 2) 1 on) (sym (ap is_mode_key (sym p) ∙ e)) }

    pub heeded_mode : (k ≡ Define) ⊎ (k ≡ Duplicate) → HeededKey flags f true
    heeded_mode (inl e) = heeded_by (ap (λ (x : Key). is_mode_key (key_in x)) e ∙ unfold is_mode_key key_in in refl)
    heeded_mode (inr e) = heeded_by (ap (λ (x : Key). is_mode_key (key_in x)) e ∙ unfold is_mode_key key_in in refl)

    pub heeded_other : (k ≡ Define → ⊥) → (k ≡ Duplicate → ⊥) → HeededKey flags f false
    heeded_other n m = heeded_by (other_key k n m)
