-- The character that bytes start with, by what the first byte was found to be.
use mathlib.Core.Path.{◌≡◌, refl, sym, ap, ◌∙◌}
use mathlib.Core.Bool.{Bool, true, false, not}
use mathlib.Core.List.{List, [], ◌∷◌}
use Prim.Native.Nat.{ℕ, ◌≤◌, ◌<◌, ◌+◌, ◌-◌, ◌*◌, ◌%◌}
use native.Mathlib.Omega.{arith}
use lib.ListN.{length, get_or, drop, take, length-drop}
use lib.Seq.{take-length, get_or-drop}
use Rattle.rules.specs.Utf8.{size_of, second, later, sized, first_of}
use Rattle.rules.proofs.Begins.{size_1, size_2, size_3, size_4, size_low, size_high}
use Rattle.utf8.specs.declared.Char.{Char}
use Rattle.std.specs.Prelude.{Option, None, Some}
use Rattle.utf8.specs.Decoding.{char_with, decoded_as, decoded_of}
use Rattle.utf8.proofs.Bytes.{byte_past, later_low, later_second, two_fault, two_char, three_none}

-- the part of a slice from a place on, as the logic has it
pub part_rest : (s : List ℕ) (at : ℕ) → take (length s - at) (drop at s) ≡ drop at s
part_rest s at = rw (← length-drop at s, take-length)

pub first_empty : (s : List ℕ) → length s < 1 → None ≡ decoded_of s
unfolding decoded_of
first_empty [] h = refl
first_empty (a ∷ s) h = absurd (omega arith)

-- of the bytes after the first one, as many count as the size says
same_2 : (a b : ℕ) (t : List ℕ) → b ≡ get_or t 0 0 → sized 2 a (b ∷ []) ≡ sized 2 a t
unfolding sized
same_2 a b t e = rw e

same_3 : (a b c : ℕ) (t : List ℕ) → b ≡ get_or t 0 0 → c ≡ get_or t 1 0 → sized 3 a (b ∷ c ∷ []) ≡ sized 3 a t
unfolding sized
same_3 a b c t e f = rw (e, f)

same_4 : (a b c d : ℕ) (t : List ℕ) → b ≡ get_or t 0 0 → c ≡ get_or t 1 0 → d ≡ get_or t 2 0 → sized 4 a (b ∷ c ∷ d ∷ []) ≡ sized 4 a t
unfolding sized
same_4 a b c d t e f g = rw (e, f, g)

module _ (s : List ℕ) (a : ℕ) (some : 1 ≤ length s) (ea : a ≡ get_or s 0 0) where
  after : (i : ℕ) → get_or s (1 + i) 0 ≡ get_or (drop 1 s) i 0
  after i = sym (get_or-drop 1 s i 0)

  of_size : (n : ℕ) → size_of a ≡ n → decoded_of s ≡ decoded_as n (sized n a (drop 1 s))
  of_size n z = go s some ea
    where
      go : (t : List ℕ) → 1 ≤ length t → a ≡ get_or t 0 0 → decoded_of t ≡ decoded_as n (sized n a (drop 1 t))
      go [] h e = absurd (omega arith)
      go (b ∷ t) h e = unfold decoded_of first_of in rw (← e, z)

  pub first_one : a < 128 → (x : ℕ) → x ≡ a → Some (char_with x 1) ≡ decoded_of s
  first_one h x e = rw (of_size 1 (size_1 a (omega arith)), e) (unfold sized decoded_as in refl)

  pub first_low : 128 ≤ a → a < 194 → None ≡ decoded_of s
  first_low h g = rw (of_size 0 (size_low a h g)) (unfold sized decoded_as in refl)

  pub first_high : 245 ≤ a → None ≡ decoded_of s
  first_high h = rw (of_size 0 (size_high a h)) (unfold sized decoded_as in refl)

  module _ (b : ℕ) (eb : b ≡ get_or s 1 0) (r : Option Char) where
    pub first_two : 194 ≤ a → a < 224 → r ≡ decoded_as 2 (sized 2 a (b ∷ [])) → r ≡ decoded_of s
    first_two h g e = e ∙ ap (decoded_as 2) (same_2 a b (drop 1 s) (eb ∙ after 0)) ∙ sym (of_size 2 (size_2 a h (omega arith)))

    module _ (c : ℕ) (ec : c ≡ get_or s 2 0) where
      pub first_three : 224 ≤ a → a < 240 → r ≡ decoded_as 3 (sized 3 a (b ∷ c ∷ [])) → r ≡ decoded_of s
      first_three h g e =
          e ∙ ap (decoded_as 3) (same_3 a b c (drop 1 s) (eb ∙ after 0) (ec ∙ after 1)) ∙ sym (of_size 3 (size_3 a h (omega arith)))

      pub first_four : (d : ℕ) → d ≡ get_or s 3 0 → 240 ≤ a → a < 245 → r ≡ decoded_as 4 (sized 4 a (b ∷ c ∷ d ∷ [])) → r ≡ decoded_of s
      first_four d ed h g e =
          e ∙ ap (decoded_as 4) (same_4 a b c d (drop 1 s) (eb ∙ after 0) (ec ∙ after 1) (ed ∙ after 2)) ∙ sym (of_size 4 (size_4 a h (omega arith)))

-- ---- at a place of a slice

module _ (s : List ℕ) (at : ℕ) (h : at < length s) where
  rest : 1 ≤ length (drop at s)
  rest = rw (length-drop at s) (omega arith)

  here : get_or s at 0 ≡ get_or (drop at s) 0 0
  here = sym (get_or-drop at s 0 0 ∙ (let z : at + 0 ≡ at = omega arith in rw z))

  there : (i : ℕ) → get_or s (at + i) 0 ≡ get_or (drop at s) i 0
  there i = sym (get_or-drop at s i 0)

  pub low_at : 128 ≤ get_or s at 0 → get_or s at 0 < 194 → None ≡ decoded_of (drop at s)
  low_at l m = first_low (drop at s) (get_or s at 0) rest here l m

  module _ (b : ℕ) (eb : b ≡ get_or s (at + 1) 0) (r : Option Char) where
    pub two_at : 194 ≤ get_or s at 0 → get_or s at 0 < 224 → r ≡ decoded_as 2 (sized 2 (get_or s at 0) (b ∷ [])) → r ≡ decoded_of (drop at s)
    two_at l m e = first_two (drop at s) (get_or s at 0) rest here b (eb ∙ there 1) r l m e

    pub three_at : (c : ℕ) → c ≡ get_or s (at + 2) 0 → 224 ≤ get_or s at 0 → get_or s at 0 < 240 → r ≡ decoded_as 3 (sized 3 (get_or s at 0) (b ∷ c ∷ [])) → r ≡ decoded_of (drop at s)
    three_at c ec l m e = first_three (drop at s) (get_or s at 0) rest here b (eb ∙ there 1) r c (ec ∙ there 2) l m e

  -- two bytes: any later byte may stand second
  module _ (b : ℕ) (eb : b ≡ get_or s (at + 1) 0) where
    module _ (l : 194 ≤ get_or s at 0) (m : get_or s at 0 < 224) (t : Bool) (et : t ≡ later b) where
      by : t ≡ second (get_or s at 0) b
      by = et ∙ later_second (get_or s at 0) b m

      pub two_fault_at : not t ≡ true → None ≡ decoded_of (drop at s)
      two_fault_at n = two_at b eb None l m (two_fault (get_or s at 0) b t by n)

      pub two_char_at : not t ≡ false → (x y : ℕ) → x ≡ get_or s at 0 → y ≡ b → Some (char_with (x % 32 * 64 + y % 64) 2) ≡ decoded_of (drop at s)
      two_char_at n x y ex ey = two_at b eb (Some (char_with (x % 32 * 64 + y % 64) 2)) l m (two_char (get_or s at 0) b t by n x y ex ey)

  -- the slice ends before the character does
  pub two_end : 194 ≤ get_or s at 0 → get_or s at 0 < 224 → length s ≤ at + 1 → None ≡ decoded_of (drop at s)
  two_end l m k = two_fault_at 0 (byte_past s (at + 1) k) l m false (later_low 0 (omega arith)) refl

  pub three_end : 224 ≤ get_or s at 0 → get_or s at 0 < 240 → length s ≤ at + 2 → None ≡ decoded_of (drop at s)
  three_end l m k = three_at (get_or s (at + 1) 0) refl None 0 (byte_past s (at + 2) k) l m (three_none (get_or s at 0) (get_or s (at + 1) 0))

pub ruleset first_cases = (first_empty, first_one, first_low, first_two, first_three, first_four, first_high)

pub ruleset wide_cases = (low_at, two_end, two_fault_at, two_char_at, three_end, three_at)
