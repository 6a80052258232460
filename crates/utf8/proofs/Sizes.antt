-- How many bytes the character takes that starts at a place, by what its bytes were found to be.
use mathlib.Core.Path.{◌≡◌, refl, sym, ap, ◌∙◌}
use mathlib.Core.Bool.{Bool, true, false, not}
use mathlib.Core.List.{List}
use Prim.Native.Nat.{ℕ, ◌≤◌, ◌<◌, ◌+◌}
use lib.ListN.{length, get_or, drop}
use Rattle.rules.specs.Utf8.{second, later}
use Rattle.utf8.specs.declared.Char.{Char}
use Rattle.std.specs.Prelude.{Option, None, Some}
use Rattle.utf8.specs.Decoding.{decoded_of, decoded_size}
use Rattle.utf8.proofs.Bytes.{three_fault, three_fault_2, three_char}
use Rattle.utf8.proofs.Firsts.{low_at, two_fault_at, two_char_at, three_at}

fault_size : (t : List ℕ) → None ≡ decoded_of t → 0 ≡ decoded_size (decoded_of t)
unfolding decoded_size
fault_size t e = ap decoded_size e

char_size : (t : List ℕ) {ch : Char} → Some ch ≡ decoded_of t → ch.size ≡ decoded_size (decoded_of t)
unfolding decoded_size
char_size t e = ap decoded_size e

-- of a match: the size of what was decoded
pub size_fault : (s : List ℕ) (at : ℕ) (d : Option Char) → d ≡ decoded_of (drop at s) → d ≡ None → 0 ≡ decoded_size (decoded_of (drop at s))
size_fault s at d e f = fault_size (drop at s) (sym f ∙ e)

pub size_char : (s : List ℕ) (at : ℕ) (d : Option Char) → d ≡ decoded_of (drop at s) → (ch : Char) → d ≡ Some ch → ch.size ≡ decoded_size (decoded_of (drop at s))
size_char s at d e ch f = char_size (drop at s) (sym f ∙ e)

module _ (s : List ℕ) (at : ℕ) (h : at < length s) where
  pub low_size : 128 ≤ get_or s at 0 → get_or s at 0 < 194 → 0 ≡ decoded_size (decoded_of (drop at s))
  low_size l m = fault_size (drop at s) (low_at s at h l m)

  module _ (b : ℕ) (eb : b ≡ get_or s (at + 1) 0) (t : Bool) where
    module _ (l : 194 ≤ get_or s at 0) (m : get_or s at 0 < 224) (et : t ≡ later b) where
      pub two_miss : not t ≡ true → 0 ≡ decoded_size (decoded_of (drop at s))
      two_miss n = fault_size (drop at s) (two_fault_at s at h b eb l m t et n)

      pub two_size : not t ≡ false → 2 ≡ decoded_size (decoded_of (drop at s))
      two_size n = char_size (drop at s) (two_char_at s at h b eb l m t et n _ _ refl refl)

    module _ (c : ℕ) (ec : c ≡ get_or s (at + 2) 0) (l : 224 ≤ get_or s at 0) (m : get_or s at 0 < 240) (et : t ≡ second (get_or s at 0) b) where
      pub three_miss : not t ≡ true → 0 ≡ decoded_size (decoded_of (drop at s))
      three_miss n = fault_size (drop at s) (three_at s at h b eb None c ec l m (three_fault (get_or s at 0) b t et c n))

      module _ (u : Bool) (eu : u ≡ later c) (n : not t ≡ false) where
        pub three_miss_2 : not u ≡ true → 0 ≡ decoded_size (decoded_of (drop at s))
        three_miss_2 o = fault_size (drop at s) (three_at s at h b eb None c ec l m (three_fault_2 (get_or s at 0) b t et c u eu n o))

        pub three_size : not u ≡ false → 3 ≡ decoded_size (decoded_of (drop at s))
        three_size o = char_size (drop at s) (three_at s at h b eb _ c ec l m (three_char (get_or s at 0) b t et c u eu n o _ _ _ refl refl refl))

pub ruleset size_cases = (low_size, two_miss, two_size, three_miss, three_miss_2, three_size, size_fault, size_char)
