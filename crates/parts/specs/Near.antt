-- A number that is read at once, of at most five digits and the byte after them.
use Rattle.std.specs.Prelude.{◌≡◌, ℕ, ◌+◌, ◌-◌, ◌≤◌, List, ◌==◌, nat_le, None, Option, Some}
use Rattle.rules.specs.Basic.{pick}
use Rattle.parts.specs.Got.{NumberRead}

-- what the byte c is worth as a digit, modulo 2^32
unfoldable pub figure_of : ℕ → ℕ
figure_of c = pick (nat_le 48 c) (c - 48) (c + 4294967248)

-- n, if a tab's figure follows its digits
unfoldable pub end_of : ℕ → ℕ → ℕ → Option (ℕ × ℕ)
end_of y n next = pick (y == 4294967257) (Some (n, next)) None

-- a number of at most five digits, so that the next field starts near
pub record NearRead (line : List ℕ) (at : ℕ) (r : Option (ℕ × ℕ)) : Type 0 where
  pub reads : NumberRead line at r
  pub near : (n next : ℕ) → r ≡ Some (n, next) → next ≤ at + 6
