-- Bytes that tell a name's character by themselves.
use Rattle.std.specs.Prelude.{ℕ, ◌+◌, ◌≡◌, true}
use Rattle.rules.specs.Basic.{within, pick}
use Rattle.content.specs.Readings.{plain_byte}

-- a letter of ASCII as a small letter
abbrev pub lowered : ℕ → ℕ
lowered c = pick (within 65 90 c) (c + 32) c

-- two plain bytes that are folded to the same
pub record SameLetter (x y : ℕ) : Type 0 where
  pub left : plain_byte x ≡ true
  pub right : plain_byte y ≡ true
  pub is : lowered x ≡ lowered y
