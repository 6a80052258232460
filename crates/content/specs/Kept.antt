-- What is read where of blanks that follow one another only the first is kept.
use Rattle.std.specs.Prelude.{ℕ, ◌+◌, ◌≤◌, ◌<◌, ◌≡◌, List, ◌∷◌, length, drop}
use Rattle.rules.specs.Basic.{blank}
use Rattle.rules.specs.Text.{retain}
use Rattle.rules.specs.Utf8.{Scalar}
use Rattle.utf8.specs.declared.Char.{Char}
use Rattle.content.specs.Contents.{content_in, kept_in}

-- after a blank, the blanks from `at` to r go
pub record Skipped (f : List ℕ) (at r : ℕ) : Type 0 where
  pub least : at ≤ r
  pub most : r ≤ length f
  pub is : retain blank (content_in (drop at f)) ≡ kept_in (drop r f)

-- ch is the character at the place, which takes the blanks with it that go after it
pub record KeptStep (f : List ℕ) (at : ℕ) (ch : Char) : Type 0 where
  pub reads : kept_in (drop at f) ≡ ch.code ∷ kept_in (drop (at + ch.size) f)
  pub least : 0 < ch.size
  pub most : at + ch.size ≤ length f
  pub scalar : Scalar ch.code
