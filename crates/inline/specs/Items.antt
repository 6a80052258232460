-- How many items a text is split into.
use Rattle.std.specs.Prelude.{ℕ, ◌≤◌, ◌≡◌, List, ltb, length}
use Rattle.rules.specs.Basic.{pick}
use Rattle.content.specs.Contents.{content_in}
use Rattle.rules.specs.Units.{NamedUnit}
use Rattle.rules.specs.Inline.{inline_pieces}
use Rattle.rules.specs.Pass.{quantities_of}
use Rattle.inline.specs.declared.Counts.{Counts}

-- r counts the pieces of a text, and the quantities among them; each has a byte of it
pub record CountsOf (us : List NamedUnit) (s : List ℕ) (r : Counts) : Type 0 where
  pub items : r.items ≡ length (inline_pieces us (content_in s))
  pub quantities : r.quantities ≡ length (quantities_of (inline_pieces us (content_in s)))
  pub few : r.items ≤ length s

-- a text from one place to another is an item where it is not empty
unfoldable pub text_items : ℕ → ℕ → ℕ
text_items a e = pick (ltb a e) 1 0
