-- What `find_inline_quantity` answers.
use Rattle.std.specs.Prelude.{ℕ, ◌≤◌, ◌<◌, ◌≡◌, List, ◌∷◌, ◌++◌, length, drop, Option, MatchOption}
use Rattle.content.specs.Contents.{content_in}
use Rattle.content.specs.Parts.{Field}
use Rattle.rules.specs.Units.{NamedUnit}
use Rattle.rules.specs.Inline.{quantity_piece, text_if_any, inline_pieces}
use Rattle.inline.specs.declared.Inline.{Inline}
use Rattle.inline.specs.Scans.{part}

-- a quantity of a text from a place on: the pieces are the text before its number, it, and the pieces after its unit; its places are
-- in order, and each part is cut at characters
pub record FoundAt (us : List NamedUnit) (s : List ℕ) (from : ℕ) (q : Inline) : Type 0 where
  pub is : inline_pieces us (content_in (drop from s))
      ≡ text_if_any (content_in (part from q.number_from s))
      ++ (quantity_piece (content_in (part q.number_from q.number_to s)) (content_in (part q.unit_from q.unit_to s)) ∷ inline_pieces us (content_in (drop q.after s)))
  pub start : from ≤ q.number_from
  pub number : q.number_from < q.number_to
  pub gap : q.number_to ≤ q.unit_from
  pub unit : q.unit_from ≤ q.unit_to
  pub rest : q.unit_to ≤ q.after
  pub end : q.after ≤ length s
  pub before_field : Field (part from q.number_from s)
  pub number_field : Field (part q.number_from q.number_to s)
  pub unit_field : Field (part q.unit_from q.unit_to s)
  pub after_field : Field (drop q.after s)

-- the first quantity of a text from a place on; where there is none, all of it is text
abbrev pub InlineAt : List NamedUnit → List ℕ → ℕ → Option Inline → Type 0
InlineAt us s from r = MatchOption r (inline_pieces us (content_in (drop from s)) ≡ text_if_any (content_in (drop from s))) (FoundAt us s from)
