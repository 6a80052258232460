-- Parts of the fields of a sheet.
use Rattle.std.specs.Prelude.{ℕ, ◌≡◌, true, false, List, ◌++◌, take, drop, get_or}
use Rattle.rules.specs.Basic.{tab, lf, blank, is_some}
use Rattle.rules.specs.Sheet.{unescape, Without}
use Rattle.rules.specs.Utf8.{later, is_utf8}
use Rattle.content.specs.Contents.{content_in}

-- what any field of a sheet's line satisfies, and any part of it that is cut at characters
pub record Field (f : List ℕ) : Type 0 where
  pub utf8 : is_utf8 f ≡ true
  pub well : is_some (unescape f) ≡ true
  pub no_tab : Without tab f
  pub no_lf : Without lf f

-- p is whole characters of p ++ q, also where q is cut
pub record Cut (p q : List ℕ) : Type 0 where
  pub content : (r t : List ℕ) → q ≡ r ++ t → content_in (p ++ r) ≡ content_in p ++ content_in r
  pub front : Field (p ++ q) → Field p
  pub back : Field (p ++ q) → Field q

-- a character of f starts at a place, or f ends there
abbrev pub CutAt : List ℕ → ℕ → Type 0
CutAt f at = Cut (take at f) (drop at f)

-- a rest that a character starts, which is no blank, or none
pub record Opens (r : List ℕ) : Type 0 where
  pub starts : later (get_or r 0 0) ≡ false
  pub solid : get_or r 0 0 ≡ blank → ⊥
