-- The path in a field before a name, and where the name starts.
use Rattle.std.specs.Prelude.{ℕ, ◌≤◌, ◌<◌, ◌≡◌, Bool, true, false, List, [], ◌∷◌, ◌++◌, eqb, length, take, drop, None, Some}
use Rattle.rules.specs.Basic.{pick, slash, join_by, on_some, each}
use Rattle.rules.specs.Model.{as_slash, parse_reference, name_of, path_of}
use Rattle.rules.specs.Sheet.{Without}
use Rattle.content.specs.declared.NamePlace.{NamePlace}
use Rattle.content.specs.Contents.{content_in, kept_in}
use Rattle.content.specs.Parts.{CutAt}

-- a slash or a backslash parts a path
unfoldable pub is_separator : ℕ → Bool
is_separator c = eqb (as_slash c) slash

unfoldable pub separator_first : List ℕ → Bool
separator_first [] = false
separator_first (c ∷ cs) = is_separator c

-- a separator stands from e to s; both are 0 where none was found
pub data Found (f : List ℕ) : ℕ → ℕ → Type 0 where
  nowhere : Found f 0 0
  found : {e s : ℕ} (c : ℕ) → is_separator c ≡ true → e < s → CutAt f e → CutAt f s → content_in (take s f) ≡ content_in (take e f) ++ (c ∷ []) → Found f e s

-- it is the last one
pub record Separated (f : List ℕ) (p : NamePlace) : Type 0 where
  pub last : Found f p.end p.start
  pub most : p.start ≤ length f
  pub content : content_in f ≡ content_in (take p.start f) ++ content_in (drop p.start f)
  pub plain : Without slash (each as_slash (content_in (drop p.start f)))

-- where the path ends and the name starts: the name, and the path as it is written; without a path both are 0
pub record NameAt (f : List ℕ) (p : NamePlace) : Type 0 where
  pub order : p.end ≤ p.start
  pub most : p.start ≤ length f
  pub path_cut : CutAt f p.end
  pub name_cut : CutAt f p.start
  pub name : kept_in (drop p.start f) ≡ name_of (kept_in f) (parse_reference (kept_in f))
  pub path : on_some (join_by slash) (path_of (parse_reference (kept_in f))) ≡ pick (eqb p.start 0) None (Some (each as_slash (kept_in (take p.end f))))
