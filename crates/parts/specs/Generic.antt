-- What comes of a reader that is handed on: of one field, and of an opt part.
use Rattle.std.specs.Prelude.{◌≡◌, ℕ, ◌≤◌, List, length, Option}
use Rattle.std.specs.Borrow.{Bor}
use Rattle.std.specs.Fn.{Once, FnOnceReturns, FnOnceReturnsAt}
use Rattle.rules.specs.Read.{Fields, ◌>>=◌, saying, opt, field}
use Rattle.sheet.specs.Lines.{fields_from, field_at}
use Rattle.parts.specs.declared.Dash.TheVariants as dash
use Rattle.parts.specs.Got.{got_as, DashAt}

-- what was read, with the fields that are left
abbrev pub found_in : {T : Type 0} → List ℕ → Option (T × ℕ) → Option (T × Fields)
found_in line r = got_as (λ v. v) line r

-- `word` answers `said` of the field at the position, and r is what a reader of one field that says `said` reads there
pub record WordReadBy {F T : Type 0} (g : Once F (Bor (List ℕ) × Unit {0}) (Option T)) (word : F) (line : List ℕ) (at : ℕ) (r : Option (T × ℕ)) : Type 0 where
  pub said : Option T
  pub called : at ≤ length line → FnOnceReturnsAt g word (field_at line at) said
  pub is : found_in line r ≡ (field >>= (λ f. saying said)) (fields_from line at)

-- `read` answers `part` at the position if an opt part is there, and r is what `opt` of a reader that finds `part` reads there
pub record OptReadBy {F T : Type 0} (g : Once F (Bor (List ℕ) × (ℕ × Unit {0})) (Option (T × ℕ))) (read : F) (line : List ℕ) (at : ℕ) (r : Option (Option T × ℕ)) : Type 0 where
  pub part : Option (T × ℕ)
  pub called : DashAt line at dash.Present → (p : Bor (List ℕ)) × (p.now ≡ line) × FnOnceReturns g read (p, (at, tt)) part
  pub is : found_in line r ≡ opt (λ fs. found_in line part) (fields_from line at)
