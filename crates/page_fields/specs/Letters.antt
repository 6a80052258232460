-- The letters of modifiers on a page.
use Rattle.std.specs.Prelude.{ℕ, Bool, ◌&&◌, not, List, ◌++◌}
use Rattle.rules.specs.Basic.{when}
use Rattle.rules.specs.Words.{ValueKind}
use Rattle.rules.specs.Event.{Modifiers}
use Rattle.rules.specs.Model.{is_textual}

-- `@`, `&`, `-`, `?`, `+`, each where its modifier is set
unfoldable pub letters : Modifiers → List ℕ
letters m = when m.recipe 64 ++ when m.ref 38 ++ when m.hidden 45 ++ when m.opt 63 ++ when m.new 43

-- whether a quantity's value is scalable
unfoldable pub scalable : Bool → ValueKind → Bool → Bool
scalable of_ingredient kind lock = of_ingredient && not (is_textual kind) && not lock
