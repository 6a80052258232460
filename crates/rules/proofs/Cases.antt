-- The nine cases of document 01 ("Hollow versions"): one theorem, by computing.
use mathlib.Core.Path.{◌≡◌, refl}
use Rattle.rules.specs.Basic.{each}
use Rattle.rules.specs.NineCases.{nine, printed_for, expected_of}
use Rattle.rules.specs.Evaluate.{evaluate}

pub nine_cases : each printed_for nine ≡ each expected_of nine
unfolding evaluate
nine_cases = refl
