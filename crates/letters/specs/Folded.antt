-- What the code points of a folding are in memory.
use Rattle.std.specs.Prelude.{ℕ, List, [], ◌∷◌, eqb}
use Rattle.rules.specs.Basic.{pick}
use Rattle.letters.specs.declared.Folded.{Folded}
use Rattle.letters.specs.declared.Folded.TheVariants.{One, Two, Three}

unfoldable pub folded_of : Folded → List ℕ
folded_of (One a) = a ∷ []
folded_of (Two a b) = a ∷ b ∷ []
folded_of (Three a b c) = a ∷ b ∷ c ∷ []

-- the code points of a row of the table: 0 stands for none
unfoldable pub row_of : ℕ → ℕ → ℕ → List ℕ
row_of a b c = a ∷ pick (eqb b 0) [] (b ∷ pick (eqb c 0) [] (c ∷ []))
