use Rattle.entry_lines.proofs.Relations.{word_ingredient, word_cookware}
use Rattle.entry_lines.proofs.put_word.Goals as goal
use Rattle.entry_lines.proofs.put_word.Goals.{in-Ingredient, in-Cookware}

pub returns : goal.returns
returns c = elim c.match-kind.branch [
  | in-Ingredient w ↦ word_ingredient w.in-Ingredient.is (rw w.word-is at c.put_bytes.ensures)
  | in-Cookware w ↦ word_cookware w.in-Cookware.is (rw w.word-is at c.put_bytes.ensures)
]
