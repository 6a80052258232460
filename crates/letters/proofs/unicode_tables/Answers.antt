use mathlib.Core.Path.{refl}
use Rattle.rules.specs.Alphabetic.{alphabetic}
use Rattle.rules.specs.Numeric.{numeric}
use Rattle.rules.specs.WhiteSpace.{white_space}
use Rattle.rules.specs.Ranges.{lookup}
use Rattle.rules.specs.Folding.{folding}
use Rattle.rules.specs.Unicode.{fold}
use Rattle.letters.specs.Tables.{starts, ends, keys, column, keys_below, word_for, near_word, near_code, near, unicode_tables}
use Rattle.letters.proofs.unicode_tables.Goals as goal

pub returns : goal.returns
unfolding unicode_tables starts ends keys column keys_below word_for near_word near_code near white_space alphabetic numeric folding fold lookup
returns c = refl
