use Rattle.inputs.proofs.Checks.{words_short, bytes_short, sheet_long, text_long, units_long, lengths_good, refused_ready}
use Rattle.inputs.proofs.check_early.Goals as goal

pub returns-then-words-lt-WORDS : goal.returns-then-words-lt-WORDS
returns-then-words-lt-WORDS c = (words_short c.if-words-lt-WORDS.true, refused_ready c.told-index)

pub returns-then-bytes-lt-BYTES : goal.returns-then-bytes-lt-BYTES
returns-then-bytes-lt-BYTES c = (bytes_short c.if-words-lt-WORDS.false c.if-bytes-lt-BYTES.true, refused_ready c.told-index)

pub returns-then-sheet-gt65536 : goal.returns-then-sheet-gt65536
returns-then-sheet-gt65536 c = (sheet_long c.if-words-lt-WORDS.false c.if-bytes-lt-BYTES.false c.if-sheet-gt65536.true, refused_ready c.told-index)

pub returns-then-text-gt65535 : goal.returns-then-text-gt65535
returns-then-text-gt65535 c = (text_long c.if-words-lt-WORDS.false c.if-bytes-lt-BYTES.false c.if-sheet-gt65536.false c.if-text-gt65535.true, refused_ready c.told-index)

pub returns-then-units-gt16384 : goal.returns-then-units-gt16384
returns-then-units-gt16384 c = (units_long c.if-words-lt-WORDS.false c.if-bytes-lt-BYTES.false c.if-sheet-gt65536.false c.if-text-gt65535.false c.if-units-gt16384.true, refused_ready c.told-index)

pub returns : goal.returns
returns c = (lengths_good c.if-words-lt-WORDS.false c.if-bytes-lt-BYTES.false c.if-sheet-gt65536.false c.if-text-gt65535.false c.if-units-gt16384.false c.check_contents.ensures.0, c.check_contents.ensures.1)
