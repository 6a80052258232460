use Rattle.std.proofs.Common.{rules}
use Rattle.rules.specs.Basic.{on_some, word_in}
use Rattle.rules.specs.Words.{define_words}
use Rattle.rules.proofs.Ascii.{word_in_chars, ascii_defines}
use Rattle.sheet.specs.Words.{define_of}
use Rattle.sheet.proofs.define_mode.Goals as goal

pub returns-then-same_bytes-6 : goal.returns-then-same_bytes-6
unfolding on_some word_in define_of
returns-then-same_bytes-6 c = rw (word_in_chars c.args.f.now define_words ascii_defines) (search rules)

pub returns : goal.returns
unfolding on_some word_in define_of
returns c = rw (word_in_chars c.args.f.now define_words ascii_defines) (search rules)
