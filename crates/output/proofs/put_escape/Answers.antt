use Rattle.std.proofs.Common.{rules}
use Rattle.output.proofs.Texts.{text_is, char_backslash, char_tab, char_lf, char_cr, char_plain}
use Rattle.output.proofs.put_escape.Goals as goal

pub returns-in-92 : goal.returns-in-92
returns-in-92 c = text_is _ (char_backslash _ c.in-92.is) c.put_pair.ensures

pub returns-in-9 : goal.returns-in-9
returns-in-9 c = text_is _ (char_tab _ c.in-9.is) c.put_pair-in-9.ensures

pub returns-in-10 : goal.returns-in-10
returns-in-10 c = text_is _ (char_lf _ c.in-10.is) c.put_pair-in-10.ensures

pub returns-in-13 : goal.returns-in-13
returns-in-13 c = text_is _ (char_cr _ c.in-13.is) c.put_pair-in-13.ensures

pub returns-in_default : goal.returns-in_default
returns-in_default c = text_is _ (char_plain c.args.c (search rules) (search rules) (search rules) (search rules)) c.put_byte.ensures
