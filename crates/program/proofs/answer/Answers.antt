use Rattle.program.proofs.Prints.{form_printed, page_printed}
use Rattle.program.proofs.answer.Goals as goal

pub returns-then-plain : goal.returns-then-plain
returns-then-plain c = form_printed c.if-plain.true c.plain_form-f.ensures c.print_answer.ensures

pub returns : goal.returns
returns c = page_printed c.if-plain.false c.collect-r.ensures c.print_answer-2.ensures
