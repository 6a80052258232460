use Rattle.page_fields.proofs.Amounts.{kind_number, kind_range, kind_textual}
use Rattle.page_fields.proofs.put_kind.Goals as goal

pub returns-in-Number : goal.returns-in-Number
returns-in-Number c = kind_number c.in-Number.is c.put_field.ensures

pub returns-in-Range : goal.returns-in-Range
returns-in-Range c = kind_range c.in-Range.is c.put_field-in-Range.ensures

pub returns-in-Textual : goal.returns-in-Textual
returns-in-Textual c = kind_textual c.in-Textual.is c.put_field-in-Textual.ensures
