use Rattle.entry_lines.proofs.Relations.{relation_definition, relation_reference}
use Rattle.entry_lines.proofs.put_relation.Goals as goal

pub returns-in-Definition : goal.returns-in-Definition
returns-in-Definition c = relation_definition _ _ _ c.in-Definition.is c.put_definition.ensures

pub returns-in-Reference : goal.returns-in-Reference
returns-in-Reference c = relation_reference _ _ _ c.in-Reference.is c.put_reference.ensures
