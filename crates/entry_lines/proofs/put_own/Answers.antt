use Rattle.entry_lines.proofs.Own as own
use Rattle.entry_lines.proofs.put_own.Goals as goal

pub put_name-a-requires : goal.put_name-a-requires
put_name-a-requires c = (own.name_field_lem _ _ c.requires.name c.part_of-f.ensures c.text_outer_trimmed-w.ensures, c.place_in-p.ensures)

pub put_optional-b-requires : goal.put_optional-b-requires
put_optional-b-requires c = c.requires.alias

pub put_amount-c-requires : goal.put_amount-c-requires
put_amount-c-requires c = c.requires.quantity

pub put_optional-d-requires : goal.put_optional-d-requires
put_optional-d-requires c = c.requires.note

pub put_path-e-requires : goal.put_path-e-requires
put_path-e-requires c = (own.name_field_lem _ _ c.requires.name c.part_of-f.ensures c.text_outer_trimmed-w.ensures, c.place_in-p.ensures)

pub returns : goal.returns
returns c = own.put_own _ c.is_ingredient.ensures _ _ _ c.requires c.part_of-f.ensures c.text_outer_trimmed-w.ensures c.put_name-a.ensures c.put_optional-b.ensures c.put_amount-c.ensures c.put_optional-d.ensures c.put_path-e.ensures c.put_modifiers.ensures
