use Rattle.rules.specs.Input.{input_of}
use mathlib.Core.Path.{refl}
use Rattle.rules.specs.Answer.{plain_answer}
use Rattle.recipe.proofs.Clears.{front_long, coded}
use Rattle.recipe.proofs.recipe_plain_form.Goals as goal

pub returns : goal.returns
returns c =
    let s = c.args in
    coded (plain_answer (input_of s.sheet.now s.text.now s.units.now s.flags)) s.out.now c.plain_form-r.ensures refl c.usable-room.ensures
    (front_long _ s.out.now c.usable-room.ensures.1) c.plain_form-r.auto.out c.clear_from.ensures c.code.ensures
