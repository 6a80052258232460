use Rattle.rules.specs.Input.{input_of}
use mathlib.Core.Path.{refl}
use Rattle.rules.specs.Answer.{collect_answer}
use Rattle.recipe.proofs.Clears.{front_long, coded}
use Rattle.recipe.proofs.recipe_collect.Goals as goal

pub returns : goal.returns
returns c =
    let s = c.args in
    coded (collect_answer (input_of s.sheet.now s.text.now s.units.now s.flags)) s.out.now c.collect-r.ensures refl c.usable-room.ensures
    (front_long _ s.out.now c.usable-room.ensures.1) c.collect-r.auto.out c.clear_from.ensures c.code.ensures
