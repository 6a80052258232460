use Rattle.pass.proofs.Lines.{component_ready, component_done, timer_ready, timer_done}
use Rattle.pass.proofs.on_component.Goals as goal

pub on_ingredient-requires : goal.on_ingredient-requires
on_ingredient-requires c = let q = component_ready c.requires.0 c.requires.1 _ c.in-Ingredient.is in (q.0, q.1, q.2, q.3, c.requires.2)

pub on_cookware-requires : goal.on_cookware-requires
on_cookware-requires c = let q = component_ready c.requires.0 c.requires.1 _ c.in-Cookware.is in (q.0, q.1, q.2, q.3, c.requires.2)

pub on_timer-requires : goal.on_timer-requires
on_timer-requires c = timer_ready c.requires.0 c.requires.1 _ _ _ c.in-Timer.is

pub returns-in-Ingredient-clause-done : goal.returns-in-Ingredient-clause-done
returns-in-Ingredient-clause-done c = component_done c.requires.0.part c.in-Ingredient.is c.on_ingredient.ensures.done

pub returns-in-Cookware-clause-done : goal.returns-in-Cookware-clause-done
returns-in-Cookware-clause-done c = component_done c.requires.0.part c.in-Cookware.is c.on_cookware.ensures.done

pub returns-in-Timer-clause-done : goal.returns-in-Timer-clause-done
returns-in-Timer-clause-done c = timer_done _ _ _ c.in-Timer.is c.requires.1.kept.fit c.on_timer.ensures.done
