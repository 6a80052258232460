-- Which component of a step is written with REF: one that refers to another without it.
use mathlib.Core.Path.{◌≡◌, refl, sym, ◌∙◌}
use mathlib.Core.Bool.{Bool, true, false}
use Rattle.std.specs.Prelude.{Option, None, Some}
use Rattle.rules.specs.Input.{Context}
use Rattle.rules.specs.Basic.{pick}
use Rattle.rules.specs.Event.{Component, Intermediate, ingredient_event, cookware_event}
use Rattle.rules.specs.Model.{ingredient, cookware}
use Rattle.rules.specs.Reference.{Earlier}
use Rattle.rules.specs.State.{State}
use Rattle.rules.specs.Components.{made_intermediate, make_ingredient}
use Rattle.rules.specs.Plain.{implicit_of, marked_if, implicit_ingredient, implicit_cookware, marked_component}
use Rattle.rules.proofs.Basics.{no_some}
use Rattle.plain_lines.specs.Lines.{marked_as}

same_picked : (b : Bool) (o : Option Earlier) → pick b o o ≡ o
same_picked true o = refl
same_picked false o = refl

module _ (cx : Context) (st : State) (c : Component) where
  -- an ingredient with an intermediate reference refers to no other ingredient
  no_implicit : (i : Intermediate) → implicit_ingredient cx st c (Some i) ≡ None
  unfolding implicit_ingredient implicit_of make_ingredient made_intermediate
  no_implicit i = same_picked c.modifiers.ref None

  pub ingredient_marked : (i : Option Intermediate) {d : Earlier} → implicit_ingredient cx st c i ≡ Some d → marked_component cx st (ingredient_event c i) ≡ marked_as ingredient c
  unfolding marked_component marked_if marked_as
  ingredient_marked None e = rw e
  ingredient_marked (Some i) e = no_some (sym (no_implicit i) ∙ e)

  pub ingredient_kept : (i : Option Intermediate) → implicit_ingredient cx st c i ≡ None → marked_component cx st (ingredient_event c i) ≡ ingredient_event c i
  unfolding marked_component marked_if
  ingredient_kept i e = rw e

  pub cookware_marked : {d : Earlier} → implicit_cookware cx st c ≡ Some d → marked_component cx st (cookware_event c) ≡ marked_as cookware c
  unfolding marked_component marked_if marked_as
  cookware_marked e = rw e

  pub cookware_kept : implicit_cookware cx st c ≡ None → marked_component cx st (cookware_event c) ≡ cookware_event c
  unfolding marked_component marked_if
  cookware_kept e = rw e
