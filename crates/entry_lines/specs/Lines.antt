-- The lines of ingredients and of cookware, as one writer has them.
use Rattle.std.specs.Prelude.{ℕ, ◌≤◌, ◌≡◌, true, List, [], ◌∷◌, ◌++◌, eqb, length, take, drop, Option, None, Some}
use Rattle.rules.specs.Basic.{pick, comma, slash, decimal, join_by, each, on_some}
use Rattle.rules.specs.Utf8.{encode}
use Rattle.rules.specs.Event.{Component, Modifiers}
use Rattle.rules.specs.Read.{Fields}
use Rattle.rules.specs.Write.{modifiers_field}
use Rattle.rules.specs.Model.{Kind, ingredient, cookware, as_slash, to_step, to_section, target_of, Entry, name_of, path_of, reference_in, entry_of, set_modifiers}
use Rattle.rules.specs.Model as rules
use Rattle.rules.specs.Page.{optional, amount_fields, target_word, ingredient_line, cookware_line}
use Rattle.content.specs.Contents.{kept_in}
use Rattle.content.specs.Parts.{Field}
use Rattle.content.specs.declared.NamePlace.{NamePlace}
use Rattle.model.specs.declared.Target.{Target}
use Rattle.model.specs.declared.Target.TheVariants.{Ingredient, Step, Section}

-- `ingredient` or `cookware`
unfoldable pub kind_word : Kind → List ℕ
kind_word k = target_word (target_of k)

-- what an entry of a kind refers to
unfoldable pub target_in : Kind → Target → rules.Target
target_in k Ingredient = target_of k
target_in k Step = to_step
target_in k Section = to_section

unfoldable pub entry_line : Kind → ℕ → Entry → List ℕ
entry_line ingredient = ingredient_line
entry_line cookware = cookware_line

-- numbers, each after a comma
unfoldable pub comma_each : List ℕ → List ℕ
comma_each [] = []
comma_each (n ∷ ns) = comma ∷ (decimal n ++ comma_each ns)

-- "`cookware` the same without path"
unfoldable pub path_fields : Kind → Option (List (List ℕ)) → Fields
path_fields ingredient path = optional (on_some (join_by slash) path) ∷ []
path_fields cookware path = []

-- the fields between an entry's index and its relation
unfoldable pub own_fields : Kind → Entry → Fields
own_fields k e =
    (encode e.name ∷ optional e.alias ∷ []) ++ amount_fields e.quantity ++ (optional e.note ∷ []) ++ path_fields k e.path
    ++ (modifiers_field e.modifiers ∷ [])

-- the entry of a component with the modifiers that the pass gave it
unfoldable pub marked_entry : Kind → Modifiers → Component → Entry
marked_entry k m c = set_modifiers m (entry_of k true c)

-- p parts a trimmed name, still escaped, into its path and the name after it; where p starts at 0 there is no path
pub record Placed (k : Kind) (w : List ℕ) (p : NamePlace) : Type 0 where
  pub order : p.end ≤ p.start
  pub most : p.start ≤ length w
  pub name_field : Field w → Field (drop p.start w)
  pub name : kept_in (drop p.start w) ≡ name_of (kept_in w) (reference_in k (kept_in w))
  pub path_field : Field w → Field (take p.end w)
  pub path : on_some (join_by slash) (path_of (reference_in k (kept_in w))) ≡ pick (eqb p.start 0) None (Some (each as_slash (kept_in (take p.end w))))
