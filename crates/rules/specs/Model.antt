-- The recipe (src/model.rs, src/quantity.rs). Lists have the newest first: an entry's index is the length of what stands after it.
use Rattle.std.specs.Prelude.{ℕ, List, [], ◌∷◌, Bool, true, false, ◌&&◌, ◌||◌, not, eqb, Option, None, Some}
use Rattle.rules.specs.Basic.{pick, codes, slash, backslash, split_at, is_empty, on_some, each}
use Rattle.rules.specs.Text.{text_trimmed}
use Rattle.rules.specs.Words.{ValueKind, number, range, textual}
use Rattle.rules.specs.Event.{Span, Text, Quantity, Modifiers, Component}

-- the two kinds of component that can refer: the Rust's trait `RefComponent`
pub data Kind : Type 0 where
  ingredient cookware : Kind

unfoldable pub is_ingredient : Kind → Bool
is_ingredient ingredient = true
is_ingredient cookware = false

-- ---- modifiers as sets

unfoldable pub both : Modifiers → Modifiers → Modifiers
both a b = record { recipe = a.recipe && b.recipe; ref = a.ref && b.ref; hidden = a.hidden && b.hidden; opt = a.opt && b.opt; new = a.new && b.new }

unfoldable pub either : Modifiers → Modifiers → Modifiers
either a b = record { recipe = a.recipe || b.recipe; ref = a.ref || b.ref; hidden = a.hidden || b.hidden; opt = a.opt || b.opt; new = a.new || b.new }

-- some of a that is not in b
unfoldable pub any_beyond : Modifiers → Modifiers → Bool
any_beyond a b = a.recipe && not b.recipe || a.ref && not b.ref || a.hidden && not b.hidden || a.opt && not b.opt || a.new && not b.new

unfoldable pub with_ref : Modifiers → Modifiers
with_ref a = record { recipe = a.recipe; ref = true; hidden = a.hidden; opt = a.opt; new = a.new }

-- `inherit_modifiers`
unfoldable pub inherits : Kind → Modifiers
inherits ingredient = record { recipe = true; ref = false; hidden = true; opt = true; new = false }
inherits cookware = record { recipe = false; ref = false; hidden = true; opt = true; new = false }

-- ---- quantities

-- the Rust's `Quantity`, with its value as it is spelled
pub record Amount : Type 0 where
  pub kind : ValueKind
  pub value : List ℕ
  pub unit : Option (List ℕ)
  pub scalable : Bool

unfoldable pub is_textual : ValueKind → Bool
is_textual number = false
is_textual range = false
is_textual textual = true

unfoldable pub trimmed_text : Text → List ℕ
trimmed_text t = text_trimmed t.content

-- `quantity` and `value`: only an ingredient's number or range without lock is scalable
unfoldable pub amount_of : Bool → Quantity → Amount
amount_of of_ingredient q =
    record { kind = q.kind; value = q.value; unit = on_some trimmed_text q.unit; scalable = of_ingredient && not (is_textual q.kind) && not q.lock }

-- ---- `parse_reference`: the path of a name, and the name after it

pub record RecipeReference : Type 0 where
  pub components : List (List ℕ)
  pub name : List ℕ

unfoldable pub starts_with : List ℕ → List ℕ → Bool
starts_with [] s = true
starts_with (x ∷ xs) [] = false
starts_with (x ∷ xs) (y ∷ ys) = eqb x y && starts_with xs ys

unfoldable pub is_path : List ℕ → Bool
is_path n = starts_with (codes "./") n || starts_with (codes "../") n || starts_with (codes ".\\") n || starts_with (codes "..\\") n

unfoldable pub as_slash : ℕ → ℕ
as_slash c = pick (eqb c backslash) slash c

unfoldable pub last_part : List (List ℕ) → List ℕ
last_part [] = []
last_part (p ∷ []) = p
last_part (p ∷ q ∷ ps) = last_part (q ∷ ps)

unfoldable pub all_but_last : List (List ℕ) → List (List ℕ)
all_but_last [] = []
all_but_last (p ∷ []) = []
all_but_last (p ∷ q ∷ ps) = p ∷ all_but_last (q ∷ ps)

unfoldable pub reference_parts : List (List ℕ) → Option RecipeReference
reference_parts ps = pick (is_empty (last_part ps)) None (Some (record { components = all_but_last ps; name = last_part ps }))

unfoldable pub parse_reference : List ℕ → Option RecipeReference
parse_reference n = pick (is_path n) (reference_parts (split_at slash (each as_slash n))) None

-- ---- components

-- `IngredientReferenceTarget`; a cookware's reference is always to cookware
pub data Target : Type 0 where
  to_ingredient to_cookware to_step to_section : Target

unfoldable pub target_of : Kind → Target
target_of ingredient = to_ingredient
target_of cookware = to_cookware

-- whether what a reference of the kind means is an entry of its own table
unfoldable pub is_own : Kind → Target → Bool
is_own ingredient to_ingredient = true
is_own ingredient to_cookware = false
is_own ingredient to_step = false
is_own ingredient to_section = false
is_own cookware to_ingredient = false
is_own cookware to_cookware = true
is_own cookware to_step = false
is_own cookware to_section = false

-- `ComponentRelation`, `IngredientRelation`
pub data Relation : Type 0 where
  -- whether it is defined in a step (not in components mode), and the indices that refer to it, newest first
  definition : Bool → List ℕ → Relation
  reference : Target → ℕ → Relation

-- what later findings ask of the line that an entry came from (the Rust's `locations`)
pub record Source : Type 0 where
  pub span : Span
  pub quantity : Option Quantity
  pub note : Option Text
  pub modifiers_span : Span

-- an ingredient or a piece of cookware
pub record Entry : Type 0 where
  pub name : List ℕ
  pub path : Option (List (List ℕ))
  pub alias : Option (List ℕ)
  pub quantity : Option Amount
  pub note : Option (List ℕ)
  pub modifiers : Modifiers
  pub relation : Relation
  pub source : Source

pub record Timer : Type 0 where
  pub name : Option (List ℕ)
  pub quantity : Option Amount

pub record InlineQuantity : Type 0 where
  pub number : List ℕ
  pub unit : List ℕ

-- ---- sections

pub data Item : Type 0 where
  text_item : List ℕ → Item
  ingredient_item cookware_item timer_item inline_item : ℕ → Item

pub data Block : Type 0 where
  -- its number and its items, newest first
  step_block : ℕ → List Item → Block
  text_block : List ℕ → Block

pub record Section : Type 0 where
  pub name : Option (List ℕ)
  pub content : List Block

pub record MetaEntry : Type 0 where
  pub key : List ℕ
  pub value : List ℕ

-- ---- a component of the sheet as an entry: names and notes trimmed; an ingredient's path taken off

unfoldable pub name_of : List ℕ → Option RecipeReference → List ℕ
name_of n None = n
name_of n (Some r) = r.name

unfoldable pub path_of : Option RecipeReference → Option (List (List ℕ))
path_of None = None
path_of (Some r) = Some r.components

unfoldable pub reference_in : Kind → List ℕ → Option RecipeReference
reference_in ingredient n = parse_reference n
reference_in cookware n = None

unfoldable pub source_of : Component → Source
source_of c = record { span = c.span; quantity = c.quantity; note = c.note; modifiers_span = c.modifiers_span }

unfoldable pub entry_with : Kind → Bool → Component → Option RecipeReference → Entry
entry_with k in_step c r =
    record {
      name = name_of (trimmed_text c.name) r;
      path = path_of r;
      alias = on_some trimmed_text c.alias;
      quantity = on_some (amount_of (is_ingredient k)) c.quantity;
      note = on_some trimmed_text c.note;
      modifiers = c.modifiers;
      relation = definition in_step [];
      source = source_of c;
    }

unfoldable pub entry_of : Kind → Bool → Component → Entry
entry_of k in_step c = entry_with k in_step c (reference_in k (trimmed_text c.name))

-- the same entry with another relation, and with other modifiers
unfoldable pub set_relation : Relation → Entry → Entry
set_relation r e =
    record { name = e.name; path = e.path; alias = e.alias; quantity = e.quantity; note = e.note; modifiers = e.modifiers; relation = r; source = e.source }

unfoldable pub set_modifiers : Modifiers → Entry → Entry
set_modifiers m e =
    record { name = e.name; path = e.path; alias = e.alias; quantity = e.quantity; note = e.note; modifiers = m; relation = e.relation; source = e.source }
