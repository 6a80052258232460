-- The tables of components only grow: from line to line they get more entries in front, and their definitions more referrers.
use Prim.Native.Nat.{ℕ, suc}
use mathlib.Core.Path.{◌≡◌, refl, sym, ap, ◌∙◌}
use mathlib.Core.List.{List, [], ◌∷◌, ◌++◌, append_assoc}
use mathlib.Core.Bool.{Bool, true, false}
use Rattle.std.specs.Prelude.{Option, None, Some}
use lib.Dec.{eqb}
use lib.ListN.{length}
use Rattle.rules.specs.Input.{Context}
use Rattle.rules.specs.Basic.{pick, each, on_some}
use Rattle.rules.specs.Event.{Event}
use Rattle.rules.specs.Model.{Kind, Relation, definition, reference, Entry, set_relation}
use Rattle.rules.specs.Reference.{Earlier, fits, same_name_in, referred_by, set_referenced_from}
use Rattle.rules.specs.State.{State, table_of, going}
use Rattle.rules.specs.Components.{referred, pushed}
use Rattle.rules.specs.Pass.{walk}
use Rattle.rules.proofs.Basics.{pick_either}
use Rattle.rules.proofs.TableSteps.{Onward, walk_related}

-- ---- an entry without the indices that refer to it

unfoldable pub bare_relation : Relation → Relation
bare_relation (definition in_step by) = definition in_step []
bare_relation (reference t j) = reference t j

unfoldable pub bare : Entry → Entry
bare e = set_relation (bare_relation e.relation) e

bare_referred : (n : ℕ) (r : Relation) → bare_relation (referred_by n r) ≡ bare_relation r
unfolding bare_relation referred_by
bare_referred n (definition b by) = refl
bare_referred n (reference t j) = refl

bare_set : (i n : ℕ) (es : List Entry) → each bare (set_referenced_from i n es) ≡ each bare es
unfolding each bare set_referenced_from set_relation
bare_set i n [] = refl
bare_set i n (e ∷ es) =
    pick_either (λ (x : List Entry). each bare x ≡ each bare (e ∷ es)) (eqb i (length es)) _ _
    (λ b. ap (λ (r : Relation). set_relation r e ∷ each bare es) (bare_referred n e.relation)) (λ b. ap (λ (x : List Entry). bare e ∷ x) (bare_set i n es))

pub bare_more : (o : Option Earlier) (es : List Entry) → each bare (referred o es) ≡ each bare es
unfolding referred
bare_more None es = refl
bare_more (Some d) es = bare_set d.index (length es) es

pub bare_length : (es : List Entry) → length (each bare es) ≡ length es
unfolding each
bare_length [] = refl
bare_length (e ∷ es) = ap suc (bare_length es)

-- ---- the same-name search asks names, REF and OPT

unfoldable pub index_of : Earlier → ℕ
index_of d = d.index

pub bare_search : (f : List ℕ) (a o : Bool) (es : List Entry) → on_some index_of (same_name_in f a o (each bare es)) ≡ on_some index_of (same_name_in f a o es)
unfolding each bare set_relation same_name_in fits on_some index_of
bare_search f a o [] = refl
bare_search f a o (e ∷ es) = go (fits f a o e) (bare_search f a o es)
  where
    go : (b : Bool) → on_some index_of (same_name_in f a o (each bare es)) ≡ on_some index_of (same_name_in f a o es)
        → on_some index_of (pick b (Some (record { index = length (each bare es); entry = bare e })) (same_name_in f a o (each bare es)))
        ≡ on_some index_of (pick b (Some (record { index = length es; entry = e })) (same_name_in f a o es))
    go true ih = ap Some (bare_length es)
    go false ih = ih

-- ---- a later state of a table

-- fs has the entries of es, but for their referrers, behind more
pub record Grown (es fs : List Entry) : Type 0 where
  pub more : List Entry
  pub is : each bare fs ≡ more ++ each bare es

-- a table grows by nothing, from any time to a later one, and by a component
grows : (cx : Context) → Onward cx (λ k es fs. Grown es fs)
unfolding pushed each
grows cx =
    record {
      same = λ k es. record { more = []; is = refl };
      further = λ {k} {es} {fs} {gs} f g.
          record { more = g.more ++ f.more; is = g.is ∙ (ap (λ (x : List Entry). g.more ++ x) f.is ∙ sym (append_assoc g.more f.more (each bare es))) };
      more = λ k m st h n.
          record { more = bare m.entry ∷ []; is = ap (λ (x : List Entry). bare m.entry ∷ x) (bare_more m.refers_to (table_of k st)) };
    }

-- from any state of a walk that goes on to its end
pub walk_grown : (cx : Context) (es : List Event) (line : ℕ) (st final : State) → walk cx line (going st) es ≡ going final
    → (k : Kind) → Grown (table_of k st) (table_of k final)
walk_grown cx es line st final q k = walk_related cx (λ k es fs. Grown es fs) (grows cx) es line st final q k
