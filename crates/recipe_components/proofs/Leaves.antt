-- What is left once the rows are lent and the words cleared.
use Prim.Native.Nat.{ℕ}
use mathlib.Core.Path.{◌≡◌, sym, ap, ◌∙◌}
use mathlib.Core.List.{List}
use Rattle.std.specs.Prelude.{Option, Result}
use lib.ListN.{length, replicate}
use Rattle.rules.specs.Input.{Input}
use Rattle.rules.specs.Model.{Kind, Entry}
use Rattle.rules.specs.Answer.{work_after}
use Rattle.refusals.specs.declared.Refusal.{Refusal}
use Rattle.component_records.specs.Records.{records_in}
use Rattle.component_records.specs.declared.Component.{Component}
use Rattle.component_records.specs.Tables.{TableRoom, Laid}
use Rattle.recipe_components.specs.declared.ComponentCounts.{ComponentCounts}
use Rattle.recipe_components.specs.Components.{Room, TableLent, ComponentsLeft}
use Rattle.recipe_components.specs.Tables.{ingredients_of, cookware_of, RowsOf, RowsCollected}
use Rattle.model.specs.declared.layout.TheConstants.{INGREDIENTS, COOKWARE}

table_lent_lem : {k : Kind} {sheet w : List ℕ} {es : List Entry} {from n : ℕ} {m : TableRoom} {cs : List Component} {ps : List ℕ} → RowsOf k sheet es w from n
    → Laid w from n m cs ps → TableLent k sheet es m cs ps
table_lent_lem {w = w} {from = from} {n = n} x l =
    record { records = records_in w from n; are = x.records; all = rw (sym x.count) l.all; pairs = rw (sym x.pairs) l.pairs }

pub all_left : {i : Input} {m : Room} {w w' : List ℕ} {is : List Component} {ips : List ℕ} {cs : List Component} {cps : List ℕ} {r : Result (Option ComponentCounts) Refusal}
    → RowsCollected i m w r → Laid w INGREDIENTS (ingredients_of r) m.ingredients is ips → Laid w COOKWARE (cookware_of r) m.cookware cs cps
    → w' ≡ replicate (length w) 0 → ComponentsLeft i m w' is ips cs cps r
unfolding work_after
all_left x t c e =
    record {
      answer = x.answer;
      ingredients = table_lent_lem x.ingredients t;
      cookware = table_lent_lem x.cookware c;
      words = e ∙ ap (λ (n : ℕ). replicate n 0) x.long;
    }
