-- What a component's line without REF leaves in the tables of an accepted walk, as the rows of work memory have it at the end.
use Prim.Native.Nat.{ℕ, zero, suc, ◌≤◌, ◌<◌}
use mathlib.Core.Path.{◌≡◌, refl, sym, ap, ◌∙◌}
use mathlib.Core.List.{List, [], ◌∷◌, ◌++◌}
use mathlib.Core.Bool.{Bool, true, false}
use Rattle.std.specs.Prelude.{Option, None, Some}
use native.Mathlib.Omega.{arith}
use lib.ListN.{length}
use Rattle.rules.specs.Input.{Context}
use Rattle.rules.specs.Basic.{pick, each}
use Rattle.rules.specs.Event.{Component, Intermediate, ingredient_event, cookware_event}
use Rattle.rules.specs.Model.{Kind, ingredient, cookware, Entry, Item}
use Rattle.rules.specs.State.{State, set_place, set_block, set_kept, set_tables, table_of, set_table, report, over_limits, next, stop}
use Rattle.rules.specs.Components.{Made, made_by_name, make_ingredient, make_cookware, intermediate_fault, pushed, refers_to_reference}
use Rattle.rules.specs.Pass.{push_items, push_component, unless_chained, unless_fault, on_made, on_component}
use Rattle.model.specs.Rows.{entry_in, entries_in}
use Rattle.model.proofs.Tables.{entries_length}
use Rattle.plain_walk.proofs.Grown.{bare, bare_length, bare_more, Grown}

-- ---- the table after the line

no_step : {P : Type 0} {n : ℕ} {st : State} → stop n ≡ next st → P
no_step q = absurd (let u : ◌≡◌ {A = ℕ} 0 1 = cc in omega arith)

next_inj : {a b : State} → next a ≡ next b → a ≡ b
next_inj q = cc

push_table : (k : Kind) (m : Made) (items : List Item) (st : State) → table_of k (push_component k m items st) ≡ pushed m (table_of k st)
unfolding push_component push_items set_table set_tables table_of report set_block set_place set_kept
push_table ingredient m items st = refl
push_table cookware m items st = refl

module _ (cx : Context) where
  made_pushed : (k : Kind) (m : Made) (items : List Item) (st after : State) → on_made k m items st ≡ next after → table_of k after ≡ pushed m (table_of k st)
  unfolding on_made unless_chained
  made_pushed k m items st after = go (refers_to_reference m.refers_to) (over_limits (push_component k m items st))
    where
      go : (b c : Bool) → pick b (pick c (stop 17) (stop 18)) (next (push_component k m items st)) ≡ next after → table_of k after ≡ pushed m (table_of k st)
      go true true q = no_step q
      go true false q = no_step q
      go false c q = ap (table_of k) (sym (next_inj q)) ∙ push_table k m items st

  -- a line without REF has no intermediate reference (15)
  pub ingredient_pushed : (c : Component) (i : Option Intermediate) (items : List Item) (st after : State) → on_component cx (ingredient_event c i) items st ≡ next after
      → c.modifiers.ref ≡ false → table_of ingredient after ≡ pushed (made_by_name cx.units cx.flags ingredient c st) (table_of ingredient st)
  unfolding on_component unless_fault intermediate_fault make_ingredient
  ingredient_pushed c None items st after q r = made_pushed ingredient (made_by_name cx.units cx.flags ingredient c st) items st after q
  ingredient_pushed c (Some i) items st after q r = no_step (rw r at q)

  pub ingredient_refused : {P : Type 0} (c : Component) (i : Intermediate) (items : List Item) (st after : State) → on_component cx (ingredient_event c (Some i)) items st ≡ next after
      → c.modifiers.ref ≡ false → P
  unfolding on_component unless_fault intermediate_fault
  ingredient_refused c i items st after q r = no_step (rw r at q)

  -- with REF or without
  pub ingredient_made : (c : Component) (i : Option Intermediate) (items : List Item) (st after : State) → on_component cx (ingredient_event c i) items st ≡ next after
      → table_of ingredient after ≡ pushed (make_ingredient cx c i st) (table_of ingredient st)
  unfolding on_component unless_fault
  ingredient_made c i items st after = go (intermediate_fault c i)
    where
      go : (o : Option ℕ) → unless_fault o (on_made ingredient (make_ingredient cx c i st) items st) ≡ next after
          → table_of ingredient after ≡ pushed (make_ingredient cx c i st) (table_of ingredient st)
      go None q = made_pushed ingredient (make_ingredient cx c i st) items st after q
      go (Some n) q = no_step q

  pub cookware_pushed : (c : Component) (items : List Item) (st after : State) → on_component cx (cookware_event c) items st ≡ next after
      → table_of cookware after ≡ pushed (made_by_name cx.units cx.flags cookware c st) (table_of cookware st)
  unfolding on_component make_cookware
  cookware_pushed c items st after q = made_pushed cookware (made_by_name cx.units cx.flags cookware c st) items st after q

-- ---- the rows at the end

tail_same : {x y : Entry} {xs ys : List Entry} → x ∷ xs ≡ y ∷ ys → xs ≡ ys
tail_same q = cc

head_same : {x y : Entry} {xs ys : List Entry} → x ∷ xs ≡ y ∷ ys → x ≡ y
head_same q = cc

no_cons : {P : Type 0} {x : Entry} {xs : List Entry} → [] ≡ x ∷ xs → P
no_cons q = absurd (let u : ◌≡◌ {A = ℕ} 0 1 = cc in omega arith)

module _ (k : Kind) (sheet rows : List ℕ) (by : ℕ → List ℕ) where
  -- the entries of the first rows
  record Behind (n : ℕ) (xs : List Entry) : Type 0 where
    low : length xs ≤ n
    is : each bare (entries_in k sheet rows by (length xs)) ≡ xs

  rows_length : (n : ℕ) (xs : List Entry) → each bare (entries_in k sheet rows by n) ≡ xs → length xs ≡ n
  rows_length n xs q = ap length (sym q) ∙ bare_length (entries_in k sheet rows by n) ∙ entries_length k sheet rows by n

  rows_behind : (n : ℕ) (more xs : List Entry) → each bare (entries_in k sheet rows by n) ≡ more ++ xs → Behind n xs
  unfolding entries_in each
  rows_behind n [] xs q =
      let e : length xs ≡ n = rows_length n xs q in
      record { low = omega arith; is = ap (λ (i : ℕ). each bare (entries_in k sheet rows by i)) e ∙ q }
  rows_behind zero (x ∷ more) xs q = no_cons q
  rows_behind (suc n) (x ∷ more) xs q = let b = rows_behind n more xs (tail_same q) in record { low = omega (arith, b.low); is = b.is }

  -- a new entry of the table es has its row among n, and the rows before it are those of es
  pub record MadeRow (n : ℕ) (made : Made) (es : List Entry) : Type 0 where
    pub low : length es < n
    pub entry : bare (entry_in k sheet rows by (length es)) ≡ bare made.entry
    pub before : each bare (entries_in k sheet rows by (length es)) ≡ each bare es

  pub made_row : (n : ℕ) (made : Made) (es : List Entry) → Grown (pushed made es) (entries_in k sheet rows by n) → MadeRow n made es
  unfolding pushed each entries_in
  made_row n made es g =
      let whole : each bare (pushed made es) ≡ bare made.entry ∷ each bare es = ap (λ (x : List Entry). bare made.entry ∷ x) (bare_more made.refers_to es) in
      let b = rows_behind n g.more (bare made.entry ∷ each bare es) (g.is ∙ ap (λ (x : List Entry). g.more ++ x) whole) in
      let l : length (each bare es) ≡ length es = bare_length es in
      let q : bare (entry_in k sheet rows by (length es)) ∷ each bare (entries_in k sheet rows by (length es)) ≡ bare made.entry ∷ each bare es =
      ap (λ (i : ℕ). each bare (entries_in k sheet rows by (suc i))) (sym l) ∙ b.is in
      record { low = omega (arith, b.low); entry = head_same q; before = tail_same q }
