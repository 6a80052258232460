-- A line that adds no component leaves the rows as they point.
use Prim.Native.Nat.{ℕ}
use mathlib.Core.Path.{◌≡◌, refl, sym, ap, ◌∙◌}
use mathlib.Core.List.{List, []}
use lib.ListN.{length, replicate, length-replicate}
use Rattle.rules.specs.Model.{Item, text_item}
use Rattle.rules.specs.State.{State, set_place, set_block, set_kept}
use Rattle.rules.specs.Pass.{push_items}
use Rattle.model.specs.Blank.{blank, blank_tables}
use Rattle.model.specs.Memory.{state_of, state_in, Sound}
use Rattle.model.specs.Fits.{AllFit}
use Rattle.model.specs.declared.Held.{Held}
use Rattle.model.proofs.Tables.{entries_length}
use Rattle.memory.proofs.Bounds.{fit_counts}
use Rattle.blocks.specs.Lined.{Told, ItemsPushed}

pub ingredients_count : (sheet w : List ℕ) (h : Held) → length (state_in sheet w h).tables.ingredients ≡ h.counts.ingredients
unfolding state_in state_of
ingredients_count sheet w h = entries_length _ _ _ _ h.counts.ingredients

pub cookware_count : (sheet w : List ℕ) (h : Held) → length (state_in sheet w h).tables.cookware ≡ h.counts.cookware
unfolding state_in state_of
cookware_count sheet w h = entries_length _ _ _ _ h.counts.cookware

blank_ingredients : (st : State) → (blank st).tables.ingredients ≡ st.tables.ingredients
unfolding blank blank_tables
blank_ingredients st = refl

blank_cookware : (st : State) → (blank st).tables.cookware ≡ st.tables.cookware
unfolding blank blank_tables
blank_cookware st = refl

module _ {f : State → State} {h₀ h : Held} (t : Told f h₀ h) (i : (st : State) → (f st).tables.ingredients ≡ st.tables.ingredients) (c : (st : State) → (f st).tables.cookware ≡ st.tables.cookware) (sheet w : List ℕ) where
  ingredients_kept : h.counts.ingredients ≡ h₀.counts.ingredients
  ingredients_kept =
      sym (ingredients_count sheet w h)
      ∙ (ap (λ (s : State). length s.tables.ingredients) (t.is sheet w)
      ∙ (ap length (blank_ingredients (f (state_in sheet w h₀)) ∙ i (state_in sheet w h₀)) ∙ ingredients_count sheet w h₀))

  cookware_kept : h.counts.cookware ≡ h₀.counts.cookware
  cookware_kept =
      sym (cookware_count sheet w h)
      ∙ (ap (λ (s : State). length s.tables.cookware) (t.is sheet w)
      ∙ (ap length (blank_cookware (f (state_in sheet w h₀)) ∙ c (state_in sheet w h₀)) ∙ cookware_count sheet w h₀))

  pub told_fit : AllFit sheet w h₀ → AllFit sheet w h
  told_fit a = fit_counts ingredients_kept cookware_kept a

-- ---- items

items_ingredients : (x : List Item) (st : State) → (push_items x [] st).tables.ingredients ≡ st.tables.ingredients
unfolding push_items set_block set_place set_kept
items_ingredients x st = refl

items_cookware : (x : List Item) (st : State) → (push_items x [] st).tables.cookware ≡ st.tables.cookware
unfolding push_items set_block set_place set_kept
items_cookware x st = refl

module _ {n : ℕ} {h₀ h : Held} (p : ItemsPushed n h₀ h) where
  items_told : Told (push_items (replicate n (text_item [])) []) h₀ h
  items_told = p.by (replicate n (text_item [])) (length-replicate n (text_item []))

  pub items_fit : (sheet w : List ℕ) → AllFit sheet w h₀ → AllFit sheet w h
  items_fit sheet w a = told_fit items_told (items_ingredients _) (items_cookware _) sheet w a

  pub items_sound : (w : List ℕ) → Sound w h₀ → Sound w h
  items_sound w z = items_told.sound w z
