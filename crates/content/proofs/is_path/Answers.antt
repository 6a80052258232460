use Prim.Native.Nat.{ℕ, ◌<◌}
use mathlib.Core.Path.{◌≡◌, sym, ◌∙◌}
use mathlib.Core.List.{List}
use mathlib.Core.Bool.{Bool, false}
use native.Mathlib.Omega.{arith}
use lib.Dec.{eqb}
use lib.ListN.{length}
use borrow.Author.Tests.{eqb-true, eqb-false, ne_eqb}
use Rattle.content.proofs.Chars.{content_step}
use Rattle.content.proofs.Paths.{no_path, other_path, one_path, short_path, third_path, two_path}
use Rattle.content.proofs.is_path.Goals as goal

some : (f : List ℕ) {r : Bool} → r ≡ eqb (length f) 0 → r ≡ false → 0 < length f
some f q t = let n = eqb-false (length f) 0 (sym q ∙ t) in omega arith

pub returns-then-is_empty : goal.returns-then-is_empty
returns-then-is_empty c = no_path _ (eqb-true _ _ (sym c.is_empty.ensures ∙ c.if-is_empty.true))

pub returns-then-a-ne46 : goal.returns-then-a-ne46
returns-then-a-ne46 c = other_path _ _ (some _ c.is_empty.ensures c.if-is_empty.false) c.char_in-a.ensures c.if-a-ne46.true

pub returns-then-separator_at : goal.returns-then-separator_at
returns-then-separator_at c = one_path _ _ (some _ c.is_empty.ensures c.if-is_empty.false) c.char_in-a.ensures c.if-a-ne46.false c.separator_at.ensures c.if-separator_at.true

pub returns-then-f-i : goal.returns-then-f-i
returns-then-f-i c = short_path _ _ (some _ c.is_empty.ensures c.if-is_empty.false) c.char_in-a.ensures c.if-a-ne46.false c.if-f-i.true

pub overflow_add-i : goal.overflow_add-i
overflow_add-i c = omega (arith, (content_step _ _ _ c.if-f-i.false c.char_in-b.ensures).most)

pub returns-then-b-eq46 : goal.returns-then-b-eq46
returns-then-b-eq46 c = two_path _ _ (some _ c.is_empty.ensures c.if-is_empty.false) c.char_in-a.ensures c.if-a-ne46.false _ c.if-f-i.false c.char_in-b.ensures c.if-b-eq46.true c.separator_at-then-b-eq46.ensures

pub returns-else-b-eq46 : goal.returns-else-b-eq46
returns-else-b-eq46 c = ne_eqb _ _ c.if-b-eq46.false ∙ third_path _ _ (some _ c.is_empty.ensures c.if-is_empty.false) c.char_in-a.ensures c.if-a-ne46.false _ c.if-f-i.false c.char_in-b.ensures c.separator_at.ensures c.if-separator_at.false c.if-b-eq46.false
