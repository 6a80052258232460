-- The windows of work memory after a run of stores in one of them.
use Prim.Native.Nat.{ℕ, ◌+◌, ◌*◌, ◌≤◌}
use mathlib.Core.Path.{◌≡◌}
use mathlib.Core.List.{List}
use native.Mathlib.Omega.{arith}
use lib.ListN.{length}
use lib.Seq.{sets}
use Rattle.rules.specs.Model.{Kind, ingredient, cookware}
use Rattle.model.specs.Kinds.{room_of, rows_from, pairs_from}
use Rattle.model.specs.Memory.{Windows, windows_of, rows_in, pairs_in}
use Rattle.model.proofs.Stores.{mid_own}
use Rattle.model.proofs.Windows.{before, after, stored_apart, windows_same}
use Rattle.model.specs.declared.layout.TheConstants.{ROW, PAIR, FINDING, MOST_INGREDIENTS, MOST_COOKWARE, MOST_FINDINGS, MOST_KINDS, INGREDIENTS, COOKWARE, INGREDIENT_PAIRS, COOKWARE_PAIRS, FINDINGS, KINDS}

-- with other rows and pairs of a kind
abbrev pub set_kind : Kind → List ℕ → List ℕ → Windows → Windows
set_kind ingredient rows pairs x = record x { ingredients = rows; ingredient_pairs = pairs }
set_kind cookware rows pairs x = record x { cookware = rows; cookware_pairs = pairs }

module _ (w : List ℕ) (j : ℕ) (vs : List ℕ) where
  pub in_rows : (k : Kind) → j + length vs ≤ room_of k * ROW → windows_of (sets w (rows_from k + j) vs) ≡ set_kind k (sets (rows_in k w) j vs) (pairs_in k w) (windows_of w)
  unfolding windows_of
  in_rows ingredient h =
      let o = stored_apart w INGREDIENTS (MOST_INGREDIENTS * ROW) j vs h in
      windows_same _ _
      (mid_own INGREDIENTS (MOST_INGREDIENTS * ROW) w j vs h)
      (o COOKWARE (MOST_COOKWARE * ROW) (before (omega arith)))
      (o INGREDIENT_PAIRS (MOST_INGREDIENTS * PAIR) (before (omega arith)))
      (o COOKWARE_PAIRS (MOST_COOKWARE * PAIR) (before (omega arith)))
      (o FINDINGS (MOST_FINDINGS * FINDING) (before (omega arith)))
      (o KINDS MOST_KINDS (before (omega arith)))
  in_rows cookware h =
      let o = stored_apart w COOKWARE (MOST_COOKWARE * ROW) j vs h in
      windows_same _ _
      (o INGREDIENTS (MOST_INGREDIENTS * ROW) (after (omega arith)))
      (mid_own COOKWARE (MOST_COOKWARE * ROW) w j vs h)
      (o INGREDIENT_PAIRS (MOST_INGREDIENTS * PAIR) (before (omega arith)))
      (o COOKWARE_PAIRS (MOST_COOKWARE * PAIR) (before (omega arith)))
      (o FINDINGS (MOST_FINDINGS * FINDING) (before (omega arith)))
      (o KINDS MOST_KINDS (before (omega arith)))

  pub in_pairs : (k : Kind) → j + length vs ≤ room_of k * PAIR → windows_of (sets w (pairs_from k + j) vs) ≡ set_kind k (rows_in k w) (sets (pairs_in k w) j vs) (windows_of w)
  unfolding windows_of
  in_pairs ingredient h =
      let o = stored_apart w INGREDIENT_PAIRS (MOST_INGREDIENTS * PAIR) j vs h in
      windows_same _ _
      (o INGREDIENTS (MOST_INGREDIENTS * ROW) (after (omega arith)))
      (o COOKWARE (MOST_COOKWARE * ROW) (after (omega arith)))
      (mid_own INGREDIENT_PAIRS (MOST_INGREDIENTS * PAIR) w j vs h)
      (o COOKWARE_PAIRS (MOST_COOKWARE * PAIR) (before (omega arith)))
      (o FINDINGS (MOST_FINDINGS * FINDING) (before (omega arith)))
      (o KINDS MOST_KINDS (before (omega arith)))
  in_pairs cookware h =
      let o = stored_apart w COOKWARE_PAIRS (MOST_COOKWARE * PAIR) j vs h in
      windows_same _ _
      (o INGREDIENTS (MOST_INGREDIENTS * ROW) (after (omega arith)))
      (o COOKWARE (MOST_COOKWARE * ROW) (after (omega arith)))
      (o INGREDIENT_PAIRS (MOST_INGREDIENTS * PAIR) (after (omega arith)))
      (mid_own COOKWARE_PAIRS (MOST_COOKWARE * PAIR) w j vs h)
      (o FINDINGS (MOST_FINDINGS * FINDING) (before (omega arith)))
      (o KINDS MOST_KINDS (before (omega arith)))

  pub in_findings : j + length vs ≤ MOST_FINDINGS * FINDING → windows_of (sets w (FINDINGS + j) vs) ≡ record (windows_of w) { findings = sets (windows_of w).findings j vs }
  unfolding windows_of
  in_findings h =
      let o = stored_apart w FINDINGS (MOST_FINDINGS * FINDING) j vs h in
      windows_same _ _
      (o INGREDIENTS (MOST_INGREDIENTS * ROW) (after (omega arith)))
      (o COOKWARE (MOST_COOKWARE * ROW) (after (omega arith)))
      (o INGREDIENT_PAIRS (MOST_INGREDIENTS * PAIR) (after (omega arith)))
      (o COOKWARE_PAIRS (MOST_COOKWARE * PAIR) (after (omega arith)))
      (mid_own FINDINGS (MOST_FINDINGS * FINDING) w j vs h)
      (o KINDS MOST_KINDS (before (omega arith)))

  pub in_kinds : j + length vs ≤ MOST_KINDS → windows_of (sets w (KINDS + j) vs) ≡ record (windows_of w) { kinds = sets (windows_of w).kinds j vs }
  unfolding windows_of
  in_kinds h =
      let o = stored_apart w KINDS MOST_KINDS j vs h in
      windows_same _ _
      (o INGREDIENTS (MOST_INGREDIENTS * ROW) (after (omega arith)))
      (o COOKWARE (MOST_COOKWARE * ROW) (after (omega arith)))
      (o INGREDIENT_PAIRS (MOST_INGREDIENTS * PAIR) (after (omega arith)))
      (o COOKWARE_PAIRS (MOST_COOKWARE * PAIR) (after (omega arith)))
      (o FINDINGS (MOST_FINDINGS * FINDING) (after (omega arith)))
      (mid_own KINDS MOST_KINDS w j vs h)
