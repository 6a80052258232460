-- The rows that the walk along a chain and the printing of the map read.
use Rattle.std.specs.Prelude.{None, Some}
use Prim.Native.Nat.{ℕ, zero, suc, ◌-◌, ◌≤◌, ◌<◌}
use mathlib.Core.Path.{◌≡◌, refl, ap, sym, ◌∙◌}
use mathlib.Core.Bool.{Bool, true, false}
use mathlib.Core.List.{List}
use native.Mathlib.Omega.{arith}
use lib.ListN.{length}
use Rattle.rules.specs.Basic.{eq_list}
use Rattle.content.specs.Contents.{kept_in}
use Rattle.meta_map.specs.Index.{cell, head, part_at, key_at, RowIn, Indexed, RowFound}
use Rattle.chains.specs.Hashes.{hash_of, Hashed}
use Rattle.chains.specs.Rows.{head_in}
use Rattle.chains.proofs.Seeks.{Seeking, seek_starts, seek_most, seek_gone, seek_hit, seek_on, next_less}

nonzero : (p : ℕ) → (p ≡ 0 → ⊥) → p ≡ suc (p - 1)
nonzero zero n = absurd (n refl)
nonzero (suc k) n = omega arith

module _ {sheet m : List ℕ} {n p : ℕ} (key : List ℕ) (z : Indexed sheet m n) where
  pub find_starts : {b : ℕ} → Hashed (kept_in key) b → p ≡ head m b → Seeking hash_of (key_at sheet m) n (kept_in key) p
  find_starts {b} h e = seek_starts hash_of (key_at sheet m) (e ∙ (z.heads b h.small ∙ ap (λ (d : ℕ). head_in hash_of (key_at sheet m) d n) h.is))

  module _ (v : Seeking hash_of (key_at sheet m) n (kept_in key) p) where
    pub find_ends : p ≡ 0 → RowFound sheet m n key None
    find_ends q = record { is = seek_gone hash_of (key_at sheet m) v q }

    module _ (t : p ≡ 0 → ⊥) where
      row_below : p - 1 < n
      row_below = omega (arith, seek_most hash_of (key_at sheet m) v, nonzero p t)

      pub row_few : p - 1 < 4096
      row_few = omega (arith, row_below, z.few)

      module _ {from to : ℕ} (ef : from ≡ cell m (p - 1) 0) (et : to ≡ cell m (p - 1) 1) where
        pub row_within : (from ≤ to) × (to ≤ length sheet)
        row_within = let r = z.row (p - 1) row_below in (rw (ef, et) r.key_order, rw et r.key_most)

        row_key : kept_in (part_at sheet from to) ≡ key_at sheet m (p - 1)
        unfolding key_at
        row_key = rw (ef, et)

        module _ {r : Bool} (e : r ≡ eq_list (kept_in key) (kept_in (part_at sheet from to))) where
          same : r ≡ eq_list (kept_in key) (key_at sheet m (p - 1))
          same = e ∙ ap (eq_list (kept_in key)) row_key

          pub row_hit : r ≡ true → RowFound sheet m n key (Some (p - 1))
          row_hit q = record { is = seek_hit hash_of (key_at sheet m) v (nonzero p t) (sym same ∙ q) }

          pub row_on : {next : ℕ} → r ≡ false → next ≡ cell m (p - 1) 4 → Seeking hash_of (key_at sheet m) n (kept_in key) next
          row_on q g = seek_on hash_of (key_at sheet m) v (nonzero p t) (sym same ∙ q) (g ∙ z.nexts (p - 1) row_below)

      pub row_less : {next : ℕ} → next ≡ cell m (p - 1) 4 → next < p
      row_less g = next_less hash_of (key_at sheet m) v (nonzero p t) (g ∙ z.nexts (p - 1) row_below)

-- ---- a row that is printed

module _ {sheet m : List ℕ} {n i : ℕ} (z : Indexed sheet m n) (l : i < n) {ka ke va ve : ℕ} (a : ka ≡ cell m i 0) (b : ke ≡ cell m i 1) (c : va ≡ cell m i 2) (d : ve ≡ cell m i 3) where
  pub print_row : RowIn sheet ka ke va ve
  print_row = rw (a, b, c, d) (z.row i l)

  pub key_place : part_at sheet ka ke ≡ part_at sheet (cell m i 0) (cell m i 1)
  key_place = rw (a, b)

  pub value_place : part_at sheet va ve ≡ part_at sheet (cell m i 2) (cell m i 3)
  value_place = rw (c, d)
