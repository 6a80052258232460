-- A line of the sheet that begins with no m is no `meta` line: the map stays.
use Prim.Native.Nat.{ℕ, zero, suc, ◌-◌}
use mathlib.Core.Path.{◌≡◌, refl, ap, sym, ◌∙◌}
use mathlib.Core.List.{List, [], ◌∷◌}
use native.Mathlib.Omega.{arith}
use lib.ListN.{get_or, take, drop}
use Rattle.rules.specs.Basic.{lf}
use Rattle.rules.specs.Event.{Event, meta_event, section_event, start_event, between, inside, parser_event}
use Rattle.rules.specs.Model.{MetaEntry}
use Rattle.rules.specs.Sheet.{Without}
use Rattle.rules.proofs.Basics.{some_inj}
use Rattle.events.specs.declared.EventView.{EventView}
use Rattle.known_events.specs.Known.{KnownEvent}
use Rattle.finding_lines.proofs.Firsts.{first_byte, line_begins}
use Rattle.meta_map.specs.Index.{part_at, map_in, Indexed}
use Rattle.meta_map.specs.Maps.{map_on, EventIndexed, LineIndexed}

no_first : {P : Type 0} {a : ℕ} {s : List ℕ} → [] ≡ a ∷ s → P
no_first e = absurd (let z : ◌≡◌ {A = ℕ} 0 1 = cc in omega arith)

-- the first byte of a part
part_first : (from k : ℕ) (s : List ℕ) {a : ℕ} {rest : List ℕ} → take k (drop from s) ≡ a ∷ rest → get_or s from 0 ≡ a
part_first zero zero s q = no_first q
part_first zero (suc k) [] q = no_first q
part_first zero (suc k) (c ∷ s) q = cc
part_first (suc from) zero s q = no_first q
part_first (suc from) (suc k) [] q = no_first q
part_first (suc from) (suc k) (c ∷ s) q = part_first from (suc k) s q

other_map : (flags : ℕ) (e : Event) (es : List MetaEntry) → (first_byte e ≡ 109 → ⊥) → es ≡ map_on flags e es
unfolding map_on first_byte
other_map flags (between (meta_event k v)) es h = absurd (h refl)
other_map flags (between (section_event n)) es h = refl
other_map flags (between (start_event k)) es h = refl
other_map flags (inside i) es h = refl
other_map flags (parser_event s n) es h = refl

module _ (flags from end : ℕ) {sheet m : List ℕ} {n : ℕ} where
  pub line_skipped : Indexed sheet m n → Without lf (part_at sheet from end) → (get_or sheet from 0 ≡ 109 → ⊥) → LineIndexed flags sheet (part_at sheet from end) m n m n
  line_skipped z w h =
      record {
        map = λ e q. other_map flags e (map_in sheet m n) (λ k. h (part_first from (end - from) sheet (line_begins w q).is ∙ k));
        indexed = z;
        count = omega arith;
      }

module _ {flags : ℕ} {sheet line m₀ m : List ℕ} {n r : ℕ} {v : EventView} where
  pub line_read : KnownEvent line v → EventIndexed flags sheet line m₀ n v m r → LineIndexed flags sheet line m₀ n m r
  line_read k x =
      record {
        map = λ e q. x.map ∙ ap (λ (y : Event). map_on flags y (map_in sheet m₀ n)) (some_inj (sym k.is ∙ q));
        indexed = x.indexed;
        count = x.count;
      }
