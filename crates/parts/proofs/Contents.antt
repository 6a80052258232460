-- The bytes of a part, and its content.
use Rattle.std.proofs.Common.{◌≡◌, ℕ, zero, suc, ◌-◌, ◌<◌, ◌≤◌, List, [], length, take, drop, sym, refl, ap, arith, length-drop, drop_of_length-le, take_all}
use Rattle.std.specs.Prelude.{Some}
use Rattle.rules.specs.Basic.{on_some}
use Rattle.rules.specs.Utf8.{chars}
use Rattle.rules.specs.Read.{content_of}
use Rattle.parts.specs.declared.Part.{Part}
use Rattle.parts.specs.Views.{part_of, content_in, PartWithin}

take_none : (n : ℕ) → take {A = ℕ} n [] ≡ []
take_none zero = refl
take_none (suc n) = refl

module _ (line : List ℕ) (p : Part) where
  pub part_outside : length line < p.from → [] ≡ part_of line p
  unfolding part_of
  part_outside h = let k : length line ≤ p.from = omega arith in rw (drop_of_length-le line k) (sym (take_none (p.to - p.from)))

  pub part_reversed : p.to < p.from → [] ≡ part_of line p
  unfolding part_of
  part_reversed h = let k : p.to - p.from ≡ 0 = omega arith in rw k

  pub part_rest : length line < p.to → take (length line - p.from) (drop p.from line) ≡ part_of line p
  unfolding part_of
  part_rest h =
      let a : length (drop p.from line) ≤ length line - p.from = omega (arith, length-drop p.from line) in
      let b : length (drop p.from line) ≤ p.to - p.from = omega (arith, length-drop p.from line) in
      rw (take_all _ _ a, take_all _ _ b)

  pub part_all : take (p.to - p.from) (drop p.from line) ≡ part_of line p
  unfolding part_of
  part_all = refl

  -- the content of a part that was read is what the rules read in its bytes
  pub content_of_lem : PartWithin line p → content_of (part_of line p) ≡ Some (content_in line p)
  unfolding content_of content_in on_some
  content_of_lem w = ap (on_some chars) w.well
