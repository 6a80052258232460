-- The name of an entry and its path, from the trimmed name of its line.
use Prim.Native.Nat.{ℕ, ◌+◌, ◌-◌, ◌≤◌, ◌<◌}
use mathlib.Core.Path.{◌≡◌, refl, ap, ◌∙◌}
use mathlib.Core.List.{List, [], ◌∷◌}
use native.Mathlib.Omega.{arith}
use borrow.Author.Tests.{eq-eqb, ne_eqb}
use lib.ListN.{length, take, drop, length-drop}
use lib.Seq.{take_all}
use Rattle.rules.specs.Basic.{codes, tab, each, on_some}
use Rattle.rules.specs.Utf8.{encode}
use Rattle.rules.specs.Text.{retain}
use Rattle.rules.specs.Model.{Kind, ingredient, as_slash, name_of, path_of, reference_in}
use Rattle.rules.specs.Page.{optional}
use Rattle.output.specs.Put.{Put, tabbed}
use Rattle.output.proofs.Puts.{put_seq, starts, ends_in, ends_out}
use Rattle.output.proofs.Texts.{tabbed_one}
use Rattle.content.specs.Contents.{kept_in, spell}
use Rattle.content.specs.Parts.{Field}
use Rattle.content.specs.Names.{NameAt}
use Rattle.content.specs.declared.NamePlace.{NamePlace}
use Rattle.content.proofs.Spells.{field_none}
use Rattle.content.proofs.Cuts.{cut_front, cut_back_lem}
use Rattle.text.specs.Paths.{path_bytes}
use Rattle.text.proofs.Writes.{kept_spelled}
use Rattle.text.proofs.Paths.{field_path}
use Rattle.page_fields.proofs.Contents.{field_some}
use Rattle.model.specs.declared.Kind as model
use Rattle.model.specs.declared.Kind.TheVariants.{Ingredient, Cookware}
use Rattle.model.specs.Kinds.{kind_of}
use Rattle.entry_lines.specs.Lines.{path_fields, Placed}

-- ---- where the name stands

pub placed_ingredient : {k : model.Kind} {w : List ℕ} {p : NamePlace} → k ≡ Ingredient → NameAt w p → Placed (kind_of k) w p
unfolding reference_in
placed_ingredient {k} {w} {p} e z =
    rw e
    record {
      order = z.order;
      most = z.most;
      name_field = cut_back_lem w p.start z.name_cut;
      name = z.name;
      path_field = cut_front w p.end z.path_cut;
      path = z.path;
    }

pub placed_cookware : {k : model.Kind} (w : List ℕ) → k ≡ Cookware → Placed (kind_of k) w (record { end = 0; start = 0 })
unfolding reference_in name_of path_of on_some
placed_cookware w e =
    rw e record { order = omega arith; most = omega arith; name_field = λ h. h; name = refl; path_field = λ h. field_none; path = refl }

pub placed_own : {k : model.Kind} {w : List ℕ} {p : NamePlace} → k ≡ Ingredient → Placed (kind_of k) w p → Placed ingredient w p
placed_own e z = rw e at z

pub path_most : {k : Kind} {w : List ℕ} {p : NamePlace} → Placed k w p → p.end ≤ length w
path_most z = omega (arith, z.order, z.most)

-- ---- the fields

module _ {k : Kind} {w : List ℕ} {p : NamePlace} (h : Field w) (z : Placed k w p) {o₀ o₁ o : List ℕ} {at n r : ℕ} where
  -- the rest from the name on, as the checker hands it out
  pub put_name : Put (tab ∷ []) o₀ at o₁ n → Put (retain 0 (take (length w - p.start) (drop p.start w))) o₁ n o r
      → Put (tabbed (encode (name_of (kept_in w) (reference_in k (kept_in w))) ∷ [])) o₀ at o r
  put_name x y =
      let q : take (length w - p.start) (drop p.start w) ≡ drop p.start w = take_all (length w - p.start) (drop p.start w) (omega (arith, length-drop p.start w)) in
      let s : retain 0 (take (length w - p.start) (drop p.start w)) ≡ spell (name_of (kept_in w) (reference_in k (kept_in w))) =
      ap (retain 0) q ∙ kept_spelled (z.name_field h) ∙ ap spell z.name in
      rw (tabbed_one (encode (name_of (kept_in w) (reference_in k (kept_in w))))) (put_seq x (rw s at y))

module _ {w : List ℕ} {p : NamePlace} (h : Field w) (z : Placed ingredient w p) {o₀ o : List ℕ} {at r : ℕ} where
  pub path_none : p.start ≡ 0 → Put (tabbed (codes "-" ∷ [])) o₀ at o r → Put (tabbed (path_fields ingredient (path_of (reference_in ingredient (kept_in w))))) o₀ at o r
  unfolding path_fields optional
  path_none e x = rw (z.path, eq-eqb p.start 0 e) x

  pub path_some : {o₁ : List ℕ} {n : ℕ} → (p.start ≡ 0 → ⊥) → Put (tab ∷ 61 ∷ []) o₀ at o₁ n → Put (path_bytes 0 (take p.end w)) o₁ n o r
      → Put (tabbed (path_fields ingredient (path_of (reference_in ingredient (kept_in w))))) o₀ at o r
  unfolding path_fields
  path_some e x y =
      rw (z.path, ne_eqb p.start 0 e, field_some (each as_slash (kept_in (take p.end w)))) (put_seq x (rw (field_path (z.path_field h)) at y))

module _ {k : model.Kind} {o₀ : List ℕ} {at : ℕ} (w : List ℕ) where
  pub path_ingredient : {o : List ℕ} {r : ℕ} → k ≡ Ingredient → Put (tabbed (path_fields ingredient (path_of (reference_in ingredient (kept_in w))))) o₀ at o r
      → Put (tabbed (path_fields (kind_of k) (path_of (reference_in (kind_of k) (kept_in w))))) o₀ at o r
  path_ingredient e x = rw e x

  pub path_cookware : k ≡ Cookware → at ≤ length o₀ → Put (tabbed (path_fields (kind_of k) (path_of (reference_in (kind_of k) (kept_in w))))) o₀ at o₀ at
  unfolding path_fields tabbed
  path_cookware e l = rw e (ends_in starts l)

  pub path_past : k ≡ Cookware → length o₀ < at → Put (tabbed (path_fields (kind_of k) (path_of (reference_in (kind_of k) (kept_in w))))) o₀ at o₀ (length o₀ + 1)
  unfolding path_fields tabbed
  path_past e l = rw e (ends_out starts l)
