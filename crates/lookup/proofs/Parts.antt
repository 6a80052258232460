-- The name of a new component: parts of parts.
use Prim.Native.Nat.{ℕ, zero, suc, ◌+◌, ◌-◌, ◌≤◌}
use mathlib.Core.Path.{◌≡◌, sym, ap, ◌∙◌}
use mathlib.Core.List.{List, [], ◌∷◌}
use native.Mathlib.Omega.{arith}
use lib.ListN.{length, take, drop, length-drop}
use lib.Seq.{slice, drop-drop, take-take, take_all, take-nil, length-slice}
use Rattle.rules.specs.Text.{trim_end, trim_matches, text_outer_trimmed, text_trimmed}
use Rattle.rules.specs.Unicode.{is_white_space}
use Rattle.rules.specs.Model.{trimmed_text, name_of, reference_in, entry_with, entry_of}
use Rattle.content.specs.Contents.{content_in, kept_in}
use Rattle.content.specs.Names.{NameAt}
use Rattle.content.specs.declared.NamePlace.{NamePlace}
use Rattle.content.specs.Parts.{Field}
use Rattle.content.proofs.Retains.{kept_trimmed}
use Rattle.content.proofs.Cuts.{cut_front, cut_back_lem}
use Rattle.text.specs.Trims.{drops_of, StartAt, EndAt}
use Rattle.text.specs.declared.Dropped.TheVariants.{White}
use Rattle.lookup.specs.declared.NamePart.{NamePart}
use Rattle.lookup.specs.Names.{TrimmedAt, NewName}
use Rattle.lookup.proofs.Names.{part_slice}
use Rattle.model.specs.Kinds.{kind_of}
use Rattle.model.specs.declared.Kind.{Kind}
use Rattle.model.specs.declared.Kind.TheVariants.{Ingredient, Cookware}

-- a part of what is left after a place
pub part_drop : (a e : ℕ) (l : List ℕ) → take e (drop a l) ≡ slice a (a + e) l
part_drop a e l = let q : a + e - a ≡ e = omega arith in ap (λ (n : ℕ). take n (drop a l)) (sym q) ∙ part_slice a (a + e) l (omega arith)

drop_take : (b m : ℕ) (y : List ℕ) → drop b (take m y) ≡ take (m - b) (drop b y)
drop_take zero m y = let r : m - 0 ≡ m = omega arith in ap (λ (n : ℕ). take n y) (sym r)
drop_take (suc b) zero y = let r : 0 - suc b ≡ 0 = omega arith in ap (λ (n : ℕ). take n (drop (suc b) y)) (sym r)
drop_take (suc b) (suc m) [] = let r : suc m - suc b ≡ m - b = omega arith in sym (take-nil (suc m - suc b))
drop_take (suc b) (suc m) (c ∷ y) = let r : suc m - suc b ≡ m - b = omega arith in drop_take b m y ∙ ap (λ (n : ℕ). take n (drop b y)) (sym r)

-- a part of a part
pub slice_slice : (f t a e : ℕ) (l : List ℕ) → a ≤ e → f + e ≤ t → slice a e (slice f t l) ≡ slice (f + a) (f + e) l
slice_slice f t a e l h g =
    let q : f + e - (f + a) ≡ e - a = omega arith in
    let z : f ≤ t = omega arith in
    sym (part_slice a e (slice f t l) h)
    ∙ ap (λ (x : List ℕ). take (e - a) (drop a x)) (sym (part_slice f t l z))
    ∙ ap (take (e - a)) (drop_take a (t - f) (drop f l))
    ∙ take-take (e - a) (t - f - a) (drop a (drop f l)) (omega arith)
    ∙ ap (take (e - a)) (drop-drop a f l)
    ∙ ap (λ (n : ℕ). take n (drop (f + a) l)) (sym q)
    ∙ part_slice (f + a) (f + e) l (omega arith)

-- ---- trimmed

pub trimmed_at : (f : List ℕ) (a e : ℕ) → StartAt (drops_of White) f a → EndAt (drops_of White) (take (length f - a) (drop a f)) e → TrimmedAt f (record { at = a; end = a + e })
unfolding text_outer_trimmed trim_matches drops_of
trimmed_at f a e x y =
    let q : take (length f - a) (drop a f) ≡ drop a f = take_all (length f - a) (drop a f) (omega (arith, length-drop a f)) in
    let z : EndAt is_white_space (drop a f) e = rw q at y in
    record {
      order = omega arith;
      most = omega (arith, x.most, z.most, length-drop a f);
      is = ap content_in (sym (part_drop a e f)) ∙ z.is ∙ ap (trim_end is_white_space) x.is;
      field = λ w. rw (part_drop a e f) at (cut_front (drop a f) e z.cut (cut_back_lem f a x.cut w));
    }

module _ (sheet : List ℕ) (from to : ℕ) (h : from ≤ to) (g : to ≤ length sheet) (p : NamePart) (v : TrimmedAt (take (to - from) (drop from sheet)) p) where
  own : TrimmedAt (slice from to sheet) p
  own = rw (part_slice from to sheet h) at v

  pub part_most : from + p.end ≤ to
  part_most = omega (arith, own.most, length-slice from to sheet g)

  part_kept : kept_in (slice (from + p.at) (from + p.end) sheet) ≡ text_trimmed (content_in (slice from to sheet))
  part_kept = kept_trimmed (slice from to sheet) (slice (from + p.at) (from + p.end) sheet) (ap content_in (sym (slice_slice from to p.at p.end sheet own.order part_most)) ∙ own.is)

  part_field : Field (slice from to sheet) → Field (slice (from + p.at) (from + p.end) sheet)
  part_field w = rw (slice_slice from to p.at p.end sheet own.order part_most) at (own.field w)

  pub new_cookware : {k : Kind} → k ≡ Cookware → NewName (kind_of k) sheet from to (record { at = from + p.at; end = from + p.end })
  unfolding entry_of entry_with reference_in name_of trimmed_text
  new_cookware t =
      rw t
      record {
        least = omega arith;
        order = omega (arith, own.order);
        most = part_most;
        is = λ in_step c e. part_kept ∙ rw e;
        field = part_field;
      }

  pub new_ingredient : {k : Kind} → k ≡ Ingredient → (q : NamePlace) → NameAt (take (from + p.end - (from + p.at)) (drop (from + p.at) sheet)) q
      → NewName (kind_of k) sheet from to (record { at = from + p.at + q.start; end = from + p.end })
  unfolding entry_of entry_with reference_in trimmed_text
  new_ingredient t q z =
      let l : from + p.at ≤ from + p.end = omega (arith, own.order) in
      let y : NameAt (slice (from + p.at) (from + p.end) sheet) q = rw (part_slice (from + p.at) (from + p.end) sheet l) at z in
      let fits : from + p.end ≤ length sheet = omega (arith, part_most) in
      rw t
      record {
        least = omega arith;
        order = omega (arith, y.most, length-slice (from + p.at) (from + p.end) sheet fits);
        most = part_most;
        is = λ in_step c e. ap kept_in (sym (drop-drop q.start (from + p.at) (take (from + p.end) sheet))) ∙ y.name ∙ rw (part_kept, e);
        field = λ w. rw (drop-drop q.start (from + p.at) (take (from + p.end) sheet)) at (cut_back_lem (slice (from + p.at) (from + p.end) sheet) q.start y.name_cut (part_field w));
      }
