-- The last separator of a name, and what stands before and after it.
use Prim.Native.Nat.{ℕ, ◌+◌, ◌≤◌, ◌<◌}
use mathlib.Core.Path.{◌≡◌, refl, sym, ap, ◌∙◌}
use mathlib.Core.List.{List, [], ◌∷◌, ◌++◌, append-nil, append_assoc}
use mathlib.Core.Bool.{Bool, true, false, not}
use Rattle.std.specs.Prelude.{None, Some}
use native.Mathlib.Omega.{arith}
use lib.Dec.{eqb}
use lib.ListN.{length, take, drop}
use lib.Seq.{take_all, drop-append_seam}
use borrow.Author.Tests.{ne_eqb}
use Rattle.rules.specs.Basic.{pick, slash, is_empty, split_at, each, on_some}
use Rattle.rules.specs.Model.{is_path, as_slash, parse_reference, name_of, path_of}
use Rattle.rules.specs.Sheet.{Without, without_none, without_more}
use Rattle.rules.proofs.Basics.{no_truth}
use Rattle.rules.proofs.Fields.{without_both}
use Rattle.utf8.specs.declared.Char.{Char}
use Rattle.content.specs.declared.NamePlace.{NamePlace}
use Rattle.content.specs.Contents.{content_in, kept_in}
use Rattle.content.specs.Readings.{char_in}
use Rattle.content.specs.Parts.{CutAt}
use Rattle.content.specs.Names.{is_separator, separator_first, Found, nowhere, found, Separated, NameAt}
use Rattle.content.proofs.Chars.{content_step, content_none, no_content}
use Rattle.content.proofs.Cuts.{cut_step, cut_start, cut_content}
use Rattle.content.proofs.Kept.{kept_some, kept_none}
use Rattle.content.proofs.Splits.{join_split, each_append, split_name, parse_plain, parse_parts, path_kept, path_none, path_other, path_one, path_short, path_third, path_two, path_parted}

-- ---- `is_separator`, `separator_at`

pub back_separator : (c : ℕ) → c ≡ 92 → true ≡ is_separator c
unfolding is_separator as_slash
back_separator c e = rw e

pub other_separator : (c : ℕ) → (c ≡ 92 → ⊥) → eqb c 47 ≡ is_separator c
unfolding is_separator as_slash
other_separator c n = rw (ne_eqb c 92 n)

module _ (f : List ℕ) (at : ℕ) where
  pub separator_none : length f ≤ at → false ≡ separator_first (content_in (drop at f))
  unfolding separator_first
  separator_none h = rw (content_none f at h)

  pub separator_some : (ch : Char) → at < length f → ch ≡ char_in (drop at f) → {r : Bool} → r ≡ is_separator ch.code → r ≡ separator_first (content_in (drop at f))
  unfolding separator_first
  separator_some ch h e q = q ∙ rw (content_step f at ch h e).reads

-- ---- `is_path`

pub no_path : (f : List ℕ) → length f ≡ 0 → false ≡ is_path (content_in f)
no_path [] h = rw no_content (sym path_none)
no_path (x ∷ f) h = absurd (omega arith)

module _ (f : List ℕ) (a : Char) (h : 0 < length f) (e : a ≡ char_in (drop 0 f)) where
  pub other_path : (a.code ≡ 46 → ⊥) → false ≡ is_path (content_in f)
  other_path n = sym (ap is_path (content_step f 0 a h e).reads ∙ path_other _ _ n)

  module _ (q : a.code ≡ 46) where
    pointed : content_in f ≡ 46 ∷ content_in (drop a.size f)
    pointed =
        let z : 0 + a.size ≡ a.size = omega arith in
        (rw z at (content_step f 0 a h e).reads) ∙ ap (λ (x : ℕ). x ∷ content_in (drop a.size f)) q

    pub one_path : {r : Bool} → r ≡ separator_first (content_in (drop a.size f)) → r ≡ true → true ≡ is_path (content_in f)
    one_path p t = sym (ap is_path pointed ∙ path_one _ (sym p ∙ t))

    pub short_path : length f ≤ a.size → false ≡ is_path (content_in f)
    short_path l = sym (ap is_path pointed ∙ rw (content_none f a.size l) (path_short (unfold separator_first in refl)))

    module _ (b : Char) (i : a.size < length f) (g : b ≡ char_in (drop a.size f)) where
      next : content_in (drop a.size f) ≡ b.code ∷ content_in (drop (a.size + b.size) f)
      next = (content_step f a.size b i g).reads

      pub third_path : {r : Bool} → r ≡ separator_first (content_in (drop a.size f)) → r ≡ false → (b.code ≡ 46 → ⊥) → false ≡ is_path (content_in f)
      unfolding separator_first
      third_path p t n =
          let s : is_separator b.code ≡ false = sym (rw next at p) ∙ t in
          sym (ap is_path (pointed ∙ ap (λ (x : List ℕ). 46 ∷ x) next) ∙ path_third _ _ s n)

      pub two_path : b.code ≡ 46 → {r : Bool} → r ≡ separator_first (content_in (drop (a.size + b.size) f)) → r ≡ is_path (content_in f)
      two_path k p =
          p ∙ sym (ap is_path (pointed ∙ ap (λ (x : List ℕ). 46 ∷ x) (next ∙ ap (λ (x : ℕ). x ∷ content_in (drop (a.size + b.size) f)) k)) ∙ path_two _)

-- ---- the turns of `last_separator`

-- the bytes before `at` were read
pub record Separating (f : List ℕ) (at e s : ℕ) : Type 0 where
  pub most : at ≤ length f
  pub order : s ≤ at
  pub cut : CutAt f at
  pub last : Found f e s
  pub behind : List ℕ
  pub after : content_in (take at f) ≡ content_in (take s f) ++ behind
  pub plain : Without slash (each as_slash behind)

pub separating : (f : List ℕ) → Separating f 0 0 0
unfolding each
separating f = record { most = omega arith; order = omega arith; cut = cut_start f; last = nowhere; behind = []; after = sym (append-nil _); plain = without_none }

module _ {f : List ℕ} {at e s : ℕ} (v : Separating f at e s) (ch : Char) (h : at < length f) (q : ch ≡ char_in (drop at f)) {r : Bool} (p : r ≡ is_separator ch.code) where
  pub parts_here : r ≡ true → Separating f (at + ch.size) at (at + ch.size)
  unfolding each
  parts_here t =
      let k = cut_step f at ch h q v.cut in
      let z = content_step f at ch h q in
      let l : at < at + ch.size = omega (arith, z.least) in
      record {
        most = z.most;
        order = omega arith;
        cut = k.cut;
        behind = [];
        after = sym (append-nil _);
        plain = without_none;
        last = found ch.code (sym p ∙ t) l v.cut k.cut k.passed;
      }

  pub parts_not : r ≡ false → Separating f (at + ch.size) e s
  parts_not t =
      let k = cut_step f at ch h q v.cut in
      let z = content_step f at ch h q in
      record {
        most = z.most;
        order = omega (arith, v.order);
        cut = k.cut;
        last = v.last;
        behind = v.behind ++ (ch.code ∷ []);
        after = k.passed ∙ rw (v.after, append_assoc);
        plain = rw (each_append v.behind (ch.code ∷ [])) (without_both v.plain (unfold each is_separator in without_more (sym p ∙ t) without_none));
      }

found_cut : {f : List ℕ} {e s : ℕ} → Found f e s → CutAt f s
found_cut {f} nowhere = cut_start f
found_cut (found c t l a b d) = b

abbrev place_of : ℕ → ℕ → NamePlace
place_of e s = record { end = e; start = s }

pub separated : {f : List ℕ} {at e s : ℕ} → Separating f at e s → length f ≤ at → Separated f (place_of e s)
separated {f} {at} {e} {s} v h =
    let k = cut_content f s (found_cut v.last) in
    let a : content_in f ≡ content_in (take s f) ++ v.behind = rw (take_all at f h) at v.after in
    let d : v.behind ≡ content_in (drop s f) =
    sym (drop-append_seam (content_in (take s f)) v.behind) ∙ ap (drop (length (content_in (take s f)))) (sym a ∙ k)
    ∙ drop-append_seam (content_in (take s f)) (content_in (drop s f)) in
    record { last = v.last; most = omega (arith, v.order, v.most); content = k; plain = rw (← d) v.plain }

-- ---- the ways of `name_place`

no_reference : (f : List ℕ) → parse_reference (kept_in f) ≡ None → NameAt f (place_of 0 0)
unfolding name_of path_of on_some
no_reference f e =
    record { order = omega arith; most = omega arith; path_cut = cut_start f; name_cut = cut_start f; name = rw e; path = rw e }

is_path_lem : (f : List ℕ) → is_path (kept_in f) ≡ is_path (content_in f)
unfolding kept_in
is_path_lem f = path_kept (content_in f)

pub name_plain : (f : List ℕ) {r : Bool} → r ≡ is_path (content_in f) → not r ≡ true → NameAt f (place_of 0 0)
name_plain f {r = true} p t = no_truth t
name_plain f {r = false} p t = no_reference f (parse_plain (kept_in f) (is_path_lem f ∙ sym p))

-- the name after its last separator
split_found : (f : List ℕ) (e s c : ℕ) → is_separator c ≡ true → content_in (take s f) ≡ content_in (take e f) ++ (c ∷ [])
    → content_in f ≡ content_in (take s f) ++ content_in (drop s f) → Without slash (each as_slash (content_in (drop s f)))
    → split_at slash (each as_slash (kept_in f)) ≡ split_at slash (each as_slash (kept_in (take e f))) ++ (kept_in (drop s f) ∷ [])
unfolding kept_in
split_found f e s c t d k w =
    let x : content_in f ≡ content_in (take e f) ++ (c ∷ content_in (drop s f)) = k ∙ rw (d, append_assoc) in
    rw x (split_name (content_in (take e f)) c (content_in (drop s f)) t w)

parse_found : (f : List ℕ) (e s c : ℕ) → is_path (content_in f) ≡ true → is_separator c ≡ true → content_in (take s f) ≡ content_in (take e f) ++ (c ∷ [])
    → content_in f ≡ content_in (take s f) ++ content_in (drop s f) → Without slash (each as_slash (content_in (drop s f)))
    → parse_reference (kept_in f) ≡ pick (is_empty (kept_in (drop s f))) None (Some (record { components = split_at slash (each as_slash (kept_in (take e f))); name = kept_in (drop s f) }))
parse_found f e s c i t d k w = parse_parts (kept_in f) _ _ (is_path_lem f ∙ i) (split_found f e s c t d k w)

module _ (f : List ℕ) (i : is_path (content_in f) ≡ true) where
  end_at : {e s : ℕ} → Found f e s → content_in f ≡ content_in (take s f) ++ content_in (drop s f) → Without slash (each as_slash (content_in (drop s f)))
      → length f ≤ s → parse_reference (kept_in f) ≡ None
  end_at nowhere k w l = path_parted (content_in f) i w
  end_at (found {e} {s} c t o a b d) k w l = parse_found f e s c i t d k w ∙ rw (kept_none f s l) (unfold is_empty in refl)

  some_at : {e s : ℕ} → Found f e s → content_in f ≡ content_in (take s f) ++ content_in (drop s f) → Without slash (each as_slash (content_in (drop s f)))
      → s < length f → NameAt f (place_of e s)
  some_at nowhere k w l = path_parted (content_in f) i w
  some_at (found {e} {s} c t o a b d) k w l =
      let n : is_empty (kept_in (drop s f)) ≡ false = rw (kept_some f s l) (unfold is_empty in refl) in
      let p : parse_reference (kept_in f) ≡ Some (record { components = split_at slash (each as_slash (kept_in (take e f))); name = kept_in (drop s f) }) =
      parse_found f e s c i t d k w ∙ rw n in
      record {
        order = omega arith;
        most = omega arith;
        path_cut = a;
        name_cut = b;
        name = rw p (unfold name_of in refl);
        path = rw (p, ne_eqb s 0 (λ e. omega arith)) (unfold path_of on_some in (rw (join_split (each as_slash (kept_in (take e f))))));
      }

not_false : (r : Bool) → not r ≡ false → r ≡ true
not_false true e = refl
not_false false e = sym e

module _ (f : List ℕ) {r : Bool} (q : r ≡ is_path (content_in f)) (t : not r ≡ false) (p : NamePlace) (v : Separated f p) where
  pub name_empty : length f ≤ p.start → NameAt f (place_of 0 0)
  name_empty l = no_reference f (end_at f (sym q ∙ not_false r t) v.last v.content v.plain l)

  pub name_found : p.start < length f → NameAt f p
  name_found l = some_at f (sym q ∙ not_false r t) v.last v.content v.plain l
