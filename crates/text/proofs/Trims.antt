-- Trimming, one character at a time.
use Prim.Native.Nat.{ℕ, ◌≤◌, ◌<◌, ◌+◌, ◌-◌}
use mathlib.Core.Path.{◌≡◌, refl, sym, ap, ◌∙◌}
use mathlib.Core.Bool.{Bool, true, false, not}
use mathlib.Core.List.{List, [], ◌∷◌, ◌++◌, append_assoc}
use native.Mathlib.Omega.{arith}
use borrow.Author.Tests.{not-true, not-false}
use lib.ListN.{length, drop, take, length-drop, length-append, take-append-drop}
use lib.Seq.{take_all, take-length, drop-length}
use Rattle.rules.specs.Basic.{any}
use Rattle.rules.specs.Text.{trim_start, trim_onto, trim_end, trim_matches, text_outer_trimmed, is_not_alphabetic}
use Rattle.rules.specs.Unicode.{is_white_space, is_alphabetic}
use Rattle.utf8.specs.declared.Char.{Char}
use Rattle.content.specs.Contents.{content_in}
use Rattle.content.specs.Readings.{char_in}
use Rattle.content.specs.Parts.{Cut, CutAt}
use Rattle.content.proofs.Chars.{content_step, content_none, no_content}
use Rattle.content.proofs.Cuts.{cut_none, cut_all, cut_seq, cut_start, cut_step}
use Rattle.text.specs.declared.Dropped.{Dropped}
use Rattle.text.specs.declared.Dropped.TheVariants.{White, NotAlphabetic}
use Rattle.text.specs.Trims.{drops_of, StartAt, EndAt, TrimmedBy, TrimmedTo}

-- the tests
pub dropped_white : (d : Dropped) (c : ℕ) (r : Bool) → d ≡ White → r ≡ is_white_space c → r ≡ drops_of d c
unfolding drops_of
dropped_white d c r e f = rw e f

pub dropped_other : (d : Dropped) (c : ℕ) (r : Bool) → d ≡ NotAlphabetic → r ≡ is_alphabetic c → not r ≡ drops_of d c
unfolding drops_of is_not_alphabetic
dropped_other d c r e f = rw (e, f)

-- ---- lists

module _ (drops : ℕ → Bool) where
  onto_last : (x : ℕ) (xs : List ℕ) (c : ℕ) → trim_onto drops x (xs ++ (c ∷ [])) ≡ x ∷ (xs ++ (c ∷ []))
  unfolding trim_onto
  onto_last x [] c = refl
  onto_last x (y ∷ xs) c = refl

  pub end_dropped : (xs : List ℕ) (c : ℕ) → drops c ≡ true → trim_end drops (xs ++ (c ∷ [])) ≡ trim_end drops xs
  unfolding trim_end trim_onto
  end_dropped [] c e = rw e
  end_dropped (x ∷ xs) c e = rw (end_dropped xs c e)

  end_kept : (xs : List ℕ) (c : ℕ) → drops c ≡ false → trim_end drops (xs ++ (c ∷ [])) ≡ xs ++ (c ∷ [])
  unfolding trim_end
  end_kept [] c e = unfold trim_onto in rw e
  end_kept (x ∷ xs) c e = rw (end_kept xs c e) (onto_last x xs c)

  -- ---- the turns of `start_of`

  pub record Starting (s : List ℕ) (at : ℕ) : Type 0 where
    pub most : at ≤ length s
    pub cut : CutAt s at
    pub is : trim_start drops (content_in (drop at s)) ≡ trim_start drops (content_in s)

  pub starting : (s : List ℕ) → Starting s 0
  starting s = record { most = omega arith; cut = cut_start s; is = refl }

  module _ {s : List ℕ} {at : ℕ} (v : Starting s at) where
    pub start_end : length s ≤ at → StartAt drops s at
    unfolding trim_start
    start_end h = record { most = v.most; cut = v.cut; is = content_none s at h ∙ (rw (content_none s at h) at v.is) }

    module _ (ch : Char) (h : at < length s) (e : ch ≡ char_in (drop at s)) {r : Bool} (p : r ≡ drops ch.code) where
      pub start_here : not r ≡ true → StartAt drops s at
      unfolding trim_start
      start_here t =
          let z = content_step s at ch h e in
          let n : drops ch.code ≡ false = sym p ∙ not-true r t in
          let k : content_in (drop at s) ≡ trim_start drops (content_in (drop at s)) = rw (z.reads, n) in
          record { most = v.most; cut = v.cut; is = k ∙ v.is }

      pub start_on : not r ≡ false → Starting s (at + ch.size)
      unfolding trim_start
      start_on t =
          let z = content_step s at ch h e in
          let n : drops ch.code ≡ true = sym p ∙ not-false r t in
          let k : trim_start drops (content_in (drop at s)) ≡ trim_start drops (content_in (drop (at + ch.size) s)) = rw (z.reads, n) in
          record { most = z.most; cut = (cut_step s at ch h e v.cut).cut; is = sym k ∙ v.is }

  -- ---- the turns of `forward_end`

  pub record Ending (s : List ℕ) (end at : ℕ) : Type 0 where
    pub order : end ≤ at
    pub most : at ≤ length s
    pub cut : CutAt s at
    pub end_cut : CutAt s end
    pub is : trim_end drops (content_in (take at s)) ≡ content_in (take end s)

  pub ending : (s : List ℕ) → Ending s 0 0
  unfolding trim_end
  ending s = record { order = omega arith; most = omega arith; cut = cut_start s; end_cut = cut_start s; is = rw no_content }

  module _ {s : List ℕ} {end at : ℕ} (v : Ending s end at) where
    pub end_here : length s ≤ at → EndAt drops s end
    end_here h = record { most = omega (arith, v.order, v.most); cut = v.end_cut; is = sym (rw (take_all at s h) at v.is) }

    module _ (ch : Char) (h : at < length s) (e : ch ≡ char_in (drop at s)) {r : Bool} (p : r ≡ drops ch.code) where
      pub end_on : not r ≡ false → Ending s end (at + ch.size)
      end_on t =
          let z = content_step s at ch h e in
          let k = cut_step s at ch h e v.cut in
          record {
            order = omega (arith, v.order);
            most = z.most;
            cut = k.cut;
            end_cut = v.end_cut;
            is = ap (trim_end drops) k.passed ∙ end_dropped (content_in (take at s)) ch.code (sym p ∙ not-false r t) ∙ v.is;
          }

      pub end_moves : not r ≡ true → Ending s (at + ch.size) (at + ch.size)
      end_moves t =
          let z = content_step s at ch h e in
          let k = cut_step s at ch h e v.cut in
          record {
            order = omega arith;
            most = z.most;
            cut = k.cut;
            end_cut = k.cut;
            is = ap (trim_end drops) k.passed ∙ end_kept (content_in (take at s)) ch.code (sym p ∙ not-true r t) ∙ sym k.passed;
          }

  -- ---- the last character alone

  pub end_whole : (s xs : List ℕ) (c : ℕ) → content_in s ≡ xs ++ (c ∷ []) → drops c ≡ false → EndAt drops s (length s)
  end_whole s xs c e n =
      record { most = omega arith; cut = rw (take-length, drop-length) (cut_all s); is = rw (take-length, e) (sym (end_kept xs c n)) }

  -- ---- both ends

  pub trimmed_front : {s : List ℕ} {e : ℕ} → EndAt drops s e → TrimmedBy (trim_end drops) s (take e s)
  trimmed_front {s} {e} v =
      record {
        is = v.is;
        front = [];
        back = drop e s;
        part = sym (take-append-drop e s);
        cut = cut_none;
        cut_back = v.cut;
        field = λ h. v.cut.front (rw take-append-drop h);
      }

  trimmed_behind : {s : List ℕ} {a : ℕ} {r : List ℕ} → StartAt drops s a → TrimmedBy (trim_end drops) (drop a s) r → TrimmedBy (trim_matches drops) s r
  unfolding trim_matches
  trimmed_behind {s} {a} {r} v x =
      let k : Cut (take a s) (x.front ++ (r ++ x.back)) = rw x.part at v.cut in
      record {
        is = x.is ∙ ap (trim_end drops) v.is;
        front = take a s ++ x.front;
        back = x.back;
        part = sym (append_assoc (take a s) x.front (r ++ x.back) ∙ ap (λ (t : List ℕ). take a s ++ t) (sym x.part) ∙ take-append-drop a s);
        cut = cut_seq k x.cut;
        cut_back = x.cut_back;
        field = λ h. x.field (v.cut.back (rw take-append-drop h));
      }

  -- the rest from a place on, as the checker hands it out
  pub trimmed_both : {s : List ℕ} {a : ℕ} {r : List ℕ} → StartAt drops s a → TrimmedBy (trim_end drops) (take (length s - a) (drop a s)) r → TrimmedBy (trim_matches drops) s r
  trimmed_both {s} {a} {r} v w =
      let l : length (drop a s) ≤ length s - a = omega (arith, length-drop a s) in
      trimmed_behind v (rw (take_all (length s - a) (drop a s) l) at w)

pub trimmed_white : {s r : List ℕ} → TrimmedBy (trim_matches (drops_of White)) s r → TrimmedTo s r
unfolding drops_of text_outer_trimmed
trimmed_white d = record { is = d.is; front = d.front; back = d.back; part = d.part; cut = d.cut; cut_back = d.cut_back; field = d.field }

-- a trimmed text is no longer than the text
pub trimmed_short : {trim : List ℕ → List ℕ} {s r : List ℕ} → TrimmedBy trim s r → length r ≤ length s
trimmed_short {trim} {s} {r} d = omega (arith, ap length d.part, length-append d.front (r ++ d.back), length-append r d.back)

-- ---- whether a field has a letter or a number

module _ (test : ℕ → Bool) where
  pub record Seeking (s : List ℕ) (at : ℕ) : Type 0 where
    pub most : at ≤ length s
    pub is : any test (content_in (drop at s)) ≡ any test (content_in s)

  pub seeking : (s : List ℕ) → Seeking s 0
  seeking s = record { most = omega arith; is = refl }

  module _ {s : List ℕ} {at : ℕ} (v : Seeking s at) where
    pub seek_end : length s ≤ at → false ≡ any test (content_in s)
    unfolding any
    seek_end h = rw (content_none s at h) at v.is

    module _ (ch : Char) (h : at < length s) (e : ch ≡ char_in (drop at s)) {r : Bool} (p : r ≡ test ch.code) where
      pub seek_found : r ≡ true → true ≡ any test (content_in s)
      unfolding any
      seek_found t = rw ((content_step s at ch h e).reads, sym p ∙ t) at v.is

      pub seek_on : r ≡ false → Seeking s (at + ch.size)
      unfolding any
      seek_on t =
          let z = content_step s at ch h e in
          record { most = z.most; is = rw (z.reads, sym p ∙ t) at v.is }
