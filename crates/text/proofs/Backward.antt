-- Trimming from the end, one character at a time.
use Prim.Native.Nat.{ℕ, ◌≤◌, ◌<◌, ◌+◌, ◌-◌}
use mathlib.Core.Path.{◌≡◌, sym, ap, ◌∙◌}
use mathlib.Core.Bool.{Bool, true, false}
use mathlib.Core.List.{List, [], ◌∷◌, ◌++◌}
use native.Mathlib.Omega.{arith}
use lib.ListN.{length, get_or, take, drop}
use lib.Seq.{get_or-take, take-take, length-take-le}
use Rattle.rules.specs.Sheet.{escaped}
use Rattle.rules.specs.Utf8.{later}
use Rattle.rules.specs.Text.{trim_end}
use Rattle.utf8.specs.declared.Char.{Char}
use Rattle.content.specs.Contents.{content_in}
use Rattle.content.specs.Readings.{char_in}
use Rattle.content.proofs.Chars.{content_step, content_none, no_content}
use Rattle.content.proofs.Cuts.{cut_start, cut_content}
use Rattle.text.specs.declared.ends.Last.{Last}
use Rattle.text.specs.declared.ends.Last.TheVariants.{Stays, Goes}
use Rattle.fronts.specs.Ends.{LastStart}
use Rattle.text.specs.Trims.{EndAt, CharStarts, LastChar, LastOf, last_stays, last_goes}
use Rattle.text.proofs.Starts.{cut_starts, cut_within}
use Rattle.text.proofs.Trims.{end_dropped, end_whole}

-- ---- the ways of `last_of`

module _ (s : List ℕ) (i : ℕ) (ch : Char) (v : LastStart s i) (n : 0 < i → get_or s (i - 1) 0 ≡ 92 → ⊥) (e : ch ≡ char_in (drop i s)) (h : length s ≤ i + ch.size) where
  last_char : LastChar s i ch.code
  last_char =
      record {
        inside = v.inside;
        begins = record { starts = v.starts; apart = λ l b. absurd (n l b) };
        is = (content_step s i ch v.inside e).reads ∙ rw (content_none s (i + ch.size) h);
      }

  module _ (drops : ℕ → Bool) {r : Bool} (p : r ≡ drops ch.code) where
    pub tells_goes : r ≡ true → LastOf drops s (Goes i)
    tells_goes t = last_goes last_char (sym p ∙ t)

    pub tells_stays : r ≡ false → LastOf drops s Stays
    tells_stays t = last_stays last_char (sym p ∙ t)

-- ---- the turns of `end_of`: what stands from e on goes

chars_front : {s : List ℕ} {i c : ℕ} → LastChar s i c → content_in s ≡ content_in (take i s) ++ (c ∷ [])
chars_front {s} {i} {c} v = cut_content s i (cut_starts s i (omega (arith, v.inside)) v.begins) ∙ rw v.is

starts_front : {s : List ℕ} {i e : ℕ} → i < e → CharStarts (take e s) i → CharStarts s i
starts_front {s} {i} {e} h v =
    let g : get_or (take e s) i 0 ≡ get_or s i 0 = get_or-take e s i 0 h in
    record {
      starts = λ l. ap later (sym g) ∙ v.starts l;
      apart = λ l b. ap escaped (sym g) ∙ v.apart l (get_or-take e s (i - 1) 0 (omega arith) ∙ b);
    }

module _ (drops : ℕ → Bool) where
  pub record Going (s : List ℕ) (e : ℕ) : Type 0 where
    pub most : e ≤ length s
    pub begins : CharStarts s e
    pub is : trim_end drops (content_in (take e s)) ≡ trim_end drops (content_in s)

  module _ {s : List ℕ} {e : ℕ} (v : Going s e) where
    pub going_ends : {r : ℕ} → EndAt drops (take e s) r → EndAt drops s r
    going_ends {r} w =
        let l = length-take-le e s v.most in
        let h : r ≤ e = omega (arith, w.most) in
        record {
          most = omega (arith, v.most);
          cut = cut_within s r e h v.most v.begins w.cut;
          is = ap content_in (sym (take-take r e s h)) ∙ w.is ∙ v.is;
        }

    pub going_none : e ≤ 0 → EndAt drops s 0
    unfolding trim_end
    going_none h =
        let z : e ≡ 0 = omega arith in
        let k : trim_end drops (content_in []) ≡ trim_end drops (content_in s) = rw z at v.is in
        record { most = omega arith; cut = cut_start s; is = no_content ∙ (rw no_content at k) }

    going_stays : LastOf drops (take e s) Stays → EndAt drops s e
    going_stays (last_stays {i} {c} x n) = rw (length-take-le e s v.most) at (going_ends (end_whole drops (take e s) (content_in (take i (take e s))) c (chars_front x) n))

    pub record Gone (i : ℕ) : Type 0 where
      pub less : i < e
      pub going : Going s i

    going_goes : {i : ℕ} → LastOf drops (take e s) (Goes i) → Gone i
    going_goes {i} (last_goes {c = c} x n) =
        let h : i < e = omega (arith, x.inside, length-take-le e s v.most) in
        let l : i ≤ e = omega arith in
        let k : trim_end drops (content_in (take i (take e s))) ≡ trim_end drops (content_in (take e s)) = sym (ap (trim_end drops) (chars_front x) ∙ end_dropped drops (content_in (take i (take e s))) c n) in
        record {
          less = h;
          going = record { most = omega (arith, v.most); begins = starts_front h x.begins; is = (rw (take-take i e s l) at k) ∙ v.is };
        }

    module _ {r : Last} (w : LastOf drops (take e s) r) where
      pub end_stays : r ≡ Stays → EndAt drops s e
      end_stays q = going_stays (rw q at w)

      pub end_goes : {i : ℕ} → r ≡ Goes i → Gone i
      end_goes q = going_goes (rw q at w)
