-- Where the name of a unit stands in its word.
use Prim.Native.Nat.{ℕ, ◌+◌, ◌-◌, ◌≤◌}
use mathlib.Core.Path.{◌≡◌, refl, sym, ap, ◌∙◌}
use mathlib.Core.Bool.{Bool}
use mathlib.Core.List.{List, [], ◌∷◌}
use native.Mathlib.Omega.{arith}
use lib.ListN.{length, take, drop, length-drop}
use lib.Seq.{length-take-le, drop_at, take-take}
use Rattle.content.specs.Contents.{content_in}
use Rattle.content.proofs.Cuts.{cut_front}
use Rattle.rules.specs.Text.{trim_start, trim_end, trim_matches, is_not_alphabetic, unit_trimmed}
use Rattle.rules.specs.Inline.{behind}
use Rattle.text.specs.declared.Dropped.TheVariants.{NotAlphabetic}
use Rattle.text.specs.Trims.{drops_of, EndAt}
use Rattle.inline.specs.Scans.{part, Front, UnitPart}
use Rattle.inline.proofs.Scans.{part_part}

start_behind : (p : ℕ → Bool) (x : List ℕ) → trim_start p x ≡ behind p x
unfolding trim_start behind
start_behind p [] = refl
start_behind p (c ∷ x) = rw (start_behind p x)

-- its letters start after k bytes of the word
module _ (s : List ℕ) (a e k : ℕ) (h : a ≤ e) (l : e ≤ length s) (f : Front is_not_alphabetic (part a e s) 0 k) where
  long : length (part a e s) ≡ e - a
  long = length-take-le (e - a) (drop a s) (omega (arith, length-drop a s))

  pub name_from : a + k ≤ e
  name_from = omega (arith, f.to, long)

  rest : drop k (part a e s) ≡ part (a + k) e s
  rest =
      let m : a + k - a ≡ k = omega arith in
      let n : length (part a (a + k) s) ≡ k = rw m (length-take-le k (drop a s) (omega (arith, length-drop a s, name_from))) in
      rw (part_part a (a + k) e s (omega arith) name_from) (drop_at (part a (a + k) s) (part (a + k) e s) k n)

  -- and end n bytes after
  module _ (n : ℕ) (t : EndAt (drops_of NotAlphabetic) (part (a + k) e s) n) where
    pub name_to : a + k + n ≤ e
    name_to = omega (arith, t.most, name_from, length-take-le (e - (a + k)) (drop (a + k) s) (omega (arith, length-drop (a + k) s)))

    there : part (a + k) (a + k + n) s ≡ take n (part (a + k) e s)
    there =
        let m : a + k + n - (a + k) ≡ n = omega arith in
        rw m (sym (take-take n (e - (a + k)) (drop (a + k) s) (omega (arith, name_to))))

    trimmed : trim_end (drops_of NotAlphabetic) (content_in (part (a + k) e s)) ≡ unit_trimmed (content_in (part a e s))
    unfolding drops_of unit_trimmed trim_matches
    trimmed = ap (trim_end is_not_alphabetic) (ap content_in (sym rest) ∙ f.behind ∙ sym (start_behind is_not_alphabetic (content_in (part a e s))))

    pub unit_there : UnitPart s a e (record { from = a + k; to = a + k + n })
    unit_there =
        record {
          from = omega arith;
          order = omega arith;
          to = name_to;
          is = ap content_in there ∙ t.is ∙ trimmed;
          whole = rw there (cut_front (part (a + k) e s) n t.cut (rw rest at f.left));
        }
