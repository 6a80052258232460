-- Blanks at the end of a field.
use Prim.Native.Nat.{ℕ, ◌<◌, ◌+◌}
use mathlib.Core.Path.{◌≡◌, refl, sym, ap, ◌∙◌}
use mathlib.Core.Bool.{Bool, true, false}
use mathlib.Core.List.{List, [], ◌∷◌, ◌++◌, append-nil, append_assoc}
use Rattle.std.specs.Prelude.{None}
use native.Mathlib.Omega.{arith}
use lib.ListN.{length, get_or, take, drop}
use lib.Seq.{get_or-drop}
use Rattle.rules.specs.Sheet.{escaped}
use Rattle.rules.specs.Text.{trim_end, is_not_alphabetic}
use Rattle.rules.specs.Utf8.{later}
use Rattle.rules.proofs.Basics.{within_low}
use Rattle.rules.proofs.Begins.{later_ascii}
use Rattle.content.specs.Contents.{content_in}
use Rattle.content.proofs.Chars.{content_step, in_ascii, no_content}
use Rattle.content.proofs.Cuts.{cut_content}
use Rattle.letters.proofs.Ascii.{white_blank, letter_upper}
use Rattle.text.specs.declared.Dropped.{Dropped}
use Rattle.text.specs.declared.Dropped.TheVariants.{White, NotAlphabetic}
use Rattle.fronts.specs.Ends.{Blanks, no_blanks, more_blanks, BlankFrom}
use Rattle.text.specs.Trims.{drops_of, CharStarts}
use Rattle.text.proofs.Trims.{end_dropped}
use Rattle.text.proofs.Starts.{cut_starts}
use Rattle.text.proofs.Backward.{Going}

-- ---- a blank starts a character: it goes on with none, and no escape ends with it

blanks_starts : {q : List ℕ} → Blanks q → later (get_or q 0 0) ≡ false
blanks_starts no_blanks = later_ascii 0 (omega arith)
blanks_starts (more_blanks b) = later_ascii 32 (omega arith)

blanks_apart : {q : List ℕ} → Blanks q → escaped (get_or q 0 0) ≡ None
unfolding escaped
blanks_apart no_blanks = refl
blanks_apart (more_blanks b) = refl

blank_starts : {s : List ℕ} {r : ℕ} → BlankFrom s r → CharStarts s r
blank_starts {s} {r} v =
    let z : r + 0 ≡ r = omega arith in
    let g : get_or s r 0 ≡ get_or (drop r s) 0 0 = sym (get_or-drop r s 0 0 ∙ rw z) in
    record { starts = λ _. ap later g ∙ blanks_starts v.rest; apart = λ _ _. ap escaped g ∙ blanks_apart v.rest }

-- ---- blanks are dropped

pub drops_blank : (d : Dropped) → drops_of d 32 ≡ true
unfolding drops_of is_not_alphabetic
drops_blank White = sym (white_blank 32 (omega arith) refl)
drops_blank NotAlphabetic = rw (← letter_upper 32 (omega arith) (sym (within_low 97 122 32 (omega arith))) refl (sym (within_low 65 90 32 (omega arith))))

blank_content : (q : List ℕ) → content_in (32 ∷ q) ≡ 32 ∷ content_in q
blank_content q =
    let h : 0 < length (32 ∷ q) = omega arith in
    (content_step (32 ∷ q) 0 _ h (in_ascii (32 ∷ q) 0 h {x = 32} refl (omega arith) (λ e. omega arith))).reads

module _ (drops : ℕ → Bool) (e : drops 32 ≡ true) where
  end_blanks : (xs : List ℕ) {q : List ℕ} → Blanks q → trim_end drops (xs ++ content_in q) ≡ trim_end drops xs
  end_blanks xs no_blanks = rw (no_content, append-nil)
  end_blanks xs (more_blanks {q} b) =
      ap (λ (l : List ℕ). trim_end drops (xs ++ l)) (blank_content q) ∙ ap (trim_end drops) (sym (append_assoc xs (32 ∷ []) (content_in q))) ∙ end_blanks (xs ++ (32 ∷ [])) b ∙ end_dropped drops xs 32 e

  pub blanks_go : {s : List ℕ} {r : ℕ} → BlankFrom s r → Going drops s r
  blanks_go {s} {r} v =
      let b = blank_starts v in
      record {
        most = v.most;
        begins = b;
        is = sym (ap (trim_end drops) (cut_content s r (cut_starts s r v.most b)) ∙ end_blanks (content_in (take r s)) v.rest);
      }
