-- The fields of a line of a sheet.
use Prim.Native.Nat.{ℕ, ◌+◌, ◌≤◌}
use mathlib.Core.Path.{◌≡◌, refl, sym, ap, ◌∙◌}
use mathlib.Core.List.{List, [], ◌∷◌, ◌++◌, append-nil}
use mathlib.Core.Bool.{Bool, true, false, ◌&&◌}
use Rattle.std.specs.Prelude.{Option, None, Some}
use native.Mathlib.Omega.{arith}
use lib.Dec.{eqb}
use lib.ListN.{length, get_or}
use lib.Seq.{append_snoc}
use borrow.Author.Tests.{eqb-true}
use Rattle.rules.specs.Basic.{tab, lf, is_some, on_some, split_at}
use Rattle.rules.specs.Sheet.{Lines, last, more, on_line, lines, fields_of, unescape, Without, without_none, without_more}
use Rattle.rules.specs.Read.{content_of}
use Rattle.rules.specs.Utf8.{is_utf8, chars}
use Rattle.rules.proofs.Basics.{and_left, and_right, no_truth, pick_either}
use Rattle.rules.proofs.Chars.{utf8_split}
use Rattle.rules.proofs.Fields.{without_both, without_left, without_right, split_one, split_more}
use Rattle.sheet.specs.Lines.{fields_from, field_at}
use Rattle.sheet.proofs.Scans.{fields_next}
use Rattle.content.specs.Contents.{plain_of, content_in}
use Rattle.content.specs.Parts.{Field}
use Rattle.content.proofs.Plains.{plain_unescape}

-- ---- a line holds no LF

no_line : {P : Type 0} {l m : List ℕ} {ls : Lines} → last l ≡ more m ls → P
no_line e = absurd (let z : ◌≡◌ {A = ℕ} 0 1 = cc in omega arith)

lines_first : {l m : List ℕ} {ls ms : Lines} → more l ls ≡ more m ms → l ≡ m
lines_first e = cc

-- the first line, whether it has its LF or not
unfoldable first_line : Lines → List ℕ
first_line (last l) = l
first_line (more l ls) = l

first_on : (b : ℕ) (ls : Lines) → first_line (on_line b ls) ≡ b ∷ first_line ls
unfolding first_line on_line
first_on b (last l) = refl
first_on b (more l ls) = refl

first_without : (s : List ℕ) → Without lf (first_line (lines s))
unfolding lines
first_without [] = unfold first_line in without_none
first_without (b ∷ s) =
    pick_either (λ (ls : Lines). Without lf (first_line ls)) (eqb b lf) _ _ (λ _. unfold first_line in without_none)
    (λ n. rw (first_on b (lines s)) (without_more n (first_without s)))

pub line_without : (s : List ℕ) {l : List ℕ} {ls : Lines} → lines s ≡ more l ls → Without lf l
line_without s {l} {ls} e = let k : first_line (lines s) ≡ l = rw e (unfold first_line in refl) in rw k at (first_without s)

-- the LF after it
ends_on : (b : ℕ) (s : List ℕ) {l : List ℕ} {ls : Lines} (x : Lines) → ((m : List ℕ) (ms : Lines) → x ≡ more m ms → get_or s (length m) 0 ≡ lf) → on_line b x ≡ more l ls → get_or (b ∷ s) (length l) 0 ≡ lf
unfolding on_line
ends_on b s (last m) h f = no_line f
ends_on b s (more m ms) h f = ap (λ (k : List ℕ). get_or (b ∷ s) (length k) 0) (sym (lines_first f)) ∙ h m ms refl

pub line_ends : (s : List ℕ) {l : List ℕ} {ls : Lines} → lines s ≡ more l ls → get_or s (length l) 0 ≡ lf
unfolding lines
line_ends [] e = no_line e
line_ends (b ∷ s) {l} {ls} e =
    pick_either (λ (x : Lines). x ≡ more l ls → get_or (b ∷ s) (length l) 0 ≡ lf) (eqb b lf) _ _
    (λ q f. ap (λ (k : List ℕ). get_or (b ∷ s) (length k) 0) (sym (lines_first f)) ∙ eqb-true b lf q)
    (λ n f. ends_on b s (lines s) (λ m ms g. line_ends s g) f)
    e

pub last_without : (s : List ℕ) {l : List ℕ} → lines s ≡ last l → Without lf l
last_without s {l} e = let k : first_line (lines s) ≡ l = rw e (unfold first_line in refl) in rw k at (first_without s)

-- ---- the fields of a line that is UTF-8

-- all that a field satisfies but for its escapes
pub record Ready (f : List ℕ) : Type 0 where
  pub utf8 : is_utf8 f ≡ true
  pub no_tab : Without tab f
  pub no_lf : Without lf f

pub data AllReady : List (List ℕ) → Type 0 where
  ready_none : AllReady []
  ready_more : {f : List ℕ} {fs : List (List ℕ)} → Ready f → AllReady fs → AllReady (f ∷ fs)

rest_without : {b c : ℕ} {s : List ℕ} → Without b (c ∷ s) → Without b s
rest_without (without_more q h) = h

-- p stands before l in the first field
split_ready : (l p : List ℕ) → Without tab p → Without lf (p ++ l) → is_utf8 (p ++ l) ≡ true → AllReady (split_at tab (p ++ l))
split_ready [] p h g u =
    let v : is_utf8 p ≡ true = rw append-nil at u in
    let w : Without lf p = rw append-nil at g in
    rw (append-nil, split_one tab h) (ready_more (record { utf8 = v; no_tab = h; no_lf = w }) ready_none)
split_ready (x ∷ l) p h g u = go (eqb x tab) refl (λ a b. split_ready l [] without_none a b) (λ q a b. split_ready l (p ++ (x ∷ [])) (without_both h (without_more q without_none)) a b)
  where
    go : (t : Bool) → eqb x tab ≡ t → (Without lf l → is_utf8 l ≡ true → AllReady (split_at tab l))
        → (eqb x tab ≡ false → Without lf ((p ++ (x ∷ [])) ++ l) → is_utf8 ((p ++ (x ∷ [])) ++ l) ≡ true → AllReady (split_at tab ((p ++ (x ∷ [])) ++ l)))
        → AllReady (split_at tab (p ++ (x ∷ l)))
    go true e ih on =
        let q = eqb-true x 9 e in
        let u2 : (is_utf8 p && is_utf8 l) ≡ true = sym (utf8_split p l 9 (omega arith)) ∙ (rw q at u) in
        rw (q, split_more tab l refl h)
        (ready_more (record { utf8 = and_left _ _ u2; no_tab = h; no_lf = without_left p (x ∷ l) g }) (ih (rest_without (without_right p (x ∷ l) g)) (and_right (is_utf8 p) _ u2)))
    go false e ih on =
        let k : (p ++ (x ∷ [])) ++ l ≡ p ++ (x ∷ l) = append_snoc p x l in
        rw k at (on e (rw k g) (rw k u))

pub line_ready : (line : List ℕ) → is_utf8 line ≡ true → Without lf line → AllReady (fields_of line)
unfolding fields_of
line_ready line u g = split_ready line [] without_none g u

pub ready_field : {f : List ℕ} → Ready f → is_some (unescape f) ≡ true → Field f
ready_field r w = record { utf8 = r.utf8; well = w; no_tab = r.no_tab; no_lf = r.no_lf }

-- one field after the other
pub record NextReady (line : List ℕ) (at : ℕ) : Type 0 where
  pub here : Ready (field_at line at)
  pub rest : AllReady (fields_from line (at + length (field_at line at) + 1))

pub next_ready : (line : List ℕ) (at : ℕ) → at ≤ length line → AllReady (fields_from line at) → NextReady line at
next_ready line at h a = apart (rw (fields_next line at h) at a)
  where
    apart : AllReady (field_at line at ∷ fields_from line (at + length (field_at line at) + 1)) → NextReady line at
    apart (ready_more r rs) = record { here = r; rest = rs }

-- ---- the content that the rules read

pub field_content : {f : List ℕ} → Field f → content_of f ≡ Some (content_in f)
unfolding content_of content_in
field_content {f} h = go (unescape f) refl h.well
  where
    go : (o : Option (List ℕ)) → unescape f ≡ o → is_some o ≡ true → on_some chars o ≡ Some (chars (plain_of f))
    go None e q = unfold is_some in no_truth q
    go (Some u) e q = unfold on_some in (rw (plain_unescape f e))

pub no_content_of : (f : List ℕ) → is_some (unescape f) ≡ false → content_of f ≡ None
unfolding content_of
no_content_of f h = go (unescape f) h
  where
    go : (o : Option (List ℕ)) → is_some o ≡ false → on_some chars o ≡ None
    go None q = unfold on_some in refl
    go (Some u) q = unfold is_some in no_truth (sym q)
