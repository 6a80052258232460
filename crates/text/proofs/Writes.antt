-- Fields written with single blanks.
use Prim.Native.Nat.{ℕ, ◌<◌, ◌≤◌, ◌+◌}
use mathlib.Core.Path.{◌≡◌, ap, ◌∙◌}
use mathlib.Core.Bool.{Bool, true, false, ◌&&◌, not}
use mathlib.Core.List.{List, [], ◌∷◌, ◌++◌}
use native.Mathlib.Numerals.{add-one}
use borrow.Author.Tests.{not-true, not-false}
use lib.Dec.{eqb}
use lib.ListN.{length, get_or, drop, drop_of_length-le}
use lib.Seq.{drop-cons}
use Rattle.rules.specs.Basic.{pick, blank}
use Rattle.rules.specs.Text.{retain, text_trimmed}
use Rattle.output.specs.Put.{Put}
use Rattle.content.specs.Contents.{content_in, kept_in, spell}
use Rattle.content.specs.Parts.{Field}
use Rattle.content.proofs.Retains.{field_retain, kept_trimmed}
use Rattle.text.specs.Trims.{TrimmedTo, PutTrimmed}

-- ---- the loop
module _ (w : List ℕ) (i prev b : ℕ) (gone : Bool) (h : i < length w) (eb : b ≡ get_or w i 0) (eg : gone ≡ (eqb b blank && eqb prev blank)) where
  retain_next : retain prev (drop i w) ≡ pick gone (retain b (drop (i + 1) w)) (b ∷ retain b (drop (i + 1) w))
  unfolding retain
  retain_next = rw (drop-cons w i 0 h, add-one i, ← eb, eg)

  pub retain_goes : not gone ≡ false → retain prev (drop i w) ≡ retain b (drop (i + 1) w)
  retain_goes n = retain_next ∙ rw (not-false gone n)

  pub retain_stays : not gone ≡ true → retain prev (drop i w) ≡ (b ∷ []) ++ retain b (drop (i + 1) w)
  retain_stays n = retain_next ∙ rw (not-true gone n)

pub retain_none : (w : List ℕ) (i prev : ℕ) → length w ≤ i → retain prev (drop i w) ≡ []
unfolding retain
retain_none w i prev h = rw (drop_of_length-le w h)

-- a field with single blanks spells its content with single blanks
pub kept_spelled : {w : List ℕ} → Field w → retain 0 w ≡ spell (kept_in w)
unfolding kept_in
kept_spelled {w} h = field_retain 0 h

pub trimmed_spelled : {s w : List ℕ} → TrimmedTo s w → Field s → retain 0 w ≡ spell (text_trimmed (content_in s))
trimmed_spelled {s} {w} d h = kept_spelled (d.field h) ∙ ap spell (kept_trimmed s w d.is)

pub put_trimmed : {s w o₀ o : List ℕ} {at r : ℕ} → TrimmedTo s w → Put (retain 0 w) o₀ at o r → PutTrimmed s o₀ at o r
put_trimmed {s} {w} d p = record { part = w; trimmed = d; put = p; is = trimmed_spelled d }

pub put_spelled : {s o₀ o : List ℕ} {at r : ℕ} → PutTrimmed s o₀ at o r → Field s → Put (spell (text_trimmed (content_in s))) o₀ at o r
put_spelled p h = rw (p.is h) at p.put
