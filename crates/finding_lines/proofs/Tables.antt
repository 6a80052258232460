-- The findings in work memory, one after the other.
use Prim.Native.Nat.{ℕ, suc, ◌+◌, ◌≤◌, ◌<◌}
use mathlib.Core.Path.{◌≡◌, refl, ap, ◌∙◌}
use mathlib.Core.List.{List, [], ◌∷◌}
use native.Mathlib.Numerals.{add-one}
use native.Mathlib.Omega.{arith}
use lib.ListN.{length}
use Rattle.rules.specs.Page.{table_lines, finding_line}
use Rattle.output.specs.Put.{Put}
use Rattle.output.proofs.Puts.{put_seq}
use Rattle.output.proofs.Texts.{text_is}
use Rattle.page_fields.proofs.Tables.{lines_none, lines_more}
use Rattle.model.specs.Rows.{finding_of, finding_in, findings_in}
use Rattle.model.specs.Memory.{noted_in}
use Rattle.model.specs.declared.Noted.{Noted}
use Rattle.model.specs.declared.Held.{Held}
use Rattle.model.proofs.Windows.{noted_until, noted_is}
use Rattle.finding_lines.specs.Lines.{FindingPut, FindingsPut}

-- the lines of the first i, of n, are written

pub record Listing (w : List ℕ) (n : ℕ) (o₀ : List ℕ) (at : ℕ) (o : List ℕ) (m i : ℕ) : Type 0 where
  pub most : i ≤ n
  pub put : Put (table_lines finding_line (noted_until w i)) o₀ at o m

pub list_starts : {w o : List ℕ} {n at m : ℕ} → Put [] o at o m → Listing w n o at o m 0
unfolding findings_in
list_starts p = record { most = omega arith; put = text_is _ (lines_none finding_line) p }

findings_more : (w : List ℕ) (i : ℕ) → noted_until w (suc i) ≡ finding_of (noted_in w i) ∷ noted_until w i
unfolding findings_in finding_in
findings_more w i = refl

module _ {w : List ℕ} {n : ℕ} {o₀ : List ℕ} {at : ℕ} {o : List ℕ} {m i : ℕ} (v : Listing w n o₀ at o m i) where
  pub list_on : {x : Noted} {o' : List ℕ} {m' : ℕ} → i < n → x ≡ noted_in w i → FindingPut x o m o' m' → Listing w n o₀ at o' m' (i + 1)
  list_on {x} l e p =
      record {
        most = omega arith;
        put =
            rw add-one
            (text_is _ (ap (table_lines finding_line) (findings_more w i) ∙ lines_more finding_line (finding_of (noted_in w i)) (noted_until w i))
            (put_seq v.put (rw e at (p.is (length (noted_until w i))))));
      }

  pub list_ends : (h : Held) → n ≡ h.counts.findings → n ≤ i → FindingsPut w h o₀ at o m
  list_ends h q l = let e : i ≡ h.counts.findings = omega (arith, v.most) in record { is = λ sheet. rw (noted_is sheet w h) (rw e at v.put) }
