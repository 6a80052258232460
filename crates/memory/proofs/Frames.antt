-- What findings leave as it is.
use Prim.Native.Nat.{ℕ, ◌+◌, ◌*◌, ◌≤◌}
use mathlib.Core.Path.{◌≡◌, refl, ap, sym, ◌∙◌}
use mathlib.Core.List.{List, [], ◌∷◌}
use native.Mathlib.Omega.{arith}
use lib.ListN.{length}
use lib.Seq.{sets, length-sets}
use Rattle.rules.specs.Finding.{Finding}
use Rattle.rules.specs.Model.{Kind, ingredient, cookware}
use Rattle.rules.specs.State.{State, table_of, report}
use Rattle.model.specs.Rows.{referrers_by, noted_words, finding_of}
use Rattle.model.specs.Memory.{Windows, windows_of, rows_in, pairs_in, count_of, pairs_of, referrers_left, state_in}
use Rattle.model.specs.Small.{with_findings}
use Rattle.model.specs.declared.Noted.{Noted}
use Rattle.model.specs.declared.Held.{Held}
use Rattle.model.proofs.Tables.{noted_length}
use Rattle.memory.specs.Pushes.{FindingPushed}
use Rattle.memory.specs.Frames.{Framed}
use Rattle.memory.proofs.Windows.{in_findings}
use Rattle.memory.specs.Reports.{Reported, nothing, more}
use Rattle.memory.proofs.Reports.{reported_is}
use Rattle.model.specs.declared.layout.TheConstants.{FINDING, MOST_FINDINGS, FINDINGS}

pub framed_none : {w : List ℕ} {h : Held} → Framed w h w h
framed_none = record { rows = λ k. refl; referrers = λ k. refl; left = λ k d place. refl; place = λ sheet. refl; long = refl; held = refl }

pub framed_seq : {w w₁ w₂ : List ℕ} {h h₁ h₂ : Held} → Framed w h w₁ h₁ → Framed w₁ h₁ w₂ h₂ → Framed w h w₂ h₂
framed_seq {h₂ = h₂} a b =
    record {
      rows = λ k. b.rows k ∙ a.rows k;
      referrers = λ k. b.referrers k ∙ a.referrers k;
      left = λ k d place. b.left k d place ∙ a.left k d place;
      place = λ sheet. b.place sheet ∙ a.place sheet;
      long = b.long ∙ a.long;
      held = b.held ∙ ap (with_findings h₂.counts.findings) a.held;
    }

-- one finding
windows_after : {w w₁ : List ℕ} {h h₁ : Held} {x : Noted} → FindingPushed w h x w₁ h₁ → windows_of w₁ ≡ record (windows_of w) { findings = sets (windows_of w).findings (h.counts.findings * FINDING) (noted_words x) }
windows_after {w} {h = h} {h₁ = h₁} {x = x} p =
    let n : h₁.counts.findings ≡ h.counts.findings + 1 = ap (λ (z : Held). z.counts.findings) p.held in
    let m : h₁.counts.findings ≤ MOST_FINDINGS = p.sound.room.others.findings in
    ap windows_of p.words ∙ in_findings w (h.counts.findings * FINDING) (noted_words x) (omega (arith, noted_length x))

place_report : (f : Finding) (st : State) → (report (f ∷ []) st).place ≡ st.place
unfolding report
place_report f st = refl

module _ {w w₁ : List ℕ} {h h₁ : Held} {x : Noted} (p : FindingPushed w h x w₁ h₁) where
  rows_after : (k : Kind) → rows_in k w₁ ≡ rows_in k w
  rows_after ingredient = ap (λ (z : Windows). z.ingredients) (windows_after p)
  rows_after cookware = ap (λ (z : Windows). z.cookware) (windows_after p)

  pairs_after : (k : Kind) → pairs_in k w₁ ≡ pairs_in k w
  pairs_after ingredient = ap (λ (z : Windows). z.ingredient_pairs) (windows_after p)
  pairs_after cookware = ap (λ (z : Windows). z.cookware_pairs) (windows_after p)

  paired_after : (k : Kind) → pairs_of k h₁ ≡ pairs_of k h
  paired_after ingredient = ap (pairs_of ingredient) p.held
  paired_after cookware = ap (pairs_of cookware) p.held

  left_after : (k : Kind) (d place : ℕ) → referrers_left k w₁ h₁ d place ≡ referrers_left k w h d place
  unfolding referrers_left
  left_after k d place = rw (pairs_after k, paired_after k)

  finding_framed : Framed w h w₁ h₁
  finding_framed =
      record {
        rows = rows_after;
        referrers = λ k. ap (λ (ps : List ℕ). referrers_by ps (pairs_of k h₁)) (pairs_after k) ∙ ap (referrers_by (pairs_in k w)) (paired_after k);
        left = left_after;
        place = λ sheet. ap (λ (st : State). st.place) (p.is sheet) ∙ place_report (finding_of x) (state_in sheet w h);
        long = ap length p.words ∙ length-sets w (FINDINGS + h.counts.findings * FINDING) (noted_words x);
        held = p.held ∙ ap (λ (z : Held). with_findings z.counts.findings h) (sym p.held);
      }

pub reported_framed : {fs : List Finding} {w w₁ : List ℕ} {h h₁ : Held} → Reported fs w h w₁ h₁ → Framed w h w₁ h₁
reported_framed nothing = framed_none
reported_framed (more x e p q) = framed_seq (finding_framed p) (reported_framed q)

-- ---- counts

pub framed_count : {w w₁ : List ℕ} {h h₁ : Held} → Framed w h w₁ h₁ → (k : Kind) → count_of k h₁ ≡ count_of k h
framed_count a ingredient = ap (count_of ingredient) a.held
framed_count a cookware = ap (count_of cookware) a.held

-- ---- tables

table_report : (k : Kind) (fs : List Finding) (st : State) → table_of k (report fs st) ≡ table_of k st
unfolding table_of report
table_report ingredient fs st = refl
table_report cookware fs st = refl

pub reported_table : {fs : List Finding} {w w₁ : List ℕ} {h h₁ : Held} → Reported fs w h w₁ h₁ → (k : Kind) (sheet : List ℕ)
    → table_of k (state_in sheet w₁ h₁) ≡ table_of k (state_in sheet w h)
reported_table {fs} {w} {h = h} r k sheet = ap (table_of k) (reported_is r sheet) ∙ table_report k fs (state_in sheet w h)
