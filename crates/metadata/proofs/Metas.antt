-- From modes, findings and counts in work memory to the rules' `meta` lines.
use Prim.Native.Nat.{ℕ, suc, ◌+◌, ◌<◌}
use mathlib.Core.Path.{◌≡◌, refl, sym, ap, ◌∙◌}
use mathlib.Core.List.{List, [], ◌∷◌}
use mathlib.Core.Bool.{false}
use Rattle.std.specs.Prelude.{Option, None, Some}
use native.Mathlib.Omega.{arith}
use native.Mathlib.Numerals.{add-one}
use lib.ListN.{length, replicate, length-replicate}
use Rattle.rules.specs.Basic.{on_some}
use Rattle.rules.specs.Words.{DefineMode, DuplicateMode}
use Rattle.rules.specs.Event as rules
use Rattle.rules.specs.Finding.{found, found_two}
use Rattle.rules.specs.Modes.{Modes, key_text, value_text, ordinary, unknown_config}
use Rattle.rules.specs.State.{State, set_modes, set_metadata}
use Rattle.rules.specs.Metadata.{store_meta, bad_value, on_define, on_duplicate, on_key}
use Rattle.sheet.specs.Words.{define_of, duplicate_of}
use Rattle.sheet.specs.declared.Define.{Define}
use Rattle.sheet.specs.declared.Duplicate.{Duplicate}
use Rattle.parts.specs.Views.{span_in}
use Rattle.parts.specs.declared.Span.{Span}
use Rattle.model.specs.Blank.{blank_span, blank, blank_metadata}
use Rattle.model.specs.Rows.{finding_of}
use Rattle.model.specs.Memory.{state_of, state_in, Sound}
use Rattle.model.specs.Small.{with_define, with_duplicate, with_old}
use Rattle.model.specs.declared.Noted.{Noted}
use Rattle.model.specs.declared.Held.{Held}
use Rattle.model.proofs.Writes.{writes_none}
use Rattle.memory.specs.Pushes.{FindingPushed}
use Rattle.memory.proofs.Smalls.{state_blank, with_define_lem, with_duplicate_lem, with_old_lem}
use Rattle.memory.proofs.Bounds.{sound_define, sound_duplicate, sound_old, fit_counts}
use Rattle.blocks.specs.Lined.{Went}
use Rattle.blocks.proofs.Lines.{found_one, went_found}
use Rattle.metadata.specs.Metas.{OrdinaryCounted}

-- ---- what the cases of a line in brackets leave

-- `[mode]`, `[define]`: m is what the value chooses
pub record DefineSet (key value : Span) (m : Option Define) (w₀ : List ℕ) (h₀ : Held) (w : List ℕ) (h : Held) : Type 0 where
  pub by : (k v : rules.Text) → k.span ≡ span_in key → v.span ≡ span_in value → Went (on_define k v (on_some define_of m)) w₀ h₀ w h

-- `[duplicate]`
pub record DuplicateSet (key value : Span) (m : Option Duplicate) (w₀ : List ℕ) (h₀ : Held) (w : List ℕ) (h : Held) : Type 0 where
  pub by : (k v : rules.Text) → k.span ≡ span_in key → v.span ≡ span_in value → Went (on_duplicate k v (on_some duplicate_of m)) w₀ h₀ w h

-- another key in brackets
pub record UnknownNoted (key : Span) (w₀ : List ℕ) (h₀ : Held) (w : List ℕ) (h : Held) : Type 0 where
  pub by : (k v : rules.Text) → k.span ≡ span_in key → Went (on_key unknown_config k v) w₀ h₀ w h

-- ---- modes

blank_modes : (m : Modes) (st : State) → blank (set_modes m st) ≡ set_modes m (blank st)
unfolding set_modes blank
blank_modes m st = refl

modes_is : (sheet w : List ℕ) (h : Held) (m : Modes) → set_modes m (state_in sheet w h) ≡ blank (set_modes m (state_in sheet w h))
modes_is sheet w h m = sym (blank_modes m (state_in sheet w h) ∙ ap (set_modes m) (state_blank sheet w h))

define_modes : (sheet w : List ℕ) (h : Held) (k v : rules.Text) (m : DefineMode) → set_modes (record { define = m; duplicate = duplicate_of h.duplicate }) (state_in sheet w h) ≡ on_define k v (Some m) (state_in sheet w h)
unfolding on_define state_in state_of
define_modes sheet w h k v m = refl

duplicate_modes : (sheet w : List ℕ) (h : Held) (k v : rules.Text) (m : DuplicateMode) → set_modes (record { define = define_of h.define; duplicate = m }) (state_in sheet w h) ≡ on_duplicate k v (Some m) (state_in sheet w h)
unfolding on_duplicate state_in state_of
duplicate_modes sheet w h k v m = refl

module _ (sheet w : List ℕ) (h : Held) (k v : rules.Text) where
  define_is : (d : Define) → state_in sheet w (with_define d h) ≡ blank (on_define k v (Some (define_of d)) (state_in sheet w h))
  define_is d = with_define_lem sheet w h d ∙ (modes_is sheet w h _ ∙ ap blank (define_modes sheet w h k v (define_of d)))

  duplicate_is : (d : Duplicate) → state_in sheet w (with_duplicate d h) ≡ blank (on_duplicate k v (Some (duplicate_of d)) (state_in sheet w h))
  duplicate_is d = with_duplicate_lem sheet w h d ∙ (modes_is sheet w h _ ∙ ap blank (duplicate_modes sheet w h k v (duplicate_of d)))

module _ {w : List ℕ} {h r : Held} {key value : Span} (z : Sound w h) where
  pub define_set : {m : Option Define} {d : Define} → m ≡ Some d → r ≡ with_define d h → DefineSet key value m w h w r
  unfolding on_some
  define_set {d = d} p q = rw (p, q) record { by = λ k v a b. record { is = λ sheet. define_is sheet w h k v d; sound = sound_define z d; fit = λ sheet a. fit_counts refl refl a; writes = writes_none } }

  pub duplicate_set : {m : Option Duplicate} {d : Duplicate} → m ≡ Some d → r ≡ with_duplicate d h → DuplicateSet key value m w h w r
  unfolding on_some
  duplicate_set {d = d} p q = rw (p, q) record { by = λ k v a b. record { is = λ sheet. duplicate_is sheet w h k v d; sound = sound_duplicate z d; fit = λ sheet a. fit_counts refl refl a; writes = writes_none } }

-- ---- findings

bad_at : (key value : Span) (k v : rules.Text) → k.span ≡ span_in key → v.span ≡ span_in value → found_two 1 (span_in value) (span_in key) false ≡ bad_value k v
unfolding bad_value
bad_at key value k v a b = sym (ap (λ (s : rules.Span). found_two 1 s k.span false) b ∙ ap (λ (s : rules.Span). found_two 1 (span_in value) s false) a)

module _ {w₀ w : List ℕ} {h r : Held} {key value : Span} {x : Noted} (z : Sound w₀ h) (p : FindingPushed w₀ h x w r) (f : finding_of x ≡ found_two 1 (span_in value) (span_in key) false) where
  pub define_bad : {m : Option Define} → m ≡ None → DefineSet key value m w₀ h w r
  unfolding on_define on_some
  define_bad q = rw q record { by = λ k v a b. found_one z p (f ∙ bad_at key value k v a b) }

  pub duplicate_bad : {m : Option Duplicate} → m ≡ None → DuplicateSet key value m w₀ h w r
  unfolding on_duplicate on_some
  duplicate_bad q = rw q record { by = λ k v a b. found_one z p (f ∙ bad_at key value k v a b) }

-- ---- other lines

old_same : (k v : List ℕ) (st : State) → blank (store_meta k v st.metadata.old st) ≡ blank st
unfolding store_meta set_metadata blank blank_metadata
old_same k v st = refl

old_more : (k v : List ℕ) (s : rules.Span) (st : State) → blank (store_meta k v (s ∷ st.metadata.old) st) ≡ set_metadata (record { map = []; old = replicate (suc (length st.metadata.old)) blank_span }) (blank st)
unfolding store_meta set_metadata blank blank_metadata
old_more k v s st = refl

old_count : (sheet w : List ℕ) (h : Held) → length (state_in sheet w h).metadata.old ≡ h.counts.old
unfolding state_in state_of
old_count sheet w h = length-replicate h.counts.old blank_span

pub unknown_noted : {w₀ w : List ℕ} {h r : Held} {key : Span} {x : Noted} → Sound w₀ h → FindingPushed w₀ h x w r → finding_of x ≡ found 2 (span_in key) → UnknownNoted key w₀ h w r
unfolding on_key
unknown_noted {w₀} {h = h} z p f =
    record {
      by = λ k v a. went_found (record { is = λ sheet. sym (old_same (key_text k) (value_text v) (state_in sheet w₀ h) ∙ state_blank sheet w₀ h); sound = z; fit = λ sheet a. a; writes = writes_none }) p (f ∙ ap (found 2) (sym a));
    }

ordinary_is : (sheet w : List ℕ) (h : Held) (k v : rules.Text) → state_in sheet w (with_old (h.counts.old + 1) h) ≡ blank (on_key ordinary k v (state_in sheet w h))
unfolding on_key
ordinary_is sheet w h k v =
    let q : h.counts.old + 1 ≡ suc (length (state_in sheet w h).metadata.old) = add-one h.counts.old ∙ ap suc (sym (old_count sheet w h)) in
    with_old_lem sheet w h (h.counts.old + 1)
    ∙ (ap (λ (n : ℕ). set_metadata (record { map = []; old = replicate n blank_span }) (state_in sheet w h)) q
    ∙ sym (old_more (key_text k) (value_text v) _ (state_in sheet w h) ∙ ap (set_metadata (record { map = []; old = replicate (suc (length (state_in sheet w h).metadata.old)) blank_span })) (state_blank sheet w h)))

pub ordinary_counted : {h : Held} → h.counts.old < 100000 → OrdinaryCounted h (with_old (h.counts.old + 1) h)
ordinary_counted {h} l = record { by = λ k v. record { is = λ sheet w. ordinary_is sheet w h k v; sound = λ w z. sound_old z (h.counts.old + 1) (omega arith) }; fit = λ sheet w a. fit_counts refl refl a }
