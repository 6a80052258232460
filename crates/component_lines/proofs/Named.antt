-- A component that is looked up by its name.
use Prim.Native.Nat.{ℕ, ◌+◌, ◌-◌, ◌≤◌, ◌<◌}
use mathlib.Core.Path.{◌≡◌, refl, ap, sym, ◌∙◌, subst}
use mathlib.Core.Bool.{Bool, true, false, not}
use mathlib.Core.List.{List, [], ◌++◌}
use Rattle.std.specs.Prelude.{Option, None, Some}
use native.Mathlib.Omega.{arith}
use lib.ListN.{take, drop}
use lib.Seq.{slice}
use Rattle.rules.specs.Basic.{on_some}
use Rattle.rules.specs.Event as rules
use Rattle.rules.specs.Units.{NamedUnit}
use Rattle.rules.specs.Model.{Kind, ingredient, is_ingredient, amount_of, inherits, source_of, Entry, entry_of, entry_with, set_modifiers}
use Rattle.rules.specs.Modes.{Modes, is_components}
use Rattle.rules.specs.Reference.{Earlier, same_name_of, refers_to, reference_findings, as_referring}
use Rattle.rules.specs.State.{State, table_of}
use Rattle.rules.specs.Components.{Made, lock_findings, new_entry, found_same, checks_after, made_with, made_by_name}
use Rattle.parts.specs.Views.{opt_quantity_in}
use Rattle.components.specs.Views.{modifiers_in, component_in, ComponentWithin}
use Rattle.components.specs.declared.ComponentView.{ComponentView}
use Rattle.model.specs.Rows.{entry_as, if_found}
use Rattle.model.specs.Memory.{state_of, state_in, Sound}
use Rattle.model.specs.Fits.{AllFit}
use Rattle.model.specs.declared.Row.{Row}
use Rattle.model.specs.declared.Noted.{Noted}
use Rattle.model.specs.declared.Held.{Held}
use Rattle.lookup.specs.declared.NamePart.{NamePart}
use Rattle.lookup.specs.Names.{earlier_at, SameFound}
use Rattle.lookup.specs.References.{modes_of, asks_same, Marked, Refers}
use Rattle.lookup.proofs.Names.{part_slice}
use Rattle.memory.specs.Reports.{Reported}
use Rattle.memory.proofs.Reports.{reported_seq, reported_fit, found_count}
use Rattle.memory.specs.Frames.{Framed}
use Rattle.memory.proofs.Frames.{reported_framed, framed_count, reported_table}
use Rattle.unit_checks.specs.Checked.{SameBelow, ChecksDone}
use Rattle.timers.specs.Timed.{LockChecked}
use Rattle.reference_findings.specs.Reports.{hands_down, SameAs, NewAs, ReferenceReported}
use Rattle.component_lines.specs.Steps.{ComponentHere, NamePlaced, SameAsked, Roomy, SameSmall, OldRead, NamedReported, RowNamed, ReferredBelow, RowPut, NamedDone}
use Rattle.component_lines.proofs.Places.{own_content, row_fits}
use Rattle.component_lines.proofs.Rows.{entry_named}
use Rattle.component_lines.proofs.Earlier.{old_referred, to_below, small_same, found_below, earliers_kept, below_kept, earlier_index}
use Rattle.component_lines.proofs.Asked.{same_below, made_unasked}
use Rattle.component_lines.proofs.Rooms.{reference_short, short_count}
use Rattle.component_lines.proofs.Whole.{locked, reported_roomy, new_entry_lem, pushed_done}
use Rattle.components.specs.declared.Modifiers.{Modifiers}
use Rattle.sheet.specs.Words.{define_of}
use Rattle.model.specs.declared.layout.TheConstants.{MOST_FINDINGS}

-- ---- a new entry

module _ (k : Kind) (in_step : Bool) (line : List ℕ) (v : ComponentView) where
  new_as : NewAs (entry_of k in_step (component_in line v)) v.modifiers v.span v.modifiers_span
  unfolding entry_of entry_with source_of component_in
  new_as = record { is_modifiers = refl; is_span = refl; is_at = refl }

  new_source : (entry_of k in_step (component_in line v)).source ≡ source_of (component_in line v)
  unfolding entry_of entry_with
  new_source = refl

  new_amount : (entry_of k in_step (component_in line v)).quantity ≡ on_some (amount_of (is_ingredient k)) (opt_quantity_in line v.quantity)
  unfolding entry_of entry_with component_in
  new_amount = refl

  new_ref : (entry_of k in_step (component_in line v)).modifiers.ref ≡ v.modifiers.reference
  unfolding entry_of entry_with component_in modifiers_in
  new_ref = refl

  new_opt : (entry_of k in_step (component_in line v)).modifiers.opt ≡ v.modifiers.opt
  unfolding entry_of entry_with component_in modifiers_in
  new_opt = refl

  new_marked : Marked (entry_of k in_step (component_in line v)) v.modifiers.reference v.modifiers.new
  unfolding entry_of entry_with component_in modifiers_in
  new_marked = record { is_ref = refl; is_new = refl }

-- an earlier entry with the modifiers, where only the number of findings matters
unfoldable sample : Entry → Option Modifiers → Option Earlier
sample e (Some m) = Some (record { index = 0; entry = set_modifiers (modifiers_in m) e })
sample e None = None

sample_as : (e : Entry) (o : Option Modifiers) → SameAs (sample e o) o
unfolding sample on_some hands_down set_modifiers
sample_as e (Some m) = record { is = refl }
sample_as e None = record { is = refl }

-- ---- what is found: 6, then 10 to 14, then 15 to 20

module _ {k : Kind} (line : List ℕ) (v : ComponentView) {o : Option Modifiers} {x : Option Noted} {w₀ w₁ w₂ : List ℕ} {h₀ h₁ h₂ : Held} (l : LockChecked v.quantity x)
    (p : Reported (if_found x) w₀ h₀ w₁ h₁) (r : ReferenceReported k v.modifiers v.span v.modifiers_span o w₁ h₁ w₂ h₂) where
  modes_kept : modes_of h₁.define h₁.duplicate ≡ modes_of h₀.define h₀.duplicate
  modes_kept = ap (λ (z : Held). modes_of z.define z.duplicate) (reported_framed p).held

  referred : (in_step : Bool) (same : Option Earlier) → SameAs same o
      → Reported (reference_findings (modes_of h₀.define h₀.duplicate) (entry_of k in_step (component_in line v)) (inherits k) same) w₁ h₁ w₂ h₂
  referred in_step same s =
      subst (λ (m : Modes). Reported (reference_findings m (entry_of k in_step (component_in line v)) (inherits k) same) w₁ h₁ w₂ h₂) modes_kept
      (r.is (entry_of k in_step (component_in line v)) same (new_as k in_step line v) s)

  both : (in_step : Bool) (same : Option Earlier) → SameAs same o
      → Reported (lock_findings (component_in line v).quantity ++ reference_findings (modes_of h₀.define h₀.duplicate) (entry_of k in_step (component_in line v)) (inherits k) same) w₀ h₀ w₂ h₂
  both in_step same s = reported_seq (locked line v l p) (referred in_step same s)

  abbrev any : Option Earlier
  any = sample (entry_of k true (component_in line v)) o

  any_as : SameAs any o
  any_as = sample_as (entry_of k true (component_in line v)) o

  both_framed : Framed w₀ h₀ w₂ h₂
  both_framed = reported_framed (both true any any_as)

  both_count : h₂.counts.findings ≤ h₀.counts.findings + 3
  both_count = omega (arith, found_count _ p, short_count (reference_short (modes_of h₀.define h₀.duplicate) (entry_of k true (component_in line v)) (inherits k) any) (referred true any any_as))

  checks_ready : {sheet : List ℕ} {to : Option ℕ} → Sound w₀ h₀ → AllFit sheet w₀ h₀ → Roomy h₀ → h₀.counts.findings ≤ 1024 → SameBelow k h₀ to
      → AllFit sheet w₂ h₂ × SameBelow k h₂ to × (h₂.counts.findings + h₂.counts.ingredients + 3 < MOST_FINDINGS)
  checks_ready {sheet} z a y n s =
      let q = both true any any_as in
      let m : h₂.counts.ingredients ≡ h₀.counts.ingredients = framed_count both_framed ingredient in
      (reported_fit q sheet a, below_kept both_framed k s, omega (arith, both_count, y.ingredients))

  module _ {us : List NamedUnit} {flags : ℕ} {sheet : List ℕ} {to : Option ℕ} {w : List ℕ} {h : Held} (d : ChecksDone us flags k sheet line v to w₂ h₂ w h) where
    checked : (in_step : Bool) (same : Option Earlier) → SameAs same o
        → on_some (earlier_at k sheet w₀ h₀) to ≡ refers_to (modes_of h₀.define h₀.duplicate) (entry_of k in_step (component_in line v)) same
        → Reported
        (checks_after us flags k (entry_of k in_step (component_in line v)) (table_of k (state_in sheet w₀ h₀)) (refers_to (modes_of h₀.define h₀.duplicate) (entry_of k in_step (component_in line v)) same))
        w₂ h₂ w h
    checked in_step same s e =
        subst (λ (q : Option Earlier). Reported (checks_after us flags k (entry_of k in_step (component_in line v)) (table_of k (state_in sheet w₀ h₀)) q) w₂ h₂ w h)
        (earliers_kept both_framed k sheet to ∙ e)
        (subst (λ (t : List Entry). Reported (checks_after us flags k (entry_of k in_step (component_in line v)) t (on_some (earlier_at k sheet w₂ h₂) to)) w₂ h₂ w h)
        (reported_table (both in_step same s) k sheet)
        (d.is (entry_of k in_step (component_in line v)) (new_source k in_step line v) (new_amount k in_step line v) (new_ref k in_step line v)))

    named_reported : NamedReported us flags k sheet line v o to w₀ h₀ w h
    unfolding made_with
    named_reported = record { is = λ in_step same s e. reported_seq (both in_step same s) (checked in_step same s e) }

-- the line as it is lent
module _ {k : Kind} {sheet : List ℕ} {at end : ℕ} {v : ComponentView} (x : ComponentHere k sheet at end v) where
  pub lent_within : ComponentWithin (take (end - at) (drop at sheet)) v
  lent_within = rw (part_slice at end sheet x.whole.order) x.within

pub checks_ready_at : {k : Kind} {sheet : List ℕ} {at end : ℕ} {v : ComponentView} {o : Option Modifiers} {to : Option ℕ} {y : Option Noted} {w₀ w₁ w₂ : List ℕ} {h₀ h₁ h₂ : Held} → ComponentHere k sheet at end v → LockChecked v.quantity y → Reported (if_found y) w₀ h₀ w₁ h₁
    → ReferenceReported k v.modifiers v.span v.modifiers_span o w₁ h₁ w₂ h₂ → Sound w₀ h₀ → AllFit sheet w₀ h₀ → Roomy h₀ → h₀.counts.findings ≤ 1024 → SameBelow k h₀ to
    → AllFit sheet w₂ h₂ × SameBelow k h₂ to × (h₂.counts.findings + h₂.counts.ingredients + 3 < MOST_FINDINGS)
checks_ready_at {sheet = sheet} {at} {end} {v} x l p r z a y n s = checks_ready (slice at end sheet) v l p r z a y n s

pub named_found : {k : Kind} {sheet : List ℕ} {at end : ℕ} {v : ComponentView} {o : Option Modifiers} {us : List NamedUnit} {flags : ℕ} {to : Option ℕ} {y : Option Noted} {w₀ w₁ w₂ w : List ℕ} {h₀ h₁ h₂ h : Held} → ComponentHere k sheet at end v
    → LockChecked v.quantity y → Reported (if_found y) w₀ h₀ w₁ h₁ → ReferenceReported k v.modifiers v.span v.modifiers_span o w₁ h₁ w₂ h₂ → ChecksDone us flags k sheet (take (end - at) (drop at sheet)) v to w₂ h₂ w h
    → NamedReported us flags k sheet (slice at end sheet) v o to w₀ h₀ w h
named_found {sheet = sheet} {at} {end} {v} x l p r d = named_reported (slice at end sheet) v l p r (rw (part_slice at end sheet x.whole.order) at d)

-- ---- the whole line

index_all : (f : ℕ → Earlier) → ((i : ℕ) → (f i).index ≡ i) → (s : Option ℕ) → s ≡ on_some (λ (d : Earlier). d.index) (on_some f s)
unfolding on_some
index_all f ef None = refl
index_all f ef (Some i) = ap Some (sym (ef i))

modes_in : (sheet w : List ℕ) (h : Held) → (state_in sheet w h).modes ≡ modes_of h.define h.duplicate
unfolding state_in state_of
modes_in sheet w h = refl

made_by : (us : List NamedUnit) (flags : ℕ) (k : Kind) (c : rules.Component) (st : State) {modes : Modes} {new : Entry} {same : Option Earlier} → st.modes ≡ modes → new_entry k c st ≡ new → same ≡ found_same new (table_of k st)
    → made_by_name us flags k c st ≡ made_with us flags k modes (table_of k st) (lock_findings c.quantity) new same
unfolding made_by_name
made_by us flags k c st {modes} {new} {same} em en es =
    ap (λ (e : Entry). made_with us flags k st.modes (table_of k st) (lock_findings c.quantity) e (found_same e (table_of k st))) en
    ∙ ap (λ (o : Option Earlier). made_with us flags k st.modes (table_of k st) (lock_findings c.quantity) new o) (sym es)
    ∙ ap (λ (m : Modes). made_with us flags k m (table_of k st) (lock_findings c.quantity) new same) em

module _ {k : Kind} {sheet : List ℕ} {at end : ℕ} {v : ComponentView} {p : NamePart} {same to : Option ℕ} {o : Option Modifiers} {w₀ : List ℕ} {h₀ : Held} (x : ComponentHere k sheet at end v) (n : NamePlaced k sheet at v p)
    (s : SameAsked k sheet w₀ h₀ (slice p.at p.end sheet) v.modifiers.reference v.modifiers.opt same) (d : OldRead k w₀ h₀ same o) (r : Refers h₀.define h₀.duplicate v.modifiers.reference v.modifiers.new same to) where
  to_is : (in_step : Bool) → on_some (earlier_at k sheet w₀ h₀) to ≡ refers_to (modes_of h₀.define h₀.duplicate) (entry_of k in_step (component_in (slice at end sheet) v)) (on_some (earlier_at k sheet w₀ h₀) same)
  to_is in_step = r.is (entry_of k in_step (component_in (slice at end sheet) v)) (earlier_at k sheet w₀ h₀) (new_marked k in_step (slice at end sheet) v)

  pub to_there : SameBelow k h₀ to
  to_there =
      to_below (earlier_at k sheet w₀ h₀) (earlier_index k sheet w₀ h₀) (modes_of h₀.define h₀.duplicate) (entry_of k true (component_in (slice at end sheet) v)) same to (same_below s) (to_is true)

  pub to_small : Sound w₀ h₀ → SameSmall to
  to_small z = small_same k z to_there

  same_is : (in_step : Bool) → SameFound k sheet w₀ h₀ (slice p.at p.end sheet) v.modifiers.reference v.modifiers.opt same
      → on_some (earlier_at k sheet w₀ h₀) same ≡ found_same (entry_of k in_step (component_in (slice at end sheet) v)) (table_of k (state_in sheet w₀ h₀))
  unfolding found_same
  same_is in_step q =
      q.is (entry_of k in_step (component_in (slice at end sheet) v)) (sym (n.new.is in_step (component_in (slice at end sheet) v) (own_content x))) (new_opt k in_step (slice at end sheet) v)
      ∙ ap (λ (b : Bool). same_name_of b (entry_of k in_step (component_in (slice at end sheet) v)) (table_of k (state_in sheet w₀ h₀))) (sym (new_ref k in_step (slice at end sheet) v))

  abbrev made : List NamedUnit → ℕ → Bool → Option Earlier → Made
  made us flags in_step o = made_with us flags k (modes_of h₀.define h₀.duplicate) (table_of k (state_in sheet w₀ h₀)) (lock_findings (component_in (slice at end sheet) v).quantity) (entry_of k in_step (component_in (slice at end sheet) v)) o

  -- with what the search finds, asked for or not
  made_same : (us : List NamedUnit) (flags : ℕ) (in_step : Bool)
      → made us flags in_step (found_same (entry_of k in_step (component_in (slice at end sheet) v)) (table_of k (state_in sheet w₀ h₀))) ≡ made us flags in_step (on_some (earlier_at k sheet w₀ h₀) same)
  made_same us flags in_step = go (asks_same (modes_of h₀.define h₀.duplicate) v.modifiers.reference) refl
    where
      go : (b : Bool) → asks_same (modes_of h₀.define h₀.duplicate) v.modifiers.reference ≡ b
          → made us flags in_step (found_same (entry_of k in_step (component_in (slice at end sheet) v)) (table_of k (state_in sheet w₀ h₀))) ≡ made us flags in_step (on_some (earlier_at k sheet w₀ h₀) same)
      go true e = ap (made us flags in_step) (sym (same_is in_step (s.found e)))
      go false e = made_unasked us flags k _ _ _ _ _ _ (ap (asks_same (modes_of h₀.define h₀.duplicate)) (new_ref k in_step (slice at end sheet) v) ∙ e)

  module _ {us : List NamedUnit} {flags : ℕ} {w₁ : List ℕ} {h₁ : Held} (f : NamedReported us flags k sheet (slice at end sheet) v o to w₀ h₀ w₁ h₁) where
    found_named : (in_step : Bool)
        → Reported
        (made_with us flags k (modes_of h₀.define h₀.duplicate) (table_of k (state_in sheet w₀ h₀)) (lock_findings (component_in (slice at end sheet) v).quantity) (entry_of k in_step (component_in (slice at end sheet) v))
        (on_some (earlier_at k sheet w₀ h₀) same)).findings
        w₀ h₀ w₁ h₁
    found_named in_step = f.is in_step (on_some (earlier_at k sheet w₀ h₀) same) (d.is sheet) (to_is in_step)

    pub put_ready : {r : Option ℕ} → r ≡ to → Roomy h₀ → Roomy h₁ × ReferredBelow k h₁ r
    put_ready g y =
        (reported_roomy (found_named true) y, found_below g (below_kept (reported_framed (found_named true)) k to_there))

    module _ {b : Bool} {row : Row} {g : Option ℕ} {w : List ℕ} {h : Held} (a : AllFit sheet w₀ h₀) (e : b ≡ is_components (define_of h₀.define)) (y : RowNamed k at end p (not b) v.modifiers to o row) (u : g ≡ to)
        (q : RowPut k w₁ h₁ row g w h) where
      made_entry : entry_as k sheet row []
          ≡ (made_with us flags k (modes_of h₀.define h₀.duplicate) (table_of k (state_in sheet w₀ h₀)) (lock_findings (component_in (slice at end sheet) v).quantity) (entry_of k (not b) (component_in (slice at end sheet) v))
          (on_some (earlier_at k sheet w₀ h₀) same)).entry
      unfolding made_with
      made_entry =
          entry_named x (earlier_at k sheet w₀ h₀) (earlier_index k sheet w₀ h₀) y (old_referred (earlier_at k sheet w₀ h₀) (modes_of h₀.define h₀.duplicate) (entry_of k (not b) (component_in (slice at end sheet) v)) same to (d.is sheet) (to_is (not b)))
          ∙ ap (λ (z : Option Earlier). as_referring k z (entry_of k (not b) (component_in (slice at end sheet) v))) (to_is (not b))

      made_to : g
          ≡ on_some (λ (z : Earlier). z.index)
          (made_with us flags k (modes_of h₀.define h₀.duplicate) (table_of k (state_in sheet w₀ h₀)) (lock_findings (component_in (slice at end sheet) v).quantity) (entry_of k (not b) (component_in (slice at end sheet) v))
          (on_some (earlier_at k sheet w₀ h₀) same)).refers_to
      unfolding made_with
      made_to = u ∙ index_all (earlier_at k sheet w₀ h₀) (earlier_index k sheet w₀ h₀) to ∙ ap (on_some (λ (z : Earlier). z.index)) (to_is (not b))

      pub named_done : NamedDone us flags k sheet (slice at end sheet) v w₀ h₀ w h
      named_done =
          record {
            is =
                rw (made_by us flags k (component_in (slice at end sheet) v) (state_in sheet w₀ h₀) (modes_in sheet w₀ h₀) (new_entry_lem k (component_in (slice at end sheet) v) sheet w₀ h₀ e) refl ∙ made_same us flags (not b))
                (pushed_done k sheet _ (found_named (not b)) a q (row_fits x n y.made) made_entry made_to);
          }
