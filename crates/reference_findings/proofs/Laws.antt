-- One law for each way through.
use Prim.Native.Nat.{ℕ}
use mathlib.Core.Path.{◌≡◌, refl, ap, sym, ◌∙◌}
use mathlib.Core.Bool.{Bool, true, false, not}
use mathlib.Core.List.{List, [], ◌∷◌, ◌++◌}
use Rattle.std.specs.Prelude.{Option, None, Some}
use Rattle.std.specs.Option as option
use Rattle.rules.proofs.Basics.{no_some, some_inj, and_true, and_false}
use Rattle.rules.specs.Basic.{pick, is_some, on_some, when}
use Rattle.rules.specs.Event as rules
use Rattle.rules.specs.Finding.{Finding, diag, found}
use Rattle.rules.specs.Modes.{is_steps, is_reference}
use Rattle.rules.specs.Model as model
use Rattle.rules.specs.Model.{Entry, both, any_beyond, with_ref, inherits}
use Rattle.rules.specs.Reference.{Earlier, is_explicit, treat_as_reference, redundant_new, redundant_ref, conflict_or_missing, reference_findings}
use Rattle.parts.specs.Views.{span_in}
use Rattle.parts.specs.declared.Span.{Span}
use Rattle.components.specs.Views.{modifiers_in}
use Rattle.components.specs.declared.Modifiers.{Modifiers}
use Rattle.model.specs.Rows.{finding_of, if_found}
use Rattle.model.specs.declared.Noted.{Noted}
use Rattle.sheet.specs.declared.Define.{Define}
use Rattle.sheet.specs.declared.Duplicate.{Duplicate}
use Rattle.model.specs.declared.Held.{Held}
use Rattle.memory.specs.Reports.{Reported, nothing}
use Rattle.memory.proofs.Reports.{reported_seq, reported_as}
use Rattle.checks.proofs.Laws.{nothing_found, one_found, said}
use Rattle.lookup.specs.References.{modes_of, TreatedAs}
use Rattle.lookup.proofs.References.{found_in, some_on}
use Rattle.reference_findings.specs.Reports.{hands_down, SameAs, NewAs, RedundantNew, RedundantRef, ConflictOrMissing, ReferenceReported}
use Rattle.sheet.specs.Words.{define_of, duplicate_of}
use Rattle.model.specs.Kinds.{kind_of}
use Rattle.model.specs.declared.Kind.{Kind}
use Rattle.model.specs.declared.Kind.TheVariants.{Ingredient, Cookware}

-- ---- the definition

pub same_found : {same : Option Earlier} {old : Option Modifiers} {b : Bool} → SameAs same old → b ≡ option.is_some old → is_some same ≡ b
same_found {same} {old} s e = sym (some_on hands_down same) ∙ ap is_some s.is ∙ some_on modifiers_in old ∙ sym (found_in old) ∙ sym e

-- ---- modifiers

module _ {k : Kind} {r : Bool} (d : Modifiers) where
  pub handed_ingredient : k ≡ Ingredient → r ≡ d.recipe → modifiers_in (record { recipe = r; reference = false; hidden = d.hidden; opt = d.opt; new = false }) ≡ both (modifiers_in d) (inherits (kind_of k))
  unfolding modifiers_in both inherits
  handed_ingredient e f = rw (e, f, and_true d.recipe, and_false d.reference, and_true d.hidden, and_true d.opt, and_false d.new)

  pub handed_cookware : k ≡ Cookware → r ≡ false → modifiers_in (record { recipe = r; reference = false; hidden = d.hidden; opt = d.opt; new = false }) ≡ both (modifiers_in d) (inherits (kind_of k))
  unfolding modifiers_in both inherits
  handed_cookware e f = rw (e, f, and_false d.recipe, and_false d.reference, and_true d.hidden, and_true d.opt, and_false d.new)

-- ---- 11 and 12

module _ {define : Define} {duplicate : Duplicate} {is_found : Bool} {at : Span} {s : Bool} (es : s ≡ is_steps (define_of define)) where
  pub new_steps : s ≡ true → RedundantNew define duplicate is_found at None
  unfolding redundant_new when
  new_steps t = record { is = λ e same ea ef. nothing_found (rw (← es, t)) }

  module _ (n : s ≡ false) {q : Bool} (eq : q ≡ is_reference (duplicate_of duplicate)) where
    pub new_found : q ≡ true → is_found ≡ true → RedundantNew define duplicate is_found at None
    unfolding redundant_new when
    new_found t u = record { is = λ e same ea ef. nothing_found (rw (← es, n, ← eq, t, ef, u)) }

    module _ {x : Noted} (k : finding_of x ≡ found 11 (span_in at)) where
      pub new_missing : q ≡ true → is_found ≡ false → RedundantNew define duplicate is_found at (Some x)
      unfolding redundant_new when
      new_missing t u = record { is = λ e same ea ef. one_found _ k (rw (← es, n, ← eq, t, ef, u, ea)) }

      pub new_always : q ≡ false → RedundantNew define duplicate is_found at (Some x)
      unfolding redundant_new when
      new_always t = record { is = λ e same ea ef. one_found _ k (rw (← es, n, ← eq, t, ea)) }

module _ {define : Define} {duplicate : Duplicate} {explicit : Bool} {at : Span} where
  pub ref_not : explicit ≡ false → RedundantRef define duplicate explicit at None
  unfolding redundant_ref is_explicit when
  ref_not t = record { is = λ e ea er. nothing_found (rw (er, t)) }

  module _ (y : explicit ≡ true) {q : Bool} (eq : q ≡ is_reference (duplicate_of duplicate)) where
    pub ref_duplicate : {x : Noted} → finding_of x ≡ found 12 (span_in at) → q ≡ true → RedundantRef define duplicate explicit at (Some x)
    unfolding redundant_ref is_explicit when
    ref_duplicate k t = record { is = λ e ea er. one_found _ k (rw (er, y, ← eq, t, ea)) }

    module _ (n : q ≡ false) {s : Bool} (es : s ≡ is_steps (define_of define)) where
      pub ref_steps : {x : Noted} → finding_of x ≡ found 12 (span_in at) → s ≡ true → RedundantRef define duplicate explicit at (Some x)
      unfolding redundant_ref is_explicit when
      ref_steps k t = record { is = λ e ea er. one_found _ k (rw (er, y, ← eq, n, ← es, t, ea)) }

      pub ref_needed : s ≡ false → RedundantRef define duplicate explicit at None
      unfolding redundant_ref is_explicit when
      ref_needed t = record { is = λ e ea er. nothing_found (rw (er, y, ← eq, n, ← es, t)) }

-- ---- 13 and 14

when_true : (b : Bool) (f : Finding) → b ≡ true → when b f ≡ f ∷ []
unfolding when
when_true b f e = rw e

old_of : {old : Option Modifiers} (d : Modifiers) → old ≡ Some d → on_some modifiers_in old ≡ Some (modifiers_in d)
unfolding on_some
old_of d o = rw o

by_missing : (same : Option Earlier) → on_some hands_down same ≡ None → same ≡ None
unfolding on_some
by_missing None e = refl
by_missing (Some d) e = no_some (sym e)

handed : (i : model.Kind) {m : Modifiers} {span at : Span} (d b : Modifiers) → modifiers_in b ≡ both (modifiers_in d) (inherits i) → {y : Bool} → y ≡ any_beyond (modifiers_in m) (with_ref (modifiers_in b))
    → (define : Define) (duplicate : Duplicate) (e : Entry) (same : Option Earlier) → NewAs e m span at → on_some hands_down same ≡ Some (modifiers_in d)
    → conflict_or_missing (modes_of define duplicate) e (inherits i) same ≡ when y (diag 13 (span_in at ∷ []) (not m.reference))
unfolding conflict_or_missing is_explicit on_some hands_down
handed i d b eb ey define duplicate e None en z = no_some z
handed i d b eb ey define duplicate e (Some x) en z =
    let inner : x.entry.modifiers ≡ modifiers_in d = some_inj z in
    rw (inner, en.is_at, en.is_modifiers, ← eb, ← ey) (unfold modifiers_in in refl)

module _ {i : model.Kind} {m : Modifiers} {span at : Span} {old : Option Modifiers} where
  pub missing : {x : Noted} → old ≡ None → finding_of x ≡ diag 14 (span_in span ∷ []) (not m.reference) → ConflictOrMissing i m span at old (Some x)
  missing o k = record { is = λ define duplicate e same en es. one_found _ k (by define duplicate e same en (by_missing same (es.is ∙ empty))) }
    where
      empty : on_some modifiers_in old ≡ None
      empty = unfold on_some in rw o

      by : (define : Define) (duplicate : Duplicate) (e : Entry) (same : Option Earlier) → NewAs e m span at → same ≡ None
          → conflict_or_missing (modes_of define duplicate) e (inherits i) same ≡ diag 14 (span_in span ∷ []) (not m.reference) ∷ []
      by define duplicate e same en z = unfold conflict_or_missing is_explicit modifiers_in in rw (z, en.is_span, en.is_modifiers)

  module _ (d b : Modifiers) (o : old ≡ Some d) (eb : modifiers_in b ≡ both (modifiers_in d) (inherits i)) {y : Bool} (ey : y ≡ any_beyond (modifiers_in m) (with_ref (modifiers_in b))) where
    pub conflicts : {x : Noted} → y ≡ true → finding_of x ≡ diag 13 (span_in at ∷ []) (not m.reference) → ConflictOrMissing i m span at old (Some x)
    conflicts t k = record { is = λ define duplicate e same en es. one_found _ k (handed i d b eb ey define duplicate e same en (es.is ∙ old_of d o) ∙ when_true _ _ t) }

    pub agrees : y ≡ false → ConflictOrMissing i m span at old None
    agrees t = record { is = λ define duplicate e same en es. nothing_found (handed i d b eb ey define duplicate e same en (es.is ∙ old_of d o) ∙ (unfold when in rw t)) }

-- ---- 10 to 14

ref_of : {e : Entry} {m : Modifiers} {span at : Span} → NewAs e m span at → e.modifiers.ref ≡ m.reference
ref_of n = unfold modifiers_in in ap (λ (z : rules.Modifiers). z.ref) n.is_modifiers

new_of : {e : Entry} {m : Modifiers} {span at : Span} → NewAs e m span at → e.modifiers.new ≡ m.new
new_of n = unfold modifiers_in in ap (λ (z : rules.Modifiers). z.new) n.is_modifiers

first : (i : model.Kind) {m : Modifiers} {span at : Span} {old : Option Modifiers} (define : Define) (duplicate : Duplicate) {is_found : Bool} → is_found ≡ option.is_some old → m.new ≡ false
    → {y : Bool} → TreatedAs define duplicate m.reference is_found y → (e : Entry) (same : Option Earlier) → NewAs e m span at → SameAs same old
    → reference_findings (modes_of define duplicate) e (inherits i) same
    ≡ redundant_ref (modes_of define duplicate) e ++ pick y (conflict_or_missing (modes_of define duplicate) e (inherits i) same) []
first i define duplicate ef n z e same en es =
    opened ∙ ap (λ (b : Bool). redundant_ref (modes_of define duplicate) e ++ pick b (conflict_or_missing (modes_of define duplicate) e (inherits i) same) []) (sym (z.is e same (ref_of en) (same_found es ef)))
  where
    opened : reference_findings (modes_of define duplicate) e (inherits i) same
        ≡ redundant_ref (modes_of define duplicate) e ++ pick (treat_as_reference (modes_of define duplicate) e same) (conflict_or_missing (modes_of define duplicate) e (inherits i) same) []
    opened = unfold reference_findings in rw (new_of en, n)

module _ {i : model.Kind} {m : Modifiers} {span at : Span} {old : Option Modifiers} {w₀ : List ℕ} {h₀ : Held} where
  pub new_with_ref : {w : List ℕ} {h : Held} → m.new ≡ true → m.reference ≡ true → Reported (found 10 (span_in at) ∷ []) w₀ h₀ w h → ReferenceReported i m span at old w₀ h₀ w h
  unfolding reference_findings is_explicit
  new_with_ref n t r = record { is = λ e same en es. said (rw (new_of en, n, ref_of en, t, en.is_at)) r }

  module _ {is_found : Bool} (ef : is_found ≡ option.is_some old) {x : Option Noted} {w₁ : List ℕ} {h₁ : Held} (l : Reported (if_found x) w₀ h₀ w₁ h₁) where
    pub new_alone : m.new ≡ true → m.reference ≡ false → RedundantNew h₀.define h₀.duplicate is_found at x → ReferenceReported i m span at old w₀ h₀ w₁ h₁
    unfolding reference_findings is_explicit
    new_alone n t r = record { is = λ e same en es. said (rw (new_of en, n, ref_of en, t)) (reported_as l (r.is e same en.is_at (same_found es ef))) }

    module _ (n : m.new ≡ false) (r : RedundantRef h₀.define h₀.duplicate m.reference at x) {y : Bool} (z : TreatedAs h₀.define h₀.duplicate m.reference is_found y) where
      pub as_reference : {u : Option Noted} {w : List ℕ} {h : Held} → y ≡ true → ConflictOrMissing i m span at old u → Reported (if_found u) w₁ h₁ w h → ReferenceReported i m span at old w₀ h₀ w h
      as_reference t k p =
          record {
            is =
                λ e same en es.
                said (first i h₀.define h₀.duplicate ef n z e same en es ∙ rw t)
                (reported_seq (reported_as l (r.is e en.is_at (ref_of en))) (reported_as p (k.is h₀.define h₀.duplicate e same en es)));
          }

      pub as_definition : y ≡ false → ReferenceReported i m span at old w₀ h₀ w₁ h₁
      as_definition t = record { is = λ e same en es. said (first i h₀.define h₀.duplicate ef n z e same en es ∙ rw t) (reported_seq (reported_as l (r.is e en.is_at (ref_of en))) nothing) }
