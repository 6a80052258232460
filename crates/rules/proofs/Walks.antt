-- First laws: an end stays an end through the walk; the page splits at the findings; what the search finds stands at its index.
use Prim.Native.Nat.{ℕ, suc, ◌<◌}
use mathlib.Core.Path.{◌≡◌, refl, sym, ap, ◌∙◌, subst}
use mathlib.Core.List.{List, [], ◌∷◌, ◌++◌, append_assoc}
use mathlib.Core.Bool.{Bool, true, false}
use Rattle.std.specs.Prelude.{Some}
use native.Mathlib.Omega.{arith}
use lib.Dec.{eqb}
use lib.ListN.{length, take}
use borrow.Author.Tests.{eq-eqb, ne_eqb}
use Rattle.rules.specs.Input.{Context}
use Rattle.rules.specs.Basic.{pick}
use Rattle.rules.specs.Event.{Event}
use Rattle.rules.specs.Finding.{Finding, only_parsed}
use Rattle.rules.specs.Model.{Entry}
use Rattle.rules.specs.Reference.{Earlier, fits, same_name_in, entry_at}
use Rattle.rules.specs.State.{State, over_limits, next, stop, Walk, going, failed, refused}
use Rattle.rules.specs.Pass.{parser_findings, is_error_event, settle, on_event, step, walk}
use Rattle.rules.specs.Page.{table_lines, finding_line, recipe_part, recipe_page}
use Rattle.rules.proofs.Basics.{no_some, some_inj}

pub no_walk : {P : Type 0} {n l : ℕ} {st : State} → refused n l ≡ going st → P
no_walk q = absurd (let z : ◌≡◌ {A = ℕ} 0 1 = cc in omega arith)

module _ (cx : Context) where
  -- ---- a refusal stays a refusal

  pub stays_refused : (line n l : ℕ) (es : List Event) → walk cx line (refused n l) es ≡ refused n l
  unfolding walk step
  stays_refused line n l [] = refl
  stays_refused line n l (e ∷ es) = stays_refused (suc line) n l es

  pub not_refused : {P : Type 0} (line n l : ℕ) (es : List Event) (st : State) → walk cx line (refused n l) es ≡ going st → P
  not_refused line n l es st q = no_walk (sym (stays_refused line n l es) ∙ q)

  -- a failed walk stays one, and keeps its findings below the new ones
  pub record Failed (fs : List Finding) (w : Walk) : Type 0 where
    pub more : List Finding
    pub is : w ≡ failed (more ++ fs)

  pub stays_failed : (line : ℕ) (fs : List Finding) (es : List Event) → Failed fs (walk cx line (failed fs) es)
  unfolding walk step
  stays_failed line fs [] = record { more = []; is = refl }
  stays_failed line fs (e ∷ es) =
      let r : Failed (parser_findings e ++ fs) (walk cx (suc line) (failed (parser_findings e ++ fs)) es) = stays_failed (suc line)
      (parser_findings e ++ fs) es in
      record { more = r.more ++ parser_findings e; is = r.is ∙ ap failed (sym (append_assoc r.more (parser_findings e) fs)) }

  pub not_failed : {P : Type 0} (line : ℕ) (fs : List Finding) (es : List Event) (st : State) → walk cx line (failed fs) es ≡ going st → P
  not_failed line fs es st q =
      let r : Failed fs (walk cx line (failed fs) es) = stays_failed line fs es in
      absurd (let h : failed (r.more ++ fs) ≡ going st = sym r.is ∙ q in let z : ◌≡◌ {A = ℕ} 0 1 = cc in omega arith)

  -- ---- one line of a walk that goes on

  pub step_settles : (line : ℕ) (e : Event) (st : State) → is_error_event e ≡ false
      → step cx line e (going st) ≡ settle line (on_event cx e st)
  unfolding step
  step_settles line e st ne = rw ne

  pub step_fails : (line : ℕ) (e : Event) (st : State) → is_error_event e ≡ true
      → step cx line e (going st) ≡ failed (parser_findings e ++ only_parsed st.findings)
  unfolding step
  step_fails line e st ne = rw ne

  pub step_next : (line : ℕ) (e : Event) (st after : State) → is_error_event e ≡ false → on_event cx e st ≡ next after
      → step cx line e (going st) ≡ pick (over_limits after) (refused 17 line) (going after)
  unfolding settle
  step_next line e st after ne a = step_settles line e st ne ∙ ap (settle line) a

  pub step_stops : (line n : ℕ) (e : Event) (st : State) → is_error_event e ≡ false → on_event cx e st ≡ stop n
      → step cx line e (going st) ≡ refused n line
  unfolding settle
  step_stops line n e st ne a = step_settles line e st ne ∙ ap (settle line) a

-- ---- the page splits into what stands above the findings and the findings

pub page_splits : (st : State) → recipe_page st ≡ recipe_part st ++ table_lines finding_line st.findings
unfolding recipe_page
page_splits st = refl

take_part : {A : Type 0} (s t : List A) → take (length s) (s ++ t) ≡ s
take_part [] t = refl
take_part (x ∷ s) t = ap (λ l. x ∷ l) (take_part s t)

-- equal parts are equal bytes of the two pages, as far as the findings
pub pages_agree : (a b : State) → recipe_part a ≡ recipe_part b → take (length (recipe_part a)) (recipe_page a) ≡ take (length (recipe_part a)) (recipe_page b)
unfolding recipe_page
pages_agree a b q =
    take_part (recipe_part a) _ ∙ q ∙ sym (take_part (recipe_part b) _)
    ∙ ap (λ (l : List ℕ). take (length l) (recipe_page b)) (sym q)

-- ---- an entry's index is the length of what came before it

pub found_below : (f : List ℕ) (a o : Bool) (es : List Entry) (d : Earlier) → same_name_in f a o es ≡ Some d → d.index < length es
unfolding same_name_in
found_below f a o [] d q = no_some q
found_below f a o (e ∷ es) d q = go (λ h. found_below f a o es d h) (fits f a o e) refl
  where
    go : (same_name_in f a o es ≡ Some d → d.index < length es) → (b : Bool) → fits f a o e ≡ b → d.index < suc (length es)
    go ih true p =
        let h : Some (record { index = length es; entry = e }) ≡ Some d = rw p at q in
        let i : length es ≡ d.index = ap (λ (x : Earlier). x.index) (some_inj h) in omega arith
    go ih false p = let h : d.index < length es = ih (rw p at q) in omega arith

pub found_at : (f : List ℕ) (a o : Bool) (es : List Entry) (d : Earlier) → same_name_in f a o es ≡ Some d → entry_at d.index es ≡ Some d.entry
unfolding same_name_in entry_at
found_at f a o [] d q = no_some q
found_at f a o (e ∷ es) d q = go (λ h. found_at f a o es d h) (fits f a o e) refl
  where
    go : (same_name_in f a o es ≡ Some d → entry_at d.index es ≡ Some d.entry) → (b : Bool) → fits f a o e ≡ b → entry_at d.index (e ∷ es) ≡ Some d.entry
    go ih true p =
        let h : record { index = length es; entry = e } ≡ d = some_inj (rw p at q) in
        let t : eqb (length es) (length es) ≡ true = eq-eqb (length es) (length es) refl in
        subst (λ (x : Earlier). entry_at x.index (e ∷ es) ≡ Some x.entry) h (rw t)
    go ih false p =
        let r : same_name_in f a o es ≡ Some d = rw p at q in
        let h : d.index < length es = found_below f a o es d r in
        let t : eqb d.index (length es) ≡ false = ne_eqb d.index (length es) (λ x. omega arith) in
        rw t (ih r)
