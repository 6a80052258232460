-- One law for each way through the plain form.
use Prim.Native.Nat.{ℕ, ◌+◌, ◌-◌, ◌≤◌, ◌<◌}
use mathlib.Core.Path.{◌≡◌, refl, ap, sym, subst, ◌∙◌}
use mathlib.Core.Bool.{Bool, true, ◌||◌}
use mathlib.Core.List.{List, ◌++◌, append_assoc}
use native.Mathlib.Omega.{arith}
use Rattle.std.specs.Prelude.{Option, None, Some, Result, Ok, Err}
use borrow.Author.Tests.{le-ltb, lt-ltb}
use lib.Dec.{ltb}
use lib.ListN.{length, take, drop, length-append}
use lib.Seq.{take_at}
use Rattle.rules.specs.Utf8.{is_utf8}
use Rattle.rules.specs.Event.{Event}
use Rattle.rules.specs.Input.{Input, with_sheet, Context, context_of}
use Rattle.rules.specs.State.{Outcome, refusal, first_state, going}
use Rattle.rules.specs.Pass.{parse_events}
use Rattle.rules.specs.Plain.{Traced, trace_from, plain_events, sheet_of}
use Rattle.rules.specs.Answer.{declined, Lent, bytes_needed, events, events_of, read_sheet, collection, error_line, gives17, form_answer, plain_of, plain_answer}
use Rattle.rules.proofs.Basics.{by_order}
use Rattle.rules.proofs.Order.{none_before, form_order}
use Rattle.rules.proofs.Kept.{form_reads}
use Rattle.refusals.specs.Told.{number_of}
use Rattle.refusals.specs.declared.Reason.TheVariants.{ErrorLine, LongForm}
use Rattle.refusals.specs.declared.Refusal.{Refusal}
use Rattle.output.specs.Put.{Put}
use Rattle.output.proofs.Puts.{keeps, put_room, put_fit, put_fits}
use Rattle.inputs.specs.Inputs.{lent, InputsChecked, GoodInputs}
use Rattle.inputs.proofs.Answers.{refused_plain, good_order, good_bytes, good_short, good_text, good_read, good_collects, good_plain}
use Rattle.model.specs.declared.Held.{Held}
use Rattle.pass.specs.Walks.{RanRecipe, RanFailed, RanBy, RanAs}
use Rattle.component_lines.proofs.Rooms.{limits_roomy}
use Rattle.plain_walk.specs.Walk.{Left, PassDone, FormWritten}
use Rattle.plain_walk.proofs.Results.{form_declined, form_answered, form_put}
use Rattle.answers.specs.Answers.{page_or20}
use Rattle.answers.specs.Forms.{tells17, form_checked}
use Rattle.answers.proofs.Forms.{checked_err, checked_ok}
use Rattle.recipe.specs.Answers.{lends, Answered}
use Rattle.recipe.specs.Forms.{RecipeGiven, form_given}
use Rattle.recipe.proofs.Passes.{ran_own}
use Rattle.recipe.proofs.Pages.{refused_as, Handed, page_handed}

-- ---- before the pass
pub plain_refused : {i : Input} (m : Lent) {a : Result (Unit {0}) Refusal} → InputsChecked i m.words m.bytes a → {f : Refusal} (o : List ℕ)
    → length o ≡ m.room → a ≡ Err f → Answered (plain_answer i m) m.room o (Err f)
plain_refused {i} m p o e q = refused_as o e (refused_plain i m (rw q at p))

-- ---- whether a pass gives 17
tells_gives : (cx : Context) (sheet : List ℕ) (es : List Event) (w : List ℕ) (a : Result (Option Held) Refusal) → RanBy cx sheet es w a → tells17 a ≡ gives17 (parse_events cx es)
unfolding RanBy tells17 gives17
tells_gives cx sheet es w (Ok (Some h)) p = sym (ap gives17 p.is)
tells_gives cx sheet es w (Ok None) p = sym (ap gives17 p.is)
tells_gives cx sheet es w (Err f) p = sym (ap gives17 p)

-- ---- a form that is not too long; i has it as its sheet
module _ {i : Input} {words bytes : ℕ} (g : GoodInputs i words bytes) {w₀ w : List ℕ} {a : Result (Option Held) Refusal}
    (p : RanAs i.text i.units i.flags i.sheet (events_of i) w₀ w a) {c : Result (Unit {0}) Refusal} (e : c ≡ form_checked a) where
  again : {b : Bool} → tells17 a ≡ b → (ltb 65536 (length i.sheet) || gives17 (collection i)) ≡ b
  again t = rw (le-ltb 65536 (length i.sheet) (good_short g)) (ap gives17 (good_collects g) ∙ sym (tells_gives (context_of i) i.sheet (events_of i) w a (ran_own g p)) ∙ t)

  pub form_over : {room : ℕ} {f : Refusal} (o : List ℕ) → length o ≡ room → c ≡ Err f → Answered (form_answer i room i.sheet) room o (Err f)
  unfolding form_answer
  form_over o l q = let k = checked_err a (sym e ∙ q) in rw k.is (refused_as o l (rw (again k.over)))

  pub form_out : {o₀ o : List ℕ} {n : ℕ} {u : Unit {0}} {r : Result ℕ Refusal} → c ≡ Ok u → Put i.sheet o₀ 0 o n → r ≡ page_or20 n (length o)
      → Answered (form_answer i (length o₀) i.sheet) (length o₀) o r
  unfolding form_answer
  form_out {o₀} {o} {n} {u} {r} q s k =
      let h : Handed i.sheet o₀ o r = page_handed s k in
      record { is = rw (again (checked_ok a (sym e ∙ q))) h.is; fits = h.fits; long = h.long }

-- ---- the form as it is written to work memory
module _ {i : Input} {w : List ℕ} {h : Held} (g : RecipeGiven i w h) where
  abbrev ts : List Traced
  ts = trace_from (context_of i) 1 (going first_state) (events_of i)

  abbrev ps : List Event
  ps = plain_events (context_of i) ts

  abbrev form : List ℕ
  form = sheet_of ps

  pass_left : Left (context_of i) i.text i.sheet w h
  pass_left =
      let k = g.ran.kept in
      let c = (limits_roomy i.sheet w h k.limits).0 in
      record {
        final = g.ran.state;
        walked = g.ran.walked;
        memory = record { memory = g.ran.memory; sound = k.sound; fit = k.fit; ingredients = c.ingredients; cookware = c.cookware };
      }

  pub lines_given : (length i.sheet ≤ 65536) × (is_utf8 i.text ≡ true) × PassDone i.text i.flags i.sheet w h
  lines_given = (good_short g.inputs, good_text g.inputs, record { context = context_of i; same_text = refl; same_flags = refl; left = pass_left })

  -- nothing of 1 to 10 is refused in the form
  form_good : length form ≤ 65536 → GoodInputs (with_sheet form i) (length w) bytes_needed
  form_good s =
      let r : read_sheet i.text form ≡ events ps = form_reads i.text i.sheet (context_of i) (events_of i) (good_read g.inputs) in
      record {
        enough = g.inputs.enough;
        no_fault = none_before (with_sheet form i) (form_order form (good_order g.inputs) (le-ltb 65536 (length form) s) ps r);
      }

  module _ {b₀ b : List ℕ} {f : Result ℕ Refusal} (p : FormWritten i.text i.flags i.sheet w h b₀ b f) where
    pub fault_told : {k : Refusal} {room : ℕ} (o : List ℕ) → length o ≡ room → f ≡ Err k → Answered (form_given i room) room o (Err k)
    unfolding form_given
    fault_told {room = room} o e q = refused_as o e (form_declined i room pass_left (rw q at p))

    module _ {n : ℕ} (q : f ≡ Ok n) (k : length b₀ ≡ 65536) where
      put : Put form b₀ 0 b n
      put = form_put i pass_left (rw q at p)

      no_fault : (room : ℕ) → form_given i room ≡ form_answer i room form
      unfolding form_given
      no_fault room = form_answered i room pass_left (rw q at p)

      long : 65536 < n → 65536 < length form
      long j =
          by_order (length form) (length b₀) (λ s. let z : n ≡ 0 + length form = put_room put (omega arith) in omega arith) (λ s. omega arith)

      pub form_long : {room : ℕ} (o : List ℕ) → length o ≡ room → 65536 < n → Answered (form_given i room) room o (Err (record { reason = LongForm; line = 0 }))
      unfolding form_answer
      form_long {room} o e j = refused_as o e (no_fault room ∙ rw (lt-ltb 65536 (length form) (long j)))

      module _ (j : n ≤ 65536) where
        room_enough : 0 + length form ≤ length b₀
        room_enough = put_fit put (omega arith)

        ends : n ≡ length form
        ends = let z : n ≡ 0 + length form = put_room put room_enough in omega arith

        -- at the front of work memory stands the form
        front : (s : List ℕ) → take n (b ++ s) ≡ form
        front s =
            let e : b ≡ form ++ drop (0 + length form) b₀ = put_fits put (omega arith) in
            ap (λ (x : List ℕ). take n (x ++ s)) e ∙ ap (take n) (append_assoc form (drop (0 + length form) b₀) s)
            ∙ take_at form (drop (0 + length form) b₀ ++ s) n (sym ends)

        part : (s : List ℕ) → take (n - 0) (b ++ s) ≡ form
        part s = let e : n - 0 ≡ n = omega arith in ap (λ (x : ℕ). take x (b ++ s)) e ∙ front s

        -- which lies in it
        pub form_within : (s : List ℕ) → n ≤ length (b ++ s)
        form_within s = omega (arith, length-append b s, keeps put)

        pub form_given_lem : (s : List ℕ) → GoodInputs (with_sheet (take (n - 0) (b ++ s)) i) (length w) bytes_needed
        form_given_lem s =
            subst (λ (x : List ℕ). GoodInputs (with_sheet x i) (length w) bytes_needed) (sym (part s))
            (form_good (omega (arith, ends)))

        -- what the inputs' own sheet is does not matter
        asked : (room : ℕ) (x : List ℕ) → form_answer (with_sheet x i) room x ≡ form_answer i room x
        unfolding form_answer
        asked room x = refl

        pub form_told : (s : List ℕ) {room : ℕ} {o : List ℕ} {r : Result ℕ Refusal} → Answered (form_answer (with_sheet (take (n - 0) (b ++ s)) i) room (take (n - 0) (b ++ s))) room o r
            → Answered (form_given i room) room o r
        form_told s {room} d =
            record { is = d.is ∙ asked room _ ∙ ap (form_answer i room) (part s) ∙ sym (no_fault room); fits = d.fits; long = d.long }

-- ---- after the pass
module _ {i : Input} {words bytes : ℕ} (g : GoodInputs i words bytes) where
  pub bytes_lent : 65536 ≤ bytes
  unfolding bytes_needed
  bytes_lent = good_bytes g

  formed_on : (room : ℕ) {x : Outcome} → parse_events (context_of i) (events_of i) ≡ x → plain_answer i (lends (lent words bytes) room) ≡ plain_of i room (events_of i) x
  formed_on room e = good_plain i (lends (lent words bytes) room) g ∙ ap (plain_of i room (events_of i)) e

  module _ {w₀ w : List ℕ} {a : Result (Option Held) Refusal} (p : RanAs i.text i.units i.flags i.sheet (events_of i) w₀ w a) where
    pub recipe_formed : {room : ℕ} {h : Held} {o : List ℕ} {r : Result ℕ Refusal} → a ≡ Ok (Some h) → Answered (form_given i room) room o r
        → Answered (plain_answer i (lends (lent words bytes) room)) room o r
    unfolding RanBy form_given plain_of
    recipe_formed {h = h} q d =
        let x : RanRecipe (context_of i) i.sheet (events_of i) w h = rw q at (ran_own g p) in
        record { is = d.is ∙ sym (formed_on _ x.is); fits = d.fits; long = d.long }

    pub failed_formed : {room : ℕ} {l : ℕ} (o : List ℕ) → length o ≡ room → a ≡ Ok None → l ≡ error_line 1 (events_of i)
        → Answered (plain_answer i (lends (lent words bytes) room)) room o (Err (record { reason = ErrorLine; line = l }))
    unfolding RanBy plain_of
    failed_formed o e q k =
        let x : RanFailed (context_of i) (events_of i) = rw q at (ran_own g p) in
        refused_as o e (formed_on _ x.is ∙ ap (declined 21) (sym k))

    pub refused_formed : {room : ℕ} {f : Refusal} (o : List ℕ) → length o ≡ room → a ≡ Err f → Answered (plain_answer i (lends (lent words bytes) room)) room o (Err f)
    unfolding RanBy plain_of
    refused_formed {f = f} o e q =
        let x : parse_events (context_of i) (events_of i) ≡ refusal (number_of f.reason) f.line = rw q at (ran_own g p) in
        refused_as o e (formed_on _ x)
