-- The writers of a page follow one another.
use Prim.Native.Nat.{ℕ, ◌≤◌}
use mathlib.Core.Path.{◌≡◌, ap, sym, ◌∙◌}
use mathlib.Core.Bool.{Bool, true, false}
use mathlib.Core.List.{List, [], ◌∷◌, ◌++◌}
use native.Mathlib.Omega.{arith}
use lib.ListN.{length}
use Rattle.rules.specs.Basic.{codes, join_by, each}
use Rattle.rules.specs.Sheet.{escape, escape_char, line_of}
use Rattle.rules.specs.Input.{Context}
use Rattle.rules.specs.Model.{ingredient, cookware}
use Rattle.rules.specs.Event.{Event}
use Rattle.rules.specs.Finding.{Finding}
use Rattle.rules.specs.State.{State, table_of, going, no_recipe}
use Rattle.rules.specs.Pass.{is_open, ended, parse_events}
use Rattle.rules.specs.Page.{table_lines, ingredient_line, cookware_line, failed_page}
use Rattle.rules.specs.Answer.{words_needed, events_or, read_sheet}
use Rattle.output.specs.Put.{Put}
use Rattle.output.proofs.Puts.{put_seq}
use Rattle.output.proofs.Texts.{text_is}
use Rattle.model.specs.Memory.{state_in}
use Rattle.model.specs.declared.Held.{Held}
use Rattle.finding_lines.specs.Lines.{old_open, old_close, parsed_lines, FindingsPut, ParsedPut}
use Rattle.finding_lines.proofs.Parsers.{failed_lines}
use Rattle.meta_map.specs.Index.{Indexed, MetasPut}
use Rattle.meta_map.specs.Maps.{index_of, WordsIndexed}
use Rattle.meta_map.proofs.Walks.{metas_page}
use Rattle.following.specs.declared.Part.{Part}
use Rattle.following.specs.declared.Part.TheVariants.{Sections, Timers, Inline, Old}
use Rattle.following.proofs.Walking.{accepted}
use Rattle.page.specs.Walk.{PassInputs, PartDrawn}
use Rattle.page.specs.Pages.{PageGiven, RecipePut, FailedPut}
use Rattle.page.specs.Parts.{head_line, tables_of, findings_of, PartPut, DrawnPut, OldPut}
use Rattle.pass.specs.Walks.{RanRecipe}
use Rattle.page.proofs.Words.{ran_same, words_same}
use Rattle.page.proofs.Parts.{page_parts, metas_end, shown_end, tables_end, held_end, timers_none, inline_none, count_old, old_none, old_some}
use Rattle.model.specs.declared.layout.TheConstants.{WORDS}

-- ---- the first line

module _ {made : Bool} {o₀ o : List ℕ} {at r : ℕ} where
  pub head_yes : made ≡ true → Put (codes "recipe\tyes\n") o₀ at o r → Put (head_line made) o₀ at o r
  unfolding head_line line_of join_by each escape escape_char
  head_yes e p = rw e p

  pub head_no : made ≡ false → Put (codes "recipe\tno\n") o₀ at o r → Put (head_line made) o₀ at o r
  unfolding head_line line_of join_by each escape escape_char
  head_no e p = rw e p

-- ---- the page of a sheet that makes no recipe

-- its findings are those of the parser
failed_is : (cx : Context) (es : List Event) (fs : List Finding) → parse_events cx es ≡ no_recipe fs
    → failed_page fs ≡ line_of (codes "recipe" ∷ codes "no" ∷ []) ++ parsed_lines es
unfolding failed_page
failed_is cx es fs e = ap (λ (x : List ℕ). line_of (codes "recipe" ∷ codes "no" ∷ []) ++ x) (failed_lines cx es fs e)

pub failed_put : {sheet text o₀ o₁ o : List ℕ} {a r : ℕ} → Put (head_line false) o₀ 0 o₁ a → ParsedPut text sheet o₁ a o r → FailedPut sheet text o₀ o r
unfolding head_line
failed_put {sheet} {text} p q =
    let a = put_seq p q.is in
    record { always = a; is = λ cx fs e. text_is _ (failed_is cx (events_or (read_sheet text sheet)) fs e) a }

-- ---- what the writers ask

going_inj : {a b : State} → going a ≡ going b → a ≡ b
going_inj e = cc

module _ {sheet text units : List ℕ} {flags : ℕ} {w : List ℕ} {h : Held} (g : PageGiven sheet text units flags w h) where
  pub index_given : (length sheet ≤ 65536) × (WORDS ≤ length w)
  unfolding words_needed
  index_given = (g.sheet_short, omega (arith, g.words_enough))

  pub draw_given : PassInputs sheet text units flags
  draw_given =
      record {
        text_utf8 = g.text_utf8;
        sheet_short = g.sheet_short;
        context = g.context;
        agrees = g.agrees;
        final = g.ran.state;
        goes = g.ran.walked;
      }

-- no block is open at the end
shut : {cx : Context} {sheet : List ℕ} {es : List Event} {w : List ℕ} {h : Held} (r : RanRecipe cx sheet es w h) → is_open r.state.place.block ≡ false
shut {cx} {es = es} r =
    let a = accepted cx es (ended r.state) r.is in
    ap (λ (s : State). is_open s.place.block) (going_inj (sym r.walked ∙ a.goes)) ∙ a.shut

-- ---- tables and findings

module _ {sheet text units : List ℕ} {flags : ℕ} {w : List ℕ} {h : Held} where
  pub tables_put : {o₀ o₁ o₂ o₃ o : List ℕ} {at a b c r : ℕ}
      → Put (table_lines ingredient_line (table_of ingredient (state_in sheet w h))) o₀ at o₁ a
      → Put (table_lines cookware_line (table_of cookware (state_in sheet w h))) o₁ a o₂ b
      → DrawnPut Timers h.counts.timers sheet text units flags o₂ b o₃ c → DrawnPut Inline h.counts.inline sheet text units flags o₃ c o r
      → PartPut tables_of sheet text units flags w h o₀ at o r
  tables_put p q s i =
      record {
        is = λ cx x ran.
            let m = ran.memory in let y = ran.state in
            text_is _ (tables_end sheet w h y m)
            (put_seq p (put_seq q (put_seq (s.is cx x y ran.walked (timers_none sheet w h y m)) (i.is cx x y ran.walked (inline_none sheet w h y m)))));
      }

  pub findings_put : {o₀ o₁ o : List ℕ} {at a r : ℕ} → FindingsPut w h o₀ at o₁ a → OldPut h.counts.old sheet text units flags o₁ a o r → PartPut findings_of sheet text units flags w h o₀ at o r
  findings_put p q =
      record {
        is = λ cx x ran.
            let m = ran.memory in let y = ran.state in
            text_is _ (held_end sheet w h y m) (put_seq (p.is sheet) (q.is cx x y ran.walked (count_old sheet w h y m)));
      }

-- ---- what a walk draws

module _ {p : Part} {n : ℕ} {sheet text units : List ℕ} {flags : ℕ} {o₀ o : List ℕ} {at r : ℕ} where
  pub drawn_none : n ≡ 0 → Put [] o₀ at o r → DrawnPut p n sheet text units flags o₀ at o r
  drawn_none e q = record { is = λ cx x st z f. text_is _ (f e) q }

  pub drawn_some : PartDrawn sheet text units flags p o₀ at o r → DrawnPut p n sheet text units flags o₀ at o r
  drawn_some q = record { is = λ cx x st z f. q.put cx x st z }

module _ {n : ℕ} {sheet text units : List ℕ} {flags : ℕ} {o₀ o : List ℕ} {at r : ℕ} where
  pub old_absent : n ≡ 0 → Put [] o₀ at o r → OldPut n sheet text units flags o₀ at o r
  old_absent e q = record { is = λ cx x st z l. text_is _ (old_none st (l ∙ e)) q }

  pub old_put : {o₁ o₂ : List ℕ} {a b : ℕ} → (n ≡ 0 → ⊥) → Put old_open o₀ at o₁ a → PartDrawn sheet text units flags Old o₁ a o₂ b → Put old_close o₂ b o r → OldPut n sheet text units flags o₀ at o r
  old_put e p q s = record { is = λ cx x st z l. text_is _ (old_some st (λ k. e (sym l ∙ k))) (put_seq p (put_seq (q.put cx x st z) s)) }

-- ---- the page

module _ {sheet text units : List ℕ} {flags : ℕ} {w₀ w : List ℕ} {h : Held} {n : ℕ} (g : PageGiven sheet text units flags w₀ h) (x : WordsIndexed flags text sheet w₀ w n) where
  pub metas_given : (WORDS ≤ length w) × Indexed sheet (index_of w) n
  metas_given = (let k = (index_given g).1 in omega (arith, x.long), x.index.indexed)

  pub page_put : {o₀ o₁ o₂ o₃ o₄ o : List ℕ} {a b c d r : ℕ} → Put (head_line true) o₀ 0 o₁ a → MetasPut sheet (index_of w) n o₁ a o₂ b
      → PartDrawn sheet text units flags Sections o₂ b o₃ c → PartPut tables_of sheet text units flags w h o₃ c o₄ d → PartPut findings_of sheet text units flags w h o₄ d o r
      → RecipePut sheet text units flags w₀ w h o₀ o r
  unfolding ran_same
  page_put p m s u f =
      record {
        is = λ cx z ran.
            let y = ran.state in
            let k = ran_same sheet w₀ w h (words_same x ran) ran in
            text_is _ (page_parts (ended y))
            (put_seq p
            (put_seq (text_is _ (metas_end y) (metas_page cx y z.rest.same_flags ran.walked x.index m))
            (put_seq (text_is _ (shown_end y (shut ran)) (s.put cx z y ran.walked))
            (put_seq (u.is cx z k) (f.is cx z k)))));
        front = x.front;
        rest = x.rest;
      }
