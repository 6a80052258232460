-- The page of a recipe part by part, in the words of its writers: from work memory, and from the state before the end.
use Prim.Native.Nat.{ℕ}
use mathlib.Core.Path.{◌≡◌, refl, ap, sym, ◌∙◌}
use mathlib.Core.Bool.{true, false}
use mathlib.Core.List.{List, [], ◌∷◌, ◌++◌, append-nil, append_assoc}
use native.Mathlib.Omega.{arith}
use lib.ListN.{length, length-replicate}
use Rattle.rules.specs.Basic.{pick, concat, is_empty}
use Rattle.rules.specs.Event.{Span}
use Rattle.rules.specs.Model.{ingredient, cookware}
use Rattle.rules.specs.State.{State, Metadata, table_of}
use Rattle.rules.specs.Pass.{is_open, ended}
use Rattle.rules.specs.Page.{table_lines, meta_line, ingredient_line, cookware_line, timer_line, inline_line, finding_line, recipe_part, recipe_page}
use Rattle.finding_lines.specs.Lines.{old_open, old_close}
use Rattle.page_fields.proofs.Tables.{lines_none}
use Rattle.model.specs.Blank.{blank_span, blank_timer, blank_inline, blank_metadata, blank_tables, blank}
use Rattle.model.specs.Memory.{state_of, state_in}
use Rattle.model.specs.declared.Held.{Held}
use Rattle.following.specs.declared.Part.TheVariants.{Sections, Timers, Inline, Old}
use Rattle.following.specs.Drawn.{drawn, old_line}
use Rattle.following.proofs.Laws.{sections_end, findings_end, ended_tables, ended_metadata}
use Rattle.page.specs.Parts.{head_line, metas_of, sections_of, tables_of, findings_of, old_of}

-- ---- the page

joined : (a b c d e f g x : List ℕ) → concat (a ∷ b ∷ c ∷ d ∷ e ∷ f ∷ g ∷ []) ++ x ≡ a ++ (b ++ (c ++ ((d ++ (e ++ (f ++ g))) ++ x)))
unfolding concat
joined a b c d e f g x = simp (append-nil, append_assoc)

pub page_parts : (st : State) → recipe_page st ≡ head_line true ++ (metas_of st ++ (sections_of st ++ (tables_of st ++ findings_of st)))
unfolding recipe_page recipe_part head_line metas_of sections_of tables_of findings_of
page_parts st = joined _ _ _ _ _ _ _ _

-- ---- counts

none_left : {A : Type 0} (l : List A) → length l ≡ 0 → l ≡ []
none_left [] e = refl
none_left (a ∷ l) e = absurd (omega arith)

-- ---- what work memory holds

module _ (sheet w : List ℕ) (h : Held) (st : State) (m : state_in sheet w h ≡ blank st) where
  pub held_ingredients : st.tables.ingredients ≡ table_of ingredient (state_in sheet w h)
  held_ingredients = sym (ap (table_of ingredient) m ∙ unfold table_of blank blank_tables in refl)

  pub held_cookware : st.tables.cookware ≡ table_of cookware (state_in sheet w h)
  held_cookware = sym (ap (table_of cookware) m ∙ unfold table_of blank blank_tables in refl)

  pub held_findings : st.findings ≡ (state_in sheet w h).findings
  held_findings = sym (ap (λ (s : State). s.findings) m ∙ unfold blank in refl)

  pub count_timers : length st.tables.timers ≡ h.counts.timers
  unfolding state_in state_of blank blank_tables
  count_timers =
      sym (length-replicate (length st.tables.timers) blank_timer) ∙ sym (ap (λ (s : State). length s.tables.timers) m)
      ∙ length-replicate h.counts.timers blank_timer

  pub count_inline : length st.tables.inline ≡ h.counts.inline
  unfolding state_in state_of blank blank_tables
  count_inline =
      sym (length-replicate (length st.tables.inline) blank_inline) ∙ sym (ap (λ (s : State). length s.tables.inline) m)
      ∙ length-replicate h.counts.inline blank_inline

  pub count_old : length st.metadata.old ≡ h.counts.old
  unfolding state_in state_of blank blank_metadata
  count_old =
      sym (length-replicate (length st.metadata.old) blank_span) ∙ sym (ap (λ (s : State). length s.metadata.old) m)
      ∙ length-replicate h.counts.old blank_span

  -- where none is counted none is drawn
  pub timers_none : h.counts.timers ≡ 0 → drawn Timers st ≡ []
  unfolding drawn
  timers_none e = ap (table_lines timer_line) (none_left st.tables.timers (count_timers ∙ e)) ∙ lines_none timer_line

  pub inline_none : h.counts.inline ≡ 0 → drawn Inline st ≡ []
  unfolding drawn
  inline_none e = ap (table_lines inline_line) (none_left st.tables.inline (count_inline ∙ e)) ∙ lines_none inline_line

  -- ---- the parts of the page at the end

  pub tables_end : tables_of (ended st)
      ≡ table_lines ingredient_line (table_of ingredient (state_in sheet w h))
      ++ (table_lines cookware_line (table_of cookware (state_in sheet w h)) ++ (drawn Timers st ++ drawn Inline st))
  unfolding tables_of drawn
  tables_end = rw (ended_tables st, sym held_ingredients, sym held_cookware)

  pub held_end : findings_of (ended st) ≡ table_lines finding_line (state_in sheet w h).findings ++ old_of st
  unfolding findings_of old_of
  held_end = findings_end st ∙ ap (λ (l : List ℕ). l ++ pick (is_empty st.metadata.old) [] (old_line (drawn Old st))) (ap (table_lines finding_line) held_findings)

pub metas_end : (st : State) → metas_of (ended st) ≡ table_lines meta_line st.metadata.map
unfolding metas_of
metas_end st = ap (λ (m : Metadata). table_lines meta_line m.map) (ended_metadata st)

pub shown_end : (st : State) → is_open st.place.block ≡ false → sections_of (ended st) ≡ drawn Sections st
unfolding sections_of
shown_end st e = sym (sections_end st e)

-- the whole page: all that work memory does not hold is drawn by a walk
pub ended_page : (sheet w : List ℕ) (h : Held) (st : State) → state_in sheet w h ≡ blank st → is_open st.place.block ≡ false → recipe_page (ended st)
    ≡ head_line true ++ (table_lines meta_line st.metadata.map ++ (drawn Sections st
    ++ ((table_lines ingredient_line (table_of ingredient (state_in sheet w h))
    ++ (table_lines cookware_line (table_of cookware (state_in sheet w h)) ++ (drawn Timers st ++ drawn Inline st)))
    ++ (table_lines finding_line (state_in sheet w h).findings ++ old_of st))))
ended_page sheet w h st m e = page_parts (ended st) ∙ rw (metas_end st, shown_end st e, tables_end sheet w h st m, held_end sheet w h st m)

-- ---- finding 3

pub old_none : (st : State) → length st.metadata.old ≡ 0 → old_of st ≡ []
unfolding old_of is_empty
old_none st e = rw (none_left st.metadata.old e)

some_left : (l : List Span) → (length l ≡ 0 → ⊥) → is_empty l ≡ false
unfolding is_empty
some_left [] n = absurd (n refl)
some_left (s ∷ l) n = refl

pub old_some : (st : State) → (length st.metadata.old ≡ 0 → ⊥) → old_of st ≡ old_open ++ (drawn Old st ++ old_close)
unfolding old_of old_line old_open old_close
old_some st n = rw (some_left st.metadata.old n)
