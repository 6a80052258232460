-- Lines between blocks, and every line: what they add to the page and to the small state.
use Prim.Native.Nat.{ℕ}
use mathlib.Core.Path.{◌≡◌, refl, sym, ap, ◌∙◌, subst}
use mathlib.Core.List.{List, [], ◌∷◌, ◌++◌, append-nil}
use mathlib.Core.Bool.{Bool, false, ◌||◌}
use Rattle.std.specs.Prelude.{Option, None, Some}
use lib.ListN.{length}
use Rattle.rules.specs.Input.{Context}
use Rattle.rules.specs.Basic.{pick, is_empty, is_some, on_some, word_in, concat}
use Rattle.rules.specs.Utf8.{encode}
use Rattle.rules.specs.Sheet.{escape}
use Rattle.rules.specs.Words.{BlockKind, step_kind, text_kind, DefineMode, DuplicateMode, mode_all, mode_components, mode_steps, mode_text, define_key, duplicate_key, define_words, duplicate_words}
use Rattle.rules.specs.Event.{Text, Between, meta_event, section_event, start_event, Event, between, inside, parser_event}
use Rattle.rules.specs.Finding.{Finding}
use Rattle.rules.specs.Model.{trimmed_text, InlineQuantity, Block}
use Rattle.rules.specs.Modes.{is_components, is_text, has_modes, Key, config, unknown_config, ordinary, key_of, key_text, value_text}
use Rattle.rules.specs.Metadata.{store_meta, on_define, on_duplicate, on_key, on_metadata}
use Rattle.rules.specs.State as state
use Rattle.rules.specs.State.{State, Metadata, Kept, Tables, no_block, step_open, text_open, text_mode_open, set_modes, set_metadata, set_place, set_block, set_kept, report, next}
use Rattle.rules.specs.Pass.{is_open, is_empty_section, close_section, on_section, opened, on_between, on_event}
use Rattle.rules.specs.Page.{lines_onto, table_lines, block_lines, section_lines}
use Rattle.content.specs.Contents.{spell}
use Rattle.model.specs.declared.Open.{Open}
use Rattle.following.specs.declared.Follow.{Follow}
use Rattle.following.specs.Drawn.{define_in, kind_of, keeps, section_line, text_lead, open_drawn, is_shown, sections_drawn, old_drawn, follow_of, opens_as, lead, start_adds, sections_add, timers_add, inline_add, quantities_added, key_adds, old_add}
use Rattle.following.specs.Follow.{define_meta, key_meta, meta_of, meta_follow, section_follow, start_follow, between_follow, next_follow, with_inline}
use Rattle.following.proofs.Lists.{table_more, span_more}
use Rattle.following.proofs.Grows.{Grows, nil, made, Fresh, start_grows}
use Rattle.following.proofs.Insides.{EventGrows, StepGrows, inside_grows}
use Rattle.sheet.specs.Words.{define_of}

-- inline quantities stay
inline_grows : {st st' : State} {f : Follow} {a b c d : List ℕ} {qs : List InlineQuantity} → Grows st st' f a b c d qs → Grows st st' (with_inline (length st'.tables.inline) f) a b c d qs
unfolding with_inline follow_of
inline_grows {st} {st'} g = record { follow = ap (with_inline (length st'.tables.inline)) g.follow; sections_is = g.sections_is; timers_is = g.timers_is; inline_is = g.inline_is; old_is = g.old_is; table_is = g.table_is }

-- ---- `start`

no_text : text_lead ++ spell (concat {A = ℕ} []) ≡ text_lead
unfolding concat encode escape
no_text = append-nil text_lead

fresh : (m : DefineMode) (n : ℕ) (b : BlockKind) → Fresh m n (opened m b)
unfolding opened is_text open_drawn keeps kind_of lead is_components define_of define_in table_lines lines_onto
fresh mode_all n step_kind = record { is = append-nil _ }
fresh mode_all n text_kind = record { is = no_text }
fresh mode_components n step_kind = record { is = refl }
fresh mode_components n text_kind = record { is = no_text }
fresh mode_steps n step_kind = record { is = append-nil _ }
fresh mode_steps n text_kind = record { is = no_text }
fresh mode_text n step_kind = record { is = no_text }
fresh mode_text n text_kind = record { is = no_text }

opens_kind : (m : DefineMode) (b : BlockKind) → kind_of (opened m b) ≡ opens_as (define_in m) b
unfolding opened is_text kind_of opens_as define_of define_in
opens_kind mode_all step_kind = refl
opens_kind mode_all text_kind = refl
opens_kind mode_components step_kind = refl
opens_kind mode_components text_kind = refl
opens_kind mode_steps step_kind = refl
opens_kind mode_steps text_kind = refl
opens_kind mode_text step_kind = refl
opens_kind mode_text text_kind = refl

-- ---- `section`

-- between blocks the section that is left is drawn whole
pub sections_closed : (m : DefineMode) (d : DuplicateMode) (md : Metadata) (name : Option (List ℕ)) (content : List Block) (n : ℕ) (k : Kept) (t : Tables) (fs : List Finding) → sections_drawn (made m d md name content n no_block k t fs) ≡ table_lines section_lines (close_section (made m d md name content n no_block k t fs)).kept.sections
unfolding sections_drawn is_shown keeps kind_of open_drawn close_section is_empty_section set_kept is_some is_empty section_lines section_line
sections_closed m d md (Some s) content n k t fs = ap (λ (x : List ℕ). table_lines section_lines k.sections ++ (section_line (Some s) ++ x)) (append-nil (table_lines block_lines content)) ∙ sym (table_more section_lines (record { name = Some s; content = content }) k.sections)
sections_closed m d md None (b ∷ bs) n k t fs = ap (λ (x : List ℕ). table_lines section_lines k.sections ++ (section_line None ++ x)) (append-nil (table_lines block_lines (b ∷ bs))) ∙ sym (table_more section_lines (record { name = None; content = b ∷ bs }) k.sections)
sections_closed m d md None [] n k t fs = unfold table_lines lines_onto in append-nil _

-- a new section's line
named_lines : (a : List ℕ) (x : Option Text) → a ++ (pick (is_some (on_some trimmed_text x) || false || false) (section_line (on_some trimmed_text x)) [] ++ (table_lines block_lines [] ++ [])) ≡ a ++ pick (is_some x) (section_line (on_some trimmed_text x)) []
unfolding is_some on_some table_lines lines_onto
named_lines a None = refl
named_lines a (Some x) = ap (λ (y : List ℕ). a ++ y) (append-nil _)

named_shown : (x : Option Text) → (is_some (on_some trimmed_text x) || false || false) ≡ is_some x
unfolding is_some on_some
named_shown None = refl
named_shown (Some x) = refl

abbrev begun : Option Text → State → State
begun x st = set_place (record { section = record { name = on_some trimmed_text x; content = [] }; step_counter = 1; block = no_block }) st

module _ (cx : Context) (m : DefineMode) (d : DuplicateMode) (md : Metadata) (name : Option (List ℕ)) (content : List Block) (n : ℕ) (k : Kept) (t : Tables) (fs : List Finding) where
  abbrev here : State
  here = made m d md name content n no_block k t fs

  section_grows : (x : Option Text) (k' : Kept) → sections_drawn here ≡ table_lines section_lines k'.sections
      → EventGrows cx (between (section_event x)) here (begun x (made m d md name content n no_block k' t fs))
  unfolding set_place next_follow between_follow section_follow with_inline follow_of is_shown keeps kind_of sections_drawn old_drawn sections_add timers_add inline_add quantities_added old_add open_drawn is_empty
  section_grows x k' q =
      record {
        follow = ap (λ (b : Bool). section_follow b (follow_of here)) (named_shown x);
        sections_is = named_lines (table_lines section_lines k'.sections) x ∙ ap (λ (y : List ℕ). y ++ pick (is_some x) (section_line (on_some trimmed_text x)) []) (sym q);
        timers_is = nil;
        inline_is = nil;
        old_is = nil;
        table_is = refl;
      }

  start_event_lem : (b : BlockKind) → EventGrows cx (between (start_event b)) here (set_block (opened m b) here)
  unfolding set_block set_place next_follow between_follow start_follow with_inline follow_of sections_add timers_add inline_add quantities_added old_add
  start_event_lem b =
      subst (λ (o : Open). Grows here (set_block (opened m b) here) (start_follow o (follow_of here)) (start_adds (follow_of here) o) [] [] [] []) (opens_kind m b)
      (start_grows m d md name content n k t fs (opened m b) (fresh m n b))

  -- ---- `meta`

  define_grows : (a v : Text) (o : Option DefineMode) → Grows here (on_define a v o here) (meta_follow (define_meta o) (follow_of here)) [] [] [] [] []
  unfolding on_define define_meta meta_follow report set_modes follow_of is_shown keeps kind_of sections_drawn old_drawn open_drawn
  define_grows a v None = record { follow = refl; sections_is = nil; timers_is = nil; inline_is = nil; old_is = nil; table_is = refl }
  define_grows a v (Some x) = record { follow = refl; sections_is = nil; timers_is = nil; inline_is = nil; old_is = nil; table_is = refl }

  duplicate_grows : (a v : Text) (o : Option DuplicateMode) → Grows here (on_duplicate a v o here) (follow_of here) [] [] [] [] []
  unfolding on_duplicate report set_modes follow_of is_shown keeps kind_of sections_drawn old_drawn open_drawn
  duplicate_grows a v None = record { follow = refl; sections_is = nil; timers_is = nil; inline_is = nil; old_is = nil; table_is = refl }
  duplicate_grows a v (Some x) = record { follow = refl; sections_is = nil; timers_is = nil; inline_is = nil; old_is = nil; table_is = refl }

  key_grows : (key : Key) (a v : Text)
      → Grows here (on_key key a v here) (meta_follow (key_meta key (word_in (value_text v) define_words)) (follow_of here)) [] [] [] (key_adds key a v (follow_of here)) []
  unfolding on_key key_meta key_adds report store_meta set_metadata meta_follow follow_of is_shown keeps kind_of sections_drawn old_drawn open_drawn is_empty
  key_grows (config define_key) a v = define_grows a v (word_in (value_text v) define_words)
  key_grows (config duplicate_key) a v = duplicate_grows a v (word_in (value_text v) duplicate_words)
  key_grows unknown_config a v = record { follow = refl; sections_is = nil; timers_is = nil; inline_is = nil; old_is = nil; table_is = refl }
  key_grows ordinary a v = record { follow = refl; sections_is = nil; timers_is = nil; inline_is = nil; old_is = span_more (record { start = a.span.start; end = v.span.end }) md.old; table_is = refl }

  meta_event_lem : (a v : Text) → EventGrows cx (between (meta_event a v)) here (on_metadata cx.flags a v here)
  unfolding on_metadata next_follow between_follow meta_of sections_add timers_add inline_add quantities_added old_add
  meta_event_lem a v = inline_grows (key_grows (pick (has_modes cx.flags) (key_of (key_text a)) ordinary) a v)

section_event_lem : (cx : Context) (m : DefineMode) (d : DuplicateMode) (md : Metadata) (name : Option (List ℕ)) (content : List Block) (n : ℕ) (k : Kept) (t : Tables) (fs : List Finding) (x : Option Text) → EventGrows cx (between (section_event x)) (made m d md name content n no_block k t fs) (on_section x (made m d md name content n no_block k t fs))
unfolding on_section close_section is_empty_section set_kept is_some is_empty
section_event_lem cx m d md (Some s) content n k t fs x = section_grows cx m d md (Some s) content n k t fs x (record { sections = record { name = Some s; content = content } ∷ k.sections; blocks = k.blocks; items = k.items }) (sections_closed m d md (Some s) content n k t fs)
section_event_lem cx m d md None (b ∷ bs) n k t fs x = section_grows cx m d md None (b ∷ bs) n k t fs x (record { sections = record { name = None; content = b ∷ bs } ∷ k.sections; blocks = k.blocks; items = k.items }) (sections_closed m d md None (b ∷ bs) n k t fs)
section_event_lem cx m d md None [] n k t fs x = section_grows cx m d md None [] n k t fs x k (sections_closed m d md None [] n k t fs)

-- ---- every line

module _ (cx : Context) (m : DefineMode) (d : DuplicateMode) (md : Metadata) (name : Option (List ℕ)) (content : List Block) (n : ℕ) (k : Kept) (t : Tables) (fs : List Finding) where
  between_grows : (b : Between) → EventGrows cx (between b) (made m d md name content n no_block k t fs) (on_between cx b (made m d md name content n no_block k t fs))
  unfolding on_between
  between_grows (meta_event a v) = meta_event_lem cx m d md name content n k t fs a v
  between_grows (section_event x) = section_event_lem cx m d md name content n k t fs x
  between_grows (start_event b) = start_event_lem cx m d md name content n k t fs b

  made_grows : (e : Event) (o : state.Open) → StepGrows cx e (made m d md name content n o k t fs) (on_event cx e (made m d md name content n o k t fs))
  unfolding on_event is_open
  made_grows (between b) no_block = between_grows b
  made_grows (between b) (step_open is) = tt
  made_grows (between b) (text_open ts) = tt
  made_grows (between b) (text_mode_open ts) = tt
  made_grows (inside i) o = inside_grows cx m d md name content n k t fs i o
  made_grows (parser_event s x) o = unfold report next_follow with_inline follow_of is_shown sections_drawn old_drawn sections_add timers_add inline_add quantities_added old_add in record { follow = refl; sections_is = nil; timers_is = nil; inline_is = nil; old_is = nil; table_is = refl }

module _ (cx : Context) where
  event_grows : (e : Event) (st : State) → StepGrows cx e st (on_event cx e st)
  event_grows e st = made_grows cx st.modes.define st.modes.duplicate st.metadata st.place.section.name st.place.section.content st.place.step_counter st.kept st.tables st.findings e st.place.block

  pub line_grows : (e : Event) (st st' : State) → on_event cx e st ≡ next st' → EventGrows cx e st st'
  line_grows e st st' q = subst (StepGrows cx e st) q (event_grows e st)
