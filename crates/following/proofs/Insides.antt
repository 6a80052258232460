-- Lines in a block: what they add to the page and to the small state.
use Prim.Native.Nat.{ℕ, suc}
use mathlib.Core.Path.{◌≡◌, refl, sym, ap, ◌∙◌}
use mathlib.Core.List.{List, [], ◌∷◌, ◌++◌, reverse_aux, append_assoc, reverse}
use mathlib.Core.Bool.{Bool, false}
use Rattle.std.specs.Prelude.{Option, None, Some}
use lib.Dec.{eqb}
use lib.ListN.{length}
use Rattle.rules.specs.Input.{Context}
use Rattle.rules.specs.Basic.{pick, lf, join_by, each, concat}
use Rattle.rules.specs.Sheet.{line_of, escape, escape_char}
use Rattle.rules.specs.Words.{BlockKind, step_kind, text_kind, DefineMode, DuplicateMode, mode_all, mode_components, mode_steps, mode_text}
use Rattle.rules.specs.Event.{Span, Text, Quantity, Component, Intermediate, Inside, end_event, text_event, component_event, ComponentEvent, ingredient_event, cookware_event, timer_event, Event, inside, component_span}
use Rattle.rules.specs.Finding.{Finding}
use Rattle.rules.specs.Model.{ingredient, cookware, Entry, Item, ingredient_item, cookware_item, timer_item, Block, step_block, text_block}
use Rattle.rules.specs.Modes.{is_components}
use Rattle.rules.specs.Reference.{Earlier, set_referenced_from}
use Rattle.rules.specs.Components.{Made, timer_of, intermediate_fault, referred, pushed, refers_to_reference}
use Rattle.rules.specs.State as state
use Rattle.rules.specs.State.{State, Metadata, Kept, Tables, no_block, step_open, text_open, text_mode_open, set_place, set_block, set_kept, set_tables, set_table, set_timers, set_inline, table_of, report, over_limits, Step, next, stop}
use Rattle.rules.specs.Pass.{close_step, close_text, keep_block, push_items, items_of, quantities_of, push_pieces, item_of, push_component, unless_chained, unless_fault, pieces, text_in_step, push_timer, on_made, on_component, in_step_block, in_text_block, source_text, component_in_text, in_text_mode, on_inside}
use Rattle.rules.specs.Page.{table_lines, item_line, block_lines, section_lines, timer_line, inline_line}
use Rattle.rules.proofs.Basics.{pick_either}
use Rattle.content.specs.Contents.{spell}
use Rattle.step_lines.specs.Lines.{item_text, inline_text}
use Rattle.step_lines.proofs.Lines.{item_more, text_items_more, quantities_more, pieces_more}
use Rattle.following.specs.Drawn.{define_in, kind_of, keeps, section_line, step_line, text_lead, open_drawn, is_shown, sections_drawn, old_drawn, follow_of, component_item, unless_components, inside_adds, sections_add, timer_adds, timers_add, inline_adds, inline_add, quantities_in, quantities_added, old_add}
use Rattle.following.specs.Follow.{close_follow, counter_after, count_component, component_follow, inside_follow, next_follow, with_inline}
use Rattle.following.proofs.Lists.{table_more}
use Rattle.following.proofs.Grows.{Grows, nil, made, in_open, keep_grows}
use Rattle.sheet.specs.Words.{define_of}

-- what a line adds where the pass goes on
module _ (cx : Context) where
  abbrev pub EventGrows : Event → State → State → Type 0
  EventGrows e st st' =
      Grows st st' (with_inline (length st'.tables.inline) (next_follow cx.flags e (follow_of st))) (sections_add cx.text cx.units cx.flags e (follow_of st))
      (timers_add e (follow_of st)) (inline_add cx.units cx.flags e (follow_of st)) (old_add cx.flags e (follow_of st)) (quantities_added cx.units cx.flags e (follow_of st))

  abbrev pub StepGrows : Event → State → Step → Type 0
  StepGrows e st (next st') = EventGrows e st st'
  StepGrows e st (stop n) = Unit {0}

-- ---- the open block has more

open_more : (m : DefineMode) (n : ℕ) (is' is : List Item) (x : List ℕ) → table_lines item_line is' ≡ table_lines item_line is ++ x
    → open_drawn m n (step_open is') ≡ open_drawn m n (step_open is) ++ pick (is_components (define_of (define_in m))) [] x
unfolding open_drawn is_components define_of define_in
open_more mode_all n is' is x q = ap (λ (l : List ℕ). step_line n ++ l) q ∙ sym (append_assoc (step_line n) (table_lines item_line is) x)
open_more mode_components n is' is x q = refl
open_more mode_steps n is' is x q = ap (λ (l : List ℕ). step_line n ++ l) q ∙ sym (append_assoc (step_line n) (table_lines item_line is) x)
open_more mode_text n is' is x q = ap (λ (l : List ℕ). step_line n ++ l) q ∙ sym (append_assoc (step_line n) (table_lines item_line is) x)

text_lines : (t : List ℕ) (ts : List (List ℕ)) → text_lead ++ spell (concat (reverse (t ∷ ts))) ≡ (text_lead ++ spell (concat (reverse ts))) ++ spell t
text_lines t ts = ap (λ (x : List ℕ). text_lead ++ x) (pieces_more t ts) ∙ sym (append_assoc text_lead (spell (concat (reverse ts))) (spell t))

text_line : (i : ℕ) (t : List ℕ) → block_lines i (text_block t) ≡ (text_lead ++ spell t) ++ (lf ∷ [])
unfolding block_lines line_of join_by each escape escape_char text_lead
text_line i t = refl

-- ---- how many components there are

length_set : (i n : ℕ) (es : List Entry) → length (set_referenced_from i n es) ≡ length es
unfolding set_referenced_from
length_set i n [] = refl
length_set i n (e ∷ es) = pick_either (λ (l : List Entry). length l ≡ suc (length es)) (eqb i (length es)) _ _ (λ b. refl) (λ b. ap suc (length_set i n es))

length_referred : (o : Option Earlier) (es : List Entry) → length (referred o es) ≡ length es
unfolding referred
length_referred None es = refl
length_referred (Some d) es = length_set d.index (length es) es

module _ (cx : Context) (m : DefineMode) (d : DuplicateMode) (md : Metadata) (name : Option (List ℕ)) (content : List Block) (n : ℕ) (k : Kept) (t : Tables) (fs : List Finding) where
  -- the state with this block open
  abbrev has : state.Open → State
  has o = made m d md name content n o k t fs

  abbrev sections_have : List ℕ
  sections_have = table_lines section_lines k.sections

  abbrev line_has : state.Open → List ℕ
  line_has o = pick (is_shown (has o)) (section_line name) []

  -- ---- components in a step

  -- the open step with one item more
  item_lines : (i : Item) (is : List Item) → sections_have ++ (line_has (step_open is) ++ (table_lines block_lines content ++ open_drawn m n (step_open (i ∷ is)))) ≡ (sections_have ++ (line_has (step_open is) ++ (table_lines block_lines content ++ open_drawn m n (step_open is)))) ++ pick (is_components (define_of (define_in m))) [] (item_line 0 i)
  item_lines i is = in_open sections_have (line_has (step_open is)) (table_lines block_lines content) (open_drawn m n (step_open is)) (pick (is_components (define_of (define_in m))) [] (item_line 0 i)) (open_more m n (i ∷ is) is (item_line 0 i) (item_more i is))

  ingredient_grows : (c : Component) (i : Option Intermediate) (v : Made) (is : List Item)
      → EventGrows cx (inside (component_event (ingredient_event c i))) (has (step_open is)) (push_component ingredient v is (has (step_open is)))
  unfolding push_component push_items item_of pushed table_of set_table report set_block set_place set_kept set_tables next_follow inside_follow component_follow count_component with_inline follow_of is_shown kind_of sections_drawn old_drawn sections_add inside_adds unless_components component_item timers_add timer_adds inline_add quantities_added quantities_in old_add
  ingredient_grows c i v is =
      record {
        follow = ap (λ (x : ℕ). count_component (ingredient_event c i) (record { define = define_in m; block = kind_of (step_open is); shown = is_shown (has (step_open is)); counter = n; ingredients = x; cookware = length t.cookware; timers = length t.timers; inline = length t.inline; old = (follow_of (has (step_open is))).old })) (length_referred v.refers_to t.ingredients);
        sections_is = item_lines (ingredient_item (length t.ingredients)) is;
        timers_is = nil;
        inline_is = nil;
        old_is = nil;
        table_is = refl;
      }

  cookware_grows : (c : Component) (v : Made) (is : List Item)
      → EventGrows cx (inside (component_event (cookware_event c))) (has (step_open is)) (push_component cookware v is (has (step_open is)))
  unfolding push_component push_items item_of pushed table_of set_table report set_block set_place set_kept set_tables next_follow inside_follow component_follow count_component with_inline follow_of is_shown kind_of sections_drawn old_drawn sections_add inside_adds unless_components component_item timers_add timer_adds inline_add quantities_added quantities_in old_add
  cookware_grows c v is =
      record {
        follow = ap (λ (x : ℕ). count_component (cookware_event c) (record { define = define_in m; block = kind_of (step_open is); shown = is_shown (has (step_open is)); counter = n; ingredients = length t.ingredients; cookware = x; timers = length t.timers; inline = length t.inline; old = (follow_of (has (step_open is))).old })) (length_referred v.refers_to t.cookware);
        sections_is = item_lines (cookware_item (length t.cookware)) is;
        timers_is = nil;
        inline_is = nil;
        old_is = nil;
        table_is = refl;
      }

  timer_grows : (s : Span) (a : Option Text) (q : Option Quantity) (is : List Item) → EventGrows cx (inside (component_event (timer_event s a q))) (has (step_open is)) (push_timer cx.units cx.flags a q is (has (step_open is)))
  unfolding push_timer push_items report set_block set_place set_kept set_timers set_tables next_follow inside_follow component_follow count_component with_inline follow_of is_shown kind_of sections_drawn old_drawn sections_add inside_adds unless_components component_item timers_add timer_adds inline_add quantities_added quantities_in old_add
  timer_grows s a q is =
      record {
        follow = refl;
        sections_is = item_lines (timer_item (length t.timers)) is;
        timers_is = table_more timer_line (timer_of a q) t.timers;
        inline_is = nil;
        old_is = nil;
        table_is = refl;
      }

  chained_grows : (e : Event) (v : Made) (is : List Item) (after : State) → EventGrows cx e (has (step_open is)) after → StepGrows cx e (has (step_open is)) (unless_chained v after)
  unfolding unless_chained
  chained_grows e v is after g =
      pick_either (StepGrows cx e (has (step_open is))) (refers_to_reference v.refers_to) _ _
      (λ b. pick_either (StepGrows cx e (has (step_open is))) (over_limits after) _ _ (λ q. tt) (λ q. tt)) (λ b. g)

  fault_grows : (e : Event) (o : Option ℕ) (is : List Item) (s : Step) → StepGrows cx e (has (step_open is)) s → StepGrows cx e (has (step_open is)) (unless_fault o s)
  unfolding unless_fault
  fault_grows e None is s g = g
  fault_grows e (Some x) is s g = tt

  component_grows : (c : ComponentEvent) (is : List Item) → StepGrows cx (inside (component_event c)) (has (step_open is)) (on_component cx c is (has (step_open is)))
  unfolding on_component on_made
  component_grows (ingredient_event c i) is = fault_grows (inside (component_event (ingredient_event c i))) (intermediate_fault c i) is _ (chained_grows (inside (component_event (ingredient_event c i))) _ is _ (ingredient_grows c i _ is))
  component_grows (cookware_event c) is = chained_grows (inside (component_event (cookware_event c))) _ is _ (cookware_grows c _ is)
  component_grows (timer_event s a q) is = timer_grows s a q is

  -- ---- texts

  pieces_grows : is_components (define_of (define_in m)) ≡ false → (x : Text) (is : List Item)
      → EventGrows cx (inside (text_event x)) (has (step_open is)) (push_pieces (pieces cx.units cx.flags x.content) is (has (step_open is)))
  unfolding push_pieces push_items set_inline set_tables set_block set_place set_kept next_follow inside_follow with_inline follow_of is_shown kind_of sections_drawn old_drawn sections_add inside_adds unless_components timers_add inline_add quantities_added quantities_in inline_adds old_add
  pieces_grows c x is =
      record {
        follow = refl;
        sections_is = in_open sections_have (line_has (step_open is)) (table_lines block_lines content) (open_drawn m n (step_open is)) _ (open_more m n (reverse_aux (items_of (length t.inline) (pieces cx.units cx.flags x.content)) is) is (item_text (length t.inline) (pieces cx.units cx.flags x.content)) (text_items_more (length t.inline) (pieces cx.units cx.flags x.content) is));
        timers_is = nil;
        inline_is = quantities_more (pieces cx.units cx.flags x.content) t.inline ∙ ap (λ (b : Bool). table_lines inline_line t.inline ++ pick b [] (inline_text (length t.inline) (pieces cx.units cx.flags x.content))) (sym c);
        old_is = nil;
        table_is = ap (λ (b : Bool). reverse_aux (pick b [] (quantities_of (pieces cx.units cx.flags x.content))) t.inline) (sym c);
      }

  -- texts in text blocks, and what stands for them in text mode
  text_mode_text : (x : Text) (ts : List (List ℕ)) → EventGrows cx (inside (text_event x)) (has (text_mode_open ts)) (set_block (text_mode_open (x.content ∷ ts)) (has (text_mode_open ts)))
  unfolding set_block set_place next_follow inside_follow with_inline follow_of is_shown kind_of sections_drawn old_drawn sections_add inside_adds timers_add inline_add quantities_added quantities_in inline_adds old_add open_drawn
  text_mode_text x ts =
      record {
        follow = refl;
        sections_is = in_open sections_have (line_has (text_mode_open ts)) (table_lines block_lines content) (open_drawn m n (text_mode_open ts)) (spell x.content) (text_lines x.content ts);
        timers_is = nil;
        inline_is = nil;
        old_is = nil;
        table_is = refl;
      }

  text_mode_component : (c : ComponentEvent) (ts : List (List ℕ)) → EventGrows cx (inside (component_event c)) (has (text_mode_open ts)) (component_in_text cx.text (component_span c) ts (has (text_mode_open ts)))
  unfolding component_in_text report set_block set_place next_follow inside_follow component_follow with_inline follow_of is_shown kind_of sections_drawn old_drawn sections_add inside_adds timers_add timer_adds inline_add quantities_added quantities_in inline_adds old_add open_drawn
  text_mode_component c ts =
      record {
        follow = refl;
        sections_is = in_open sections_have (line_has (text_mode_open ts)) (table_lines block_lines content) (open_drawn m n (text_mode_open ts)) (spell (source_text cx.text (component_span c))) (text_lines (source_text cx.text (component_span c)) ts);
        timers_is = no_timer c;
        inline_is = nil;
        old_is = nil;
        table_is = refl;
      }
    where
      no_timer : (c : ComponentEvent) → table_lines timer_line t.timers ≡ table_lines timer_line t.timers ++ timers_add (inside (component_event c)) (follow_of (has (text_mode_open ts)))
      no_timer (ingredient_event v i) = nil
      no_timer (cookware_event v) = nil
      no_timer (timer_event s a q) = nil

  text_block_text : (x : Text) (ts : List (List ℕ)) → EventGrows cx (inside (text_event x)) (has (text_open ts)) (set_block (text_open (x.content ∷ ts)) (has (text_open ts)))
  unfolding set_block set_place next_follow inside_follow with_inline follow_of is_shown kind_of sections_drawn old_drawn sections_add inside_adds timers_add inline_add quantities_added quantities_in inline_adds old_add open_drawn
  text_block_text x ts =
      record {
        follow = refl;
        sections_is = in_open sections_have (line_has (text_open ts)) (table_lines block_lines content) (open_drawn m n (text_open ts)) (spell x.content) (text_lines x.content ts);
        timers_is = nil;
        inline_is = nil;
        old_is = nil;
        table_is = refl;
      }

module _ (cx : Context) (m : DefineMode) (d : DuplicateMode) (md : Metadata) (name : Option (List ℕ)) (content : List Block) (n : ℕ) (k : Kept) (t : Tables) (fs : List Finding) (ts : List (List ℕ)) where
  text_end : EventGrows cx (inside (end_event text_kind)) (made m d md name content n (text_open ts) k t fs) (close_text ts (made m d md name content n (text_open ts) k t fs))
  unfolding close_text keeps kind_of next_follow inside_follow counter_after close_follow with_inline follow_of sections_add inside_adds timers_add inline_add quantities_added quantities_in old_add open_drawn keep_block set_kept set_place
  text_end = keep_grows m d md name content n k t fs (text_open ts) (text_block (concat (reverse ts))) n (lf ∷ []) refl (λ i. text_line i (concat (reverse ts)))

  mode_end : (b : BlockKind) → EventGrows cx (inside (end_event b)) (made m d md name content n (text_mode_open ts) k t fs) (close_text ts (made m d md name content n (text_mode_open ts) k t fs))
  unfolding close_text keeps kind_of next_follow inside_follow counter_after close_follow with_inline follow_of sections_add inside_adds timers_add inline_add quantities_added quantities_in old_add open_drawn keep_block set_kept set_place
  mode_end b = keep_grows m d md name content n k t fs (text_mode_open ts) (text_block (concat (reverse ts))) n (lf ∷ []) refl (λ i. text_line i (concat (reverse ts)))

step_text : (cx : Context) (m : DefineMode) (d : DuplicateMode) (md : Metadata) (name : Option (List ℕ)) (content : List Block) (n : ℕ) (k : Kept) (t : Tables) (fs : List Finding) (x : Text) (is : List Item)
    → EventGrows cx (inside (text_event x)) (made m d md name content n (step_open is) k t fs) (text_in_step cx.units cx.flags x is (made m d md name content n (step_open is) k t fs))
unfolding text_in_step is_components define_of define_in
step_text cx mode_all d md name content n k t fs x is = pieces_grows cx mode_all d md name content n k t fs refl x is
step_text cx mode_components d md name content n k t fs x is = unfold report next_follow inside_follow with_inline follow_of is_shown kind_of sections_drawn old_drawn sections_add inside_adds unless_components timers_add inline_add quantities_added quantities_in inline_adds old_add in record { follow = refl; sections_is = nil; timers_is = nil; inline_is = nil; old_is = nil; table_is = refl }
step_text cx mode_steps d md name content n k t fs x is = pieces_grows cx mode_steps d md name content n k t fs refl x is
step_text cx mode_text d md name content n k t fs x is = pieces_grows cx mode_text d md name content n k t fs refl x is

step_end : (cx : Context) (m : DefineMode) (d : DuplicateMode) (md : Metadata) (name : Option (List ℕ)) (content : List Block) (n : ℕ) (k : Kept) (t : Tables) (fs : List Finding) (is : List Item)
    → EventGrows cx (inside (end_event step_kind)) (made m d md name content n (step_open is) k t fs) (close_step is (made m d md name content n (step_open is) k t fs))
unfolding close_step is_components define_of define_in keeps next_follow inside_follow counter_after close_follow with_inline follow_of is_shown kind_of sections_drawn old_drawn sections_add inside_adds timers_add inline_add quantities_added quantities_in inline_adds old_add open_drawn block_lines step_line set_block set_place keep_block set_kept
step_end cx mode_all d md name content n k t fs is = keep_grows mode_all d md name content n k t fs (step_open is) (step_block n is) (suc n) [] refl (λ i. nil)
step_end cx mode_components d md name content n k t fs is = record { follow = refl; sections_is = nil; timers_is = nil; inline_is = nil; old_is = nil; table_is = refl }
step_end cx mode_steps d md name content n k t fs is = keep_grows mode_steps d md name content n k t fs (step_open is) (step_block n is) (suc n) [] refl (λ i. nil)
step_end cx mode_text d md name content n k t fs is = keep_grows mode_text d md name content n k t fs (step_open is) (step_block n is) (suc n) [] refl (λ i. nil)

module _ (cx : Context) (m : DefineMode) (d : DuplicateMode) (md : Metadata) (name : Option (List ℕ)) (content : List Block) (n : ℕ) (k : Kept) (t : Tables) (fs : List Finding) where
  pub inside_grows : (e : Inside) (o : state.Open) → StepGrows cx (inside e) (made m d md name content n o k t fs) (on_inside cx e o (made m d md name content n o k t fs))
  unfolding on_inside in_step_block in_text_block in_text_mode
  inside_grows e no_block = tt
  inside_grows (end_event step_kind) (step_open is) = step_end cx m d md name content n k t fs is
  inside_grows (end_event text_kind) (step_open is) = tt
  inside_grows (text_event x) (step_open is) = step_text cx m d md name content n k t fs x is
  inside_grows (component_event c) (step_open is) = component_grows cx m d md name content n k t fs c is
  inside_grows (end_event step_kind) (text_open ts) = tt
  inside_grows (end_event text_kind) (text_open ts) = text_end cx m d md name content n k t fs ts
  inside_grows (text_event x) (text_open ts) = text_block_text cx m d md name content n k t fs x ts
  inside_grows (component_event c) (text_open ts) = tt
  inside_grows (end_event b) (text_mode_open ts) = mode_end cx m d md name content n k t fs ts b
  inside_grows (text_event x) (text_mode_open ts) = text_mode_text cx m d md name content n k t fs x ts
  inside_grows (component_event c) (text_mode_open ts) = text_mode_component cx m d md name content n k t fs c ts
