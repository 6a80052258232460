-- The small state follows the walk, without inline quantities.
use Prim.Native.Nat.{ℕ, ◌+◌, ◌≤◌}
use mathlib.Core.Path.{◌≡◌, refl, sym, ap, ◌∙◌, subst}
use mathlib.Core.List.{List}
use native.Mathlib.Omega.{arith}
use lib.ListN.{length}
use Rattle.rules.specs.Input.{Context}
use Rattle.rules.specs.Event.{Event, meta_event, section_event, start_event, end_event, text_event, component_event, ComponentEvent, ingredient_event, cookware_event, timer_event, between, inside, parser_event}
use Rattle.rules.specs.Model.{Kind, ingredient, cookware}
use Rattle.rules.specs.State.{State, first_state, table_of, next}
use Rattle.rules.specs.Pass.{on_event}
use Rattle.events.specs.declared.EventView.{EventView}
use Rattle.events.specs.Views.{event_in}
use Rattle.model.specs.Memory.{count_of}
use Rattle.model.specs.declared.Held.{Held}
use Rattle.model.specs.declared.Open.{Open}
use Rattle.model.specs.declared.Open.TheVariants as block
use Rattle.following.specs.declared.Follow.{Follow}
use Rattle.following.specs.declared.Meta.{Meta}
use Rattle.following.specs.declared.Meta.TheVariants.{Defines, Ordinary, Other}
use Rattle.following.specs.Drawn.{follow_of, first_follow}
use Rattle.following.specs.Follow.{meta_of, meta_follow, section_follow, start_follow, close_follow, counter_after, count_component, component_follow, inside_follow, between_follow, next_follow, with_inline, Room, Followed}
use Rattle.following.proofs.Betweens.{line_grows}
use Rattle.following.proofs.Laws.{follows_first}
use Rattle.following.proofs.Walking.{Walking}
use Rattle.plain_walk.specs.Lines.{Behind}
use Rattle.plain_walk.specs.Becomes.{Few}

pub behind_first : Behind first_state first_follow
unfolding with_inline first_follow
behind_first = record { is = ap (with_inline 0) follows_first.is }

-- ---- a line does not ask how many inline quantities there are

meta_inline : (m : Meta) (n : ℕ) (f : Follow) → meta_follow m (with_inline n f) ≡ with_inline n (meta_follow m f)
unfolding meta_follow with_inline
meta_inline (Defines d) n f = refl
meta_inline Ordinary n f = refl
meta_inline Other n f = refl

close_inline : (b : Open) (n : ℕ) (f : Follow) → close_follow (counter_after b (with_inline n f)) (with_inline n f) ≡ with_inline n (close_follow (counter_after b f) f)
unfolding close_follow counter_after with_inline
close_inline block.Nothing n f = refl
close_inline block.Step n f = refl
close_inline block.Text n f = refl
close_inline block.TextMode n f = refl

count_inline : (c : ComponentEvent) (n : ℕ) (f : Follow) → count_component c (with_inline n f) ≡ with_inline n (count_component c f)
unfolding count_component with_inline
count_inline (ingredient_event c i) n f = refl
count_inline (cookware_event c) n f = refl
count_inline (timer_event s a q) n f = refl

component_inline : (c : ComponentEvent) (b : Open) (n : ℕ) (f : Follow) → component_follow c b (with_inline n f) ≡ with_inline n (component_follow c b f)
unfolding component_follow
component_inline c block.Nothing n f = refl
component_inline c block.Step n f = count_inline c n f
component_inline c block.Text n f = refl
component_inline c block.TextMode n f = refl

next_inline : (flags : ℕ) (e : Event) (n : ℕ) (f : Follow) → next_follow flags e (with_inline n f) ≡ with_inline n (next_follow flags e f)
unfolding next_follow between_follow inside_follow section_follow start_follow with_inline
next_inline flags (between (meta_event k v)) n f = meta_inline (meta_of flags k v) n f
next_inline flags (between (section_event x)) n f = refl
next_inline flags (between (start_event k)) n f = refl
next_inline flags (inside (end_event k)) n f = close_inline f.block n f
next_inline flags (inside (text_event t)) n f = refl
next_inline flags (inside (component_event c)) n f = component_inline c f.block n f
next_inline flags (parser_event s x) n f = refl

module _ (cx : Context) where
  next_bare : (e : Event) (st after : State) → on_event cx e st ≡ next after → with_inline 0 (next_follow cx.flags e (with_inline 0 (follow_of st))) ≡ with_inline 0 (follow_of after)
  unfolding with_inline
  next_bare e st after q = ap (with_inline 0) (next_inline cx.flags e 0 (follow_of st)) ∙ sym (ap (with_inline 0) (line_grows cx e st after q).follow)

  pub behind_next : {line : List ℕ} {v : EventView} {st after : State} {f r : Follow} → on_event cx (event_in line v) st ≡ next after → Behind st f → Followed cx.flags line v 0 f r → Behind after r
  unfolding with_inline
  behind_next {line} {v} {st} {after} q b z =
      record { is = z.is ∙ (ap (λ (x : Follow). with_inline (x.inline + 0) (next_follow cx.flags (event_in line v) x)) b.is ∙ next_bare (event_in line v) st after q) }

  -- the small state has room for one line more
  pub behind_room : {number : ℕ} {st final : State} {es : List Event} {f : Follow} → Walking cx number st final es → Behind st f → number ≤ 100000 → Room f
  unfolding with_inline
  behind_room {number} w b h =
      let c = w.counts in
      subst Room (sym b.is) (record { counter = omega (arith, c.counter); ingredients = omega (arith, c.ingredients); cookware = omega (arith, c.cookware); timers = omega (arith, c.timers); inline = omega arith })

pub behind_none : {st : State} {f : Follow} → Behind st f → f.inline + 0 ≤ 100000
unfolding with_inline
behind_none b = let e : _ ≡ _ = ap (λ (x : Follow). x.inline) b.is in omega (arith, e)

pub behind_few : {st : State} {f : Follow} (h : Held) → Behind st f → ((k : Kind) → length (table_of k st) ≤ count_of k h) → h.counts.ingredients ≤ 512 → h.counts.cookware ≤ 256 → Few f
unfolding with_inline follow_of table_of
behind_few h e x m n = subst Few (sym e.is) (record { ingredients = omega (arith, x ingredient, m); cookware = omega (arith, x cookware, n) })
