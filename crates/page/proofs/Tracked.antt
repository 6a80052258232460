-- The small state of a walk that does not count inline quantities where its part does not depend on them.
use Prim.Native.Nat.{ℕ, ◌+◌, ◌≤◌}
use mathlib.Core.Path.{◌≡◌, refl, sym, ap, ◌∙◌}
use mathlib.Core.List.{List}
use mathlib.Core.Bool.{Bool}
use native.Mathlib.Omega.{arith}
use lib.ListN.{length}
use Rattle.rules.specs.Input.{Context}
use Rattle.rules.specs.Event as rules
use Rattle.rules.specs.Event.{Event, meta_event, section_event, start_event, end_event, text_event, component_event, ComponentEvent, ingredient_event, cookware_event, timer_event, between, inside, parser_event}
use Rattle.rules.specs.Model.{InlineQuantity}
use Rattle.rules.specs.State.{State, next}
use Rattle.rules.specs.Pass.{on_event}
use Rattle.model.specs.declared.Open.{Open}
use Rattle.model.specs.declared.Open.TheVariants as block
use Rattle.following.specs.declared.Follow.{Follow}
use Rattle.following.specs.declared.Meta.{Meta}
use Rattle.following.specs.declared.Meta.TheVariants.{Defines, Ordinary, Other}
use Rattle.following.specs.declared.Part.{Part}
use Rattle.following.specs.declared.Part.TheVariants.{Sections, Timers, Inline, Old}
use Rattle.following.specs.Drawn.{follow_of, opens_as, quantities_in, quantities_added}
use Rattle.following.specs.Follow.{Follows, meta_of, meta_follow, section_follow, start_follow, close_follow, counter_after, count_component, component_follow, inside_follow, between_follow, next_follow, with_inline}
use Rattle.following.proofs.Betweens.{line_grows}
use Rattle.following.proofs.Laws.{inline_next}
use Rattle.page_parts.specs.Drawing.{tracked}

-- ---- how many are counted

pub tracked_sum : (p : Part) (a b : ℕ) → tracked p a + tracked p b ≡ tracked p (a + b)
unfolding tracked
tracked_sum Sections a b = refl
tracked_sum Timers a b = refl
tracked_sum Inline a b = refl
tracked_sum Old a b = refl

pub tracked_most : (p : Part) (a : ℕ) → tracked p a ≤ a
unfolding tracked
tracked_most Sections a = omega arith
tracked_most Timers a = omega arith
tracked_most Inline a = omega arith
tracked_most Old a = omega arith

inline_same : (f : Follow) → with_inline f.inline f ≡ f
unfolding with_inline
inline_same f = refl

inline_again : (x y : ℕ) (f : Follow) → with_inline x (with_inline y f) ≡ with_inline x f
unfolding with_inline
inline_again x y f = refl

inline_is : (x : ℕ) (f : Follow) → (with_inline x f).inline ≡ x
unfolding with_inline
inline_is x f = refl

-- ---- what does not depend on the count

module _ (cx : Context) where
  text_free : (x : ℕ) (t : rules.Text) (b : Open) (f : Follow) → quantities_in cx.units cx.flags t b (with_inline x f) ≡ quantities_in cx.units cx.flags t b f
  unfolding quantities_in with_inline
  text_free x t block.Nothing f = refl
  text_free x t block.Step f = refl
  text_free x t block.Text f = refl
  text_free x t block.TextMode f = refl

  pub quantities_free : (x : ℕ) (e : Event) (f : Follow) → quantities_added cx.units cx.flags e (with_inline x f) ≡ quantities_added cx.units cx.flags e f
  unfolding quantities_added with_inline
  quantities_free x (between b) f = refl
  quantities_free x (inside (end_event k)) f = refl
  quantities_free x (inside (text_event t)) f = text_free x t f.block f
  quantities_free x (inside (component_event c)) f = refl
  quantities_free x (parser_event s n) f = refl

-- ---- the state after a line

meta_free : (x : ℕ) (m : Meta) (f : Follow) → meta_follow m (with_inline x f) ≡ with_inline x (meta_follow m f)
unfolding meta_follow with_inline
meta_free x (Defines d) f = refl
meta_free x Ordinary f = refl
meta_free x Other f = refl

counter_free : (x : ℕ) (b : Open) (f : Follow) → counter_after b (with_inline x f) ≡ counter_after b f
unfolding counter_after with_inline
counter_free x block.Nothing f = refl
counter_free x block.Step f = refl
counter_free x block.Text f = refl
counter_free x block.TextMode f = refl

close_free : (x : ℕ) {m n : ℕ} (f : Follow) → m ≡ n → close_follow m (with_inline x f) ≡ with_inline x (close_follow n f)
unfolding close_follow with_inline
close_free x f q = rw q

count_free : (x : ℕ) (c : ComponentEvent) (f : Follow) → count_component c (with_inline x f) ≡ with_inline x (count_component c f)
unfolding count_component with_inline
count_free x (ingredient_event c i) f = refl
count_free x (cookware_event c) f = refl
count_free x (timer_event s n q) f = refl

component_free : (x : ℕ) (c : ComponentEvent) (b : Open) (f : Follow) → component_follow c b (with_inline x f) ≡ with_inline x (component_follow c b f)
unfolding component_follow
component_free x c block.Nothing f = refl
component_free x c block.Step f = count_free x c f
component_free x c block.Text f = refl
component_free x c block.TextMode f = refl

section_free : (x : ℕ) (b : Bool) (f : Follow) → section_follow b (with_inline x f) ≡ with_inline x (section_follow b f)
unfolding section_follow with_inline
section_free x b f = refl

start_free : (x : ℕ) (b : Open) (f : Follow) → start_follow b (with_inline x f) ≡ with_inline x (start_follow b f)
unfolding start_follow with_inline
start_free x b f = refl

define_free : (x : ℕ) (f : Follow) → (with_inline x f).define ≡ f.define
unfolding with_inline
define_free x f = refl

block_free : (x : ℕ) (f : Follow) → (with_inline x f).block ≡ f.block
unfolding with_inline
block_free x f = refl

next_free : (flags x : ℕ) (e : Event) (f : Follow) → next_follow flags e (with_inline x f) ≡ with_inline x (next_follow flags e f)
unfolding next_follow between_follow inside_follow with_inline
next_free flags x (between (meta_event k v)) f = meta_free x (meta_of flags k v) f
next_free flags x (between (section_event n)) f = section_free x _ f
next_free flags x (between (start_event k)) f = rw (define_free x f) (start_free x (opens_as f.define k) f)
next_free flags x (inside (end_event k)) f = close_free x f (ap (λ (b : Open). counter_after b (with_inline x f)) (block_free x f) ∙ counter_free x f.block f)
next_free flags x (inside (text_event t)) f = refl
next_free flags x (inside (component_event c)) f = rw (block_free x f) (component_free x c f.block f)
next_free flags x (parser_event s n) f = refl

-- ---- the walk of the part p

pub inline_of : (st : State) → (follow_of st).inline ≡ length st.tables.inline
unfolding follow_of
inline_of st = refl

-- f is what of the state the part's next bytes depend on
pub record FollowsFor (p : Part) (st : State) (f : Follow) : Type 0 where
  pub is : f ≡ with_inline (tracked p (follow_of st).inline) (follow_of st)

pub follows_for : (p : Part) {f : Follow} {st : State} → Follows st f → f.inline ≡ 0 → FollowsFor p st f
unfolding tracked
follows_for Sections g z = record { is = sym (inline_same _) ∙ ap (λ (x : Follow). with_inline x.inline x) g.is }
follows_for Timers {f} g z = record { is = sym (inline_same f) ∙ (ap (λ (n : ℕ). with_inline n f) z ∙ ap (with_inline 0) g.is) }
follows_for Inline g z = record { is = sym (inline_same _) ∙ ap (λ (x : Follow). with_inline x.inline x) g.is }
follows_for Old {f} g z = record { is = sym (inline_same f) ∙ (ap (λ (n : ℕ). with_inline n f) z ∙ ap (with_inline 0) g.is) }

module _ (cx : Context) (p : Part) where
  module _ (e : Event) {st : State} (st' : State) {f : Follow} (q : on_event cx e st ≡ next st') (g : FollowsFor p st f) where
    same_quantities : quantities_added cx.units cx.flags e f ≡ quantities_added cx.units cx.flags e (follow_of st)
    same_quantities = ap (quantities_added cx.units cx.flags e) g.is ∙ quantities_free cx _ e (follow_of st)

    count_is : f.inline ≡ tracked p (follow_of st).inline
    count_is = ap (λ (x : Follow). x.inline) g.is ∙ inline_is _ (follow_of st)

    -- how many are counted then
    pub count_next : f.inline + tracked p (length (quantities_added cx.units cx.flags e f)) ≡ tracked p (follow_of st').inline
    count_next =
        ap (λ (x : ℕ). x + tracked p (length (quantities_added cx.units cx.flags e f))) count_is
        ∙ (ap (λ (l : List InlineQuantity). tracked p (follow_of st).inline + tracked p (length l)) same_quantities
        ∙ (tracked_sum p (follow_of st).inline (length (quantities_added cx.units cx.flags e (follow_of st)))
        ∙ ap (tracked p) (sym (inline_of st' ∙ inline_next cx e st' q (record { is = refl })))))

    pub follows_for_next : {r : Follow} → r ≡ with_inline (f.inline + tracked p (length (quantities_added cx.units cx.flags e f))) (next_follow cx.flags e f) → FollowsFor p st' r
    follows_for_next {r} w =
        record {
          is =
              w ∙ (ap (λ (n : ℕ). with_inline n (next_follow cx.flags e f)) count_next
              ∙ (ap (λ (x : Follow). with_inline (tracked p (follow_of st').inline) (next_follow cx.flags e x)) g.is
              ∙ (ap (with_inline (tracked p (follow_of st').inline)) (next_free cx.flags _ e (follow_of st))
              ∙ (inline_again _ _ (next_follow cx.flags e (follow_of st))
              ∙ (sym (inline_again _ _ (next_follow cx.flags e (follow_of st)))
              ∙ sym (ap (with_inline (tracked p (follow_of st').inline)) (line_grows cx e st st' q).follow))))));
        }
