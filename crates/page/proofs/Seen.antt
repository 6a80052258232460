-- What of the small state the walk for a part follows, from line to line.
use Prim.Native.Nat.{ℕ, ◌+◌}
use mathlib.Core.Path.{◌≡◌, refl, sym, ap, ◌∙◌}
use mathlib.Core.List.{List}
use native.Mathlib.Omega.{arith}
use lib.ListN.{length}
use Rattle.rules.specs.Input.{Context}
use Rattle.rules.specs.Event as rules
use Rattle.rules.specs.Event.{Event, meta_event, section_event, start_event, end_event, text_event, component_event, ComponentEvent, ingredient_event, cookware_event, timer_event, between, inside, parser_event}
use Rattle.rules.specs.Basic.{pick}
use Rattle.rules.specs.Modes as modes
use Rattle.rules.specs.Modes.{has_modes, key_of, key_text, config, unknown_config, ordinary}
use Rattle.rules.specs.Model.{InlineQuantity}
use Rattle.rules.specs.State.{State, next}
use Rattle.rules.specs.Pass.{on_event}
use Rattle.model.specs.declared.Open.{Open}
use Rattle.model.specs.declared.Open.TheVariants as block
use Rattle.following.specs.declared.Follow.{Follow}
use Rattle.following.specs.declared.Meta.{Meta}
use Rattle.following.specs.declared.Meta.TheVariants.{Defines, Ordinary, Other}
use Rattle.following.specs.declared.Part.{Part}
use Rattle.following.specs.declared.Part.TheVariants.{Sections, Timers, Inline, Old}
use Rattle.following.specs.Drawn.{follow_of, timer_adds, timers_add, unless_components, inline_adds, inline_add, quantities_in, quantities_added, key_adds, old_add, added}
use Rattle.following.specs.Follow.{meta_of, meta_follow, section_follow, start_follow, close_follow, count_component, component_follow, inside_follow, between_follow, next_follow, with_inline}
use Rattle.page_parts.specs.Drawing.{tracked}
use Rattle.page.specs.Walk.{view}
use Rattle.page.proofs.Tracked.{FollowsFor, follows_for_next}

-- ---- what a line adds depends on that alone

timer_seen : (c : ComponentEvent) (b : Open) (f : Follow) → timer_adds c b (view Timers f) ≡ timer_adds c b f
unfolding timer_adds view
timer_seen (ingredient_event c i) b f = refl
timer_seen (cookware_event c) b f = refl
timer_seen (timer_event s n q) block.Nothing f = refl
timer_seen (timer_event s n q) block.Step f = refl
timer_seen (timer_event s n q) block.Text f = refl
timer_seen (timer_event s n q) block.TextMode f = refl

timers_seen : (e : Event) (f : Follow) → timers_add e (view Timers f) ≡ timers_add e f
unfolding timers_add
timers_seen (between b) f = refl
timers_seen (inside (end_event k)) f = refl
timers_seen (inside (text_event t)) f = refl
timers_seen (inside (component_event c)) f = unfold view in timer_seen c f.block f
timers_seen (parser_event s n) f = refl

key_seen : (y : modes.Key) (k v : rules.Text) (f : Follow) → key_adds y k v (view Old f) ≡ key_adds y k v f
unfolding key_adds view
key_seen (config c) k v f = refl
key_seen unknown_config k v f = refl
key_seen ordinary k v f = refl

old_seen : (flags : ℕ) (e : Event) (f : Follow) → old_add flags e (view Old f) ≡ old_add flags e f
unfolding old_add
old_seen flags (between (meta_event k v)) f = key_seen (pick (has_modes flags) (key_of (key_text k)) ordinary) k v f
old_seen flags (between (section_event n)) f = refl
old_seen flags (between (start_event k)) f = refl
old_seen flags (inside i) f = refl
old_seen flags (parser_event s n) f = refl

module _ (cx : Context) where
  text_seen : (t : rules.Text) (b : Open) (f : Follow) → inline_adds cx.units cx.flags t b (view Inline f) ≡ inline_adds cx.units cx.flags t b f
  unfolding inline_adds unless_components view
  text_seen t block.Nothing f = refl
  text_seen t block.Step f = refl
  text_seen t block.Text f = refl
  text_seen t block.TextMode f = refl

  inline_seen : (e : Event) (f : Follow) → inline_add cx.units cx.flags e (view Inline f) ≡ inline_add cx.units cx.flags e f
  unfolding inline_add
  inline_seen (between b) f = refl
  inline_seen (inside (end_event k)) f = refl
  inline_seen (inside (text_event t)) f = unfold view in text_seen t f.block f
  inline_seen (inside (component_event c)) f = refl
  inline_seen (parser_event s n) f = refl

  quantity_seen : (t : rules.Text) (b : Open) (f : Follow) → quantities_in cx.units cx.flags t b (view Inline f) ≡ quantities_in cx.units cx.flags t b f
  unfolding quantities_in view
  quantity_seen t block.Nothing f = refl
  quantity_seen t block.Step f = refl
  quantity_seen t block.Text f = refl
  quantity_seen t block.TextMode f = refl

  quantities_seen : (e : Event) (f : Follow) → quantities_added cx.units cx.flags e (view Inline f) ≡ quantities_added cx.units cx.flags e f
  unfolding quantities_added
  quantities_seen (between b) f = refl
  quantities_seen (inside (end_event k)) f = refl
  quantities_seen (inside (text_event t)) f = unfold view in quantity_seen t f.block f
  quantities_seen (inside (component_event c)) f = refl
  quantities_seen (parser_event s n) f = refl

pub added_seen : (cx : Context) (p : Part) (e : Event) (f : Follow) → added cx.text cx.units cx.flags p e (view p f) ≡ added cx.text cx.units cx.flags p e f
unfolding added
added_seen cx Sections e f = unfold view in refl
added_seen cx Timers e f = timers_seen e f
added_seen cx Inline e f = inline_seen cx e f
added_seen cx Old e f = old_seen cx.flags e f

-- ---- and so does the state after it

meta_next : (p : Part) (m : Meta) (f : Follow) → view p (meta_follow m (view p f)) ≡ view p (meta_follow m f)
unfolding view meta_follow
meta_next Sections m f = refl
meta_next Timers (Defines d) f = refl
meta_next Timers Ordinary f = refl
meta_next Timers Other f = refl
meta_next Inline (Defines d) f = refl
meta_next Inline Ordinary f = refl
meta_next Inline Other f = refl
meta_next Old (Defines d) f = refl
meta_next Old Ordinary f = refl
meta_next Old Other f = refl

timer_next : (c : ComponentEvent) (b : Open) (f : Follow) → view Timers (component_follow c b (view Timers f)) ≡ view Timers (component_follow c b f)
unfolding view component_follow count_component
timer_next c block.Nothing f = refl
timer_next (ingredient_event c i) block.Step f = refl
timer_next (cookware_event c) block.Step f = refl
timer_next (timer_event s n q) block.Step f = refl
timer_next c block.Text f = refl
timer_next c block.TextMode f = refl

-- components count in the page's other parts alone
pub inline_still : (c : ComponentEvent) (b : Open) (f : Follow) → view Inline f ≡ view Inline (component_follow c b f)
unfolding view component_follow count_component
inline_still c block.Nothing f = refl
inline_still (ingredient_event c i) block.Step f = refl
inline_still (cookware_event c) block.Step f = refl
inline_still (timer_event s n q) block.Step f = refl
inline_still c block.Text f = refl
inline_still c block.TextMode f = refl

pub old_still : (c : ComponentEvent) (b : Open) (f : Follow) → view Old f ≡ view Old (component_follow c b f)
unfolding view component_follow count_component
old_still c block.Nothing f = refl
old_still (ingredient_event c i) block.Step f = refl
old_still (cookware_event c) block.Step f = refl
old_still (timer_event s n q) block.Step f = refl
old_still c block.Text f = refl
old_still c block.TextMode f = refl

module _ (flags : ℕ) where
  timers_next : (e : Event) (f : Follow) → view Timers (next_follow flags e (view Timers f)) ≡ view Timers (next_follow flags e f)
  unfolding next_follow between_follow inside_follow
  timers_next (between (meta_event k v)) f = meta_next Timers (meta_of flags k v) f
  timers_next (between (section_event n)) f = unfold view section_follow in refl
  timers_next (between (start_event k)) f = unfold view start_follow in refl
  timers_next (inside (end_event k)) f = unfold view close_follow in refl
  timers_next (inside (text_event t)) f = unfold view in refl
  timers_next (inside (component_event c)) f = unfold view in timer_next c f.block f
  timers_next (parser_event s n) f = unfold view in refl

  inline_next : (e : Event) (f : Follow) → view Inline (next_follow flags e (view Inline f)) ≡ view Inline (next_follow flags e f)
  unfolding next_follow between_follow inside_follow
  inline_next (between (meta_event k v)) f = meta_next Inline (meta_of flags k v) f
  inline_next (between (section_event n)) f = unfold view section_follow in refl
  inline_next (between (start_event k)) f = unfold view start_follow in refl
  inline_next (inside (end_event k)) f = unfold view close_follow in refl
  inline_next (inside (text_event t)) f = unfold view in refl
  inline_next (inside (component_event c)) f = sym (inline_still c (view Inline f).block (view Inline f)) ∙ (unfold view in refl ∙ inline_still c f.block f)
  inline_next (parser_event s n) f = unfold view in refl

  old_next : (e : Event) (f : Follow) → view Old (next_follow flags e (view Old f)) ≡ view Old (next_follow flags e f)
  unfolding next_follow between_follow inside_follow
  old_next (between (meta_event k v)) f = meta_next Old (meta_of flags k v) f
  old_next (between (section_event n)) f = unfold view section_follow in refl
  old_next (between (start_event k)) f = unfold view start_follow in refl
  old_next (inside (end_event k)) f = unfold view close_follow in refl
  old_next (inside (text_event t)) f = unfold view in refl
  old_next (inside (component_event c)) f = sym (old_still c (view Old f).block (view Old f)) ∙ (unfold view in refl ∙ old_still c f.block f)
  old_next (parser_event s n) f = unfold view in refl

module _ (cx : Context) (p : Part) (e : Event) where
  -- the state after the line
  abbrev pub after : Follow → Follow
  after f = with_inline (f.inline + tracked p (length (quantities_added cx.units cx.flags e f))) (next_follow cx.flags e f)

timers_count : (x y : ℕ) (g h : Follow) → view Timers g ≡ view Timers h → view Timers (with_inline x g) ≡ view Timers (with_inline y h)
unfolding view with_inline
timers_count x y g h q = q

old_count : (x y : ℕ) (g h : Follow) → view Old g ≡ view Old h → view Old (with_inline x g) ≡ view Old (with_inline y h)
unfolding view with_inline
old_count x y g h q = q

inline_count : (x y : ℕ) (g h : Follow) → view Inline g ≡ view Inline h → x ≡ y → view Inline (with_inline x g) ≡ view Inline (with_inline y h)
unfolding view with_inline
inline_count x y g h q z = rw z (ap (with_inline y) q)

view_inline : (f : Follow) → (view Inline f).inline ≡ f.inline
unfolding view
view_inline f = refl

after_seen : (cx : Context) (p : Part) (e : Event) (f : Follow) → view p (after cx p e (view p f)) ≡ view p (after cx p e f)
after_seen cx Sections e f = unfold view in refl
after_seen cx Timers e f = timers_count _ _ _ _ (timers_next cx.flags e f)
after_seen cx Inline e f =
    inline_count _ _ _ _ (inline_next cx.flags e f)
    (ap (λ (l : List InlineQuantity). (view Inline f).inline + tracked Inline (length l)) (quantities_seen cx e f)
    ∙ ap (λ (n : ℕ). n + tracked Inline (length (quantities_added cx.units cx.flags e f))) (view_inline f))
after_seen cx Old e f = old_count _ _ _ _ (old_next cx.flags e f)

count_apart : (p : Part) (f : Follow) → view p (with_inline (tracked p f.inline) f) ≡ view p f
unfolding view with_inline tracked
count_apart Sections f = refl
count_apart Timers f = refl
count_apart Inline f = refl
count_apart Old f = refl

-- ---- the walk of the part p

-- f has what of the state the part's next bytes depend on
pub record Seen (p : Part) (st : State) (f : Follow) : Type 0 where
  pub is : view p f ≡ view p (follow_of st)
  pub count : f.inline ≡ tracked p (follow_of st).inline

pub seen_first : {p : Part} {st : State} {f : Follow} → FollowsFor p st f → Seen p st f
seen_first {p} {st} g = record { is = ap (view p) g.is ∙ count_apart p (follow_of st); count = ap (λ (x : Follow). x.inline) g.is ∙ unfold with_inline in refl }

count_by : (p : Part) (r f s : Follow) (m n : ℕ) → view p r ≡ view p s → r.inline ≡ f.inline + tracked p n → f.inline ≡ tracked p m → r.inline ≡ tracked p s.inline
unfolding view tracked
count_by Sections r f s m n q z c = ap (λ (x : Follow). x.inline) q
count_by Timers r f s m n q z c = omega (arith, z, c)
count_by Inline r f s m n q z c = ap (λ (x : Follow). x.inline) q
count_by Old r f s m n q z c = omega (arith, z, c)

module _ (cx : Context) (p : Part) (e : Event) {st : State} {f : Follow} (g : Seen p st f) where
  pub added_follows : added cx.text cx.units cx.flags p e f ≡ added cx.text cx.units cx.flags p e (follow_of st)
  added_follows = sym (added_seen cx p e f) ∙ (ap (added cx.text cx.units cx.flags p e) g.is ∙ added_seen cx p e (follow_of st))

  module _ (st' : State) (q : on_event cx e st ≡ next st') where
    abbrev exact : Follow
    exact = with_inline (tracked p (follow_of st).inline) (follow_of st)

    then : view p (after cx p e f) ≡ view p (follow_of st')
    then =
        sym (after_seen cx p e f)
        ∙ (ap (λ (x : Follow). view p (after cx p e x)) (g.is ∙ sym (count_apart p (follow_of st)))
        ∙ (after_seen cx p e exact
        ∙ (ap (view p) (follows_for_next cx p e st' {f = exact} q (record { is = refl }) {r = after cx p e exact} refl).is
        ∙ count_apart p (follow_of st'))))

    pub seen_next : {r : Follow} → view p r ≡ view p (after cx p e f) → r.inline ≡ f.inline + tracked p (length (quantities_added cx.units cx.flags e f)) → Seen p st' r
    seen_next {r} w z =
        let k = w ∙ then in
        record { is = k; count = count_by p r f (follow_of st') (follow_of st).inline (length (quantities_added cx.units cx.flags e f)) k z g.count }

    -- how many are counted then
    pub count_then : f.inline + tracked p (length (quantities_added cx.units cx.flags e f)) ≡ tracked p (follow_of st').inline
    unfolding with_inline
    count_then = (seen_next {r = after cx p e f} refl refl).count
