-- Lines whose first bytes tell that the walk for a part need not read them.
use Prim.Native.Nat.{ℕ, suc, ◌+◌, ◌≤◌, ◌<◌}
use mathlib.Core.Path.{◌≡◌, refl, sym, ap, ◌∙◌, subst}
use mathlib.Core.Bool.{Bool, true, false, not}
use mathlib.Core.List.{List, [], ◌∷◌}
use Rattle.std.specs.Prelude.{Some}
use native.Mathlib.Omega.{arith}
use borrow.Author.Tests.{eq-eqb, ne_eqb}
use lib.Dec.{eqb}
use lib.ListN.{length, get_or}
use Rattle.rules.specs.Basic.{lf}
use Rattle.rules.specs.Words.{severe, mild}
use Rattle.rules.specs.Event.{Event, meta_event, section_event, start_event, end_event, text_event, component_event, ComponentEvent, ingredient_event, cookware_event, timer_event, between, inside, parser_event}
use Rattle.rules.specs.Units.{NamedUnit}
use Rattle.rules.specs.Read.{parse_line}
use Rattle.rules.specs.Sheet.{Without}
use Rattle.rules.proofs.Basics.{no_truth}
use Rattle.output.proofs.Texts.{text_is}
use Rattle.model.specs.declared.Open.{Open}
use Rattle.model.specs.declared.Open.TheVariants as block
use Rattle.finding_lines.proofs.Texts.{place_in}
use Rattle.finding_lines.proofs.Firsts.{first_byte, second_byte, line_begins}
use Rattle.following.specs.declared.Follow.{Follow}
use Rattle.following.specs.declared.Part.{Part}
use Rattle.following.specs.declared.Part.TheVariants.{Sections, Timers, Inline, Old}
use Rattle.following.specs.Drawn.{timer_adds, timers_add, inline_add, quantities_added, old_add, added}
use Rattle.following.specs.Follow.{section_follow, start_follow, close_follow, count_component, component_follow, inside_follow, between_follow, next_follow, with_inline, Counts}
use Rattle.following.proofs.Walking.{counts_more, next_counts}
use Rattle.page_parts.specs.Drawing.{tracked}
use Rattle.page.specs.declared.walk.Turn.{Turn}
use Rattle.page.specs.Walk.{view, is_aside, is_idle_by, is_idle, LineTaken, TurnTaken}
use Rattle.page.proofs.Seen.{inline_still, old_still}

-- ---- the tests

module _ (x a b : ℕ) where
  pub aside_i : a ≡ 105 → true ≡ is_aside x a b
  unfolding is_aside
  aside_i q = rw (eq-eqb a 105 q)

  module _ (h : a ≡ 105 → ⊥) where
    pub aside_c : a ≡ 99 → true ≡ is_aside x a b
    unfolding is_aside
    aside_c q = rw (ne_eqb a 105 h, eq-eqb a 99 q)

    module _ (k : a ≡ 99 → ⊥) where
      pub aside_w : a ≡ 119 → true ≡ is_aside x a b
      unfolding is_aside
      aside_w q = rw (ne_eqb a 105 h, ne_eqb a 99 k, eq-eqb a 119 q)

      module _ (l : a ≡ 119 → ⊥) where
        pub aside_t : a ≡ 116 → eqb b x ≡ is_aside x a b
        unfolding is_aside
        aside_t q = rw (ne_eqb a 105 h, ne_eqb a 99 k, ne_eqb a 119 l, eq-eqb a 116 q)

        pub aside_none : (a ≡ 116 → ⊥) → false ≡ is_aside x a b
        unfolding is_aside
        aside_none q = rw (ne_eqb a 105 h, ne_eqb a 99 k, ne_eqb a 119 l, ne_eqb a 116 q)

pub idle_short : (p : Part) (line : List ℕ) → length line < 2 → false ≡ is_idle p line
unfolding is_idle
idle_short p [] h = refl
idle_short p (a ∷ []) h = refl
idle_short p (a ∷ b ∷ s) h = absurd (omega arith)

idle_two : (p : Part) (line : List ℕ) → 2 ≤ length line → is_idle_by p (get_or line 0 0) (get_or line 1 0) ≡ is_idle p line
unfolding is_idle
idle_two p [] h = absurd (omega arith)
idle_two p (a ∷ []) h = absurd (omega arith)
idle_two p (a ∷ b ∷ s) h = refl

module _ {p : Part} (line : List ℕ) (h : 2 ≤ length line) where
  pub idle_sections : p ≡ Sections → false ≡ is_idle p line
  unfolding is_idle_by
  idle_sections q = rw q (idle_two Sections line h)

  pub idle_timers : {r : Bool} → p ≡ Timers → r ≡ is_aside 101 (get_or line 0 0) (get_or line 1 0) → r ≡ is_idle p line
  unfolding is_idle_by
  idle_timers q e = e ∙ rw q (idle_two Timers line h)

  pub idle_inline : {r : Bool} → p ≡ Inline → r ≡ is_aside 105 (get_or line 0 0) (get_or line 1 0) → r ≡ is_idle p line
  unfolding is_idle_by
  idle_inline q e = e ∙ rw q (idle_two Inline line h)

  pub idle_old : {r : Bool} → p ≡ Old → r ≡ not (eqb (get_or line 0 0) 109) → r ≡ is_idle p line
  unfolding is_idle_by
  idle_old q e = e ∙ rw q (idle_two Old line h)

-- ---- an idle line

still_count : (p : Part) (f g : Follow) → view p f ≡ view p g → view p f ≡ view p (with_inline f.inline g)
unfolding view with_inline
still_count Sections f g q = ap (with_inline f.inline) q
still_count Timers f g q = q
still_count Inline f g q = ap (with_inline f.inline) q
still_count Old f g q = q

component_still : (p : Part) (c : ComponentEvent) (b : Open) (f : Follow) → view p f ≡ view p (count_component c f) → view p f ≡ view p (component_follow c b f)
unfolding component_follow
component_still p c block.Nothing f q = refl
component_still p c block.Step f q = q
component_still p c block.Text f q = refl
component_still p c block.TextMode f q = refl

module _ (text : List ℕ) (units : List NamedUnit) (flags : ℕ) where
  -- the line adds nothing, and leaves what is followed
  record Idle (p : Part) (e : Event) (f : Follow) : Type 0 where
    pub adds : added text units flags p e f ≡ []
    pub still : view p f ≡ view p (next_follow flags e f)
    pub few : tracked p (length (quantities_added units flags e f)) ≡ 0

  timers_idle : (e : Event) (f : Follow) → is_idle_by Timers (first_byte e) (second_byte e) ≡ true → Idle Timers e f
  unfolding is_idle_by is_aside first_byte second_byte added timers_add timer_adds tracked next_follow inside_follow
  timers_idle (between (meta_event k v)) f h = no_truth h
  timers_idle (between (section_event n)) f h = no_truth h
  timers_idle (between (start_event k)) f h = no_truth h
  timers_idle (inside (end_event k)) f h = no_truth h
  timers_idle (inside (text_event t)) f h = record { adds = refl; still = refl; few = refl }
  timers_idle (inside (component_event (ingredient_event c i))) f h = record { adds = refl; still = component_still Timers (ingredient_event c i) f.block f (unfold view count_component in refl); few = refl }
  timers_idle (inside (component_event (cookware_event c))) f h = record { adds = refl; still = component_still Timers (cookware_event c) f.block f (unfold view count_component in refl); few = refl }
  timers_idle (inside (component_event (timer_event s n q))) f h = no_truth h
  timers_idle (parser_event severe n) f h = no_truth h
  timers_idle (parser_event mild n) f h = record { adds = refl; still = refl; few = refl }

  inline_idle : (e : Event) (f : Follow) → is_idle_by Inline (first_byte e) (second_byte e) ≡ true → Idle Inline e f
  unfolding is_idle_by is_aside first_byte second_byte added inline_add quantities_added tracked next_follow inside_follow
  inline_idle (between (meta_event k v)) f h = no_truth h
  inline_idle (between (section_event n)) f h = no_truth h
  inline_idle (between (start_event k)) f h = no_truth h
  inline_idle (inside (end_event k)) f h = no_truth h
  inline_idle (inside (text_event t)) f h = no_truth h
  inline_idle (inside (component_event c)) f h = record { adds = refl; still = inline_still c f.block f; few = refl }
  inline_idle (parser_event severe n) f h = no_truth h
  inline_idle (parser_event mild n) f h = record { adds = refl; still = refl; few = refl }

  old_idle : (e : Event) (f : Follow) → is_idle_by Old (first_byte e) (second_byte e) ≡ true → Idle Old e f
  unfolding is_idle_by first_byte added old_add tracked next_follow between_follow inside_follow
  old_idle (between (meta_event k v)) f h = no_truth h
  old_idle (between (section_event n)) f h = record { adds = refl; still = unfold view section_follow in refl; few = refl }
  old_idle (between (start_event k)) f h = record { adds = refl; still = unfold view start_follow in refl; few = refl }
  old_idle (inside (end_event k)) f h = record { adds = refl; still = unfold view close_follow in refl; few = refl }
  old_idle (inside (text_event t)) f h = record { adds = refl; still = refl; few = refl }
  old_idle (inside (component_event c)) f h = record { adds = refl; still = old_still c f.block f; few = refl }
  old_idle (parser_event s n) f h = record { adds = refl; still = refl; few = refl }

  idle_by : (p : Part) (e : Event) (f : Follow) → is_idle_by p (first_byte e) (second_byte e) ≡ true → Idle p e f
  idle_by Sections e f h = no_truth (unfold is_idle_by in h)
  idle_by Timers e f h = timers_idle e f h
  idle_by Inline e f h = inline_idle e f h
  idle_by Old e f h = old_idle e f h

-- ---- the turn

counted : (x : ℕ) {n : ℕ} {f : Follow} → Counts n f → Counts n (with_inline x f)
unfolding with_inline
counted x c = record { counter = c.counter; ingredients = c.ingredients; cookware = c.cookware; timers = c.timers }

module _ {text : List ℕ} {units : List NamedUnit} {flags : ℕ} {p : Part} {line : List ℕ} {f : Follow} where
  idle_line : Without lf line → true ≡ is_idle p line → (e : Event) → parse_line line ≡ Some e → Idle text units flags p e f
  unfolding is_idle
  idle_line w h e q = idle_by text units flags p e f (sym (h ∙ ap (is_idle p) (line_begins w q).is))

  pub turn_idle : (o : List ℕ) {b : Bool} → Without lf line → b ≡ is_idle p line → b ≡ true → TurnTaken text units flags p line f o o (record { count = 0; follow = f })
  turn_idle o w h t =
      let i = idle_line w (sym t ∙ h) in
      record {
        put = λ e q. text_is (added text units flags p e f) (i e q).adds (place_in o 0 (omega arith));
        seen = λ e q. still_count p f (next_follow flags e f) (i e q).still ∙ ap (λ (n : ℕ). view p (with_inline n (next_follow flags e f))) (more e (i e q).few);
        inline = λ e q. more e (i e q).few;
        counts = counts_more;
      }
    where
      more : (e : Event) → tracked p (length (quantities_added units flags e f)) ≡ 0 → f.inline ≡ f.inline + tracked p (length (quantities_added units flags e f))
      more e z = omega (arith, z)

  pub turn_read : {o₀ o : List ℕ} {r : Turn} {e : Event} → parse_line line ≡ Some e → LineTaken text units flags p line f o₀ o r → TurnTaken text units flags p line f o₀ o r
  turn_read {r = r} {e = e₀} k l =
      record {
        put = l.put;
        seen = λ e q. ap (view p) (l.follow e q);
        inline = λ e q. ap (λ (x : Follow). x.inline) (l.follow e q) ∙ unfold with_inline in refl;
        counts = λ {n} c. subst (Counts (suc n)) (sym (l.follow e₀ k)) (counted _ (next_counts flags e₀ f c));
      }
