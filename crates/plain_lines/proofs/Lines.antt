-- The lines of the plain form as their writers write them; a line that was read, copied, is the line of its event.
use Prim.Native.Nat.{ℕ}
use mathlib.Core.Path.{◌≡◌, refl}
use Rattle.std.specs.Prelude.{None, Some}
use mathlib.Core.List.{List, [], ◌∷◌, ◌++◌}
use Rattle.rules.specs.Basic.{codes, tab, lf, join_by, each}
use Rattle.rules.specs.Utf8.{encode}
use Rattle.rules.specs.Sheet.{escape_char, escape, line_of, Without}
use Rattle.rules.specs.Words.{text_kind}
use Rattle.rules.specs.Event.{Span, Component, ComponentEvent, Event, start_event, end_event, text_event, component_event, ingredient_event, cookware_event, between, inside, component_span}
use Rattle.rules.specs.Read.{parse_line}
use Rattle.rules.specs.Model.{ingredient, cookware}
use Rattle.rules.specs.Pass.{source_text}
use Rattle.rules.specs.Write.{opt_fields, span_fields, text_fields, named_fields, block_kind_field, component_fields, event_fields, write_line}
use Rattle.rules.specs.Plain.{mark_ref, in_plain_text}
use Rattle.rules.proofs.Parsed.{parse_writes}
use Rattle.output.specs.Put.{Put, tabbed}
use Rattle.output.proofs.Puts.{put_seq}
use Rattle.output.proofs.Texts.{text_is, tabbed_one, put_fields, put_line}
use Rattle.content.specs.Contents.{spell}
use Rattle.model.specs.declared.Kind.{Kind}
use Rattle.model.specs.Kinds.{kind_of}
use Rattle.plain_lines.specs.Lines.{source_at, marked_as}

-- a line that reads as an event, copied
pub copied_put : {line : List ℕ} {e : Event} {o₀ o : List ℕ} {at r : ℕ} → Without lf line → parse_line line ≡ Some e → Put (line ++ (lf ∷ [])) o₀ at o r → Put (write_line e) o₀ at o r
copied_put {line} {e} h q p = text_is _ (parse_writes line e h q) p

-- ---- text-mode blocks

module _ {o₀ o : List ℕ} {at r : ℕ} where
  pub start_put : Put (codes "start" ++ (tab ∷ codes "text") ++ (lf ∷ [])) o₀ at o r → Put (write_line (between (start_event text_kind))) o₀ at o r
  unfolding write_line event_fields block_kind_field line_of join_by each escape escape_char
  start_put p = p

  pub end_put : Put (codes "end" ++ (tab ∷ codes "text") ++ (lf ∷ [])) o₀ at o r → Put (write_line (inside (end_event text_kind))) o₀ at o r
  unfolding write_line event_fields block_kind_field line_of join_by each escape escape_char
  end_put p = p

-- what stands for a component there
pub component_text : (text : List ℕ) (c : ComponentEvent) → in_plain_text text (component_event c) ≡ text_event (source_at text (component_span c))
unfolding in_plain_text source_at
component_text text c = refl

module _ {o₀ o₁ o₂ o₃ o₄ o₅ : List ℕ} {at m₁ m₂ m₃ m₄ r : ℕ} where
  pub source_line : (text : List ℕ) (s : Span) → Put (codes "text") o₀ at o₁ m₁ → Put (tabbed (span_fields s)) o₁ m₁ o₂ m₂ → Put (tab ∷ []) o₂ m₂ o₃ m₃ → Put (spell (source_text text s)) o₃ m₃ o₄ m₄ → Put (lf ∷ []) o₄ m₄ o₅ r → Put (write_line (inside (text_event (source_at text s)))) o₀ at o₅ r
  unfolding write_line event_fields text_fields source_at escape escape_char
  source_line text s p₁ p₂ p₃ p₄ p₅ =
      let c : List ℕ = encode (source_text text s) in
      let q : Put (tabbed (c ∷ [])) o₂ m₂ o₄ m₄ = text_is _ (tabbed_one c) (put_seq p₃ p₄) in
      put_line (codes "text") (span_fields s ++ (c ∷ [])) p₁ (put_fields (span_fields s) (c ∷ []) p₂ q) p₅

-- ---- components

module _ (c : Component) {o₀ o₁ o₂ o₃ : List ℕ} {at m n : ℕ} where
  pub ingredient_put : {o₄ : List ℕ} {k r : ℕ} → Put (codes "ingredient") o₀ at o₁ m → Put (tabbed (named_fields (mark_ref c))) o₁ m o₂ n → Put (tabbed (codes "-" ∷ [])) o₂ n o₃ k → Put (lf ∷ []) o₃ k o₄ r → Put (write_line (inside (component_event (marked_as ingredient c)))) o₀ at o₄ r
  unfolding write_line event_fields component_fields opt_fields marked_as escape escape_char
  ingredient_put p q s e = put_line (codes "ingredient") (named_fields (mark_ref c) ++ (codes "-" ∷ [])) p (put_fields (named_fields (mark_ref c)) (codes "-" ∷ []) q s) e

  pub cookware_put : {r : ℕ} → Put (codes "cookware") o₀ at o₁ m → Put (tabbed (named_fields (mark_ref c))) o₁ m o₂ n → Put (lf ∷ []) o₂ n o₃ r → Put (write_line (inside (component_event (marked_as cookware c)))) o₀ at o₃ r
  unfolding write_line event_fields component_fields marked_as escape escape_char
  cookware_put p q e = put_line (codes "cookware") (named_fields (mark_ref c)) p q e

-- the line of a component of either kind
module _ {b : Kind} (c : Component) {o₀ o : List ℕ} {at r : ℕ} where
  pub kind_line : (k : Kind) → b ≡ k → Put (write_line (inside (component_event (marked_as (kind_of k) c)))) o₀ at o r → Put (write_line (inside (component_event (marked_as (kind_of b) c)))) o₀ at o r
  kind_line k e p = rw e p

pub marked_ingredient : (c : Component) → marked_as ingredient c ≡ ingredient_event (mark_ref c) None
unfolding marked_as
marked_ingredient c = refl

pub marked_cookware : (c : Component) → marked_as cookware c ≡ cookware_event (mark_ref c)
unfolding marked_as
marked_cookware c = refl
