-- What a line adds to a part of the page.
use Prim.Native.Nat.{ℕ}
use mathlib.Core.Path.{◌≡◌, refl, sym, ap, ◌∙◌}
use mathlib.Core.List.{List}
use lib.ListN.{length}
use Rattle.rules.specs.Units.{NamedUnit}
use Rattle.output.specs.Put.{Put}
use Rattle.events.specs.Views.{event_in}
use Rattle.events.specs.declared.EventView.{EventView}
use Rattle.step_lines.specs.declared.TextItems.{TextItems}
use Rattle.following.specs.Drawn.{quantities_added, added}
use Rattle.following.specs.declared.Follow.{Follow}
use Rattle.following.specs.declared.Part.{Part}
use Rattle.following.specs.declared.Part.TheVariants.{Sections, Timers, Inline, Old}
use Rattle.page_parts.specs.Sections.{SectionsDrawn}
use Rattle.page_parts.specs.Drawing.{tracked, TimersDrawn, InlineDrawn, OldDrawn, LineDrawn}
use Rattle.page_parts.proofs.Arms.{put_arm}

module _ {text : List ℕ} {units : List NamedUnit} {flags : ℕ} {p : Part} {line : List ℕ} {e : EventView} {f : Follow} {o₀ o : List ℕ} where
  -- the part y
  line_as : (y : Part) {r : TextItems} → p ≡ y → Put (added text units flags y (event_in line e) f) o₀ 0 o r.count
      → r.inline ≡ tracked y (length (quantities_added units flags (event_in line e) f)) → LineDrawn text units flags p line e f o₀ o r
  line_as y q w l =
      record {
        put = put_arm (λ (x : Part). added text units flags x (event_in line e) f) y q w;
        inline = l ∙ ap (λ (x : Part). tracked x (length (quantities_added units flags (event_in line e) f))) (sym q);
      }

  pub line_sections : {r : TextItems} → p ≡ Sections → SectionsDrawn text units flags line e f o₀ o r → LineDrawn text units flags p line e f o₀ o r
  unfolding added tracked
  line_sections q d = line_as Sections q d.put d.inline

  pub line_timers : {n : ℕ} → p ≡ Timers → TimersDrawn line e f o₀ o n → LineDrawn text units flags p line e f o₀ o (record { count = n; inline = 0 })
  unfolding added tracked
  line_timers q d = line_as Timers q d.put refl

  pub line_inline : {r : TextItems} → p ≡ Inline → InlineDrawn units flags line e f o₀ o r → LineDrawn text units flags p line e f o₀ o r
  unfolding added tracked
  line_inline q d = line_as Inline q d.put d.inline

  pub line_old : {n : ℕ} → p ≡ Old → OldDrawn flags line e f o₀ o n → LineDrawn text units flags p line e f o₀ o (record { count = n; inline = 0 })
  unfolding added tracked
  line_old q d = line_as Old q d.put refl
