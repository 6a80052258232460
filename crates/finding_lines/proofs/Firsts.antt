-- The first two bytes of a line tell the kind of its event.
use Prim.Native.Nat.{ℕ}
use mathlib.Core.Path.{◌≡◌, refl, subst}
use mathlib.Core.List.{List, [], ◌∷◌, ◌++◌}
use Rattle.std.specs.Prelude.{Some}
use Rattle.rules.specs.Basic.{tab, lf, each, join_by}
use Rattle.rules.specs.Sheet.{escape, escape_char, Without}
use Rattle.rules.specs.Words.{severe, mild}
use Rattle.rules.specs.Event.{Event, meta_event, section_event, start_event, end_event, text_event, component_event, ingredient_event, cookware_event, timer_event, between, inside, parser_event}
use Rattle.rules.specs.Read.{parse_line}
use Rattle.rules.specs.Write.{event_fields, component_fields}
use Rattle.rules.proofs.Parsed.{line_text, line_text_lem}

-- the first byte of an event's word, and the second
unfoldable pub first_byte : Event → ℕ
first_byte (between (meta_event k v)) = 109
first_byte (between (section_event n)) = 115
first_byte (between (start_event k)) = 115
first_byte (inside (end_event k)) = 101
first_byte (inside (text_event t)) = 116
first_byte (inside (component_event (ingredient_event c i))) = 105
first_byte (inside (component_event (cookware_event c))) = 99
first_byte (inside (component_event (timer_event s n q))) = 116
first_byte (parser_event severe n) = 101
first_byte (parser_event mild n) = 119

unfoldable pub second_byte : Event → ℕ
second_byte (between (meta_event k v)) = 101
second_byte (between (section_event n)) = 101
second_byte (between (start_event k)) = 116
second_byte (inside (end_event k)) = 110
second_byte (inside (text_event t)) = 101
second_byte (inside (component_event (ingredient_event c i))) = 110
second_byte (inside (component_event (cookware_event c))) = 111
second_byte (inside (component_event (timer_event s n q))) = 105
second_byte (parser_event severe n) = 114
second_byte (parser_event mild n) = 97

-- a line that begins with the bytes a and b
pub record Begins (line : List ℕ) (a b : ℕ) : Type 0 where
  pub rest : List ℕ
  pub is : line ≡ a ∷ b ∷ rest

joined : (a b : ℕ) (w : List ℕ) (fs : List (List ℕ)) → Begins (join_by tab ((a ∷ b ∷ w) ∷ fs)) a b
unfolding join_by
joined a b w [] = record { rest = w; is = refl }
joined a b w (f ∷ fs) = record { rest = w ++ (tab ∷ join_by tab (f ∷ fs)); is = refl }

begins_text : (e : Event) → Begins (line_text e) (first_byte e) (second_byte e)
unfolding event_fields component_fields each escape escape_char first_byte second_byte
begins_text (between (meta_event k v)) = joined 109 101 _ _
begins_text (between (section_event n)) = joined 115 101 _ _
begins_text (between (start_event k)) = joined 115 116 _ _
begins_text (inside (end_event k)) = joined 101 110 _ _
begins_text (inside (text_event t)) = joined 116 101 _ _
begins_text (inside (component_event (ingredient_event c i))) = joined 105 110 _ _
begins_text (inside (component_event (cookware_event c))) = joined 99 111 _ _
begins_text (inside (component_event (timer_event s n q))) = joined 116 105 _ _
begins_text (parser_event severe n) = joined 101 114 _ _
begins_text (parser_event mild n) = joined 119 97 _ _

-- the bytes that a well-formed line begins with
pub line_begins : {line : List ℕ} {e : Event} → Without lf line → parse_line line ≡ Some e → Begins line (first_byte e) (second_byte e)
line_begins {line} {e} n q = subst (λ (l : List ℕ). Begins l (first_byte e) (second_byte e)) (line_text_lem line e n q) (begins_text e)
