-- The recipe page, line by line (document 01, "The recipe page").
use Rattle.std.specs.Prelude.{ℕ, List, [], ◌∷◌, ◌++◌, reverse, length, Option, None, Some}
use Rattle.rules.specs.Basic.{pick, codes, comma, minus, slash, decimal, join_by, each, on_some, concat}
use Rattle.rules.specs.Utf8.{encode}
use Rattle.rules.specs.Sheet.{line_of}
use Rattle.rules.specs.Words.{Severity, severe, mild}
use Rattle.rules.specs.Event.{Span}
use Rattle.rules.specs.Read.{Fields}
use Rattle.rules.specs.Write.{kind_field, modifiers_field}
use Rattle.rules.specs.Finding.{Finding, diag, parsed, is_error}
use Rattle.rules.specs.Model.{Amount, Target, to_ingredient, to_cookware, to_step, to_section, Relation, definition, reference, Entry, Timer, InlineQuantity, Item, text_item, ingredient_item, cookware_item, timer_item, inline_item, Block, step_block, text_block, Section, MetaEntry}
use Rattle.rules.specs.State.{State}

-- the lines of a table that has the newest first, oldest first, before the lines `rest`;
-- an entry's index is the length of what stands after it
module _ {A : Type 0} (line : ℕ → A → List ℕ) where
  unfoldable pub lines_onto : List A → List ℕ → List ℕ
  lines_onto [] rest = rest
  lines_onto (a ∷ before) rest = lines_onto before (line (length before) a ++ rest)

  unfoldable pub table_lines : List A → List ℕ
  table_lines table = lines_onto table []

-- ---- fields

-- "Optional strings are `-` or `=` and the string."
unfoldable pub optional : Option (List ℕ) → List ℕ
optional None = codes "-"
optional (Some s) = 61 ∷ encode s

-- "Quantity: `-`, or kind, value, unit, `s` or `f` (scalable or fixed)."
unfoldable pub amount_fields : Option Amount → Fields
amount_fields None = codes "-" ∷ []
amount_fields (Some a) = kind_field a.kind ∷ encode a.value ∷ optional a.unit ∷ pick a.scalable (codes "s") (codes "f") ∷ []

-- "Relation: `def`, `step` or `list` (defined in components mode), referring indices by comma or `-`; or `ref`, target, index."
unfoldable pub or_minus : List ℕ → List ℕ
or_minus [] = codes "-"
or_minus (c ∷ s) = c ∷ s

unfoldable pub target_word : Target → List ℕ
target_word to_ingredient = codes "ingredient"
target_word to_cookware = codes "cookware"
target_word to_step = codes "step"
target_word to_section = codes "section"

unfoldable pub relation_fields : Relation → Fields
relation_fields (definition in_step by) =
    codes "def" ∷ pick in_step (codes "step") (codes "list") ∷ or_minus (join_by comma (each decimal (reverse by))) ∷ []
relation_fields (reference t i) = codes "ref" ∷ target_word t ∷ decimal i ∷ []

-- ---- the lines, in the page's order

unfoldable pub meta_line : ℕ → MetaEntry → List ℕ
meta_line i m = line_of (codes "meta" ∷ encode m.key ∷ encode m.value ∷ [])

unfoldable pub item_fields : Item → Fields
item_fields (text_item t) = codes "text" ∷ encode t ∷ []
item_fields (ingredient_item i) = codes "ingredient" ∷ decimal i ∷ []
item_fields (cookware_item i) = codes "cookware" ∷ decimal i ∷ []
item_fields (timer_item i) = codes "timer" ∷ decimal i ∷ []
item_fields (inline_item i) = codes "inline" ∷ decimal i ∷ []

unfoldable pub item_line : ℕ → Item → List ℕ
item_line k i = line_of (codes "item" ∷ item_fields i)

unfoldable pub block_lines : ℕ → Block → List ℕ
block_lines k (step_block n is) = line_of (codes "step" ∷ decimal n ∷ []) ++ table_lines item_line is
block_lines k (text_block t) = line_of (codes "text" ∷ encode t ∷ [])

unfoldable pub section_lines : ℕ → Section → List ℕ
section_lines k s = line_of (codes "section" ∷ optional s.name ∷ []) ++ table_lines block_lines s.content

unfoldable pub ingredient_line : ℕ → Entry → List ℕ
ingredient_line i e =
    line_of
    ((codes "ingredient" ∷ decimal i ∷ encode e.name ∷ optional e.alias ∷ []) ++ amount_fields e.quantity
    ++ (optional e.note ∷ optional (on_some (join_by slash) e.path) ∷ modifiers_field e.modifiers ∷ [])
    ++ relation_fields e.relation)

-- "`cookware` the same without path"
unfoldable pub cookware_line : ℕ → Entry → List ℕ
cookware_line i e =
    line_of
    ((codes "cookware" ∷ decimal i ∷ encode e.name ∷ optional e.alias ∷ []) ++ amount_fields e.quantity
    ++ (optional e.note ∷ modifiers_field e.modifiers ∷ []) ++ relation_fields e.relation)

unfoldable pub timer_line : ℕ → Timer → List ℕ
timer_line i t = line_of ((codes "timer" ∷ decimal i ∷ optional t.name ∷ []) ++ amount_fields t.quantity)

-- "`inline` index, number as written with its sign, unit"
unfoldable pub inline_line : ℕ → InlineQuantity → List ℕ
inline_line i q = line_of (codes "inline" ∷ decimal i ∷ encode q.number ∷ optional (Some q.unit) ∷ [])

-- "`diag`, `E` or `W`, code, spans as `3-14` by comma, `i` if implicit else `-`; or `parse`, `E` or `W`, number"
unfoldable pub span_word : Span → List ℕ
span_word s = decimal s.start ++ (minus ∷ decimal s.end)

unfoldable pub severity_word : Severity → List ℕ
severity_word severe = codes "E"
severity_word mild = codes "W"

unfoldable pub finding_line : ℕ → Finding → List ℕ
finding_line k (diag code spans implicit) =
    line_of
    (codes "diag" ∷ pick (is_error code) (codes "E") (codes "W") ∷ decimal code ∷ join_by comma (each span_word spans)
    ∷ pick implicit (codes "i") (codes "-") ∷ [])
finding_line k (parsed s n) = line_of (codes "parse" ∷ severity_word s ∷ decimal n ∷ [])

-- ---- the page

-- all above the findings
unfoldable pub recipe_part : State → List ℕ
recipe_part st =
    concat
    (line_of (codes "recipe" ∷ codes "yes" ∷ []) ∷ table_lines meta_line st.metadata.map ∷ table_lines section_lines st.kept.sections
    ∷ table_lines ingredient_line st.tables.ingredients ∷ table_lines cookware_line st.tables.cookware
    ∷ table_lines timer_line st.tables.timers ∷ table_lines inline_line st.tables.inline ∷ [])

unfoldable pub recipe_page : State → List ℕ
recipe_page st = recipe_part st ++ table_lines finding_line st.findings

-- "with `no` only `parse` lines follow"
unfoldable pub failed_page : List Finding → List ℕ
failed_page fs = line_of (codes "recipe" ∷ codes "no" ∷ []) ++ table_lines finding_line fs
