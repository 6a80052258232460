-- The lines as their writers write them, piece by piece.
use Prim.Native.Nat.{ℕ, suc}
use mathlib.Core.Path.{◌≡◌, refl, sym, ap, ◌∙◌}
use mathlib.Core.List.{List, [], ◌∷◌, ◌++◌, reverse, reverse_aux, reverse-cons, append_assoc, append-nil}
use Rattle.std.specs.Prelude.{Option, None, Some}
use mathlib.Core.Bool.{false}
use lib.ListN.{length}
use Rattle.rules.specs.Basic.{codes, tab, lf, minus, decimal, concat, join_by, each, on_some}
use Rattle.rules.specs.Utf8.{encode}
use Rattle.rules.specs.Sheet.{escape_char, escape, line_of}
use Rattle.rules.specs.Event as rules
use Rattle.rules.specs.Components.{timer_of}
use Rattle.rules.specs.Inline.{Piece}
use Rattle.rules.specs.Pass.{items_of, quantities_of}
use Rattle.rules.specs.Model.{Item, InlineQuantity, text_item, text_block, step_block, Section, trimmed_text, amount_of}
use Rattle.rules.specs.Page.{table_lines, optional, amount_fields, item_fields, item_line, timer_line, inline_line, block_lines, section_lines}
use Rattle.output.specs.Put.{Put, tabbed}
use Rattle.output.proofs.Puts.{put_seq}
use Rattle.output.proofs.Texts.{text_is, line_tabbed, tabbed_one, put_fields, put_line}
use Rattle.content.specs.Contents.{content_in, spell}
use Rattle.content.specs.Parts.{Field}
use Rattle.content.proofs.Spells.{spell_append, field_spell}
use Rattle.page_fields.proofs.Tables.{lines_more}
use Rattle.step_lines.specs.declared.ItemKind.{ItemKind}
use Rattle.step_lines.specs.declared.ItemKind.TheVariants.{Ingredient, Cookware, Timer, Inline}
use Rattle.step_lines.specs.Lines.{lines_from, item_as, kind_word, quantity_as, item_text, inline_text}

-- ---- tables

module _ {A : Type 0} (line : ℕ → A → List ℕ) where
  -- some more, in order
  pub table_more : (new table : List A) → table_lines line (reverse_aux new table) ≡ table_lines line table ++ lines_from line (length table) new
  unfolding lines_from
  table_more [] table = sym (append-nil (table_lines line table))
  table_more (a ∷ new) table =
      table_more new (a ∷ table)
      ∙ (ap (λ (l : List ℕ). l ++ lines_from line (suc (length table)) new) (lines_more line a table)
      ∙ append_assoc (table_lines line table) (line (length table) a) (lines_from line (suc (length table)) new))

-- ---- items

-- an item's place among the items is not in its line
pub any_item : (k : ℕ) (i : Item) → item_line k i ≡ item_line 0 i
unfolding item_line
any_item k i = refl

pub any_items : (k m : ℕ) (is : List Item) → lines_from item_line k is ≡ lines_from item_line m is
unfolding lines_from
any_items k m [] = refl
any_items k m (i ∷ is) = rw (any_item k i, any_item m i, any_items (suc k) (suc m) is)

-- the items of a step, some more of them, or one
pub items_more : (new is : List Item) → table_lines item_line (reverse_aux new is) ≡ table_lines item_line is ++ lines_from item_line 0 new
items_more new is = table_more item_line new is ∙ ap (λ (l : List ℕ). table_lines item_line is ++ l) (any_items (length is) 0 new)

pub item_more : (i : Item) (is : List Item) → table_lines item_line (i ∷ is) ≡ table_lines item_line is ++ item_line 0 i
item_more i is = lines_more item_line i is ∙ ap (λ (l : List ℕ). table_lines item_line is ++ l) (any_item (length is) i)

-- the items of some pieces of text, and their quantities, after those that were there
pub text_items_more : (n : ℕ) (ps : List Piece) (is : List Item) → table_lines item_line (reverse_aux (items_of n ps) is) ≡ table_lines item_line is ++ item_text n ps
unfolding item_text
text_items_more n ps is = items_more (items_of n ps) is

pub quantities_more : (ps : List Piece) (table : List InlineQuantity) → table_lines inline_line (reverse_aux (quantities_of ps) table) ≡ table_lines inline_line table ++ inline_text (length table) ps
unfolding inline_text
quantities_more ps table = table_more inline_line (quantities_of ps) table

kind_bytes : (k : ItemKind) → tabbed (kind_word k ∷ []) ≡ tab ∷ kind_word k
unfolding tabbed kind_word escape escape_char
kind_bytes Ingredient = refl
kind_bytes Cookware = refl
kind_bytes Timer = refl
kind_bytes Inline = refl

pub kind_put : {kind : ItemKind} (k : ItemKind) {w o₀ o : List ℕ} {at r : ℕ} → kind ≡ k → w ≡ tab ∷ kind_word k → Put w o₀ at o r → Put (tabbed (kind_word kind ∷ [])) o₀ at o r
kind_put {kind} k {w} e f p = text_is _ (ap (λ (x : ItemKind). tabbed (kind_word x ∷ [])) e ∙ (kind_bytes k ∙ sym f)) p

kind_fields_lem : (k : ItemKind) (i : ℕ) → item_fields (item_as k i) ≡ kind_word k ∷ decimal i ∷ []
unfolding item_fields item_as kind_word
kind_fields_lem Ingredient i = refl
kind_fields_lem Cookware i = refl
kind_fields_lem Timer i = refl
kind_fields_lem Inline i = refl

pub item_put : (kind : ItemKind) (i : ℕ) {o₀ o₁ o₂ o₃ o₄ : List ℕ} {at m n k r : ℕ} (j : ℕ) → Put (codes "item") o₀ at o₁ m → Put (tabbed (kind_word kind ∷ [])) o₁ m o₂ n → Put (tabbed (decimal i ∷ [])) o₂ n o₃ k → Put (lf ∷ []) o₃ k o₄ r → Put (item_line j (item_as kind i)) o₀ at o₄ r
unfolding item_line escape escape_char
item_put kind i j p q s e = rw (kind_fields_lem kind i) (put_line (codes "item") (kind_word kind ∷ decimal i ∷ []) p (put_fields (kind_word kind ∷ []) (decimal i ∷ []) q s) e)

-- a further field that is spelled
tabbed_field : {f : List ℕ} → Field f → tabbed (encode (content_in f) ∷ []) ≡ (tab ∷ []) ++ f
tabbed_field {f} h = tabbed_one (encode (content_in f)) ∙ ap (λ (l : List ℕ). (tab ∷ []) ++ l) (field_spell h)

text_line : {f : List ℕ} (j : ℕ) → Field f → item_line j (text_item (content_in f)) ≡ (codes "item" ++ (tab ∷ codes "text") ++ (tab ∷ [])) ++ f ++ (lf ∷ [])
unfolding item_line item_fields escape escape_char tabbed
text_line {f} j h =
    line_tabbed (codes "item") (codes "text" ∷ encode (content_in f) ∷ [])
    ∙ rw (append-nil (spell (content_in f)), field_spell h)

pub text_item_put : {f o₀ o₁ o₂ o₃ : List ℕ} {at m n r : ℕ} → Field f → Put (codes "item" ++ (tab ∷ codes "text") ++ (tab ∷ [])) o₀ at o₁ m → Put f o₁ m o₂ n → Put (lf ∷ []) o₂ n o₃ r → Put (item_line 0 (text_item (content_in f))) o₀ at o₃ r
text_item_put {f} h p q e = text_is _ (text_line 0 h) (put_seq (put_seq p q) e)

-- ---- inline quantities

unit_bytes : {u : List ℕ} → Field u → tabbed (optional (Some (content_in u)) ∷ []) ≡ (tab ∷ 61 ∷ []) ++ u
unfolding optional escape escape_char
unit_bytes {u} h = tabbed_one (61 ∷ encode (content_in u)) ∙ ap (λ (l : List ℕ). tab ∷ 61 ∷ l) (field_spell h)

module _ {a u : List ℕ} {o₀ o₁ o₂ o₃ o₄ o₅ o₆ o₇ : List ℕ} {at m₁ m₂ m₃ m₄ m₅ m₆ r : ℕ} where
  pub inline_put : (i : ℕ) → Field a → Field u → Put (codes "inline") o₀ at o₁ m₁ → Put (tabbed (decimal i ∷ [])) o₁ m₁ o₂ m₂ → Put (tab ∷ []) o₂ m₂ o₃ m₃ → Put a o₃ m₃ o₄ m₄ → Put (tab ∷ 61 ∷ []) o₄ m₄ o₅ m₅ → Put u o₅ m₅ o₆ m₆ → Put (lf ∷ []) o₆ m₆ o₇ r → Put (inline_line i (quantity_as a u)) o₀ at o₇ r
  unfolding inline_line quantity_as escape escape_char
  inline_put i h g p₁ p₂ p₃ p₄ p₅ p₆ p₇ =
      let q : Put (tabbed (encode (content_in a) ∷ [])) o₂ m₂ o₄ m₄ = text_is _ (tabbed_field h) (put_seq p₃ p₄) in
      let s : Put (tabbed (optional (Some (content_in u)) ∷ [])) o₄ m₄ o₆ m₆ = text_is _ (unit_bytes g) (put_seq p₅ p₆) in
      put_line (codes "inline") (decimal i ∷ encode (content_in a) ∷ optional (Some (content_in u)) ∷ []) p₁
      (put_fields (decimal i ∷ []) (encode (content_in a) ∷ optional (Some (content_in u)) ∷ []) p₂ (put_fields (encode (content_in a) ∷ []) (optional (Some (content_in u)) ∷ []) q s))
      p₇

-- ---- timers

module _ {o₀ o₁ o₂ o₃ o₄ o₅ : List ℕ} {at m₁ m₂ m₃ m₄ r : ℕ} where
  pub timer_put : (i : ℕ) (name : Option rules.Text) (q : Option rules.Quantity) → Put (codes "timer") o₀ at o₁ m₁ → Put (tabbed (decimal i ∷ [])) o₁ m₁ o₂ m₂ → Put (tabbed (optional (on_some trimmed_text name) ∷ [])) o₂ m₂ o₃ m₃ → Put (tabbed (amount_fields (on_some (amount_of false) q))) o₃ m₃ o₄ m₄ → Put (lf ∷ []) o₄ m₄ o₅ r → Put (timer_line i (timer_of name q)) o₀ at o₅ r
  unfolding timer_line timer_of escape escape_char
  timer_put i name q p₁ p₂ p₃ p₄ p₅ =
      let n : List ℕ = optional (on_some trimmed_text name) in
      let a : List (List ℕ) = amount_fields (on_some (amount_of false) q) in
      put_line (codes "timer") (decimal i ∷ n ∷ a) p₁ (put_fields (decimal i ∷ []) (n ∷ a) p₂ (put_fields (n ∷ []) a p₃ p₄)) p₅

-- ---- sections and blocks

pub section_put : (f : List ℕ) {o₀ o₁ o₂ o₃ : List ℕ} {at m k r : ℕ} → Put (codes "section") o₀ at o₁ m → Put (tabbed (f ∷ [])) o₁ m o₂ k → Put (lf ∷ []) o₂ k o₃ r → Put (line_of (codes "section" ∷ f ∷ [])) o₀ at o₃ r
unfolding escape escape_char
section_put f p q e = put_line (codes "section") (f ∷ []) p q e

pub unnamed_put : {o₀ o : List ℕ} {at r : ℕ} → Put (codes "section" ++ (tab ∷ minus ∷ lf ∷ [])) o₀ at o r → Put (line_of (codes "section" ∷ optional None ∷ [])) o₀ at o r
unfolding optional line_of join_by each escape escape_char
unnamed_put p = p

pub section_is : (k : ℕ) (s : Section) → section_lines k s ≡ line_of (codes "section" ∷ optional s.name ∷ []) ++ table_lines block_lines s.content
unfolding section_lines
section_is k s = refl

pub step_put : (n : ℕ) {o₀ o₁ o₂ o₃ : List ℕ} {at m k r : ℕ} → Put (codes "step") o₀ at o₁ m → Put (tabbed (decimal n ∷ [])) o₁ m o₂ k → Put (lf ∷ []) o₂ k o₃ r → Put (line_of (codes "step" ∷ decimal n ∷ [])) o₀ at o₃ r
unfolding escape escape_char
step_put n p q e = put_line (codes "step") (decimal n ∷ []) p q e

pub step_block_lem : (k n : ℕ) (is : List Item) → block_lines k (step_block n is) ≡ line_of (codes "step" ∷ decimal n ∷ []) ++ table_lines item_line is
unfolding block_lines
step_block_lem k n is = refl

-- a text of pieces, the newest first, with one more
concat_last : (ts : List (List ℕ)) (t : List ℕ) → concat (ts ++ (t ∷ [])) ≡ concat ts ++ t
unfolding concat
concat_last [] t = append-nil t
concat_last (s ∷ ts) t = rw (concat_last ts t, append_assoc)

pub pieces_more : (t : List ℕ) (ts : List (List ℕ)) → spell (concat (reverse (t ∷ ts))) ≡ spell (concat (reverse ts)) ++ spell t
pieces_more t ts = ap spell (ap concat (reverse-cons t ts) ∙ concat_last (reverse ts) t) ∙ spell_append (concat (reverse ts)) t

pub pieces_none : spell (concat (reverse [])) ≡ []
unfolding concat encode escape
pieces_none = refl

-- the line of a text
pub text_block_lem : (k : ℕ) (t : List ℕ) → block_lines k (text_block t) ≡ (codes "text" ++ (tab ∷ [])) ++ spell t ++ (lf ∷ [])
unfolding block_lines escape escape_char tabbed
text_block_lem k t = line_tabbed (codes "text") (encode t ∷ []) ∙ rw (append-nil (spell t))

pub text_put : (t : List ℕ) {o₀ o₁ o₂ o₃ : List ℕ} {at m n r : ℕ} (k : ℕ) → Put (codes "text" ++ (tab ∷ [])) o₀ at o₁ m → Put (spell t) o₁ m o₂ n → Put (lf ∷ []) o₂ n o₃ r → Put (block_lines k (text_block t)) o₀ at o₃ r
text_put t k p q e = text_is _ (text_block_lem k t) (put_seq (put_seq p q) e)
