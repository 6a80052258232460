-- The lines of the page that the texts, items and quantities of steps are written as.
use Rattle.std.specs.Prelude.{ℕ, suc, ◌≡◌, List, [], ◌∷◌, ◌++◌, length}
use Rattle.rules.specs.Basic.{codes}
use Rattle.rules.specs.Inline.{Piece, text_if_any}
use Rattle.rules.specs.Model.{InlineQuantity, Item, ingredient_item, cookware_item, timer_item, inline_item}
use Rattle.rules.specs.Pass.{items_of, quantities_of}
use Rattle.rules.specs.Page.{item_line, inline_line}
use Rattle.output.specs.Put.{Put}
use Rattle.content.specs.Contents.{content_in}
use Rattle.step_lines.specs.declared.ItemKind.{ItemKind}
use Rattle.step_lines.specs.declared.ItemKind.TheVariants.{Ingredient, Cookware, Timer, Inline}
use Rattle.step_lines.specs.declared.TextItems.{TextItems}

-- the lines of some entries, in order, where the first has the index i
module _ {A : Type 0} (line : ℕ → A → List ℕ) where
  unfoldable pub lines_from : ℕ → List A → List ℕ
  lines_from i [] = []
  lines_from i (a ∷ l) = line i a ++ lines_from (suc i) l

-- an item that is no text, and its word
unfoldable pub item_as : ItemKind → ℕ → Item
item_as Ingredient i = ingredient_item i
item_as Cookware i = cookware_item i
item_as Timer i = timer_item i
item_as Inline i = inline_item i

unfoldable pub kind_word : ItemKind → List ℕ
kind_word Ingredient = codes "ingredient"
kind_word Cookware = codes "cookware"
kind_word Timer = codes "timer"
kind_word Inline = codes "inline"

-- the line of an item at the front of a buffer that held o₀, or it does not fit; its place among the items is not in it
pub record PutItem (i : Item) (o₀ o : List ℕ) (r : ℕ) : Type 0 where
  pub line : (k : ℕ) → Put (item_line k i) o₀ 0 o r

-- a quantity whose number and unit are the contents of fields
unfoldable pub quantity_as : List ℕ → List ℕ → InlineQuantity
quantity_as number unit = record { number = content_in number; unit = content_in unit }

-- the items of some pieces of text, where n inline quantities came before; and the quantities
unfoldable pub item_text : ℕ → List Piece → List ℕ
item_text n ps = lines_from item_line 0 (items_of n ps)

unfoldable pub inline_text : ℕ → List Piece → List ℕ
inline_text n ps = lines_from inline_line n (quantities_of ps)

-- the text of a field as an item, or none
unfoldable pub text_text : List ℕ → List ℕ
text_text f = item_text 0 (text_if_any (content_in f))

-- r: the lines of some pieces are at the front of a buffer that held o₀, or do not fit; and how many quantities the pieces have
pub record TextLines (text : ℕ → List Piece → List ℕ) (ps : List Piece) (first : ℕ) (o₀ o : List ℕ) (r : TextItems) : Type 0 where
  pub lines : Put (text first ps) o₀ 0 o r.count
  pub quantities : r.inline ≡ length (quantities_of ps)
