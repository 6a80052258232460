-- The text of a step, from quantity to quantity.
use Prim.Native.Nat.{ℕ, suc, ◌+◌, ◌-◌, ◌^◌, ◌≤◌, ◌<◌, ◌/◌, ◌%◌}
use mathlib.Core.Path.{◌≡◌, refl, sym, ap, ◌∙◌}
use mathlib.Core.List.{List, [], ◌∷◌, ◌++◌, append-nil, append_assoc}
use native.Mathlib.Nat.{add-zero}
use native.Mathlib.Omega.{arith}
use borrow.Author.Tests.{eq-eqb, ne_eqb}
use lib.ListN.{length, drop, length-take, length-drop}
use Rattle.rules.specs.Units.{NamedUnit}
use Rattle.rules.specs.Inline.{Piece, text_piece, quantity_piece, text_if_any, inline_pieces}
use Rattle.rules.specs.Model.{Item, text_item}
use Rattle.rules.specs.Modes.{has_inline}
use Rattle.rules.specs.Pass.{items_of, quantities_of, pieces}
use Rattle.rules.specs.Page.{item_line, inline_line}
use Rattle.rules.proofs.Basics.{by_order}
use Rattle.output.specs.Put.{Put}
use Rattle.output.proofs.Puts.{Leads, starts, turn, step, ends_in, ends_out, put_most, put_seq, keeps}
use Rattle.output.proofs.Texts.{text_is}
use Rattle.content.specs.Contents as content
use Rattle.content.specs.Parts.{Field}
use Rattle.content.proofs.Spells.{field_spell}
use Rattle.utf8.proofs.Firsts.{part_rest}
use Rattle.inline.specs.Scans.{part}
use Rattle.inline.specs.Found.{FoundAt}
use Rattle.inline.specs.declared.Inline.{Inline}
use Rattle.inline.proofs.Items.{Counting, counting_start, counting_end, counting_more, text_piece_lem, text_none, text_quantities}
use Rattle.parts.specs.Views as views
use Rattle.parts.specs.declared.Part.{Part}
use Rattle.parts.specs.declared.TextView.{TextView}
use Rattle.known_events.specs.Fields.{TextField}
use Rattle.page_fields.proofs.Contents.{part_content}
use Rattle.step_lines.specs.declared.ItemKind.TheVariants as kind
use Rattle.step_lines.specs.declared.TextItems.{TextItems}
use Rattle.step_lines.specs.Lines.{lines_from, item_as, quantity_as, item_text, inline_text, text_text, TextLines}
use Rattle.step_lines.proofs.Lines.{any_items}

-- ---- the lines of pieces

lines_append : (xs ys : List Item) → lines_from item_line 0 (xs ++ ys) ≡ lines_from item_line 0 xs ++ lines_from item_line 0 ys
unfolding lines_from
lines_append [] ys = refl
lines_append (x ∷ xs) ys =
    rw (any_items 1 0 (xs ++ ys), any_items 1 0 xs, lines_append xs ys, append_assoc)

text_items_lem : (n : ℕ) (x : List ℕ) (ps : List Piece) → items_of n (text_if_any x ++ ps) ≡ items_of 0 (text_if_any x) ++ items_of n ps
unfolding text_if_any items_of
text_items_lem n [] ps = refl
text_items_lem n (c ∷ x) ps = refl

-- a text, a quantity, and what follows
items_split : (n : ℕ) (f a u : List ℕ) (ps : List Piece) → item_text n (text_if_any (content.content_in f) ++ (quantity_piece a u ∷ ps)) ≡ (text_text f ++ item_line 0 (item_as kind.Inline n)) ++ item_text (suc n) ps
unfolding item_text text_text item_as
items_split n f a u ps =
    ap (lines_from item_line 0) (text_items_lem n (content.content_in f) (quantity_piece a u ∷ ps))
    ∙ (lines_append (items_of 0 (text_if_any (content.content_in f))) (items_of n (quantity_piece a u ∷ ps))
    ∙ (unfold items_of lines_from in rw (any_items 1 0 (items_of (suc n) ps), append_assoc)))

inline_split : (n : ℕ) (x a u : List ℕ) (ps : List Piece) → inline_text n (text_if_any x ++ (quantity_piece (content.content_in a) (content.content_in u) ∷ ps)) ≡ inline_line n (quantity_as a u) ++ inline_text (suc n) ps
unfolding inline_text quantity_as
inline_split n x a u ps = ap (lines_from inline_line n) (text_quantities x _) ∙ unfold quantities_of lines_from in refl

-- ---- a text that is not empty, or is

pub text_some : (f : List ℕ) {o₀ o : List ℕ} {at r : ℕ} → (length f ≡ 0 → ⊥) → Put (item_line 0 (text_item (content.content_in f))) o₀ at o r → Put (text_text f) o₀ at o r
unfolding text_text item_text
text_some f h p = text_is _ (rw (text_piece_lem f (omega arith)) (unfold items_of lines_from in (append-nil (item_line 0 (text_item (content.content_in f)))))) p

empty : (f : List ℕ) → length f ≡ 0 → f ≡ []
empty [] h = refl
empty (x ∷ f) h = absurd (omega arith)

pub text_empty : {f o₀ o : List ℕ} {at r : ℕ} → length f ≡ 0 → Put f o₀ at o r → Put (text_text f) o₀ at o r
unfolding text_text item_text
text_empty {f} h p = text_is _ (rw (text_none f (omega arith)) (unfold items_of lines_from in (sym (empty f h)))) p

-- ---- the walk

-- up to place `at` of the text s and position n of the output, k quantities were found and their lines written
pub record Splitting (text : ℕ → List Piece → List ℕ) (us : List NamedUnit) (s : List ℕ) (first : ℕ) (o₀ o : List ℕ) (at n k : ℕ) : Type 0 where
  pub leads : Leads (text first (inline_pieces us (content.content_in s))) o₀ 0 (text (first + k) (inline_pieces us (content.content_in (drop at s)))) o n
  pub most : n ≤ length o + 1
  pub items : ℕ
  pub counting : Counting us s at items k

pub split_start : {text : ℕ → List Piece → List ℕ} {us : List NamedUnit} {s o₀ : List ℕ} {first : ℕ} → Field s → Splitting text us s first o₀ o₀ 0 0 0
split_start {text} {us} {s} {first = first} h =
    record { leads = turn (rw (add-zero first)) starts; most = omega arith; items = 0; counting = counting_start us s h }

module _ {text : ℕ → List Piece → List ℕ} {us : List NamedUnit} {s : List ℕ} {first : ℕ} {o₀ o : List ℕ} {at n k : ℕ} {f : Inline} (i : Splitting text us s first o₀ o at n k) (q : FoundAt us s at f) where
  more : {o' : List ℕ} {n' : ℕ} (w : List ℕ)
      → text (first + k) (text_if_any (content.content_in (part at f.number_from s)) ++ (quantity_piece (content.content_in (part f.number_from f.number_to s)) (content.content_in (part f.unit_from f.unit_to s)) ∷ inline_pieces us (content.content_in (drop f.after s)))) ≡ w ++ text (suc (first + k)) (inline_pieces us (content.content_in (drop f.after s)))
      → Put w o n o' n' → Splitting text us s first o₀ o' f.after n' (k + 1)
  more {o' = o'} w z p =
      let l : first + (k + 1) ≡ suc (first + k) = omega arith in
      record {
        leads = step _ (turn (ap (text (first + k)) q.is ∙ (z ∙ rw l)) i.leads) p;
        most = omega (arith, put_most p, keeps p);
        items = _;
        counting = counting_more i.counting q refl;
      }

pub ends_most : {w o₀ o : List ℕ} {at n : ℕ} → Leads w o₀ at [] o n → n ≤ length o + 1 → Put w o₀ at o n
ends_most {o = o} {n = n} i h = by_order n (length o) (ends_in i) (λ l. let e : n ≡ length o + 1 = omega arith in rw e (ends_out i l))

-- a text alone
last_text : (n : ℕ) (f : List ℕ) → item_text n (text_if_any (content.content_in f)) ≡ text_text f ++ []
unfolding item_text text_text
last_text n f = rw append-nil (ap (lines_from item_line 0) (same (content.content_in f)))
  where
    same : (x : List ℕ) → items_of n (text_if_any x) ≡ items_of 0 (text_if_any x)
    same [] = unfold text_if_any items_of in refl
    same (c ∷ x) = unfold text_if_any items_of in refl

last_quantities : (n : ℕ) (x : List ℕ) → inline_text n (text_if_any x) ≡ []
unfolding inline_text
last_quantities n [] = unfold text_if_any quantities_of lines_from in refl
last_quantities n (c ∷ x) = unfold text_if_any quantities_of lines_from in refl

module _ {us : List NamedUnit} {s : List ℕ} {first : ℕ} {o₀ o : List ℕ} {at n k : ℕ} where
  module _ {f : Inline} where
    pub items_next : {o₁ o₂ : List ℕ} {m n' : ℕ} → Splitting item_text us s first o₀ o at n k → FoundAt us s at f → Put (text_text (part at f.number_from s)) o n o₁ m → Put (item_line 0 (item_as kind.Inline (first + k))) o₁ m o₂ n' → Splitting item_text us s first o₀ o₂ f.after n' (k + 1)
    items_next i q p r = more i q _ (items_split (first + k) (part at f.number_from s) _ _ _) (put_seq p r)

    pub quantities_next : {o' : List ℕ} {n' : ℕ} → Splitting inline_text us s first o₀ o at n k → FoundAt us s at f → Put (inline_line (first + k) (quantity_as (part f.number_from f.number_to s) (part f.unit_from f.unit_to s))) o n o' n' → Splitting inline_text us s first o₀ o' f.after n' (k + 1)
    quantities_next i q p = more i q _ (inline_split (first + k) (content.content_in (part at f.number_from s)) (part f.number_from f.number_to s) (part f.unit_from f.unit_to s) _) p

  -- the rest has no quantity
  module _ (h : inline_pieces us (content.content_in (drop at s)) ≡ text_if_any (content.content_in (drop at s))) where
    pub items_end : {o' : List ℕ} {r : ℕ} → Splitting item_text us s first o₀ o at n k → Put (text_text (part at (length s) s)) o n o' r → TextLines item_text (inline_pieces us (content.content_in s)) first o₀ o' (record { count = r; inline = k })
    items_end {o' = o'} i p =
        record {
          lines = ends_most (step [] (turn (ap (item_text (first + k)) h ∙ (last_text (first + k) (drop at s) ∙ ap (λ (l : List ℕ). text_text l ++ []) (sym (part_rest s at)))) i.leads) p) (omega (arith, put_most p, keeps p));
          quantities = (counting_end i.counting h refl).quantities;
        }

    pub quantities_end : Splitting inline_text us s first o₀ o at n k → TextLines inline_text (inline_pieces us (content.content_in s)) first o₀ o (record { count = n; inline = k })
    quantities_end i =
        record {
          lines = ends_most (turn (ap (inline_text (first + k)) h ∙ last_quantities (first + k) (content.content_in (drop at s))) i.leads) i.most;
          quantities = (counting_end i.counting h refl).quantities;
        }

pub split_rest : {text : ℕ → List Piece → List ℕ} {us : List NamedUnit} {s : List ℕ} {first : ℕ} {o₀ o : List ℕ} {at n k : ℕ} → Splitting text us s first o₀ o at n k → Field (part at (length s) s)
split_rest {s = s} {at = at} i = rw (part_rest s at) i.counting.left

-- ---- the text of a view

-- the content of a whole field of a line
field_content : (line : List ℕ) (v : TextView) → TextField line v → content.content_in (views.part_of line v.content) ≡ (views.text_in line v).content
unfolding TextField views.text_in
field_content line v h = sym (part_content line v.content h)

pub part_length : (line : List ℕ) (p : Part) → length (views.part_of line p) ≤ length line
unfolding views.part_of
part_length line p =
    omega (arith, length-take (p.to - p.from) (drop p.from line), length-drop p.from line)

pub view_field : {f : List ℕ} (line : List ℕ) (v : TextView) → f ≡ views.part_of line v.content → TextField line v → Field f
unfolding TextField
view_field line v e h = rw e h

pub view_room : {f : List ℕ} (first : ℕ) (line : List ℕ) (p : Part) → f ≡ views.part_of line p → first + length line < 2 ^ 32 → first + length f < 2 ^ 32
view_room first line p e h = rw e (omega (arith, part_length line p))

-- ---- with flag 2, or without

is_content : {f : List ℕ} (line : List ℕ) (v : TextView) → f ≡ views.part_of line v.content → TextField line v → content.content_in f ≡ (views.text_in line v).content
is_content line v e h = ap content.content_in e ∙ field_content line v h

-- a text as it stands in its line
pub view_put : {f o₀ o : List ℕ} {at r : ℕ} (line : List ℕ) (v : TextView) → f ≡ views.part_of line v.content → TextField line v → Put f o₀ at o r → Put (content.spell (views.text_in line v).content) o₀ at o r
view_put line v e h p = text_is _ (ap content.spell (sym (is_content line v e h)) ∙ field_spell (view_field line v e h)) p

whole_text : (n : ℕ) (t : List ℕ) → item_text n (text_piece t ∷ []) ≡ item_line 0 (text_item t)
unfolding item_text items_of lines_from
whole_text n t = append-nil (item_line 0 (text_item t))

module _ (us : List NamedUnit) (flags : ℕ) (line : List ℕ) (v : TextView) {f : List ℕ} {first : ℕ} {o₀ o : List ℕ} (e : f ≡ views.part_of line v.content) (h : TextField line v) where
  pub lines_split : {text : ℕ → List Piece → List ℕ} {r : TextItems} → flags / 2 % 2 ≡ 1 → TextLines text (inline_pieces us (content.content_in f)) first o₀ o r → TextLines text (pieces us flags (views.text_in line v).content) first o₀ o r
  unfolding pieces has_inline
  lines_split n t = rw (eq-eqb (flags / 2 % 2) 1 n, ← is_content line v e h) t

  pub lines_whole : {r : ℕ} → (flags / 2 % 2 ≡ 1 → ⊥) → Put (item_line 0 (text_item (content.content_in f))) o₀ 0 o r → TextLines item_text (pieces us flags (views.text_in line v).content) first o₀ o (record { count = r; inline = 0 })
  unfolding pieces has_inline
  lines_whole n p =
      rw (ne_eqb (flags / 2 % 2) 1 n, ← is_content line v e h)
      record {
        lines = text_is _ (whole_text first (content.content_in f)) p;
        quantities = unfold quantities_of in refl;
      }

pub lines_none : (us : List NamedUnit) (flags : ℕ) (x : List ℕ) {first : ℕ} {o₀ : List ℕ} → (flags / 2 % 2 ≡ 1 → ⊥) → TextLines inline_text (pieces us flags x) first o₀ o₀ (record { count = 0; inline = 0 })
unfolding pieces has_inline
lines_none us flags x n =
    rw (ne_eqb (flags / 2 % 2) 1 n)
    record {
      lines = unfold inline_text quantities_of lines_from in ends_most starts (omega arith);
      quantities = unfold quantities_of in refl;
    }
