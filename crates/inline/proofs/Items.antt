-- The items of a text, counted from place to place.
use Prim.Native.Nat.{ℕ, suc, ◌+◌, ◌-◌, ◌≤◌, ◌<◌}
use mathlib.Core.Path.{◌≡◌, refl, sym, ap, ◌∙◌}
use mathlib.Core.List.{List, [], ◌∷◌, ◌++◌, append-nil}
use native.Mathlib.Nat.{zero-add}
use native.Mathlib.Omega.{arith}
use lib.ListN.{length, drop, length-drop, length-append}
use lib.Seq.{length-take-le}
use borrow.Author.Tests.{lt-ltb, le-ltb}
use Rattle.content.specs.Contents.{content_in}
use Rattle.content.specs.Parts.{Field}
use Rattle.content.proofs.Chars.{no_content}
use Rattle.rules.specs.Units.{NamedUnit}
use Rattle.rules.specs.Inline.{Piece, text_piece, quantity_piece, text_if_any, inline_pieces}
use Rattle.rules.specs.Pass.{items_of, quantities_of}
use Rattle.rules.proofs.Basics.{by_order}
use Rattle.inline.specs.declared.Inline.{Inline}
use Rattle.inline.specs.Scans.{part}
use Rattle.inline.specs.Found.{FoundAt}
use Rattle.inline.specs.Items.{CountsOf, text_items}
use Rattle.inline.proofs.Turns.{some_content}

pub items_yes : (a e : ℕ) → a < e → 1 ≡ text_items a e
unfolding text_items
items_yes a e h = rw (lt-ltb a e h)

pub items_no : (a e : ℕ) → e ≤ a → 0 ≡ text_items a e
unfolding text_items
items_no a e h = rw (le-ltb a e h)

-- an item has a byte
pub items_few : (a e : ℕ) → a ≤ e → a + text_items a e ≤ e
items_few a e h = by_order e a (λ l. omega (arith, items_no a e l)) (λ l. omega (arith, items_yes a e l))

-- bytes are one text, or none
pub text_piece_lem : (t : List ℕ) → 1 ≤ length t → text_if_any (content_in t) ≡ text_piece (content_in t) ∷ []
text_piece_lem t h = let c = some_content t h in rw c.is (unfold text_if_any in refl)

pub text_none : (t : List ℕ) → length t ≤ 0 → text_if_any (content_in t) ≡ []
text_none [] h = rw no_content (unfold text_if_any in refl)
text_none (c ∷ t) h = absurd (omega arith)

pub text_count : (s : List ℕ) (a e : ℕ) → e ≤ length s → length (text_if_any (content_in (part a e s))) ≡ text_items a e
text_count s a e h =
    let l : length (part a e s) ≡ e - a = length-take-le (e - a) (drop a s) (omega (arith, length-drop a s)) in
    by_order e a
    (λ k. ap length (text_none (part a e s) (omega arith)) ∙ items_no a e k)
    (λ k. ap length (text_piece_lem (part a e s) (omega arith)) ∙ items_yes a e k)

pub rest_count : (s : List ℕ) (a : ℕ) → length (text_if_any (content_in (drop a s))) ≡ text_items a (length s)
rest_count s a =
    let l = length-drop a s in
    by_order (length s) a
    (λ k. ap length (text_none (drop a s) (omega arith)) ∙ items_no a (length s) k)
    (λ k. ap length (text_piece_lem (drop a s) (omega arith)) ∙ items_yes a (length s) k)

-- each piece is an item, and texts are no quantities
pub items_length : (n : ℕ) (ps : List Piece) → length (items_of n ps) ≡ length ps
unfolding items_of
items_length n [] = refl
items_length n (text_piece t ∷ ps) = ap suc (items_length n ps)
items_length n (quantity_piece a u ∷ ps) = ap suc (items_length (suc n) ps)

pub quantities_most : (ps : List Piece) → length (quantities_of ps) ≤ length ps
unfolding quantities_of
quantities_most [] = omega arith
quantities_most (text_piece t ∷ ps) = omega (arith, quantities_most ps)
quantities_most (quantity_piece a u ∷ ps) = omega (arith, quantities_most ps)

pub text_quantities : (x : List ℕ) (ps : List Piece) → quantities_of (text_if_any x ++ ps) ≡ quantities_of ps
unfolding text_if_any quantities_of
text_quantities [] ps = refl
text_quantities (c ∷ x) ps = refl

-- ---- the count

-- n items, k of them quantities, stand before a place
pub record Counting (us : List NamedUnit) (s : List ℕ) (at n k : ℕ) : Type 0 where
  pub items : n + length (inline_pieces us (content_in (drop at s))) ≡ length (inline_pieces us (content_in s))
  pub quantities : k + length (quantities_of (inline_pieces us (content_in (drop at s)))) ≡ length (quantities_of (inline_pieces us (content_in s)))
  pub few : n ≤ at
  pub fewer : k ≤ at
  pub to : at ≤ length s
  pub left : Field (drop at s)

pub counting_start : (us : List NamedUnit) (s : List ℕ) → Field s → Counting us s 0 0 0
counting_start us s w =
    record {
      items = zero-add (length (inline_pieces us (content_in s)));
      quantities = zero-add (length (quantities_of (inline_pieces us (content_in s))));
      few = omega arith;
      fewer = omega arith;
      to = omega arith;
      left = w;
    }

module _ {us : List NamedUnit} {s : List ℕ} {at n k : ℕ} (c : Counting us s at n k) where
  pub counting_end : {t : ℕ} → inline_pieces us (content_in (drop at s)) ≡ text_if_any (content_in (drop at s)) → t ≡ text_items at (length s) → CountsOf us s (record { items = n + t; quantities = k })
  counting_end p q =
      let none : quantities_of (text_if_any (content_in (drop at s))) ≡ [] = ap quantities_of (sym (append-nil (text_if_any (content_in (drop at s))))) ∙ text_quantities (content_in (drop at s)) [] ∙ unfold quantities_of in refl in
      record {
        items = omega (arith, c.items, ap length p, rest_count s at, q);
        quantities = omega (arith, c.quantities, ap (λ (ps : List Piece). length (quantities_of ps)) p, ap length none);
        few = omega (arith, c.few, c.to, items_few at (length s) c.to, q);
      }

  module _ {f : Inline} (i : FoundAt us s at f) where
    quantities_split : length (quantities_of (inline_pieces us (content_in (drop at s)))) ≡ suc (length (quantities_of (inline_pieces us (content_in (drop f.after s)))))
    quantities_split = ap (λ (ps : List Piece). length (quantities_of ps)) i.is ∙ ap length (text_quantities (content_in (part at f.number_from s)) _) ∙ unfold quantities_of in refl

    pub counting_fits : {t : ℕ} → t ≡ text_items at f.number_from → n + t + 1 ≤ f.after
    counting_fits q = omega (arith, c.few, items_few at f.number_from i.start, i.number, i.gap, i.unit, i.rest)

    pub counting_less : at < f.after
    counting_less = omega (arith, i.start, i.number, i.gap, i.unit, i.rest)

    pub counting_more : {t : ℕ} → t ≡ text_items at f.number_from → Counting us s f.after (n + t + 1) (k + 1)
    counting_more q =
        record {
          items =
              omega (
                arith,
                c.items,
                ap length i.is,
                length-append (text_if_any (content_in (part at f.number_from s)))
                    (quantity_piece (content_in (part f.number_from f.number_to s)) (content_in (part f.unit_from f.unit_to s)) ∷ inline_pieces us (content_in (drop f.after s))),
                text_count s at f.number_from (omega (arith, i.number, i.gap, i.unit, i.rest, i.end)),
              );
          quantities = omega (arith, c.quantities, quantities_split);
          few = counting_fits q;
          fewer = omega (arith, c.fewer, counting_less);
          to = i.end;
          left = i.after_field;
        }
