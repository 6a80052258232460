-- The lines of the map.
use Prim.Native.Nat.{ℕ, suc, ◌+◌, ◌≤◌, ◌<◌}
use mathlib.Core.Path.{◌≡◌, refl, ap, sym, ◌∙◌}
use mathlib.Core.List.{List, [], ◌∷◌, ◌++◌}
use native.Mathlib.Omega.{arith}
use native.Mathlib.Numerals.{add-one}
use lib.ListN.{length}
use Rattle.rules.specs.Basic.{codes, tab, lf}
use Rattle.rules.specs.Utf8.{encode}
use Rattle.rules.specs.Sheet.{escape, escape_char}
use Rattle.rules.specs.Text.{retain}
use Rattle.rules.specs.Page.{table_lines, meta_line}
use Rattle.output.specs.Put.{Put, tabbed}
use Rattle.output.proofs.Puts.{put_seq}
use Rattle.output.proofs.Texts.{text_is, tabbed_one, put_fields, put_line}
use Rattle.content.specs.Contents.{content_in, kept_in}
use Rattle.content.specs.Parts.{Field}
use Rattle.content.proofs.Spells.{field_spell}
use Rattle.text.proofs.Writes.{kept_spelled}
use Rattle.page_fields.proofs.Tables.{lines_none, lines_more}
use Rattle.meta_map.specs.Index.{cell, part_at, key_at, value_at, map_in, MetaPut, MetasPut}

-- ---- fields

kept_field : {f o₀ o₁ o₂ : List ℕ} {at a b : ℕ} → Field f → Put (tab ∷ []) o₀ at o₁ a → Put (retain 0 f) o₁ a o₂ b → Put (tabbed (encode (kept_in f) ∷ [])) o₀ at o₂ b
kept_field {f} h p q = text_is _ (tabbed_one (encode (kept_in f)) ∙ ap (λ (l : List ℕ). (tab ∷ []) ++ l) (sym (kept_spelled h))) (put_seq p q)

content_field : {g o₀ o₁ o₂ : List ℕ} {at a b : ℕ} → Field g → Put (tab ∷ []) o₀ at o₁ a → Put g o₁ a o₂ b → Put (tabbed (encode (content_in g) ∷ [])) o₀ at o₂ b
content_field {g} h p q = text_is _ (tabbed_one (encode (content_in g)) ∙ ap (λ (l : List ℕ). (tab ∷ []) ++ l) (field_spell h)) (put_seq p q)

pub meta_put : {f g o₀ o₁ o₂ o₃ o₄ o₅ o₆ : List ℕ} {at a b c d e r : ℕ} → Field f → Field g → Put (codes "meta") o₀ at o₁ a → Put (tab ∷ []) o₁ a o₂ b → Put (retain 0 f) o₂ b o₃ c → Put (tab ∷ []) o₃ c o₄ d → Put g o₄ d o₅ e → Put (lf ∷ []) o₅ e o₆ r → MetaPut f g o₀ at o₆ r
unfolding meta_line escape escape_char
meta_put {f} {g} hf hg p q s t u v =
    record { is = λ k. put_line (codes "meta") (encode (kept_in f) ∷ encode (content_in g) ∷ []) p (put_fields (encode (kept_in f) ∷ []) (encode (content_in g) ∷ []) (kept_field hf q s) (content_field hg t u)) v }

-- ---- the rows: the lines of the first i, of n, are written

pub record Printing (sheet m : List ℕ) (n : ℕ) (o₀ : List ℕ) (at : ℕ) (o : List ℕ) (c i : ℕ) : Type 0 where
  pub most : i ≤ n
  pub put : Put (table_lines meta_line (map_in sheet m i)) o₀ at o c

pub print_starts : {sheet m o : List ℕ} {n at c : ℕ} → Put [] o at o c → Printing sheet m n o at o c 0
unfolding map_in
print_starts p = record { most = omega arith; put = text_is _ (lines_none meta_line) p }

map_more : (sheet m : List ℕ) (i : ℕ) → map_in sheet m (suc i) ≡ record { key = kept_in (part_at sheet (cell m i 0) (cell m i 1)); value = content_in (part_at sheet (cell m i 2) (cell m i 3)) } ∷ map_in sheet m i
unfolding map_in key_at value_at
map_more sheet m i = refl

module _ {sheet m : List ℕ} {n : ℕ} {o₀ : List ℕ} {at : ℕ} {o : List ℕ} {c i : ℕ} (v : Printing sheet m n o₀ at o c i) where
  pub print_on : {f g o' : List ℕ} {c' : ℕ} → i < n → f ≡ part_at sheet (cell m i 0) (cell m i 1) → g ≡ part_at sheet (cell m i 2) (cell m i 3) → MetaPut f g o c o' c' → Printing sheet m n o₀ at o' c' (i + 1)
  print_on {f} {g} l e h p =
      let q : Put (meta_line (length (map_in sheet m i)) (record { key = kept_in (part_at sheet (cell m i 0) (cell m i 1)); value = content_in (part_at sheet (cell m i 2) (cell m i 3)) })) o c _ _ = rw (e, h) at (p.is (length (map_in sheet m i))) in
      record {
        most = omega arith;
        put =
            rw add-one
            (text_is _ (ap (table_lines meta_line) (map_more sheet m i) ∙ lines_more meta_line _ (map_in sheet m i)) (put_seq v.put q));
      }

  pub print_ends : n ≤ i → MetasPut sheet m n o₀ at o c
  print_ends l = let e : i ≡ n = omega (arith, v.most) in record { is = rw e at v.put }
