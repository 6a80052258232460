-- The relation of an entry.
use Rattle.std.specs.Prelude.{None, Option, Some}
use Prim.Native.Nat.{ℕ, suc, ◌+◌, ◌/◌, ◌%◌, ◌<◌}
use mathlib.Core.Path.{◌≡◌, refl, ap, sym, ◌∙◌}
use mathlib.Core.Bool.{Bool, true, false}
use mathlib.Core.List.{List, [], ◌∷◌, ◌++◌, append-nil, reverse}
use native.Mathlib.Omega.{arith}
use lib.Dec.{ltb}
use lib.ListN.{length}
use Rattle.rules.specs.Basic.{pick, codes, tab, comma, join_by, each, digits, decimal}
use Rattle.rules.specs.Sheet.{escape_char, escape}
use Rattle.rules.specs.Model.{Kind, ingredient, cookware, target_of, definition, reference}
use Rattle.rules.specs.Page.{or_minus, target_word, relation_fields}
use Rattle.rules.proofs.Numbers.{escape_decimal}
use Rattle.output.specs.Put.{Put, tabbed}
use Rattle.output.proofs.Puts.{put_seq}
use Rattle.output.proofs.Texts.{tabbed_one, put_fields}
use Rattle.model.specs.declared.Target.{Target}
use Rattle.model.specs.declared.Target.TheVariants.{Ingredient, Step, Section}
use Rattle.model.specs.declared.Relation.TheVariants.{Definition, Reference}
use Rattle.model.specs.declared.RelationRecord.{RelationRecord}
use Rattle.model.specs.Rows.{relation_as, relation_in}
use Rattle.model.specs.Memory.{referrers_of, referrers_left}
use Rattle.model.specs.declared.Held.{Held}
use Rattle.memory.specs.Referrers.{FirstReferrer, NextAs, NextReferrer}
use Rattle.page_fields.proofs.Letters.{escape_both}
use Rattle.model.specs.declared.Kind as model
use Rattle.model.specs.declared.Kind.TheVariants as kind
use Rattle.model.specs.Kinds.{kind_of}
use Rattle.entry_lines.specs.Lines.{kind_word, target_in, comma_each}

-- ---- words

module _ {k : model.Kind} {o₀ o : List ℕ} {at r : ℕ} where
  pub word_ingredient : k ≡ kind.Ingredient → Put (codes "ingredient") o₀ at o r → Put (kind_word (kind_of k)) o₀ at o r
  unfolding kind_word target_word target_of
  word_ingredient e x = rw e x

  pub word_cookware : k ≡ kind.Cookware → Put (codes "cookware") o₀ at o r → Put (kind_word (kind_of k)) o₀ at o r
  unfolding kind_word target_word target_of
  word_cookware e x = rw e x

module _ {b : Bool} {o₀ o : List ℕ} {at r : ℕ} where
  pub place_step : b ≡ true → Put (tabbed (codes "step" ∷ [])) o₀ at o r → Put (tabbed (pick b (codes "step") (codes "list") ∷ [])) o₀ at o r
  place_step e x = rw e x

  pub place_list : b ≡ false → Put (tabbed (codes "list" ∷ [])) o₀ at o r → Put (tabbed (pick b (codes "step") (codes "list") ∷ [])) o₀ at o r
  place_list e x = rw e x

pub escape_word : (k : Kind) → escape (kind_word k) ≡ kind_word k
unfolding kind_word target_word target_of escape escape_char
escape_word ingredient = refl
escape_word cookware = refl

module _ (k : Kind) {t : Target} {o₀ : List ℕ} {at : ℕ} where
  pub target_own : {o₁ o : List ℕ} {n r : ℕ} → t ≡ Ingredient → Put (tab ∷ []) o₀ at o₁ n → Put (kind_word k) o₁ n o r → Put (tabbed (target_word (target_in k t) ∷ [])) o₀ at o r
  target_own e x y =
      let q : target_word (target_in k t) ≡ kind_word k = (unfold target_in kind_word in rw e) in
      rw (q, tabbed_one (kind_word k), escape_word k) (put_seq x y)

  pub target_step_lem : {o : List ℕ} {r : ℕ} → t ≡ Step → Put (tabbed (codes "step" ∷ [])) o₀ at o r → Put (tabbed (target_word (target_in k t) ∷ [])) o₀ at o r
  unfolding target_in target_word
  target_step_lem e x = rw e x

  pub target_section : {o : List ℕ} {r : ℕ} → t ≡ Section → Put (tabbed (codes "section" ∷ [])) o₀ at o r → Put (tabbed (target_word (target_in k t) ∷ [])) o₀ at o r
  unfolding target_in target_word
  target_section e x = rw e x

-- ---- indices by comma

comma_each_lem : (n : ℕ) (ns : List ℕ) → join_by comma (each decimal (n ∷ ns)) ≡ decimal n ++ comma_each ns
unfolding join_by each comma_each
comma_each_lem n [] = rw append-nil
comma_each_lem n (m ∷ ns) = rw (comma_each_lem m ns)

escape_comma : (s : List ℕ) → escape (comma ∷ s) ≡ comma ∷ escape s
unfolding escape escape_char
escape_comma s = refl

escape_each : (ns : List ℕ) → escape (comma_each ns) ≡ comma_each ns
unfolding comma_each
escape_each [] = unfold escape in refl
escape_each (n ∷ ns) = escape_comma (decimal n ++ comma_each ns) ∙ ap (λ (s : List ℕ). comma ∷ s) (escape_both (decimal n) (comma_each ns) (escape_decimal n) (escape_each ns))

some_last : (l : List ℕ) (c : ℕ) (s : List ℕ) → or_minus (l ++ (c ∷ []) ++ s) ≡ l ++ (c ∷ []) ++ s
unfolding or_minus
some_last [] c s = refl
some_last (x ∷ l) c s = refl

some_either : (t : Bool) (b c : ℕ) (l s : List ℕ) → or_minus (pick t (b ∷ []) (l ++ (c ∷ [])) ++ s) ≡ pick t (b ∷ []) (l ++ (c ∷ [])) ++ s
some_either true b c l s = unfold or_minus in refl
some_either false b c l s = some_last l c s

some_decimal : (n : ℕ) (s : List ℕ) → or_minus (decimal n ++ s) ≡ decimal n ++ s
unfolding decimal digits
some_decimal n s = some_either (ltb n 10) (48 + n) (48 + n % 10) (digits 9 (n / 10)) s

-- ---- the loop over the referrers

module _ {k : Kind} {w : List ℕ} {h : Held} {d place : ℕ} {x : Option (ℕ × ℕ)} (q : NextReferrer k w h d place x) where
  next_some : {n next : ℕ} → x ≡ Some (n, next) → referrers_left k w h d place ≡ n ∷ referrers_left k w h d next
  next_some {n} {next} e = let z : NextAs k w h d place (Some (n, next)) = (let y = q.is in rw e at y) in z.1

  next_none : x ≡ None → referrers_left k w h d place ≡ []
  next_none e = let y = q.is in rw e at y

  pub turn_more : {n next : ℕ} → x ≡ Some (n, next) → comma_each (referrers_left k w h d place) ≡ (comma ∷ []) ++ (decimal n ++ comma_each (referrers_left k w h d next))
  unfolding comma_each
  turn_more e = rw (next_some e)

  pub turn_none : x ≡ None → comma_each (referrers_left k w h d place) ≡ []
  unfolding comma_each
  turn_none e = rw (next_none e)

  pub next_fewer : {n next : ℕ} → x ≡ Some (n, next) → length (referrers_left k w h d next) < length (referrers_left k w h d place)
  next_fewer {n} {next} e = let z : length (referrers_left k w h d place) ≡ suc (length (referrers_left k w h d next)) = ap length (next_some e) in omega arith

  -- ---- the referrers of a definition

  module _ (f : FirstReferrer k w h d place) {o₀ o₁ : List ℕ} {at n : ℕ} (p : Put (tab ∷ []) o₀ at o₁ n) where
    pub referrers_none : {o : List ℕ} {r : ℕ} → x ≡ None → Put (codes "-") o₁ n o r → Put (tabbed (or_minus (join_by comma (each decimal (reverse (referrers_of k w h d)))) ∷ [])) o₀ at o r
    referrers_none e y =
        let i : or_minus (join_by comma (each decimal (reverse (referrers_of k w h d)))) ≡ codes "-" = ap (λ (l : List ℕ). or_minus (join_by comma (each decimal l))) (sym f.is ∙ next_none e) ∙ (unfold each join_by or_minus in refl) in
        rw (i, tabbed_one (codes "-")) (unfold escape escape_char in put_seq p y)

    pub referrers_some : {o₂ o : List ℕ} {l r g next : ℕ} → x ≡ Some (g, next) → Put (decimal g) o₁ n o₂ l → Put (comma_each (referrers_left k w h d next)) o₂ l o r
        → Put (tabbed (or_minus (join_by comma (each decimal (reverse (referrers_of k w h d)))) ∷ [])) o₀ at o r
    referrers_some {o₂} {o} {l} {r} {g} {next} e y s =
        let rest : List ℕ = comma_each (referrers_left k w h d next) in
        let i : or_minus (join_by comma (each decimal (reverse (referrers_of k w h d)))) ≡ decimal g ++ rest =
        ap (λ (j : List ℕ). or_minus (join_by comma (each decimal j))) (sym f.is ∙ next_some e) ∙ ap or_minus (comma_each_lem g (referrers_left k w h d next)) ∙ some_decimal g rest in
        rw (i, tabbed_one (decimal g ++ rest), escape_both (decimal g) rest (escape_decimal g) (escape_each (referrers_left k w h d next))) (put_seq p (put_seq y s))

-- ---- relations

pub put_definition : {o₀ o₁ o₂ o : List ℕ} {at m n r : ℕ} (in_step : Bool) (by : List ℕ) → Put (tabbed (codes "def" ∷ [])) o₀ at o₁ m → Put (tabbed (pick in_step (codes "step") (codes "list") ∷ [])) o₁ m o₂ n
    → Put (tabbed (or_minus (join_by comma (each decimal (reverse by))) ∷ [])) o₂ n o r → Put (tabbed (relation_fields (definition in_step by))) o₀ at o r
unfolding relation_fields
put_definition in_step by x y z = put_fields (codes "def" ∷ pick in_step (codes "step") (codes "list") ∷ []) _ (put_fields (codes "def" ∷ []) _ x y) z

pub put_reference : {o₀ o₁ o₂ o : List ℕ} {at m n r : ℕ} (k : Kind) (t : Target) (i : ℕ) → Put (tabbed (codes "ref" ∷ [])) o₀ at o₁ m → Put (tabbed (target_word (target_in k t) ∷ [])) o₁ m o₂ n
    → Put (tabbed (decimal i ∷ [])) o₂ n o r → Put (tabbed (relation_fields (reference (target_in k t) i))) o₀ at o r
unfolding relation_fields
put_reference k t i x y z = put_fields (codes "ref" ∷ target_word (target_in k t) ∷ []) _ (put_fields (codes "ref" ∷ []) _ x y) z

refers : (k : Kind) (t : Target) (in_step : Bool) (i : ℕ) (by : List ℕ) → relation_as k (Reference t) in_step i by ≡ reference (target_in k t) i
unfolding relation_as target_in
refers k Ingredient in_step i by = refl
refers k Step in_step i by = refl
refers k Section in_step i by = refl

module _ (k : Kind) (x : RelationRecord) (by : List ℕ) {o₀ o : List ℕ} {at r : ℕ} where
  pub relation_definition : x.relation ≡ Definition → Put (tabbed (relation_fields (definition x.in_step by))) o₀ at o r → Put (tabbed (relation_fields (relation_in k x by))) o₀ at o r
  unfolding relation_in relation_as
  relation_definition e p = rw e p

  pub relation_reference : {t : Target} → x.relation ≡ Reference t → Put (tabbed (relation_fields (reference (target_in k t) x.index))) o₀ at o r → Put (tabbed (relation_fields (relation_in k x by))) o₀ at o r
  unfolding relation_in
  relation_reference {t} e p = rw (e, refers k t x.in_step x.index by) p
