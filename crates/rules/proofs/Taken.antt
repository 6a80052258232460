-- The parts of a line: each reader takes what is written of what it gives.
use Prim.Native.Nat.{ℕ}
use mathlib.Core.Path.{◌≡◌, refl, sym, ap, ◌∙◌}
use mathlib.Core.List.{List, [], ◌∷◌, ◌++◌, append_assoc, append-nil}
use mathlib.Core.Bool.{Bool}
use Rattle.std.specs.Prelude.{Option, None, Some}
use native.Mathlib.Omega.{arith}
use Rattle.rules.specs.Basic.{pick, codes, eq_list, on_some, each, word_in, decimal}
use Rattle.rules.specs.Utf8.{chars, encode}
use Rattle.rules.specs.Sheet.{unescape, escape_char, escape, number_of}
use Rattle.rules.specs.Words.{ValueKind, value_kinds, locks}
use Rattle.rules.specs.Event.{Text, Quantity}
use Rattle.rules.specs.Read.{Fields, opt, read_number, read_span, content_of, read_content, read_text, word, read_quantity}
use Rattle.rules.specs.Write.{opt_fields, span_fields, text_fields, kind_field, quantity_fields}
use Rattle.rules.proofs.Basics.{pick_either, no_some, some_inj}
use Rattle.rules.proofs.Fields.{escape_unescape}
use Rattle.rules.proofs.Numbers.{decimal_number, escape_decimal}
use Rattle.rules.proofs.Encodes.{encode_chars}
use Rattle.rules.proofs.Escaped.{utf8_unescape}
use Rattle.rules.proofs.Given.{raw, raw_both, GoodField, Gives, Writes, gives_bind, gives_give, gives_saying, WritesOpt, eq_list_true, NotEmpty, gives_opt}

-- ---- numbers, spans, contents, texts

number_field_lem : (f : List ℕ) (n : ℕ) → GoodField f → number_of f ≡ Some n → f ≡ escape (decimal n)
unfolding number_of
number_field_lem f n g q = sym (escape_decimal n ∙ decimal_number 65535 n f (omega arith) q)

abbrev pub number_fields : ℕ → Fields
number_fields n = decimal n ∷ []

pub gives_number : Gives read_number (Writes number_fields)
unfolding read_number
gives_number = gives_saying number_of decimal number_field_lem

pub two_parts : {a b : Fields} (x y : Fields) → a ≡ raw x → b ≡ raw y → (a ++ (b ++ [])) ≡ raw (x ++ y)
two_parts x y p q = rw (p, q, append-nil, raw_both x y)

pub gives_span : Gives read_span (Writes span_fields)
unfolding read_span span_fields
gives_span =
    gives_bind read_number _ (Writes number_fields) (Writes span_fields) gives_number
    (λ a p hp bp gp. gives_bind read_number _ (Writes number_fields) _ gives_number
    (λ b r hr br gr. gives_give _ _ (two_parts (number_fields a) (number_fields b) hp hr)))

content_field : (f c : List ℕ) → GoodField f → content_of f ≡ Some c → f ≡ escape (encode c)
unfolding content_of on_some
content_field f c g q = go (unescape f) refl q
  where
    go : (o : Option (List ℕ)) → unescape f ≡ o → on_some chars o ≡ Some c → f ≡ escape (encode c)
    go None e q = no_some q
    go (Some u) e q =
        let z : encode (chars u) ≡ u = encode_chars u (utf8_unescape f u g.utf8 e) in
        sym (ap (λ (x : List ℕ). escape (encode x)) (sym (some_inj q)) ∙ ap escape z ∙ escape_unescape f g.no_tab_lem g.no_lf_lem e)

abbrev content_fields : List ℕ → Fields
content_fields c = encode c ∷ []

pub gives_content : Gives read_content (Writes content_fields)
unfolding read_content
gives_content = gives_saying content_of encode content_field

pub gives_text : Gives read_text (Writes text_fields)
unfolding read_text text_fields
gives_text =
    gives_bind read_span _ (Writes span_fields) (Writes text_fields) gives_span
    (λ s p hp bp gp. gives_bind read_content _ (Writes content_fields) _ gives_content
    (λ c r hr br gr. gives_give _ _ (two_parts (span_fields s) (content_fields c) hp hr)))

text_some : (t : Text) → NotEmpty (raw (text_fields t))
unfolding text_fields span_fields each
text_some t = (_, _, refl)

pub gives_opt_text : Gives (opt read_text) (WritesOpt text_fields)
gives_opt_text = gives_opt read_text text_fields text_some gives_text

-- ---- words

abbrev AllWords : {A : Type 0} → (A → List ℕ) → List (List ℕ × A) → Type 0
AllWords w [] = Unit {0}
AllWords w (e ∷ es) = (e.0 ≡ escape (w e.1)) × AllWords w es

word_field_lem : {A : Type 0} (w : A → List ℕ) (table : List (List ℕ × A)) → AllWords w table → (f : List ℕ) (a : A) → GoodField f → word_in f table ≡ Some a
    → f ≡ escape (w a)
unfolding word_in
word_field_lem w [] h f a g q = no_some q
word_field_lem {A} w (e ∷ es) h f a g q =
    pick_either (λ (o : Option A). o ≡ Some a → f ≡ escape (w a)) (eq_list f e.0) _ _
    (λ b p. eq_list_true f e.0 b ∙ h.0 ∙ ap (λ (x : A). escape (w x)) (some_inj p))
    (λ b p. word_field_lem w es h.1 f a g p) q

pub gives_word : {A : Type 0} (w : A → List ℕ) (table : List (List ℕ × A)) → AllWords w table → Gives (word table) (Writes (λ a. w a ∷ []))
unfolding word
gives_word w table h = gives_saying (λ f. word_in f table) w (word_field_lem w table h)

-- ---- quantities

abbrev kind_fields : ValueKind → Fields
kind_fields k = kind_field k ∷ []

abbrev lock_field : Bool → List ℕ
lock_field b = pick b (codes "l") (codes "-")

abbrev lock_fields : Bool → Fields
lock_fields b = lock_field b ∷ []

gives_kind : Gives (word value_kinds) (Writes kind_fields)
gives_kind = gives_word kind_field value_kinds (unfold escape escape_char kind_field in (refl, (refl, (refl, tt))))

gives_lock : Gives (word locks) (Writes lock_fields)
gives_lock = gives_word lock_field locks (unfold escape escape_char in (refl, (refl, tt)))

quantity_parts : (q : Quantity) {a b c d e f : Fields} → a ≡ raw (span_fields q.span) → b ≡ raw (kind_fields q.kind) → c ≡ raw (span_fields q.value_span)
    → d ≡ raw (content_fields q.value)
    → e ≡ raw (lock_fields q.lock) → f ≡ raw (opt_fields text_fields q.unit) → (a ++ (b ++ (c ++ (d ++ (e ++ (f ++ [])))))) ≡ raw (quantity_fields q)
unfolding quantity_fields each
quantity_parts q ha hb hc hd he hf = rw (ha, hb, hc, hd, he, hf) (simp (raw_both, append_assoc, append-nil))

pub gives_quantity : Gives read_quantity (Writes quantity_fields)
unfolding read_quantity
gives_quantity =
    gives_bind read_span _ (Writes span_fields) (Writes quantity_fields) gives_span
    (λ s p1 h1 b1 g1. gives_bind (word value_kinds) _ (Writes kind_fields) _ gives_kind
    (λ k p2 h2 b2 g2. gives_bind read_span _ (Writes span_fields) _ gives_span
    (λ vs p3 h3 b3 g3. gives_bind read_content _ (Writes content_fields) _ gives_content
    (λ v p4 h4 b4 g4. gives_bind (word locks) _ (Writes lock_fields) _ gives_lock
    (λ l p5 h5 b5 g5. gives_bind (opt read_text) _ (WritesOpt text_fields) _ gives_opt_text
    (λ u p6 h6 b6 g6. gives_give _ _ (quantity_parts _ h1 h2 h3 h4 h5 h6)))))))

quantity_some : (q : Quantity) → NotEmpty (raw (quantity_fields q))
unfolding quantity_fields span_fields each
quantity_some q = (_, _, refl)

pub gives_opt_quantity : Gives (opt read_quantity) (WritesOpt quantity_fields)
gives_opt_quantity = gives_opt read_quantity quantity_fields quantity_some gives_quantity
