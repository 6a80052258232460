-- The lines of findings, piece by piece.
use Prim.Native.Nat.{ℕ, ◌+◌, ◌≤◌, ◌<◌}
use mathlib.Core.Path.{◌≡◌, refl, ap, sym, ◌∙◌}
use mathlib.Core.Bool.{Bool, true, false}
use mathlib.Core.List.{List, [], ◌∷◌, ◌++◌, append_assoc}
use borrow.Author.Tests.{eq-eqb, ne_eqb}
use lib.ListN.{length}
use Rattle.rules.specs.Basic.{pick, codes, tab, lf, comma, minus, is_empty, join_by, each, decimal, digits}
use Rattle.rules.specs.Sheet.{escape, escape_char, line_of}
use Rattle.rules.specs.Words as words
use Rattle.rules.specs.Event as rules
use Rattle.rules.specs.Finding.{diag, is_error}
use Rattle.rules.specs.Page.{span_word, severity_word, finding_line}
use Rattle.rules.proofs.Numbers.{escape_decimal}
use Rattle.rules.proofs.TakenLine.{escape_both}
use Rattle.output.specs.Put.{Put, tabbed}
use Rattle.output.proofs.Puts.{Leads, starts, ends_in, ends_out, put_seq}
use Rattle.output.proofs.Texts.{text_is, tabbed_one, put_fields, put_line, line_tabbed}
use Rattle.parts.specs.Views.{span_in}
use Rattle.parts.specs.declared.Span.{Span}
use Rattle.model.specs.Rows.{spans_in, finding_of}
use Rattle.model.specs.declared.Noted.{Noted}
use Rattle.finding_lines.specs.Lines.{spans_field, noted_spans, flag_field, ParsePut, FindingPut, old_open, old_close, span_piece}

-- ---- a place to write at

pub place_in : (o : List ℕ) (at : ℕ) → at ≤ length o → Put [] o at o at
place_in o at h = ends_in starts h

pub place_out : (o : List ℕ) (at : ℕ) → length o < at → Put [] o at o (length o + 1)
place_out o at h = ends_out starts h

-- the end of a text, and the position handed on
pub leads_placed : {w o₀ o : List ℕ} {at n r : ℕ} → Leads w o₀ at [] o n → Put [] o n o r → Put w o₀ at o r
leads_placed i p = record { bytes = p.bytes ∙ i.bytes; next = p.next ∙ i.next }

-- ---- whether a finding is an error

pub error_yes : {code : ℕ} (k : ℕ) → code ≡ k → is_error k ≡ true → true ≡ is_error code
error_yes k e q = sym (ap is_error e ∙ q)

module _ (code : ℕ) (n1 : code ≡ 1 → ⊥) (n7 : code ≡ 7 → ⊥) (n8 : code ≡ 8 → ⊥) (n9 : code ≡ 9 → ⊥) (n10 : code ≡ 10 → ⊥) (n13 : code ≡ 13 → ⊥) (n14 : code ≡ 14 → ⊥) (n18 : code ≡ 18 → ⊥) (n19 : code ≡ 19 → ⊥) (n21 : code ≡ 21 → ⊥) (n22 : code ≡ 22 → ⊥) (n23 : code ≡ 23 → ⊥) where
  pub error_no : false ≡ is_error code
  unfolding is_error
  error_no =
      rw (ne_eqb code 1 n1, ne_eqb code 7 n7, ne_eqb code 8 n8, ne_eqb code 9 n9, ne_eqb code 10 n10, ne_eqb code 13 n13, ne_eqb code 14 n14, ne_eqb code 18 n18, ne_eqb code 19 n19, ne_eqb code 21 n21, ne_eqb code 22 n22, ne_eqb code 23 n23)

-- ---- fields

module _ {o₀ o : List ℕ} {at r : ℕ} {b : Bool} where
  pub severity_yes : b ≡ true → Put (tabbed (codes "E" ∷ [])) o₀ at o r → Put (tabbed (severity_word (pick b words.severe words.mild) ∷ [])) o₀ at o r
  unfolding severity_word
  severity_yes e p = rw e p

  pub severity_no : b ≡ false → Put (tabbed (codes "W" ∷ [])) o₀ at o r → Put (tabbed (severity_word (pick b words.severe words.mild) ∷ [])) o₀ at o r
  unfolding severity_word
  severity_no e p = rw e p

  pub flag_yes : b ≡ true → Put (tabbed (codes "i" ∷ [])) o₀ at o r → Put (tabbed (flag_field b ∷ [])) o₀ at o r
  unfolding flag_field
  flag_yes e p = rw e p

  pub flag_no : b ≡ false → Put (tabbed (codes "-" ∷ [])) o₀ at o r → Put (tabbed (flag_field b ∷ [])) o₀ at o r
  unfolding flag_field
  flag_no e p = rw e p

-- ---- spans

pub span_put : {o₀ o₁ o₂ o₃ : List ℕ} {at a b r : ℕ} (s : Span) → Put (decimal s.start) o₀ at o₁ a → Put (minus ∷ []) o₁ a o₂ b → Put (decimal s.end) o₂ b o₃ r → Put (span_word (span_in s)) o₀ at o₃ r
unfolding span_word span_in
span_put s p q t = text_is _ (sym (append_assoc (decimal s.start) (minus ∷ []) (decimal s.end))) (put_seq (put_seq p q) t)

-- a span has digits and a minus alone, and so needs no escape
escape_span : (s : rules.Span) → escape (span_word s) ≡ span_word s
unfolding span_word
escape_span s =
    escape_both (decimal s.start) (minus ∷ decimal s.end)
    ∙ rw (escape_decimal s.start) (ap (λ (l : List ℕ). decimal s.start ++ l) (unfold escape escape_char in ap (λ (l : List ℕ). minus ∷ l) (escape_decimal s.end)))

escape_comma : (s : List ℕ) → escape (comma ∷ s) ≡ comma ∷ escape s
unfolding escape escape_char
escape_comma s = refl

pub escape_spans : (ss : List rules.Span) → escape (spans_field ss) ≡ spans_field ss
unfolding spans_field join_by each
escape_spans [] = unfold escape in refl
escape_spans (s ∷ []) = escape_span s
escape_spans (s ∷ t ∷ ss) =
    escape_both (span_word s) (comma ∷ join_by comma (each span_word (t ∷ ss)))
    ∙ rw (escape_span s, escape_comma (join_by comma (each span_word (t ∷ ss)))) (ap (λ (l : List ℕ). span_word s ++ (comma ∷ l)) (escape_spans (t ∷ ss)))

tabbed_spans : (ss : List rules.Span) → tabbed (spans_field ss ∷ []) ≡ (tab ∷ []) ++ spans_field ss
tabbed_spans ss = tabbed_one (spans_field ss) ∙ rw (escape_spans ss)

-- one span more
pub spans_more : (ss : List rules.Span) (s : rules.Span) → spans_field (ss ++ (s ∷ [])) ≡ spans_field ss ++ span_piece (is_empty ss) s
unfolding spans_field join_by each span_piece is_empty
spans_more [] s = refl
spans_more (t ∷ []) s = refl
spans_more (t ∷ u ∷ ss) s =
    ap (λ (l : List ℕ). span_word t ++ (comma ∷ l)) (spans_more (u ∷ ss) s)
    ∙ sym (append_assoc (span_word t) (comma ∷ join_by comma (each span_word (u ∷ ss))) (comma ∷ span_word s))

module _ (x : Noted) where
  abbrev first : Span
  first = record { start = x.start; end = x.end }

  abbrev second : Span
  second = record { start = x.start2; end = x.end2 }

  noted_none : x.spans ≡ 0 → spans_field (noted_spans x) ≡ []
  unfolding spans_field noted_spans spans_in join_by each
  noted_none e = rw (eq-eqb x.spans 0 e)

  noted_one : (x.spans ≡ 0 → ⊥) → x.spans ≡ 1 → spans_field (noted_spans x) ≡ span_word (span_in first)
  unfolding spans_field noted_spans spans_in join_by each span_in
  noted_one n e = rw (ne_eqb x.spans 0 n, eq-eqb x.spans 1 e)

  noted_two : (x.spans ≡ 0 → ⊥) → (x.spans ≡ 1 → ⊥) → spans_field (noted_spans x) ≡ span_word (span_in first) ++ (comma ∷ span_word (span_in second))
  unfolding spans_field noted_spans spans_in join_by each span_in
  noted_two n m = rw (ne_eqb x.spans 0 n, ne_eqb x.spans 1 m)

  module _ {o₀ o₁ : List ℕ} {at a : ℕ} (p : Put (tab ∷ []) o₀ at o₁ a) where
    pub spans_none : x.spans ≡ 0 → Put (tabbed (spans_field (noted_spans x) ∷ [])) o₀ at o₁ a
    spans_none e = text_is _ (tabbed_spans (noted_spans x) ∙ rw (noted_none e)) p

    module _ (n : x.spans ≡ 0 → ⊥) {o₂ : List ℕ} {b : ℕ} (q : Put (span_word (span_in first)) o₁ a o₂ b) where
      pub spans_one : x.spans ≡ 1 → Put (tabbed (spans_field (noted_spans x) ∷ [])) o₀ at o₂ b
      spans_one e = text_is _ (tabbed_spans (noted_spans x) ∙ rw (noted_one n e)) (put_seq p q)

      pub spans_two : (x.spans ≡ 1 → ⊥) → {o₃ o₄ : List ℕ} {c r : ℕ} → Put (comma ∷ []) o₂ b o₃ c → Put (span_word (span_in second)) o₃ c o₄ r → Put (tabbed (spans_field (noted_spans x) ∷ [])) o₀ at o₄ r
      spans_two m t u =
          text_is _ (tabbed_spans (noted_spans x) ∙ rw (noted_two n m) (ap (λ (l : List ℕ). tab ∷ l) (sym (append_assoc (span_word (span_in first)) (comma ∷ []) (span_word (span_in second))))))
          (put_seq (put_seq (put_seq p q) t) u)

-- ---- lines

pub parse_put : {o₀ o₁ o₂ o₃ o₄ : List ℕ} {at a b c r : ℕ} (s : words.Severity) (n : ℕ) → Put (codes "parse") o₀ at o₁ a → Put (tabbed (severity_word s ∷ [])) o₁ a o₂ b → Put (tabbed (decimal n ∷ [])) o₂ b o₃ c → Put (lf ∷ []) o₃ c o₄ r → ParsePut s n o₀ at o₄ r
unfolding finding_line escape escape_char
parse_put s n p q t e =
    record { is = λ k. put_line (codes "parse") (severity_word s ∷ decimal n ∷ []) p (put_fields (severity_word s ∷ []) (decimal n ∷ []) q t) e }

severity_field_lem : (b : Bool) → severity_word (pick b words.severe words.mild) ≡ pick b (codes "E") (codes "W")
unfolding severity_word
severity_field_lem true = refl
severity_field_lem false = refl

module _ {o₀ o₁ o₂ o₃ o₄ o₅ o₆ : List ℕ} {at a b c d e r : ℕ} (x : Noted) {f : Bool} where
  pass_fields : f ≡ is_error x.code
      → Put (codes "diag") o₀ at o₁ a → Put (tabbed (severity_word (pick f words.severe words.mild) ∷ [])) o₁ a o₂ b
      → Put (tabbed (decimal x.code ∷ [])) o₂ b o₃ c → Put (tabbed (spans_field (noted_spans x) ∷ [])) o₃ c o₄ d
      → Put (tabbed (flag_field x.flag ∷ [])) o₄ d o₅ e → Put (lf ∷ []) o₅ e o₆ r
      → (k : ℕ) → Put (finding_line k (diag x.code (noted_spans x) x.flag)) o₀ at o₆ r
  unfolding finding_line escape escape_char spans_field flag_field
  pass_fields g p q s t u v k =
      let z : severity_word (pick f words.severe words.mild) ≡ pick (is_error x.code) (codes "E") (codes "W") = severity_field_lem f ∙ ap (λ (y : Bool). pick y (codes "E") (codes "W")) g in
      let q' : Put (tabbed (pick (is_error x.code) (codes "E") (codes "W") ∷ [])) o₁ a o₂ b = rw z at q in
      put_line (codes "diag")
      (pick (is_error x.code) (codes "E") (codes "W") ∷ decimal x.code ∷ join_by comma (each span_word (noted_spans x)) ∷ pick x.flag (codes "i") (codes "-") ∷ [])
      p
      (put_fields (pick (is_error x.code) (codes "E") (codes "W") ∷ decimal x.code ∷ join_by comma (each span_word (noted_spans x)) ∷ []) (pick x.flag (codes "i") (codes "-") ∷ [])
      (put_fields (pick (is_error x.code) (codes "E") (codes "W") ∷ decimal x.code ∷ []) (join_by comma (each span_word (noted_spans x)) ∷ [])
      (put_fields (pick (is_error x.code) (codes "E") (codes "W") ∷ []) (decimal x.code ∷ []) q' s) t) u)
      v

  pub pass_put : x.parse ≡ false → f ≡ is_error x.code
      → Put (codes "diag") o₀ at o₁ a → Put (tabbed (severity_word (pick f words.severe words.mild) ∷ [])) o₁ a o₂ b
      → Put (tabbed (decimal x.code ∷ [])) o₂ b o₃ c → Put (tabbed (spans_field (noted_spans x) ∷ [])) o₃ c o₄ d
      → Put (tabbed (flag_field x.flag ∷ [])) o₄ d o₅ e → Put (lf ∷ []) o₅ e o₆ r → FindingPut x o₀ at o₆ r
  unfolding finding_of noted_spans
  pass_put h g p q s t u v = record { is = λ k. rw h (pass_fields g p q s t u v k) }

pub parser_put : {x : Noted} {o₀ o : List ℕ} {at r : ℕ} → x.parse ≡ true → ParsePut (pick x.flag words.severe words.mild) x.code o₀ at o r → FindingPut x o₀ at o r
unfolding finding_of
parser_put h p = record { is = λ k. rw h (p.is k) }

-- ---- 3, old metadata

pub old_line_lem : (k : ℕ) (ss : List rules.Span) → finding_line k (diag 3 ss false) ≡ old_open ++ (spans_field ss ++ old_close)
unfolding finding_line is_error decimal digits tabbed escape escape_char old_open old_close line_of join_by spans_field
old_line_lem k ss =
    line_tabbed (codes "diag") (codes "W" ∷ decimal 3 ∷ spans_field ss ∷ codes "-" ∷ [])
    ∙ rw (escape_spans ss) (ap (λ (l : List ℕ). codes "diag\tW\t3\t" ++ l) (append_assoc (spans_field ss) (codes "\t-") (lf ∷ [])))

pub piece_first : {b : Bool} {o₀ o : List ℕ} {at r : ℕ} (s : Span) → b ≡ true → Put (span_word (span_in s)) o₀ at o r → Put (span_piece b (span_in s)) o₀ at o r
unfolding span_piece
piece_first s e p = rw e p

pub piece_next : {b : Bool} {o₀ o₁ o₂ : List ℕ} {at a r : ℕ} (s : Span) → b ≡ false → Put (comma ∷ []) o₀ at o₁ a → Put (span_word (span_in s)) o₁ a o₂ r → Put (span_piece b (span_in s)) o₀ at o₂ r
unfolding span_piece
piece_next s e p q = rw e (put_seq p q)
