-- Carriage returns are spelled: no bare one is read, and none is written.
use Prim.Native.Nat.{ℕ}
use mathlib.Core.Path.{◌≡◌, refl, sym, subst, ◌∙◌}
use mathlib.Core.List.{List, [], ◌∷◌, ◌++◌}
use mathlib.Core.Bool.{true, false, ◌||◌}
use Rattle.std.specs.Prelude.{Option, None, Some}
use lib.Dec.{eqb, leb, ltb}
use lib.ListN.{length}
use borrow.Author.Tests.{eqb-false, ne_eqb}
use Rattle.rules.specs.Basic.{pick, lf, cr, concat, any}
use Rattle.rules.specs.Sheet.{Without, without_none, without_more, escaped, bare, onto, unescape, escape_char, escape, line_of, refused_line}
use Rattle.rules.specs.Event.{Event}
use Rattle.rules.specs.Read.{parse_line}
use Rattle.rules.specs.Write.{write_line}
use Rattle.rules.specs.Finding.{Finding, diag, parsed}
use Rattle.rules.specs.Model.{Item, Block, step_block, text_block}
use Rattle.rules.specs.State.{State, Outcome, recipe, no_recipe, refusal}
use Rattle.rules.specs.Page.{lines_onto, table_lines, meta_line, item_line, block_lines, section_lines, ingredient_line, cookware_line, timer_line, inline_line, finding_line, recipe_part, recipe_page, failed_page}
use Rattle.rules.specs.Plain.{Traced, plain_events, plain_fault, sheet_of}
use Rattle.rules.specs.Input.{Input, with_sheet, context_of, Context}
use Rattle.rules.specs.Answer.{Answer, answered, declined, events_of, Lent, is_short, hand_out, written, collection, collect_answer, gives17, form_answer, fault_or, unless_faulty, form_of, plain_of, plain_answer, printed}
use Rattle.rules.specs.Returns.{Returns}
use Rattle.rules.proofs.Basics.{pick_either, no_truth}
use Rattle.rules.proofs.Fields.{without_both, without_left, unescape_escape, escape_unescape, escape_no_cr, unescape_no_cr, join_no_cr}
use Rattle.rules.proofs.Parsed.{parse_writes}
use Rattle.rules.proofs.Kept.{sheet_writes}

-- ---- what holds no CR

without_any : {s : List ℕ} → Without cr s → any (eqb cr) s ≡ false
unfolding any
without_any without_none = refl
without_any (without_more {c} q h) = rw (ne_eqb 13 c (λ e. eqb-false c 13 q (sym e)), without_any h)

-- ---- lines

line_without : (fs : List (List ℕ)) → Without cr (line_of fs)
unfolding line_of
line_without fs = without_both (join_no_cr fs) (without_more refl without_none)

-- a CR that is read is one that is written
line_ill : (l : List ℕ) → Without lf l → any (eqb cr) l ≡ true → parse_line l ≡ None
line_ill l n q = go (parse_line l) refl
  where
    go : (o : Option Event) → parse_line l ≡ o → o ≡ None
    go None e = refl
    go (Some x) e =
        let w : Without cr (l ++ (lf ∷ [])) = subst (Without cr) (parse_writes l x n e) (unfold write_line in line_without _) in
        no_truth (sym (without_any (without_left l (lf ∷ []) w)) ∙ q)

field_ill : (f : List ℕ) → any (eqb cr) f ≡ true → unescape f ≡ None
field_ill f q = go (unescape f) refl
  where
    go : (o : Option (List ℕ)) → unescape f ≡ o → o ≡ None
    go None e = refl
    go (Some s) e = no_truth (sym (without_any (unescape_no_cr f e)) ∙ q)

sheet_without : (es : List Event) → Without cr (sheet_of es)
unfolding sheet_of write_line
sheet_without [] = without_none
sheet_without (e ∷ es) = without_both (line_without _) (sheet_without es)

-- ---- the page

module _ {A : Type 0} {line : ℕ → A → List ℕ} (w : (k : ℕ) (a : A) → Without cr (line k a)) where
  onto_without : (xs : List A) {rest : List ℕ} → Without cr rest → Without cr (lines_onto line xs rest)
  unfolding lines_onto
  onto_without [] h = h
  onto_without (a ∷ before) h = onto_without before (without_both (w (length before) a) h)

  table_without : (xs : List A) → Without cr (table_lines line xs)
  unfolding table_lines
  table_without xs = onto_without xs without_none

item_without : (k : ℕ) (i : Item) → Without cr (item_line k i)
unfolding item_line
item_without k i = line_without _

block_without : (k : ℕ) (b : Block) → Without cr (block_lines k b)
unfolding block_lines
block_without k (step_block n is) = without_both (line_without _) (table_without item_without is)
block_without k (text_block t) = line_without _

finding_without : (k : ℕ) (f : Finding) → Without cr (finding_line k f)
unfolding finding_line
finding_without k (diag code spans implicit) = line_without _
finding_without k (parsed s n) = line_without _

recipe_without : (st : State) → Without cr (recipe_page st)
unfolding recipe_page recipe_part section_lines meta_line ingredient_line cookware_line timer_line inline_line concat
recipe_without st =
    without_both
    (without_both (line_without _)
    (without_both (table_without (λ k m. line_without _) st.metadata.map)
    (without_both (table_without (λ k s. without_both (line_without _) (table_without block_without s.content)) st.kept.sections)
    (without_both (table_without (λ k e. line_without _) st.tables.ingredients)
    (without_both (table_without (λ k e. line_without _) st.tables.cookware)
    (without_both (table_without (λ k t. line_without _) st.tables.timers)
    (without_both (table_without (λ k q. line_without _) st.tables.inline) without_none)))))))
    (table_without finding_without st.findings)

failed_without : (fs : List Finding) → Without cr (failed_page fs)
unfolding failed_page
failed_without fs = without_both (line_without _) (table_without finding_without fs)

-- ---- what is printed

-- a refusal is a line
refused_without : (n l : ℕ) → Without cr (printed (declined n l))
unfolding printed refused_line
refused_without n l = line_without _

handed_without : (room : ℕ) (bytes : List ℕ) → Without cr bytes → Without cr (printed (hand_out room bytes))
unfolding hand_out
handed_without room bytes h =
    pick_either (λ (a : Answer). Without cr (printed a)) (leb (length bytes) room) (answered bytes) (declined 20 0)
    (λ b. unfold printed in h) (λ b. refused_without 20 0)

written_without : (room : ℕ) (o : Outcome) → Without cr (printed (written room o))
unfolding written
written_without room (recipe st) = handed_without room (recipe_page st) (recipe_without st)
written_without room (no_recipe fs) = handed_without room (failed_page fs) (failed_without fs)
written_without room (refusal n l) = refused_without n l

-- an answer that is refused where too little work memory is lent
short_without : (m : Lent) (a : Answer) → Without cr (printed a) → Without cr (printed (pick (is_short m) (declined 1 0) a))
short_without m a h = pick_either (λ (a : Answer). Without cr (printed a)) (is_short m) (declined 1 0) a (λ b. refused_without 1 0) (λ b. h)

page_without : (i : Input) (m : Lent) → Without cr (printed (collect_answer i m))
unfolding collect_answer
page_without i m = short_without m _ (written_without m.room (collection i))

module _ (i : Input) (room : ℕ) where
  answer_without : (es : List Event) → Without cr (printed (form_answer i room (sheet_of es)))
  unfolding form_answer
  answer_without es =
      pick_either (λ (a : Answer). Without cr (printed a)) (ltb 65536 (length (sheet_of es)) || gives17 (collection (with_sheet (sheet_of es) i))) (declined 24 0) (hand_out room (sheet_of es))
      (λ b. refused_without 24 0) (λ b. handed_without room (sheet_of es) (sheet_without es))

  fault_without : (line : ℕ) (f : Option ℕ) (a : Answer) → Without cr (printed a) → Without cr (printed (fault_or line f a))
  unfolding fault_or
  fault_without line None a h = h
  fault_without line (Some n) a h = refused_without n line

  faulty_without : (cx : Context) (whole : Answer) (ts : List Traced) → Without cr (printed whole) → Without cr (printed (unless_faulty cx whole ts))
  unfolding unless_faulty
  faulty_without cx whole [] h = h
  faulty_without cx whole (t ∷ ts) h = fault_without t.line (plain_fault cx t.state t.event) _ (faulty_without cx whole ts h)

  plain_without : (es : List Event) (o : Outcome) → Without cr (printed (plain_of i room es o))
  unfolding plain_of form_of
  plain_without es (refusal n l) = refused_without n l
  plain_without es (no_recipe fs) = refused_without 21 _
  plain_without es (recipe st) = faulty_without (context_of i) _ _ (answer_without (plain_events (context_of i) _))

form_without : (i : Input) (m : Lent) → Without cr (printed (plain_answer i m))
unfolding plain_answer
form_without i m = short_without m _ (plain_without i m.room (events_of i) (collection i))

-- ---- the promise

pub returns : Returns
returns =
    record {
      reads = unfold unescape escaped bare onto in refl;
      ill = field_ill;
      writes = unfold escape escape_char in refl;
      spells = escape_no_cr;
      back = unescape_escape;
      one = λ f s t l e. escape_unescape f t l e;
      line = line_ill;
      sheet = λ text sheet es q. subst (Without cr) (sheet_writes text sheet es q) (sheet_without es);
      page = page_without;
      form = form_without;
    }
