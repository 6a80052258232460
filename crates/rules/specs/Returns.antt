-- Wish 3, "Carriage returns from the editors' machines": what reading a field and writing a field promise of a CR, and what follows
-- for lines, sheets, pages and plain forms.
use Rattle.std.specs.Prelude.{ℕ, ◌≡◌, List, [], ◌∷◌, true, eqb, None, Some}
use Rattle.rules.specs.Basic.{tab, lf, cr, backslash, any}
use Rattle.rules.specs.Sheet.{Without, unescape, escape}
use Rattle.rules.specs.Event.{Event}
use Rattle.rules.specs.Read.{parse_line}
use Rattle.rules.specs.Input.{Input}
use Rattle.rules.specs.Answer.{events, read_sheet, Lent, collect_answer, plain_answer, printed}

pub record Returns : Type 0 where
  -- "Reading a field": "A field now spells one as `\r`"
  pub reads : unescape (backslash ∷ 114 ∷ []) ≡ Some (cr ∷ [])
  -- "and a bare one counts as ill-formed", wherever in the field it stands
  pub ill : (f : List ℕ) → any (eqb cr) f ≡ true → unescape f ≡ None
  -- "and writing a field": a CR is spelled, none is left
  pub writes : escape (cr ∷ []) ≡ backslash ∷ 114 ∷ []
  pub spells : (s : List ℕ) → Without cr (escape s)
  -- each text has one spelling: what is written reads back, and what was read is what is written
  pub back : (s : List ℕ) → unescape (escape s) ≡ Some s
  pub one : (f s : List ℕ) → Without tab f → Without lf f → unescape f ≡ Some s → escape s ≡ f
  -- "and everything above them follows": a line with a bare CR anywhere, at its end too, and a sheet
  pub line : (l : List ℕ) → Without lf l → any (eqb cr) l ≡ true → parse_line l ≡ None
  pub sheet : (text sheet : List ℕ) (es : List Event) → read_sheet text sheet ≡ events es → Without cr sheet
  -- "in sheets, pages and plain forms": what is printed of any input, with any memory lent
  pub page : (i : Input) (m : Lent) → Without cr (printed (collect_answer i m))
  pub form : (i : Input) (m : Lent) → Without cr (printed (plain_answer i m))
