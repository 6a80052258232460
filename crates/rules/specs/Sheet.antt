-- Lines, fields, escapes, numbers, over bytes (document 01, "The event sheet").
use Rattle.std.specs.Prelude.{ℕ, ◌+◌, ◌-◌, ◌*◌, ◌≡◌, List, [], ◌∷◌, ◌++◌, Bool, true, false, eqb, leb, Option, None, Some}
use Rattle.rules.specs.Basic.{pick, codes, tab, lf, cr, backslash, minus, is_digit, each, split_at, join_by, decimal}

-- "UTF-8 lines, each ended by LF": the lines of some bytes, and what stands after the last LF
pub data Lines : Type 0 where
  last : List ℕ → Lines
  more : List ℕ → Lines → Lines

unfoldable pub on_line : ℕ → Lines → Lines
on_line b (last l) = last (b ∷ l)
on_line b (more l ls) = more (b ∷ l) ls

unfoldable pub lines : List ℕ → Lines
lines [] = last []
lines (b ∷ r) = pick (eqb b lf) (more [] (lines r)) (on_line b (lines r))

-- no b among these: no LF in a line, no tab in a field
pub data Without (b : ℕ) : List ℕ → Type 0 where
  without_none : Without b []
  without_more : {c : ℕ} {s : List ℕ} → eqb c b ≡ false → Without b s → Without b (c ∷ s)

-- "fields parted by tab": the fields of a line, still escaped
unfoldable pub fields_of : List ℕ → List (List ℕ)
fields_of line = split_at tab line

-- "Inside a field `\\`, `\t`, `\n` stand for backslash, tab, LF"; Wish 3: "a field now spells one as `\r`". No other use of a
-- backslash is well formed.
unfoldable pub escaped : ℕ → Option ℕ
escaped c =
    pick (eqb c backslash) (Some backslash) (pick (eqb c 116) (Some tab) (pick (eqb c 110) (Some lf) (pick (eqb c 114) (Some cr) None)))

-- any other byte stands for itself, but for CR: "a bare one counts as ill-formed"
unfoldable pub bare : ℕ → Option ℕ
bare c = pick (eqb c cr) None (Some c)

unfoldable pub onto : Option ℕ → Option (List ℕ) → Option (List ℕ)
onto None s = None
onto (Some c) None = None
onto (Some c) (Some s) = Some (c ∷ s)

unfoldable pub unescape : List ℕ → Option (List ℕ)
unescape [] = Some []
unescape (c ∷ []) = pick (eqb c backslash) None (onto (bare c) (Some []))
unescape (c ∷ d ∷ s) = pick (eqb c backslash) (onto (escaped d) (unescape s)) (onto (bare c) (unescape (d ∷ s)))

unfoldable pub escape_char : ℕ → List ℕ
escape_char c =
    pick (eqb c backslash) (backslash ∷ backslash ∷ [])
    (pick (eqb c tab) (backslash ∷ 116 ∷ []) (pick (eqb c lf) (backslash ∷ 110 ∷ []) (pick (eqb c cr) (backslash ∷ 114 ∷ []) (c ∷ []))))

unfoldable pub escape : List ℕ → List ℕ
escape [] = []
escape (c ∷ s) = escape_char c ++ escape s

-- the line of some fields, with its LF; pages escape their fields as the sheet does
unfoldable pub line_of : List (List ℕ) → List ℕ
line_of fs = join_by tab (each escape fs) ++ (lf ∷ [])

-- "a refusal prints `refused`, number, line"
unfoldable pub refused_line : ℕ → ℕ → List ℕ
refused_line number line = line_of (codes "refused" ∷ decimal number ∷ decimal line ∷ [])

-- "Numbers are decimal without leading zeros, zero without sign, at most 65535."
unfoldable pub digits_from : ℕ → List ℕ → Option ℕ
digits_from n [] = Some n
digits_from n (c ∷ s) = pick (is_digit c) (digits_from (n * 10 + (c - 48)) s) None

unfoldable pub at_most : ℕ → Option ℕ → Option ℕ
at_most m None = None
at_most m (Some n) = pick (leb n m) (Some n) None

unfoldable pub only_zero : List ℕ → Option ℕ
only_zero [] = Some 0
only_zero (c ∷ s) = None

unfoldable pub number_up_to : ℕ → List ℕ → Option ℕ
number_up_to m [] = None
number_up_to m (c ∷ s) = pick (eqb c 48) (only_zero s) (at_most m (digits_from 0 (c ∷ s)))

unfoldable pub number_of : List ℕ → Option ℕ
number_of f = number_up_to 65535 f

-- "−32768 to 32767", with an ASCII minus
pub record Signed : Type 0 where
  pub negative : Bool
  pub size : ℕ

unfoldable pub signed_as : Bool → Option ℕ → Option Signed
signed_as b None = None
signed_as false (Some n) = Some (record { negative = false; size = n })
signed_as true (Some n) = pick (eqb n 0) None (Some (record { negative = true; size = n }))

unfoldable pub signed_of : List ℕ → Option Signed
signed_of [] = None
signed_of (c ∷ s) = pick (eqb c minus) (signed_as true (number_up_to 32768 s)) (signed_as false (number_up_to 32767 (c ∷ s)))
