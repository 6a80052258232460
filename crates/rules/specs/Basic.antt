-- Small words that all rules share.
use Rattle.std.specs.Prelude.{ℕ, zero, suc, ◌+◌, ◌/◌, ◌%◌, List, [], ◌∷◌, ◌++◌, Bool, true, false, ◌&&◌, ◌||◌, eqb, leb, ltb, Option, None, Some}
use Prim.Native.Char.{code}
use Prim.Native.String.{String}

-- the one choice: x where the test says yes, else y
abbrev pub pick {ℓ} : {X : Type ℓ} → Bool → X → X → X
pick true x y = x
pick false x y = y

-- the code points of a quoted word: codes "end" is 101 ∷ 110 ∷ 100 ∷ []
abbrev pub codes : String → List ℕ
codes String.[] = []
codes (String.◌∷◌ c s) = code c ∷ codes s

-- characters that the rules name
abbrev pub tab : ℕ
tab = 9

abbrev pub lf : ℕ
lf = 10

abbrev pub cr : ℕ
cr = 13

abbrev pub blank : ℕ
blank = 32

abbrev pub comma : ℕ
comma = 44

abbrev pub minus : ℕ
minus = 45

abbrev pub point : ℕ
point = 46

abbrev pub slash : ℕ
slash = 47

abbrev pub backslash : ℕ
backslash = 92

-- lo ≤ x ≤ hi
abbrev pub within : ℕ → ℕ → ℕ → Bool
within lo hi x = leb lo x && leb x hi

-- an ASCII digit
abbrev pub is_digit : ℕ → Bool
is_digit c = within 48 57 c

-- two lists of numbers are equal
unfoldable pub eq_list : List ℕ → List ℕ → Bool
eq_list [] [] = true
eq_list [] (y ∷ ys) = false
eq_list (x ∷ xs) [] = false
eq_list (x ∷ xs) (y ∷ ys) = pick (eqb x y) (eq_list xs ys) false

module _ {A : Type 0} where
  unfoldable pub is_empty : List A → Bool
  is_empty [] = true
  is_empty (x ∷ xs) = false

  unfoldable pub concat : List (List A) → List A
  concat [] = []
  concat (l ∷ ls) = l ++ concat ls

  -- one entry where the test says yes, else none
  unfoldable pub when : Bool → A → List A
  when true a = a ∷ []
  when false a = []

  unfoldable pub is_some : Option A → Bool
  is_some None = false
  is_some (Some a) = true

module _ {A : Type 0} (test : A → Bool) where
  unfoldable pub any : List A → Bool
  any [] = false
  any (x ∷ xs) = test x || any xs

  unfoldable pub all : List A → Bool
  all [] = true
  all (x ∷ xs) = test x && all xs

module _ {A B : Type 0} (f : A → B) where
  unfoldable pub on_some : Option A → Option B
  on_some None = None
  on_some (Some a) = Some (f a)

  unfoldable pub each : List A → List B
  each [] = []
  each (x ∷ xs) = f x ∷ each xs

-- what a word stands for in a table of words
module _ {A : Type 0} (w : List ℕ) where
  unfoldable pub word_in : List (List ℕ × A) → Option A
  word_in [] = None
  word_in (e ∷ es) = pick (eq_list w e.0) (Some e.1) (word_in es)

-- a list split at each separator: one part more than there are separators
unfoldable pub on_first : ℕ → List (List ℕ) → List (List ℕ)
on_first x [] = (x ∷ []) ∷ []
on_first x (f ∷ fs) = (x ∷ f) ∷ fs

module _ (separator : ℕ) where
  unfoldable pub split_at : List ℕ → List (List ℕ)
  split_at [] = [] ∷ []
  split_at (x ∷ xs) = pick (eqb x separator) ([] ∷ split_at xs) (on_first x (split_at xs))

  -- its inverse
  unfoldable pub join_by : List (List ℕ) → List ℕ
  join_by [] = []
  join_by (f ∷ []) = f
  join_by (f ∷ g ∷ fs) = f ++ (separator ∷ join_by (g ∷ fs))

-- the decimal spelling of n, which has at most k digits
unfoldable pub digits : ℕ → ℕ → List ℕ
digits zero n = []
digits (suc k) n = pick (ltb n 10) ((48 + n) ∷ []) (digits k (n / 10) ++ ((48 + n % 10) ∷ []))

-- the numbers of these rules are below 2 ^ 32 and so have ten digits at most
unfoldable pub decimal : ℕ → List ℕ
decimal n = digits 10 n
