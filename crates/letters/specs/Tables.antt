-- The tables of Unicode as one list of numbers, column after column.
use Rattle.std.specs.Prelude.{ℕ, zero, suc, ◌+◌, ◌-◌, List, [], ◌∷◌, ◌++◌, ltb, get_or}
use Rattle.rules.specs.Basic.{pick}
use Rattle.rules.specs.Ranges.{Range, ◌to◌, FoldLine, ◌folds_to◌}
use Rattle.rules.specs.Alphabetic.{alphabetic}
use Rattle.rules.specs.Numeric.{numeric}
use Rattle.rules.specs.WhiteSpace.{white_space}
use Rattle.rules.specs.Folding.{folding}
use Rattle.rules.specs.Unicode.{fold}

-- the columns of ranges
unfoldable pub starts : List Range → List ℕ
starts [] = []
starts ((a to b) ∷ rs) = a ∷ starts rs

unfoldable pub ends : List Range → List ℕ
ends [] = []
ends ((a to b) ∷ rs) = b ∷ ends rs

-- the columns of folding lines: the keys, and the code points at place i of the mappings (0: none)
unfoldable pub keys : List FoldLine → List ℕ
keys [] = []
keys ((k folds_to m) ∷ ls) = k ∷ keys ls

module _ (i : ℕ) where
  unfoldable pub column : List FoldLine → List ℕ
  column [] = []
  column ((k folds_to m) ∷ ls) = get_or m i 0 ∷ column ls

-- how many keys are below c
unfoldable pub keys_below : ℕ → List FoldLine → ℕ
keys_below c [] = 0
keys_below c ((k folds_to m) ∷ ls) = pick (ltb k c) (1 + keys_below c ls) 0

-- the word of c, where m is what c folds to: the one code point of m; or, where m has several, 0x110000 and the place of c's line
unfoldable pub word_for : ℕ → List ℕ → ℕ
word_for c [] = 0
word_for c (x ∷ []) = x
word_for c (x ∷ y ∷ xs) = 0x110000 + keys_below c folding

-- the word of c
unfoldable pub near_word : ℕ → ℕ
near_word c = word_for c (fold c)

-- the code points that have a word each: U+0080 to U+0587, then U+1E00 to U+1FFF
unfoldable pub near_code : ℕ → ℕ
near_code i = pick (ltb i 1288) (0x80 + i) (0x1e00 + (i - 1288))

-- the n words from the place i on
unfoldable pub near : ℕ → ℕ → List ℕ
near i zero = []
near i (suc n) = near_word (near_code i) ∷ near (suc i) n

unfoldable pub unicode_tables : List ℕ
unicode_tables =
    starts white_space ++ ends white_space ++ starts alphabetic ++ ends alphabetic ++ starts numeric ++ ends numeric ++
    keys folding ++ column 0 folding ++ column 1 folding ++ column 2 folding ++ near 0 1800
