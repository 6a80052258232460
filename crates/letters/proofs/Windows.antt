-- What the columns of the tables are.
use Prim.Native.Nat.{ℕ, ◌<◌, ◌+◌}
use mathlib.Core.Path.{◌≡◌, refl, sym, ◌∙◌}
use mathlib.Core.List.{List}
use lib.ListN.{length, get_or, take, drop}
use lib.Seq.{get_or-take, get_or-drop}
use Rattle.rules.specs.Alphabetic.{alphabetic}
use Rattle.rules.specs.Numeric.{numeric}
use Rattle.rules.specs.WhiteSpace.{white_space}
use Rattle.rules.specs.Ranges.{lookup}
use Rattle.rules.specs.Folding.{folding}
use Rattle.rules.specs.Unicode.{fold}
use Rattle.letters.specs.Folded.{row_of}
use Rattle.letters.specs.Tables.{starts, ends, keys, column, keys_below, word_for, near_word, near_code, near, unicode_tables}

-- the tables hold what the rules say: each column stands where the code reads it
pub record Columns (t : List ℕ) : Type 0 where
  pub long : length t ≡ 9850
  pub white_starts : take 10 (drop 0 t) ≡ starts white_space
  pub white_ends : take 10 (drop 10 t) ≡ ends white_space
  pub alphabetic_starts : take 757 (drop 20 t) ≡ starts alphabetic
  pub alphabetic_ends : take 757 (drop 777 t) ≡ ends alphabetic
  pub numeric_starts : take 144 (drop 1534 t) ≡ starts numeric
  pub numeric_ends : take 144 (drop 1678 t) ≡ ends numeric
  pub fold_keys : take 1557 (drop 1822 t) ≡ keys folding
  pub fold_first : take 1557 (drop 3379 t) ≡ column 0 folding
  pub fold_second : take 1557 (drop 4936 t) ≡ column 1 folding
  pub fold_third : take 1557 (drop 6493 t) ≡ column 2 folding
  pub fold_near : take 1800 (drop 8050 t) ≡ near 0 1800

all_columns : Columns unicode_tables
unfolding unicode_tables starts ends keys column keys_below word_for near_word near_code near white_space alphabetic numeric folding fold lookup
all_columns =
    record {
      long = refl;
      white_starts = refl;
      white_ends = refl;
      alphabetic_starts = refl;
      alphabetic_ends = refl;
      numeric_starts = refl;
      numeric_ends = refl;
      fold_keys = refl;
      fold_first = refl;
      fold_second = refl;
      fold_third = refl;
      fold_near = refl;
    }

pub columns : {t : List ℕ} → t ≡ unicode_tables → Columns t
columns e = rw e all_columns

-- an element of a window
pub in_window : (n a : ℕ) (t : List ℕ) (k : ℕ) → k < n → get_or t (a + k) 0 ≡ get_or (take n (drop a t)) k 0
in_window n a t k h = sym (get_or-take n (drop a t) k 0 h ∙ get_or-drop a t k 0)

-- the row at a place of the folding
abbrev pub row_in : ℕ → List ℕ
row_in k = row_of (get_or (column 0 folding) k 0) (get_or (column 1 folding) k 0) (get_or (column 2 folding) k 0)

pub row_window : {t : List ℕ} → t ≡ unicode_tables → (k : ℕ) → k < 1557 → row_of (get_or t (3379 + k) 0) (get_or t (4936 + k) 0) (get_or t (6493 + k) 0) ≡ row_in k
row_window {t} e k h =
    rw (
      in_window 1557 3379 t k h,
      in_window 1557 4936 t k h,
      in_window 1557 6493 t k h,
      (columns e).fold_first,
      (columns e).fold_second,
      (columns e).fold_third,
    )
