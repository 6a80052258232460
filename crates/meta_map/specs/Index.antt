-- The index of metadata in work memory: a row for each key, chained by the hash of the key, and what the rows stand for.
use Rattle.std.specs.Prelude.{ℕ, zero, suc, ◌+◌, ◌-◌, ◌*◌, ◌≤◌, ◌<◌, ◌≡◌, List, [], ◌∷◌, length, get_or, take, drop, set, Option, None}
use Rattle.std.proofs.lemmas.List.Edits.{sets}
use Rattle.rules.specs.Model.{MetaEntry}
use Rattle.rules.specs.Metadata.{insert_meta}
use Rattle.rules.specs.Page.{table_lines, meta_line}
use Rattle.output.specs.Put.{Put}
use Rattle.content.specs.Contents.{content_in, kept_in}
use Rattle.content.specs.Parts.{Field}
use Rattle.chains.specs.Hashes.{hash_of}
use Rattle.chains.specs.Rows.{find_in, head_in}
use Rattle.model.specs.declared.layout.TheConstants.{INDEX_WORDS}

-- ---- rows of five words: where the key begins and ends in the sheet, where its last value does, and the next of the chain

abbrev pub cell : List ℕ → ℕ → ℕ → ℕ
cell m i j = get_or m (i * 5 + j) 0

-- the heads of the chains follow the rows
abbrev pub head : List ℕ → ℕ → ℕ
head m b = get_or m (20480 + b) 0

abbrev pub part_at : List ℕ → ℕ → ℕ → List ℕ
part_at sheet a e = take (e - a) (drop a sheet)

module _ (sheet m : List ℕ) where
  -- a key is kept with single blanks
  unfoldable pub key_at : ℕ → List ℕ
  key_at i = kept_in (part_at sheet (cell m i 0) (cell m i 1))

  unfoldable pub value_at : ℕ → List ℕ
  value_at i = content_in (part_at sheet (cell m i 2) (cell m i 3))

  -- the map that the first rows stand for, newest first
  unfoldable pub map_in : ℕ → List MetaEntry
  map_in zero = []
  map_in (suc i) = record { key = key_at i; value = value_at i } ∷ map_in i

-- ---- the index of the first n rows

-- a key and a value in the sheet
pub record RowIn (sheet : List ℕ) (ka ke va ve : ℕ) : Type 0 where
  pub key_order : ka ≤ ke
  pub key_most : ke ≤ length sheet
  pub value_order : va ≤ ve
  pub value_most : ve ≤ length sheet
  pub key : Field (part_at sheet ka ke)
  pub value : Field (part_at sheet va ve)

-- the rows are in the sheet; a walk from a head visits the rows with its hash, newest first; no key is there twice
pub record Indexed (sheet m : List ℕ) (n : ℕ) : Type 0 where
  pub long : length m ≡ INDEX_WORDS
  pub few : n ≤ 4096
  pub row : (i : ℕ) → i < n → RowIn sheet (cell m i 0) (cell m i 1) (cell m i 2) (cell m i 3)
  pub heads : (b : ℕ) → b < 1024 → head m b ≡ head_in hash_of (key_at sheet m) b n
  pub nexts : (i : ℕ) → i < n → cell m i 4 ≡ head_in hash_of (key_at sheet m) (hash_of (key_at sheet m i)) i
  pub once : (i : ℕ) → i < n → find_in (key_at sheet m) (key_at sheet m i) i ≡ None

-- ---- what the functions leave

pub record RowFound (sheet m : List ℕ) (n : ℕ) (key : List ℕ) (r : Option ℕ) : Type 0 where
  pub is : r ≡ find_in (key_at sheet m) (kept_in key) n

pub record ValueSet (m₀ : List ℕ) (i va ve : ℕ) (m : List ℕ) : Type 0 where
  pub is : m ≡ sets m₀ (i * 5 + 2) (va ∷ ve ∷ [])

pub record KeyPushed (m₀ : List ℕ) (n b ka ke va ve : ℕ) (m : List ℕ) : Type 0 where
  pub is : m ≡ set (sets m₀ (n * 5) (ka ∷ ke ∷ va ∷ ve ∷ head m₀ b ∷ [])) (20480 + b) (n + 1)

pub record Inserted (sheet m₀ : List ℕ) (n ka ke va ve : ℕ) (m : List ℕ) (r : ℕ) : Type 0 where
  pub map : map_in sheet m r ≡ insert_meta (kept_in (part_at sheet ka ke)) (content_in (part_at sheet va ve)) (map_in sheet m₀ n)
  pub indexed : Indexed sheet m r
  pub count : r ≤ n + 1

-- no row is there
pub record Cleared (m₀ m : List ℕ) : Type 0 where
  pub long : length m ≡ length m₀
  pub heads : (b : ℕ) → b < 1024 → head m b ≡ 0

-- ---- the page's lines

pub record MetaPut (f g o₀ : List ℕ) (at : ℕ) (o : List ℕ) (r : ℕ) : Type 0 where
  pub is : (k : ℕ) → Put (meta_line k (record { key = kept_in f; value = content_in g })) o₀ at o r

pub record MetasPut (sheet m : List ℕ) (n : ℕ) (o₀ : List ℕ) (at : ℕ) (o : List ℕ) (r : ℕ) : Type 0 where
  pub is : Put (table_lines meta_line (map_in sheet m n)) o₀ at o r
