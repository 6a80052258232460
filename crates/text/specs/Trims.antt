-- What the trimmings of fields give.
use Rattle.std.specs.Prelude.{ℕ, ◌-◌, ◌≤◌, ◌<◌, ◌≡◌, Bool, true, false, List, [], ◌∷◌, ◌++◌, length, get_or, take, drop, None}
use Rattle.rules.specs.Basic.{backslash}
use Rattle.rules.specs.Sheet.{escaped}
use Rattle.rules.specs.Text.{trim_start, trim_end, text_outer_trimmed, retain, text_trimmed, is_not_alphabetic}
use Rattle.rules.specs.Unicode.{is_white_space}
use Rattle.rules.specs.Utf8.{later}
use Rattle.output.specs.Put.{Put}
use Rattle.content.specs.Contents.{content_in, spell}
use Rattle.content.specs.Parts.{Field, Cut, CutAt}
use Rattle.text.specs.declared.Dropped.{Dropped}
use Rattle.text.specs.declared.Dropped.TheVariants.{White, NotAlphabetic}
use Rattle.text.specs.declared.ends.Last.{Last}
use Rattle.text.specs.declared.ends.Last.TheVariants.{Stays, Goes, Unclear}

-- the test that a trimming drops by
unfoldable pub drops_of : Dropped → ℕ → Bool
drops_of White = is_white_space
drops_of NotAlphabetic = is_not_alphabetic

-- what is left from a place on, and up to a place
pub record StartAt (drops : ℕ → Bool) (s : List ℕ) (r : ℕ) : Type 0 where
  pub most : r ≤ length s
  pub cut : CutAt s r
  pub is : content_in (drop r s) ≡ trim_start drops (content_in s)

pub record EndAt (drops : ℕ → Bool) (s : List ℕ) (r : ℕ) : Type 0 where
  pub most : r ≤ length s
  pub cut : CutAt s r
  pub is : content_in (take r s) ≡ trim_end drops (content_in s)

-- a character starts at i, or the bytes end there, whatever stands farther before: no character of several bytes goes over i,
-- and no escape
pub record CharStarts (s : List ℕ) (i : ℕ) : Type 0 where
  pub starts : 0 < i → later (get_or s i 0) ≡ false
  pub apart : 0 < i → get_or s (i - 1) 0 ≡ backslash → escaped (get_or s i 0) ≡ None

-- the last character of s is c, and starts at i
pub record LastChar (s : List ℕ) (i c : ℕ) : Type 0 where
  pub inside : i < length s
  pub begins : CharStarts s i
  pub is : content_in (drop i s) ≡ c ∷ []

-- what the last character tells of a trimming: it stays, or it goes and starts at a place; or nothing is told
pub data LastOf (drops : ℕ → Bool) (s : List ℕ) : Last → Type 0 where
  last_stays : {i c : ℕ} → LastChar s i c → drops c ≡ false → LastOf drops s Stays
  last_goes : {i c : ℕ} → LastChar s i c → drops c ≡ true → LastOf drops s (Goes i)
  last_unclear : LastOf drops s Unclear

-- r is the part of the field s that a trimming of its content leaves
pub record TrimmedBy (trim : List ℕ → List ℕ) (s r : List ℕ) : Type 0 where
  pub is : content_in r ≡ trim (content_in s)
  pub front : List ℕ
  pub back : List ℕ
  pub part : s ≡ front ++ (r ++ back)
  pub cut : Cut front (r ++ back)
  pub cut_back : Cut r back
  pub field : Field s → Field r

abbrev pub TrimmedTo : List ℕ → List ℕ → Type 0
TrimmedTo s r = TrimmedBy text_outer_trimmed s r

-- the field s, trimmed, was written at a position of a buffer, as its content is spelled
pub record PutTrimmed (s o₀ : List ℕ) (at : ℕ) (o : List ℕ) (r : ℕ) : Type 0 where
  pub part : List ℕ
  pub trimmed : TrimmedTo s part
  pub put : Put (retain 0 part) o₀ at o r
  pub is : Field s → retain 0 part ≡ spell (text_trimmed (content_in s))
