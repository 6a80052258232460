-- What the functions that go over a text answer.
use Rattle.std.specs.Prelude.{ℕ, ◌+◌, ◌≤◌, ◌-◌, ◌≡◌, Bool, true, false, not, List, eqb, ltb, length, get_or, take, drop}
use Rattle.rules.specs.Basic.{pick, backslash}
use Rattle.rules.specs.Unicode.{is_white_space}
use Rattle.content.specs.Contents.{content_in}
use Rattle.content.specs.Parts.{Field}
use Rattle.rules.specs.Text.{unit_trimmed}
use Rattle.rules.specs.Inline as rules
use Rattle.inline.specs.declared.Span.{Span}

unfoldable pub is_not_white : ℕ → Bool
is_not_white c = not (is_white_space c)

-- how many bytes a character of UTF-8 takes that starts with the byte a
unfoldable pub lead_size : ℕ → ℕ
lead_size a = pick (ltb a 0x80) 1 (pick (ltb a 0xe0) 2 (pick (ltb a 0xf0) 3 4))

-- no White_Space and no escape starts with the byte a: White_Space beyond ASCII starts with c2, e1, e2 or e3
unfoldable pub is_solid : ℕ → Bool
is_solid a = pick (ltb a 0x80) (pick (ltb a 33) false (not (eqb a backslash))) (pick (ltb a 0xe1) (not (eqb a 0xc2)) (ltb 0xe3 a))

-- the byte at place i is e3, and the two after it are not 80 80: of the characters that start with e3, only U+3000 (e3 80 80) is
-- White_Space; a byte that is missing reads as 0
unfoldable pub is_solid_e3 : List ℕ → ℕ → Bool
is_solid_e3 s i = pick (eqb (get_or s i 0) 0xe3) (pick (eqb (get_or s (i + 1) 0) 0x80) (not (eqb (get_or s (i + 2) 0) 0x80)) true) false

-- the bytes from place a to place e
abbrev pub part : ℕ → ℕ → List ℕ → List ℕ
part a e s = take (e - a) (drop a s)

-- from a place on, the characters up to e are the longest front that passes a test
pub record Front (passes : ℕ → Bool) (s : List ℕ) (at e : ℕ) : Type 0 where
  pub from : at ≤ e
  pub to : e ≤ length s
  pub front : content_in (part at e s) ≡ rules.front passes (content_in (drop at s))
  pub behind : content_in (drop e s) ≡ rules.behind passes (content_in (drop at s))
  pub whole : Field (part at e s)
  pub left : Field (drop e s)

-- a minus that ends the characters from i to d starts at m; where there is none, m is d
pub record SignAt (s : List ℕ) (i d m : ℕ) : Type 0 where
  pub from : i ≤ m
  pub to : m ≤ d
  pub before : content_in (part i m s) ≡ rules.without_sign (content_in (part i d s))
  pub is : content_in (part m d s) ≡ rules.sign (content_in (part i d s))
  pub whole : Field (part i m s)
  pub sign : Field (part m d s)

-- the unit's name of the word from a to e
pub record UnitPart (s : List ℕ) (a e : ℕ) (r : Span) : Type 0 where
  pub from : a ≤ r.from
  pub order : r.from ≤ r.to
  pub to : r.to ≤ e
  pub is : content_in (part r.from r.to s) ≡ unit_trimmed (content_in (part a e s))
  pub whole : Field (part r.from r.to s)
