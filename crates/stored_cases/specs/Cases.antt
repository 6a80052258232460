-- What stands in a file of stored cases (crates/replay/data/README.md).
use Rattle.std.specs.Prelude.{ℕ, zero, suc, ◌+◌, ◌-◌, ◌*◌, Bool, ◌&&◌, List, [], ◌∷◌, eqb, leb, ltb, length, get_or, take, drop, Option, None, Some}
use Rattle.std.specs.Option.{option_and_then}
use Rattle.rules.specs.Basic.{pick, codes, blank, lf, is_digit, eq_list}
use Rattle.stored_cases.specs.declared.Number.{Number}
use Rattle.stored_cases.specs.declared.Place.{Place}
use Rattle.stored_cases.specs.declared.NamedPart.{NamedPart}
use Rattle.stored_cases.specs.declared.Case.{Case}

-- ---- places

-- the bytes between two places where these are in order and within s, else none
unfoldable pub part_of : List ℕ → ℕ → ℕ → List ℕ
part_of s from to = pick (leb to (length s) && leb from to) (take (to - from) (drop from s)) []

-- so many bytes on from a place, or the end
unfoldable pub after_of : List ℕ → ℕ → ℕ → ℕ
after_of s at n = pick (leb (at + n) (length s)) (at + n) (length s)

unfoldable pub starts_with : List ℕ → List ℕ → Bool
starts_with s word = eq_list (part_of s 0 (length word)) word

-- the place after a word, if that stands at a place
unfoldable pub past_word : List ℕ → ℕ → List ℕ → Option ℕ
past_word s at word = pick (starts_with (part_of s at (length s)) word) (Some (after_of s at (length word))) None

module _ (end : ℕ) where
  -- where the byte `end` stands first in the bytes s, which start at a place; none where their line or s ends before
  unfoldable pub on_line_from : ℕ → List ℕ → Option ℕ
  on_line_from at [] = None
  on_line_from at (b ∷ s) = pick (eqb b end) (Some at) (pick (eqb b lf) None (on_line_from (at + 1) s))

unfoldable pub on_line : List ℕ → ℕ → ℕ → Option ℕ
on_line s at end = on_line_from end at (drop at s)

-- ---- numbers: one to nine digits, ended by the byte that the format has there

module _ (end : ℕ) where
  -- the number that goes on with the bytes s at a place, after `count` digits that make n
  unfoldable pub number_from : ℕ → ℕ → ℕ → List ℕ → Option Number
  number_from n count at [] = None
  number_from n count at (b ∷ s) =
      pick
      (eqb b end)
      (pick (eqb count 0) None (Some (record { value = n; next = at + 1 })))
      (pick (is_digit b && ltb count 9) (number_from (n * 10 + (b - 48)) (count + 1) (at + 1) s) None)

unfoldable pub number_at : List ℕ → ℕ → ℕ → Option Number
number_at s at end = number_from end 0 0 at (drop at s)

-- what f makes of what o holds, if it holds something
abbrev pub given : {A B : Type 0} → Option A → (A → Option B) → Option B
given o f = option_and_then f o

-- ---- parts: `part`, a name without blank and LF, a length, and on the next line so many bytes, whatever they are, and an LF

-- a part's bytes are ended by an LF within the file, so all of them are within it
unfoldable pub ended : List ℕ → Place → Place → Option NamedPart
ended s name bytes = pick (eqb (get_or s bytes.to 0) lf) (Some (record { name = name; bytes = bytes })) None

-- the part whose line starts at a place; none where that is not as the format says, or the file ends before the part does
unfoldable pub part_at : List ℕ → ℕ → Option NamedPart
part_at s at =
    given (past_word s at (codes "part ")) (λ from.
    given (on_line s from blank) (λ to.
    given (number_at s (to + 1) lf) (λ size.
    ended s (record { from = from; to = to }) (record { from = size.next; to = after_of s size.next size.value }))))

-- a part, and what follows it; nothing where there is none
unfoldable pub with_rest : Option NamedPart → (NamedPart → List NamedPart) → List NamedPart
with_rest None rest = []
with_rest (Some p) rest = p ∷ rest p

-- the parts from a place on, one after the other and at most so many, up to where none stands
unfoldable pub parts_up_to : ℕ → List ℕ → ℕ → List NamedPart
parts_up_to zero s at = []
parts_up_to (suc most) s at = with_rest (part_at s at) (λ p. parts_up_to most s (p.bytes.to + 1))

-- all of them: there are not more than s has bytes
unfoldable pub parts_from : List ℕ → ℕ → List NamedPart
parts_from s at = parts_up_to (length s) s at

-- ---- cases: `case`, the room and the name on a line, and then its parts. What is no part ends it, and the next case starts there

-- the case whose line starts at a place; none where that is not as the format says
unfoldable pub case_at : List ℕ → ℕ → Option Case
case_at s at =
    given (past_word s at (codes "case ")) (λ a.
    given (number_at s a blank) (λ room.
    given (on_line s room.next lf) (λ end.
    Some (record { room = room.value; name = record { from = room.next; to = end }; parts = end + 1 }))))

module _ (s name : List ℕ) where
  -- where the bytes of the first of these parts with that name stand
  unfoldable pub first_named : List NamedPart → Option Place
  first_named [] = None
  first_named (p ∷ ps) = pick (eq_list (part_of s p.name.from p.name.to) name) (Some p.bytes) (first_named ps)

-- the part of a case with a name: the first one, if there are several; parts with other names are passed over
unfoldable pub part_named : List ℕ → Case → List ℕ → Option Place
part_named s c name = first_named s name (parts_from s c.parts)

-- its bytes; none where it is absent
unfoldable pub bytes_or_none : List ℕ → Option Place → List ℕ
bytes_or_none s None = []
bytes_or_none s (Some p) = part_of s p.from p.to

unfoldable pub bytes_named : List ℕ → Case → List ℕ → List ℕ
bytes_named s c name = bytes_or_none s (part_named s c name)

-- the place after these parts, which start at a place
unfoldable pub past_parts : ℕ → List NamedPart → ℕ
past_parts at [] = at
past_parts at (p ∷ ps) = past_parts (p.bytes.to + 1) ps

-- where the next case starts: after this one's last part
unfoldable pub next_case : List ℕ → Case → ℕ
next_case s c = past_parts c.parts (parts_from s c.parts)
