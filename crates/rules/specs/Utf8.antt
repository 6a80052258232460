-- Well-formed UTF-8 (the Unicode Standard, table 3-7), the code points of a text, and their bytes.
use Rattle.std.specs.Prelude.{ℕ, zero, suc, pred, ◌+◌, ◌*◌, ◌/◌, ◌%◌, ◌<◌, ◌≡◌, Bool, false, ◌&&◌, not, List, [], ◌∷◌, ◌++◌, leb, ltb, eqb, get_or, Option, None, Some}
use Rattle.rules.specs.Basic.{pick, within, is_some}

-- a scalar value: a code point that is no surrogate
pub record Scalar (c : ℕ) : Type 0 where
  pub top : c < 0x110000
  pub gap : within 0xd800 0xdfff c ≡ false

-- ---- table 3-7

-- how many bytes the character takes that starts with the byte a; 0: none starts so
unfoldable pub size_of : ℕ → ℕ
size_of a = pick (leb a 0x7f) 1 (pick (within 0xc2 0xdf a) 2 (pick (within 0xe0 0xef a) 3 (pick (within 0xf0 0xf4 a) 4 0)))

-- the least and the greatest second byte after the first byte a
unfoldable pub lowest : ℕ → ℕ
lowest a = pick (eqb a 0xe0) 0xa0 (pick (eqb a 0xf0) 0x90 0x80)

unfoldable pub highest : ℕ → ℕ
highest a = pick (eqb a 0xed) 0x9f (pick (eqb a 0xf4) 0x8f 0xbf)

-- b may stand second after a; b may stand third or fourth
unfoldable pub second : ℕ → ℕ → Bool
second a b = within (lowest a) (highest a) b

unfoldable pub later : ℕ → Bool
later b = within 0x80 0xbf b

-- the code point of the character of n bytes that starts with a and goes on with s, if they are one;
-- a byte that is missing reads as 0, which stands neither second nor later
unfoldable pub sized : ℕ → ℕ → List ℕ → Option ℕ
sized zero a s = None
sized (suc zero) a s = Some a
sized (suc (suc zero)) a s = pick (second a (get_or s 0 0)) (Some (a % 32 * 64 + get_or s 0 0 % 64)) None
sized (suc (suc (suc zero))) a s =
    pick (second a (get_or s 0 0) && later (get_or s 1 0)) (Some (a % 16 * 4096 + get_or s 0 0 % 64 * 64 + get_or s 1 0 % 64)) None
sized (suc (suc (suc (suc n)))) a s =
    pick (second a (get_or s 0 0) && later (get_or s 1 0) && later (get_or s 2 0))
    (Some (a % 8 * 262144 + get_or s 0 0 % 64 * 4096 + get_or s 1 0 % 64 * 64 + get_or s 2 0 % 64)) None

-- the character that the bytes a ∷ s start with
unfoldable pub first_of : ℕ → List ℕ → Option ℕ
first_of a s = sized (size_of a) a s

-- ---- whether bytes are UTF-8

-- the place of the first byte at which a character should start and none does;
-- the bytes start at the place `at`, and k of them are left of the character before
unfoldable pub fault_or : ℕ → Option ℕ → Option ℕ → Option ℕ
fault_or at None rest = Some at
fault_or at (Some c) rest = rest

unfoldable pub fault_from : ℕ → ℕ → List ℕ → Option ℕ
fault_from at k [] = None
fault_from at (suc k) (a ∷ s) = fault_from (suc at) k s
fault_from at zero (a ∷ s) = fault_or at (first_of a s) (fault_from (suc at) (pred (size_of a)) s)

unfoldable pub first_fault : List ℕ → Option ℕ
first_fault bytes = fault_from 0 0 bytes

unfoldable pub is_utf8 : List ℕ → Bool
is_utf8 bytes = not (is_some (first_fault bytes))

-- place i of a UTF-8 text is inside a character (not `str::is_char_boundary`); past the text it is not
unfoldable pub is_inside : List ℕ → ℕ → Bool
is_inside text i = later (get_or text i 0)

-- ---- the code points of any bytes; a byte at which no character starts reads as U+FFFD

unfoldable pub char_or : Option ℕ → ℕ
char_or None = 0xfffd
char_or (Some c) = c

-- how many bytes follow the byte a in its character
unfoldable pub followers : ℕ → Option ℕ → ℕ
followers a None = 0
followers a (Some c) = pred (size_of a)

-- k bytes are left of the character before
unfoldable pub chars_from : ℕ → List ℕ → List ℕ
chars_from k [] = []
chars_from (suc k) (a ∷ s) = chars_from k s
chars_from zero (a ∷ s) = char_or (first_of a s) ∷ chars_from (followers a (first_of a s)) s

unfoldable pub chars : List ℕ → List ℕ
chars bytes = chars_from 0 bytes

-- ---- the bytes of a code point, and of a text

unfoldable pub encode_char : ℕ → List ℕ
encode_char c =
    pick (ltb c 0x80) (c ∷ [])
    (pick (ltb c 0x800) ((0xc0 + c / 64) ∷ (0x80 + c % 64) ∷ [])
    (pick (ltb c 0x10000) ((0xe0 + c / 4096) ∷ (0x80 + c / 64 % 64) ∷ (0x80 + c % 64) ∷ [])
    ((0xf0 + c / 262144) ∷ (0x80 + c / 4096 % 64) ∷ (0x80 + c / 64 % 64) ∷ (0x80 + c % 64) ∷ [])))

unfoldable pub encode : List ℕ → List ℕ
encode [] = []
encode (c ∷ cs) = encode_char c ++ encode cs
