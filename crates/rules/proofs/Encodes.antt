-- UTF-8 there and back: the bytes of scalar values read as these, and UTF-8 is the bytes of what it reads as.
use Prim.Native.Nat.{ℕ, zero, suc, pred, ◌+◌, ◌*◌, ◌/◌, ◌%◌, ◌≤◌, ◌<◌}
use mathlib.Core.Path.{◌≡◌, refl, sym, ap, ◌∙◌}
use mathlib.Core.List.{List, [], ◌∷◌, ◌++◌}
use mathlib.Core.Bool.{true}
use native.Mathlib.Omega.{arith}
use lib.Dec.{ltb}
use lib.ListN.{length, take}
use lib.Seq.{drop-append_seam}
use borrow.Author.Tests.{ltb-true, ltb-false, lt-ltb, le-ltb}
use Rattle.rules.specs.Utf8.{size_of, second, later, chars_from, chars, is_utf8, encode_char, encode, Scalar}
use Rattle.rules.proofs.Basics.{pick_either, by_order}
use Rattle.rules.proofs.Begins.{Begins, one, two, three, four, begins_more, size_1, size_2, size_3, size_4, second_yes, second_from, second_to, low_at, later_yes, later_from, later_to}
use Rattle.rules.proofs.Chars.{well_from, well_utf8, chars_begins, well_begins, starts, skip_chars, skip_well}
use Rattle.rules.proofs.Scalars.{Scalars, scalars_none, scalars_more, scalar_low}

-- ---- the bytes of a scalar value

-- w is bytes of the character c and no more
pub record Spelled (c : ℕ) (w : List ℕ) : Type 0 where
  pub lead : ℕ
  pub rest : List ℕ
  pub is : w ≡ lead ∷ rest
  pub begin : Begins lead rest c
  pub size : pred (size_of lead) ≡ length rest

spell_1 : (c : ℕ) → c < 128 → Spelled c (c ∷ [])
spell_1 c h = let l : c ≤ 127 = omega arith in record { lead = c; rest = []; is = refl; begin = one l; size = rw (size_1 c l) }

spell_2 : (a b c : ℕ) → 194 ≤ a → a ≤ 223 → second a b ≡ true → a % 32 * 64 + b % 64 ≡ c → Spelled c (a ∷ b ∷ [])
spell_2 a b c h g q e = record { lead = a; rest = b ∷ []; is = refl; begin = rw (sym e) (two h g q); size = rw (size_2 a h g) }

spell_3 : (a b d c : ℕ) → 224 ≤ a → a ≤ 239 → second a b ≡ true → later d ≡ true → a % 16 * 4096 + b % 64 * 64 + d % 64 ≡ c
    → Spelled c (a ∷ b ∷ d ∷ [])
spell_3 a b d c h g q l e = record { lead = a; rest = b ∷ d ∷ []; is = refl; begin = rw (sym e) (three h g q l); size = rw (size_3 a h g) }

spell_4 : (a b d e c : ℕ) → 240 ≤ a → a ≤ 244 → second a b ≡ true → later d ≡ true → later e ≡ true
    → a % 8 * 262144 + b % 64 * 4096 + d % 64 * 64 + e % 64 ≡ c → Spelled c (a ∷ b ∷ d ∷ e ∷ [])
spell_4 a b d e c h g q l m x =
    record { lead = a; rest = b ∷ d ∷ e ∷ []; is = refl; begin = rw (sym x) (four h g q l m); size = rw (size_4 a h g) }

quotient_2 : (c : ℕ) → c / 4096 * 64 + c / 64 % 64 ≡ c / 64
quotient_2 c = omega arith

quotient_3 : (c : ℕ) → c / 262144 * 64 + c / 4096 % 64 ≡ c / 4096
quotient_3 c = omega arith

first_4 : (x : ℕ) → x < 5 → (240 + x) % 8 ≡ x
first_4 x h = omega arith

rest_4 : (x : ℕ) → (128 + x % 64) % 64 ≡ x % 64
rest_4 x = omega arith

joined_4 : (c q1 q2 q3 r1 r2 r3 : ℕ) → q1 * 64 + r1 ≡ c → q2 * 64 + r2 ≡ q1 → q3 * 64 + r3 ≡ q2 → q3 * 262144 + r3 * 4096 + r2 * 64 + r1 ≡ c
joined_4 c q1 q2 q3 r1 r2 r3 a b d = omega arith

sum_4 : (c : ℕ) → c < 1114112
    → (240 + c / 262144) % 8 * 262144 + (128 + c / 4096 % 64) % 64 * 4096 + (128 + c / 64 % 64) % 64 * 64 + (128 + c % 64) % 64 ≡ c
sum_4 c h =
    rw (first_4 (c / 262144) (omega arith), rest_4 (c / 4096), rest_4 (c / 64), rest_4 c)
    (joined_4 c (c / 64) (c / 4096) (c / 262144) (c % 64) (c / 64 % 64) (c / 4096 % 64) (omega arith) (quotient_2 c) (quotient_3 c))

surrogate : (c : ℕ) → Scalar c → 224 + c / 4096 ≡ 237 → 128 + c / 64 % 64 ≤ 159
surrogate c s e = let l : c < 55296 = scalar_low c s (omega arith) in omega arith

pub spelled : (c : ℕ) → Scalar c → Spelled c (encode_char c)
unfolding encode_char
spelled c s =
    pick_either P (ltb c 128) _ _ (λ b. spell_1 c (ltb-true c 128 b))
    (λ n1. pick_either P (ltb c 2048) _ _
    (λ b. let l : 128 ≤ c = ltb-false c 128 n1 in let h : c < 2048 = ltb-true c 2048 b in
    spell_2 (192 + c / 64) (128 + c % 64) c (omega arith) (omega arith)
    (second_yes _ _ (omega arith) (omega arith) (λ e. absurd (omega arith)) (λ e. absurd (omega arith)) (λ e. absurd (omega arith)) (λ e. absurd (omega arith)))
    (omega arith))
    (λ n2. pick_either P (ltb c 65536) _ _
    (λ b. let l : 2048 ≤ c = ltb-false c 2048 n2 in let h : c < 65536 = ltb-true c 65536 b in
    spell_3 (224 + c / 4096) (128 + c / 64 % 64) (128 + c % 64) c (omega arith) (omega arith)
    (second_yes _ _ (omega arith) (omega arith) (λ e. omega arith) (λ e. absurd (omega arith)) (λ e. surrogate c s e) (λ e. absurd (omega arith)))
    (later_yes _ (omega arith) (omega arith)) (omega arith))
    (λ n3. let l : 65536 ≤ c = ltb-false c 65536 n3 in let h : c < 1114112 = s.top in
    spell_4 (240 + c / 262144) (128 + c / 4096 % 64) (128 + c / 64 % 64) (128 + c % 64) c (omega arith) (omega arith)
    (second_yes _ _ (omega arith) (omega arith) (λ e. absurd (omega arith)) (λ e. omega arith) (λ e. absurd (omega arith)) (λ e. omega arith))
    (later_yes _ (omega arith) (omega arith)) (later_yes _ (omega arith) (omega arith)) (sum_4 c h))))
  where
    P : List ℕ → Type 0
    P l = Spelled c l

pub spelled_chars : {c : ℕ} {w : List ℕ} (t : List ℕ) → Spelled c w → chars_from 0 (w ++ t) ≡ c ∷ chars_from 0 t
spelled_chars t g =
    rw g.is (chars_begins (begins_more t g.begin) ∙ rw (g.size, skip_chars (length g.rest) (g.rest ++ t), drop-append_seam g.rest t))

pub spelled_well : {c : ℕ} {w : List ℕ} (t : List ℕ) → Spelled c w → well_from 0 (w ++ t) ≡ well_from 0 t
spelled_well t g =
    rw g.is (well_begins (begins_more t g.begin) ∙ rw (g.size, skip_well (length g.rest) (g.rest ++ t), drop-append_seam g.rest t))

pub chars_encode : {cs : List ℕ} → Scalars cs → chars (encode cs) ≡ cs
unfolding chars encode chars_from
chars_encode scalars_none = refl
chars_encode (scalars_more {c} {s} h g) = spelled_chars (encode s) (spelled c h) ∙ rw (chars_encode g)

well_encode : {cs : List ℕ} → Scalars cs → well_from 0 (encode cs) ≡ true
unfolding encode well_from
well_encode scalars_none = refl
well_encode (scalars_more {c} {s} h g) = spelled_well (encode s) (spelled c h) ∙ well_encode g

pub utf8_encode : {cs : List ℕ} → Scalars cs → is_utf8 (encode cs) ≡ true
utf8_encode {cs} h = well_utf8 (encode cs) ∙ well_encode h

-- ---- the bytes of what was read

pub encode_1 : (c : ℕ) → c < 128 → encode_char c ≡ c ∷ []
unfolding encode_char
encode_1 c h = rw (lt-ltb c 128 h)

encode_2 : (c a b : ℕ) → 128 ≤ c → c < 2048 → 192 + c / 64 ≡ a → 128 + c % 64 ≡ b → encode_char c ≡ a ∷ b ∷ []
unfolding encode_char
encode_2 c a b h g e f = rw (le-ltb c 128 h, lt-ltb c 2048 g, e, f)

encode_3 : (c a b d : ℕ) → 2048 ≤ c → c < 65536 → 224 + c / 4096 ≡ a → 128 + c / 64 % 64 ≡ b → 128 + c % 64 ≡ d → encode_char c ≡ a ∷ b ∷ d ∷ []
unfolding encode_char
encode_3 c a b d h g e f i = rw (le-ltb c 128 (omega arith), le-ltb c 2048 h, lt-ltb c 65536 g, e, f, i)

encode_4 : (c a b d x : ℕ) → 65536 ≤ c → 240 + c / 262144 ≡ a → 128 + c / 4096 % 64 ≡ b → 128 + c / 64 % 64 ≡ d → 128 + c % 64 ≡ x
    → encode_char c ≡ a ∷ b ∷ d ∷ x ∷ []
unfolding encode_char
encode_4 c a b d x h e f i j = rw (le-ltb c 128 (omega arith), le-ltb c 2048 (omega arith), le-ltb c 65536 h, e, f, i, j)

read_2 : (x y a b : ℕ) → 192 + x ≡ a → 128 + y ≡ b → 2 ≤ x → x < 32 → y < 64 → encode_char (x * 64 + y) ≡ a ∷ b ∷ []
read_2 x y a b e f l h g = encode_2 _ a b (omega arith) (omega arith) (omega arith) (omega arith)

read_3 : (x y z a b d : ℕ) → 224 + x ≡ a → 128 + y ≡ b → 128 + z ≡ d → x < 16 → y < 64 → z < 64 → 32 ≤ x * 64 + y
    → encode_char (x * 4096 + y * 64 + z) ≡ a ∷ b ∷ d ∷ []
read_3 x y z a b d e f i h g j l = encode_3 _ a b d (omega arith) (omega arith) (omega arith) (omega arith) (omega arith)

read_4 : (x y z w a b d v : ℕ) → 240 + x ≡ a → 128 + y ≡ b → 128 + z ≡ d → 128 + w ≡ v → y < 64 → z < 64 → w < 64 → 16 ≤ x * 64 + y
    → encode_char (x * 262144 + y * 4096 + z * 64 + w) ≡ a ∷ b ∷ d ∷ v ∷ []
read_4 x y z w a b d v e f i k g j m l = encode_4 _ a b d v (omega arith) (omega arith) (omega arith) (omega arith) (omega arith)

-- the least second bytes rule out longer bytes than needed
pub least_3 : (a b : ℕ) → 224 ≤ a → a ≤ 239 → second a b ≡ true → 32 ≤ a % 16 * 64 + b % 64
least_3 a b h g q = by_order a 224 (λ l. let e : a ≡ 224 = omega arith in let k : 160 ≤ b = low_at a b 160 q (rw e) in let u = second_to a b q in omega arith) (λ l. omega arith)

pub least_4 : (a b : ℕ) → 240 ≤ a → a ≤ 244 → second a b ≡ true → 16 ≤ a % 8 * 64 + b % 64
least_4 a b h g q = by_order a 240 (λ l. let e : a ≡ 240 = omega arith in let k : 144 ≤ b = low_at a b 144 q (rw e) in let u = second_to a b q in omega arith) (λ l. omega arith)

pub begins_encode : {a : ℕ} {s : List ℕ} {c : ℕ} → Begins a s c → encode_char c ≡ a ∷ take (pred (size_of a)) s
begins_encode (one {a} h) = rw (size_1 a h) (encode_1 a (omega arith))
begins_encode (two {a} {b} h g q) =
    let l = second_from a b q in let u = second_to a b q in
    rw (size_2 a h g) (read_2 (a % 32) (b % 64) a b (omega arith) (omega arith) (omega arith) (omega arith) (omega arith))
begins_encode (three {a} {b} {d} h g q k) =
    let l = second_from a b q in let u = second_to a b q in let m = later_from d k in let v = later_to d k in
    rw (size_3 a h g)
    (read_3 (a % 16) (b % 64) (d % 64) a b d (omega arith) (omega arith) (omega arith) (omega arith) (omega arith) (omega arith) (least_3 a b h g q))
begins_encode (four {a} {b} {d} {g} h i q k j) =
    let l = second_from a b q in let u = second_to a b q in
    let m = later_from d k in let v = later_to d k in let n = later_from g j in let w = later_to g j in
    rw (size_4 a h i)
    (read_4 (a % 8) (b % 64) (d % 64) (g % 64) a b d g (omega arith) (omega arith) (omega arith) (omega arith) (omega arith) (omega arith) (omega arith)
    (least_4 a b h i q))

encode_from : (k : ℕ) (s : List ℕ) → well_from k s ≡ true → take k s ++ encode (chars_from k s) ≡ s
unfolding well_from chars_from encode
encode_from zero [] w = refl
encode_from (suc k) [] w = refl
encode_from (suc k) (a ∷ s) w = ap (λ (x : List ℕ). a ∷ x) (encode_from k s w)
encode_from zero (a ∷ s) w =
    let g = starts a s w in
    ap encode (chars_begins g.is) ∙ rw (begins_encode g.is) (ap (λ (x : List ℕ). a ∷ x) (encode_from (pred (size_of a)) s g.rest))

pub encode_chars : (bs : List ℕ) → is_utf8 bs ≡ true → encode (chars bs) ≡ bs
unfolding chars
encode_chars bs w = encode_from 0 bs (rw (well_utf8 bs) at w)
