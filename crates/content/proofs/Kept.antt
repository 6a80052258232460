-- Of blanks that follow one another only the first is kept.
use Prim.Native.Nat.{ℕ, suc, ◌+◌, ◌-◌, ◌≤◌, ◌<◌}
use mathlib.Core.Path.{◌≡◌, refl, sym, ap, ◌∙◌}
use mathlib.Core.List.{List, [], ◌∷◌}
use mathlib.Core.Bool.{and-false}
use Rattle.std.specs.Prelude.{Option}
use native.Mathlib.Omega.{arith}
use lib.ListN.{length, get_or, drop}
use lib.Seq.{drop-cons}
use borrow.Author.Tests.{ne_eqb}
use Rattle.rules.specs.Basic.{blank}
use Rattle.rules.specs.Sheet.{escaped}
use Rattle.rules.specs.Text.{retain}
use Rattle.rules.specs.Utf8.{char_or, followers}
use Rattle.rules.proofs.Basics.{by_order}
use Rattle.rules.proofs.Fields.{escaped_cases}
use Rattle.rules.proofs.Begins.{one, first_some, size_1}
use Rattle.rules.proofs.Ascii.{char_beyond}
use Rattle.utf8.specs.declared.Char.{Char}
use Rattle.utf8.specs.Reading.{char_of}
use Rattle.utf8.specs.Decoding.{char_with}
use Rattle.content.specs.Contents.{content_in, kept_in}
use Rattle.content.specs.Readings.{pair_in, char_in}
use Rattle.content.specs.Kept.{Skipped, KeptStep}
use Rattle.content.proofs.Plains.{by_backslash}
use Rattle.content.proofs.Chars.{content_step, content_none, char_plain, char_last, in_ascii}

-- ---- over code points

-- after what is no blank everything is as at the front
pub retain_front : (p : ℕ) (cs : List ℕ) → (p ≡ 32 → ⊥) → retain p cs ≡ retain 0 cs
unfolding retain
retain_front p [] n = refl
retain_front p (c ∷ cs) n = rw (ne_eqb p 32 n, ne_eqb 0 32 (λ e. omega arith), and-false)

pub retain_keeps : (p c : ℕ) (cs : List ℕ) → (p ≡ 32 → ⊥) → retain p (c ∷ cs) ≡ c ∷ retain c cs
unfolding retain
retain_keeps p c cs n = rw (ne_eqb p 32 n, and-false)

pub retain_other : (p c : ℕ) (cs : List ℕ) → (c ≡ 32 → ⊥) → retain p (c ∷ cs) ≡ c ∷ retain 0 cs
unfolding retain
retain_other p c cs n = rw (ne_eqb c 32 n, retain_front c cs n)

pub retain_blank : (cs : List ℕ) → retain 32 (32 ∷ cs) ≡ retain 32 cs
unfolding retain
retain_blank cs = refl

-- ---- a blank is the byte 32

ascii_code : (a : ℕ) (s : List ℕ) → a < 128 → char_of (a ∷ s) ≡ char_with a 1
unfolding char_of char_or followers
ascii_code a s h = let k : a ≤ 127 = omega arith in rw (first_some (one {s = s} k), size_1 a k)

-- a code point that no escape stands for
pub record Unescaped (b : ℕ) : Type 0 where
  pub no92 : b ≡ 92 → ⊥
  pub no9 : b ≡ 9 → ⊥
  pub no10 : b ≡ 10 → ⊥
  pub no13 : b ≡ 13 → ⊥

-- what an escape stands for
pair_codes : (d b : ℕ) → Unescaped b → (pair_in (escaped d)).code ≡ b → ⊥
unfolding pair_in
pair_codes d b n =
    escaped_cases (λ (o : Option ℕ). (pair_in o).code ≡ b → ⊥) d
    (λ _ e. n.no92 (sym e)) (λ _ e. n.no9 (sym e)) (λ _ e. n.no10 (sym e)) (λ _ e. n.no13 (sym e)) (λ e. n.no92 (sym e))

escape_codes : (s : List ℕ) (b : ℕ) → Unescaped b → (char_in (92 ∷ s)).code ≡ b → ⊥
escape_codes [] b n e = let k : (char_with 92 1).code ≡ b = rw char_last at e in n.no92 (sym k)
escape_codes (d ∷ s) b n e = unfold char_in in pair_codes d b n e

wide_code : (a : ℕ) (s : List ℕ) (b : ℕ) → 128 ≤ a → b < 128 → (char_of (a ∷ s)).code ≡ b → ⊥
unfolding char_of
wide_code a s b l h e = omega (arith, char_beyond a s l)

-- an ASCII character that is not escaped is its byte
pub code_byte : (a : ℕ) (s : List ℕ) (b : ℕ) → b < 128 → Unescaped b → (char_in (a ∷ s)).code ≡ b → a ≡ b
code_byte a s b h u e =
    by_backslash a (λ q. absurd (escape_codes s b u (rw q at e)))
    (λ n. let k : (char_of (a ∷ s)).code ≡ b = rw (char_plain a s n) at e in
    by_order a 127 (λ l. let m : (char_with a 1).code ≡ b = rw (ascii_code a s (omega arith)) at k in m)
    (λ l. absurd (wide_code a s b l h k)))

pub byte_code : (a : ℕ) (s : List ℕ) → a < 128 → (a ≡ 92 → ⊥) → char_in (a ∷ s) ≡ char_with a 1
byte_code a s h n = char_plain a s n ∙ ascii_code a s h

pub blank_byte : (a : ℕ) (s : List ℕ) → (char_in (a ∷ s)).code ≡ 32 → a ≡ 32
blank_byte a s e = code_byte a s 32 (omega arith) (record { no92 = λ q. omega arith; no9 = λ q. omega arith; no10 = λ q. omega arith; no13 = λ q. omega arith }) e

pub byte_blank : (s : List ℕ) → char_in (32 ∷ s) ≡ char_with 32 1
byte_blank s = byte_code 32 s (omega arith) (λ e. omega arith)

-- ---- the turns of `skip_blanks`

pub record Skipping (f : List ℕ) (at i : ℕ) : Type 0 where
  pub least : at ≤ i
  pub most : i ≤ length f
  pub is : retain blank (content_in (drop i f)) ≡ retain blank (content_in (drop at f))

module _ {f : List ℕ} {at i : ℕ} (v : Skipping f at i) where
  pub skip_more : i < length f → get_or f i 0 ≡ 32 → Skipping f at (i + 1)
  skip_more h q =
      let e : char_with 32 1 ≡ char_in (drop i f) = rw (drop-cons f i 0 h, q) (sym (byte_blank (drop (suc i) f))) in
      let s = content_step f i (char_with 32 1) h e in
      record { least = omega (arith, v.least); most = omega arith; is = sym (rw s.reads (retain_blank (content_in (drop (i + 1) f)))) ∙ v.is }

  pub skip_end : length f ≤ i → Skipped f at i
  unfolding kept_in retain
  skip_end h = record { least = v.least; most = v.most; is = sym v.is ∙ rw (content_none f i h) }

  pub skip_whole : length f ≤ i → Skipped f at (length f)
  skip_whole h =
      let m : i ≤ length f = v.most in
      let e : i ≡ length f = omega arith in
      rw e at (skip_end h)

  pub skip_other : i < length f → (get_or f i 0 ≡ 32 → ⊥) → Skipped f at i
  unfolding kept_in
  skip_other h n =
      let s = content_step f i (char_in (drop i f)) h refl in
      let o : (char_in (drop i f)).code ≡ 32 → ⊥ = rw (drop-cons f i 0 h) (λ e. n (blank_byte _ _ e)) in
      record { least = v.least; most = v.most; is = sym v.is ∙ rw (s.reads, retain_other 32 _ (content_in (drop (i + (char_in (drop i f)).size) f)) o, retain_other 0 _ (content_in (drop (i + (char_in (drop i f)).size) f)) o) }

-- ---- the two ways of `kept_char`

module _ (f : List ℕ) (at : ℕ) (ch : Char) (h : at < length f) (e : ch ≡ char_in (drop at f)) where
  pub kept_other : (ch.code ≡ 32 → ⊥) → KeptStep f at ch
  unfolding kept_in
  kept_other n =
      let s = content_step f at ch h e in
      record {
        reads = ap (retain 0) s.reads ∙ retain_other 0 ch.code (content_in (drop (at + ch.size) f)) n;
        least = s.least;
        most = s.most;
        scalar = s.scalar;
      }

  pub kept_blank : {r : ℕ} → ch.code ≡ 32 → Skipped f (at + ch.size) r → KeptStep f at (char_with 32 (r - at))
  unfolding kept_in
  kept_blank {r} q k =
      let s = content_step f at ch h e in
      let z : at + (r - at) ≡ r = omega (arith, k.least) in
      record {
        reads = ap (retain 0) s.reads ∙ rw (q, z) (retain_keeps 0 32 (content_in (drop (at + ch.size) f)) (λ e. omega arith) ∙ ap (λ (x : List ℕ). 32 ∷ x) k.is);
        least = omega (arith, k.least, s.least);
        most = omega (arith, k.most, k.least);
        scalar = rw q at s.scalar;
      }

-- a byte beyond ASCII starts no escape, and no blank
pub wide_in : (f : List ℕ) (at : ℕ) {ch : Char} → at < length f → 128 ≤ get_or f at 0 → ch ≡ char_of (drop at f) → ch ≡ char_in (drop at f)
wide_in f at h l e = e ∙ rw (drop-cons f at 0 h) (sym (char_plain (get_or f at 0) (drop (suc at) f) (λ z. omega arith)))

pub kept_wide : (f : List ℕ) (at : ℕ) {ch : Char} → at < length f → 128 ≤ get_or f at 0 → ch ≡ char_of (drop at f) → KeptStep f at ch
kept_wide f at {ch} h l e =
    let d = drop-cons f at 0 h in
    kept_other f at ch h (wide_in f at h l e) (λ z. wide_code (get_or f at 0) (drop (suc at) f) 32 l (omega arith) (ap (λ (x : List ℕ). (char_of x).code) (sym d) ∙ (rw e at z)))

-- an ASCII byte that is neither
pub kept_ascii : (f : List ℕ) (at : ℕ) {x : ℕ} → at < length f → x ≡ get_or f at 0 → get_or f at 0 < 128 → (get_or f at 0 ≡ 92 → ⊥) → (get_or f at 0 ≡ 32 → ⊥) → KeptStep f at (char_with x 1)
kept_ascii f at {x} h e l n m = kept_other f at (char_with x 1) h (in_ascii f at h e l n) (λ q. m (sym e ∙ q))

pub kept_none : (f : List ℕ) (at : ℕ) → length f ≤ at → kept_in (drop at f) ≡ []
unfolding kept_in retain
kept_none f at h = rw (content_none f at h)

pub kept_some : (f : List ℕ) (at : ℕ) → at < length f → kept_in (drop at f) ≡ (char_in (drop at f)).code ∷ retain (char_in (drop at f)).code (content_in (drop (at + (char_in (drop at f)).size) f))
unfolding kept_in
kept_some f at h = ap (retain 0) (content_step f at (char_in (drop at f)) h refl).reads ∙ retain_keeps 0 _ _ (λ e. omega arith)
