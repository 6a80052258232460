-- What the characters at a place of each of two names tell of the names.
use Prim.Native.Nat.{ℕ, ◌+◌, ◌≤◌, ◌<◌}
use mathlib.Core.Path.{◌≡◌, refl, sym, ap, ◌∙◌}
use mathlib.Core.Bool.{Bool, true, false, ◌||◌}
use mathlib.Core.List.{List, [], ◌∷◌, ◌++◌}
use native.Mathlib.Omega.{arith}
use borrow.Author.Tests.{eqb-true, eq-eqb, ne_eqb, leb-true, leb-false}
use lib.Dec.{eqb, leb}
use lib.ListN.{length, get_or, drop, length-append}
use Rattle.rules.specs.Basic.{pick, eq_list}
use Rattle.rules.specs.Ranges.{lookup}
use Rattle.rules.specs.Folding.{folding}
use Rattle.rules.specs.Unicode.{fold, fold_name, same_name}
use Rattle.rules.proofs.Folds.{fold_least}
use Rattle.rules.proofs.SameChars.{eq_true}
use Rattle.utf8.specs.declared.Char.{Char}
use Rattle.content.specs.Contents.{kept_in}
use Rattle.content.specs.Kept.{KeptStep}
use Rattle.content.specs.Readings.{plain_byte}
use Rattle.content.proofs.Kept.{kept_none, kept_some}
use Rattle.letters.proofs.Ascii.{ascii_fold_lem}
use Rattle.letters.specs.declared.Folded.{Folded}
use Rattle.letters.specs.declared.Folded.TheVariants.{One, Two, Three}
use Rattle.letters.specs.Folded.{folded_of}
use Rattle.text.specs.declared.meets.Meeting.{Meeting}
use Rattle.text.specs.declared.meets.Meeting.TheVariants.{Answer, On, Unclear}
use Rattle.text.specs.declared.meets.Pair.{Pair}
use Rattle.text.specs.declared.meets.Pair.TheVariants.{Apart, Level, FirstShort, SecondShort, Several}
use Rattle.text.specs.declared.meets.Next.{Next}
use Rattle.text.specs.declared.meets.Next.TheVariants.{Other, Past}
use Rattle.text.specs.Names.{fold_from}
use Rattle.fronts.proofs.Plain.{plain_stands, fold_stands}
use Rattle.fronts.specs.Seams.{same_at, Seam}
use Rattle.text.specs.Meets.{LetterS, StartsSs, pair_of, Following, other, past, Ahead, apart, level, first_short, second_short, several, Met, answered, onward, unclear, Settled}

-- ---- the ways of `meet`: ends

fold_more : (c : ℕ) (cs : List ℕ) → eq_list (fold_name []) (fold_name (c ∷ cs)) ≡ false
unfolding fold_name
fold_more c cs = go (fold c ++ fold_name cs) (omega (arith, fold_least c, length-append (fold c) (fold_name cs)))
  where
    go : (l : List ℕ) → 1 ≤ length l → eq_list [] l ≡ false
    go [] h = absurd (omega arith)
    go (x ∷ l) h = unfold eq_list in refl

more_fold : (c : ℕ) (cs : List ℕ) → eq_list (fold_name (c ∷ cs)) (fold_name []) ≡ false
unfolding fold_name
more_fold c cs = go (fold c ++ fold_name cs) (omega (arith, fold_least c, length-append (fold c) (fold_name cs)))
  where
    go : (l : List ℕ) → 1 ≤ length l → eq_list l [] ≡ false
    go [] h = absurd (omega arith)
    go (x ∷ l) h = unfold eq_list in refl

module _ (a : List ℕ) (i : ℕ) (b : List ℕ) (j : ℕ) where
  pub met_parted : same_at a i b j ≡ false → Met a i b j (Answer false)
  met_parted e = answered (sym e)

  pub met_both : length a ≤ i → length b ≤ j → true ≡ same_at a i b j
  unfolding same_at same_name fold_name eq_list
  met_both h g = rw (kept_none a i h, kept_none b j g)

  pub met_left : length a ≤ i → j < length b → false ≡ same_at a i b j
  unfolding same_at same_name
  met_left h g = sym (ap (λ (x : List ℕ). eq_list (fold_name x) (fold_name (kept_in (drop j b)))) (kept_none a i h) ∙ ap (λ (x : List ℕ). eq_list (fold_name []) (fold_name x)) (kept_some b j g) ∙ fold_more _ _)

  pub met_end : length a ≤ i → Met a i b j (Answer (leb (length b) j))
  met_end h = go (leb (length b) j) refl
    where
      go : (x : Bool) → leb (length b) j ≡ x → Met a i b j (Answer x)
      go true e = answered (met_both h (leb-true _ _ e))
      go false e = answered (met_left h (leb-false _ _ e))

  pub met_right : i < length a → length b ≤ j → Met a i b j (Answer false)
  unfolding same_at same_name
  met_right h g = answered {r = false} (sym (ap (λ (x : List ℕ). eq_list (fold_name (kept_in (drop i a))) (fold_name x)) (kept_none b j g) ∙ ap (λ (x : List ℕ). eq_list (fold_name x) (fold_name [])) (kept_some a i h) ∙ more_fold _ _))

-- ---- the ways of `paired`

module _ (f g : Folded) where
  pub pair_same : (x y : ℕ) → f ≡ One x → g ≡ One y → x ≡ y → Level ≡ pair_of f g
  unfolding pair_of
  pair_same x y e h z = rw (e, h, eq-eqb x y z)

  pub pair_other : (x y : ℕ) → f ≡ One x → g ≡ One y → (x ≡ y → ⊥) → Apart ≡ pair_of f g
  unfolding pair_of
  pair_other x y e h z = rw (e, h, ne_eqb x y z)

  pub first_short_lem : (x y z : ℕ) → f ≡ One x → g ≡ Two y z → x ≡ y → FirstShort z ≡ pair_of f g
  unfolding pair_of
  first_short_lem x y z e h q = rw (e, h, eq-eqb x y q)

  pub first_other : (x y z : ℕ) → f ≡ One x → g ≡ Two y z → (x ≡ y → ⊥) → Apart ≡ pair_of f g
  unfolding pair_of
  first_other x y z e h q = rw (e, h, ne_eqb x y q)

  pub first_three : (x y z w : ℕ) → f ≡ One x → g ≡ Three y z w → Several ≡ pair_of f g
  unfolding pair_of
  first_three x y z w e h = rw (e, h)

  pub second_short_lem : (x y z : ℕ) → f ≡ Two x z → g ≡ One y → x ≡ y → SecondShort z ≡ pair_of f g
  unfolding pair_of
  second_short_lem x y z e h q = rw (e, h, eq-eqb x y q)

  pub second_other : (x y z : ℕ) → f ≡ Two x z → g ≡ One y → (x ≡ y → ⊥) → Apart ≡ pair_of f g
  unfolding pair_of
  second_other x y z e h q = rw (e, h, ne_eqb x y q)

  pub two_two : (x y z w : ℕ) → f ≡ Two x z → g ≡ Two y w → Several ≡ pair_of f g
  unfolding pair_of
  two_two x y z w e h = rw (e, h)

  pub two_three : (x y z w v : ℕ) → f ≡ Two x z → g ≡ Three y w v → Several ≡ pair_of f g
  unfolding pair_of
  two_three x y z w v e h = rw (e, h)

  pub three_any : (x y z : ℕ) → f ≡ Three x y z → Several ≡ pair_of f g
  unfolding pair_of
  three_any x y z e = rw e

-- ---- the ways of `following`

fold_step : {s : List ℕ} {at : ℕ} {c : Char} → KeptStep s at c → (f : Folded) → folded_of f ≡ fold c.code → fold_from s at ≡ folded_of f ++ fold_from s (at + c.size)
unfolding fold_from fold_name
fold_step k f e = rw e (ap fold_name k.reads)

module _ (s : List ℕ) (at z : ℕ) where
  pub following_end : length s ≤ at → Following s at z Other
  unfolding fold_from fold_name
  following_end h = other (λ zs e. ends (sym (ap fold_name (kept_none s at h)) ∙ e))
    where
      ends : {zs : List ℕ} → [] ≡ z ∷ zs → ⊥
      ends q = omega (arith, ap (λ (l : List ℕ). length l) q)

  module _ {c : Char} (k : KeptStep s at c) (f : Folded) (e : folded_of f ≡ fold c.code) (x : ℕ) (o : f ≡ One x) where
    one_step : fold_from s at ≡ x ∷ fold_from s (at + c.size)
    unfolding folded_of
    one_step = fold_step k f e ∙ rw o

    pub following_past : x ≡ z → Following s at z (Past (at + c.size))
    following_past q = past {k = at + c.size} (omega (arith, k.least)) k.most (one_step ∙ rw q)

    pub following_other : (x ≡ z → ⊥) → Following s at z Other
    following_other n = other (λ zs q. n (heads (sym one_step ∙ q)))
      where
        heads : {y w : ℕ} {ys ws : List ℕ} → y ∷ ys ≡ w ∷ ws → y ≡ w
        heads {y} q = ap first q
          where
            first : List ℕ → ℕ
            first [] = y
            first (v ∷ vs) = v

-- ---- the ways of `meet_on`

same_fold : (a : List ℕ) (i : ℕ) (b : List ℕ) (j : ℕ) → same_at a i b j ≡ eq_list (fold_from a i) (fold_from b j)
unfolding same_at same_name fold_from
same_fold a i b j = refl

eq_tails : (z : ℕ) (xs ys : List ℕ) → eq_list (z ∷ xs) (z ∷ ys) ≡ eq_list xs ys
unfolding eq_list
eq_tails z xs ys = rw (eq-eqb z z refl)

not_equal : (xs ys : List ℕ) → (xs ≡ ys → ⊥) → eq_list xs ys ≡ false
not_equal xs ys n = go (eq_list xs ys) refl
  where
    go : (t : Bool) → eq_list xs ys ≡ t → t ≡ false
    go true e = absurd (n (eq_true xs ys e))
    go false e = refl

module _ (a : List ℕ) (i : ℕ) (b : List ℕ) (j : ℕ) {p : Pair} where
  pub settled_apart : p ≡ Apart → Settled a i b j p (Answer false)
  settled_apart e = record { is = λ i₀ j₀ h v. go (rw e at v) }
    where
      go : {xs ys : List ℕ} {i₀ j₀ : ℕ} → Ahead xs ys (same_at a i₀ b j₀) Apart → Met a i₀ b j₀ (Answer false)
      go (apart q) = answered (sym q)

  pub settled_level : p ≡ Level → i ≤ length a → j ≤ length b → Settled a i b j p (On i j)
  settled_level e l m = record { is = λ i₀ j₀ h v. go h (rw e at v) }
    where
      go : {i₀ j₀ : ℕ} → i₀ < i → Ahead (fold_from a i) (fold_from b j) (same_at a i₀ b j₀) Level → Met a i₀ b j₀ (On i j)
      go h (level q) = onward h l m (same_fold a i b j ∙ sym q)

  module _ (z : ℕ) (e : p ≡ FirstShort z) {n : Next} (f : Following a i z n) where
    pub first_differs : n ≡ Other → Settled a i b j p (Answer false)
    first_differs o = record { is = λ i₀ j₀ h v. go (rw o at f) (rw e at v) }
      where
        go : {i₀ j₀ : ℕ} → Following a i z Other → Ahead (fold_from a i) (fold_from b j) (same_at a i₀ b j₀) (FirstShort z) → Met a i₀ b j₀ (Answer false)
        go (other d) (first_short q) = answered (sym (q ∙ not_equal (fold_from a i) (z ∷ fold_from b j) (λ k. d (fold_from b j) k)))

    pub first_past : (k : ℕ) → n ≡ Past k → j ≤ length b → Settled a i b j p (On k j)
    first_past k o m = record { is = λ i₀ j₀ h v. go h (rw o at f) (rw e at v) }
      where
        go : {i₀ j₀ : ℕ} → i₀ < i → Following a i z (Past k) → Ahead (fold_from a i) (fold_from b j) (same_at a i₀ b j₀) (FirstShort z) → Met a i₀ b j₀ (On k j)
        go h (past l u w) (first_short q) = onward {k = k} (omega arith) u m (same_fold a k b j ∙ sym (eq_tails z (fold_from a k) (fold_from b j)) ∙ ap (λ (x : List ℕ). eq_list x (z ∷ fold_from b j)) (sym w) ∙ sym q)

  module _ (z : ℕ) (e : p ≡ SecondShort z) {n : Next} (f : Following b j z n) where
    pub second_differs : n ≡ Other → Settled a i b j p (Answer false)
    second_differs o = record { is = λ i₀ j₀ h v. go (rw o at f) (rw e at v) }
      where
        go : {i₀ j₀ : ℕ} → Following b j z Other → Ahead (fold_from a i) (fold_from b j) (same_at a i₀ b j₀) (SecondShort z) → Met a i₀ b j₀ (Answer false)
        go (other d) (second_short q) = answered (sym (q ∙ not_equal (z ∷ fold_from a i) (fold_from b j) (λ k. d (fold_from a i) (sym k))))

    pub second_past : (l : ℕ) → n ≡ Past l → i ≤ length a → Settled a i b j p (On i l)
    second_past l o m = record { is = λ i₀ j₀ h v. go h (rw o at f) (rw e at v) }
      where
        go : {i₀ j₀ : ℕ} → i₀ < i → Following b j z (Past l) → Ahead (fold_from a i) (fold_from b j) (same_at a i₀ b j₀) (SecondShort z) → Met a i₀ b j₀ (On i l)
        go h (past u w y) (second_short q) = onward h m w (same_fold a i b l ∙ sym (eq_tails z (fold_from a i) (fold_from b l)) ∙ ap (eq_list (z ∷ fold_from a i)) (sym y) ∙ sym q)

  -- where characters fold to several
  pub unclear_any : Settled a i b j p Unclear
  unclear_any = record { is = λ i₀ j₀ h v. unclear }

-- ---- the foldings of two characters

module _ (a : List ℕ) (i : ℕ) (b : List ℕ) (j : ℕ) {x y : Char} (p : KeptStep a i x) (q : KeptStep b j y) where
  abbrev xs : List ℕ
  xs = fold_from a (i + x.size)

  abbrev ys : List ℕ
  ys = fold_from b (j + y.size)

  both : (f g : Folded) → folded_of f ≡ fold x.code → folded_of g ≡ fold y.code → same_at a i b j ≡ eq_list (folded_of f ++ xs) (folded_of g ++ ys)
  both f g e h = same_fold a i b j ∙ rw (fold_step p f e, fold_step q g h)

  pub pair_ahead : (f g : Folded) → folded_of f ≡ fold x.code → folded_of g ≡ fold y.code → Ahead xs ys (same_at a i b j) (pair_of f g)
  unfolding pair_of folded_of eq_list
  pair_ahead (One u) (One v) e h = go (eqb u v) refl
    where
      go : (t : Bool) → eqb u v ≡ t → Ahead xs ys (same_at a i b j) (pick t Level Apart)
      go true z = level (both (One u) (One v) e h ∙ rw z)
      go false z = apart (both (One u) (One v) e h ∙ rw z)
  pair_ahead (One u) (Two v w) e h = go (eqb u v) refl
    where
      go : (t : Bool) → eqb u v ≡ t → Ahead xs ys (same_at a i b j) (pick t (FirstShort w) Apart)
      go true z = first_short {z = w} (both (One u) (Two v w) e h ∙ rw z)
      go false z = apart (both (One u) (Two v w) e h ∙ rw z)
  pair_ahead (One u) (Three v w z) e h = several
  pair_ahead (Two u w) (One v) e h = go (eqb u v) refl
    where
      go : (t : Bool) → eqb u v ≡ t → Ahead xs ys (same_at a i b j) (pick t (SecondShort w) Apart)
      go true z = second_short {z = w} (both (Two u w) (One v) e h ∙ rw z)
      go false z = apart (both (Two u w) (One v) e h ∙ rw z)
  pair_ahead (Two u w) (Two v z) e h = several
  pair_ahead (Two u w) (Three v z s) e h = several
  pair_ahead (Three u w z) g e h = several

  pub met_pair : {r : Pair} {m : Meeting} (f g : Folded) → folded_of f ≡ fold x.code → folded_of g ≡ fold y.code → r ≡ pair_of f g → Settled a (i + x.size) b (j + y.size) r m → Met a i b j m
  met_pair f g e h o s = s.is i j (omega (arith, p.least)) (rw o (pair_ahead f g e h))

-- ---- characters that take as many bytes in both names

eq_front : (zs xs ys : List ℕ) → eq_list (zs ++ xs) (zs ++ ys) ≡ eq_list xs ys
eq_front [] _ _ = refl
eq_front (z ∷ zs) xs ys = eq_tails z (zs ++ xs) (zs ++ ys) ∙ eq_front zs xs ys

same_front : (a b : List ℕ) (k : ℕ) (zs : List ℕ) → k ≤ length a → k ≤ length b → fold_from a 0 ≡ zs ++ fold_from a k → fold_from b 0 ≡ zs ++ fold_from b k → Seam a b k
same_front a b k zs h g e f =
    record {
      left = h;
      right = g;
      is = same_fold a k b k ∙ sym (eq_front zs (fold_from a k) (fold_from b k)) ∙ sym (ap (λ (x : List ℕ). eq_list x (fold_from b 0)) e ∙ ap (eq_list (zs ++ fold_from a k)) f) ∙ whole;
    }
  where
    whole : eq_list (fold_from a 0) (fold_from b 0) ≡ same_name (kept_in a) (kept_in b)
    whole = unfold fold_from same_name in refl

module _ (a b : List ℕ) {x y : Char} (p : KeptStep a 0 x) (q : KeptStep b 0 y) (z : x.size ≡ y.size) where
  pub wide_seam : (f g : Folded) → folded_of f ≡ fold x.code → folded_of g ≡ fold y.code → (u v : ℕ) → f ≡ One u → g ≡ One v → u ≡ v → Seam a b x.size
  unfolding folded_of
  wide_seam f g e h u v i j k =
      let o : 0 + x.size ≡ x.size = omega arith in
      let n : 0 + y.size ≡ x.size = omega arith in
      same_front a b x.size (u ∷ []) (omega (arith, p.most)) (omega (arith, q.most))
      (rw o at (one_step a 0 0 p f e u i))
      (rw (n, ← k) at (one_step b 0 0 q g h v j))

-- ---- ß and ss

s_small : LetterS 115
unfolding plain_byte
s_small = record { plain = refl; is = refl }

s_capital : LetterS 83
unfolding plain_byte
s_capital = record { plain = refl; is = refl }

pub letter_s : (c : ℕ) → (eqb c 115 || eqb c 83) ≡ true → LetterS c
letter_s c t = go (eqb c 115) refl t
  where
    go : (b : Bool) → eqb c 115 ≡ b → (b || eqb c 83) ≡ true → LetterS c
    go true e t = rw (eqb-true c 115 e) s_small
    go false e t = rw (eqb-true c 83 t) s_capital

module _ (s : List ℕ) (h : 2 ≤ length s) where
  pub starts_double : LetterS (get_or s 0 0) → LetterS (get_or s 1 0) → StartsSs s
  unfolding fold_from
  starts_double v w =
      let p = plain_stands s 0 (omega arith) v.plain in
      let q = plain_stands s 1 (omega arith) w.plain in
      let e = fold_stands p 115 (rw (← v.is) (ascii_fold_lem (get_or s 0 0) p.below)) in
      let f = fold_stands q 115 (rw (← w.is) (ascii_fold_lem (get_or s 1 0) q.below)) in
      record { long = h; is = e ∙ ap (λ (l : List ℕ). 115 ∷ l) f }

  pub starts_sharp : {c : Char} → KeptStep s 0 c → c.code ≡ 0xdf → c.size ≡ 2 → StartsSs s
  starts_sharp {c} k e z =
      let o : 0 + c.size ≡ 2 = omega arith in
      record { long = h; is = rw (o, e, sharp) at (step k) }
    where
      sharp : fold 0xdf ≡ 115 ∷ 115 ∷ []
      sharp = unfold fold lookup folding in refl

      step : {c : Char} → KeptStep s 0 c → fold_from s 0 ≡ fold c.code ++ fold_from s (0 + c.size)
      step k = unfold fold_from fold_name in ap fold_name k.reads

pub sharp_seam : {a b : List ℕ} → StartsSs a → StartsSs b → Seam a b 2
sharp_seam {a} {b} v w = same_front a b 2 (115 ∷ 115 ∷ []) v.long w.long v.is w.is

pub ruleset pair_cases = (pair_same, pair_other, first_short_lem, first_other, first_three, second_short_lem, second_other, two_two, two_three, three_any)

pub ruleset settled_cases = (settled_apart, settled_level, first_differs, first_past, second_differs, second_past, unclear_any)
