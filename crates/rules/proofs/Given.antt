-- What a reader takes from a line's fields is what is written of what it gives, and reads back whatever follows.
use Prim.Native.Nat.{ℕ}
use mathlib.Core.Path.{◌≡◌, refl, sym, ap, ◌∙◌, subst}
use mathlib.Core.List.{List, [], ◌∷◌, ◌++◌, append_assoc}
use mathlib.Core.Bool.{Bool, true, false}
use Rattle.std.specs.Prelude.{Option, None, Some}
use lib.Dec.{eqb}
use borrow.Author.Tests.{eqb-true}
use Rattle.rules.specs.Basic.{pick, codes, tab, lf, minus, eq_list, each}
use Rattle.rules.specs.Utf8.{is_utf8}
use Rattle.rules.specs.Sheet.{escape_char, escape, Without}
use Rattle.rules.specs.Read.{Fields, Reader, go_on, ◌>>=◌, give, saying, got_one, opt, field}
use Rattle.rules.specs.Write.{opt_fields}
use Rattle.rules.proofs.Basics.{no_some, no_truth, some_inj}

-- the fields of a line as its bytes have them
abbrev pub raw : Fields → Fields
raw fs = each escape fs

pub raw_both : (a b : Fields) → raw (a ++ b) ≡ raw a ++ raw b
unfolding each
raw_both [] b = refl
raw_both (f ∷ a) b = ap (λ (l : Fields). escape f ∷ l) (raw_both a b)

-- a field as it stands in a sheet's line
pub record GoodField (f : List ℕ) : Type 0 where
  pub utf8 : is_utf8 f ≡ true
  pub no_tab_lem : Without tab f
  pub no_lf_lem : Without lf f

pub data Good : Fields → Type 0 where
  good_none : Good []
  good_more : {f : List ℕ} {fs : Fields} → GoodField f → Good fs → Good (f ∷ fs)

pub good_left : (a b : Fields) → Good (a ++ b) → Good a
good_left [] b h = good_none
good_left (f ∷ a) b (good_more g h) = good_more g (good_left a b h)

pub good_right : (a b : Fields) → Good (a ++ b) → Good b
good_right [] b h = h
good_right (f ∷ a) b (good_more g h) = good_right a b h

pub good_both : {a b : Fields} → Good a → Good b → Good (a ++ b)
good_both good_none h = h
good_both (good_more g k) h = good_more g (good_both k h)

-- the fields fs read as a, whatever follows them
pub record Back {A : Type 0} (r : Reader A) (fs : Fields) (a : A) : Type 0 where
  pub at : (rest : Fields) → r (fs ++ rest) ≡ Some (a, rest)

-- what a reader took, and what it says of it
pub record Gave {A : Type 0} (r : Reader A) (P : A → Fields → Type 0) (fs : Fields) (a : A) (rest : Fields) : Type 0 where
  pub taken : Fields
  pub is : fs ≡ taken ++ rest
  pub back : Back r taken a
  pub says : P a taken

abbrev pub Gives : {A : Type 0} → Reader A → (A → Fields → Type 0) → Type 0
Gives {A} r P = (fs : Fields) (a : A) (rest : Fields) → r fs ≡ Some (a, rest) → Good fs → Gave r P fs a rest

-- it took what is written of it
abbrev pub Writes : {A : Type 0} → (A → Fields) → A → Fields → Type 0
Writes w a p = p ≡ raw (w a)

pair_left : {A B : Type 0} {a b : A} {x y : B} → ◌≡◌ {A = Option (A × B)} (Some (a, x)) (Some (b, y)) → a ≡ b
pair_left {A} {B} q = ap (λ (p : A × B). p.0) (some_inj q)

pair_right : {A B : Type 0} {a b : A} {x y : B} → ◌≡◌ {A = Option (A × B)} (Some (a, x)) (Some (b, y)) → x ≡ y
pair_right {A} {B} q = ap (λ (p : A × B). p.1) (some_inj q)

module _ {A B : Type 0} where
  bind_reads : (r : Reader A) (f : A → Reader B) (fs : Fields) (a : A) (fs' : Fields) (x : Option (B × Fields)) → r fs ≡ Some (a, fs') → f a fs' ≡ x
      → ◌>>=◌ r f fs ≡ x
  unfolding ◌>>=◌ go_on
  bind_reads r f fs a fs' x p q = rw p q

  -- one reader after another
  pub after : (r : Reader A) (f : A → Reader B) (fs gs : Fields) (a : A) (b : B) → Back r fs a → Back (f a) gs b → Back (◌>>=◌ r f) (fs ++ gs) b
  after r f fs gs a b h g =
      record { at = λ rest. ap (◌>>=◌ r f) (append_assoc fs gs rest) ∙ bind_reads r f (fs ++ (gs ++ rest)) a (gs ++ rest) _ (h.at (gs ++ rest)) (g.at rest) }

  pub gives_bind : (r : Reader A) (f : A → Reader B) (P : A → Fields → Type 0) (H : B → Fields → Type 0) → Gives r P
      → ((a : A) (p : Fields) → P a p → Back r p a → Good p → Gives (f a) (λ b x. H b (p ++ x))) → Gives (◌>>=◌ r f) H
  unfolding ◌>>=◌ go_on
  gives_bind r f P H g h fs b rest q s = go (r fs) refl q
    where
      on : (a : A) (fs' : Fields) → Gave r P fs a fs' → f a fs' ≡ Some (b, rest) → Gave (◌>>=◌ r f) H fs b rest
      on a fs' k q =
          let m : Gave (f a) (λ b x. H b (k.taken ++ x)) fs' b rest =
          h a k.taken k.says k.back (good_left k.taken fs' (subst Good k.is s)) fs' b rest q (good_right k.taken fs' (subst Good k.is s)) in
          record {
            taken = k.taken ++ m.taken;
            is = k.is ∙ ap (λ (l : Fields). k.taken ++ l) m.is ∙ sym (append_assoc k.taken m.taken rest);
            back = after r f k.taken m.taken a b k.back m.back;
            says = m.says;
          }

      go : (o : Option (A × Fields)) → r fs ≡ o → go_on f o ≡ Some (b, rest) → Gave (◌>>=◌ r f) H fs b rest
      go None e q = no_some q
      go (Some x) e q = on x.0 x.1 (g fs x.0 x.1 e s) q

module _ {A : Type 0} where
  pub given_back : (a : A) → Back (give a) [] a
  unfolding give
  given_back a = record { at = λ rest. refl }

  pub gives_give : (H : A → Fields → Type 0) (a : A) → H a [] → Gives (give a) H
  unfolding give
  gives_give H a h fs b rest q s =
      subst (λ (x : A). Gave (give a) H fs x rest) (pair_left q)
      (record { taken = []; is = pair_right q; back = given_back a; says = h })

  -- a field that says a
  pub gives_saying : (says : List ℕ → Option A) (w : A → List ℕ) → ((f : List ℕ) (a : A) → GoodField f → says f ≡ Some a → f ≡ escape (w a))
      → Gives (◌>>=◌ field (λ f. saying (says f))) (Writes (λ a. w a ∷ []))
  unfolding field ◌>>=◌ go_on saying each
  gives_saying says w h [] a rest q s = no_some q
  gives_saying says w h (f ∷ fs) a rest q (good_more g s) = go (says f) refl q
    where
      go : (o : Option A) → says f ≡ o → saying o fs ≡ Some (a, rest) → Gave (◌>>=◌ field (λ x. saying (says x))) (Writes (λ a. w a ∷ [])) (f ∷ fs) a rest
      go None e q = no_some q
      go (Some x) e q =
          let z : says f ≡ Some a = e ∙ ap Some (pair_left q) in
          record {
            taken = f ∷ [];
            is = ap (λ (l : Fields). f ∷ l) (pair_right q);
            back = record { at = λ more. unfold saying in rw z };
            says = ap (λ (l : List ℕ). l ∷ []) (h f a g z);
          }

-- ---- `-` or the thing itself

abbrev pub WritesOpt : {A : Type 0} → (A → Fields) → Option A → Fields → Type 0
WritesOpt w o p = p ≡ raw (opt_fields w o)

pub eq_list_true : (a b : List ℕ) → eq_list a b ≡ true → a ≡ b
unfolding eq_list
eq_list_true [] [] q = refl
eq_list_true [] (y ∷ b) q = no_truth q
eq_list_true (x ∷ a) [] q = no_truth q
eq_list_true (x ∷ a) (y ∷ b) q = go (eq_list_true a b) (eqb x y) refl
  where
    go : (eq_list a b ≡ true → a ≡ b) → (t : Bool) → eqb x y ≡ t → (x ∷ a) ≡ (y ∷ b)
    go ih true p = let h : x ≡ y = eqb-true x y p in let g : a ≡ b = ih (rw p at q) in cc
    go ih false p = no_truth (rw p at q)

-- these fields are not none
abbrev pub NotEmpty : Fields → Type 0
NotEmpty p = (f : List ℕ) × (fs : Fields) × (p ≡ f ∷ fs)

module _ {A : Type 0} where
  opt_none : (r : Reader A) → Back (opt r) (codes "-" ∷ []) None
  unfolding opt eq_list
  opt_none r = record { at = λ rest. refl }

  opt_some : (r : Reader A) (f : List ℕ) (fs : Fields) (a : A) → eq_list f (minus ∷ []) ≡ false → Back r (f ∷ fs) a → Back (opt r) (f ∷ fs) (Some a)
  unfolding opt got_one
  opt_some r f fs a q b = record { at = λ rest. rw (q, b.at rest) }

  pub gives_opt : (r : Reader A) (w : A → Fields) → ((a : A) → NotEmpty (raw (w a))) → Gives r (Writes w) → Gives (opt r) (WritesOpt w)
  unfolding opt got_one opt_fields each escape escape_char
  gives_opt r w n g [] o rest q s = no_some q
  gives_opt r w n g (f ∷ fs) o rest q (good_more h s) = go (eq_list f (minus ∷ [])) refl q
    where
      G : Option A → Type 0
      G x = Gave (opt r) (WritesOpt w) (f ∷ fs) x rest

      there : (a : A) (rest' : Fields) → eq_list f (minus ∷ []) ≡ false → Gave r (Writes w) (f ∷ fs) a rest' → rest' ≡ rest → G (Some a)
      there a rest' m k e =
          let (x, xs, z) = n a in
          let t : k.taken ≡ x ∷ xs = k.says ∙ z in
          let y : (f ∷ fs) ≡ (x ∷ (xs ++ rest')) = k.is ∙ ap (λ (l : Fields). l ++ rest') t in
          let fx : f ≡ x = ap (λ (l : Fields). first_or l) y in
          record {
            taken = k.taken;
            is = rw e at k.is;
            back = subst (λ (p : Fields). Back (opt r) p (Some a)) (sym t) (opt_some r x xs a (rw fx at m) (subst (λ (p : Fields). Back r p a) t k.back));
            says = k.says;
          }
        where
          first_or : Fields → List ℕ
          first_or [] = []
          first_or (y ∷ ys) = y

      got : eq_list f (minus ∷ []) ≡ false → (x : Option (A × Fields)) → r (f ∷ fs) ≡ x → got_one x ≡ Some (o, rest) → G o
      got m None e p = no_some p
      got m (Some x) e p = subst G (pair_left p) (there x.0 x.1 m (g (f ∷ fs) x.0 x.1 e (good_more h s)) (pair_right p))

      go : (b : Bool) → eq_list f (minus ∷ []) ≡ b → pick b (Some (None, fs)) (got_one (r (f ∷ fs))) ≡ Some (o, rest) → G o
      go true m p =
          subst G (pair_left p)
          (record {
            taken = codes "-" ∷ [];
            is = let e : f ≡ codes "-" = eq_list_true f (codes "-") m in let z : fs ≡ rest = pair_right p in rw (e, z);
            back = opt_none r;
            says = refl;
          })
      go false m p = got m (r (f ∷ fs)) refl p
