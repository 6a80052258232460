-- Modifiers, components, intermediate references: each reader takes what is written of what it gives.
use Prim.Native.Nat.{ℕ}
use mathlib.Core.Path.{◌≡◌, refl, sym, ap, ◌∙◌, subst}
use mathlib.Core.List.{List, [], ◌∷◌, ◌++◌, append_assoc, append-nil}
use mathlib.Core.Bool.{Bool, true, false}
use Rattle.std.specs.Prelude.{Option, Some}
use lib.Dec.{eqb}
use borrow.Author.Tests.{eqb-true}
use Rattle.rules.specs.Basic.{pick, codes, eq_list, is_empty, when, each}
use Rattle.rules.specs.Sheet.{escape_char, escape}
use Rattle.rules.specs.Event.{Modifiers, Component}
use Rattle.rules.specs.Read.{Fields, Reader, go_on, ◌>>=◌, saying, opt, field, read_span, read_text, read_quantity, leads, past, no_modifiers, modifier_letters, modifiers_of, read_modifiers, read_component}
use Rattle.rules.specs.Write.{opt_fields, span_fields, text_fields, quantity_fields, or_point, modifiers_field, named_fields}
use Rattle.rules.proofs.Basics.{pick_either, no_some, no_truth, some_inj}
use Rattle.rules.proofs.Given.{raw, raw_both, Back, Gives, Writes, after, gives_bind, given_back, gives_give, gives_saying, WritesOpt, eq_list_true}
use Rattle.rules.proofs.Taken.{gives_span, gives_text, gives_opt_text, gives_opt_quantity}

pub escape_both : (a b : List ℕ) → escape (a ++ b) ≡ escape a ++ escape b
unfolding escape
escape_both [] b = refl
escape_both (c ∷ a) b = ap (λ (l : List ℕ). escape_char c ++ l) (escape_both a b) ∙ sym (append_assoc (escape_char c) (escape a) (escape b))

-- ---- modifiers

past_leads : (c : ℕ) (s : List ℕ) → s ≡ when (leads c s) c ++ past c s
unfolding when leads past
past_leads c [] = refl
past_leads c (d ∷ s) = go (eqb d c) refl
  where
    go : (b : Bool) → eqb d c ≡ b → (d ∷ s) ≡ when b c ++ pick b s (d ∷ s)
    go true e = ap (λ (x : ℕ). x ∷ s) (eqb-true d c e)
    go false e = refl

pub empty_is : (s : List ℕ) → is_empty s ≡ true → s ≡ []
unfolding is_empty
empty_is [] q = refl
empty_is (c ∷ s) q = no_truth q

-- the letters of modifiers, or none
abbrev letters : Modifiers → List ℕ
letters m = when m.recipe 64 ++ when m.ref 38 ++ when m.hidden 45 ++ when m.opt 63 ++ when m.new 43

pub five : (a b c d e : List ℕ) → a ++ (b ++ (c ++ (d ++ e))) ≡ a ++ b ++ c ++ d ++ e
five a b c d e = simp append_assoc

letters_field : (s : List ℕ) (m : Modifiers) → modifier_letters s ≡ Some m → s ≡ letters m
unfolding modifier_letters
letters_field s m =
    pick_either (λ (o : Option Modifiers). o ≡ Some m → s ≡ letters m) (is_empty (past 43 (past 63 (past 45 (past 38 (past 64 s)))))) _ _
    (λ b q. whole (empty_is _ b) ∙ ap letters (some_inj q)) (λ b q. no_some q)
  where
    s1 : List ℕ
    s1 = past 64 s

    s2 : List ℕ
    s2 = past 38 s1

    s3 : List ℕ
    s3 = past 45 s2

    s4 : List ℕ
    s4 = past 63 s3

    on : (a b c : List ℕ) → b ≡ c → a ++ b ≡ a ++ c
    on a b c q = ap (λ (l : List ℕ). a ++ l) q

    whole : past 43 s4 ≡ [] → s ≡ when (leads 64 s) 64 ++ when (leads 38 s1) 38 ++ when (leads 45 s2) 45 ++ when (leads 63 s3) 63 ++ when (leads 43 s4) 43
    whole e =
        past_leads 64 s
        ∙ on (when (leads 64 s) 64) _ _
        (past_leads 38 s1 ∙ on (when (leads 38 s1) 38) _ _
        (past_leads 45 s2 ∙ on (when (leads 45 s2) 45) _ _
        (past_leads 63 s3 ∙ on (when (leads 63 s3) 63) _ _
        (past_leads 43 s4 ∙ on (when (leads 43 s4) 43) _ _ e ∙ append-nil _))))
        ∙ five (when (leads 64 s) 64) (when (leads 38 s1) 38) (when (leads 45 s2) 45) (when (leads 63 s3) 63) (when (leads 43 s4) 43)

or_point_lem : (c : ℕ) (s l : List ℕ) → (c ∷ s) ≡ l → (c ∷ s) ≡ or_point l
unfolding or_point
or_point_lem c s l q = subst (λ (x : List ℕ). (c ∷ s) ≡ or_point x) q refl

modifiers_field_lem : (f : List ℕ) (m : Modifiers) → modifiers_of f ≡ Some m → f ≡ modifiers_field m
unfolding modifiers_of modifiers_field no_modifiers when or_point
modifiers_field_lem [] m q = no_some q
modifiers_field_lem (c ∷ s) m q =
    pick_either (λ (o : Option Modifiers). o ≡ Some m → (c ∷ s) ≡ modifiers_field m) (eq_list (c ∷ s) (codes ".")) _ _
    (λ b p. eq_list_true (c ∷ s) (codes ".") b ∙ ap modifiers_field (some_inj p))
    (λ b p. or_point_lem c s (letters m) (letters_field (c ∷ s) m p)) q

escape_when : (b : Bool) (c : ℕ) → escape (c ∷ []) ≡ c ∷ [] → escape (when b c) ≡ when b c
unfolding when
escape_when true c q = q
escape_when false c q = unfold escape in refl

escape_point : (s : List ℕ) → escape s ≡ s → escape (or_point s) ≡ or_point s
unfolding or_point
escape_point [] q = unfold escape escape_char in refl
escape_point (c ∷ s) q = q

pub escape_modifiers : (m : Modifiers) → escape (modifiers_field m) ≡ modifiers_field m
unfolding modifiers_field
escape_modifiers m = escape_point (letters m) (unfold escape escape_char in rest refl refl refl refl refl)
  where
    rest : escape (64 ∷ []) ≡ 64 ∷ [] → escape (38 ∷ []) ≡ 38 ∷ [] → escape (45 ∷ []) ≡ 45 ∷ [] → escape (63 ∷ []) ≡ 63 ∷ [] → escape (43 ∷ []) ≡ 43 ∷ []
        → escape (letters m) ≡ letters m
    rest a b c d e =
        simp (
          escape_both,
          escape_when m.recipe 64 a,
          escape_when m.ref 38 b,
          escape_when m.hidden 45 c,
          escape_when m.opt 63 d,
          escape_when
              m.new 43 e,
        )

abbrev pub modifiers_fields : Modifiers → Fields
modifiers_fields m = modifiers_field m ∷ []

pub gives_modifiers : Gives read_modifiers (Writes modifiers_fields)
unfolding read_modifiers
gives_modifiers = gives_saying modifiers_of modifiers_field (λ f m g q. modifiers_field_lem f m q ∙ sym (escape_modifiers m))

-- all 32 sets read back
modifiers_all : (a b c d e : Bool) → modifiers_of (modifiers_field (record { recipe = a; ref = b; hidden = c; opt = d; new = e })) ≡ Some
    (record { recipe = a; ref = b; hidden = c; opt = d; new = e })
unfolding modifiers_of modifiers_field or_point when modifier_letters past leads is_empty no_modifiers eq_list
modifiers_all true true true true true = refl
modifiers_all true true true true false = refl
modifiers_all true true true false true = refl
modifiers_all true true true false false = refl
modifiers_all true true false true true = refl
modifiers_all true true false true false = refl
modifiers_all true true false false true = refl
modifiers_all true true false false false = refl
modifiers_all true false true true true = refl
modifiers_all true false true true false = refl
modifiers_all true false true false true = refl
modifiers_all true false true false false = refl
modifiers_all true false false true true = refl
modifiers_all true false false true false = refl
modifiers_all true false false false true = refl
modifiers_all true false false false false = refl
modifiers_all false true true true true = refl
modifiers_all false true true true false = refl
modifiers_all false true true false true = refl
modifiers_all false true true false false = refl
modifiers_all false true false true true = refl
modifiers_all false true false true false = refl
modifiers_all false true false false true = refl
modifiers_all false true false false false = refl
modifiers_all false false true true true = refl
modifiers_all false false true true false = refl
modifiers_all false false true false true = refl
modifiers_all false false true false false = refl
modifiers_all false false false true true = refl
modifiers_all false false false true false = refl
modifiers_all false false false false true = refl
modifiers_all false false false false false = refl

pub modifiers_back : (m : Modifiers) → Back read_modifiers (raw (modifiers_fields m)) m
unfolding read_modifiers field saying ◌>>=◌ go_on each
modifiers_back m = record { at = λ rest. rw (escape_modifiers m, modifiers_all m.recipe m.ref m.hidden m.opt m.new) }

-- ---- components

-- the parts of a component read back, and its fields are good
pub record GoodComponent (c : Component) : Type 0 where
  pub place : Back read_span (raw (span_fields c.span)) c.span
  pub named : Back read_text (raw (text_fields c.name)) c.name
  pub aliased : Back (opt read_text) (raw (opt_fields text_fields c.alias)) c.alias
  pub amount : Back (opt read_quantity) (raw (opt_fields quantity_fields c.quantity)) c.quantity
  pub noted : Back (opt read_text) (raw (opt_fields text_fields c.note)) c.note
  pub marked : Back read_span (raw (span_fields c.modifiers_span)) c.modifiers_span

component_parts : (x : Component) {a b c d e f g : Fields} → a ≡ raw (span_fields x.span) → b ≡ raw (text_fields x.name)
    → c ≡ raw (opt_fields text_fields x.alias)
    → d ≡ raw (opt_fields quantity_fields x.quantity) → e ≡ raw (opt_fields text_fields x.note) → f ≡ raw (modifiers_fields x.modifiers)
    → g ≡ raw (span_fields x.modifiers_span)
    → (a ++ (b ++ (c ++ (d ++ (e ++ (f ++ (g ++ []))))))) ≡ raw (named_fields x)
unfolding named_fields each
component_parts x ha hb hc hd he hf hg = rw (ha, hb, hc, hd, he, hf, hg) (simp (raw_both, append_assoc, append-nil))

pub at_raw : {A : Type 0} {r : Reader A} {p : Fields} {a : A} (fs : Fields) → p ≡ raw fs → Back r p a → Back r (raw fs) a
at_raw {A} {r} {p} {a} fs q b = subst (λ (x : Fields). Back r x a) q b

pub record TakenComponent (c : Component) (p : Fields) : Type 0 where
  pub is : p ≡ raw (named_fields c)
  pub good : GoodComponent c

pub gives_component : Gives read_component TakenComponent
unfolding read_component
gives_component =
    gives_bind read_span _ (Writes span_fields) TakenComponent gives_span
    (λ s p1 h1 b1 g1. gives_bind read_text _ (Writes text_fields) _ gives_text
    (λ n p2 h2 b2 g2. gives_bind (opt read_text) _ (WritesOpt text_fields) _ gives_opt_text
    (λ a p3 h3 b3 g3. gives_bind (opt read_quantity) _ (WritesOpt quantity_fields) _ gives_opt_quantity
    (λ q p4 h4 b4 g4. gives_bind (opt read_text) _ (WritesOpt text_fields) _ gives_opt_text
    (λ t p5 h5 b5 g5. gives_bind read_modifiers _ (Writes modifiers_fields) _ gives_modifiers
    (λ m p6 h6 b6 g6. gives_bind read_span _ (Writes span_fields) _ gives_span
    (λ ms p7 h7 b7 g7. gives_give _ _ (record {
      is = component_parts _ h1 h2 h3 h4 h5 h6 h7;
      good = record {
        place = at_raw _ h1 b1;
        named = at_raw _ h2 b2;
        aliased = at_raw _ h3 b3;
        amount = at_raw _ h4 b4;
        noted = at_raw _ h5 b5;
        marked = at_raw _ h7 b7;
      };
    }))))))))

pub component_back : (c : Component) → GoodComponent c → Back read_component (raw (named_fields c)) c
unfolding read_component
component_back c h =
    subst (λ (p : Fields). Back read_component p c) (component_parts c refl refl refl refl refl refl refl)
    (after read_span _ _ _ c.span c h.place
    (after read_text _ _ _ c.name c h.named
    (after (opt read_text) _ _ _ c.alias c h.aliased
    (after (opt read_quantity) _ _ _ c.quantity c h.amount
    (after (opt read_text) _ _ _ c.note c h.noted
    (after read_modifiers _ _ _ c.modifiers c (modifiers_back c.modifiers)
    (after read_span _ _ _ c.modifiers_span c h.marked (given_back c))))))))
