-- The entries of a table that have no REF are the unmarked entries of the lines; so the two searches find the same.
use Prim.Native.Nat.{ℕ, suc, ◌<◌}
use mathlib.Core.Path.{◌≡◌, refl, sym, subst}
use mathlib.Core.List.{List, [], ◌∷◌}
use mathlib.Core.Bool.{Bool, true, false, ◌&&◌, ◌||◌, not}
use Rattle.std.specs.Prelude.{Option, None, Some}
use native.Mathlib.Omega.{arith}
use lib.Dec.{eqb}
use lib.ListN.{length}
use Rattle.rules.specs.Basic.{pick, eq_list, is_some}
use Rattle.rules.specs.Unicode.{fold_name}
use Rattle.rules.specs.Event.{Component}
use Rattle.rules.specs.Modes.{is_steps, is_reference}
use Rattle.rules.specs.Model.{Kind, Entry, entry_with, entry_of, set_relation}
use Rattle.rules.specs.Reference.{Earlier, eq_bool, fits, same_name_in, same_name_of, is_explicit, treat_as_reference, refers_to, set_referenced_from}
use Rattle.rules.specs.State.{State, table_of}
use Rattle.rules.specs.Components.{new_entry, found_same, referred}
use Rattle.rules.specs.Demand.{Unmarked, folded_name, last_fitting, last_named, implicit_target}
use Rattle.rules.proofs.Basics.{pick_either, no_some, no_truth, some_inj}
use Rattle.rules.proofs.Walks.{found_below}

-- every place is below n
pub data Below (n : ℕ) : List Unmarked → Type 0 where
  below_none : Below n []
  below_more : {u : Unmarked} {us : List Unmarked} → u.place < n → Below n us → Below n (u ∷ us)

pub below_up : {n : ℕ} {us : List Unmarked} → Below n us → Below (suc n) us
below_up below_none = below_none
below_up {n} (below_more {u = u} h s) = let g : u.place < suc n = omega arith in below_more g (below_up s)

-- the same entries in the same order, but for those with REF
pub data Listed : List Entry → List Unmarked → Type 0 where
  listed_none : Listed [] []
  listed_marked : {e : Entry} {es : List Entry} {us : List Unmarked} → e.modifiers.ref ≡ true → Listed es us → Listed (e ∷ es) us
  listed_entry : {e : Entry} {es : List Entry} {u : Unmarked} {us : List Unmarked} → e.modifiers.ref ≡ false → fold_name e.name ≡ u.folded
      → e.modifiers.opt ≡ u.is_opt
      → Below u.place us → Listed es us → Listed (e ∷ es) (u ∷ us)

-- a referrer more changes relations only
referred_one : (n : ℕ) (i : ℕ) {es : List Entry} {us : List Unmarked} → Listed es us → Listed (set_referenced_from i n es) us
unfolding set_referenced_from set_relation
referred_one n i listed_none = listed_none
referred_one n i {us = us} (listed_marked {e} {es} r h) =
    pick_either (λ (l : List Entry). Listed l us) (eqb i (length es)) _ _ (λ b. listed_marked r h) (λ b. listed_marked r (referred_one n i h))
referred_one n i {us = us} (listed_entry {e} {es} r f o p h) =
    pick_either (λ (l : List Entry). Listed l us) (eqb i (length es)) _ _ (λ b. listed_entry r f o p h) (λ b. listed_entry r f o p (referred_one n i h))

pub referred_listed : {es : List Entry} {us : List Unmarked} (o : Option Earlier) → Listed es us → Listed (referred o es) us
unfolding referred
referred_listed None h = h
referred_listed (Some d) h = referred_one _ d.index h

-- ---- the two searches over the two lists: that with OPT and that without

pub data Both : Option Earlier → Option Earlier → Option Unmarked → Option Unmarked → Type 0 where
  neither : Both None None None None
  named_only : {l : Earlier} {v : Unmarked} → Both None (Some l) None (Some v)
  same_one : {d : Earlier} {u : Unmarked} → Both (Some d) (Some d) (Some u) (Some u)
  another : {d l : Earlier} {u v : Unmarked} → d.index < l.index → u.place < v.place → Both (Some d) (Some l) (Some u) (Some v)

-- what is found has a place below every bound
fitting_below : (f : List ℕ) (o : Bool) {n : ℕ} {us : List Unmarked} → Below n us → (u : Unmarked) → last_fitting f o us ≡ Some u → u.place < n
unfolding last_fitting
fitting_below f o below_none u q = no_some q
fitting_below f o {n} (below_more {u = w} {us = us} h s) u q =
    pick_either (λ (x : Option Unmarked). x ≡ Some u → u.place < n) (eq_bool w.is_opt o && eq_list w.folded f) _ _
    (λ b p. subst (λ (y : Unmarked). y.place < n) (some_inj p) h) (λ b p. fitting_below f o s u p) q

module _ (f : List ℕ) (o : Bool) where
  abbrev B : List Entry → List Unmarked → Type 0
  B es us = Both (same_name_in f false o es) (same_name_in f true o es) (last_fitting f o us) (last_named f us)

  -- an entry that has the name but not the OPT stands before what the tails find
  passed_by : (e : Entry) (es : List Entry) (u : Unmarked) (us : List Unmarked) → Below u.place us → {a b : Option Earlier} {x y : Option Unmarked} → Both a b x y
      → same_name_in f false o es ≡ a → last_fitting f o us ≡ x → Both a (Some (record { index = length es; entry = e })) x (Some u)
  passed_by e es u us p neither qa qx = named_only
  passed_by e es u us p named_only qa qx = named_only
  passed_by e es u us p (same_one {d = d} {u = w}) qa qx = another (found_below f false o es d qa) (fitting_below f o p w qx)
  passed_by e es u us p (another {d = d} {u = w} h g) qa qx = another (found_below f false o es d qa) (fitting_below f o p w qx)

  fits_opt : (e : Entry) (u : Unmarked) → e.modifiers.ref ≡ false → fold_name e.name ≡ u.folded → e.modifiers.opt ≡ u.is_opt
      → (fits f false o e ≡ (eq_bool u.is_opt o && eq_list u.folded f)) × (fits f true o e ≡ eq_list u.folded f)
  unfolding fits
  fits_opt e u r n p = (rw (r, n, p), rw (r, n))

  fits_no : (e : Entry) (a : Bool) → e.modifiers.ref ≡ true → fits f a o e ≡ false
  unfolding fits
  fits_no e a r = rw r

  pub search_both : {es : List Entry} {us : List Unmarked} → Listed es us → B es us
  unfolding same_name_in last_fitting last_named
  search_both listed_none = neither
  search_both (listed_marked {e} {es} r h) = rw (fits_no e false r, fits_no e true r) (search_both h)
  search_both (listed_entry {e} {es} {u} {us} r n p b h) =
      let q = fits_opt e u r n p in rw (q.0, q.1) (go (eq_bool u.is_opt o) (eq_list u.folded f) (search_both h))
    where
      E : Earlier
      E = record { index = length es; entry = e }

      go : (x y : Bool) → B es us
          → Both (pick (x && y) (Some E) (same_name_in f false o es)) (pick y (Some E) (same_name_in f true o es)) (pick (x && y) (Some u) (last_fitting f o us))
          (pick y (Some u) (last_named f us))
      go true true ih = same_one
      go true false ih = ih
      go false false ih = ih
      go false true ih = passed_by e es u us b ih refl refl

-- ---- what a line without REF refers to, in the pass and by the lines

pub data Links : Option Earlier → Option Earlier → Option Unmarked → Option Unmarked → Type 0 where
  no_link : {b : Option Earlier} {y : Option Unmarked} → Links None b None y
  last_link : {d : Earlier} {u : Unmarked} → Links (Some d) (Some d) (Some u) (Some u)
  other_link : {d l : Earlier} {u v : Unmarked} → d.index < l.index → u.place < v.place → Links (Some d) (Some l) (Some u) (Some v)

both_none : (p q : Bool) {b : Option Earlier} {y : Option Unmarked} → Links (pick p None None) b (pick q None None) y
both_none true true = no_link
both_none true false = no_link
both_none false true = no_link
both_none false false = no_link

chosen : (new steps refs : Bool) {a b : Option Earlier} {x y : Option Unmarked} → Both a b x y
    → Links (pick new None (pick (false || steps || refs && is_some a) a None)) b (pick (true && not new && (steps || refs)) x None) y
unfolding is_some
chosen true steps refs h = no_link
chosen false steps refs neither = both_none (steps || refs && false) (steps || refs)
chosen false steps refs named_only = both_none (steps || refs && false) (steps || refs)
chosen false true refs same_one = last_link
chosen false false true same_one = last_link
chosen false false false same_one = no_link
chosen false true refs (another h g) = other_link h g
chosen false false true (another h g) = other_link h g
chosen false false false (another h g) = no_link

marked_or : (ref new steps refs : Bool) (a : Bool → Option Earlier) {b : Option Earlier} {x y : Option Unmarked} → ref ≡ false → Both (a false) b x y
    → Links (pick new None (pick (ref || steps || refs && is_some (a ref)) (a ref) None)) b (pick (not ref && not new && (steps || refs)) x None) y
marked_or true new steps refs a q h = no_truth (sym q)
marked_or false new steps refs a q h = chosen new steps refs h

pub line_links : (k : Kind) (c : Component) (st : State) (us : List Unmarked) → c.modifiers.ref ≡ false → Listed (table_of k st) us
    → Links (refers_to st.modes (new_entry k c st) (found_same (new_entry k c st) (table_of k st))) (same_name_of true (new_entry k c st) (table_of k st))
    (implicit_target st.modes.define st.modes.duplicate k c us) (last_named (folded_name k c) us)
unfolding refers_to treat_as_reference is_explicit found_same same_name_of new_entry entry_of entry_with implicit_target folded_name
line_links k c st us r h =
    marked_or c.modifiers.ref c.modifiers.new (is_steps st.modes.define) (is_reference st.modes.duplicate)
    (λ b. same_name_in (folded_name k c) b c.modifiers.opt (table_of k st)) r (search_both (folded_name k c) c.modifiers.opt h)
