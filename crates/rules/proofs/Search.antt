-- The same-name search, and what a line and its line in the form refer to.
use Prim.Native.Nat.{ℕ}
use mathlib.Core.Path.{◌≡◌, refl, sym, ap, ◌∙◌}
use mathlib.Core.List.{List, []}
use mathlib.Core.Bool.{Bool, true, false}
use Rattle.std.specs.Prelude.{Option, None, Some}
use borrow.Author.Tests.{eqb-true}
use Rattle.rules.specs.Basic.{pick}
use Rattle.rules.specs.Unicode.{fold_name}
use Rattle.rules.specs.Modes.{Modes, first_modes, is_steps, is_reference}
use Rattle.rules.specs.Model.{Kind, either, with_ref, Amount, Relation, Source, Entry, set_relation, set_modifiers}
use Rattle.rules.specs.Reference.{Earlier, same_name_in, same_name_of, entry_at, is_explicit, treat_as_reference, refers_to, as_referring}
use Rattle.rules.specs.Components.{found_same}
use Rattle.rules.specs.Plain.{is_last, implicit_fault}
use Rattle.rules.proofs.Basics.{no_some, no_truth, some_inj}
use Rattle.rules.proofs.Walks.{found_at}
use Rattle.rules.proofs.Chained.{refers_same}

-- two searches that find the same index find the same entry
pub same_index : (f f' : List ℕ) (a a' o o' : Bool) (es : List Entry) (d l : Earlier)
    → same_name_in f a o es ≡ Some d → same_name_in f' a' o' es ≡ Some l → d.index ≡ l.index → d ≡ l
same_index f f' a a' o o' es d l q r i =
    let g : Some d.entry ≡ Some l.entry = sym (found_at f a o es d q) ∙ ap (λ (x : ℕ). entry_at x es) i ∙ found_at f' a' o' es l r in
    by d.index l.index d.entry l.entry i (some_inj g)
  where
    by : (x y : ℕ) (e e' : Entry) → x ≡ y → e ≡ e' → ◌≡◌ {A = Earlier} (record { index = x; entry = e }) (record { index = y; entry = e' })
    by x y e e' p q = cc

is_last_lem : (d : Earlier) (o : Option Earlier) → is_last d o ≡ true → (l : Earlier) × (o ≡ Some l) × (d.index ≡ l.index)
unfolding is_last
is_last_lem d None q = no_truth q
is_last_lem d (Some l) q = (l, refl, eqb-true d.index l.index q)

no_23 : (b : Bool) → pick {X = Option ℕ} b None (Some 23) ≡ None → b ≡ true
no_23 true q = refl
no_23 false q = no_some (sym q)

-- an entry with REF added where its line is an implicit reference
abbrev pub mark_entry_if : Option Earlier → Entry → Entry
mark_entry_if None e = e
mark_entry_if (Some d) e = set_modifiers (with_ref e.modifiers) e

module _ (m : Modes) (k : Kind) (table : List Entry) (name : List ℕ) (path : Option (List (List ℕ))) (alias : Option (List ℕ)) (quantity : Option Amount)
    (note : Option (List ℕ)) (relation : Relation) (source : Source) (recipe hidden opt : Bool) where
  abbrev entry : Bool → Bool → Entry
  entry ref new =
      record {
        name = name;
        path = path;
        alias = alias;
        quantity = quantity;
        note = note;
        relation = relation;
        source = source;
        modifiers = record { recipe = recipe; ref = ref; hidden = hidden; opt = opt; new = new };
      }

  resolved : (ref new : Bool) (o : Option Earlier) → refers_to m (entry ref new) (found_same (entry ref new) table) ≡ o
      → implicit_fault (entry ref new) table (pick ref None o) ≡ None
      → refers_to first_modes (mark_entry_if (pick ref None o) (entry ref new)) (found_same (mark_entry_if (pick ref None o) (entry ref new)) table) ≡ o
  unfolding refers_to treat_as_reference is_explicit found_same implicit_fault set_modifiers with_ref first_modes is_steps is_reference same_name_of
  resolved true true o q f = q
  resolved true false o q f = q
  resolved false true None q f = refl
  resolved false true (Some d) q f = no_some q
  resolved false false None q f = refl
  resolved false false (Some d) q f =
      let e : same_name_in (fold_name name) false opt table ≡ Some d = refers_same m (entry false false) _ d q in
      let h : is_last d (same_name_in (fold_name name) true opt table) ≡ true = no_23 _ f in
      let (l, g, i) = is_last_lem d _ h in
      g ∙ ap Some (sym (same_index (fold_name name) (fold_name name) false true opt opt table d l e g i))

  rebuilt : (ref new : Bool) (o : Option Earlier) → as_referring k o (mark_entry_if (pick ref None o) (entry ref new)) ≡ as_referring k o (entry ref new)
  unfolding as_referring set_relation set_modifiers with_ref either
  rebuilt true new o = refl
  rebuilt false new None = refl
  rebuilt false new (Some d) = refl

-- what the sheet's entry refers to, the form's does, where 23 does not arise
pub resolve_same : (m : Modes) (k : Kind) (table : List Entry) (e : Entry) (o : Option Earlier) → refers_to m e (found_same e table) ≡ o
    → implicit_fault e table (pick e.modifiers.ref None o) ≡ None
    → refers_to first_modes (mark_entry_if (pick e.modifiers.ref None o) e) (found_same (mark_entry_if (pick e.modifiers.ref None o) e) table) ≡ o
resolve_same m k table e o =
    resolved m k table e.name e.path e.alias e.quantity e.note e.relation e.source e.modifiers.recipe e.modifiers.hidden
    e.modifiers.opt
    e.modifiers.ref e.modifiers.new o

-- and becomes the same entry
pub rebuilt_same : (k : Kind) (e : Entry) (o : Option Earlier) → as_referring k o (mark_entry_if (pick e.modifiers.ref None o) e) ≡ as_referring k o e
rebuilt_same k e o =
    rebuilt first_modes k [] e.name e.path e.alias e.quantity e.note e.relation e.source e.modifiers.recipe e.modifiers.hidden
    e.modifiers.opt
    e.modifiers.ref e.modifiers.new o
