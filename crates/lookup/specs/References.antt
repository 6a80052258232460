-- What a new component refers to.
use Rattle.std.specs.Prelude.{ℕ, ◌≡◌, Bool, ◌||◌, Option}
use Rattle.rules.specs.Basic.{is_some, on_some}
use Rattle.rules.specs.Model.{Entry}
use Rattle.rules.specs.Modes.{Modes, is_steps, is_reference}
use Rattle.rules.specs.Reference.{Earlier, treat_as_reference, refers_to}
use Rattle.sheet.specs.declared.Define.{Define}
use Rattle.sheet.specs.declared.Duplicate.{Duplicate}
use Rattle.sheet.specs.Words.{define_of, duplicate_of}

-- the modes of the small state
abbrev pub modes_of : Define → Duplicate → Modes
modes_of define duplicate = record { define = define_of define; duplicate = duplicate_of duplicate }

-- whether what is made of a component depends on the same-name search (the Rust's `same_name` is lazy)
unfoldable pub asks_same : Modes → Bool → Bool
asks_same modes ref = ref || is_steps modes.define || is_reference modes.duplicate

-- a new entry with REF or not and NEW or not
pub record Marked (e : Entry) (ref new : Bool) : Type 0 where
  pub is_ref : e.modifiers.ref ≡ ref
  pub is_new : e.modifiers.new ≡ new

pub record TreatedAs (define : Define) (duplicate : Duplicate) (ref is_found r : Bool) : Type 0 where
  pub is : (e : Entry) (same : Option Earlier) → e.modifiers.ref ≡ ref → is_some same ≡ is_found → r ≡ treat_as_reference (modes_of define duplicate) e same

-- r is what an entry refers to where the search found `same`; f gives the entries of indices
pub record Refers (define : Define) (duplicate : Duplicate) (ref new : Bool) (same r : Option ℕ) : Type 0 where
  pub is : (e : Entry) (f : ℕ → Earlier) → Marked e ref new → on_some f r ≡ refers_to (modes_of define duplicate) e (on_some f same)
