-- From what is lent to every context that agrees with it.
use Prim.Native.Nat.{ℕ}
use mathlib.Core.Path.{refl}
use mathlib.Core.List.{List}
use Rattle.rules.specs.Units.{NamedUnit, read_units, units_or}
use Rattle.rules.specs.Input.{Input, Context, context_of, Agrees, TextAgrees}

-- what holds of the units and the flags that are lent holds of the context's
pub agreed : (P : List NamedUnit → ℕ → Type 0) {units : List ℕ} {flags : ℕ} {cx : Context} → Agrees units flags cx
    → P (units_or (read_units units)) flags → P cx.units cx.flags
agreed P a p = rw (a.same_units, a.same_flags) p

pub text_agreed : (P : List ℕ → List NamedUnit → ℕ → Type 0) {text units : List ℕ} {flags : ℕ} {cx : Context} → TextAgrees text units flags cx
    → P text (units_or (read_units units)) flags → P cx.text cx.units cx.flags
text_agreed P a p = rw (a.same_text, a.rest.same_units, a.rest.same_flags) p

-- the context of what is lent is one
pub own_context : (i : Input) → TextAgrees i.text i.units i.flags (context_of i)
own_context i = record { same_text = refl; rest = record { same_units = refl; same_flags = refl } }

-- and back
pub lent_as : (P : List NamedUnit → ℕ → Type 0) {units : List ℕ} {flags : ℕ} {cx : Context} → Agrees units flags cx
    → P cx.units cx.flags → P (units_or (read_units units)) flags
lent_as P a p = rw (a.same_units, a.same_flags) at p
