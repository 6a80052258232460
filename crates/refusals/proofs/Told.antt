-- No two reasons are told by one number.
use Rattle.std.proofs.Common.{◌≡◌, ℕ, ◌-◌, List, [], ◌∷◌, get_or, refl, sym, ap, ◌∙◌}
use Rattle.refusals.specs.declared.Reason.{Reason}
use Rattle.refusals.specs.declared.Reason.TheVariants as reason
use Rattle.refusals.specs.Told.{number_of}

-- the reasons, in the order of their numbers
reasons : List Reason
reasons =
    reason.Lengths ∷ reason.LongText ∷ reason.LongUnits ∷ reason.TextNotUtf8 ∷ reason.IllUnits ∷ reason.UnitTwice ∷ reason.UnknownFlags ∷ reason.IllLine ∷ reason.ManyLines ∷ reason.BadSpan ∷ reason.InOpenBlock ∷ reason.InNoBlock
    ∷ reason.OtherEnd ∷ reason.ComponentInText ∷ reason.NotMarked ∷ reason.Negative ∷ reason.OverLimits ∷ reason.ReferenceToReference ∷ reason.OpenAtEnd ∷ reason.NoRoom ∷ reason.ErrorLine ∷ reason.InComponentsMode ∷ reason.NotLast ∷ reason.LongForm ∷ []

reason_of : ℕ → Reason
reason_of n = get_or reasons (n - 1) reason.Lengths

told_back : (r : Reason) → reason_of (number_of r) ≡ r
unfolding reason_of reasons
told_back reason.Lengths = refl
told_back reason.LongText = refl
told_back reason.LongUnits = refl
told_back reason.TextNotUtf8 = refl
told_back reason.IllUnits = refl
told_back reason.UnitTwice = refl
told_back reason.UnknownFlags = refl
told_back reason.IllLine = refl
told_back reason.ManyLines = refl
told_back reason.BadSpan = refl
told_back reason.InOpenBlock = refl
told_back reason.InNoBlock = refl
told_back reason.OtherEnd = refl
told_back reason.ComponentInText = refl
told_back reason.NotMarked = refl
told_back reason.Negative = refl
told_back reason.OverLimits = refl
told_back reason.ReferenceToReference = refl
told_back reason.OpenAtEnd = refl
told_back reason.NoRoom = refl
told_back reason.ErrorLine = refl
told_back reason.InComponentsMode = refl
told_back reason.NotLast = refl
told_back reason.LongForm = refl

pub same_reason : (r s : Reason) → number_of r ≡ number_of s → r ≡ s
same_reason r s e = sym (told_back r) ∙ ap reason_of e ∙ told_back s
