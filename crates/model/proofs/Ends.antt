-- The end of the pass: whether it is refused does not depend on what `blank` takes away.
use mathlib.Core.Path.{◌≡◌, refl, sym, ap, ◌∙◌}
use mathlib.Core.List.{List, [], ◌∷◌}
use mathlib.Core.Bool.{Bool, true, false}
use lib.ListN.{length, replicate, length-reverse_aux}
use Rattle.rules.specs.Basic.{pick}
use Rattle.rules.specs.Event.{Span}
use Rattle.rules.specs.Finding.{Finding}
use Rattle.rules.specs.State.{State, report, over_limits, Walk, going, failed, refused, recipe, refusal}
use Rattle.rules.specs.Metadata.{old_metadata}
use Rattle.rules.specs.Pass.{is_open, close_section, ended, unless_over, finish}
use Rattle.model.specs.Blank.{blank_span, blank_place, blank_metadata, blank, blank_walk, refusal_of}
use Rattle.model.proofs.Blanks.{blank_report, close_section_lem, over_blank, open_blank}

-- finding 3 is one or none
old_length : (ss : List Span) → length (old_metadata (replicate (length ss) blank_span)) ≡ length (old_metadata ss)
unfolding old_metadata
old_length [] = refl
old_length (s ∷ ss) = refl

-- limits ask for the number of findings only
over_report : (fs gs : List Finding) (st : State) → length fs ≡ length gs → over_limits (report fs st) ≡ over_limits (report gs st)
unfolding over_limits report
over_report fs gs st e = simp (length-reverse_aux, e)

pub over_report_blank : (fs : List Finding) (a b : State) → blank a ≡ blank b → over_limits (report fs a) ≡ over_limits (report fs b)
over_report_blank fs a b e =
    sym (over_blank (report fs a)) ∙ ap over_limits (blank_report fs a ∙ ap (report fs) e ∙ sym (blank_report fs b)) ∙ over_blank (report fs b)

pub over_ended : (st : State) → over_limits (ended (blank st)) ≡ over_limits (ended st)
unfolding ended blank blank_metadata
over_ended st =
    over_report _ (old_metadata st.metadata.old) (close_section (blank st)) (old_length st.metadata.old)
    ∙ over_report_blank (old_metadata st.metadata.old) (close_section (blank st)) (close_section st) (sym (close_section_lem st))

over_refusal : (a b : State) → over_limits (ended a) ≡ over_limits (ended b) → refusal_of (unless_over (ended a)) ≡ refusal_of (unless_over (ended b))
unfolding unless_over refusal_of
over_refusal a b e = rw e (go (over_limits (ended b)))
  where
    go : (t : Bool) → refusal_of (pick t (refusal 17 0) (recipe (ended a))) ≡ refusal_of (pick t (refusal 17 0) (recipe (ended b)))
    go true = refl
    go false = refl

pub refusal_blank : (w : Walk) → refusal_of (finish w) ≡ refusal_of (finish (blank_walk w))
unfolding finish blank_walk blank blank_place
refusal_blank (going st) = rw (open_blank st.place.block) (go (is_open st.place.block))
  where
    go : (t : Bool) → refusal_of (pick t (refusal 19 0) (unless_over (ended st))) ≡ refusal_of (pick t (refusal 19 0) (unless_over (ended (blank st))))
    go true = refl
    go false = over_refusal st (blank st) (sym (over_ended st))
refusal_blank (failed fs) = refl
refusal_blank (refused n l) = refl
