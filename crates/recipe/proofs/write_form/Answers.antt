use native.Mathlib.Omega.{arith}
use mathlib.Core.Path.{refl}
use lib.Seq.{length-take-le}
use Rattle.std.proofs.result.Match.{err_is}
use Rattle.recipe.proofs.Forms.{lines_given, fault_told, form_long, form_within, form_given_lem, form_told}
use Rattle.recipe.proofs.write_form.Goals as goal

pub invariant_of-stored : goal.invariant_of-stored
invariant_of-stored c = record { sound = c.requires.0.ran.kept.sound }

pub plain_form_lines-requires : goal.plain_form_lines-requires
plain_form_lines-requires c = lines_given c.requires.0

pub returns-then-n-gt65536 : goal.returns-then-n-gt65536
returns-then-n-gt65536 c = form_long c.requires.0 c.plain_form_lines.ensures c.in_ok-n.was (length-take-le 65536 c.args.bytes.now c.requires.1) _ refl c.if-n-gt65536.true

pub slice_bounds-give_form-count : goal.slice_bounds-give_form-count
slice_bounds-give_form-count c = omega arith

pub slice_bounds-give_form-end : goal.slice_bounds-give_form-end
slice_bounds-give_form-end c = form_within c.requires.0 c.plain_form_lines.ensures c.in_ok-n.was (length-take-le 65536 c.args.bytes.now c.requires.1) c.if-n-gt65536.false _

pub give_form-requires : goal.give_form-requires
give_form-requires c = form_given_lem c.requires.0 c.plain_form_lines.ensures c.in_ok-n.was (length-take-le 65536 c.args.bytes.now c.requires.1) c.if-n-gt65536.false _

pub returns-in_err-n : goal.returns-in_err-n
returns-in_err-n c = rw (err_is _ _ c.from_residual.ensures.1) (fault_told c.requires.0 c.plain_form_lines.ensures _ refl c.in_err-n.was)

pub returns : goal.returns
returns c = form_told c.requires.0 c.plain_form_lines.ensures c.in_ok-n.was (length-take-le 65536 c.args.bytes.now c.requires.1) c.if-n-gt65536.false _ c.give_form.ensures
