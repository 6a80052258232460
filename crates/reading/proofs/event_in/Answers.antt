use Rattle.rules.specs.Read.{read_after}
use Rattle.sheet.specs.Words.{event_word_in}
use Rattle.events.specs.Views.{severity_in}
use Rattle.reading.proofs.Lines.{in_ended, in_unknown}
use Rattle.reading.proofs.event_in.Goals as goal

pub returns-in_err-word : goal.returns-in_err-word
returns-in_err-word c = rw c.from_residual.ensures (in_unknown c.in_err-word.ensures)

pub returns-in-Meta : goal.returns-in-Meta
unfolding event_word_in read_after
returns-in-Meta c = in_ended (rw c.in-Meta.is at c.in_ok-word.ensures) _ c.read_meta.ensures c.ended.ensures

pub returns-in-Section : goal.returns-in-Section
unfolding event_word_in read_after
returns-in-Section c = in_ended (rw c.in-Section.is at c.in_ok-word.ensures) _ c.read_section.ensures c.ended-in-Section.ensures

pub returns-in-Start : goal.returns-in-Start
unfolding event_word_in read_after
returns-in-Start c = in_ended (rw c.in-Start.is at c.in_ok-word.ensures) _ c.read_start.ensures c.ended-in-Start.ensures

pub returns-in-End : goal.returns-in-End
unfolding event_word_in read_after
returns-in-End c = in_ended (rw c.in-End.is at c.in_ok-word.ensures) _ c.read_end.ensures c.ended-in-End.ensures

pub returns-in-Text : goal.returns-in-Text
unfolding event_word_in read_after
returns-in-Text c = in_ended (rw c.in-Text.is at c.in_ok-word.ensures) _ c.read_text_line.ensures c.ended-in-Text.ensures

pub returns-in-Ingredient : goal.returns-in-Ingredient
unfolding event_word_in read_after
returns-in-Ingredient c = in_ended (rw c.in-Ingredient.is at c.in_ok-word.ensures) _ c.read_ingredient.ensures c.ended-in-Ingredient.ensures

pub returns-in-Cookware : goal.returns-in-Cookware
unfolding event_word_in read_after
returns-in-Cookware c = in_ended (rw c.in-Cookware.is at c.in_ok-word.ensures) _ c.read_cookware.ensures c.ended-in-Cookware.ensures

pub returns-in-Timer : goal.returns-in-Timer
unfolding event_word_in read_after
returns-in-Timer c = in_ended (rw c.in-Timer.is at c.in_ok-word.ensures) _ c.read_timer.ensures c.ended-in-Timer.ensures

pub returns-in-Error : goal.returns-in-Error
unfolding event_word_in read_after severity_in
returns-in-Error c = in_ended (rw c.in-Error.is at c.in_ok-word.ensures) _ c.read_finding.ensures c.ended-in-Error.ensures

pub returns-in-Warning : goal.returns-in-Warning
unfolding event_word_in read_after severity_in
returns-in-Warning c = in_ended (rw c.in-Warning.is at c.in_ok-word.ensures) _ c.read_finding-in-Warning.ensures c.ended-in-Warning.ensures
