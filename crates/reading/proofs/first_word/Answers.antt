use mathlib.Core.Path.{refl}
use Rattle.reading.proofs.Leading.{word_led, word_read, no_word, no_tab_text, no_tab_ingredient, no_tab_start, no_tab_end, text_word_lem, ingredient_word, start_word, end_word}
use Rattle.reading.proofs.first_word.Goals as goal

pub returns-then-leads : goal.returns-then-leads
returns-then-leads c = word_led _ _ c.leads.ensures c.if-leads.true no_tab_text text_word_lem refl

pub returns-then-leads-2 : goal.returns-then-leads-2
returns-then-leads-2 c = word_led _ _ c.leads-2.ensures c.if-leads-2.true no_tab_ingredient ingredient_word refl

pub returns-then-leads-3 : goal.returns-then-leads-3
returns-then-leads-3 c = word_led _ _ c.leads-3.ensures c.if-leads-3.true no_tab_start start_word refl

pub returns-then-leads-4 : goal.returns-then-leads-4
returns-then-leads-4 c = word_led _ _ c.leads-4.ensures c.if-leads-4.true no_tab_end end_word refl

pub returns-in_err-word : goal.returns-in_err-word
returns-in_err-word c = rw c.from_residual.ensures (no_word _ c.field-f.ensures c.in_err-word.ensures)

pub returns : goal.returns
returns c = word_read _ c.field-f.ensures c.in_ok-word.ensures refl
