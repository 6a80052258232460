-- What the words stand for.
use Rattle.rules.specs.Words as rules
use Rattle.sheet.specs.declared.EventWord.{EventWord}
use Rattle.sheet.specs.declared.EventWord.TheVariants as word
use Rattle.sheet.specs.declared.BlockKind.{BlockKind}
use Rattle.sheet.specs.declared.BlockKind.TheVariants as block
use Rattle.sheet.specs.declared.ValueKind.{ValueKind}
use Rattle.sheet.specs.declared.ValueKind.TheVariants as value
use Rattle.sheet.specs.declared.ConfigKey.{ConfigKey}
use Rattle.sheet.specs.declared.ConfigKey.TheVariants as key
use Rattle.sheet.specs.declared.Define.{Define}
use Rattle.sheet.specs.declared.Define.TheVariants as define
use Rattle.sheet.specs.declared.Duplicate.{Duplicate}
use Rattle.sheet.specs.declared.Duplicate.TheVariants as duplicate

unfoldable pub event_word_in : EventWord → rules.EventWord
event_word_in word.Meta = rules.meta_word
event_word_in word.Section = rules.section_word
event_word_in word.Start = rules.start_word
event_word_in word.End = rules.end_word
event_word_in word.Text = rules.text_word
event_word_in word.Ingredient = rules.ingredient_word
event_word_in word.Cookware = rules.cookware_word
event_word_in word.Timer = rules.timer_word
event_word_in word.Error = rules.error_word
event_word_in word.Warning = rules.warning_word

unfoldable pub block_in : BlockKind → rules.BlockKind
block_in block.Step = rules.step_kind
block_in block.Text = rules.text_kind

unfoldable pub kind_in : ValueKind → rules.ValueKind
kind_in value.Number = rules.number
kind_in value.Range = rules.range
kind_in value.Textual = rules.textual

unfoldable pub key_in : ConfigKey → rules.ConfigKey
key_in key.Define = rules.define_key
key_in key.Duplicate = rules.duplicate_key

unfoldable pub define_of : Define → rules.DefineMode
define_of define.All = rules.mode_all
define_of define.Components = rules.mode_components
define_of define.Steps = rules.mode_steps
define_of define.Text = rules.mode_text

unfoldable pub duplicate_of : Duplicate → rules.DuplicateMode
duplicate_of duplicate.New = rules.duplicate_new
duplicate_of duplicate.Reference = rules.duplicate_reference
