-- A state of the pass without what work memory does not keep: contents of metadata, of sections and blocks, of timers and inline
-- quantities. Only their numbers, the kinds of the current section's blocks, and what components and findings hold are left.
use Rattle.std.specs.Prelude.{ℕ, List, [], length, replicate, Option, None, Some}
use Rattle.rules.specs.Basic.{each}
use Rattle.rules.specs.Event.{Span}
use Rattle.rules.specs.Model.{Timer, InlineQuantity, Block, step_block, text_block, Section}
use Rattle.rules.specs.State.{Open, no_block, step_open, text_open, text_mode_open, Place, Metadata, Tables, Kept, State, Step, next, stop, Walk, going, failed, refused, Outcome, recipe, no_recipe, refusal}

unfoldable pub blank_span : Span
blank_span = record { start = 0; end = 0 }

unfoldable pub blank_section : Section
blank_section = record { name = None; content = [] }

unfoldable pub blank_timer : Timer
blank_timer = record { name = None; quantity = None }

unfoldable pub blank_inline : InlineQuantity
blank_inline = record { number = []; unit = [] }

unfoldable pub blank_block : Block → Block
blank_block (step_block n is) = step_block 0 []
blank_block (text_block t) = text_block []

unfoldable pub blank_open : Open → Open
blank_open no_block = no_block
blank_open (step_open is) = step_open []
blank_open (text_open ts) = text_open []
blank_open (text_mode_open ts) = text_mode_open []

unfoldable pub blank_name : Option (List ℕ) → Option (List ℕ)
blank_name None = None
blank_name (Some n) = Some []

unfoldable pub blank_place : Place → Place
blank_place p =
    record {
      section = record { name = blank_name p.section.name; content = each blank_block p.section.content };
      step_counter = p.step_counter;
      block = blank_open p.block;
    }

unfoldable pub blank_metadata : Metadata → Metadata
blank_metadata m = record { map = []; old = replicate (length m.old) blank_span }

unfoldable pub blank_kept : Kept → Kept
blank_kept k = record { sections = replicate (length k.sections) blank_section; blocks = k.blocks; items = k.items }

unfoldable pub blank_tables : Tables → Tables
blank_tables t =
    record {
      ingredients = t.ingredients;
      cookware = t.cookware;
      timers = replicate (length t.timers) blank_timer;
      inline = replicate (length t.inline) blank_inline;
    }

unfoldable pub blank : State → State
blank st =
    record {
      modes = st.modes;
      metadata = blank_metadata st.metadata;
      place = blank_place st.place;
      kept = blank_kept st.kept;
      tables = blank_tables st.tables;
      findings = st.findings;
    }

unfoldable pub blank_step : Step → Step
blank_step (next st) = next (blank st)
blank_step (stop n) = stop n

unfoldable pub blank_walk : Walk → Walk
blank_walk (going st) = going (blank st)
blank_walk (failed fs) = failed fs
blank_walk (refused n l) = refused n l

-- the refusal of an outcome, its number and line
unfoldable pub refusal_of : Outcome → Option (ℕ × ℕ)
refusal_of (recipe st) = None
refusal_of (no_recipe fs) = None
refusal_of (refusal n l) = Some (n, l)
