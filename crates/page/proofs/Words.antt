-- The index of metadata stands behind all that the pass left in work memory.
use Prim.Native.Nat.{ℕ}
use mathlib.Core.Path.{ap, sym, ◌∙◌, subst}
use mathlib.Core.List.{List}
use lib.ListN.{length}
use Rattle.rules.specs.Input.{Context}
use Rattle.rules.specs.Event.{Event}
use Rattle.rules.specs.State.{State, table_of, over_limits}
use Rattle.rules.specs.Reference.{DefinedWithoutRef}
use Rattle.model.proofs.Windows.{SameWords, front_same, same_state, same_sound, same_fit}
use Rattle.model.specs.declared.Held.{Held}
use Rattle.meta_map.specs.Maps.{WordsIndexed}
use Rattle.component_lines.specs.Lines.{Kept}
use Rattle.pass.specs.Walks.{RanRecipe, Counted}
use Rattle.page.specs.Pages.{PageGiven}

module _ (sheet w₀ w : List ℕ) (h : Held) (v : SameWords w₀ w) where
  pub kept_same : Kept sheet w₀ h → Kept sheet w h
  kept_same k =
      record {
        sound = same_sound v k.sound;
        fit = same_fit v k.fit;
        definitions = λ x. subst (λ (s : State). DefinedWithoutRef (table_of x s)) (sym (same_state v sheet h)) (k.definitions x);
        limits = ap over_limits (same_state v sheet h) ∙ k.limits;
      }

  -- the state is the same
  unfoldable pub ran_same : {cx : Context} {es : List Event} → RanRecipe cx sheet es w₀ h → RanRecipe cx sheet es w h
  ran_same r =
      record {
        state = r.state;
        walked = r.walked;
        is = r.is;
        memory = same_state v sheet h ∙ r.memory;
        kept = kept_same r.kept;
        counted = subst (Counted (length sheet)) (sym (same_state v sheet h)) r.counted;
      }

-- what the pass has left stays
pub words_same : {text sheet w₀ w : List ℕ} {flags n : ℕ} {h : Held} {cx : Context} {es : List Event} → WordsIndexed flags text sheet w₀ w n → RanRecipe cx sheet es w₀ h → SameWords w₀ w
words_same {w₀ = w₀} {w} x r = front_same w₀ w r.kept.sound.long x.front x.long

-- what the writers of the page are given, with the index of metadata there
pub given_indexed : {sheet text units : List ℕ} {flags : ℕ} {w₀ w : List ℕ} {h : Held} {n : ℕ} → PageGiven sheet text units flags w₀ h → WordsIndexed flags text sheet w₀ w n → PageGiven sheet text units flags w h
given_indexed {sheet = sheet} {w₀ = w₀} {w = w} {h = h} g x =
    record {
      text_utf8 = g.text_utf8;
      sheet_short = g.sheet_short;
      words_enough = rw x.long g.words_enough;
      context = g.context;
      agrees = g.agrees;
      ran = ran_same sheet w₀ w h (words_same x g.ran) g.ran;
    }
