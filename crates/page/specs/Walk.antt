-- What the second walk over an accepted sheet leaves.
use Rattle.std.specs.Prelude.{ℕ, suc, ◌+◌, ◌≤◌, ◌<◌, ◌^◌, ◌≡◌, Bool, true, false, not, List, [], ◌∷◌, eqb, length, Some}
use Rattle.rules.specs.Basic.{lf, pick, all, is_some}
use Rattle.rules.specs.Utf8.{is_utf8}
use Rattle.rules.specs.Event as rules
use Rattle.rules.specs.Units.{NamedUnit}
use Rattle.rules.specs.Input.{Context, TextAgrees}
use Rattle.rules.specs.Read.{parse_line}
use Rattle.rules.specs.State.{State, first_state, going}
use Rattle.rules.specs.Pass.{walk}
use Rattle.rules.specs.Answer.{events_or, is_good_span, read_sheet}
use Rattle.rules.specs.Sheet.{Without}
use Rattle.output.specs.Put.{Put}
use Rattle.following.specs.Drawn.{quantities_added, added, drawn}
use Rattle.following.specs.Follow.{next_follow, with_inline, Room, Counts}
use Rattle.following.specs.declared.Follow.{Follow}
use Rattle.following.specs.declared.Part.{Part}
use Rattle.following.specs.declared.Part.TheVariants.{Sections, Timers, Inline, Old}
use Rattle.sheet.specs.declared.Define.TheVariants as define
use Rattle.model.specs.declared.Open.TheVariants as block
use Rattle.page_parts.specs.Drawing.{tracked}
use Rattle.page.specs.declared.walk.Turn.{Turn}

-- a line of an accepted sheet: it is well formed, its spans are good, and f has room for it
pub record LineReady (text : List ℕ) (units : List NamedUnit) (flags : ℕ) (p : Part) (line : List ℕ) (f : Follow) : Type 0 where
  pub known : is_some (parse_line line) ≡ true
  pub whole : Without lf line
  pub spans : (e : rules.Event) → parse_line line ≡ Some e → all (is_good_span text (length text)) (rules.spans_of e) ≡ true
  pub room : Room f
  pub few : (e : rules.Event) → parse_line line ≡ Some e → f.inline + tracked p (length (quantities_added units flags e f)) ≤ 100000
  pub short : f.inline + length line < 2 ^ 32

-- the line is drawn, and r has the state after it
pub record LineTaken (text : List ℕ) (units : List NamedUnit) (flags : ℕ) (p : Part) (line : List ℕ) (f : Follow) (o₀ o : List ℕ) (r : Turn) : Type 0 where
  pub put : (e : rules.Event) → parse_line line ≡ Some e → Put (added text units flags p e f) o₀ 0 o r.count
  pub follow : (e : rules.Event) → parse_line line ≡ Some e → r.follow ≡ with_inline (f.inline + tracked p (length (quantities_added units flags e f))) (next_follow flags e f)

-- ---- lines that a part's walk need not read

-- what of the small state the walk for a part follows
unfoldable pub view : Part → Follow → Follow
view Sections f = f
view Timers f = record { define = f.define; block = f.block; shown = false; counter = 0; ingredients = 0; cookware = 0; timers = f.timers; inline = 0; old = false }
view Inline f = record { define = f.define; block = f.block; shown = false; counter = 0; ingredients = 0; cookware = 0; timers = 0; inline = f.inline; old = false }
view Old f = record { define = define.All; block = block.Nothing; shown = false; counter = 0; ingredients = 0; cookware = 0; timers = 0; inline = 0; old = f.old }

-- the line of an `ingredient`, a `cookware` or a `warning`, or of the word with the first bytes t and x
unfoldable pub is_aside : ℕ → ℕ → ℕ → Bool
is_aside x a b = pick (eqb a 105) true (pick (eqb a 99) true (pick (eqb a 119) true (pick (eqb a 116) (eqb b x) false)))

-- a line with such first bytes adds nothing to the part, and changes nothing that its walk follows: for the timers `text` lines
-- too, for the inline quantities `timer` lines, for the old metadata all but `meta` lines
unfoldable pub is_idle_by : Part → ℕ → ℕ → Bool
is_idle_by Sections a b = false
is_idle_by Timers a b = is_aside 101 a b
is_idle_by Inline a b = is_aside 105 a b
is_idle_by Old a b = not (eqb a 109)

unfoldable pub is_idle : Part → List ℕ → Bool
is_idle p [] = false
is_idle p (a ∷ []) = false
is_idle p (a ∷ b ∷ s) = is_idle_by p a b

-- the line is drawn or passed over: r has what of the state after it the part's walk follows, and counts at most one more
pub record TurnTaken (text : List ℕ) (units : List NamedUnit) (flags : ℕ) (p : Part) (line : List ℕ) (f : Follow) (o₀ o : List ℕ) (r : Turn) : Type 0 where
  pub put : (e : rules.Event) → parse_line line ≡ Some e → Put (added text units flags p e f) o₀ 0 o r.count
  pub seen : (e : rules.Event) → parse_line line ≡ Some e → view p r.follow ≡ view p (with_inline (f.inline + tracked p (length (quantities_added units flags e f))) (next_follow flags e f))
  pub inline : (e : rules.Event) → parse_line line ≡ Some e → r.follow.inline ≡ f.inline + tracked p (length (quantities_added units flags e f))
  pub counts : {n : ℕ} → Counts n f → Counts (suc n) r.follow

-- ---- the whole part

-- a sheet that is short, a text that is UTF-8, and a pass over them that goes to the end, in some context that agrees
pub record PassInputs (sheet text units : List ℕ) (flags : ℕ) : Type 0 where
  pub text_utf8 : is_utf8 text ≡ true
  pub sheet_short : length sheet ≤ 65536
  pub context : Context
  pub agrees : TextAgrees text units flags context
  pub final : State
  pub goes : walk context 1 (going first_state) (events_or (read_sheet text sheet)) ≡ going final

-- what of the page the state at the end has drawn, written at a position; in every context that agrees
pub record PartDrawn (sheet text units : List ℕ) (flags : ℕ) (p : Part) (o₀ : List ℕ) (at : ℕ) (o : List ℕ) (r : ℕ) : Type 0 where
  pub put : (cx : Context) → TextAgrees text units flags cx → (final : State)
      → walk cx 1 (going first_state) (events_or (read_sheet text sheet)) ≡ going final → Put (drawn p final) o₀ at o r
