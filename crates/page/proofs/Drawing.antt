-- The loop over an accepted sheet that draws a part of the page: what it carries from line to line.
use Prim.Native.Nat.{ℕ, ◌+◌, ◌-◌, ◌≤◌, ◌<◌, ◌^◌}
use mathlib.Core.Path.{◌≡◌, refl, sym, ap, ◌∙◌, subst}
use mathlib.Core.List.{List, [], ◌∷◌, ◌++◌, append-nil, append_assoc}
use Rattle.std.specs.Prelude.{Some, None, Option}
use native.Mathlib.Omega.{arith}
use native.Mathlib.Numerals.{add-one}
use lib.ListN.{length, take, drop, length-take}
use Rattle.rules.specs.Units.{NamedUnit, read_units, units_or}
use Rattle.rules.specs.Input.{Context, TextAgrees}
use Rattle.rules.specs.Sheet.{lines}
use Rattle.rules.specs.Event.{Event}
use Rattle.rules.specs.Read.{parse_line}
use Rattle.rules.specs.State.{State, first_state, going}
use Rattle.rules.specs.Pass.{walk}
use Rattle.rules.specs.Answer.{events, events_or, read_from, read_sheet}
use Rattle.rules.proofs.Agreed.{text_agreed, lent_as}
use Rattle.output.specs.Put.{Put}
use Rattle.output.proofs.Puts.{put_seq, put_past, put_most, put_rest, rest_fits, keeps}
use Rattle.output.proofs.Texts.{text_is}
use Rattle.sheet.specs.Lines.{LineAt}
use Rattle.reading.proofs.Passes.{Rest, rest_ends, rest_ended, First}
use Rattle.following.specs.declared.Part.{Part}
use Rattle.following.specs.declared.Follow.{Follow}
use Rattle.following.specs.Drawn.{drawn, follow_of, first_follow, quantities_added, added, appended}
use Rattle.following.specs.Follow.{Room, Counts}
use Rattle.following.proofs.Laws.{drawn_first, drawn_next, follows_first}
use Rattle.following.proofs.Walking.{Walking, Went, walking_first, walking_next, walking_ends}
use Rattle.page_parts.specs.Drawing.{tracked}
use Rattle.page.specs.declared.walk.Turn.{Turn}
use Rattle.page.specs.Walk.{view, LineReady, TurnTaken, PassInputs, PartDrawn}
use Rattle.page.proofs.Lines.{line_known, line_spans, line_first, line_whole, EventIs, event_is}
use Rattle.page.proofs.Tracked.{inline_of, follows_for, tracked_most}
use Rattle.page.proofs.Seen.{Seen, seen_first, seen_next, count_then, added_follows, after}

first_inline : first_follow.inline ≡ 0
unfolding first_follow
first_inline = refl

first_counts : Counts 1 first_follow
unfolding first_follow
first_counts = record { counter = omega arith; ingredients = omega arith; cookware = omega arith; timers = omega arith }

rest_first : {text bytes : List ℕ} → read_sheet text bytes ≡ events (events_or (read_sheet text bytes)) → Rest text bytes 0 1 (events_or (read_sheet text bytes))
unfolding read_sheet
rest_first c = record { is = c }

module _ (cx : Context) (p : Part) where
  -- what the state at the end has drawn more
  pub record More (st final : State) : Type 0 where
    pub more : List ℕ
    pub is : drawn p final ≡ drawn p st ++ more

  drawn_more : (es : List Event) {number : ℕ} {st final : State} → Walking cx number st final es → More st final
  unfolding appended
  drawn_more [] {number} {st} {final} w = record { more = []; is = sym (append-nil (drawn p st) ∙ ap (drawn p) (walking_ends cx w)) }
  drawn_more (e ∷ es) {number} {st} {final} w =
      let s = walking_next cx w in
      let m = drawn_more es s.then in
      record {
        more = added cx.text cx.units cx.flags p e (follow_of st) ++ m.more;
        is =
            m.is
            ∙ (ap (λ (x : List ℕ). x ++ m.more) (drawn_next cx p e st s.after s.event)
            ∙ append_assoc (drawn p st) (added cx.text cx.units cx.flags p e (follow_of st)) m.more);
      }

module _ (text : List ℕ) (cx : Context) (bytes : List ℕ) (p : Part) where
  -- the lines before `at` are drawn, from at₀ on in a buffer that held o₀; f follows the walk, which goes on to the state `final`
  pub record Drawing (final : State) (o₀ : List ℕ) (at₀ at : ℕ) (f : Follow) (o : List ℕ) (n : ℕ) : Type 0 where
    pub number : ℕ
    pub st : State
    pub es : List Event
    pub rest : Rest text bytes at number es
    pub walking : Walking cx number st final es
    pub low : number ≤ at + 1
    pub follows : Seen p st f
    pub counts : Counts number f
    pub put : Put (drawn p st) o₀ at₀ o n

  pub drawing_starts : {final : State} {o₀ : List ℕ} {at₀ n : ℕ} → read_sheet text bytes ≡ events (events_or (read_sheet text bytes))
      → walk cx 1 (going first_state) (events_or (read_sheet text bytes)) ≡ going final → Put [] o₀ at₀ o₀ n → Drawing final o₀ at₀ 0 first_follow o₀ n
  drawing_starts c w q =
      record {
        number = 1;
        st = first_state;
        es = events_or (read_sheet text bytes);
        rest = rest_first c;
        walking = walking_first cx w;
        low = omega arith;
        follows = seen_first (follows_for p follows_first first_inline);
        counts = first_counts;
        put = text_is (drawn p first_state) (drawn_first p) q;
      }

  module _ {final : State} {o₀ : List ℕ} {at₀ at : ℕ} {f : Follow} {o : List ℕ} {n : ℕ} (d : Drawing final o₀ at₀ at f o n) where
    -- the small state has room for one line more
    pub drawing_room : at < 100000 → Room f
    drawing_room h =
        let c = d.counts in
        record {
          counter = omega (arith, c.counter, d.low);
          ingredients = omega (arith, c.ingredients, d.low);
          cookware = omega (arith, c.cookware, d.low);
          timers = omega (arith, c.timers, d.low);
          inline = omega (arith, d.follows.count, tracked_most p (follow_of d.st).inline, inline_of d.st, d.walking.inline);
        }

    pub drawing_ends : length bytes ≤ at → Put (drawn p final) o₀ at₀ o n
    drawing_ends h =
        let e : d.st ≡ final = walking_ends cx (subst (λ (es : List Event). Walking cx d.number d.st final es) (rest_ends d.rest h) d.walking) in
        subst (λ (s : State). Put (drawn p s) o₀ at₀ o n) e d.put

    -- what does not fit stays so
    pub drawing_full : length o < n → Put (drawn p final) o₀ at₀ o n
    drawing_full h =
        let m = drawn_more cx p d.es d.walking in
        let e : length o + 1 ≡ n = omega (arith, put_most d.put, keeps d.put) in
        text_is (drawn p final) m.is (put_seq d.put (subst (λ (x : ℕ). Put m.more o n o x) e (put_past m.more o n h)))

    module _ {r : Option ℕ} (l : LineAt bytes at r) {end : ℕ} (q : r ≡ Some end) {e : Event} (k : parse_line (take (end - at) (drop at bytes)) ≡ Some e) where
      first : First e (read_from text (length text) (d.number + 1) (lines (drop (end + 1) bytes))) d.es
      first = line_first d.rest l q e k

      went : Went cx d.number e d.st final first.others
      went = walking_next cx (subst (λ (es : List Event). Walking cx d.number d.st final es) first.is d.walking)

      -- how many inline quantities are counted after the line: few enough
      pub drawing_inline : f.inline + tracked p (length (quantities_added cx.units cx.flags e f)) ≤ 100000
      drawing_inline =
          omega (
            arith,
            count_then cx p e d.follows went.after went.event,
            tracked_most p (follow_of went.after).inline,
            inline_of went.after,
            went.then.inline,
          )

      -- the line is drawn
      pub drawing_next : {g : Follow} {o' : List ℕ} {n' : ℕ} → at ≤ end → Put (added cx.text cx.units cx.flags p e f) o n o' n' → view p g ≡ view p (after cx p e f)
          → g.inline ≡ f.inline + tracked p (length (quantities_added cx.units cx.flags e f)) → Counts (d.number + 1) g → Drawing final o₀ at₀ (end + 1) g o' n'
      unfolding appended
      drawing_next {g} {o'} {n'} h w v z k' =
          record {
            number = d.number + 1;
            st = went.after;
            es = first.others;
            rest = record { is = first.next };
            walking = went.then;
            low = omega (arith, d.low);
            follows = seen_next cx p e d.follows went.after went.event v z;
            counts = k';
            put =
                text_is (drawn p went.after)
                (drawn_next cx p e d.st went.after went.event ∙ ap (λ (x : List ℕ). drawn p d.st ++ x) (sym (added_follows cx p e d.follows)))
                (put_seq d.put w);
          }

-- the position after a line's end
pub end_fits : {e n : ℕ} → e < n → n ≤ 65536 → e + 1 < 2 ^ 64
end_fits h k = omega arith

-- ---- whatever the state at the end is

pub record Walked (sheet text units : List ℕ) (flags : ℕ) (p : Part) (o₀ : List ℕ) (at₀ at : ℕ) (f : Follow) (o : List ℕ) (n : ℕ) : Type 0 where
  pub same : length o ≡ length o₀
  pub by : (cx : Context) → TextAgrees text units flags cx → (final : State) → walk cx 1 (going first_state) (events_or (read_sheet text sheet)) ≡ going final → Drawing text cx sheet p final o₀ at₀ at f o n

module _ {sheet text units : List ℕ} {flags : ℕ} (i : PassInputs sheet text units flags) where
  abbrev us : List NamedUnit
  us = units_or (read_units units)

  pub walked_starts : {p : Part} {o₀ : List ℕ} {at₀ n : ℕ} {f : Follow} → read_sheet text sheet ≡ events (events_or (read_sheet text sheet)) → Put [] o₀ at₀ o₀ n → f ≡ first_follow → Walked sheet text units flags p o₀ at₀ 0 f o₀ n
  walked_starts {p} {o₀} {at₀} {n} {f} r q z = record { same = refl; by = λ cx a final w. subst (λ (x : Follow). Drawing text cx sheet p final o₀ at₀ 0 x o₀ n) (sym z) (drawing_starts text cx sheet p r w q) }

  module _ {p : Part} {o₀ : List ℕ} {at₀ at : ℕ} {f : Follow} {o : List ℕ} {n : ℕ} (d : Walked sheet text units flags p o₀ at₀ at f o n) where
    pub walked_full : length o < n → PartDrawn sheet text units flags p o₀ at₀ o n
    walked_full h = record { put = λ cx a final w. drawing_full text cx sheet p (d.by cx a final w) h }

    pub walked_ends : length sheet ≤ at → PartDrawn sheet text units flags p o₀ at₀ o n
    walked_ends h = record { put = λ cx a final w. drawing_ends text cx sheet p (d.by cx a final w) h }

    now_at : Drawing text i.context sheet p i.final o₀ at₀ at f o n
    now_at = d.by i.context i.agrees i.final i.goes

    module _ {r : Option ℕ} (l : LineAt sheet at r) where
      pub walked_cut : {P : Type 0} → at < length sheet → r ≡ None → P
      walked_cut h q = rest_ended now_at.rest l h q

      module _ {end : ℕ} (q : r ≡ Some end) where
        abbrev line : List ℕ
        line = take (end - at) (drop at sheet)

        known : EventIs (parse_line line)
        known = event_is (parse_line line) (line_known now_at.rest l q)

        pub walked_ready : LineReady text us flags p line f
        walked_ready =
            let b = l.inside end q in
            let g = drawing_room text i.context sheet p now_at (omega (arith, b.0, b.1, i.sheet_short)) in
            record {
              known = line_known now_at.rest l q;
              whole = line_whole now_at.rest l q;
              spans = line_spans now_at.rest l q;
              room = g;
              few = λ e k. lent_as (λ us flags. f.inline + tracked p (length (quantities_added us flags e f)) ≤ 100000) i.agrees.rest (drawing_inline text i.context sheet p now_at l q k);
              short = omega (arith, g.inline, b.0, b.1, i.sheet_short, length-take (end - at) (drop at sheet));
            }

        module _ {o'' : List ℕ} {t : Turn} (h : n ≤ length o) (w : TurnTaken text us flags p line f (take (length o - n) (drop n o)) o'' t) where
          pub walked_fits : length o₀ + 1 < 2 ^ 64 → n + t.count < 2 ^ 64
          walked_fits b = rest_fits o n (omega (arith, d.same)) h (w.put known.event known.is)

          -- the turn in a context that agrees
          turn_in : (cx : Context) → TextAgrees text units flags cx → TurnTaken cx.text cx.units cx.flags p line f (take (length o - n) (drop n o)) o'' t
          turn_in cx a = text_agreed (λ text us flags. TurnTaken text us flags p line f (take (length o - n) (drop n o)) o'' t) a w

          pub walked_next : Walked sheet text units flags p o₀ at₀ (end + 1) t.follow (take n o ++ (o'' ++ drop (length o - n) (drop n o))) (n + t.count)
          walked_next =
              record {
                same = keeps (put_rest o n h (w.put known.event known.is)) ∙ d.same;
                by = λ cx a final z.
                    let y = turn_in cx a in
                    let g = d.by cx a final z in
                    drawing_next text cx sheet p g l q known.is (l.inside end q).0 (put_rest o n h (y.put known.event known.is)) (y.seen known.event known.is) (y.inline known.event known.is)
                    (subst (λ (m : ℕ). Counts m t.follow) (sym (add-one g.number)) (w.counts g.counts));
              }
