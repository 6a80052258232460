-- The counts that hold before a line leave room for the line.
use Prim.Native.Nat.{ℕ, ◌+◌, ◌≤◌, ◌<◌}
use mathlib.Core.Path.{◌≡◌, refl, ap, ◌∙◌}
use mathlib.Core.List.{List}
use mathlib.Core.Bool.{Bool, false, ◌||◌}
use native.Mathlib.Omega.{arith}
use borrow.Author.Tests.{ltb-false}
use lib.Dec.{ltb}
use lib.ListN.{length, length-replicate}
use lib.Seq.{length-slice}
use Rattle.rules.proofs.Basics.{or_left, or_right}
use Rattle.events.specs.declared.EventView.{EventView}
use Rattle.model.specs.Blank.{blank_span}
use Rattle.model.specs.Memory.{state_of, state_in, AtMost}
use Rattle.model.specs.declared.Counts.{Counts}
use Rattle.model.specs.declared.Held.{Held}
use Rattle.model.proofs.Windows.{content_counted}
use Rattle.memory.proofs.Smalls.{over_in, over_is}
use Rattle.pass.specs.Walks.{EventHere, Running}
use Rattle.model.specs.declared.layout.TheConstants.{MOST_FINDINGS, MOST_KINDS}

-- no limit is passed, and few lines count for 3
abbrev pub limits : Counts
limits =
    record {
      counter = 1025;
      here = 1024;
      sections = 128;
      blocks = 1024;
      items = 4096;
      ingredients = 512;
      cookware = 256;
      timers = 256;
      inline = 512;
      ingredient_pairs = 512;
      cookware_pairs = 256;
      findings = 1024;
      old = 65536;
    }

module _ (a b c d e f g i : Bool) (q : (a || b || c || d || e || f || g || i) ≡ false) where
  six : (a || b || c || d || e || f) ≡ false
  six = or_left (a || b || c || d || e || f) g (or_left (a || b || c || d || e || f || g) i q)

  four : (a || b || c || d) ≡ false
  four = or_left (a || b || c || d) e (or_left (a || b || c || d || e) f six)

  last_six : (c ≡ false) × (d ≡ false) × (e ≡ false) × (f ≡ false) × (g ≡ false) × (i ≡ false)
  last_six = (
    or_right (a || b) c (or_left (a || b || c) d four),
    or_right (a || b || c) d four,
    or_right (a || b || c || d) e (or_left (a || b || c || d || e) f six),
    or_right (a || b || c || d || e) f six,
    or_right (a || b || c || d || e || f) g (or_left (a || b || c || d || e || f || g) i q),
    or_right (a || b || c || d || e || f || g) i q,
  )

module _ {sheet w : List ℕ} {h : Held} {n : ℕ} (r : Running sheet w h n) where
  not_over : over_in h ≡ false
  not_over = (over_is h (over_in h) refl).is sheet w ∙ r.kept.limits

  here_most : h.counts.here ≤ h.counts.blocks
  unfolding state_in state_of
  here_most = let e = content_counted sheet w h in omega (arith, e, r.counted.0)

  counter_most : h.counts.counter ≤ h.counts.here + 1
  unfolding state_in state_of
  counter_most = let e = content_counted sheet w h in omega (arith, e, r.counted.1)

  old_most : h.counts.old ≤ n
  unfolding state_in state_of
  old_most = let e = length-replicate h.counts.old blank_span in omega (arith, e, r.counted.2)

  pub bounded : n ≤ 65536 → AtMost limits h.counts
  unfolding over_in
  bounded l =
      let z =
      last_six (ltb 512 h.counts.ingredients) (ltb 256 h.counts.cookware) (ltb 256 h.counts.timers) (ltb 128 h.counts.sections)
      (ltb 1024 h.counts.blocks) (ltb 4096 h.counts.items) (ltb 512 h.counts.inline) (ltb 1024 h.counts.findings) not_over in
      let b = ltb-false 1024 h.counts.blocks z.2 in
      let y = here_most in
      let x = counter_most in
      let o = old_most in
      record {
        timers = ltb-false 256 h.counts.timers z.0;
        sections = ltb-false 128 h.counts.sections z.1;
        blocks = b;
        items = ltb-false 4096 h.counts.items z.3;
        inline = ltb-false 512 h.counts.inline z.4;
        findings = ltb-false 1024 h.counts.findings z.5;
        here = omega (arith, b, y);
        counter = omega (arith, b, y, x);
        old = omega (arith, o, l);
      }

module _ {sheet line : List ℕ} {at end : ℕ} {v : EventView} (z : EventHere sheet line at end v) where
  pub line_short : length line ≤ 65536
  line_short = let e = ap length z.part ∙ length-slice at end sheet z.here.whole.most in omega (arith, e, z.here.whole.most, z.here.short)

  module _ {w : List ℕ} {h : Held} (r : Running sheet w h at) where
    pub room : AtMost limits h.counts
    room = bounded r (omega (arith, z.here.whole.order, z.here.whole.most, z.here.short))

    pub room_blocks : (h.counts.here < MOST_KINDS) × (h.counts.blocks < 100000)
    room_blocks = let b = room in (omega (arith, b.here), omega (arith, b.blocks))

    pub room_step : (h.counts.here < MOST_KINDS) × (h.counts.blocks < 100000) × (h.counts.counter < 100000)
    room_step = let b = room in (omega (arith, b.here), omega (arith, b.blocks), omega (arith, b.counter))

    pub room_mode : (h.counts.here < MOST_KINDS) × (h.counts.blocks < 100000) × (h.counts.findings < MOST_FINDINGS)
    room_mode = let b = room in (omega (arith, b.here), omega (arith, b.blocks), omega (arith, b.findings))

    pub room_finding : h.counts.findings < MOST_FINDINGS
    room_finding = let b = room in omega (arith, b.findings)
