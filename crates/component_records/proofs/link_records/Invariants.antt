use mathlib.Core.Path.{◌≡◌}
use Rattle.component_records.proofs.Pairs.{counted, linked}
use Rattle.component_records.proofs.link_records.Given as goal

-- the pairs of the first i records, and how many they are
abbrev pub invariant-loop-i : goal.invariant-loop-i
invariant-loop-i l =
    record {
      kept : l.all ≡ l.initial.all;
      pairs : l.pairs ≡ linked l.initial.all l.initial.pairs l.i;
      number : l.n ≡ counted l.initial.all l.i;
    }
