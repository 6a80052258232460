use native.Mathlib.Omega.{arith}
use Rattle.std.proofs.Common.{ltb, ltb-true, ltb-false, rules}
use Rattle.std.proofs.lemmas.List.Sorted.{IsPartitionPoint-from_clause, IsPartitionedBy-ltb, IsNonDecreasingBy-from_default}
use Rattle.letters.proofs.lower_bound.Goals as goal

pub returns : goal.returns
returns c =
    let rising = IsNonDecreasingBy-from_default (λ x. x) _ 0 c.requires in
    let parted = IsPartitionedBy-ltb (λ x. x) _ c.args.c rising in
    let point = IsPartitionPoint-from_clause (λ x. ltb x c.args.c) _ _ c.partition_point.ensures.partitioned parted (λ a r q k. search rules) in
    record {
      fits = c.partition_point.ensures.bound;
      below = λ k h. ltb-true _ _ (point.0 k 0 (omega arith) h);
      above = λ k h l. ltb-false _ _ (point.1 k 0 h l);
    }
