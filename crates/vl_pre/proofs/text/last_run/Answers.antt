use Rattle.std.proofs.Common.{rules, arith}
use Rattle.std.proofs.lemmas.List.Sorted.{IsPartitionPoint-from_clause}
use Rattle.std.specs.Prelude.{nat_le}
use Rattle.vl_pre.proofs.RunLemmas.{IsSplitAt, ordered_splits, split-positive, split-run, split-start}
use Rattle.vl_pre.proofs.text.last_run.Goals as goal

pub overflow_sub-result : goal.overflow_sub-result
overflow_sub-result c =
    let split : IsSplitAt c.args.runs.now c.args.at c.partition_point-after.result = IsPartitionPoint-from_clause (λ r. nat_le r.start c.args.at) _ _ c.partition_point-after.ensures.partitioned (ordered_splits _ _ c.requires.ordered) (search rules) in
    split-positive _ _ _ c.requires.first.0 c.requires.first.1 split

pub returns-clause-run : goal.returns-clause-run
returns-clause-run c =
    let split : IsSplitAt c.args.runs.now c.args.at c.partition_point-after.result = IsPartitionPoint-from_clause (λ r. nat_le r.start c.args.at) _ _ c.partition_point-after.ensures.partitioned (ordered_splits _ _ c.requires.ordered) (search rules) in
    split-run _ _ _ (split-positive _ _ _ c.requires.first.0 c.requires.first.1 split) (omega arith) split

pub returns-clause-below : goal.returns-clause-below
returns-clause-below c =
    let split : IsSplitAt c.args.runs.now c.args.at c.partition_point-after.result = IsPartitionPoint-from_clause (λ r. nat_le r.start c.args.at) _ _ c.partition_point-after.ensures.partitioned (ordered_splits _ _ c.requires.ordered) (search rules) in
    split-start _ _ _ (split-positive _ _ _ c.requires.first.0 c.requires.first.1 split) (omega arith) split
