use Rattle.std.proofs.Common.{◌∙◌}
use Rattle.ck_call.proofs.Reaching.{one_more, all_reaches}
use Rattle.ck_call.proofs.reach.reaches.Goals as goal

pub loop-text-preserved : goal.loop-text-preserved
loop-text-preserved c =
    one_more _ _ _ _ _ _ _ _ _ _ c.loop-text.invariant c.as_slice-text-items.ensures c.loop-text-test.true c.text-item.is c.in_ok-graph.ensures c.new-counts.ensures.tasks (c.as_slice.ensures ∙ c.in_ok-from.ensures) c.in_ok-reach.ensures c.in_ok-push.ensures.ok

pub returns : goal.returns
returns c = all_reaches _ _ _ _ c.loop-text.invariant c.as_slice-text-items.ensures c.loop-text.auto.text-index-end c.loop-text-test.false
