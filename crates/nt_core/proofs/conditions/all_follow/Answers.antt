-- A node is compared with those before it.
use Rattle.std.proofs.Common.{refl, sym, ◌∙◌, arith}
use Rattle.std.proofs.lemmas.Option.{slice_get_within}
use Rattle.nt_core.proofs.NodeLists.{follows_at, follow_more}
use Rattle.nt_core.proofs.conditions.all_follow.Goals as goal

pub returns-then-not-can_follow : goal.returns-then-not-can_follow
returns-then-not-can_follow c = (
  λ h. cc,
  λ each. sym c.if-not-can_follow.true ∙ c.can_follow.ensures.1 (follows_at c.args.nodes.now c.loop-i.i c.index-nodes-i.result c.loop-i-test.true c.index-nodes-i.is each),
)

pub loop-i-preserved : goal.loop-i-preserved
loop-i-preserved c =
    follow_more c.args.nodes.now c.loop-i.i c.index-nodes-i.result c.loop-i-test.true c.index-nodes-i.is c.loop-i.invariant (c.can_follow.ensures.0 c.if-not-can_follow.false)

pub returns : goal.returns
returns c = (λ _ j m at. c.loop-i.invariant j m (omega (arith, slice_get_within c.args.nodes.now j m at, c.loop-i-test.false)) at, λ _. refl)
