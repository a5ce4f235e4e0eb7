-- Where all nodes before a node are marked, it is ready.
use Rattle.nt_run.proofs.Marks.{known_more}
use Rattle.nt_run.proofs.orders.Order.add_all.Goals as goal

pub loop-place-preserved : goal.loop-place-preserved
loop-place-preserved c = record {
  begun = c.in_ok-add.ensures.begun;
  known = known_more c.args.nodes.now c.requires.nodes c.loop-place.self.marks.items c.loop-place.place _ _ c.loop-place-test.true c.loop-place.invariant.known c.in_ok-add.ensures;
}
