use Rattle.nt_write.proofs.PortLists.{assigned_more, assigned_whole}
use Rattle.nt_write.proofs.Taking.{takes_is, pieces2}
use Rattle.nt_write.proofs.pen.Pen.assign_pins.Goals as goal

pub loop-place-preserved : goal.loop-place-preserved
loop-place-preserved g c = takes_is _ _ _ _ (pieces2 c.loop-place.invariant c.assign_pin.ensures) (assigned_more _ _ _ _ c.requires c.loop-place-test.true c.index-pins-place.is)

pub returns : goal.returns
returns g c = takes_is _ _ _ _ c.loop-place.invariant (assigned_whole _ _ _ c.requires c.loop-place-test.false)
