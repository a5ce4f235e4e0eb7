use Rattle.std.proofs.Common.{◌-◌, Some, ap, arith, vec_len}
use Rattle.xt_base.proofs.memory.MemSinkSink.write.Goals as goal

-- what was appended is as much of the piece as there is room for
pub returns-then-room-piece-clause-failed : goal.returns-then-room-piece-clause-failed
returns-then-room-piece-clause-failed c = λ _.
    (c.self.inside.capacity - vec_len c.self.inside.bytes, omega arith, ap Some (rw (← c.self.view_is) c.fill.ensures.items))
