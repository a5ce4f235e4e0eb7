use Rattle.std.proofs.Common.{refl, ◌∙◌}
use Rattle.nt_write.proofs.Taking.{pieces3, pieces4}
use Rattle.nt_write.proofs.pen.Pen.put.Goals as goal

pub send-requires : goal.send-requires
send-requires g c = c.if-not-keep-2.ensures.held refl ∙ c.flush.ensures.empty

pub returns-then-not-keep-2 : goal.returns-then-not-keep-2
returns-then-not-keep-2 g c = pieces4 c.if-not-keep.ensures.takes c.flush.ensures.takes c.if-not-keep-2.ensures.takes c.send.ensures

pub returns-else-not-keep-2 : goal.returns-else-not-keep-2
returns-else-not-keep-2 g c = pieces3 c.if-not-keep.ensures.takes c.flush.ensures.takes c.if-not-keep-2.ensures.takes

pub returns-else-not-keep : goal.returns-else-not-keep
returns-else-not-keep g c = c.if-not-keep.ensures.takes
