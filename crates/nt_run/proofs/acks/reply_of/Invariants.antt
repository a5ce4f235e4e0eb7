use Rattle.std.proofs.Common.{◌≡◌, take}
use Rattle.nt_run.proofs.acks.reply_of.Given as goal

abbrev pub invariant-loop-item : goal.invariant-loop-item
invariant-loop-item l = l.reply.items ≡ take l.item-index l.item-items
