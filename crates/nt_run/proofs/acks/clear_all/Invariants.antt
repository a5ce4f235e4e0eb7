use Rattle.std.proofs.Common.{◌≡◌, take, replicate, None}
use Rattle.nt_run.proofs.acks.clear_all.Given as goal

abbrev pub invariant-loop-reply : goal.invariant-loop-reply
invariant-loop-reply l = take l.reply-index l.replies ≡ replicate l.reply-index None
