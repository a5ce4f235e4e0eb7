use Rattle.std.proofs.Common.{◌≡◌, replicate, None}
use Rattle.nt_run.proofs.acks.no_replies.Given as goal

abbrev pub invariant-loop-process : goal.invariant-loop-process
invariant-loop-process l = l.replies.items ≡ replicate l._process None
