use Rattle.std.proofs.Common.{length}
use Rattle.xt_top.proofs.command.+has_comment.Given as goal

abbrev pub decreases-has_comment : goal.decreases-has_comment
decreases-has_comment l = length l.text.now
