use Rattle.std.proofs.Common.{◌+◌, length, reverse}
use Rattle.xt_graph.proofs.DepthFirst.{IsUnderWay, owed}
use Rattle.xt_graph.proofs.finishing.finished.Given as goal

abbrev pub invariant-loop-visit : goal.invariant-loop-visit
invariant-loop-visit l = IsUnderWay l.graph l.walk.marks (reverse l.walk.todo) l.walk.finished

abbrev pub decreases-loop-visit : goal.decreases-loop-visit
decreases-loop-visit l = length l.walk.todo + owed l.graph l.walk.marks
