-- what is there with what is left is all
use Rattle.std.proofs.Common.{◌≡◌, ◌++◌, drop}
use Rattle.el_design.specs.Purity.{both_of}
use Rattle.ck_call.proofs.assigned.both_of.Given as goal

abbrev pub invariant-loop-one : goal.invariant-loop-one
invariant-loop-one l = both_of l.ones l.others ≡ l.both ++ both_of (drop l.one-index l.ones) l.others
