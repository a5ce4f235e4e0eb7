use Rattle.std.proofs.Common.{◌≡◌}
use Rattle.el_design.specs.Queue.{numbers_from}
use Rattle.xt_compile.proofs.first.flatten.input_nets.Given as goal

abbrev pub invariant-loop-place : goal.invariant-loop-place
invariant-loop-place l = l.nets ≡ numbers_from 1 l.place
