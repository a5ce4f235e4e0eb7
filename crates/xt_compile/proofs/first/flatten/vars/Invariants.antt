use Rattle.std.proofs.Common.{◌≡◌, map, take}
use Rattle.xt_compile.specs.first.Flatten.{var_of}
use Rattle.xt_compile.proofs.first.flatten.vars.Given as goal

abbrev pub invariant-loop-port : goal.invariant-loop-port
invariant-loop-port l = l.vars ≡ map var_of (take l.port-index l.outputs)
