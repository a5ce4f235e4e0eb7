use Rattle.std.proofs.Common.{◌≡◌, ◌∷◌, map, take}
use Rattle.xt_compile.specs.first.Flatten.{net_of, input_of}
use Rattle.xt_compile.proofs.first.flatten.nets.Given as goal

abbrev pub invariant-loop-port : goal.invariant-loop-port
invariant-loop-port l = l.nets ≡ net_of l.source.clock 1 l.source.clock_place ∷ map input_of (take l.port-index l.port-items)
