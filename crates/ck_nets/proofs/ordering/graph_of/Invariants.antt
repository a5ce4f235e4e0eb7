use Rattle.std.proofs.Common.{◌≡◌, map, take}
use Rattle.el_design.specs.View.{net_of}
use Rattle.ck_nets.specs.inner.Reading.{read_by_net}
use Rattle.ck_nets.proofs.ordering.graph_of.Given as goal

abbrev pub invariant-loop-net : goal.invariant-loop-net
invariant-loop-net l = l.graph ≡ map read_by_net (map net_of (take l.net-index l.nets))
