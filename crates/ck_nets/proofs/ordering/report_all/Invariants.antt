use Rattle.std.proofs.Common.{◌≡◌, drop, fold, map}
use Rattle.xt_base.specs.First.{sooner}
use Rattle.el_design.specs.View.{net_of}
use Rattle.ck_nets.specs.inner.Reading.{breaks_from}
use Rattle.ck_nets.proofs.ordering.report_all.Given as goal

abbrev pub invariant-loop-node : goal.invariant-loop-node
invariant-loop-node l = fold sooner l.finder.first (breaks_from l.labels l.node (map net_of (drop l.node l.nets))) ≡ fold sooner l.initial.finder.first (breaks_from l.labels 0 (map net_of l.nets))
