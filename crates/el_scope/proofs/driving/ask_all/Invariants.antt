-- the first of what is reported and what is left is that of all
use Rattle.std.proofs.Common.{◌≡◌, drop}
use Rattle.std.specs.Prelude.{fold, flat_map}
use Rattle.xt_base.specs.First.{sooner}
use Rattle.el_scope.specs.Driving.{driver_breaks, drivers_break}
use Rattle.el_scope.proofs.driving.ask_all.Given as goal

abbrev pub invariant-loop-driver : goal.invariant-loop-driver
invariant-loop-driver l = record {
  table : l.findings.table ≡ l.fn.findings.table;
  rest : fold sooner l.fn.findings.first (drivers_break l.fn.findings.table l.all)
      ≡ fold sooner l.findings.first (flat_map (driver_breaks l.fn.findings.table l.all) (drop l.driver-index l.all));
}
