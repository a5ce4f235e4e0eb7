-- the first of what is reported and what is left is that of all
use Rattle.std.proofs.Common.{◌≡◌, drop}
use Rattle.std.specs.Prelude.{fold}
use Rattle.xt_base.specs.First.{sooner}
use Rattle.el_scope.specs.Connecting.{connections_break}
use Rattle.el_scope.proofs.connecting.ask_all.Given as goal

abbrev pub invariant-loop-one : goal.invariant-loop-one
invariant-loop-one l = record {
  table : l.findings.table ≡ l.fn.findings.table;
  rest : fold sooner l.fn.findings.first (connections_break l.fn.findings.table l.all)
      ≡ fold sooner l.findings.first (connections_break l.fn.findings.table (drop l.one-index l.all));
}
