-- the first of what is reported and what is left is that of all
use Rattle.std.proofs.Common.{◌≡◌, map, drop}
use Rattle.std.specs.Prelude.{fold, flat_map}
use Rattle.xt_base.specs.First.{sooner}
use Rattle.el_scope.specs.Table.{break_at}
use Rattle.el_scope.specs.Declaring.{declaring_rules}
use Rattle.el_scope.proofs.declaring.report_all.Given as goal

abbrev pub invariant-loop-declaration : goal.invariant-loop-declaration
invariant-loop-declaration l = record {
  table : l.findings.table ≡ l.fn.findings.table;
  rest : fold sooner l.fn.findings.first (flat_map (λ d. map (break_at l.fn.findings.table d.entity.at) (declaring_rules l.fn.findings.table d)) l.declarations)
      ≡ fold sooner l.findings.first (flat_map (λ d. map (break_at l.fn.findings.table d.entity.at) (declaring_rules l.fn.findings.table d)) (drop l.declaration-index l.declarations));
}
