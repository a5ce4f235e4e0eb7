-- the first of what is reported and what is left is that of all
use Rattle.std.proofs.Common.{◌≡◌, drop}
use Rattle.std.specs.Prelude.{fold}
use Rattle.xt_base.specs.First.{sooner}
use Rattle.el_scope.specs.Naming.{mentions_break}
use Rattle.el_scope.proofs.naming.ask_all.Given as goal

abbrev pub invariant-loop-mention : goal.invariant-loop-mention
invariant-loop-mention l = record {
  table : l.findings.table ≡ l.fn.findings.table;
  rest : fold sooner l.fn.findings.first (mentions_break l.fn.findings.table l.mentions)
      ≡ fold sooner l.findings.first (mentions_break l.fn.findings.table (drop l.mention-index l.mentions));
}
