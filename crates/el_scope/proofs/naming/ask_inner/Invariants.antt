-- nothing is reported so far, and what is left of the path breaks what all of it does
use Rattle.std.proofs.Common.{◌≡◌, drop}
use Rattle.el_scope.specs.Naming.{inner_breaks}
use Rattle.el_scope.proofs.naming.ask_inner.Given as goal

abbrev pub invariant-loop-at : goal.invariant-loop-at
invariant-loop-at l = record {
  same : l.findings ≡ l.fn.findings;
  rest : inner_breaks l.fn.findings.table l.path l.fn.scope ≡ inner_breaks l.fn.findings.table (drop l.at-index l.path) l.here;
}
