use Rattle.el_scope.specs.Passes.{name_breaks}
use Rattle.el_scope.specs.inner.Maps.{at_token}
use Rattle.el_scope.proofs.Breaks.{all_asked, answered}
use Rattle.el_scope.proofs.passes.check_names.Goals as goal

pub returns : goal.returns
returns c = answered c.args.table.now (name_breaks c.args.table.now c.args.tree.now) c.ask_drivers.new.findings c.answer.result
    (all_asked c.args.table.now c.args.tree.now (at_token c.in_ok-known.known.entries) _ _ _ _ c.new-findings.ensures c.in_ok-ask_names.ensures c.in_ok-ask_connections.ensures
    c.in_ok-ask_drivers.ensures c.in_ok-known.ensures)
    c.answer.ensures.answer c.answer.ensures.named
