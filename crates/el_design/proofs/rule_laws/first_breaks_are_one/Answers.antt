use Rattle.xt_base.proofs.First as breaks
use Rattle.el_design.proofs.rule_laws.first_breaks_are_one.Goals as goal

pub returns-clause-any : goal.returns-clause-any
returns-clause-any c = breaks.neither

pub returns-clause-pass : goal.returns-clause-pass
returns-clause-pass c d pass a b = breaks.one_first a b

pub returns-clause-named : goal.returns-clause-named
returns-clause-named c d p q a b = breaks.one_named p q a b
