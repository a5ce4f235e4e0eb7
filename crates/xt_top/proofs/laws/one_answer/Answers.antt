use Rattle.xt_top.proofs.Verdict.{one_answer, one_broken, one_design, ready_done}
use Rattle.xt_top.proofs.laws.one_answer.Goals as goal

pub returns-clause-one : goal.returns-clause-one
returns-clause-one c = one_answer

pub returns-clause-ready : goal.returns-clause-ready
returns-clause-ready c = ready_done

pub returns-clause-design : goal.returns-clause-design
returns-clause-design c = one_design

pub returns-clause-broken : goal.returns-clause-broken
returns-clause-broken c = one_broken
