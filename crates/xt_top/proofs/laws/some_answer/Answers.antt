use Rattle.xt_top.proofs.Verdict.{some_answer}
use Rattle.xt_top.proofs.laws.some_answer.Goals as goal

pub returns : goal.returns
returns c = some_answer
