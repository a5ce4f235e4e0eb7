use Rattle.xt_top.proofs.Whole.{whole_answer}
use Rattle.xt_top.proofs.laws.whole_answer.Goals as goal

pub returns : goal.returns
returns c = whole_answer
