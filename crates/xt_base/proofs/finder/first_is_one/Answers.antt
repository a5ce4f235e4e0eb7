use Rattle.xt_base.proofs.First.{one_first}
use Rattle.xt_base.proofs.finder.first_is_one.Goals as goal

pub returns-clause-one : goal.returns-clause-one
returns-clause-one c = λ breaks a b x y. one_first a b x y
