use Rattle.el_design.specs.Rules.{recursive}
use Rattle.el_design.proofs.laws.stacks_stay_low.Goals as goal
use Rattle.el_design.proofs.Heights as law

pub returns : goal.returns
returns c = λ d order checked. law.stacks_stay_low d (λ at r. checked.clean 11 51 at (recursive r))
