use Rattle.el_design.proofs.laws.every_order.Goals as goal
use Rattle.el_design.proofs.OrderLaws as law

pub returns : goal.returns
returns c = law.every_order
