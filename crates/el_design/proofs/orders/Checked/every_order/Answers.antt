use Rattle.std.proofs.Common.{rules}
use Rattle.el_design.specs.View.{flat_of}
use Rattle.el_design.proofs.orders.Checked.every_order.Goals as goal
use Rattle.el_design.proofs.OrderLaws as law

pub returns : goal.returns
returns c = law.every_order (flat_of c.args.self.now.0) c.args.self.now.1 (search rules)
