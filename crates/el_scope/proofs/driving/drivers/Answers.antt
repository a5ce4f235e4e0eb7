use Rattle.std.proofs.Common.{rules}
use Rattle.el_scope.specs.Driving.{module_drives}
use Rattle.el_scope.specs.inner.Maps.{at_token}
use Rattle.el_scope.proofs.Lists.{one_done}
use Rattle.el_scope.proofs.driving.drivers.Goals as goal

pub loop-module-preserved : goal.loop-module-preserved
loop-module-preserved c = one_done (module_drives c.args.table.now (at_token c.args.known.now.entries)) c.args.tree.now.modules c.loop-module.module-index c.module-item.result _ _ _
    (search rules) (search rules) c.loop-module.invariant c.in_ok-put_module.ensures
