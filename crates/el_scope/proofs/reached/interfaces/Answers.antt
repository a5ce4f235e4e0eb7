use Rattle.std.proofs.Common.{◌==◌, refl, rules}
use Rattle.vl_names.specs.Interfaces.{interface_of}
use Rattle.el_scope.proofs.Maps.{one_made}
use Rattle.el_scope.proofs.reached.interfaces.Goals as goal

pub loop-module-preserved : goal.loop-module-preserved
loop-module-preserved c = λ at.
    one_made interface_of (λ i. at == i.name) c.args.tree.now.modules c.loop-module.module-index c.module-item.result _ _ _ _ _ (search rules) (search rules) (search rules)
    (c.loop-module.invariant at) refl (c.in_ok-note.ensures at)
