use Rattle.std.proofs.Common.{rules}
use Rattle.vl_names.specs.Mentions.{module_names}
use Rattle.vl_names.proofs.Lists.{one_done}
use Rattle.vl_names.proofs.mentions.put_modules.Goals as goal

pub loop-module-preserved : goal.loop-module-preserved
loop-module-preserved c = one_done module_names c.args.modules.now c.loop-module.module-index c.module-item.result _ _ _ (search rules) (search rules) c.loop-module.invariant c.in_ok-put_module.ensures
