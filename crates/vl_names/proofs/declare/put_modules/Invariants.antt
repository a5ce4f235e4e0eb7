-- what is there with what is left is what was there with all
use Rattle.std.proofs.Common.{◌≡◌, ◌++◌, drop}
use Rattle.std.specs.Prelude.{flat_map}
use Rattle.vl_names.specs.Declarations.{module_declares}
use Rattle.vl_names.proofs.declare.put_modules.Given as goal

abbrev pub invariant-loop-module : goal.invariant-loop-module
invariant-loop-module l = l.fn.into.items ++ flat_map module_declares l.modules ≡ l.into.items ++ flat_map module_declares (drop l.module-index l.modules)
