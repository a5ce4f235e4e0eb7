-- what is there with what is left is what was there with all
use Rattle.std.proofs.Common.{◌≡◌, ◌++◌, drop}
use Rattle.std.specs.Prelude.{flat_map}
use Rattle.vl_names.specs.Mentions.{module_names}
use Rattle.vl_names.proofs.mentions.put_modules.Given as goal

abbrev pub invariant-loop-module : goal.invariant-loop-module
invariant-loop-module l = l.fn.into.items ++ flat_map module_names l.modules ≡ l.into.items ++ flat_map module_names (drop l.module-index l.modules)
