-- what is there with what is left is what was there with all
use Rattle.std.proofs.Common.{◌≡◌, ◌++◌, drop}
use Rattle.std.specs.Prelude.{flat_map}
use Rattle.el_scope.specs.Driving.{module_drives, tree_drives}
use Rattle.el_scope.specs.inner.Maps.{at_token}
use Rattle.el_scope.proofs.driving.drivers.Given as goal

abbrev pub invariant-loop-module : goal.invariant-loop-module
invariant-loop-module l = tree_drives l.table (at_token l.known.entries) l.tree ≡ l.all.items ++ flat_map (module_drives l.table (at_token l.known.entries)) (drop l.module-index l.tree.modules)
