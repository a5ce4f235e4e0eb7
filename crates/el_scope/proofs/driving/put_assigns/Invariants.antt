-- what is there with what is left is what was there with all
use Rattle.std.proofs.Common.{◌≡◌, ◌++◌, drop}
use Rattle.std.specs.Prelude.{flat_map}
use Rattle.el_scope.specs.Driving.{assign_drives}
use Rattle.el_scope.proofs.driving.put_assigns.Given as goal

abbrev pub invariant-loop-assign : goal.invariant-loop-assign
invariant-loop-assign l = l.fn.into.items ++ flat_map (assign_drives l.table l.scope) l.assigns ≡ l.into.items ++ flat_map (assign_drives l.table l.scope) (drop l.assign-index l.assigns)
