-- what is there with what is left is what was there with all
use Rattle.std.proofs.Common.{◌≡◌, ◌++◌, drop}
use Rattle.std.specs.Prelude.{flat_map}
use Rattle.el_scope.specs.Driving.{wire_drives}
use Rattle.el_scope.proofs.driving.put_wires.Given as goal

abbrev pub invariant-loop-wire : goal.invariant-loop-wire
invariant-loop-wire l = l.fn.into.items ++ flat_map wire_drives l.wires ≡ l.into.items ++ flat_map wire_drives (drop l.wire-index l.wires)
