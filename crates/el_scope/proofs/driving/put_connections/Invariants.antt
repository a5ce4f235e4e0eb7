-- what is there with what is left is what was there with all
use Rattle.std.proofs.Common.{◌≡◌, ◌++◌, drop}
use Rattle.std.specs.Prelude.{flat_map}
use Rattle.el_scope.specs.Driving.{connection_drives}
use Rattle.el_scope.proofs.driving.put_connections.Given as goal

abbrev pub invariant-loop-connection : goal.invariant-loop-connection
invariant-loop-connection l = l.fn.into.items ++ flat_map connection_drives l.all ≡ l.into.items ++ flat_map connection_drives (drop l.connection-index l.all)
