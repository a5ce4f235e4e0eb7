-- what is there with what is left is what was there with all
use Rattle.std.proofs.Common.{◌≡◌, ◌++◌, map, drop}
use Rattle.el_scope.specs.Connecting.{named_connection, named_connections}
use Rattle.el_scope.proofs.connecting.put_named.Given as goal

abbrev pub invariant-loop-one : goal.invariant-loop-one
invariant-loop-one l = l.fn.into.items ++ named_connections l.table l.scope l.slot l.owner l.all ≡ l.into.items ++ map (named_connection l.table l.scope l.slot l.owner l.all) (drop l.one-index l.all)
