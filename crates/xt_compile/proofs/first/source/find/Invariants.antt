-- no port so far has the name
use Rattle.std.proofs.Common.{◌≡◌, drop}
use Rattle.xt_compile.specs.first.Tree.{found, found_from}
use Rattle.xt_compile.proofs.first.source.find.Given as goal

abbrev pub invariant-loop-place : goal.invariant-loop-place
invariant-loop-place l = found l.name l.ports ≡ found_from l.place l.name (drop l.place l.ports)
