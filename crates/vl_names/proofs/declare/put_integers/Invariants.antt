-- what is there with what is left is what was there with all
use Rattle.std.proofs.Common.{◌≡◌, ◌++◌, drop}
use Rattle.vl_names.specs.Declarations.{integers_declare}
use Rattle.vl_names.proofs.declare.put_integers.Given as goal

abbrev pub invariant-loop-name : goal.invariant-loop-name
invariant-loop-name l = l.fn.into.items ++ integers_declare l.scope l.names ≡ l.into.items ++ integers_declare l.scope (drop l.name-index l.names)
