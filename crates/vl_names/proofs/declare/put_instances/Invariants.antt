-- what is there with what is left is what was there with all
use Rattle.std.proofs.Common.{◌≡◌, ◌++◌, drop}
use Rattle.vl_names.specs.Declarations.{instances_declare}
use Rattle.vl_names.proofs.declare.put_instances.Given as goal

abbrev pub invariant-loop-instance : goal.invariant-loop-instance
invariant-loop-instance l = l.fn.into.items ++ instances_declare l.scope l.instances ≡ l.into.items ++ instances_declare l.scope (drop l.instance-index l.instances)
