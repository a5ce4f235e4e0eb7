-- what is there with what is left is what was there with all
use Rattle.std.proofs.Common.{◌≡◌, ◌++◌, map, drop}
use Rattle.std.specs.Prelude.{flat_map}
use Rattle.vl_tree.specs.Arguments.{argument_of}
use Rattle.vl_names.specs.Declarations.{argument_declares}
use Rattle.vl_names.proofs.declare.put_arguments.Given as goal

abbrev pub invariant-loop-argument : goal.invariant-loop-argument
invariant-loop-argument l =
    l.fn.into.items ++ flat_map (argument_declares l.scope) (map argument_of l.all)
    ≡ l.into.items ++ flat_map (argument_declares l.scope) (map argument_of (drop l.argument-index l.all))
