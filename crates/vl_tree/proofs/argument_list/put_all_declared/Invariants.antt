-- what is there with what is left is what was there with all
use Rattle.std.proofs.Common.{◌≡◌, ◌++◌, map, drop}
use Rattle.std.specs.Prelude.{flat_map}
use Rattle.vl_tree.specs.Arguments.{argument_of, declared_arguments}
use Rattle.vl_tree.proofs.argument_list.put_all_declared.Given as goal

abbrev pub invariant-loop-arg : goal.invariant-loop-arg
invariant-loop-arg l = map argument_of l.fn.into.items ++ flat_map declared_arguments l.args ≡ map argument_of l.into.items ++ flat_map declared_arguments (drop l.arg-index l.args)
