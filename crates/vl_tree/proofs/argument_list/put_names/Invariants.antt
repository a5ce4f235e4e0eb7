-- what is there with what is left is what was there with all
use Rattle.std.proofs.Common.{◌≡◌, ◌++◌, Some, map, drop}
use Rattle.vl_tree.specs.Arguments.{argument_of, listed_formals, declared_arguments}
use Rattle.vl_tree.specs.Arguments as plain
use Rattle.vl_tree.proofs.argument_list.put_names.Given as goal

abbrev pub invariant-loop-name : goal.invariant-loop-name
invariant-loop-name l = map argument_of l.fn.into.items ++ map (λ name. plain.formal (Some l.words) name) l.names ≡ map argument_of l.into.items ++ map (λ name. plain.formal (Some l.words) name) (drop l.name-index l.names)
