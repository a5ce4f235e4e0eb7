-- what is there with what is left is what was there with all
use Rattle.std.proofs.Common.{◌≡◌, ◌++◌, None, map, drop}
use Rattle.std.specs.Prelude.{option_copied}
use Rattle.vl_tree.specs.Arguments.{argument_of, listed_formals}
use Rattle.vl_tree.proofs.argument_list.put_formals.Given as goal

abbrev pub invariant-loop-formal : goal.invariant-loop-formal
invariant-loop-formal l = map argument_of l.fn.into.items ++ listed_formals None l.formals ≡ map argument_of l.into.items ++ listed_formals (option_copied l.words) (drop l.formal-index l.formals)
