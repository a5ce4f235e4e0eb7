-- what is there with what is left is what was there with all
use Rattle.std.proofs.Common.{◌≡◌, ◌++◌, map, drop}
use Rattle.vl_tree.specs.Arguments.{argument_of, listed_formals, declared_arguments}
use Rattle.vl_tree.specs.Arguments as plain
use Rattle.vl_tree.proofs.argument_list.put_locals.Given as goal

abbrev pub invariant-loop-local : goal.invariant-loop-local
invariant-loop-local l = map argument_of l.fn.into.items ++ map plain.locals l.locals ≡ map argument_of l.into.items ++ map plain.locals (drop l.local-index l.locals)
