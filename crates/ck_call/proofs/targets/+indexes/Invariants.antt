-- what is there with what is left is what was there with all
use Rattle.std.proofs.Common.{◌≡◌, ◌++◌, map, drop}
use Rattle.el_design.specs.View.{lvalue_of, parts_of}
use Rattle.ck_call.specs.inner.Nodes.{indexes_named}
use Rattle.ck_call.proofs.targets.+indexes.Given as goal

abbrev pub invariant-put_all_indexes-loop-target : goal.invariant-put_all_indexes-loop-target
invariant-put_all_indexes-loop-target l =
    l.fn.into ++ indexes_named (parts_of (map lvalue_of l.targets))
    ≡ l.into ++ indexes_named (parts_of (map lvalue_of (drop l.target-index l.targets)))
