-- what is there with what is left is what was there with all
use Rattle.std.proofs.Common.{◌≡◌, ◌++◌, map, drop}
use Rattle.el_design.specs.Names.{target_variables}
use Rattle.el_design.specs.View.{lvalue_of, parts_of}
use Rattle.ck_call.proofs.targets.+stored.Given as goal

abbrev pub invariant-put_all_stored-loop-target : goal.invariant-put_all_stored-loop-target
invariant-put_all_stored-loop-target l =
    l.fn.into ++ target_variables (parts_of (map lvalue_of l.targets))
    ≡ l.into ++ target_variables (parts_of (map lvalue_of (drop l.target-index l.targets)))
