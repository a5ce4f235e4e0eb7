-- what is there with what is left is what was there with all
use Rattle.std.proofs.Common.{◌≡◌, ◌++◌, map, drop}
use Rattle.std.specs.Prelude.{flat_map}
use Rattle.el_design.specs.Names.{whole_variables}
use Rattle.el_design.specs.View.{lvalue_of}
use Rattle.ck_call.proofs.assigned.+whole.Given as goal

abbrev pub invariant-put_all_whole-loop-target : goal.invariant-put_all_whole-loop-target
invariant-put_all_whole-loop-target l =
    l.fn.into ++ flat_map whole_variables (map lvalue_of l.targets)
    ≡ l.into ++ flat_map whole_variables (map lvalue_of (drop l.target-index l.targets))
