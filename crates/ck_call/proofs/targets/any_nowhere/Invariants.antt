-- none so far
use Rattle.std.proofs.Common.{◌≡◌, map, drop}
use Rattle.std.specs.List.{list_any}
use Rattle.el_design.specs.Names.{is_nowhere}
use Rattle.el_design.specs.View.{lvalue_of}
use Rattle.ck_call.proofs.targets.any_nowhere.Given as goal

abbrev pub invariant-loop-target : goal.invariant-loop-target
invariant-loop-target l = list_any is_nowhere (map lvalue_of l.targets) ≡ list_any is_nowhere (map lvalue_of (drop l.target-index l.targets))
