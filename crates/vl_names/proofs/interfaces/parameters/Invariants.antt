-- what is found with what is left to be found is what is to be found in all
use Rattle.std.proofs.Common.{◌≡◌, ◌++◌, drop}
use Rattle.std.specs.List.{filter}
use Rattle.vl_names.specs.Interfaces.{is_parameter}
use Rattle.vl_names.proofs.interfaces.parameters.Given as goal

abbrev pub invariant-loop-declaration : goal.invariant-loop-declaration
invariant-loop-declaration l = filter (λ d. is_parameter d.side) l.all ≡ l.found ++ filter (λ d. is_parameter d.side) (drop l.declaration-index l.all)
