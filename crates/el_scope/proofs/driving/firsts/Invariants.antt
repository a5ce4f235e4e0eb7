-- what is known with what is left is what is to be found
use Rattle.std.proofs.Common.{◌≡◌, ℕ, drop}
use Rattle.std.specs.Option.{option_or}
use Rattle.el_scope.specs.Driving.{first_driver}
use Rattle.el_scope.specs.inner.Maps.{at_token}
use Rattle.el_scope.proofs.driving.firsts.Given as goal

abbrev pub invariant-loop-found : goal.invariant-loop-found
invariant-loop-found l = (net : ℕ) → first_driver l.all net ≡ option_or (at_token l.known.entries net) (first_driver (drop l.found-index l.all) net)
