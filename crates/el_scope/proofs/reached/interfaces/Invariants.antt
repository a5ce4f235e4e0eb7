-- what is known with what is left is what is to be found
use Rattle.std.proofs.Common.{◌≡◌, ◌==◌, ℕ, map, drop}
use Rattle.std.specs.List.{find}
use Rattle.std.specs.Option.{option_or}
use Rattle.vl_names.specs.Interfaces.{interface_of}
use Rattle.el_scope.specs.Connecting.{interfaces_of}
use Rattle.el_scope.specs.inner.Maps.{at_token}
use Rattle.el_scope.proofs.reached.interfaces.Given as goal

abbrev pub invariant-loop-module : goal.invariant-loop-module
invariant-loop-module l = (at : ℕ) → interfaces_of l.tree at ≡ option_or (at_token l.known.entries at) (find (λ i. at == i.name) (map interface_of (drop l.module-index l.tree.modules)))
