-- what is known with what is left is what is to be found
use Rattle.std.proofs.Common.{◌≡◌, ◌==◌, ℕ, drop}
use Rattle.std.specs.Option.{option_or}
use Rattle.std.specs.List.{find}
use Rattle.el_scope.specs.inner.Maps.{at_token}
use Rattle.el_scope.proofs.table.by_token.Given as goal

abbrev pub invariant-loop-found : goal.invariant-loop-found
invariant-loop-found l = (at : ℕ) → find (λ d. at == d.entity.at) l.all ≡ option_or (at_token l.known.entries at) (find (λ d. at == d.entity.at) (drop l.found-index l.all))
