-- what is known with what is left is what is to be found
use Rattle.std.proofs.Common.{◌≡◌, ℕ, List, drop}
use Rattle.std.specs.Option.{option_or}
use Rattle.el_scope.specs.Connecting.{first_named}
use Rattle.el_scope.specs.inner.Maps.{named}
use Rattle.el_scope.proofs.connecting.firsts.Given as goal

abbrev pub invariant-loop-one : goal.invariant-loop-one
invariant-loop-one l = (word : List ℕ) → first_named l.table l.all word ≡ option_or (named l.known.entries l.owner word) (first_named l.table (drop l.one-index l.all) word)
