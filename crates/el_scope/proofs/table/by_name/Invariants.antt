-- what is known with what is left is what is to be found
use Rattle.std.proofs.Common.{◌≡◌, ℕ, List, drop}
use Rattle.std.specs.Option.{option_or}
use Rattle.std.specs.List.{find}
use Rattle.el_scope.specs.Table.{table_with}
use Rattle.el_scope.specs.Lookup.{is_named, declared_in}
use Rattle.el_scope.specs.inner.Maps.{named}
use Rattle.el_scope.proofs.table.by_name.Given as goal

abbrev pub invariant-loop-found : goal.invariant-loop-found
invariant-loop-found l = (scope : ℕ) (word : List ℕ) → declared_in (table_with l.text l.tokens l.all) scope word
    ≡ option_or (named l.known.entries scope word) (find (is_named (table_with l.text l.tokens l.all) scope word) (drop l.found-index l.all))
