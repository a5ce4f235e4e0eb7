-- whether the scope is among those from here outwards is whether it is among those from the scope
use Rattle.std.proofs.Common.{◌≡◌, ◌==◌, ◌-◌, ◌+◌, length}
use Rattle.std.specs.List.{list_any}
use Rattle.el_scope.specs.Lookup.{outwards, scopes_round}
use Rattle.el_scope.proofs.table.Table.is_round.Given as goal

abbrev pub invariant-loop : goal.invariant-loop
invariant-loop l = record {
  whole : l.end ≡ length l.self.declarations + 1;
  rest : list_any (λ o. o == l.outer) (scopes_round l.self l.scope) ≡ list_any (λ o. o == l.outer) (outwards l.self (l.end - l.counter) l.here);
}
