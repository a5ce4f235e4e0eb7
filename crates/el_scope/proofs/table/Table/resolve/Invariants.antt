-- what is found from here outwards is what is found from the scope
use Rattle.std.proofs.Common.{◌≡◌, ◌-◌, ◌+◌, length}
use Rattle.el_scope.specs.Lookup.{outwards, innermost, resolve}
use Rattle.el_scope.proofs.table.Table.resolve.Given as goal

abbrev pub invariant-loop : goal.invariant-loop
invariant-loop l = record {
  whole : l.end ≡ length l.self.declarations + 1;
  rest : resolve l.self l.scope l.name ≡ innermost l.self l.name (outwards l.self (l.end - l.counter) l.here);
}
