use Rattle.std.proofs.Common.{◌≡◌, ◌<◌, ℕ, None, length}
use Rattle.std.specs.Prelude.{slice_index_or}
use Rattle.el_scope.specs.Nesting.{open_at, scope_at}
use Rattle.el_scope.proofs.nesting.scopes.Given as goal

abbrev pub invariant-loop-at : goal.invariant-loop-at
invariant-loop-at l = record {
  count : length l.all.items ≡ l.at;
  open_here : l.open.items ≡ open_at l.table l.at;
  each : (i : ℕ) → i < l.at → slice_index_or l.all.items i None ≡ scope_at l.table i;
}
