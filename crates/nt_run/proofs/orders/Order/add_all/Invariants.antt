use Rattle.std.proofs.Common.{◌≡◌, ℕ, ◌<◌, get_or, true, false}
use Rattle.nt_run.specs.Order.{IsBegun}
use Rattle.nt_run.proofs.orders.Order.add_all.Given as goal

abbrev pub invariant-loop-place : goal.invariant-loop-place
invariant-loop-place l = record {
  begun : IsBegun l.nodes l.self.steps.items l.self.marks.items;
  known : (a : ℕ) → a < l.place → get_or l.self.marks.items a false ≡ true;
}
