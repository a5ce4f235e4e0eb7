-- none so far
use Rattle.std.proofs.Common.{◌≡◌, ◌==◌, drop}
use Rattle.std.specs.List.{list_any}
use Rattle.ck_call.specs.inner.Routines.{label}
use Rattle.ck_call.proofs.recursion.any_same.Given as goal

abbrev pub invariant-loop-routine : goal.invariant-loop-routine
invariant-loop-routine l = list_any (λ b. label l.labels b == label l.labels l.from) l.routines ≡ list_any (λ b. label l.labels b == label l.labels l.from) (drop l.routine-index l.routines)
