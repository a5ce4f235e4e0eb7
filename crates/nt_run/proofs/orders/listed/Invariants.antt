use Rattle.std.proofs.Common.{◌≡◌, take}
use Rattle.nt_run.proofs.orders.listed.Given as goal

abbrev pub invariant-loop-place : goal.invariant-loop-place
invariant-loop-place l = l.operands.items ≡ take l.place-index l.places
