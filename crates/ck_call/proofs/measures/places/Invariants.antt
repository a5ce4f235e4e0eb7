-- what is there with what is left is all
use Rattle.std.proofs.Common.{◌≡◌, ◌++◌, drop, map}
use Rattle.ck_call.proofs.measures.places.Given as goal

abbrev pub invariant-loop-proc : goal.invariant-loop-proc
invariant-loop-proc l = map (λ p. p.place) l.procs ≡ l.all ++ map (λ p. p.place) (drop l.proc-index l.procs)
