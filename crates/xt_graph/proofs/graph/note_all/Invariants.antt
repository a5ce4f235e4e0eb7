use Rattle.std.proofs.Common.{◌≡◌, drop, map}
use Rattle.xt_graph.specs.inner.Reversing.{noted_all}
use Rattle.xt_graph.proofs.graph.note_all.Given as goal

abbrev pub invariant-loop-target : goal.invariant-loop-target
invariant-loop-target l = noted_all l.node (map (λ r. r.items) l.rows.items) (drop l.target-index l.targets) ≡ noted_all l.node (map (λ r. r.items) l.initial.rows.items) l.targets
