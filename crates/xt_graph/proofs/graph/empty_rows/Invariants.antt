use Rattle.std.proofs.Common.{◌≡◌, [], map, replicate}
use Rattle.xt_graph.proofs.graph.empty_rows.Given as goal

abbrev pub invariant-loop-count : goal.invariant-loop-count
invariant-loop-count l = map (λ r. r.items) l.rows.items ≡ replicate l._count []
