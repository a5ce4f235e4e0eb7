use Rattle.std.proofs.Common.{◌≡◌, map, take}
use Rattle.xt_graph.proofs.graph.of_rows.Given as goal

abbrev pub invariant-loop-row : goal.invariant-loop-row
invariant-loop-row l = l.graph ≡ map (λ r. r.items) (take l.row-index l.rows)
