use Rattle.std.proofs.Common.{◌≡◌, ◌++◌, map, length}
use Rattle.nt_read.specs.Words.{greatest}
use Rattle.nt_read.specs.Sketch.{nodes_told}
use Rattle.nt_read.proofs.forms.nodes.Given as goal

abbrev pub invariant-loop-rest : goal.invariant-loop-rest
invariant-loop-rest l = l.nodes.items ++ nodes_told greatest (map (λ k. k.now) l.names.keys) l.rest ≡ nodes_told greatest (map (λ k. k.now) l.names.keys) l.text

abbrev pub decreases-loop-rest : goal.decreases-loop-rest
decreases-loop-rest l = length l.rest
