use Rattle.std.proofs.Common.{◌≡◌, fold, length}
use Rattle.nt_read.specs.Words.{greatest}
use Rattle.nt_read.specs.Sketch.{nothing, told, lines_in}
use Rattle.nt_read.proofs.sketch.shell.Given as goal

abbrev pub invariant-loop-rest : goal.invariant-loop-rest
invariant-loop-rest l = fold (told greatest) l.state (lines_in l.rest) ≡ fold (told greatest) nothing (lines_in l.text)

abbrev pub decreases-loop-rest : goal.decreases-loop-rest
decreases-loop-rest l = length l.rest
