use Rattle.std.proofs.Common.{rules}
use Rattle.nt_write.proofs.Taking.{puts_sent, puts_cut, puts_lost}
use Rattle.nt_write.proofs.pen.Pen.flush.Goals as goal
use Rattle.nt_write.proofs.pen.Pen.flush.Goals.{then-not-self+in-All, then-not-self+in-Failed, else-not-self}

pub returns-clause-takes : goal.returns-clause-takes
returns-clause-takes g c =
    elim c.if-not-self.branch [
      | then-not-self+in-All w ↦ search (rules, puts_sent)
      | then-not-self+in-Failed w ↦ search (rules, puts_cut)
      | else-not-self w ↦ search (rules, puts_lost)
    ]
