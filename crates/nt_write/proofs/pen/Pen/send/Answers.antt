use Rattle.std.proofs.Common.{rules, refl}
use Rattle.nt_write.proofs.Taking.{piece_sent, piece_cut, piece_lost}
use Rattle.nt_write.proofs.pen.Pen.send.Goals as goal

pub returns-in-All : goal.returns-in-All
returns-in-All g c = record { same = refl; puts = search (rules, piece_sent) }

pub returns-in-Failed : goal.returns-in-Failed
returns-in-Failed g c = record { same = refl; puts = search (rules, piece_cut) }

pub returns-else-not-self : goal.returns-else-not-self
returns-else-not-self g c = record { same = refl; puts = search (rules, piece_lost) }
