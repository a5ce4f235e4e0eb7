use Rattle.nt_write.proofs.pen.Pen.+hex.Given as goal

abbrev pub decreases-hex : goal.decreases-hex
decreases-hex g l = l.count
