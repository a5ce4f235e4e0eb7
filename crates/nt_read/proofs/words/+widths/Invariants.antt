use Rattle.nt_read.proofs.words.+widths.Given as goal

abbrev pub decreases-widths : goal.decreases-widths
decreases-widths l = l.count
