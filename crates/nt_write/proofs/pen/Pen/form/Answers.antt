use Rattle.nt_write.proofs.pen.Pen.form.Goals as goal

pub returns-in-SDiv : goal.returns-in-SDiv
returns-in-SDiv g c = rw c.in-SDiv.is c.signed_by.ensures

pub returns-in-SRem : goal.returns-in-SRem
returns-in-SRem g c = rw c.in-SRem.is c.signed_by-in-SRem.ensures

pub returns-in-Sar : goal.returns-in-Sar
returns-in-Sar g c = rw c.in-Sar.is c.signed_shift.ensures

pub returns-in-SLt : goal.returns-in-SLt
returns-in-SLt g c = rw c.in-SLt.is c.signed_less.ensures
