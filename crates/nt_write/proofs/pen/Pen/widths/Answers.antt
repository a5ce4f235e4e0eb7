use Rattle.std.proofs.Common.{◌++◌, codes, decimal, ap}
use Rattle.std.proofs.lemmas.List.{take_all}
use Rattle.nt_core.specs.Text.{width_texts}
use Rattle.nt_write.proofs.LineLists.{flat_more_number}
use Rattle.nt_write.proofs.Taking.{takes_is, pieces2}
use Rattle.nt_write.proofs.pen.Pen.widths.Goals as goal

pub loop-width-preserved : goal.loop-width-preserved
loop-width-preserved g c = takes_is _ _ _ _ (pieces2 c.loop-width.invariant c.width.ensures) (flat_more_number (λ w. codes " " ++ decimal w) _ _ c.loop-width-test.true)

pub returns : goal.returns
returns g c = takes_is _ _ _ _ c.loop-width.invariant (ap (λ xs. width_texts xs) (take_all _ _ c.loop-width-test.false))
