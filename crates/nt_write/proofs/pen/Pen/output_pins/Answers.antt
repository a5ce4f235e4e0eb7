use Rattle.std.proofs.Common.{map, ap}
use Rattle.std.proofs.lemmas.List.{take_all}
use Rattle.nt_core.specs.Text.{output_line}
use Rattle.nt_write.specs.Lines.{following, followings}
use Rattle.nt_write.proofs.LineLists.{each_more}
use Rattle.nt_write.proofs.Taking.{takes_is, pieces2}
use Rattle.nt_write.proofs.pen.Pen.output_pins.Goals as goal

pub loop-pin-preserved : goal.loop-pin-preserved
loop-pin-preserved g c = takes_is _ _ _ _ (pieces2 c.loop-pin.invariant c.output_pin.ensures) (each_more following (λ o. output_line o.width o.name) _ _ _ c.loop-pin-test.true c.pin-item.is)

pub returns : goal.returns
returns g c = takes_is _ _ _ _ c.loop-pin.invariant (ap (λ xs. followings (map (λ o. output_line o.width o.name) xs)) (take_all _ _ c.loop-pin-test.false))
