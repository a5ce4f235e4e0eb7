use Rattle.std.proofs.Common.{map, ap}
use Rattle.std.proofs.lemmas.List.{take_all}
use Rattle.nt_core.specs.Text.{input_line}
use Rattle.nt_write.specs.Lines.{ended, lines}
use Rattle.nt_write.proofs.LineLists.{each_more}
use Rattle.nt_write.proofs.Taking.{takes_is, pieces2}
use Rattle.nt_write.proofs.pen.Pen.input_pins.Goals as goal

pub loop-pin-preserved : goal.loop-pin-preserved
loop-pin-preserved g c = takes_is _ _ _ _ (pieces2 c.loop-pin.invariant c.input_pin.ensures) (each_more ended (λ i. input_line i.width i.name) _ _ _ c.loop-pin-test.true c.pin-item.is)

pub returns : goal.returns
returns g c = takes_is _ _ _ _ c.loop-pin.invariant (ap (λ xs. lines (map (λ i. input_line i.width i.name) xs)) (take_all _ _ c.loop-pin-test.false))
