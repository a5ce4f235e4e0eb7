use Rattle.std.proofs.Common.{ap}
use Rattle.std.specs.Prelude.{flat_map}
use Rattle.std.proofs.lemmas.List.{take_all}
use Rattle.nt_core.specs.Text.{host_input_lines}
use Rattle.nt_write.specs.Lines.{ended, lines}
use Rattle.nt_write.proofs.LineLists.{each_many}
use Rattle.nt_write.proofs.Taking.{takes_is, pieces2}
use Rattle.nt_write.proofs.pen.Pen.input_hosts.Goals as goal

pub loop-host-preserved : goal.loop-host-preserved
loop-host-preserved g c = takes_is _ _ _ _ (pieces2 c.loop-host.invariant c.input_host.ensures) (each_many ended host_input_lines _ _ _ c.loop-host-test.true c.host-item.is)

pub returns : goal.returns
returns g c = takes_is _ _ _ _ c.loop-host.invariant (ap (λ xs. lines (flat_map host_input_lines xs)) (take_all _ _ c.loop-host-test.false))
