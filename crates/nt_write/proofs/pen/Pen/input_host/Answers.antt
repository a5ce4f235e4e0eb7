use Rattle.std.proofs.Common.{codes, ap, ◌∙◌}
use Rattle.nt_core.specs.Text.{ack_name, ret_name, input_line, numbered}
use Rattle.nt_write.specs.Lines.{ended, lines}
use Rattle.nt_write.proofs.Taking.{takes_is, pieces2, ends}
use Rattle.nt_write.proofs.pen.Pen.input_host.Goals as goal

pub returns : goal.returns
returns g c = pieces2 (ends (codes ",") (pieces2 c.put.ensures (takes_is _ _ _ _ c.ack.ensures (ap (λ h. ack_name h.process) c.host.view_is))) c.put-2.ensures) (takes_is _ _ _ _ c.input_rets.ensures (ap (λ ws. lines (numbered (λ i w. input_line w (ret_name c.host.inside.process i)) ws)) c.as_slice.ensures.value ∙ ap (λ h. lines (numbered (λ i w. input_line w (ret_name h.process i)) h.rets)) c.host.view_is))
