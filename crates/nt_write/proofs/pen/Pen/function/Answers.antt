use Rattle.std.proofs.Common.{ap, ◌∙◌}
use Rattle.nt_core.specs.Text.{width_texts}
use Rattle.nt_write.proofs.Taking.{takes_is, pieces2, pieces6}
use Rattle.nt_write.proofs.pen.Pen.function.Goals as goal

pub returns : goal.returns
returns g c = pieces2 (pieces6 c.put.ensures (takes_is _ _ _ _ c.put-2.ensures (c.as_bytes.ensures.value ∙ c.as_str.ensures.text ∙ ap (λ f. f.name) c.function.view_is)) c.put-3.ensures (takes_is _ _ _ _ c.widths.ensures (ap (λ ws. width_texts ws) (c.as_slice.ensures.value ∙ ap (λ f. f.ins) c.function.view_is))) c.put-4.ensures (takes_is _ _ _ _ c.widths-2.ensures (ap (λ ws. width_texts ws) (c.as_slice-2.ensures.value ∙ ap (λ f. f.rets) c.function.view_is)))) c.put-5.ensures
