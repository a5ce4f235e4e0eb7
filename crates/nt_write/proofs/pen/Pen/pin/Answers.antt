use Rattle.std.proofs.Common.{◌≡◌, ◌≤◌, length, ap, ◌∙◌}
use Rattle.nt_write.proofs.Taking.{takes_is, takes_none}
use Rattle.nt_write.proofs.Pins.{name_at, name_past}
use Rattle.nt_write.proofs.pen.Pen.pin.Goals as goal

pub returns-in-Some : goal.returns-in-Some
returns-in-Some g c =
    takes_is _ _ _ _ c.put.ensures (name_at _ _ _ c.in-Some.wire.now _ (c.deref.ensures.value ∙ ap (λ n. n.inputs) c.netlist.view_is) c.in-Some.ensures.lookup.3.0 c.in-Some.ensures.lookup.1 (c.as_bytes.ensures.value ∙ c.as_str.ensures.text))

pub returns-in_default : goal.returns-in_default
returns-in_default g c =
    takes_is _ _ _ _ (takes_none _) (name_past _ _ _ (c.deref.ensures.value ∙ ap (λ n. n.inputs) c.netlist.view_is) c.in_default.ensures.lookup.3)
