-- A function's number has 8 bits.
use Rattle.std.proofs.Common.{◌<◌, ◌^◌, ◌∙◌, subst, arith}
use Rattle.nt_run.proofs.PortLemmas.{function_width}
use Rattle.nt_run.proofs.ports.function_number.Goals as goal

pub overflow_cast-result : goal.overflow_cast-result
overflow_cast-result c =
    let below : c.value.result < 2 ^ 8 =
    subst (λ w. c.value.result < 2 ^ w) (c.host_port.ensures.width ∙ function_width c.args.netlist.now c.args.host c.requires.host) c.value.ensures.fits in
    omega arith
