use Rattle.std.proofs.Common.{◌≡◌, map, take}
use Rattle.el_design.specs.Run.{net_width}
use Rattle.el_design.specs.View.{flat_of}
use Rattle.xt_compile.specs.Hardware.{pin, net_name}
use Rattle.xt_compile.proofs.first.compile.shell.input_pins.Given as goal

abbrev pub invariant-loop-number : goal.invariant-loop-number
invariant-loop-number l = l.wires.items ≡ map (λ n. pin (net_name l.design n) (net_width (flat_of l.design) n)) (take l.number-index l.number-items)
