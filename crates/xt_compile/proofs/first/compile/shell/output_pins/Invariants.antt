use Rattle.std.proofs.Common.{◌≡◌, map, take}
use Rattle.el_design.specs.View.{flat_of}
use Rattle.xt_compile.specs.Hardware.{pin, shown_width}
use Rattle.xt_compile.proofs.first.compile.shell.output_pins.Given as goal

abbrev pub invariant-loop-shown : goal.invariant-loop-shown
invariant-loop-shown l = l.wires.items ≡ map (λ p. pin p.name (shown_width (flat_of l.design) p.from)) (take l.shown-index l.shown-items)
