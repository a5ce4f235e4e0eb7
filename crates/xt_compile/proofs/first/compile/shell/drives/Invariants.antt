use Rattle.std.proofs.Common.{◌≡◌, ◌∷◌, map, take}
use Rattle.xt_compile.specs.first.Nodes.{node_shown}
use Rattle.xt_compile.proofs.first.compile.shell.drives.Given as goal

abbrev pub invariant-loop-pin : goal.invariant-loop-pin
invariant-loop-pin l = l.drives.items ≡ l.edge ∷ map (λ p. node_shown l.nodes p.from) (take l.pin-index l.pin-items)
