use Rattle.std.proofs.Common.{◌≡◌, map, take}
use Rattle.std.specs.List.{enumerate_from}
use Rattle.xt_compile.specs.first.Flatten.{pin_of}
use Rattle.xt_compile.proofs.first.flatten.pins.Given as goal

abbrev pub invariant-loop-place : goal.invariant-loop-place
invariant-loop-place l = l.pins ≡ map pin_of (enumerate_from 0 (take l.place l.outputs))
