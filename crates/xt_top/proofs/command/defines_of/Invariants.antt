use Rattle.std.proofs.Common.{◌≡◌, ◌++◌, drop}
use Rattle.std.specs.Prelude.{option_map}
use Rattle.xt_top.specs.Command.{defines_of}
use Rattle.xt_top.proofs.command.defines_of.Given as goal

-- the words that are left define what is missing
abbrev pub invariant-loop-i : goal.invariant-loop-i
invariant-loop-i l = defines_of (drop 4 l.words) ≡ option_map (λ rest. l.defines ++ rest) (defines_of (drop l.i l.words))
