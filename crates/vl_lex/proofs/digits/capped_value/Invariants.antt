-- the value of the bytes so far
use Rattle.std.proofs.Common.{◌≡◌, ◌-◌, ◌^◌, min, take}
use Rattle.vl_lex.specs.Numbers.{number_of}
use Rattle.vl_lex.proofs.digits.capped_value.Given as goal

abbrev pub invariant-loop-byte : goal.invariant-loop-byte
invariant-loop-byte l = l.value ≡ min (number_of l.radix (take l.byte-index l.digits)) (2 ^ 64 - 1)
