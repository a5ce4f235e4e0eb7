use Rattle.std.proofs.Common.{◌≡◌, ◌++◌, map, take, drop}
use Rattle.nt_read.specs.Names.{names_of, are_new}
use Rattle.nt_read.proofs.names.add_names.Given as goal

abbrev pub invariant-loop-pin : goal.invariant-loop-pin
invariant-loop-pin l = record {
  known : map (λ k. k.now) l.names.keys ≡ map (λ k. k.now) l.fn.names.keys ++ names_of (take l.pin-index l.pins);
  rest : are_new (map (λ k. k.now) l.names.keys) (names_of (drop l.pin-index l.pins)) ≡ are_new (map (λ k. k.now) l.fn.names.keys) (names_of l.pins);
}
