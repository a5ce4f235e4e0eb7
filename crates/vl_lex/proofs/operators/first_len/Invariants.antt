use Rattle.std.proofs.Common.{◌≡◌, nat_eq, map, find, drop}
use Rattle.std.specs.List.{starts_with}
use Rattle.vl_lex.proofs.operators.first_len.Given as goal

abbrev pub invariant-loop-listed : goal.invariant-loop-listed
invariant-loop-listed l = find (λ listed. starts_with nat_eq l.rest listed) (map (λ listed. listed.now) (drop l.listed-index l.list)) ≡ find (λ listed. starts_with nat_eq l.rest listed) (map (λ listed. listed.now) l.list)
