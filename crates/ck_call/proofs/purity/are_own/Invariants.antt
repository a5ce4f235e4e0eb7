-- all so far
use Rattle.std.proofs.Common.{◌≡◌, drop}
use Rattle.std.specs.List.{list_all}
use Rattle.el_design.specs.Purity.{contains_number}
use Rattle.ck_call.proofs.purity.are_own.Given as goal

abbrev pub invariant-loop-number : goal.invariant-loop-number
invariant-loop-number l = list_all (contains_number l.own) l.stored ≡ list_all (contains_number l.own) (drop l.number-index l.stored)
