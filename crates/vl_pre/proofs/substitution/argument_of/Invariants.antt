use Rattle.std.proofs.Common.{◌≡◌, drop}
use Rattle.vl_pre.specs.Macros.{argument_of}
use Rattle.vl_pre.specs.MacroViews.{names_seen}
use Rattle.vl_pre.proofs.substitution.argument_of.Given as goal

abbrev pub invariant-loop-i : goal.invariant-loop-i
invariant-loop-i l = argument_of (names_seen (drop l.i l.formals)) (names_seen (drop l.i l.given)) l.name ≡ argument_of (names_seen l.formals) (names_seen l.given) l.name
