use Rattle.std.proofs.Common.{◌≡◌, replicate}
use Rattle.el_width.specs.declared.environment.Meaning.TheVariants as meaning
use Rattle.el_width.proofs.environment.Env.new.Given as goal

abbrev pub invariant-loop : goal.invariant-loop
invariant-loop l = l.meanings.items ≡ replicate l.counter meaning.Unknown
