use Rattle.std.proofs.Common.{rules, ◌≡◌, ◌++◌, ◌+◌, drop, subst, sym}
use Rattle.std.specs.Prelude.{option_map}
use Rattle.xt_top.specs.Command.{defines_of}
use Rattle.xt_top.proofs.Defines.{defined_on, undefined_at}
use Rattle.xt_top.proofs.command.defines_of.Goals as goal

pub returns-in_default-define_of : goal.returns-in_default-define_of
returns-in_default-define_of c = undefined_at c.args.words.now c.loop-i.i c.in-Some.word.now c.loop-i.defines _ (search rules) c.in-Some.ensures.word c.in_default-define_of.ensures c.loop-i.invariant

pub loop-i-preserved : goal.loop-i-preserved
loop-i-preserved c = subst (λ ds. defines_of (drop 4 c.args.words.now) ≡ option_map (λ rest. ds ++ rest) (defines_of (drop (c.loop-i.i + 1) c.args.words.now))) (sym c.in_ok-add.ensures.ok) (defined_on c.args.words.now c.loop-i.i c.in-Some.word.now c.loop-i.defines _ _ (search rules) c.in-Some.ensures.word c.in-Some-define_of.ensures c.loop-i.invariant)
