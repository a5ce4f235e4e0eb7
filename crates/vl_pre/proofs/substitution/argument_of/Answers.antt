use Rattle.std.proofs.Common.{◌≡◌, ◌∙◌, sym, rules, true, false}
use Rattle.std.specs.Prelude.{bytes_eq, slice_get}
use Rattle.vl_pre.specs.Macros.{argument_of}
use Rattle.vl_pre.specs.MacroViews.{names_seen}
use Rattle.vl_pre.proofs.FormalLemmas.{formal_found, formal_other}
use Rattle.vl_pre.proofs.substitution.argument_of.Goals as goal

pub returns-then-eq : goal.returns-then-eq
returns-then-eq c =
    let equal : bytes_eq c.index-formals-i.result.items c.args.name.now ≡ true = search rules in
    let found : slice_get (names_seen c.args.given.now) c.loop-i.i ≡ argument_of (names_seen c.args.formals.now) (names_seen c.args.given.now) c.args.name.now =
    sym (formal_found c.args.formals.now c.args.given.now c.args.name.now c.loop-i.i c.index-formals-i.result c.loop-i-test.true c.index-formals-i.is equal) ∙ c.loop-i.invariant in
    rw (← found) c.text_at.ensures

pub loop-i-preserved : goal.loop-i-preserved
loop-i-preserved c =
    let other : bytes_eq c.index-formals-i.result.items c.args.name.now ≡ false = search rules in
    sym (formal_other c.args.formals.now c.args.given.now c.args.name.now c.loop-i.i c.index-formals-i.result c.loop-i-test.true c.index-formals-i.is other) ∙ c.loop-i.invariant
