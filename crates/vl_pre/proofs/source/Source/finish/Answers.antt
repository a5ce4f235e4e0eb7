use Rattle.std.proofs.Common.{rules, ◌≡◌, ◌∙◌, sym, subst, false, true}
use Rattle.vl_pre.specs.Faults.{AskedInOrder, loads_of}
use Rattle.vl_pre.proofs.TurnLemmas.{goes_on, ended_asked}
use Rattle.vl_pre.proofs.source.Source.finish.Goals as goal

pub returns-in_err-turn-clause-asked : goal.returns-in_err-turn-clause-asked
returns-in_err-turn-clause-asked g c = λ h start e begun.
    subst (λ told. AskedInOrder start (g.F.Files.asked c.turn.new.files) (loads_of told)) (sym (c.loop-source.invariant.rest h e))
    (c.in_err-turn.ensures.asked h start (c.loop-source.invariant.held ∙ e) (c.loop-source.invariant.asked start h e begun))

pub returns-then-not-branch-clause-asked : goal.returns-then-not-branch-clause-asked
returns-then-not-branch-clause-asked g c = λ h start e begun.
    let off : c.in_ok-turn.field-0 ≡ false = search rules in
    subst (λ told. AskedInOrder start (g.F.Files.asked c.turn.new.files) (loads_of told)) (sym (c.loop-source.invariant.rest h e))
    (ended_asked h c.loop-source.source c.turn.new.self c.in_ok-turn.field-0 start (g.F.Files.asked c.turn.new.files) off (c.in_ok-turn.ensures.rest h (c.loop-source.invariant.held ∙ e))
    (c.in_ok-turn.ensures.asked h start (c.loop-source.invariant.held ∙ e) (c.loop-source.invariant.asked start h e begun)))

pub loop-source-preserved : goal.loop-source-preserved
loop-source-preserved g c =
    let on : c.in_ok-turn.field-0 ≡ true = search rules in
    record {
      source = c.in_ok-turn.ensures.source on;
      held = c.in_ok-turn.ensures.held ∙ c.loop-source.invariant.held;
      counted = c.in_ok-turn.ensures.counted ∙ c.loop-source.invariant.counted;
      rest = λ h e. c.loop-source.invariant.rest h e ∙ goes_on c.in_ok-turn.field-0 _ _ _ on (c.in_ok-turn.ensures.rest h (c.loop-source.invariant.held ∙ e));
      asked = λ start h e begun. c.in_ok-turn.ensures.asked h start (c.loop-source.invariant.held ∙ e) (c.loop-source.invariant.asked start h e begun);
    }
