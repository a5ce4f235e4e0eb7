use Rattle.std.proofs.Common.{List, sym, ◌∙◌, subst, arith}
use Rattle.el_design.specs.Plain.{Statement}
use Rattle.xt_compile.proofs.first_form.Growing.{width_grows, map_grows}
use Rattle.xt_compile.proofs.first_form.Walks.{WalkedTo, walked_none, walked_wait, walked_assign, walked_all, walked_last, statements_more}
use Rattle.xt_compile.proofs.first.compile.process.after_waits.Goals as goal
use Rattle.xt_compile.proofs.first.compile.process.after_waits.Goals.{then-is_wait+in_ok-point+in_ok-here-2, else-is_wait+in_ok-assign}

pub loop-statement-init : goal.loop-statement-init
loop-statement-init c = walked_none c.args.design.now c.args.builder.now c.is_at.new.builder c.args.map.now c.args.state c.args.nexts.now.items c.in_ok-here.here c.requires.map c.requires.nexts c.in_ok-here.ensures

pub is_at-requires-then-is_wait : goal.is_at-requires-then-is_wait
is_at-requires-then-is_wait c = width_grows _ _ _ _ c.loop-statement.invariant.last.extends.grows c.requires.state

pub assign-requires-clause-map : goal.assign-requires-clause-map
assign-requires-clause-map c = map_grows _ _ _ _ c.loop-statement.invariant.last.extends c.requires.map

pub loop-statement-preserved : goal.loop-statement-preserved
loop-statement-preserved c =
    subst (λ (done : List Statement). WalkedTo c.args.design.now c.args.builder.now c.if-is_wait.builder c.args.map.now c.args.state c.args.nexts.now.items c.if-is_wait.nexts.items c.if-is_wait.point c.if-is_wait.here done)
    (sym (statements_more c.args.statements.now c.loop-statement.statement-index c.statement-item.result c.loop-statement-test.true c.statement-item.is))
    (elim c.if-is_wait.branch [
      | then-is_wait+in_ok-point+in_ok-here-2 w ↦
          rw (w.builder-is, w.here-is, w.nexts-is, w.point-is)
          (walked_wait c.args.design.now c.args.builder.now c.loop-statement.builder w.is_at-then-is_wait.new.builder c.args.map.now c.args.state c.args.nexts.now.items c.loop-statement.nexts.items c.loop-statement.point c.loop-statement.here
          w.in_ok-point.point w.in_ok-here-2.here _ _ c.requires.state c.loop-statement.invariant (sym c.is_wait.ensures ∙ w.if-is_wait.true) w.in_ok-point.ensures.0 w.in_ok-point.ensures.1 w.in_ok-here-2.ensures)
      | else-is_wait+in_ok-assign w ↦
          rw (w.builder-is, w.here-is, w.nexts-is, w.point-is)
          (walked_assign c.args.design.now c.args.builder.now c.loop-statement.builder w.assign.new.builder c.args.map.now c.args.state c.args.nexts.now.items c.loop-statement.nexts.items w.assign.new.nexts.items c.loop-statement.point c.loop-statement.here
          _ _ c.requires.map c.loop-statement.invariant (sym c.is_wait.ensures ∙ w.if-is_wait.false) w.in_ok-assign.ensures)
    ])

pub returns-clause-points : goal.returns-clause-points
returns-clause-points c = let walked = (walked_all _ _ _ _ _ _ _ _ _ c.args.statements.now c.loop-statement.statement-index c.loop-statement-test.false c.loop-statement.invariant) in omega (arith, walked.points, walked.below)

pub returns-clause-last : goal.returns-clause-last
returns-clause-last c = walked_last _ _ _ _ _ _ _ _ _ _ (walked_all _ _ _ _ _ _ _ _ _ c.args.statements.now c.loop-statement.statement-index c.loop-statement-test.false c.loop-statement.invariant)

pub returns-clause-nexts : goal.returns-clause-nexts
returns-clause-nexts c = let walked = (walked_all _ _ _ _ _ _ _ _ _ c.args.statements.now c.loop-statement.statement-index c.loop-statement-test.false c.loop-statement.invariant) in walked.nexts
