use Rattle.std.proofs.Common.{subst, arith, refl, Bool}
use Rattle.std.specs.Prelude.{IsOkAnd}
use Rattle.vl_pre.specs.Cursors.{seen}
use Rattle.vl_pre.specs.Uses.{arguments_turn}
use Rattle.vl_pre.specs.Arguing.{IsTurned}
use Rattle.vl_pre.proofs.ArgumentLemmas.{nothing_read, next_read, last_read, is_piece}
use Rattle.vl_pre.proofs.arguments.arguments_from.Goals as goal

pub loop-piece-init : goal.loop-piece-init
loop-piece-init c = record {
  within = c.requires;
  forward = omega arith;
  so_far = nothing_read c.args.context c.args.text.now c.args.cursor.now _ c.requires c.new.ensures.items refl refl refl;
}

pub returns-then-branch-clause-exact : goal.returns-then-branch-clause-exact
returns-then-branch-clause-exact c =
    let so = c.loop-piece.invariant.so_far in
    let at = is_piece c.args.text.now c.loop-piece.cursor c.next_piece.new.cursor (seen c.in-Some.piece) c.in-Some.ensures.some c.in-Some.ensures.within c.in-Some.ensures.bytes c.in-Some.ensures.forward in
    let turned = c.in_ok-arguments_turn.ensures c.args.text.now c.loop-piece.cursor so.given at so.reads in
    let P = λ (closed : Bool). IsOkAnd (arguments_turn c.args.context so.given (seen c.in-Some.piece)) (IsTurned c.args.text.now c.next_piece.new.cursor c.arguments_turn.new.reader so.given.size closed) in
    last_read c.args.context c.args.text.now c.args.cursor.now c.loop-piece.cursor c.next_piece.new.cursor c.loop-piece.reader c.arguments_turn.new.reader (seen c.in-Some.piece) so c.in-Some.ensures.some (subst P c.if-branch.true turned)

pub loop-piece-preserved : goal.loop-piece-preserved
loop-piece-preserved c =
    let so = c.loop-piece.invariant.so_far in
    let at = is_piece c.args.text.now c.loop-piece.cursor c.next_piece.new.cursor (seen c.in-Some.piece) c.in-Some.ensures.some c.in-Some.ensures.within c.in-Some.ensures.bytes c.in-Some.ensures.forward in
    let turned = c.in_ok-arguments_turn.ensures c.args.text.now c.loop-piece.cursor so.given at so.reads in
    let P = λ (closed : Bool). IsOkAnd (arguments_turn c.args.context so.given (seen c.in-Some.piece)) (IsTurned c.args.text.now c.next_piece.new.cursor c.arguments_turn.new.reader so.given.size closed) in
    record {
      within = c.in-Some.ensures.within;
      forward = omega (arith, c.in-Some.ensures.forward);
      so_far = next_read c.args.context c.args.text.now c.args.cursor.now c.loop-piece.cursor c.next_piece.new.cursor c.loop-piece.reader c.arguments_turn.new.reader (seen c.in-Some.piece) so c.in-Some.ensures.some (subst P c.if-branch.false turned);
    }
