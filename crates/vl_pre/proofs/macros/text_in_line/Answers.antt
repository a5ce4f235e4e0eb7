use Rattle.std.proofs.Common.{◌≡◌, rules, arith, cond, length, false}
use Rattle.vl_pre.specs.Pieces.{is_space}
use Rattle.vl_pre.specs.Directives.{is_stray}
use Rattle.vl_pre.specs.Cursors.{seen}
use Rattle.vl_pre.specs.Lines.{in_line}
use Rattle.vl_pre.proofs.LineLemmas.{goes_further}
use Rattle.vl_pre.proofs.TextLemmas.{text_goes}
use Rattle.vl_pre.proofs.DefineLemmas.{text_stray, text_whole}
use Rattle.vl_pre.proofs.macros.text_in_line.Goals as goal

pub returns-then-is_stray-clause-exact : goal.returns-then-is_stray-clause-exact
returns-then-is_stray-clause-exact c = text_stray (in_line c.args.text.now c.args.cursor.now) _ _ _ _ (seen c.in-Some.piece) c.loop-piece.invariant.so_far c.in-Some.ensures.some (search rules)

pub loop-piece-preserved : goal.loop-piece-preserved
loop-piece-preserved c =
    let stray : is_stray (seen c.in-Some.piece) ≡ false = search rules in
    let kept : c.kept_behind-kept.result ≡ cond (is_space (seen c.in-Some.piece)) c.loop-piece.kept (length c.extend_from_slice.new.self.items) = search rules in
    record {
      within = c.in-Some.ensures.within;
      forward = omega (arith, c.in-Some.ensures.forward);
      goes = goes_further _ _ _ c.loop-piece.invariant.goes c.in-Some.ensures.goes;
      so_far = rw (kept, c.in_ok-extend_from_slice.ensures.items) (text_goes _ _ _ _ _ (seen c.in-Some.piece) c.loop-piece.invariant.so_far c.in-Some.ensures.some stray);
    }

pub returns-clause-exact : goal.returns-clause-exact
returns-clause-exact c = rw c.truncate.ensures.items (text_whole (in_line c.args.text.now c.args.cursor.now) _ _ _ c.loop-piece.invariant.so_far (search rules))
