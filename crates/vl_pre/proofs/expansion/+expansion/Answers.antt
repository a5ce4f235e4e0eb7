use Rattle.std.proofs.Common.{◌∙◌, sym}
use Rattle.vl_pre.specs.Cursors.{left, seen}
use Rattle.vl_pre.specs.MacroViews.{names_seen}
use Rattle.vl_pre.specs.Tables.{table_of}
use Rattle.vl_pre.specs.Uses.{nested}
use Rattle.vl_pre.specs.Expanding.{expansion_seen}
use Rattle.vl_pre.proofs.ExpandLemmas.{text_step}
use Rattle.vl_pre.proofs.expansion.+expansion.Goals as goal

pub expand_text-loop-piece-preserved : goal.expand_text-loop-piece-preserved
expand_text-loop-piece-preserved t c =
    record {
      within = c.in_ok-expand_piece.ensures.inside;
      fits = c.in_ok-expand_piece.ensures.fits;
      same = c.in_ok-expand_piece.ensures.within ∙ c.loop-piece.invariant.same;
      told = sym (text_step (nested c.args.depth) (table_of c.args.table.now) c.args.context (names_seen c.args.progress.now.forbidden.items) (names_seen c.loop-piece.progress.forbidden.items)
          (left c.args.text.now c.loop-piece.cursor) (left c.args.text.now c.next_piece.new.cursor) (left c.args.text.now c.expand_piece.new.cursor) (seen c.in-Some.piece)
          (expansion_seen c.loop-piece.bytes c.loop-piece.progress) (expansion_seen c.expand_piece.new.bytes c.expand_piece.new.progress) c.loop-piece.invariant.same c.in-Some.ensures.some c.in_ok-expand_piece.ensures.exact) ∙ c.loop-piece.invariant.told;
    }
