use Rattle.std.proofs.Common.{◌≡◌, ◌∷◌, ap, sym, subst}
use Rattle.std.specs.Prelude.{string_bytes}
use Rattle.vl_pre.specs.Cursors.{left, seen}
use Rattle.vl_pre.specs.Turning.{open_groups}
use Rattle.vl_pre.specs.Readings.{reading_seen}
use Rattle.vl_pre.proofs.FileLemmas.{turn_keeps, include_ascii, file_turn}
use Rattle.vl_pre.proofs.InputLemmas.{ended_forward, include_next, stepped_turn, stepped_include, stays_some}
use Rattle.vl_pre.proofs.inputs.step.Goals as goal

pub returns-in_default-clause-forward : goal.returns-in_default-clause-forward
returns-in_default-clause-forward c = ended_forward (reading_seen c.args.state.now) c.end.result _ _ (c.end.ensures (reading_seen c.args.state.now))

pub include_of-requires : goal.include_of-requires
include_of-requires c =
    include_ascii (seen c.in-Some.piece) c.args.input.now.text.items c.next_piece.new.cursor (left c.args.input.now.text.items c.file_step.new.cursor) (open_groups c.args.input.now.groups.items) (reading_seen c.args.state.now)
    c.in-Some-include.name.now c.requires.input.ascii
    (stepped_include (λ name. name.now) (seen c.in-Some.piece) (open_groups c.args.input.now.groups.items) (open_groups c.file_step.new.groups.items) (reading_seen c.args.state.now) (reading_seen c.file_step.new.state) c.next_piece.new.cursor c.file_step.new.cursor c.as_slice-2.result.now _ c.in-Ok.include _ c.as_slice-2.ensures.value c.in-Some-include.is c.in-Ok.ensures.exact)

pub returns-in-None-clause-names : goal.returns-in-None-clause-names
returns-in-None-clause-names c =
    (turn_keeps (seen c.in-Some.piece) (left c.args.input.now.text.items c.next_piece.new.cursor) (left c.args.input.now.text.items c.file_step.new.cursor) (open_groups c.args.input.now.groups.items) (open_groups c.file_step.new.groups.items)
    (reading_seen c.args.state.now) (reading_seen c.file_step.new.state)
    (stepped_turn (λ name. name.now) (seen c.in-Some.piece) (open_groups c.args.input.now.groups.items) (open_groups c.file_step.new.groups.items) (reading_seen c.args.state.now) (reading_seen c.file_step.new.state) c.next_piece.new.cursor c.file_step.new.cursor c.as_slice-2.result.now _ c.in-Ok.include c.as_slice-2.ensures.value c.in-None.is c.in-Ok.ensures.exact)).1

pub returns-in-None-clause-exact : goal.returns-in-None-clause-exact
returns-in-None-clause-exact c = λ include.
    file_turn include (string_bytes c.args.input.now.name) (left c.args.input.now.text.items c.args.input.now.cursor) (left c.args.input.now.text.items c.next_piece.new.cursor) (left c.args.input.now.text.items c.file_step.new.cursor) (seen c.in-Some.piece)
    (open_groups c.args.input.now.groups.items) (open_groups c.file_step.new.groups.items) (reading_seen c.args.state.now) (reading_seen c.file_step.new.state)
    (subst (λ t. left t c.args.input.now.cursor ≡ seen c.in-Some.piece ∷ left t c.next_piece.new.cursor) c.as_slice.ensures.value c.in-Some.ensures.some)
    (stepped_turn (λ name. name.now) (seen c.in-Some.piece) (open_groups c.args.input.now.groups.items) (open_groups c.file_step.new.groups.items) (reading_seen c.args.state.now) (reading_seen c.file_step.new.state) c.next_piece.new.cursor c.file_step.new.cursor c.as_slice-2.result.now _ c.in-Ok.include c.as_slice-2.ensures.value c.in-None.is c.in-Ok.ensures.exact)

pub returns-in_ok-include_of-in-Some-include-clause-exact :
    goal.returns-in_ok-include_of-in-Some-include-clause-exact
returns-in_ok-include_of-in-Some-include-clause-exact c = λ include.
    let stays = stays_some _ c.in-Ok.include c.in-Some-include.name c.in-Some-include.is c.in-Ok.ensures.stays in
    include_next include (string_bytes c.args.input.now.name) c.in-Some-include.name.now _ (left c.args.input.now.text.items c.args.input.now.cursor) (left c.args.input.now.text.items c.next_piece.new.cursor) (left c.args.input.now.text.items c.file_step.new.cursor) (seen c.in-Some.piece) _
    (open_groups c.args.input.now.groups.items) (open_groups c.file_step.new.groups.items) (reading_seen c.args.state.now) (reading_seen c.file_step.new.state)
    (subst (λ t. left t c.args.input.now.cursor ≡ seen c.in-Some.piece ∷ left t c.next_piece.new.cursor) c.as_slice.ensures.value c.in-Some.ensures.some)
    (stepped_include (λ name. name.now) (seen c.in-Some.piece) (open_groups c.args.input.now.groups.items) (open_groups c.file_step.new.groups.items) (reading_seen c.args.state.now) (reading_seen c.file_step.new.state) c.next_piece.new.cursor c.file_step.new.cursor c.as_slice-2.result.now _ c.in-Ok.include _ c.as_slice-2.ensures.value c.in-Some-include.is c.in-Ok.ensures.exact)
    (sym c.in_ok-include_of-in-Some-include.ensures.ok.1) (sym c.in_ok-include_of-in-Some-include.ensures.ok.0) (ap (λ g. open_groups g.items) stays.0) stays.1
