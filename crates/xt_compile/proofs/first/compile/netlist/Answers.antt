use Rattle.std.proofs.Common.{ℕ, List, get_or, ap, ◌∙◌}
use Rattle.xt_bits.specs.Word.{word}
use Rattle.el_design.specs.Plain.{Statement}
use Rattle.el_design.specs.View.{flat_of}
use Rattle.xt_compile.specs.first.Compiled.{HasPins, Ticks}
use Rattle.xt_compile.specs.first.Machine.{HasBody, statements_of}
use Rattle.xt_compile.specs.first.Nodes.{state_width}
use Rattle.xt_compile.proofs.first_form.Growing.{width_grows, map_grows, extends_trans, means_still}
use Rattle.xt_compile.proofs.first_form.Sums.{if_ok}
use Rattle.xt_compile.proofs.first_form.Ticking.{ticking, reads_grow}
use Rattle.xt_compile.proofs.first.compile.netlist.Goals as goal

pub step-requires-clause-map : goal.step-requires-clause-map
step-requires-clause-map c = map_grows _ _ _ _ c.in_ok-edge.ensures.extends (map_grows _ _ _ _ c.in_ok-state.ensures.extends c.in_ok-map.ensures.map)

pub step-requires-clause-state : goal.step-requires-clause-state
step-requires-clause-state c = width_grows _ _ _ _ c.in_ok-edge.ensures.extends.grows c.in_ok-state.ensures.width

pub finish-requires-clause-map : goal.finish-requires-clause-map
finish-requires-clause-map c =
    map_grows _ _ _ _ c.in_ok-nexts.ensures.extends (map_grows _ _ _ _ c.in_ok-edge.ensures.extends (map_grows _ _ _ _ c.in_ok-state.ensures.extends c.in_ok-map.ensures.map))

pub finish-requires-clause-edge : goal.finish-requires-clause-edge
finish-requires-clause-edge c = width_grows _ _ _ _ c.in_ok-nexts.ensures.extends.grows c.in_ok-edge.ensures.width

pub returns-clause-ticks : goal.returns-clause-ticks
returns-clause-ticks c =
    let state_edge = c.in_ok-edge.ensures.extends in
    let after_map = extends_trans c.args.design.now _ _ _ c.in_ok-state.ensures.extends state_edge in
    let state = means_still _ _ _ _ c.in_ok-state.state state_width _ c.in_ok-state.ensures state_edge in
    if_ok _ (λ n. HasPins c.args.design.now n × (body : List Statement) × HasBody (flat_of c.args.design.now) body × Ticks c.args.design.now n body) _ (λ n built. (
      built.outside,
      statements_of c.body.result.now,
      c.body.ensures.body,
      ticking c.args.design.now c.requires n c.in_ok-map.map c.in_ok-edge.edge c.in_ok-state.state c.always_up.new.builder c.step.new.builder c.in_ok-nexts.nexts.items (statements_of c.body.result.now) built
          (map_grows _ _ _ c.in_ok-map.map after_map c.in_ok-map.ensures.map) (reads_grow _ _ _ c.in_ok-map.map after_map c.in_ok-map.ensures.map c.in_ok-map.ensures.reads)
          c.in_ok-edge.ensures.width c.in_ok-edge.ensures.value
          state.width (λ s. state.value s ∙ ap (λ (k : ℕ). get_or s.state.registers k (word state_width 0)) c.len.ensures)
          c.in_ok-nexts.ensures,
    )) c.finish.ensures.built
