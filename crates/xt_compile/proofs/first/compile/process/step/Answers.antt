use Rattle.std.proofs.Common.{◌≡◌, List, ℕ, refl, sym, subst, ◌∙◌}
use Rattle.std.proofs.lemmas.List.{take_rest}
use Rattle.nt_core.specs.Conditions.{Drive}
use Rattle.xt_compile.specs.first.Form.{var_widths}
use Rattle.xt_compile.specs.first.Machine.{statements_of}
use Rattle.xt_compile.specs.first.Nodes.{Steps}
use Rattle.xt_compile.proofs.first_form.Growing.{width_grows, drive_grows, map_grows}
use Rattle.xt_compile.proofs.first_form.Stepping.{stepped}
use Rattle.xt_compile.proofs.first.compile.process.step.Goals as goal

pub after_waits-requires-clause-map : goal.after_waits-requires-clause-map
after_waits-requires-clause-map c = map_grows _ _ _ _ c.in_ok-start.ensures.extends c.requires.map

pub after_waits-requires-clause-state : goal.after_waits-requires-clause-state
after_waits-requires-clause-state c = width_grows _ _ _ _ c.in_ok-start.ensures.extends.grows c.requires.state

pub after_waits-requires-clause-nexts : goal.after_waits-requires-clause-nexts
after_waits-requires-clause-nexts c =
    subst (λ (is : List ℕ). Drive c.is_at.new.builder is (var_widths c.args.design.now)) (sym (c.in_ok-nexts.ensures.items ∙ c.as_slice.ensures.value))
    (drive_grows _ _ _ _ c.in_ok-start.ensures.extends.grows c.requires.map.vars)

pub next_point-requires-clause-state : goal.next_point-requires-clause-state
next_point-requires-clause-state c = width_grows _ _ _ _ c.in_ok-last.ensures.last.extends.grows (width_grows _ _ _ _ c.in_ok-start.ensures.extends.grows c.requires.state)

pub either-requires-clause-left : goal.either-requires-clause-left
either-requires-clause-left c = width_grows _ _ _ _ c.in_ok-next_state.ensures.extends.grows c.in_ok-last.ensures.last.width

pub either-requires-clause-right : goal.either-requires-clause-right
either-requires-clause-right c =
    width_grows _ _ _ _ c.in_ok-next_state.ensures.extends.grows (width_grows _ _ _ _ c.in_ok-last.ensures.last.extends.grows c.in_ok-start.ensures.width)

pub assign_all-requires-clause-map : goal.assign_all-requires-clause-map
assign_all-requires-clause-map c =
    map_grows _ _ _ _ c.in_ok-here.ensures.extends (map_grows _ _ _ _ c.in_ok-next_state.ensures.extends (map_grows _ _ _ _ c.in_ok-last.ensures.last.extends (map_grows _ _ _ _ c.in_ok-start.ensures.extends c.requires.map)))

pub assign_all-requires-clause-nexts : goal.assign_all-requires-clause-nexts
assign_all-requires-clause-nexts c = drive_grows _ _ _ _ c.in_ok-here.ensures.extends.grows (drive_grows _ _ _ _ c.in_ok-next_state.ensures.extends.grows c.in_ok-last.ensures.nexts.widths)

pub returns : goal.returns
returns c =
    let is : c.in_ok-nexts.nexts.items ≡ c.args.map.now.vars.items = c.in_ok-nexts.ensures.items ∙ c.as_slice.ensures.value in
    subst (λ (js : List ℕ). Steps c.args.design.now c.args.builder.now c.assign_all.new.builder c.args.map.now c.args.state (statements_of c.args.body.now) js) (sym c.in_ok-push.ensures.items)
    (stepped c.args.design.now c.args.builder.now c.is_at.new.builder c.after_waits.new.builder c.next_point.new.builder c.either.new.builder c.assign_all.new.builder c.args.map.now c.args.state
    c.in_ok-start.start c.in_ok-last.last c.in_ok-next_state.next_state c.in_ok-here.here c.first_wait-first.result c.args.body.now _ _ c.after_waits.new.nexts.items c.assign_all.new.nexts.items
    c.requires.map c.requires.state c.first_wait-first.ensures.place (take_rest c.args.body.now c.first_wait-first.result) refl c.in_ok-last.ensures.points
    (record {
      starts = c.in_ok-start.ensures;
      lasts = c.in_ok-last.ensures.last;
      behind = rw is at c.in_ok-last.ensures.nexts;
      nexts = c.in_ok-next_state.ensures;
      heres = c.in_ok-here.ensures;
      before = c.in_ok-assign_all.ensures;
    }))
