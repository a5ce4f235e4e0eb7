use Rattle.std.proofs.Common.{List, [], if◌then◌else◌, sym, subst}
use Rattle.xt_bits.specs.Operators.{any_of}
use Rattle.el_design.specs.Plain.{Statement}
use Rattle.nt_core.specs.NodeValue.{node_value}
use Rattle.xt_compile.specs.first.Nodes.{Assigns}
use Rattle.xt_compile.proofs.first_form.Growing.{width_grows, map_grows}
use Rattle.xt_compile.proofs.first_form.Walks.{assigned_none, assigned_more, statements_more, statements_all}
use Rattle.xt_compile.proofs.first.compile.process.assign_all.Goals as goal

pub loop-statement-init : goal.loop-statement-init
loop-statement-init c = assigned_none c.args.design.now c.args.builder.now c.args.map.now c.args.nexts.now.items c.args.here c.requires.nexts

pub assign-requires-clause-map : goal.assign-requires-clause-map
assign-requires-clause-map c = map_grows _ _ _ _ c.loop-statement.invariant.extends c.requires.map

pub assign-requires-clause-here : goal.assign-requires-clause-here
assign-requires-clause-here c = width_grows _ _ _ _ c.loop-statement.invariant.extends.grows c.requires.here

pub loop-statement-preserved : goal.loop-statement-preserved
loop-statement-preserved c =
    subst (λ (ss : List Statement). Assigns c.args.design.now c.args.builder.now c.assign.new.builder c.args.map.now c.args.nexts.now.items c.assign.new.nexts.items (λ s. if any_of (node_value c.args.builder.now s c.args.here) then ss else []))
    (sym (statements_more c.args.statements.now c.loop-statement.statement-index c.statement-item.result c.loop-statement-test.true c.statement-item.is))
    (assigned_more c.args.design.now c.args.builder.now c.loop-statement.builder c.assign.new.builder c.args.map.now c.args.nexts.now.items c.loop-statement.nexts.items c.assign.new.nexts.items c.args.here _ _
    c.requires.map c.requires.here c.loop-statement.invariant c.in_ok-assign.ensures)

pub returns : goal.returns
returns c =
    subst (λ (ss : List Statement). Assigns c.args.design.now c.args.builder.now c.loop-statement.builder c.args.map.now c.args.nexts.now.items c.loop-statement.nexts.items (λ s. if any_of (node_value c.args.builder.now s c.args.here) then ss else []))
    (statements_all c.args.statements.now c.loop-statement.statement-index c.loop-statement-test.false) c.loop-statement.invariant
