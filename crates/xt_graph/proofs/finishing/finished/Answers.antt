use Rattle.std.proofs.Common.{◌≡◌, length, reverse, subst, sym, rules}
use Rattle.xt_graph.specs.inner.Finishing.{Walking, begun}
use Rattle.xt_graph.proofs.DepthFirst.{IsUnderWay, begins, step, ended}
use Rattle.xt_graph.proofs.finishing.finished.Goals as goal

pub loop-visit-init : goal.loop-visit-init
loop-visit-init c =
    let g = c.args.graph.now in
    let e : c.in_ok-walk.walk ≡ begun (length g) = search rules in
    subst (λ (w : Walking). IsUnderWay g w.marks (reverse w.todo) w.finished) (sym e) (begins g)

pub loop-visit-preserved : goal.loop-visit-preserved
loop-visit-preserved c =
    (step c.args.graph.now c.loop-visit.walk c.walk.inside.marks.items c.walk.inside.todo.items c.pop.new.self.items c.walk.inside.finished.items c.in-Some.visit c.visit.new.self
    c.walk.view_is c.loop-visit.invariant (search rules) (search rules)).0

pub loop-visit-smaller : goal.loop-visit-smaller
loop-visit-smaller c =
    (step c.args.graph.now c.loop-visit.walk c.walk.inside.marks.items c.walk.inside.todo.items c.pop.new.self.items c.walk.inside.finished.items c.in-Some.visit c.visit.new.self
    c.walk.view_is c.loop-visit.invariant (search rules) (search rules)).1

pub returns : goal.returns
returns c =
    let g = c.args.graph.now in
    ended g c.loop-visit.walk c.walk.inside.marks.items c.walk.inside.todo.items c.walk.inside.finished.items c.walk.view_is c.loop-visit.invariant (search rules)
