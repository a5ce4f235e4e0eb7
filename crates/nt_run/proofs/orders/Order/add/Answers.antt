-- A step that can be made is added at the end, and its node marked.
use Rattle.std.proofs.Common.{◌++◌, ◌∷◌, [], arith, subst, sym, true}
use Rattle.std.specs.Prelude.{slice_set}
use Rattle.nt_run.specs.Order.{IsStep, IsTried}
use Rattle.nt_run.proofs.Marks.{place_within, tried_more}
use Rattle.nt_run.proofs.orders.Order.add.Goals as goal

pub index_mut-requires : goal.index_mut-requires
index_mut-requires c =
    let nodes = c.args.nodes.now in
    let order = c.args.self.now in
    let step = c.in-Some.step in
    let is : IsStep nodes order.marks.items step = subst (λ ms. IsStep nodes ms step) c.deref.ensures.value c.in-Some.ensures.step in
    omega (arith, place_within nodes order.steps.items order.marks.items c.requires step is, c.in-Some.ensures.place, order.marks.ok)

pub returns-in_ok-push : goal.returns-in_ok-push
returns-in_ok-push c =
    let nodes = c.args.nodes.now in
    let order = c.args.self.now in
    let step = c.in-Some.step in
    let is : IsStep nodes order.marks.items step = subst (λ ms. IsStep nodes ms step) c.deref.ensures.value c.in-Some.ensures.step in
    subst (λ steps. IsTried nodes order.marks.items c.args.place steps (slice_set order.marks.items c.args.place true)) (sym c.in_ok-push.ensures.items)
    (subst (λ i. IsTried nodes order.marks.items i (order.steps.items ++ step ∷ []) (slice_set order.marks.items i true)) c.in-Some.ensures.place
    (tried_more nodes order.steps.items order.marks.items c.requires step is))
