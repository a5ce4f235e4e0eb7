use Rattle.std.proofs.Common.{◌≡◌, Vec, Global, ℕ, Option, subst, sym, rules}
use Rattle.std.specs.Prelude.{MatchOption}
use Rattle.xt_graph.specs.Graph as graph
use Rattle.xt_graph.specs.Graph.{HasCircle}
use Rattle.el_design.specs.View.{flat_of}
use Rattle.el_design.specs.Rules as rules_of
use Rattle.ck_nets.specs.inner.Reading.{graph_of}
use Rattle.ck_nets.proofs.Depends.{is_order}
use Rattle.ck_nets.proofs.Circular.{none_broken}
use Rattle.ck_nets.proofs.ordering.order_nets.Goals as goal

pub returns-in-Some-clause-answer : goal.returns-in-Some-clause-answer
returns-in-Some-clause-answer c =
    let d = flat_of c.args.design.now in
    let e : c.in_ok-graph.graph ≡ graph_of d = search rules in
    let made = subst (λ (o : Option (Vec ℕ Global)). MatchOption o (HasCircle c.in_ok-graph.graph) (λ nets. graph.IsOrder c.in_ok-graph.graph nets.items × (HasCircle c.in_ok-graph.graph → ⊥))) c.in-Some.is c.in_ok-nets.ensures in
    subst (rules_of.IsOrder d) (sym c.of.ensures) (is_order d c.requires c.in-Some.nets.items (subst (λ g. graph.IsOrder g c.in-Some.nets.items) e made.0))

pub returns-in-Some-clause-clean : goal.returns-in-Some-clause-clean
returns-in-Some-clause-clean c =
    let d = flat_of c.args.design.now in
    let e : c.in_ok-graph.graph ≡ graph_of d = search rules in
    let made = subst (λ (o : Option (Vec ℕ Global)). MatchOption o (HasCircle c.in_ok-graph.graph) (λ nets. graph.IsOrder c.in_ok-graph.graph nets.items × (HasCircle c.in_ok-graph.graph → ⊥))) c.in-Some.is c.in_ok-nets.ensures in
    none_broken d (λ h. made.1 (subst HasCircle (sym e) h))
