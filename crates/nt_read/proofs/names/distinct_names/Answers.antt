use Rattle.std.proofs.Common.{◌∙◌, ◌++◌, ap, map}
use Rattle.nt_read.specs.Names.{names_of}
use Rattle.nt_read.proofs.Distinct.{first_twice, second_twice, both_new, no_keys}
use Rattle.nt_read.proofs.names.distinct_names.Goals as goal

pub returns-then-not-branch-clause-names : goal.returns-then-not-branch-clause-names
returns-then-not-branch-clause-names c = first_twice c.args.inputs.now c.args.outputs.now _ c.in_ok-add_names.field-0 (ap (map (λ k. k.now)) (no_keys c.new-names.result.keys c.new-names.ensures.len)) c.in_ok-add_names.ensures.fresh c.if-not-branch.true

pub returns-then-not-branch-2-clause-names : goal.returns-then-not-branch-2-clause-names
returns-then-not-branch-2-clause-names c = second_twice c.args.inputs.now c.args.outputs.now _ c.in_ok-add_names-2.field-0 (c.in_ok-add_names.ensures.names c.if-not-branch.false ∙ ap (λ ks. map (λ k. k.now) ks ++ names_of c.args.inputs.now) (no_keys c.new-names.result.keys c.new-names.ensures.len)) c.in_ok-add_names-2.ensures.fresh c.if-not-branch-2.true

pub returns-clause-distinct : goal.returns-clause-distinct
returns-clause-distinct c = both_new c.args.inputs.now c.args.outputs.now _ _ c.in_ok-add_names.field-0 c.in_ok-add_names-2.field-0
    (ap (map (λ k. k.now)) (no_keys c.new-names.result.keys c.new-names.ensures.len)) c.in_ok-add_names.ensures.fresh c.if-not-branch.false
    (c.in_ok-add_names.ensures.names c.if-not-branch.false ∙ ap (λ ks. map (λ k. k.now) ks ++ names_of c.args.inputs.now) (no_keys c.new-names.result.keys c.new-names.ensures.len))
    c.in_ok-add_names-2.ensures.fresh c.if-not-branch-2.false
