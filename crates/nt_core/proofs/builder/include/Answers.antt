-- The set finds an equal node, and equal nodes are one.
use Rattle.std.proofs.Common.{Some, not, sym, ap, ◌∙◌}
use Rattle.std.proofs.lemmas.Bool.{false≢true}
use Rattle.nt_core.proofs.Equal.{same_node, known}
use Rattle.nt_core.proofs.builder.include.Goals as goal

pub returns-in-Ok-clause-there : goal.returns-in-Ok-clause-there
returns-in-Ok-clause-there c =
    let stored = c.in-Ok.ensures.stored in
    stored.1 ∙ ap (λ m. Some m) (sym (same_node _ _ stored.2))

pub returns-in-Ok-clause-new : goal.returns-in-Ok-clause-new
returns-in-Ok-clause-new c = λ new has. false≢true (sym (c.in-Ok.ensures.added ∙ ap not (known _ _ has)) ∙ new)
