use Rattle.std.proofs.Common.{◌≡◌, [], rules, subst}
use Rattle.std.specs.Prelude.{MatchResult}
use Rattle.el_scope.specs.Passes.{name_breaks}
use Rattle.el_scope.specs.Refusals.{Refuses}
use Rattle.el_scope.proofs.scopes.Scopes.check.Goals as goal

pub returns : goal.returns
returns c =
    let same : c.self.inside.table ≡ c.args.self.now = search rules in
    record { exact = subst (λ t. MatchResult c.check_names.result (λ _. name_breaks t c.args.tree.now ≡ []) (Refuses t (name_breaks t c.args.tree.now))) same c.check_names.ensures }
