use Rattle.std.proofs.Common.{◌∙◌, ◌≡◌, ◌==◌, nat_eq, false, is_some, ap, rules}
use Rattle.std.specs.Map.{lookup}
use Rattle.indexmap.specs.IndexMap.{get}
use Rattle.el_scope.proofs.Maps.{added, looked_up}
use Rattle.el_scope.proofs.driving.note.Goals as goal

pub returns : goal.returns
returns c = λ at.
    let none : is_some (get nat_eq c.args.known.now c.args.found.net) ≡ false = search rules in
    ap (lookup (λ k. at == k)) (added _ c.args.known.now _ _ _ none c.in_ok-insert.ensures.entries) ∙ looked_up (λ k. at == k) c.args.known.now.entries c.args.found.net c.args.found
