use Rattle.std.proofs.Common.{◌∙◌, ◌==◌, ◌&&◌, bytes_eq, ap, rules}
use Rattle.std.specs.Map.{lookup}
use Rattle.el_scope.proofs.Maps.{added, looked_up}
use Rattle.el_scope.proofs.connecting.note_first.Goals as goal

pub returns : goal.returns
returns c = λ scope word.
    ap (lookup (λ k. scope == k.scope && bytes_eq word k.name.now)) (added _ c.args.known.now c.args.key c.args.found _ (search rules) c.in_ok-insert.ensures.entries) ∙ looked_up (λ k. scope == k.scope && bytes_eq word k.name.now) c.args.known.now.entries c.args.key c.args.found
