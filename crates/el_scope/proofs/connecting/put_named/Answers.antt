use Rattle.std.proofs.Common.{◌∙◌, ap, rules}
use Rattle.el_scope.specs.inner.Maps.{named}
use Rattle.el_scope.proofs.Connections.{named_done}
use Rattle.el_scope.proofs.connecting.put_named.Goals as goal

pub loop-one-preserved : goal.loop-one-preserved
loop-one-preserved c = named_done c.args.table.now c.args.scope c.args.slot c.args.owner c.args.all.now c.loop-one.one-index c.one-item.result _ _ _ _ _
    c.in_ok-known.ensures (c.first_of-first.ensures ∙ ap (named c.in_ok-known.known.entries c.args.owner) c.spelled.ensures) (search rules) (search rules) c.loop-one.invariant
    c.in_ok-put_one.ensures
