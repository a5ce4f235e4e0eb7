use Rattle.std.proofs.Common.{rules}
use Rattle.xt_graph.proofs.Compressed.{given_err, push_kept, push_made}
use Rattle.xt_graph.proofs.graph.Graph.push.Goals as goal

pub returns-in_err-push-clause-err : goal.returns-in_err-push-clause-err
returns-in_err-push-clause-err c = given_err c.from_residual-in_err-push.result (push_kept c.self.inside.targets.items c.args.targets.now c.extend_from_slice.new.self.items c.self.inside.rows.items c.args.self.now (search rules) (search rules) (search rules) c.push.new.self.items (search rules))

pub returns-clause-ok : goal.returns-clause-ok
returns-clause-ok c =
    push_made c.self.inside.targets.items c.args.targets.now c.extend_from_slice.new.self.items c.self.inside.rows.items c.args.self.now (search rules) (search rules) (search rules)
    c.push.new.self.items c.len-from.result c.len-to.result (search rules) (search rules) (search rules)
