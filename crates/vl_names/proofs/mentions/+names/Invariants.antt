-- what is there with what is left is what was there with all
use Rattle.std.proofs.Common.{◌≡◌, ◌++◌, map, drop}
use Rattle.vl_names.specs.Mentions.{all, expr_names, select_names}
use Rattle.vl_names.proofs.mentions.+names.Given as goal

abbrev pub invariant-put_exprs-loop-expr : goal.invariant-put_exprs-loop-expr
invariant-put_exprs-loop-expr l = l.fn.into.items ++ all (map expr_names l.exprs) l.stand ≡ l.into.items ++ all (map expr_names (drop l.expr-index l.exprs)) l.stand

abbrev pub invariant-put_selects-loop-select : goal.invariant-put_selects-loop-select
invariant-put_selects-loop-select l = l.fn.into.items ++ all (map (λ s. s.names) (map select_names l.selects)) l.stand ≡ l.into.items ++ all (map (λ s. s.names) (map select_names (drop l.select-index l.selects))) l.stand
