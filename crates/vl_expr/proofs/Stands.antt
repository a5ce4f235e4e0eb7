-- What stands somewhere at each depth from its own on.
use Rattle.std.proofs.Common.{◌≤◌, ℕ, zero, suc, ◌+◌, max, List, [], ◌∷◌, ◌++◌, arith}
use Rattle.vl_tree.specs.declared.terminals.Terminal.{Terminal}
use Rattle.vl_tree.specs.declared.terminals.Terminal.TheVariants as lex
use Rattle.vl_tree.specs.declared.exprs.Expr.{Expr}
use Rattle.vl_tree.specs.declared.exprs.Select.{Select}
use Rattle.vl_tree.specs.Places.{At}
use Rattle.vl_tree.specs.Expressions.{IsLevel, IsExprs, IsArgs, IsSelects, IsSelect}
use Rattle.vl_expr.specs.declared.found.Found.{Found}
use Rattle.vl_expr.specs.Reading.{node, added, single}

pub record Stands (ls : List Terminal) (l i : ℕ) (p : Found Expr) : Type 0 where
  pub at_least : (m : ℕ) → p.depth ≤ m → IsLevel ls m l i p.end p.tree

pub record SelectStands (ls : List Terminal) (i : ℕ) (s : Found Select) : Type 0 where
  pub at_least : (m : ℕ) → s.depth ≤ m → IsSelect ls m i s.end s.tree

pub record ExprsStand (ls : List Terminal) (i : ℕ) (all : Found (List Expr)) : Type 0 where
  pub at_least : (m : ℕ) → all.depth ≤ m → IsExprs ls m i all.end all.tree

pub record ArgsStand (ls : List Terminal) (i : ℕ) (all : Found (List Expr)) : Type 0 where
  pub at_least : (m : ℕ) → all.depth ≤ m → IsArgs ls m i all.end all.tree

pub record SelectsStand (ls : List Terminal) (i : ℕ) (all : Found (List Select)) : Type 0 where
  pub at_least : (m : ℕ) → all.depth ≤ m → IsSelects ls m i all.end all.tree

-- the larger of two depths
pub max_left : (a b m : ℕ) → max a b ≤ m → a ≤ m
max_left a b m h = omega arith

pub max_right : (a b m : ℕ) → max a b ≤ m → b ≤ m
max_right a b m h = omega arith

pub raised : {ls : List Terminal} {l i : ℕ} {p : Found Expr} → Stands ls l i p → Stands ls (suc l) i p
raised s = record { at_least = λ m h. IsLevel.tighter (s.at_least m h) }

-- one more expression behind a list
pub snoc : {ls : List Terminal} {m i j k : ℕ} {es : List Expr} {e : Expr} →
    IsExprs ls m i j es → At ls j lex.Comma → IsLevel ls m 11 (j + 1) k e → IsExprs ls m i k (es ++ e ∷ [])
snoc (IsExprs.last_expr a) c b = IsExprs.more_exprs a c (IsExprs.last_expr b)
snoc (IsExprs.more_exprs a d more) c b = IsExprs.more_exprs a d (snoc more c b)

pub single_stands : {ls : List Terminal} {i : ℕ} {p : Found Expr} → Stands ls 11 i p → ExprsStand ls i (single p)
single_stands s = record { at_least = λ m h. IsExprs.last_expr (s.at_least m h) }

pub added_stands : {ls : List Terminal} {i : ℕ} {all : Found (List Expr)} {p : Found Expr} →
    ExprsStand ls i all → At ls all.end lex.Comma → Stands ls 11 (all.end + 1) p → ExprsStand ls i (added all p)
added_stands {all = all} {p = p} s c e = record {
  at_least = λ m h. snoc (s.at_least m (max_left all.depth p.depth m h)) c (e.at_least m (max_right all.depth p.depth m h));
}

-- a node, whose parts are within a depth wherever the node is within one more
pub node_stands : (ls : List Terminal) (l i j d : ℕ) (e : Expr) →
    ((m : ℕ) → d ≤ m → IsLevel ls (suc m) l i j e) → Stands ls l i (node e j d)
node_stands ls l i j d e made = record { at_least = at_least }
  where
    at_least : (m : ℕ) → suc d ≤ m → IsLevel ls m l i j e
    at_least zero h = absurd (omega arith)
    at_least (suc m) h = made m (omega arith)

pub select_stands : (ls : List Terminal) (i j d : ℕ) (s : Select) →
    ((m : ℕ) → d ≤ m → IsSelect ls (suc m) i j s) → SelectStands ls i (node s j d)
select_stands ls i j d s made = record { at_least = at_least }
  where
    at_least : (m : ℕ) → suc d ≤ m → IsSelect ls m i j s
    at_least zero h = absurd (omega arith)
    at_least (suc m) h = made m (omega arith)
