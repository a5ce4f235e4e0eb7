-- The first token of a part. Parentheses make no node, so that of `(a) + b` is a parenthesis and that of `(a)` is the token of a.
-- All of it is this project's own.
use Rattle.std.specs.Prelude.{ℕ}
use Rattle.vl_tree.specs.declared.exprs.Expr.{Expr, out-Expr}
use Rattle.vl_tree.specs.declared.exprs.Expr.TheOpen as expr
use Rattle.vl_tree.specs.declared.exprs.Select.{Select, out-Select}
use Rattle.vl_tree.specs.declared.exprs.Lvalue.{Lvalue, out-Lvalue}
use Rattle.vl_tree.specs.declared.exprs.Lvalue.TheOpen as lvalue
use Rattle.vl_tree.specs.declared.statements.Stmt.{Stmt, out-Stmt}
use Rattle.vl_tree.specs.declared.statements.Citem.TheOpen as stmt
use Rattle.vl_tree.specs.declared.modules.Item.{Item}
use Rattle.vl_tree.specs.declared.modules.Item.TheVariants as item

abbrev pub first_of_expr : {E S : Type 0} → expr.Expr-F E S → ℕ
first_of_expr (expr.Choice at test first second) = at
first_of_expr (expr.Binary at op left right) = at
first_of_expr (expr.Unary at op operand) = at
first_of_expr (expr.Based at size number) = at
first_of_expr (expr.Decimal at number) = at
first_of_expr (expr.Name at name selects) = at
first_of_expr (expr.Call at name args) = at
first_of_expr (expr.Sign at sign value) = at
first_of_expr (expr.Concat at parts) = at
first_of_expr (expr.Replicate at count parts) = at

-- of an expression
abbrev pub expr_at : Expr → ℕ
expr_at e = first_of_expr (out-Expr e)

abbrev pub first_of_select : {E S : Type 0} → expr.Select-F E S → ℕ
first_of_select (expr.Index at index) = at
first_of_select (expr.Part at msb lsb) = at
first_of_select (expr.Up at base width) = at
first_of_select (expr.Down at base width) = at

-- of a select
abbrev pub select_at : Select → ℕ
select_at s = first_of_select (out-Select s)

abbrev pub first_of_lvalue : {L : Type 0} → lvalue.Lvalue-F L → ℕ
first_of_lvalue (lvalue.Name at name selects) = at
first_of_lvalue (lvalue.Concat at parts) = at

-- of the left side of an assignment
abbrev pub lvalue_at : Lvalue → ℕ
lvalue_at t = first_of_lvalue (out-Lvalue t)

abbrev pub first_of_stmt : {C S : Type 0} → stmt.Stmt-F C S → ℕ
first_of_stmt (stmt.Null at) = at
first_of_stmt (stmt.Blocking at target value) = at
first_of_stmt (stmt.Nonblocking at target value) = at
first_of_stmt (stmt.If at test first second) = at
first_of_stmt (stmt.Case at on arms) = at
first_of_stmt (stmt.For at name first test again next body) = at
first_of_stmt (stmt.While at test body) = at
first_of_stmt (stmt.Repeat at count body) = at
first_of_stmt (stmt.Forever at body) = at
first_of_stmt (stmt.Block at scope body) = at
first_of_stmt (stmt.Wait at edge clock body) = at
first_of_stmt (stmt.Enable at name args) = at
first_of_stmt (stmt.Disable at names) = at

-- of a statement
abbrev pub stmt_at : Stmt → ℕ
stmt_at s = first_of_stmt (out-Stmt s)

-- of an item of a module
abbrev pub item_at : Item → ℕ
item_at (item.Params at word ptype values) = at
item_at (item.Wires at signed range names) = at
item_at (item.Regs at signed range names) = at
item_at (item.Integers at names) = at
item_at (item.Assigns at values) = at
item_at (item.Always at body) = at
item_at (item.Initial at body) = at
item_at (item.Task at task) = at
item_at (item.Function at function) = at
item_at (item.Import at import_) = at
item_at (item.Instances at name params instances) = at
