-- What each variant of the code's types stands for, as an equation.
use Rattle.std.proofs.Common.{◌≡◌, ℕ, Bool, List, map, Option, option_map, ap, sym, ◌∙◌}
use Rattle.xt_base.specs.declared.refusals.Place.{Place}
use Rattle.xt_bits.specs.Word.{Word}
use Rattle.el_design.specs.Plain as plain
use Rattle.el_design.specs.Plain.{Shape, Expr, Range, Lvalue, Statement}
use Rattle.el_design.specs.View.{kind_step, pick_step, expr_step, expr_of, kind_of, range_of, exprs_of, target_step, parts_of, lvalue_of, stmt_step, arm_step, seq_of, arms_of, arm_of, statement_of, PlainArm}
use Rattle.el_design.specs.declared.expressions.UnOp.{UnOp}
use Rattle.el_design.specs.declared.expressions.BinOp.{BinOp}
use Rattle.el_design.specs.declared.expressions.TExpr.{TExpr}
use Rattle.el_design.specs.declared.expressions.Kind as kind
use Rattle.el_design.specs.declared.expressions.Kind.{Kind}
use Rattle.el_design.specs.declared.expressions.Kind.TheVariants as kinds
use Rattle.el_design.specs.declared.expressions.Kind.TheOpen.{Kind-F, Pick-F}
use Rattle.el_design.specs.declared.expressions.Kind.TheFolds.{fold-roll-Kind, fold-roll-Pick, fold-roll-TExpr}
use Rattle.el_design.specs.declared.expressions.Pick as pick
use Rattle.el_design.specs.declared.expressions.Pick.{Pick}
use Rattle.el_design.specs.declared.expressions.Pick.TheVariants as picks
use Rattle.el_design.specs.declared.expressions.Target as target
use Rattle.el_design.specs.declared.expressions.Target.{Target}
use Rattle.el_design.specs.declared.expressions.Target.TheVariants as targets
use Rattle.el_design.specs.declared.expressions.Target.TheOpen.{Target-F}
use Rattle.el_design.specs.declared.expressions.Target.TheFolds.{fold-roll-Target}
use Rattle.el_design.specs.declared.statements.Arm.{Arm}
use Rattle.el_design.specs.declared.statements.Stmt as stmt
use Rattle.el_design.specs.declared.statements.Stmt.{Stmt}
use Rattle.el_design.specs.declared.statements.Stmt.TheVariants as stmts
use Rattle.el_design.specs.declared.statements.Stmt.TheOpen.{Stmt-F}
use Rattle.el_design.specs.declared.statements.Stmt.TheFolds.{fold-roll-Stmt, fold-roll-Arm}

-- ---- expressions

pub expr_is : (e : TExpr) → expr_of e ≡ kind_of e.kind (record { width = e.width; signed = e.signed })
expr_is e = fold-roll-TExpr (Shape → Expr) Range Expr kind_step pick_step expr_step (record { width = e.width; signed = e.signed; kind = e.kind })

pub num_is : (b : Word) (s : Shape) → kind_of (kind.Num b) s ≡ plain.Number s b
num_is b s = ap (λ k. kind_of k s) (sym (kinds.rolls-Num b)) ∙ ap (λ f. f s) (fold-roll-Kind (Shape → Expr) Range Expr kind_step pick_step expr_step (Kind-F.Num b))

pub net_is : (n : ℕ) (s : Shape) → kind_of (kind.Net n) s ≡ plain.NetValue s n
net_is n s = ap (λ k. kind_of k s) (sym (kinds.rolls-Net n)) ∙ ap (λ f. f s) (fold-roll-Kind (Shape → Expr) Range Expr kind_step pick_step expr_step (Kind-F.Net n))

pub var_is : (v : ℕ) (s : Shape) → kind_of (kind.Var v) s ≡ plain.Variable s v
var_is v s = ap (λ k. kind_of k s) (sym (kinds.rolls-Var v)) ∙ ap (λ f. f s) (fold-roll-Kind (Shape → Expr) Range Expr kind_step pick_step expr_step (Kind-F.Var v))

pub word_is : (v : ℕ) (i : TExpr) (s : Shape) → kind_of (kind.Word v i) s ≡ plain.MemoryWord s v (expr_of i)
word_is v i s = ap (λ k. kind_of k s) (sym (kinds.rolls-Word v i)) ∙ ap (λ f. f s) (fold-roll-Kind (Shape → Expr) Range Expr kind_step pick_step expr_step (Kind-F.Word v i))

pub select_is : (e : TExpr) (p : Pick) (lsb : ℕ) (s : Shape) → kind_of (kind.Select e p lsb) s ≡ plain.Select s (expr_of e) (range_of p) lsb
select_is e p lsb s = ap (λ k. kind_of k s) (sym (kinds.rolls-Select e p lsb)) ∙ ap (λ f. f s) (fold-roll-Kind (Shape → Expr) Range Expr kind_step pick_step expr_step (Kind-F.Select e p lsb))

pub unary_is : (op : UnOp) (e : TExpr) (s : Shape) → kind_of (kind.Unary op e) s ≡ plain.Unary s op (expr_of e)
unary_is op e s = ap (λ k. kind_of k s) (sym (kinds.rolls-Unary op e)) ∙ ap (λ f. f s) (fold-roll-Kind (Shape → Expr) Range Expr kind_step pick_step expr_step (Kind-F.Unary op e))

pub binary_is : (op : BinOp) (a b : TExpr) (s : Shape) → kind_of (kind.Binary op a b) s ≡ plain.Binary s op (expr_of a) (expr_of b)
binary_is op a b s = ap (λ k. kind_of k s) (sym (kinds.rolls-Binary op a b)) ∙ ap (λ f. f s) (fold-roll-Kind (Shape → Expr) Range Expr kind_step pick_step expr_step (Kind-F.Binary op a b))

pub choice_is : (c a b : TExpr) (s : Shape) → kind_of (kind.Choice c a b) s ≡ plain.Choice s (expr_of c) (expr_of a) (expr_of b)
choice_is c a b s = ap (λ k. kind_of k s) (sym (kinds.rolls-Choice c a b)) ∙ ap (λ f. f s) (fold-roll-Kind (Shape → Expr) Range Expr kind_step pick_step expr_step (Kind-F.Choice c a b))

pub concat_is : (es : List TExpr) (s : Shape) → kind_of (kind.Concat es) s ≡ plain.Concat s (exprs_of (map expr_of es))
concat_is es s = ap (λ k. kind_of k s) (sym (kinds.rolls-Concat es)) ∙ ap (λ f. f s) (fold-roll-Kind (Shape → Expr) Range Expr kind_step pick_step expr_step (Kind-F.Concat es))

pub repeat_is : (n : ℕ) (e : TExpr) (s : Shape) → kind_of (kind.Repeat n e) s ≡ plain.Copies s n (expr_of e)
repeat_is n e s = ap (λ k. kind_of k s) (sym (kinds.rolls-Repeat n e)) ∙ ap (λ f. f s) (fold-roll-Kind (Shape → Expr) Range Expr kind_step pick_step expr_step (Kind-F.Repeat n e))

pub sign_is : (e : TExpr) (s : Shape) → kind_of (kind.Sign e) s ≡ plain.Sign s (expr_of e)
sign_is e s = ap (λ k. kind_of k s) (sym (kinds.rolls-Sign e)) ∙ ap (λ f. f s) (fold-roll-Kind (Shape → Expr) Range Expr kind_step pick_step expr_step (Kind-F.Sign e))

pub resize_is : (e : TExpr) (s : Shape) → kind_of (kind.Resize e) s ≡ plain.Resize s (expr_of e)
resize_is e s = ap (λ k. kind_of k s) (sym (kinds.rolls-Resize e)) ∙ ap (λ f. f s) (fold-roll-Kind (Shape → Expr) Range Expr kind_step pick_step expr_step (Kind-F.Resize e))

pub call_is : (f : ℕ) (es : List TExpr) (s : Shape) → kind_of (kind.Call f es) s ≡ plain.Call s f (exprs_of (map expr_of es))
call_is f es s = ap (λ k. kind_of k s) (sym (kinds.rolls-Call f es)) ∙ ap (λ f. f s) (fold-roll-Kind (Shape → Expr) Range Expr kind_step pick_step expr_step (Kind-F.Call f es))

pub pick_bit_is : (e : TExpr) → range_of (pick.Bit e) ≡ plain.Bit (expr_of e)
pick_bit_is e = ap range_of (sym (picks.rolls-Bit e)) ∙ fold-roll-Pick (Shape → Expr) Range Expr kind_step pick_step expr_step (Pick-F.Bit e)

pub pick_part_is : (high low : ℕ) → range_of (pick.Part high low) ≡ plain.Part high low
pick_part_is high low = ap range_of (sym (picks.rolls-Part high low)) ∙ fold-roll-Pick (Shape → Expr) Range Expr kind_step pick_step expr_step (Pick-F.Part high low)

pub pick_up_is : (e : TExpr) (w : ℕ) → range_of (pick.Up e w) ≡ plain.Up (expr_of e) w
pick_up_is e w = ap range_of (sym (picks.rolls-Up e w)) ∙ fold-roll-Pick (Shape → Expr) Range Expr kind_step pick_step expr_step (Pick-F.Up e w)

pub pick_down_is : (e : TExpr) (w : ℕ) → range_of (pick.Down e w) ≡ plain.Down (expr_of e) w
pick_down_is e w = ap range_of (sym (picks.rolls-Down e w)) ∙ fold-roll-Pick (Shape → Expr) Range Expr kind_step pick_step expr_step (Pick-F.Down e w)

-- ---- targets

pub target_var_is : (v : ℕ) → lvalue_of (target.Var v) ≡ plain.ToVariable v
target_var_is v = ap lvalue_of (sym (targets.rolls-Var v)) ∙ fold-roll-Target Lvalue target_step (Target-F.Var v)

pub target_part_is : (v : ℕ) (p : Pick) → lvalue_of (target.Part v p) ≡ plain.ToPart v (range_of p)
target_part_is v p = ap lvalue_of (sym (targets.rolls-Part v p)) ∙ fold-roll-Target Lvalue target_step (Target-F.Part v p)

pub target_word_is : (v : ℕ) (i : TExpr) → lvalue_of (target.Word v i) ≡ plain.ToWord v (expr_of i)
target_word_is v i = ap lvalue_of (sym (targets.rolls-Word v i)) ∙ fold-roll-Target Lvalue target_step (Target-F.Word v i)

pub target_word_part_is : (v : ℕ) (i : TExpr) (p : Pick) → lvalue_of (target.WordPart v i p) ≡ plain.ToWordPart v (expr_of i) (range_of p)
target_word_part_is v i p = ap lvalue_of (sym (targets.rolls-WordPart v i p)) ∙ fold-roll-Target Lvalue target_step (Target-F.WordPart v i p)

pub target_concat_is : (ts : List Target) → lvalue_of (target.Concat ts) ≡ parts_of (map lvalue_of ts)
target_concat_is ts = ap lvalue_of (sym (targets.rolls-Concat ts)) ∙ fold-roll-Target Lvalue target_step (Target-F.Concat ts)

-- ---- statements

pub arm_is : (a : Arm) → arm_of a ≡ record { labels = map expr_of a.labels; body = statement_of a.body }
arm_is a = fold-roll-Arm Statement PlainArm stmt_step arm_step (record { labels = a.labels; body = a.body })

pub null_statement : statement_of stmt.Null ≡ plain.Null
null_statement = ap statement_of (sym stmts.rolls-Null) ∙ fold-roll-Stmt Statement PlainArm stmt_step arm_step Stmt-F.Null

pub block_statement : (at : Place) (mark : Option ℕ) (body : List Stmt) → statement_of (stmt.Block at mark body) ≡ plain.Block at mark (seq_of (map statement_of body))
block_statement at mark body = ap statement_of (sym (stmts.rolls-Block at mark body)) ∙ fold-roll-Stmt Statement PlainArm stmt_step arm_step (Stmt-F.Block at mark body)

pub assign_statement : (at : Place) (to : Target) (value : TExpr) (held : Bool) → statement_of (stmt.Assign at to value held) ≡ plain.Assign at (lvalue_of to) (expr_of value) held
assign_statement at to value held = ap statement_of (sym (stmts.rolls-Assign at to value held)) ∙ fold-roll-Stmt Statement PlainArm stmt_step arm_step (Stmt-F.Assign at to value held)

pub if_statement : (at : Place) (test : TExpr) (a b : Stmt) → statement_of (stmt.If at test a b) ≡ plain.If at (expr_of test) (statement_of a) (statement_of b)
if_statement at test a b = ap statement_of (sym (stmts.rolls-If at test a b)) ∙ fold-roll-Stmt Statement PlainArm stmt_step arm_step (Stmt-F.If at test a b)

pub case_statement : (at : Place) (on : TExpr) (arms : List Arm) (other : Stmt) → statement_of (stmt.Case at on arms other) ≡ plain.Case at (expr_of on) (arms_of (expr_of on) (map arm_of arms) (statement_of other))
case_statement at on arms other = ap statement_of (sym (stmts.rolls-Case at on arms other)) ∙ fold-roll-Stmt Statement PlainArm stmt_step arm_step (Stmt-F.Case at on arms other)

pub for_statement : (at : Place) (v : ℕ) (first test next : TExpr) (body : Stmt) → statement_of (stmt.For at v first test next body) ≡ plain.For at v (expr_of first) (expr_of test) (expr_of next) (statement_of body)
for_statement at v first test next body = ap statement_of (sym (stmts.rolls-For at v first test next body)) ∙ fold-roll-Stmt Statement PlainArm stmt_step arm_step (Stmt-F.For at v first test next body)

pub while_statement : (at : Place) (test : TExpr) (body : Stmt) → statement_of (stmt.While at test body) ≡ plain.While at (expr_of test) (statement_of body)
while_statement at test body = ap statement_of (sym (stmts.rolls-While at test body)) ∙ fold-roll-Stmt Statement PlainArm stmt_step arm_step (Stmt-F.While at test body)

pub repeat_statement : (at : Place) (count : TExpr) (body : Stmt) → statement_of (stmt.Repeat at count body) ≡ plain.Repeat at (expr_of count) (statement_of body)
repeat_statement at count body = ap statement_of (sym (stmts.rolls-Repeat at count body)) ∙ fold-roll-Stmt Statement PlainArm stmt_step arm_step (Stmt-F.Repeat at count body)

pub forever_statement : (at : Place) (body : Stmt) → statement_of (stmt.Forever at body) ≡ plain.Forever at (statement_of body)
forever_statement at body = ap statement_of (sym (stmts.rolls-Forever at body)) ∙ fold-roll-Stmt Statement PlainArm stmt_step arm_step (Stmt-F.Forever at body)

pub wait_statement : (at : Place) (falling : Bool) → statement_of (stmt.Wait at falling) ≡ plain.Wait at falling
wait_statement at falling = ap statement_of (sym (stmts.rolls-Wait at falling)) ∙ fold-roll-Stmt Statement PlainArm stmt_step arm_step (Stmt-F.Wait at falling)

pub enable_statement : (at : Place) (t : ℕ) (ins : List TExpr) (outs : List Target) → statement_of (stmt.Enable at t ins outs) ≡ plain.Enable at t (map expr_of ins) (map lvalue_of outs)
enable_statement at t ins outs = ap statement_of (sym (stmts.rolls-Enable at t ins outs)) ∙ fold-roll-Stmt Statement PlainArm stmt_step arm_step (Stmt-F.Enable at t ins outs)

pub disable_statement : (at : Place) (m : ℕ) → statement_of (stmt.Disable at m) ≡ plain.Disable at m
disable_statement at m = ap statement_of (sym (stmts.rolls-Disable at m)) ∙ fold-roll-Stmt Statement PlainArm stmt_step arm_step (Stmt-F.Disable at m)

pub host_statement : (at : Place) (f : ℕ) (ins : List TExpr) (result : Option Target) (outs : List Target) → statement_of (stmt.Host at f ins result outs) ≡ plain.Host at f (map expr_of ins) (option_map lvalue_of result) (map lvalue_of outs)
host_statement at f ins result outs = ap statement_of (sym (stmts.rolls-Host at f ins result outs)) ∙ fold-roll-Stmt Statement PlainArm stmt_step arm_step (Stmt-F.Host at f ins result outs)
