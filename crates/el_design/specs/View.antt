-- How the types of the code stand for plain data: one line for each variant. This project's own.
use Rattle.std.specs.Prelude.{List, [], ◌∷◌, map, option_map}
use Rattle.el_design.specs.Plain.{Shape, Expr, Number, NetValue, Variable, MemoryWord, Select, Unary, Binary, Choice, Concat, Copies, Sign, Resize, Call, Exprs, NoExpr, More, Range, Bit, Part, Up, Down, Lvalue, ToVariable, ToPart, ToWord, ToWordPart, Both, Nowhere, Statement, Null, Skip, Seq, Block, Assign, If, Case, Arm, For, While, Repeat, Forever, Wait, Enable, Disable, Host, FlatNet, FlatTask, FlatFunc, FlatProc, Flat}
use Rattle.el_design.specs.declared.expressions.TExpr.{TExpr}
use Rattle.el_design.specs.declared.expressions.Kind.{Kind}
use Rattle.el_design.specs.declared.expressions.Pick.{Pick}
use Rattle.el_design.specs.declared.expressions.Kind.TheOpen.{TExpr-F, Kind-F, Pick-F}
use Rattle.el_design.specs.declared.expressions.Kind.TheFolds.{fold-TExpr, fold-Kind, fold-Pick}
use Rattle.el_design.specs.declared.expressions.Target.{Target}
use Rattle.el_design.specs.declared.expressions.Target.TheOpen.{Target-F}
use Rattle.el_design.specs.declared.expressions.Target.TheFolds.{fold-Target}
use Rattle.el_design.specs.declared.statements.Arm as code
use Rattle.el_design.specs.declared.statements.Stmt.{Stmt}
use Rattle.el_design.specs.declared.statements.Stmt.TheOpen.{Stmt-F, Arm-F}
use Rattle.el_design.specs.declared.statements.Stmt.TheFolds.{fold-Stmt, fold-Arm}
use Rattle.el_design.specs.declared.designs.Net.{Net}
use Rattle.el_design.specs.declared.designs.Task.{Task}
use Rattle.el_design.specs.declared.designs.Func.{Func}
use Rattle.el_design.specs.declared.designs.Proc.{Proc}
use Rattle.el_design.specs.declared.designs.Design.{Design}

abbrev pub exprs_of : List Expr → Exprs
exprs_of [] = NoExpr
exprs_of (e ∷ es) = More e (exprs_of es)

-- one node, with what its parts stand for in their places
abbrev pub kind_step : Kind-F (Shape → Expr) Range Expr → Shape → Expr
kind_step (Kind-F.Num b) = λ s. Number s b
kind_step (Kind-F.Net n) = λ s. NetValue s n
kind_step (Kind-F.Var v) = λ s. Variable s v
kind_step (Kind-F.Word v i) = λ s. MemoryWord s v i
kind_step (Kind-F.Select e p lsb) = λ s. Select s e p lsb
kind_step (Kind-F.Unary op e) = λ s. Unary s op e
kind_step (Kind-F.Binary op a b) = λ s. Binary s op a b
kind_step (Kind-F.Choice c a b) = λ s. Choice s c a b
kind_step (Kind-F.Concat es) = λ s. Concat s (exprs_of es)
kind_step (Kind-F.Repeat n e) = λ s. Copies s n e
kind_step (Kind-F.Sign e) = λ s. Sign s e
kind_step (Kind-F.Resize e) = λ s. Resize s e
kind_step (Kind-F.Call f es) = λ s. Call s f (exprs_of es)

abbrev pub pick_step : Pick-F (Shape → Expr) Range Expr → Range
pick_step (Pick-F.Bit e) = Bit e
pick_step (Pick-F.Part high low) = Part high low
pick_step (Pick-F.Up e w) = Up e w
pick_step (Pick-F.Down e w) = Down e w

abbrev pub expr_step : TExpr-F (Shape → Expr) Range Expr → Expr
expr_step e = e.kind (record { width = e.width; signed = e.signed })

abbrev pub expr_of : TExpr → Expr
expr_of = fold-TExpr (Shape → Expr) Range Expr kind_step pick_step expr_step

abbrev pub kind_of : Kind → Shape → Expr
kind_of = fold-Kind (Shape → Expr) Range Expr kind_step pick_step expr_step

abbrev pub range_of : Pick → Range
range_of = fold-Pick (Shape → Expr) Range Expr kind_step pick_step expr_step

abbrev pub parts_of : List Lvalue → Lvalue
parts_of [] = Nowhere
parts_of (t ∷ ts) = Both t (parts_of ts)

abbrev pub target_step : Target-F Lvalue → Lvalue
target_step (Target-F.Var v) = ToVariable v
target_step (Target-F.Part v p) = ToPart v (range_of p)
target_step (Target-F.Word v i) = ToWord v (expr_of i)
target_step (Target-F.WordPart v i p) = ToWordPart v (expr_of i) (range_of p)
target_step (Target-F.Concat ts) = parts_of ts

abbrev pub lvalue_of : Target → Lvalue
lvalue_of = fold-Target Lvalue target_step

abbrev pub seq_of : List Statement → Statement
seq_of [] = Skip
seq_of (s ∷ ss) = Seq s (seq_of ss)

-- an arm with its body's statement: its labels and that statement
pub record PlainArm : Type 0 where
  pub labels : List Expr
  pub body : Statement

abbrev pub arms_of : Expr → List PlainArm → Statement → Statement
arms_of on [] other = other
arms_of on (a ∷ more) other = Arm on a.labels a.body (arms_of on more other)

abbrev pub stmt_step : Stmt-F Statement PlainArm → Statement
stmt_step Stmt-F.Null = Null
stmt_step (Stmt-F.Block at mark body) = Block at mark (seq_of body)
stmt_step (Stmt-F.Assign at to value held) = Assign at (lvalue_of to) (expr_of value) held
stmt_step (Stmt-F.If at test a b) = If at (expr_of test) a b
stmt_step (Stmt-F.Case at on arms other) = Case at (expr_of on) (arms_of (expr_of on) arms other)
stmt_step (Stmt-F.For at v first test next body) = For at v (expr_of first) (expr_of test) (expr_of next) body
stmt_step (Stmt-F.While at test body) = While at (expr_of test) body
stmt_step (Stmt-F.Repeat at count body) = Repeat at (expr_of count) body
stmt_step (Stmt-F.Forever at body) = Forever at body
stmt_step (Stmt-F.Wait at falling) = Wait at falling
stmt_step (Stmt-F.Enable at t ins outs) = Enable at t (map expr_of ins) (map lvalue_of outs)
stmt_step (Stmt-F.Disable at m) = Disable at m
stmt_step (Stmt-F.Host at f ins result outs) = Host at f (map expr_of ins) (option_map lvalue_of result) (map lvalue_of outs)

abbrev pub arm_step : Arm-F Statement PlainArm → PlainArm
arm_step a = record { labels = map expr_of a.labels; body = a.body }

abbrev pub statement_of : Stmt → Statement
statement_of = fold-Stmt Statement PlainArm stmt_step arm_step

abbrev pub arm_of : code.Arm → PlainArm
arm_of = fold-Arm Statement PlainArm stmt_step arm_step

abbrev pub net_of : Net → FlatNet
net_of n = record { width = n.width; signed = n.signed; lsb = n.lsb; value = option_map expr_of n.value; place = n.place }

abbrev pub task_of : Task → FlatTask
task_of t = record { mark = t.mark; ins = t.ins; outs = t.outs; body = statement_of t.body }

abbrev pub func_of : Func → FlatFunc
func_of f = record { ins = f.ins; locals = f.locals; result = f.result; body = statement_of f.body }

abbrev pub proc_of : Proc → FlatProc
proc_of p = record { always = p.always; body = statement_of p.body; place = p.place }

abbrev pub flat_of : Design → Flat
flat_of d = record { vars = d.vars; nets = map net_of d.nets; tasks = map task_of d.tasks; funcs = map func_of d.funcs; imports = d.imports; procs = map proc_of d.procs; marks = d.marks; inputs = d.inputs; outputs = d.outputs; head = d.head }
