-- The numbers in a tree are those of tokens: each `at` is a token's, each name is that of an identifier, and each number, size or
-- string is that of such a token. All of it is this project's own.
use Rattle.std.specs.Prelude.{◌<◌, ℕ, List, Some, None, IfSome, All, length}
use Rattle.vl_tree.specs.declared.terminals.Terminal.{Terminal}
use Rattle.vl_tree.specs.declared.terminals.Terminal.TheVariants as lex
use Rattle.vl_tree.specs.declared.exprs.Expr.{Expr}
use Rattle.vl_tree.specs.declared.exprs.Expr.TheOpen as expr
use Rattle.vl_tree.specs.declared.exprs.Expr.TheFolds.{every-Expr, every-Select}
use Rattle.vl_tree.specs.declared.exprs.Select.{Select}
use Rattle.vl_tree.specs.declared.exprs.Lvalue.{Lvalue}
use Rattle.vl_tree.specs.declared.exprs.Lvalue.TheOpen as lvalue
use Rattle.vl_tree.specs.declared.exprs.Lvalue.TheFolds.{every-Lvalue}
use Rattle.vl_tree.specs.declared.modules.Tree.{Tree}
use Rattle.vl_tree.specs.declared.modules.Module.{Module}
use Rattle.vl_tree.specs.declared.modules.Pdecl.{Pdecl}
use Rattle.vl_tree.specs.declared.modules.Ptype.{Ptype}
use Rattle.vl_tree.specs.declared.modules.Ptype.TheVariants as ptype
use Rattle.vl_tree.specs.declared.modules.Port.{Port}
use Rattle.vl_tree.specs.declared.modules.Dir.{Dir}
use Rattle.vl_tree.specs.declared.modules.Dir.TheVariants as dir
use Rattle.vl_tree.specs.declared.modules.Range.{Range}
use Rattle.vl_tree.specs.declared.modules.Item.{Item}
use Rattle.vl_tree.specs.declared.modules.Item.TheVariants as item
use Rattle.vl_tree.specs.declared.modules.Binding.{Binding}
use Rattle.vl_tree.specs.declared.modules.Declared.{Declared}
use Rattle.vl_tree.specs.declared.modules.Rname.{Rname}
use Rattle.vl_tree.specs.declared.modules.Rname.TheVariants as rname
use Rattle.vl_tree.specs.declared.modules.Instance.{Instance}
use Rattle.vl_tree.specs.declared.modules.Conns.{Conns}
use Rattle.vl_tree.specs.declared.modules.Conns.TheVariants as conns
use Rattle.vl_tree.specs.declared.modules.Named.{Named}
use Rattle.vl_tree.specs.declared.routines.Task.{Task}
use Rattle.vl_tree.specs.declared.routines.Function.{Function}
use Rattle.vl_tree.specs.declared.routines.Args.{Args}
use Rattle.vl_tree.specs.declared.routines.Args.TheVariants as args
use Rattle.vl_tree.specs.declared.routines.Arg.{Arg}
use Rattle.vl_tree.specs.declared.routines.Arg.TheVariants as arg
use Rattle.vl_tree.specs.declared.routines.Formal.{Formal}
use Rattle.vl_tree.specs.declared.routines.Fdir.{Fdir}
use Rattle.vl_tree.specs.declared.routines.Fdir.TheVariants as fdir
use Rattle.vl_tree.specs.declared.routines.Local.{Local}
use Rattle.vl_tree.specs.declared.routines.Local.TheVariants as local
use Rattle.vl_tree.specs.declared.routines.Import.{Import}
use Rattle.vl_tree.specs.declared.routines.Rtype.{Rtype}
use Rattle.vl_tree.specs.declared.routines.Rtype.TheVariants as rtype
use Rattle.vl_tree.specs.declared.routines.Iarg.{Iarg}
use Rattle.vl_tree.specs.declared.routines.Iarg.TheVariants as iarg
use Rattle.vl_tree.specs.declared.statements.Stmt.{Stmt}
use Rattle.vl_tree.specs.declared.statements.Citem.{Citem}
use Rattle.vl_tree.specs.declared.statements.Citem.TheOpen as stmt
use Rattle.vl_tree.specs.declared.statements.Citem.TheFolds.{every-Stmt}
use Rattle.vl_tree.specs.declared.statements.Scope.{Scope}
use Rattle.vl_tree.specs.Places.{At, IsName}
use Rattle.vl_tree.specs.Begins.{first_of_expr, first_of_select, first_of_lvalue, first_of_stmt}

module _ (ls : List Terminal) where
  -- a token has this number
  abbrev pub IsToken : ℕ → Type 0
  IsToken at = at < length ls

  abbrev pub OneExpr : expr.Expr-F Expr Select → Type 0
  OneExpr (expr.Based at None number) = At ls number lex.Based
  OneExpr (expr.Based at (Some size) number) = At ls size lex.Decimal × At ls number lex.Based
  OneExpr (expr.Decimal at number) = At ls number lex.Decimal
  OneExpr (expr.Name at name selects) = IsName ls name
  OneExpr (expr.Call at name args) = IsName ls name
  OneExpr _ = Unit {0}

  abbrev pub HereExpr : expr.Expr-F Expr Select → Type 0
  HereExpr x = IsToken (first_of_expr x) × OneExpr x

  abbrev pub HereSelect : expr.Select-F Expr Select → Type 0
  HereSelect x = IsToken (first_of_select x)

  -- of an expression and all in it
  abbrev pub ExprNames : Expr → Type 0
  ExprNames e = every-Expr HereExpr HereSelect e

  abbrev pub SelectNames : Select → Type 0
  SelectNames s = every-Select HereExpr HereSelect s

  abbrev pub OneLvalue : lvalue.Lvalue-F Lvalue → Type 0
  OneLvalue (lvalue.Name at name selects) = IsName ls name × All SelectNames selects
  OneLvalue (lvalue.Concat at parts) = Unit {0}

  -- of the left side of an assignment
  abbrev pub LvalueNames : Lvalue → Type 0
  LvalueNames t = every-Lvalue (λ x. IsToken (first_of_lvalue x) × OneLvalue x) t

  -- ---- declarations

  abbrev pub RangeNames : Range → Type 0
  RangeNames r = IsToken r.at × ExprNames r.msb × ExprNames r.lsb

  abbrev pub PtypeNames : Ptype → Type 0
  PtypeNames (ptype.Vector at signed range) = IsToken at × IfSome range RangeNames
  PtypeNames (ptype.Integer at) = IsToken at

  abbrev pub LocalNames : Local → Type 0
  LocalNames (local.Reg at signed range names) = IsToken at × IfSome range RangeNames × All (IsName ls) names
  LocalNames (local.Integer at names) = IsToken at × All (IsName ls) names

  -- ---- statements

  abbrev pub ScopeNames : Scope → Type 0
  ScopeNames s = IsToken s.at × IsName ls s.name × All LocalNames s.locals

  abbrev pub OneStmt : stmt.Stmt-F Citem Stmt → Type 0
  OneStmt (stmt.Null at) = Unit {0}
  OneStmt (stmt.Blocking at target value) = LvalueNames target × ExprNames value
  OneStmt (stmt.Nonblocking at target value) = LvalueNames target × ExprNames value
  OneStmt (stmt.If at test first second) = ExprNames test
  OneStmt (stmt.Case at on arms) = ExprNames on
  OneStmt (stmt.For at name first test again next body) =
      IsName ls name × ExprNames first × ExprNames test × IsName ls again × ExprNames next
  OneStmt (stmt.While at test body) = ExprNames test
  OneStmt (stmt.Repeat at count body) = ExprNames count
  OneStmt (stmt.Forever at body) = Unit {0}
  OneStmt (stmt.Block at scope body) = IfSome scope ScopeNames
  OneStmt (stmt.Wait at edge clock body) = IsName ls clock
  OneStmt (stmt.Enable at name args) = IsName ls name × IfSome args (All ExprNames)
  OneStmt (stmt.Disable at names) = All (IsName ls) names

  abbrev pub HereStmt : stmt.Stmt-F Citem Stmt → Type 0
  HereStmt x = IsToken (first_of_stmt x) × OneStmt x

  abbrev pub HereCitem : stmt.Citem-F Citem Stmt → Type 0
  HereCitem (stmt.Labels at labels body) = IsToken at × All ExprNames labels
  HereCitem (stmt.Default at colon body) = IsToken at

  -- of a statement and all in it
  abbrev pub StmtNames : Stmt → Type 0
  StmtNames s = every-Stmt HereCitem HereStmt s

  -- ---- tasks, functions and imports

  abbrev pub FdirNames : Fdir → Type 0
  FdirNames (fdir.Vector at direction reg signed range) = IsToken at × IfSome range RangeNames
  FdirNames (fdir.Integer at direction) = IsToken at

  abbrev pub FormalNames : Formal → Type 0
  FormalNames f = IsToken f.at × IfSome f.fdir FdirNames × IsName ls f.name

  abbrev pub ArgNames : Arg → Type 0
  ArgNames (arg.Formals at fdir names) = IsToken at × FdirNames fdir × All (IsName ls) names
  ArgNames (arg.Local at l) = IsToken at × LocalNames l

  abbrev pub ArgsNames : Args → Type 0
  ArgsNames (args.Listed at formals locals) = IsToken at × All FormalNames formals × All LocalNames locals
  ArgsNames (args.Declared at all) = IsToken at × All ArgNames all

  abbrev pub TaskNames : Task → Type 0
  TaskNames t = IsToken t.at × IsName ls t.name × ArgsNames t.args × StmtNames t.body

  abbrev pub FunctionNames : Function → Type 0
  FunctionNames f = IsToken f.at × PtypeNames f.ptype × IsName ls f.name × ArgsNames f.args × StmtNames f.body

  abbrev pub RtypeNames : Rtype → Type 0
  RtypeNames (rtype.Void at) = IsToken at
  RtypeNames (rtype.Bit at) = IsToken at
  RtypeNames (rtype.Number at itype) = IsToken at × IsToken itype.at

  abbrev pub IargNames : Iarg → Type 0
  IargNames (iarg.Bits at direction range name) = IsToken at × IfSome range RangeNames × IsName ls name
  IargNames (iarg.Number at direction itype name) = IsToken at × IsToken itype.at × IsName ls name

  abbrev pub ImportNames : Import → Type 0
  ImportNames m = IsToken m.at × At ls m.spec lex.Dpi × RtypeNames m.rtype × IsName ls m.name × All IargNames m.args

  -- ---- modules

  abbrev pub PdeclNames : Pdecl → Type 0
  PdeclNames p = IsToken p.at × IfSome p.ptype PtypeNames × IsName ls p.name × ExprNames p.value

  abbrev pub DirNames : Dir → Type 0
  DirNames (dir.Net at direction wire signed range) = IsToken at × IfSome range RangeNames
  DirNames (dir.Reg at signed range) = IsToken at × IfSome range RangeNames

  abbrev pub PortNames : Port → Type 0
  PortNames p = IsToken p.at × IfSome p.dir DirNames × IsName ls p.name × IfSome p.value ExprNames

  abbrev pub BindingNames : Binding → Type 0
  BindingNames b = IsToken b.at × IsName ls b.name × ExprNames b.value

  abbrev pub DeclaredNames : Declared → Type 0
  DeclaredNames d = IsToken d.at × IsName ls d.name × IfSome d.value ExprNames

  abbrev pub RnameNames : Rname → Type 0
  RnameNames (rname.Variable at name value) = IsToken at × IsName ls name × IfSome value ExprNames
  RnameNames (rname.Memory at name range) = IsToken at × IsName ls name × RangeNames range

  abbrev pub NamedNames : Named → Type 0
  NamedNames n = IsToken n.at × IsName ls n.name × IfSome n.value ExprNames

  abbrev pub ConnsNames : Conns → Type 0
  ConnsNames (conns.Ordered at exprs) = IsToken at × All ExprNames exprs
  ConnsNames (conns.Named at named) = IsToken at × All NamedNames named

  abbrev pub InstanceNames : Instance → Type 0
  InstanceNames i = IsToken i.at × IsName ls i.name × IfSome i.conns ConnsNames

  abbrev pub ItemNames : Item → Type 0
  ItemNames (item.Params at word ptype values) = IsToken at × PtypeNames ptype × All BindingNames values
  ItemNames (item.Wires at signed range names) = IsToken at × IfSome range RangeNames × All DeclaredNames names
  ItemNames (item.Regs at signed range names) = IsToken at × IfSome range RangeNames × All RnameNames names
  ItemNames (item.Integers at names) = IsToken at × All DeclaredNames names
  ItemNames (item.Assigns at values) = IsToken at × All BindingNames values
  ItemNames (item.Always at body) = IsToken at × StmtNames body
  ItemNames (item.Initial at body) = IsToken at × StmtNames body
  ItemNames (item.Task at t) = IsToken at × TaskNames t
  ItemNames (item.Function at f) = IsToken at × FunctionNames f
  ItemNames (item.Import at m) = IsToken at × ImportNames m
  ItemNames (item.Instances at name params instances) =
      IsToken at × IsName ls name × IfSome params ConnsNames × All InstanceNames instances

  abbrev pub ModuleNames : Module → Type 0
  ModuleNames m =
      IsToken m.at × IsName ls m.name × IfSome m.params (All PdeclNames) × IfSome m.ports (All PortNames) × All ItemNames m.items

  -- of a source
  abbrev pub TreeNames : Tree → Type 0
  TreeNames tree = All ModuleNames tree.modules
