-- Where names stand in a source, and how. All of it is this project's own, but for the scope in which each stands: what follows the
-- name of a module, task, function or block stands in its scope (IEEE 1364-2005, 12.7).
use Rattle.std.specs.Prelude.{ℕ, Bool, true, false, List, [], ◌∷◌, ◌++◌, map, Option, Some, None, flat_map}
use Rattle.vl_tree.specs.declared.exprs.Expr.{Expr}
use Rattle.vl_tree.specs.declared.exprs.Expr.TheOpen as expr
use Rattle.vl_tree.specs.declared.exprs.Expr.TheFolds.{fold-Expr, fold-Select}
use Rattle.vl_tree.specs.declared.exprs.Select.{Select}
use Rattle.vl_tree.specs.declared.exprs.Lvalue.{Lvalue}
use Rattle.vl_tree.specs.declared.exprs.Lvalue.TheOpen as lvalue
use Rattle.vl_tree.specs.declared.exprs.Lvalue.TheFolds.{fold-Lvalue}
use Rattle.vl_tree.specs.declared.modules.Range.{Range}
use Rattle.vl_tree.specs.declared.modules.Pdecl.{Pdecl}
use Rattle.vl_tree.specs.declared.modules.Ptype.{Ptype}
use Rattle.vl_tree.specs.declared.modules.Port.{Port}
use Rattle.vl_tree.specs.declared.modules.Dir.{Dir}
use Rattle.vl_tree.specs.declared.modules.Rname.{Rname}
use Rattle.vl_tree.specs.declared.modules.Rname.TheVariants as rname
use Rattle.vl_tree.specs.declared.modules.Conns.{Conns}
use Rattle.vl_tree.specs.declared.modules.Conns.TheVariants as conns
use Rattle.vl_tree.specs.declared.modules.Binding.{Binding}
use Rattle.vl_tree.specs.declared.modules.Declared.{Declared}
use Rattle.vl_tree.specs.declared.modules.Instance.{Instance}
use Rattle.vl_tree.specs.declared.modules.Named.{Named}
use Rattle.vl_tree.specs.declared.routines.Task.{Task}
use Rattle.vl_tree.specs.declared.routines.Function.{Function}
use Rattle.vl_tree.specs.declared.routines.Formal.{Formal}
use Rattle.vl_tree.specs.declared.modules.Item.{Item}
use Rattle.vl_tree.specs.declared.modules.Item.TheVariants as item
use Rattle.vl_tree.specs.declared.modules.Module.{Module}
use Rattle.vl_tree.specs.declared.modules.Tree.{Tree}
use Rattle.vl_tree.specs.declared.routines.Local.{Local}
use Rattle.vl_tree.specs.declared.routines.Local.TheVariants as local
use Rattle.vl_tree.specs.declared.routines.Args.{Args}
use Rattle.vl_tree.specs.declared.routines.Args.TheVariants as args
use Rattle.vl_tree.specs.declared.routines.Arg.{Arg}
use Rattle.vl_tree.specs.declared.routines.Arg.TheVariants as arg
use Rattle.vl_tree.specs.declared.routines.Fdir.{Fdir}
use Rattle.vl_tree.specs.declared.routines.Iarg.{Iarg}
use Rattle.vl_tree.specs.declared.routines.Iarg.TheVariants as iarg
use Rattle.vl_tree.specs.declared.statements.Stmt.{Stmt}
use Rattle.vl_tree.specs.declared.statements.Citem.TheOpen as stmt
use Rattle.vl_tree.specs.declared.statements.Citem.TheFolds.{fold-Stmt, fold-Citem}
use Rattle.vl_tree.specs.declared.statements.Citem.{Citem}
use Rattle.vl_tree.specs.Words.{ptype_range, dir_range, fdir_range}
use Rattle.vl_names.specs.declared.kinds.Role.{Role}
use Rattle.vl_names.specs.declared.kinds.Role.TheVariants as role
use Rattle.vl_names.specs.declared.kinds.Selects.{Selects}
use Rattle.vl_names.specs.declared.kinds.Selects.TheVariants as selects
use Rattle.vl_names.specs.declared.kinds.Stand.{Stand}
use Rattle.vl_names.specs.declared.kinds.Mention.{Mention}
use Rattle.vl_names.specs.declared.kinds.Mention.TheVariants.{Stands, Ends, Instantiates}

-- ---- expressions and the left sides of assignments

-- the names of a part, by where the part stands
abbrev pub Names : Type 0
Names = Stand → List Mention

abbrev pub nothing : Names
nothing = λ stand. []

abbrev pub both : Names → Names → Names
both a b = λ stand. a stand ++ b stand

abbrev pub all : List Names → Names
all parts = λ stand. flat_map (λ p. p stand) parts

-- a select: whether it is a plain index, and the names in it
pub record SelectNames : Type 0 where
  pub is_index : Bool
  pub names : Names

abbrev pub selects_of : List SelectNames → Selects
selects_of [] = selects.Alone
selects_of (s ∷ []) = one s.is_index
  where
    one : Bool → Selects
    one true = selects.Index
    one false = selects.Part
selects_of _ = selects.Two

abbrev pub named : ℕ → Role → List SelectNames → Names
named at r ss = λ stand. Stands at r stand ∷ all (map (λ s. s.names) ss) stand

abbrev pub expr_step : expr.Expr-F Names SelectNames → Names
expr_step (expr.Choice at test first second) = both test (both first second)
expr_step (expr.Binary at op left right) = both left right
expr_step (expr.Unary at op operand) = operand
expr_step (expr.Based at size number) = nothing
expr_step (expr.Decimal at number) = nothing
expr_step (expr.Name at name ss) = named name (role.Read (selects_of ss)) ss
expr_step (expr.Call at name values) = both (named name role.Called []) (all values)
expr_step (expr.Sign at sign value) = value
expr_step (expr.Concat at parts) = all parts
expr_step (expr.Replicate at count parts) = both count (all parts)

abbrev pub select_step : expr.Select-F Names SelectNames → SelectNames
select_step (expr.Index at index) = record { is_index = true; names = index }
select_step (expr.Part at msb lsb) = record { is_index = false; names = both msb lsb }
select_step (expr.Up at base width) = record { is_index = false; names = both base width }
select_step (expr.Down at base width) = record { is_index = false; names = both base width }

abbrev pub expr_names : Expr → Names
expr_names = fold-Expr Names SelectNames expr_step select_step

abbrev pub select_names : Select → SelectNames
select_names = fold-Select Names SelectNames expr_step select_step

abbrev pub lvalue_step : lvalue.Lvalue-F Names → Names
lvalue_step (lvalue.Name at name ss) = named name (role.Stored (selects_of (map select_names ss))) (map select_names ss)
lvalue_step (lvalue.Concat at parts) = all parts

abbrev pub lvalue_names : Lvalue → Names
lvalue_names = fold-Lvalue Names lvalue_step

-- ---- constant expressions of declarations: a parameter in them is declared before a token

-- a value of the name that is this token
abbrev pub value_names : ℕ → ℕ → Expr → List Mention
value_names scope name value = expr_names value (record { scope = scope; before = Some name })

abbrev pub start_names : ℕ → ℕ → Option Expr → List Mention
start_names scope name None = []
start_names scope name (Some value) = value_names scope name value

-- a range stands before the names that it is of
abbrev pub range_names : ℕ → Range → List Mention
range_names scope r = both (expr_names r.msb) (expr_names r.lsb) (record { scope = scope; before = Some r.at })

abbrev pub ranges_names : ℕ → Option Range → List Mention
ranges_names scope None = []
ranges_names scope (Some r) = range_names scope r

abbrev pub ptype_names : ℕ → Option Ptype → List Mention
ptype_names scope None = []
ptype_names scope (Some words) = ranges_names scope (ptype_range words)

abbrev pub fdir_names : ℕ → Option Fdir → List Mention
fdir_names scope None = []
fdir_names scope (Some words) = ranges_names scope (fdir_range words)

abbrev pub dir_names : ℕ → Option Dir → List Mention
dir_names scope None = []
dir_names scope (Some words) = ranges_names scope (dir_range words)

abbrev pub local_names : ℕ → Local → List Mention
local_names scope (local.Reg at signed range names) = ranges_names scope range
local_names scope (local.Integer at names) = []

abbrev pub arg_names : ℕ → Arg → List Mention
arg_names scope (arg.Formals at words names) = fdir_names scope (Some words)
arg_names scope (arg.Local at l) = local_names scope l

abbrev pub formals_names : ℕ → List Formal → List Mention
formals_names scope formals = flat_map (λ f. fdir_names scope f.fdir) formals

abbrev pub args_names : ℕ → Args → List Mention
args_names scope (args.Listed at formals locals) = formals_names scope formals ++ flat_map (local_names scope) locals
args_names scope (args.Declared at declarations) = flat_map (arg_names scope) declarations

abbrev pub iarg_names : ℕ → Iarg → List Mention
iarg_names scope (iarg.Bits at direction range name) = ranges_names scope range
iarg_names scope (iarg.Number at direction itype name) = []

-- ---- statements

-- an expression that no declaration rests on
abbrev pub plainly : Expr → ℕ → List Mention
plainly e scope = expr_names e (record { scope = scope; before = None })

abbrev pub plainly_all : List Expr → ℕ → List Mention
plainly_all es scope = flat_map (λ e. plainly e scope) es

abbrev pub stored : Lvalue → ℕ → List Mention
stored t scope = lvalue_names t (record { scope = scope; before = None })

abbrev pub alone : ℕ → Role → ℕ → List Mention
alone name r scope = Stands name r (record { scope = scope; before = None }) ∷ []

-- the names of a statement, by the scope in which it stands
abbrev pub Within : Type 0
Within = ℕ → List Mention

abbrev pub or_nothing : Option Within → Within
or_nothing None = λ scope. []
or_nothing (Some names) = names

abbrev pub each : List Within → Within
each parts = λ scope. flat_map (λ p. p scope) parts

abbrev pub or_no_values : Option (List Expr) → List Expr
or_no_values None = []
or_no_values (Some values) = values

abbrev pub assignment_names : Lvalue → Expr → Within
assignment_names target value = λ scope. stored target scope ++ plainly value scope

-- the variable of a `for`, with its first value or the next
abbrev pub counted_names : ℕ → Expr → Within
counted_names name value = λ scope. alone name role.Counted scope ++ plainly value scope

abbrev pub enable_names : ℕ → Option (List Expr) → Within
enable_names name values = λ scope. alone name role.Enabled scope ++ plainly_all (or_no_values values) scope

abbrev pub locals_names : List Local → Within
locals_names locals = λ scope. flat_map (local_names scope) locals

abbrev pub stmt_step : stmt.Stmt-F Within Within → Within
stmt_step (stmt.Null at) = λ scope. []
stmt_step (stmt.Blocking at target value) = assignment_names target value
stmt_step (stmt.Nonblocking at target value) = assignment_names target value
stmt_step (stmt.If at test first second) = λ scope. plainly test scope ++ first scope ++ or_nothing second scope
stmt_step (stmt.Case at on arms) = λ scope. plainly on scope ++ each arms scope
stmt_step (stmt.For at name first test again next body) =
    λ scope. counted_names name first scope ++ plainly test scope ++ counted_names again next scope ++ body scope
stmt_step (stmt.While at test body) = λ scope. plainly test scope ++ body scope
stmt_step (stmt.Repeat at count body) = λ scope. plainly count scope ++ body scope
stmt_step (stmt.Forever at body) = body
stmt_step (stmt.Block at None body) = each body
stmt_step (stmt.Block at (Some block) body) = λ scope. locals_names block.locals block.name ++ each body block.name
stmt_step (stmt.Wait at edge clock body) = λ scope. alone clock role.Waited scope ++ body scope
stmt_step (stmt.Enable at name values) = enable_names name values
stmt_step (stmt.Disable at names) = λ scope. Ends names scope ∷ []

abbrev pub arm_step : stmt.Citem-F Within Within → Within
arm_step (stmt.Labels at labels body) = λ scope. plainly_all labels scope ++ body scope
arm_step (stmt.Default at colon body) = body

abbrev pub stmt_names : Stmt → Within
stmt_names = fold-Stmt Within Within arm_step stmt_step

abbrev pub arm_names : Citem → Within
arm_names = fold-Citem Within Within arm_step stmt_step

-- ---- modules

abbrev pub plainly_maybe : Option Expr → ℕ → List Mention
plainly_maybe None scope = []
plainly_maybe (Some e) scope = plainly e scope

-- the values of connections and overrides; the names that they connect are asked of the instance's module
abbrev pub named_names : ℕ → List Named → List Mention
named_names scope ns = flat_map (λ n. plainly_maybe n.value scope) ns

abbrev pub conns_names : ℕ → Option Conns → List Mention
conns_names scope None = []
conns_names scope (Some (conns.Ordered at values)) = plainly_all values scope
conns_names scope (Some (conns.Named at named)) = named_names scope named

abbrev pub rname_names : ℕ → Rname → List Mention
rname_names scope (rname.Variable at name value) = start_names scope name value
rname_names scope (rname.Memory at name range) = range_names scope range

abbrev pub values_names : ℕ → List Binding → List Mention
values_names scope values = flat_map (λ v. value_names scope v.name v.value) values

-- the expression of a net is no constant of a declaration
abbrev pub wires_names : ℕ → List Declared → List Mention
wires_names scope names = flat_map (λ n. plainly_maybe n.value scope) names

abbrev pub regs_names : ℕ → List Rname → List Mention
regs_names scope names = flat_map (rname_names scope) names

abbrev pub integers_names : ℕ → List Declared → List Mention
integers_names scope names = flat_map (λ n. start_names scope n.name n.value) names

abbrev pub assign_names : ℕ → Binding → List Mention
assign_names scope v = alone v.name role.Driven scope ++ plainly v.value scope

abbrev pub assigns_names : ℕ → List Binding → List Mention
assigns_names scope values = flat_map (assign_names scope) values

abbrev pub task_names : Task → List Mention
task_names t = args_names t.name t.args ++ stmt_names t.body t.name

abbrev pub function_names : ℕ → Function → List Mention
function_names scope f = ranges_names scope (ptype_range f.ptype) ++ args_names f.name f.args ++ stmt_names f.body f.name

abbrev pub iargs_names : ℕ → List Iarg → List Mention
iargs_names scope all = flat_map (iarg_names scope) all

abbrev pub instances_names : ℕ → ℕ → Option Conns → List Instance → List Mention
instances_names scope name params instances =
    Instantiates name scope ∷ conns_names scope params ++ flat_map (λ i. conns_names scope i.conns) instances

abbrev pub item_names : ℕ → Item → List Mention
item_names scope (item.Params at word ptype values) = ranges_names scope (ptype_range ptype) ++ values_names scope values
item_names scope (item.Wires at signed range names) = ranges_names scope range ++ wires_names scope names
item_names scope (item.Regs at signed range names) = ranges_names scope range ++ regs_names scope names
item_names scope (item.Integers at names) = integers_names scope names
item_names scope (item.Assigns at values) = assigns_names scope values
item_names scope (item.Always at body) = stmt_names body scope
item_names scope (item.Initial at body) = stmt_names body scope
item_names scope (item.Task at t) = task_names t
item_names scope (item.Function at f) = function_names scope f
item_names scope (item.Import at i) = iargs_names scope i.args
item_names scope (item.Instances at name params instances) = instances_names scope name params instances

abbrev pub param_names : ℕ → Pdecl → List Mention
param_names scope p = ptype_names scope p.ptype ++ value_names scope p.name p.value

abbrev pub port_names : ℕ → Port → List Mention
port_names scope p = dir_names scope p.dir ++ start_names scope p.name p.value

abbrev pub or_none : {X : Type 0} → Option (List X) → List X
or_none None = []
or_none (Some xs) = xs

abbrev pub params_names : ℕ → Option (List Pdecl) → List Mention
params_names scope None = []
params_names scope (Some ps) = flat_map (param_names scope) ps

abbrev pub ports_names : ℕ → Option (List Port) → List Mention
ports_names scope None = []
ports_names scope (Some ps) = flat_map (port_names scope) ps

-- all names of a module but those that it declares, and those of ports and parameters at its instances, in the order of the text
abbrev pub module_names : Module → List Mention
module_names m = params_names m.name m.params ++ ports_names m.name m.ports ++ flat_map (item_names m.name) m.items

abbrev pub tree_names : Tree → List Mention
tree_names tree = flat_map module_names tree.modules
