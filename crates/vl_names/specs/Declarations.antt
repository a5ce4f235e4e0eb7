-- What a source declares, and in which scope (IEEE 1364-2005, 4.11 and 12.7). Modules, tasks, functions and named blocks have scopes,
-- each of which is named by the token of its name. The names of tasks, functions, imports, instances and named blocks stand in the scope
-- round them, and so does a function's result, which has the function's name. The formals of an import stand in none.
use Rattle.std.specs.Prelude.{ℕ, Bool, true, false, ◌||◌, List, [], ◌∷◌, ◌++◌, map, Option, Some, None, flat_map, is_some}
use Rattle.vl_tree.specs.declared.modules.Module.{Module}
use Rattle.vl_tree.specs.declared.modules.Tree.{Tree}
use Rattle.vl_tree.specs.declared.modules.Pdecl.{Pdecl}
use Rattle.vl_tree.specs.declared.modules.Binding.{Binding}
use Rattle.vl_tree.specs.declared.modules.Declared.{Declared}
use Rattle.vl_tree.specs.declared.modules.Instance.{Instance}
use Rattle.vl_tree.specs.declared.modules.Ptype.{Ptype}
use Rattle.vl_tree.specs.declared.modules.Port.{Port}
use Rattle.vl_tree.specs.declared.modules.Dir.{Dir}
use Rattle.vl_tree.specs.declared.modules.Direction.{Direction}
use Rattle.vl_tree.specs.declared.modules.Direction.TheVariants as direction
use Rattle.vl_tree.specs.declared.modules.Rname.{Rname}
use Rattle.vl_tree.specs.declared.modules.Rname.TheVariants as rname
use Rattle.vl_tree.specs.declared.modules.ParamWord.{ParamWord}
use Rattle.vl_tree.specs.declared.modules.ParamWord.TheVariants as word
use Rattle.vl_tree.specs.declared.modules.Item.{Item}
use Rattle.vl_tree.specs.declared.modules.Item.TheVariants as item
use Rattle.vl_tree.specs.declared.routines.Local.{Local}
use Rattle.vl_tree.specs.declared.routines.Local.TheVariants as local
use Rattle.vl_tree.specs.declared.routines.Args.{Args}
use Rattle.vl_tree.specs.declared.routines.Fdir.{Fdir}
use Rattle.vl_tree.specs.declared.routines.Task.{Task}
use Rattle.vl_tree.specs.declared.routines.Function.{Function}
use Rattle.vl_tree.specs.declared.statements.Stmt.{Stmt}
use Rattle.vl_tree.specs.declared.statements.Citem.TheOpen as stmt
use Rattle.vl_tree.specs.declared.statements.Citem.TheFolds.{fold-Stmt, fold-Citem}
use Rattle.vl_tree.specs.declared.statements.Citem.{Citem}
use Rattle.vl_tree.specs.declared.statements.Scope.{Scope}
use Rattle.vl_tree.specs.Words.{own_or, ptype_range, ptype_integer, dir_direction, dir_reg, dir_range, fdir_range, fdir_integer}
use Rattle.vl_tree.specs.Arguments.{PlainArgument, formal, locals, arguments_of}
use Rattle.vl_names.specs.declared.kinds.EntityKind.{EntityKind}
use Rattle.vl_names.specs.declared.kinds.EntityKind.TheVariants as kind
use Rattle.vl_names.specs.declared.kinds.Side.{Side}
use Rattle.vl_names.specs.declared.kinds.Side.TheVariants as side
use Rattle.vl_names.specs.declared.kinds.Declaration.{Declaration}

-- a thing of this kind whose name is this token, in this scope; whether it has bits to select; how instances reach it
abbrev pub declared : EntityKind → ℕ → ℕ → Bool → Side → Declaration
declared k at scope ranged s = record { entity = record { kind = k; at = at; scope = scope }; ranged = ranged; side = s }

abbrev pub inner : EntityKind → ℕ → ℕ → Bool → Declaration
inner k at scope ranged = declared k at scope ranged side.Inner

-- ---- local variables, formals and named blocks

abbrev pub local_declares : ℕ → Local → List Declaration
local_declares scope (local.Reg at signed range names) = map (λ n. inner kind.Var n scope (is_some range)) names
local_declares scope (local.Integer at names) = map (λ n. inner kind.Var n scope true) names

abbrev pub formal_ranged : Option Fdir → Bool
formal_ranged None = false
formal_ranged (Some words) = is_some (fdir_range words) || fdir_integer words

abbrev pub argument_declares : ℕ → PlainArgument → List Declaration
argument_declares scope (formal words name) = inner kind.Var name scope (formal_ranged words) ∷ []
argument_declares scope (locals l) = local_declares scope l

abbrev pub args_declare : ℕ → Args → List Declaration
args_declare scope args = flat_map (argument_declares scope) (arguments_of args)

-- a named block, and the variables of its own
abbrev pub block_declares : ℕ → Scope → List Declaration
block_declares scope block = inner kind.Block block.name scope false ∷ flat_map (local_declares block.name) block.locals

-- what a statement declares, where it stands in this scope
abbrev pub Declares : Type 0
Declares = ℕ → List Declaration

abbrev pub each : List Declares → Declares
each ds = λ scope. flat_map (λ d. d scope) ds

abbrev pub or_nothing : Option Declares → Declares
or_nothing None = λ scope. []
or_nothing (Some d) = d

abbrev pub stmt_step : stmt.Stmt-F Declares Declares → Declares
stmt_step (stmt.If at test first second) = λ scope. first scope ++ or_nothing second scope
stmt_step (stmt.Case at on arms) = each arms
stmt_step (stmt.For at name first test again next body) = body
stmt_step (stmt.While at test body) = body
stmt_step (stmt.Repeat at count body) = body
stmt_step (stmt.Forever at body) = body
stmt_step (stmt.Wait at edge clock body) = body
stmt_step (stmt.Block at None body) = each body
stmt_step (stmt.Block at (Some block) body) = λ scope. block_declares scope block ++ each body block.name
stmt_step _ = λ scope. []

abbrev pub arm_step : stmt.Citem-F Declares Declares → Declares
arm_step (stmt.Labels at labels body) = body
arm_step (stmt.Default at colon body) = body

abbrev pub stmt_declares : Stmt → Declares
stmt_declares = fold-Stmt Declares Declares arm_step stmt_step

abbrev pub arm_declares : Citem → Declares
arm_declares = fold-Citem Declares Declares arm_step stmt_step

-- ---- modules

abbrev pub header_declares : ℕ → List Pdecl → List Declaration
header_declares scope ps = map (λ p. declared kind.Param p.name scope false side.Parameter) ps

abbrev pub params_declare : ℕ → Option (List Pdecl) → List Declaration
params_declare scope None = []
params_declare scope (Some ps) = header_declares scope ps

abbrev pub side_of : Direction → Side
side_of direction.Input = side.Input
side_of direction.Output = side.Output

-- `output reg` declares a variable, every other port a net (12.3.3)
abbrev pub port_kind : Bool → EntityKind
port_kind true = kind.Var
port_kind false = kind.Net

abbrev pub port_declares : ℕ → Option Dir → ℕ → Declaration
port_declares scope None name = inner kind.Net name scope false
port_declares scope (Some words) name =
    declared (port_kind (dir_reg words)) name scope (is_some (dir_range words)) (side_of (dir_direction words))

-- ports with the words that hold at each, where these stand before them
abbrev pub ports_behind : ℕ → Option Dir → List Port → List Declaration
ports_behind scope before [] = []
ports_behind scope before (p ∷ ps) = port_declares scope (own_or p.dir before) p.name ∷ ports_behind scope (own_or p.dir before) ps

abbrev pub ports_declare : ℕ → Option (List Port) → List Declaration
ports_declare scope None = []
ports_declare scope (Some ps) = ports_behind scope None ps

abbrev pub param_side : ParamWord → Side
param_side word.Parameter = side.Parameter
param_side word.Localparam = side.Inner

abbrev pub rname_declares : ℕ → Bool → Rname → Declaration
rname_declares scope ranged (rname.Variable at name value) = inner kind.Var name scope ranged
rname_declares scope ranged (rname.Memory at name range) = inner kind.Memory name scope ranged

abbrev pub result_ranged : Ptype → Bool
result_ranged words = is_some (ptype_range words) || ptype_integer words

abbrev pub params_item_declares : ℕ → ParamWord → List Binding → List Declaration
params_item_declares scope w values = map (λ v. declared kind.Param v.name scope false (param_side w)) values

abbrev pub wires_declare : ℕ → Bool → List Declared → List Declaration
wires_declare scope ranged names = map (λ n. inner kind.Net n.name scope ranged) names

abbrev pub regs_declare : ℕ → Bool → List Rname → List Declaration
regs_declare scope ranged names = map (rname_declares scope ranged) names

abbrev pub integers_declare : ℕ → List Declared → List Declaration
integers_declare scope names = map (λ n. inner kind.Var n.name scope true) names

abbrev pub instances_declare : ℕ → List Instance → List Declaration
instances_declare scope instances = map (λ i. inner kind.Instance i.name scope false) instances

-- a task: its name, and in its own scope its formals, its locals and what its body declares
abbrev pub task_declares : ℕ → Task → List Declaration
task_declares scope t = inner kind.Task t.name scope false ∷ args_declare t.name t.args ++ stmt_declares t.body t.name

abbrev pub function_declares : ℕ → Function → List Declaration
function_declares scope f =
    inner kind.Function f.name scope (result_ranged f.ptype) ∷ args_declare f.name f.args ++ stmt_declares f.body f.name

abbrev pub item_declares : ℕ → Item → List Declaration
item_declares scope (item.Params at w ptype values) = params_item_declares scope w values
item_declares scope (item.Wires at signed range names) = wires_declare scope (is_some range) names
item_declares scope (item.Regs at signed range names) = regs_declare scope (is_some range) names
item_declares scope (item.Integers at names) = integers_declare scope names
item_declares scope (item.Assigns at values) = []
item_declares scope (item.Always at body) = stmt_declares body scope
item_declares scope (item.Initial at body) = stmt_declares body scope
item_declares scope (item.Task at t) = task_declares scope t
item_declares scope (item.Function at f) = function_declares scope f
item_declares scope (item.Import at i) = inner kind.Import i.name scope false ∷ []
item_declares scope (item.Instances at name params instances) = instances_declare scope instances

-- ---- sources

-- the name space of modules, for which a number stands that no token has
abbrev pub definitions : ℕ
definitions = 4294967295

-- a module, and all that it declares
abbrev pub module_declares : Module → List Declaration
module_declares m =
    inner kind.Module m.name definitions false ∷ params_declare m.name m.params ++ ports_declare m.name m.ports ++
    flat_map (item_declares m.name) m.items

-- all that a source declares, in the order of the text
abbrev pub tree_declares : Tree → List Declaration
tree_declares tree = flat_map module_declares tree.modules
