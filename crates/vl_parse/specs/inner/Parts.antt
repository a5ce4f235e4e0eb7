-- Reading parts of modules in fewer steps: what ends in a token is read with it, and no more than one tree is held while
-- another is read.
use Rattle.std.specs.Prelude.{ℕ, ◌+◌, List, Option, Ok, Err, slice_get, if◌then◌else◌}
use Rattle.vl_tree.specs.declared.terminals.Terminal.{Terminal}
use Rattle.vl_tree.specs.declared.terminals.Terminal.TheVariants as lex
use Rattle.vl_tree.specs.declared.modules.Range.{Range}
use Rattle.vl_tree.specs.declared.modules.Item.{Item}
use Rattle.vl_tree.specs.declared.modules.Item.TheVariants as item
use Rattle.vl_tree.specs.declared.modules.Pdecl.{Pdecl}
use Rattle.vl_tree.specs.declared.modules.Port.{Port}
use Rattle.vl_tree.specs.declared.modules.Module.{Module}
use Rattle.vl_tree.specs.declared.routines.Local.{Local}
use Rattle.vl_tree.specs.declared.routines.Local.TheVariants as local
use Rattle.vl_tree.specs.declared.routines.Formal.{Formal}
use Rattle.vl_tree.specs.declared.routines.Arg.{Arg}
use Rattle.vl_tree.specs.declared.routines.Arg.TheVariants as arg
use Rattle.vl_tree.specs.declared.routines.Args.{Args}
use Rattle.vl_tree.specs.declared.routines.Args.TheVariants as args
use Rattle.vl_tree.specs.declared.routines.Task.{Task}
use Rattle.vl_tree.specs.declared.routines.Function.{Function}
use Rattle.vl_tree.specs.declared.statements.Stmt.{Stmt}
use Rattle.vl_tree.specs.Lists.{first_led}
use Rattle.vl_expr.specs.Classes.{is_at}
use Rattle.vl_expr.specs.Reading.{Reading, ◌>>=◌, past}
use Rattle.vl_parse.specs.declared.part.Part.{Part}
use Rattle.vl_parse.specs.declared.classes.ItemStart.{ItemStart}
use Rattle.vl_parse.specs.declared.classes.ItemStart.TheVariants as start
use Rattle.vl_parse.specs.Parts.{part, named, separated_of, listed_of, many_of, maybe_of}
use Rattle.vl_parse.specs.Declarations.{expr_at, binding_of, size_of, ptype_of, names_of, integers_of, opens_local, local_of}
use Rattle.vl_parse.specs.Statements.{stmt_of}
use Rattle.vl_parse.specs.Routines.{fdir_of, formal_of, declared_args, args_of, inputs_of, opens_dir}
use Rattle.vl_parse.specs.Modules.{lead_of, opens_lead, dir_of, declared_of, rname_of, override_of, opens_params, instance_of, item_by, params_of, ports_of, opens_ports, items_of}
use Rattle.vl_parse.specs.inner.Steps.{pair_of, ended_of, made_of}

-- "[" expr ":" expr "]"
abbrev pub range_by : List Terminal → ℕ → ℕ → Reading (Part Range)
range_by ls n at =
    past ls at lex.OpenBracket
    (ended_of ls lex.Colon (expr_at ls n) (at + 1) >>= λ msb. ended_of ls lex.CloseBracket (expr_at ls n) msb.end >>= λ lsb.
    Ok (part (record { at = at; msb = msb.tree; lsb = lsb.tree }) lsb.end))

-- "reg" [ "signed" ] [ range ] ID { "," ID } ";"
abbrev pub regs_by : List Terminal → ℕ → ℕ → Reading (Part Local)
regs_by ls n at =
    past ls at lex.Reg
    (made_of (λ t. local.Reg at t.0.signed t.0.range t.1) (ended_of ls lex.Semicolon (pair_of (size_of ls n) (names_of ls)) (at + 1)))

abbrev pub local_by : List Terminal → ℕ → ℕ → Reading (Part Local)
local_by ls n at = if is_at ls at lex.Integer then integers_of ls at else regs_by ls n at

-- fdir ID { "," ID } ";"
abbrev pub formals_by : List Terminal → ℕ → ℕ → Reading (Part Arg)
formals_by ls n at = made_of (λ t. arg.Formals at t.0 t.1) (ended_of ls lex.Semicolon (pair_of (fdir_of ls n) (names_of ls)) at)

abbrev pub arg_by : List Terminal → ℕ → ℕ → Reading (Part Arg)
arg_by ls n at =
    if opens_dir (slice_get ls at) then formals_by ls n at else (local_of ls n at >>= λ l. Ok (part (arg.Local at l.tree) l.end))

-- [ formal { "," formal } ] ")"
abbrev pub formal_list : List Terminal → ℕ → ℕ → Reading (Part (List Formal))
formal_list ls n at =
    listed_of ls (formal_of ls n) at >>= λ all. past ls all.end lex.CloseParen
    (if first_led (λ f. f.fdir) all.tree then Ok (part all.tree (all.end + 1)) else Err at)

-- ";" { local }
abbrev pub locals_by : List Terminal → ℕ → ℕ → Reading (Part (List Local))
locals_by ls n at = past ls at lex.Semicolon (many_of ls opens_local (local_of ls n) (at + 1))

abbrev pub listed_by : List Terminal → ℕ → ℕ → Reading (Part Args)
listed_by ls n at =
    formal_list ls n (at + 1) >>= λ formals. locals_by ls n formals.end >>= λ locals.
    Ok (part (args.Listed at formals.tree locals.tree) locals.end)

abbrev pub args_by : List Terminal → ℕ → ℕ → Reading (Part Args)
args_by ls n at = if is_at ls at lex.OpenParen then listed_by ls n at else declared_args ls n at

-- args stmt "endtask"
abbrev pub task_by : List Terminal → List (List ℕ) → ℕ → ℕ → Reading (Part Task)
task_by ls names n at =
    past ls at lex.Task (named ls (at + 1)
    (made_of (λ t. record { at = at; name = at + 1; args = t.0; body = t.1 })
    (ended_of ls lex.Endtask (pair_of (args_of ls n) (stmt_of ls names n)) (at + 2))))

-- args stmt "endfunction", behind the type
abbrev pub body_by : List Terminal → List (List ℕ) → ℕ → ℕ → Reading (Part (Args × Stmt))
body_by ls names n at =
    inputs_of ls n at >>= λ all. ended_of ls lex.Endfunction (stmt_of ls names n) all.end >>= λ s. Ok (part (all.tree, s.tree) s.end)

abbrev pub function_by : List Terminal → List (List ℕ) → ℕ → ℕ → Reading (Part Function)
function_by ls names n at =
    past ls at lex.Function
    (ptype_of ls n (at + 1) >>= λ t. body_by ls names n t.end >>= λ b.
    Ok (part (record { at = at; ptype = t.tree; name = t.end; args = b.tree.0; body = b.tree.1 }) b.end))

-- [ "parameter" ptype ] ID "=" expr
abbrev pub pdecl_by : List Terminal → ℕ → ℕ → Reading (Part Pdecl)
pdecl_by ls n at =
    maybe_of ls opens_lead (lead_of ls n) at >>= λ t. binding_of ls n t.end >>= λ b.
    Ok (part (record { at = at; ptype = t.tree; name = b.tree.name; value = b.tree.value }) b.end)

-- [ dir ] ID [ "=" expr ]
abbrev pub port_by : List Terminal → ℕ → ℕ → Reading (Part Port)
port_by ls n at =
    maybe_of ls opens_dir (dir_of ls n) at >>= λ d. declared_of ls n d.end >>= λ b.
    Ok (part (record { at = at; dir = d.tree; name = b.tree.name; value = b.tree.value }) b.end)

-- an item, by its first tokens
abbrev pub item_read : List Terminal → List (List ℕ) → ℕ → ℕ → ItemStart → Reading (Part Item)
item_read ls names n at (start.Params w) =
    made_of (λ t. item.Params at w t.0 t.1) (ended_of ls lex.Semicolon (pair_of (ptype_of ls n) (separated_of ls lex.Comma (binding_of ls n))) (at + 1))
item_read ls names n at start.Wires =
    made_of (λ t. item.Wires at t.0.signed t.0.range t.1)
    (ended_of ls lex.Semicolon (pair_of (size_of ls n) (separated_of ls lex.Comma (declared_of ls n))) (at + 1))
item_read ls names n at start.Regs =
    made_of (λ t. item.Regs at t.0.signed t.0.range t.1)
    (ended_of ls lex.Semicolon (pair_of (size_of ls n) (separated_of ls lex.Comma (rname_of ls n))) (at + 1))
item_read ls names n at start.Integers = made_of (item.Integers at) (ended_of ls lex.Semicolon (separated_of ls lex.Comma (declared_of ls n)) (at + 1))
item_read ls names n at start.Assigns = made_of (item.Assigns at) (ended_of ls lex.Semicolon (separated_of ls lex.Comma (binding_of ls n)) (at + 1))
item_read ls names n at start.Instances =
    maybe_of ls opens_params (override_of ls n) (at + 1) >>= λ c.
    ended_of ls lex.Semicolon (separated_of ls lex.Comma (instance_of ls n)) c.end >>= λ all.
    Ok (part (item.Instances at at c.tree all.tree) all.end)
item_read ls names n at start.Always = item_by ls names n at start.Always
item_read ls names n at start.Initial = item_by ls names n at start.Initial
item_read ls names n at start.Task = item_by ls names n at start.Task
item_read ls names n at start.Function = item_by ls names n at start.Function
item_read ls names n at start.Import = item_by ls names n at start.Import
item_read ls names n at start.Nothing = Err at

-- [ "(" ports ")" ] ";"
abbrev pub port_list : List Terminal → ℕ → ℕ → Reading (Part (Option (List Port)))
port_list ls n at = maybe_of ls opens_ports (ports_of ls n) at >>= λ all. past ls all.end lex.Semicolon (Ok (part all.tree (all.end + 1)))

-- the parameters and ports of a module
abbrev pub header_by : List Terminal → ℕ → ℕ → Reading (Part (Option (List Pdecl) × Option (List Port)))
header_by ls n at =
    maybe_of ls opens_params (params_of ls n) at >>= λ params. port_list ls n params.end >>= λ ports. Ok (part (params.tree, ports.tree) ports.end)

abbrev pub module_by : List Terminal → List (List ℕ) → ℕ → ℕ → Reading (Part Module)
module_by ls names n at =
    past ls at lex.Module (named ls (at + 1)
    (header_by ls n (at + 2) >>= λ h. items_of ls names n h.end >>= λ items.
    Ok (part (record { at = at; name = at + 1; params = h.tree.0; ports = h.tree.1; items = items.tree }) items.end)))
