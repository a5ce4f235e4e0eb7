-- Reading modules and their items from the place where they begin, and a source. Nothing in them is deeper than n. It is
-- this project's own.
use Rattle.std.specs.Prelude.{◌≡◌, ◌&&◌, ◌||◌, ℕ, zero, suc, ◌+◌, not, List, [], ◌∷◌, Option, Some, None, Bool, true, false, Ok, Err, slice_get, is_some, is_none, if◌then◌else◌}
use Rattle.vl_tree.specs.declared.terminals.Terminal.{Terminal}
use Rattle.vl_tree.specs.declared.terminals.Terminal.TheVariants as lex
use Rattle.vl_tree.specs.declared.exprs.Expr.{Expr}
use Rattle.vl_tree.specs.declared.modules.Tree.{Tree}
use Rattle.vl_tree.specs.declared.modules.Module.{Module}
use Rattle.vl_tree.specs.declared.modules.Pdecl.{Pdecl}
use Rattle.vl_tree.specs.declared.modules.Ptype.{Ptype}
use Rattle.vl_tree.specs.declared.modules.Port.{Port}
use Rattle.vl_tree.specs.declared.modules.Dir.{Dir}
use Rattle.vl_tree.specs.declared.modules.Dir.TheVariants as dir
use Rattle.vl_tree.specs.declared.modules.Direction.{Direction}
use Rattle.vl_tree.specs.declared.modules.Item.{Item}
use Rattle.vl_tree.specs.declared.modules.Item.TheVariants as item
use Rattle.vl_tree.specs.declared.modules.ParamWord.{ParamWord}
use Rattle.vl_tree.specs.declared.modules.ParamWord.TheVariants as word
use Rattle.vl_tree.specs.declared.modules.Binding.{Binding}
use Rattle.vl_tree.specs.declared.modules.Declared.{Declared}
use Rattle.vl_tree.specs.declared.modules.Rname.{Rname}
use Rattle.vl_tree.specs.declared.modules.Rname.TheVariants as rname
use Rattle.vl_tree.specs.declared.modules.Instance.{Instance}
use Rattle.vl_tree.specs.declared.modules.Conns.{Conns}
use Rattle.vl_tree.specs.declared.modules.Conns.TheVariants as conns
use Rattle.vl_tree.specs.declared.modules.Named.{Named}
use Rattle.vl_tree.specs.Places.{is_name}
use Rattle.vl_tree.specs.Lists.{first_led}
use Rattle.vl_tree.specs.Modules.{is_output_reg, values_fit}
use Rattle.vl_expr.specs.Classes.{is_at, is_in}
use Rattle.vl_expr.specs.Reading.{Reading, ◌>>=◌, past}
use Rattle.vl_parse.specs.declared.part.Part.{Part}
use Rattle.vl_parse.specs.declared.classes.ItemStart.{ItemStart}
use Rattle.vl_parse.specs.declared.classes.ItemStart.TheVariants as start
use Rattle.vl_parse.specs.Parts.{part, behind, named, separated_of, listed_of, many_of, maybe_of}
use Rattle.vl_parse.specs.Declarations.{expr_at, exprs_at, value_of, opens_value, binding_of, range_of, size_of, ptype_of}
use Rattle.vl_parse.specs.Statements.{stmt_of}
use Rattle.vl_parse.specs.Routines.{direction_of, opens_dir, task_of, function_of, import_of}

-- [ "=" expr ]
abbrev pub default_of : List Terminal → ℕ → ℕ → Reading (Part (Option Expr))
default_of ls n at = maybe_of ls opens_value (value_of ls n) at

-- "parameter" ptype
abbrev pub lead_of : List Terminal → ℕ → ℕ → Reading (Part Ptype)
lead_of ls n at = past ls at lex.Parameter (ptype_of ls n (at + 1))

abbrev pub opens_lead : Option Terminal → Bool
opens_lead o = is_in o lex.Parameter

-- pdecl
abbrev pub pdecl_of : List Terminal → ℕ → ℕ → Reading (Part Pdecl)
pdecl_of ls n at =
    maybe_of ls opens_lead (lead_of ls n) at >>= λ t. named ls t.end
    (value_of ls n (t.end + 1) >>= λ e.
    Ok (part (record { at = at; ptype = t.tree; name = t.end; value = e.tree }) e.end))

-- ( "input" | "output" ) [ "wire" ] [ "signed" ] [ range ]
abbrev pub net_of : List Terminal → ℕ → ℕ → Direction → Reading (Part Dir)
net_of ls n at d =
    size_of ls n (behind ls lex.Wire (at + 1)) >>= λ size.
    Ok (part (dir.Net at d (is_at ls (at + 1) lex.Wire) size.tree.signed size.tree.range) size.end)

-- "output" "reg" [ "signed" ] [ range ]
abbrev pub reg_of : List Terminal → ℕ → ℕ → Reading (Part Dir)
reg_of ls n at = size_of ls n (at + 2) >>= λ size. Ok (part (dir.Reg at size.tree.signed size.tree.range) size.end)

abbrev pub dir_by : List Terminal → ℕ → ℕ → Option Direction → Reading (Part Dir)
dir_by ls n at None = Err at
dir_by ls n at (Some d) = if is_at ls at lex.Output && is_at ls (at + 1) lex.Reg then reg_of ls n at else net_of ls n at d

-- dir
abbrev pub dir_of : List Terminal → ℕ → ℕ → Reading (Part Dir)
dir_of ls n at = dir_by ls n at (direction_of (slice_get ls at))

-- port
abbrev pub port_of : List Terminal → ℕ → ℕ → Reading (Part Port)
port_of ls n at =
    maybe_of ls opens_dir (dir_of ls n) at >>= λ d. named ls d.end
    (default_of ls n (d.end + 1) >>= λ e.
    Ok (part (record { at = at; dir = d.tree; name = d.end; value = e.tree }) e.end))

-- ID [ "=" expr ]
abbrev pub declared_of : List Terminal → ℕ → ℕ → Reading (Part Declared)
declared_of ls n at =
    named ls at (default_of ls n (at + 1) >>= λ e. Ok (part (record { at = at; name = at; value = e.tree }) e.end))

abbrev pub memory_of : List Terminal → ℕ → ℕ → Reading (Part Rname)
memory_of ls n at = range_of ls n (at + 1) >>= λ r. Ok (part (rname.Memory at at r.tree) r.end)

abbrev pub variable_of : List Terminal → ℕ → ℕ → Reading (Part Rname)
variable_of ls n at = default_of ls n (at + 1) >>= λ e. Ok (part (rname.Variable at at e.tree) e.end)

-- rname
abbrev pub rname_of : List Terminal → ℕ → ℕ → Reading (Part Rname)
rname_of ls n at =
    named ls at (if is_at ls (at + 1) lex.OpenBracket then memory_of ls n at else variable_of ls n at)

-- whether something stands before a closing parenthesis
abbrev pub opens_any : Option Terminal → Bool
opens_any o = not (is_in o lex.CloseParen)

-- named
abbrev pub named_of : List Terminal → ℕ → ℕ → Reading (Part Named)
named_of ls n at =
    past ls at lex.Dot (named ls (at + 1) (past ls (at + 2) lex.OpenParen
    (maybe_of ls opens_any (expr_at ls n) (at + 3) >>= λ e. past ls e.end lex.CloseParen
    (Ok (part (record { at = at; name = at + 1; value = e.tree }) (e.end + 1))))))

-- conns
abbrev pub conns_of : List Terminal → ℕ → ℕ → Reading (Part Conns)
conns_of ls n at =
    if is_at ls at lex.Dot
    then (separated_of ls lex.Comma (named_of ls n) at >>= λ all. Ok (part (conns.Named at all.tree) all.end))
    else (exprs_at ls n at >>= λ es. Ok (part (conns.Ordered at es.tree) es.end))

-- "#" "(" conns ")"
abbrev pub override_of : List Terminal → ℕ → ℕ → Reading (Part Conns)
override_of ls n at =
    past ls at lex.Hash (past ls (at + 1) lex.OpenParen
    (conns_of ls n (at + 2) >>= λ c. past ls c.end lex.CloseParen (Ok (part c.tree (c.end + 1)))))

abbrev pub opens_params : Option Terminal → Bool
opens_params o = is_in o lex.Hash

-- ID "(" [ conns ] ")"
abbrev pub instance_of : List Terminal → ℕ → ℕ → Reading (Part Instance)
instance_of ls n at =
    named ls at (past ls (at + 1) lex.OpenParen
    (maybe_of ls opens_any (conns_of ls n) (at + 2) >>= λ c. past ls c.end lex.CloseParen
    (Ok (part (record { at = at; name = at; conns = c.tree }) (c.end + 1)))))

-- what the first two tokens of an item begin
abbrev pub item_start : Option Terminal → Bool → ItemStart
item_start None dpi = start.Nothing
item_start (Some lex.Parameter) dpi = start.Params word.Parameter
item_start (Some lex.Localparam) dpi = start.Params word.Localparam
item_start (Some lex.Wire) dpi = start.Wires
item_start (Some lex.Reg) dpi = start.Regs
item_start (Some lex.Integer) dpi = start.Integers
item_start (Some lex.Assign) dpi = start.Assigns
item_start (Some lex.Always) dpi = start.Always
item_start (Some lex.Initial) dpi = start.Initial
item_start (Some lex.Task) dpi = start.Task
item_start (Some lex.Function) dpi = start.Function
item_start (Some lex.Import) true = start.Import
item_start (Some x) dpi = if is_name x then start.Instances else start.Nothing

abbrev pub params_item : List Terminal → ℕ → ℕ → ParamWord → Reading (Part Item)
params_item ls n at w =
    ptype_of ls n (at + 1) >>= λ t. separated_of ls lex.Comma (binding_of ls n) t.end >>= λ all.
    past ls all.end lex.Semicolon (Ok (part (item.Params at w t.tree all.tree) (all.end + 1)))

abbrev pub wires_item : List Terminal → ℕ → ℕ → Reading (Part Item)
wires_item ls n at =
    size_of ls n (at + 1) >>= λ size. separated_of ls lex.Comma (declared_of ls n) size.end >>= λ all.
    past ls all.end lex.Semicolon
    (Ok (part (item.Wires at size.tree.signed size.tree.range all.tree) (all.end + 1)))

abbrev pub regs_item : List Terminal → ℕ → ℕ → Reading (Part Item)
regs_item ls n at =
    size_of ls n (at + 1) >>= λ size. separated_of ls lex.Comma (rname_of ls n) size.end >>= λ all.
    past ls all.end lex.Semicolon
    (Ok (part (item.Regs at size.tree.signed size.tree.range all.tree) (all.end + 1)))

abbrev pub integers_item : List Terminal → ℕ → ℕ → Reading (Part Item)
integers_item ls n at =
    separated_of ls lex.Comma (declared_of ls n) (at + 1) >>= λ all.
    past ls all.end lex.Semicolon (Ok (part (item.Integers at all.tree) (all.end + 1)))

abbrev pub assigns_item : List Terminal → ℕ → ℕ → Reading (Part Item)
assigns_item ls n at =
    separated_of ls lex.Comma (binding_of ls n) (at + 1) >>= λ all.
    past ls all.end lex.Semicolon (Ok (part (item.Assigns at all.tree) (all.end + 1)))

abbrev pub instances_item : List Terminal → ℕ → ℕ → Reading (Part Item)
instances_item ls n at =
    maybe_of ls opens_params (override_of ls n) (at + 1) >>= λ c.
    separated_of ls lex.Comma (instance_of ls n) c.end >>= λ all.
    past ls all.end lex.Semicolon (Ok (part (item.Instances at at c.tree all.tree) (all.end + 1)))

abbrev pub item_by : List Terminal → List (List ℕ) → ℕ → ℕ → ItemStart → Reading (Part Item)
item_by ls names n at (start.Params w) = params_item ls n at w
item_by ls names n at start.Wires = wires_item ls n at
item_by ls names n at start.Regs = regs_item ls n at
item_by ls names n at start.Integers = integers_item ls n at
item_by ls names n at start.Assigns = assigns_item ls n at
item_by ls names n at start.Always = stmt_of ls names n (at + 1) >>= λ s. Ok (part (item.Always at s.tree) s.end)
item_by ls names n at start.Initial = stmt_of ls names n (at + 1) >>= λ s. Ok (part (item.Initial at s.tree) s.end)
item_by ls names n at start.Task = task_of ls names n at >>= λ t. Ok (part (item.Task at t.tree) t.end)
item_by ls names n at start.Function = function_of ls names n at >>= λ f. Ok (part (item.Function at f.tree) f.end)
item_by ls names n at start.Import = import_of ls n at >>= λ i. Ok (part (item.Import at i.tree) i.end)
item_by ls names n at start.Instances = instances_item ls n at
item_by ls names n at start.Nothing = Err at

-- item
abbrev pub item_of : List Terminal → List (List ℕ) → ℕ → ℕ → Reading (Part Item)
item_of ls names n at = item_by ls names n at (item_start (slice_get ls at) (is_at ls (at + 1) lex.Dpi))

abbrev pub opens_item : Option Terminal → Bool
opens_item o = is_some o && not (is_in o lex.Endmodule)

-- "#" "(" pdecl { "," pdecl } ")"
abbrev pub params_of : List Terminal → ℕ → ℕ → Reading (Part (List Pdecl))
params_of ls n at =
    past ls at lex.Hash (past ls (at + 1) lex.OpenParen
    (separated_of ls lex.Comma (pdecl_of ls n) (at + 2) >>= λ all. past ls all.end lex.CloseParen
    (if first_led (λ p. p.ptype) all.tree then Ok (part all.tree (all.end + 1)) else Err (at + 2))))

-- the name of the first port with a value that may not have one
abbrev pub misfit : Bool → List Port → ℕ
misfit before [] = 0
misfit before (p ∷ ps) =
    if is_none p.value || is_output_reg before p.dir then misfit (is_output_reg before p.dir) ps else p.name

-- "(" [ port { "," port } ] ")"
abbrev pub ports_of : List Terminal → ℕ → ℕ → Reading (Part (List Port))
ports_of ls n at =
    past ls at lex.OpenParen
    (listed_of ls (port_of ls n) (at + 1) >>= λ all. past ls all.end lex.CloseParen
    (if first_led (λ p. p.dir) all.tree
    then (if values_fit false all.tree then Ok (part all.tree (all.end + 1)) else Err (misfit false all.tree))
    else Err (at + 1)))

abbrev pub opens_ports : Option Terminal → Bool
opens_ports o = is_in o lex.OpenParen

-- { item } "endmodule"
abbrev pub items_of : List Terminal → List (List ℕ) → ℕ → ℕ → Reading (Part (List Item))
items_of ls names n at =
    many_of ls opens_item (item_of ls names n) at >>= λ all.
    past ls all.end lex.Endmodule (Ok (part all.tree (all.end + 1)))

-- module
abbrev pub module_of : List Terminal → List (List ℕ) → ℕ → ℕ → Reading (Part Module)
module_of ls names n at =
    past ls at lex.Module (named ls (at + 1)
    (maybe_of ls opens_params (params_of ls n) (at + 2) >>= λ params.
    maybe_of ls opens_ports (ports_of ls n) params.end >>= λ ports. past ls ports.end lex.Semicolon
    (items_of ls names n (ports.end + 1) >>= λ items.
    Ok (part (record { at = at; name = at + 1; params = params.tree; ports = ports.tree; items = items.tree }) items.end))))

abbrev pub opens_module : Option Terminal → Bool
opens_module o = is_some o

-- source
abbrev pub source_of : List Terminal → List (List ℕ) → ℕ → Reading Tree
source_of ls names n =
    many_of ls opens_module (module_of ls names n) 0 >>= λ all.
    if is_some (slice_get ls all.end) then Err all.end else Ok (record { modules = all.tree })
