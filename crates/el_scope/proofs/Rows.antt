-- Small sources, worked by hand. Each token stands on the line of its number, so that a place tells its token.
use Rattle.std.proofs.Common.{◌≡◌, ℕ, zero, suc, List, [], ◌∷◌, ◌++◌, length, Option, Some, None, false, refl, ap, ◌∙◌}
use Rattle.std.specs.Prelude.{codes}
use Rattle.std.specs.Option.{option_map}
use Rattle.xt_base.specs.declared.refusals.Place.{Place}
use Rattle.xt_base.specs.declared.refusals.Refusal.{Refusal}
use Rattle.vl_tree.specs.declared.exprs.Expr.TheVariants as expr
use Rattle.vl_tree.specs.declared.exprs.Lvalue.TheVariants as lvalue
use Rattle.vl_tree.specs.declared.modules.Direction.TheVariants as direction
use Rattle.vl_tree.specs.declared.modules.Item.TheVariants as item
use Rattle.vl_tree.specs.declared.modules.Module.{Module}
use Rattle.vl_tree.specs.declared.modules.Ptype.TheVariants as ptype
use Rattle.vl_tree.specs.declared.modules.Rname.TheVariants as rname
use Rattle.vl_tree.specs.declared.routines.Arg.TheVariants as arg
use Rattle.vl_tree.specs.declared.routines.Args.TheVariants as args
use Rattle.vl_tree.specs.declared.routines.Fdir.TheVariants as fdir
use Rattle.vl_tree.specs.declared.routines.Local.TheVariants as local
use Rattle.vl_tree.specs.declared.statements.Scope.{Scope}
use Rattle.vl_tree.specs.declared.statements.Stmt.{Stmt}
use Rattle.vl_tree.specs.declared.statements.Stmt.TheVariants as stmt
use Rattle.vl_names.specs.Declarations.{inner, stmt_declares, tree_declares, definitions}
use Rattle.el_scope.specs.Declaring.{declaration_breaks}
use Rattle.el_scope.specs.Lookup.{resolve}
use Rattle.el_scope.specs.Nesting.{scope_at}
use Rattle.el_scope.specs.Table.{SymbolTable}
use Rattle.vl_names.specs.declared.kinds.Declaration.{Declaration}
use Rattle.vl_names.specs.declared.kinds.EntityKind.TheVariants as kind
use Rattle.vl_names.proofs.Equations.{blocking_declares, block_declares, named_block_declares}

abbrev line : ℕ → Place
line n = record { file = 0; line = n; instance = 0 }

-- the places of so many tokens
abbrev lines : ℕ → List Place
lines zero = []
lines (suc n) = lines n ++ line n ∷ []

abbrev pub table_of : List (List ℕ) → List Declaration → SymbolTable
table_of words ds = record { files = codes "f" ∷ []; names = words; places = lines (length words); declarations = ds }

abbrev table : List (List ℕ) → List Module → SymbolTable
table words modules = table_of words (tree_declares (record { modules = modules }))

abbrev pub breaks : ℕ → ℕ → Refusal
breaks rule token = record { rule = record { 0 = rule }; place = record { file = 0; line = token; instance = 0 } }

-- where a name is declared that stands in a scope
abbrev means : SymbolTable → ℕ → List ℕ → Option ℕ
means t scope name = option_map (λ d. d.entity.at) (resolve t scope name)

-- ---- `module m; reg A, B; endmodule`: a second name of a scope is refused at the second, a name that begins with `xtc_` where it stands

abbrev two_regs : List ℕ → List ℕ → SymbolTable
two_regs a b = table
    (codes "module" ∷ codes "m" ∷ codes ";" ∷ codes "reg" ∷ a ∷ codes "," ∷ b ∷ codes ";" ∷ codes "endmodule" ∷ [])
    (record { at = 0; name = 1; params = None; ports = None; items = item.Regs 3 false None (rname.Variable 4 4 None ∷ rname.Variable 6 6 None ∷ []) ∷ [] } ∷ [])

names_apart : declaration_breaks (two_regs (codes "x") (codes "y")) ≡ []
names_apart = refl

name_twice : declaration_breaks (two_regs (codes "x") (codes "x")) ≡ breaks 31 6 ∷ []
name_twice = refl

-- a variable may have its module's name, which stands in the name space of modules
name_of_the_module : declaration_breaks (two_regs (codes "m") (codes "y")) ≡ []
name_of_the_module = refl

name_kept : declaration_breaks (two_regs (codes "x") (codes "xtc_")) ≡ breaks 37 6 ∷ []
name_kept = refl

name_nearly_kept : declaration_breaks (two_regs (codes "xtc") (codes "xtcc_n")) ≡ []
name_nearly_kept = refl

name_twice_and_kept : declaration_breaks (two_regs (codes "xtc_n") (codes "xtc_n")) ≡ breaks 37 4 ∷ breaks 31 6 ∷ breaks 37 6 ∷ []
name_twice_and_kept = refl

-- ---- `module A; endmodule module B; endmodule`

abbrev two_modules : List ℕ → List ℕ → SymbolTable
two_modules a b = table
    (codes "module" ∷ a ∷ codes ";" ∷ codes "endmodule" ∷ codes "module" ∷ b ∷ codes ";" ∷ codes "endmodule" ∷ [])
    (record { at = 0; name = 1; params = None; ports = None; items = [] } ∷ record { at = 4; name = 5; params = None; ports = None; items = [] } ∷ [])

modules_apart : declaration_breaks (two_modules (codes "a") (codes "b")) ≡ []
modules_apart = refl

module_twice : declaration_breaks (two_modules (codes "a") (codes "a")) ≡ breaks 31 5 ∷ []
module_twice = refl

-- each module has its own scope, and knows the others
scope_of_first : scope_at (two_modules (codes "a") (codes "b")) 2 ≡ Some 1
scope_of_first = refl

scope_of_second : scope_at (two_modules (codes "a") (codes "b")) 7 ≡ Some 5
scope_of_second = refl

between_modules : scope_at (two_modules (codes "a") (codes "b")) 4 ≡ None
between_modules = refl

other_module : means (two_modules (codes "a") (codes "b")) 5 (codes "a") ≡ Some 1
other_module = refl

no_module : means (two_modules (codes "a") (codes "b")) 5 (codes "c") ≡ None
no_module = refl

-- ---- a function whose formal is named F, with a block in a block:
-- `module m; reg x; function f; input F; begin begin : b reg x; f = x; end f = f; end endfunction endmodule`
--     0    1 2  3  4 5    6    7 8   9  10 11  12  13 14 15 16 17 18 19 20 21 22 23 24 25 26 27 28   29      30

abbrev block_b : Scope
block_b = record { at = 14; name = 15; locals = local.Reg 16 false None (17 ∷ []) ∷ [] }

abbrev in_block : Stmt
in_block = stmt.Blocking 19 (lvalue.Name 19 19 []) (expr.Name 21 21 [])

abbrev after_block : Stmt
after_block = stmt.Blocking 24 (lvalue.Name 24 24 []) (expr.Name 26 26 [])

abbrev in_function : Stmt
in_function = stmt.Block 12 None (stmt.Block 13 (Some block_b) (in_block ∷ []) ∷ after_block ∷ [])

abbrev function_module : Module
function_module = record {
  at = 0;
  name = 1;
  params = None;
  ports = None;
  items =
      item.Regs 3 false None (rname.Variable 4 4 None ∷ []) ∷
      item.Function 6 (record {
        at = 6;
        ptype = ptype.Vector 7 false None;
        name = 7;
        args = args.Declared 8 (arg.Formals 9 (fdir.Vector 9 direction.Input false false None) (10 ∷ []) ∷ []);
        body = in_function;
      }) ∷ [];
}

abbrev function_declarations : List Declaration
function_declarations =
    inner kind.Module 1 definitions false ∷ inner kind.Var 4 1 false ∷ inner kind.Function 7 1 false ∷ inner kind.Var 10 7 false ∷
    inner kind.Block 15 7 false ∷ inner kind.Var 17 15 false ∷ []

body_declares : stmt_declares in_function 7 ≡ inner kind.Block 15 7 false ∷ inner kind.Var 17 15 false ∷ []
body_declares =
    ap (λ d. d 7) (block_declares 12 (stmt.Block 13 (Some block_b) (in_block ∷ []) ∷ after_block ∷ []))
    ∙ ap (λ d. d 7 ++ (stmt_declares after_block 7 ++ [])) (named_block_declares 13 block_b (in_block ∷ []))
    ∙ ap (λ d. inner kind.Block 15 7 false ∷ inner kind.Var 17 15 false ∷ ((d 15 ++ []) ++ (stmt_declares after_block 7 ++ []))) (blocking_declares 19 (lvalue.Name 19 19 []) (expr.Name 21 21 []))
    ∙ ap (λ d. inner kind.Block 15 7 false ∷ inner kind.Var 17 15 false ∷ (d 7 ++ [])) (blocking_declares 24 (lvalue.Name 24 24 []) (expr.Name 26 26 []))

-- what it declares, in the order of the text
function_declares : tree_declares (record { modules = function_module ∷ [] }) ≡ function_declarations
function_declares =
    ap (λ ds. inner kind.Module 1 definitions false ∷ inner kind.Var 4 1 false ∷ inner kind.Function 7 1 false ∷ inner kind.Var 10 7 false ∷ (ds ++ []) ++ []) body_declares

abbrev pub one_function : List ℕ → SymbolTable
one_function formal = table_of
    (codes "module" ∷ codes "m" ∷ codes ";" ∷ codes "reg" ∷ codes "x" ∷ codes ";" ∷ codes "function" ∷ codes "f" ∷ codes ";" ∷
    codes "input" ∷ formal ∷ codes ";" ∷ codes "begin" ∷ codes "begin" ∷ codes ":" ∷ codes "b" ∷ codes "reg" ∷ codes "x" ∷ codes ";" ∷
    codes "f" ∷ codes "=" ∷ codes "x" ∷ codes ";" ∷ codes "end" ∷ codes "f" ∷ codes "=" ∷ codes "f" ∷ codes ";" ∷ codes "end" ∷
    codes "endfunction" ∷ codes "endmodule" ∷ [])
    function_declarations

-- a formal may have the function's name, or that of a variable of the module, and the block's variable that of either
formal_apart : declaration_breaks (one_function (codes "a")) ≡ []
formal_apart = refl

formal_as_function : declaration_breaks (one_function (codes "f")) ≡ []
formal_as_function = refl

-- in the function its name is its result, unless a formal hides it
result_inside : means (one_function (codes "a")) 15 (codes "f") ≡ Some 7
result_inside = refl

result_hidden : means (one_function (codes "f")) 15 (codes "f") ≡ Some 10
result_hidden = refl

-- the innermost scope that has the name
variable_of_block : means (one_function (codes "a")) 15 (codes "x") ≡ Some 17
variable_of_block = refl

variable_of_module : means (one_function (codes "a")) 7 (codes "x") ≡ Some 4
variable_of_module = refl

-- what is declared in a block isn't known round it
formal_outside : means (one_function (codes "a")) 1 (codes "a") ≡ None
formal_outside = refl

-- the name of a function stands in the scope round it, and what follows in its own; a block without a name has none
scope_of_name : scope_at (one_function (codes "a")) 7 ≡ Some 1
scope_of_name = refl

scope_of_header : scope_at (one_function (codes "a")) 10 ≡ Some 7
scope_of_header = refl

scope_in_unnamed : scope_at (one_function (codes "a")) 13 ≡ Some 7
scope_in_unnamed = refl

scope_in_named : scope_at (one_function (codes "a")) 19 ≡ Some 15
scope_in_named = refl

scope_behind_named : scope_at (one_function (codes "a")) 24 ≡ Some 7
scope_behind_named = refl

scope_behind_function : scope_at (one_function (codes "a")) 30 ≡ Some 1
scope_behind_function = refl
