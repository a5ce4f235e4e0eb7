-- In which scope the names of an expression stand, and before which token a parameter in it has to be declared: each form that holds an
-- expression, with any expression in it. The module is that of token 1.
use Rattle.std.proofs.Common.{◌≡◌, ◌++◌, ℕ, List, [], ◌∷◌, Some, None, false, refl}
use Rattle.vl_tree.specs.declared.exprs.Expr.{Expr}
use Rattle.vl_tree.specs.declared.modules.Conns.TheVariants as conns
use Rattle.vl_tree.specs.declared.modules.Dir.TheVariants as dir
use Rattle.vl_tree.specs.declared.modules.Direction.TheVariants as direction
use Rattle.vl_tree.specs.declared.modules.Item.TheVariants as item
use Rattle.vl_tree.specs.declared.modules.ParamWord.TheVariants as word
use Rattle.vl_tree.specs.declared.modules.Ptype.TheVariants as ptype
use Rattle.vl_tree.specs.declared.modules.Range.{Range}
use Rattle.vl_tree.specs.declared.modules.Rname.TheVariants as rname
use Rattle.vl_tree.specs.declared.routines.Args.TheVariants as args
use Rattle.vl_tree.specs.declared.routines.Iarg.TheVariants as iarg
use Rattle.vl_tree.specs.declared.routines.Import.{Import}
use Rattle.vl_tree.specs.declared.routines.Local.TheVariants as local
use Rattle.vl_tree.specs.declared.statements.Stmt.{Stmt}
use Rattle.vl_names.specs.Declarations.{inner, item_declares}
use Rattle.vl_names.specs.declared.kinds.EntityKind.TheVariants as kind
use Rattle.vl_names.specs.declared.kinds.Mention.{Mention}
use Rattle.vl_names.specs.declared.kinds.Mention.TheVariants.{Stands, Instantiates}
use Rattle.vl_names.specs.declared.kinds.Role.TheVariants as role
use Rattle.vl_names.specs.Mentions.{expr_names, item_names, local_names, iarg_names, function_names, port_names, param_names, stmt_names, counted_names}

-- those of a constant expression of a declaration
abbrev before : ℕ → ℕ → Expr → List Mention
before scope limit e = expr_names e (record { scope = scope; before = Some limit })

-- those of any other
abbrev plain : ℕ → Expr → List Mention
plain scope e = expr_names e (record { scope = scope; before = None })

abbrev range : Expr → Expr → Range
range a b = record { at = 5; msb = a; lsb = b }

module _ (e f g : Expr) where
  -- `parameter P = e;` and `parameter [e:f] P = g;`
  in_value : item_names 1 (item.Params 3 word.Parameter (ptype.Vector 4 false None) (record { at = 4; name = 4; value = e } ∷ [])) ≡ before 1 4 e ++ []
  in_value = refl

  in_own_range : item_names 1 (item.Params 3 word.Localparam (ptype.Vector 5 false (Some (range e f))) (record { at = 9; name = 9; value = g } ∷ []))
      ≡ (before 1 5 e ++ before 1 5 f) ++ (before 1 9 g ++ [])
  in_own_range = refl

  -- in a module's header
  in_header_value : param_names 1 (record { at = 4; ptype = None; name = 4; value = e }) ≡ before 1 4 e
  in_header_value = refl

  in_port_range : port_names 1 (record { at = 4; dir = Some (dir.Net 4 direction.Input false false (Some (range e f))); name = 9; value = None }) ≡ (before 1 5 e ++ before 1 5 f) ++ []
  in_port_range = refl

  in_port_start : port_names 1 (record { at = 4; dir = Some (dir.Reg 4 false None); name = 9; value = Some g }) ≡ before 1 9 g
  in_port_start = refl

  -- `reg x = e, m [f:g];` and `integer n = e;`
  in_start_and_bounds : item_names 1 (item.Regs 2 false None (rname.Variable 3 3 (Some e) ∷ rname.Memory 4 4 (range f g) ∷ []))
      ≡ before 1 3 e ++ ((before 1 5 f ++ before 1 5 g) ++ [])
  in_start_and_bounds = refl

  in_integer : item_names 1 (item.Integers 2 (record { at = 3; name = 3; value = Some e } ∷ [])) ≡ before 1 3 e ++ []
  in_integer = refl

  -- the value of a net is no constant, and its range is
  in_wire : item_names 1 (item.Wires 4 false (Some (range e f)) (record { at = 9; name = 9; value = Some g } ∷ [])) ≡ (before 1 5 e ++ before 1 5 f) ++ (plain 1 g ++ [])
  in_wire = refl

  in_assign : item_names 1 (item.Assigns 2 (record { at = 3; name = 3; value = e } ∷ [])) ≡ (Stands 3 role.Driven (record { scope = 1; before = None }) ∷ plain 1 e) ++ []
  in_assign = refl

  -- overrides and connections: `leaf #(e) u(f);`
  at_instance : item_names 1 (item.Instances 2 2 (Some (conns.Ordered 3 (e ∷ []))) (record { at = 4; name = 4; conns = Some (conns.Ordered 5 (f ∷ [])) } ∷ []))
      ≡ Instantiates 2 1 ∷ ((plain 1 e ++ []) ++ ((plain 1 f ++ []) ++ []))
  at_instance = refl

  -- a function's range stands in the scope round it, those of its locals in its own
  in_function : (body : Stmt)
      → function_names 1 (record { at = 3; ptype = ptype.Vector 5 false (Some (range e f)); name = 7; args = args.Listed 8 [] (local.Reg 9 false (Some (range f g)) (10 ∷ []) ∷ []); body = body })
      ≡ ((before 1 5 e ++ before 1 5 f) ++ ((before 7 5 f ++ before 7 5 g) ++ [])) ++ stmt_names body 7
  in_function body = refl

  -- of an import, in the module
  in_import : iarg_names 1 (iarg.Bits 4 direction.Input (Some (range e f)) 9) ≡ before 1 5 e ++ before 1 5 f
  in_import = refl

  in_block_local : local_names 15 (local.Reg 4 false (Some (range e f)) (9 ∷ [])) ≡ before 15 5 e ++ before 15 5 f
  in_block_local = refl

  -- the variable of a `for` is no constant either
  in_count : counted_names 3 e 15 ≡ Stands 3 role.Counted (record { scope = 15; before = None }) ∷ plain 15 e
  in_count = refl

-- an import declares its own name, and its arguments stand in no scope
import_declares : (i : Import) → item_declares 1 (item.Import 3 i) ≡ inner kind.Import i.name 1 false ∷ []
import_declares i = refl
