-- Source expressions as clause 5 of IEEE 1364-2005 sees them: a row for each form.
use Rattle.std.specs.Prelude.{ℕ, ◌&&◌, ◌++◌, Bool, true, false, List, map, Option, Some, None, option_map, ℤ}
use Rattle.xt_base.specs.declared.refusals.Refusal.{Refusal}
use Rattle.xt_bits.specs.Word.{Word}
use Rattle.el_design.specs.declared.expressions.TExpr.{TExpr}
use Rattle.el_design.specs.Plain.{Flat}
use Rattle.el_design.specs.Value.{Scene}
use Rattle.vl_tree.specs.declared.exprs.Expr.{Expr}
use Rattle.vl_tree.specs.declared.exprs.Select.{Select}
use Rattle.vl_tree.specs.declared.exprs.Expr.TheOpen.{Expr-F, Select-F}
use Rattle.vl_tree.specs.declared.exprs.Expr.TheFolds.{fold-Expr, fold-Select}
use Rattle.el_width.specs.declared.environment.Constant.{Constant}
use Rattle.el_width.specs.Environment.{Environment, means}
use Rattle.el_width.specs.Lengths.{larger, width_of, bounds}
use Rattle.el_width.specs.Numbers.{based, decimal}
use Rattle.el_width.specs.Operators.{manner_of, keeps_length, is_signed_word, unary_of, binary_of}
use Rattle.el_width.specs.declared.selects.Taken.{Taken}
use Rattle.el_width.specs.Operands.{Made, Operand, whole, count_known, unary, binary, choice, with_sign, literal, concat, replicate, index, part_of, up, down, name, call}
use Rattle.el_width.specs.Typed.{Typed, Chosen}
use Rattle.el_width.specs.Breaks.{operands, expr_breaks, select_breaks}
use Rattle.el_width.specs.Values.{expr_value, select_span}

-- ---- lengths, signs and typed forms (tables 5-22 and 5.5.1)

abbrev pub part_taken : Option ℤ → Option ℤ → Taken
part_taken (Some msb) (Some lsb) = part_of (bounds msb lsb)
part_taken (Some msb) None = part_of None
part_taken None lsb = part_of None

abbrev pub select_taken : Select-F Typed Chosen → Taken
select_taken (Select-F.Index at i) = index i.operand
select_taken (Select-F.Part at msb lsb) = part_taken (whole msb.operand) (whole lsb.operand)
select_taken (Select-F.Up at base width) = up base.operand (count_known width.operand)
select_taken (Select-F.Down at base width) = down base.operand (count_known width.operand)

abbrev pub expr_operand : Environment → Expr-F Typed Chosen → Operand
expr_operand env (Expr-F.Choice at test first second) = choice at test.operand first.operand second.operand
expr_operand env (Expr-F.Binary at op left right) = binary env at (binary_of op) (manner_of op) left.operand right.operand
expr_operand env (Expr-F.Unary at op a) = unary at (unary_of op) (keeps_length op) a.operand
expr_operand env (Expr-F.Based at size number) = literal at (based env size number)
expr_operand env (Expr-F.Decimal at number) = literal at (decimal env number)
expr_operand env (Expr-F.Name at n selects) = name at (means env n) (map (λ t. t.taken) selects)
expr_operand env (Expr-F.Call at n args) = call at (means env n) (operands args)
expr_operand env (Expr-F.Sign at sign value) = with_sign at (is_signed_word sign) value.operand
expr_operand env (Expr-F.Concat at parts) = concat at (operands parts)
expr_operand env (Expr-F.Replicate at count parts) = replicate at count.operand (operands parts)

-- ---- all of it

abbrev pub typed_node : Environment → Expr-F Typed Chosen → Typed
typed_node env x = record { operand = expr_operand env x; broken = expr_breaks env x; value = expr_value env x }

abbrev pub chosen_node : Environment → Select-F Typed Chosen → Chosen
chosen_node env x = record { taken = select_taken x; broken = select_breaks env x; span = select_span x }

abbrev pub typed_of : Environment → Expr → Typed
typed_of env = fold-Expr Typed Chosen (typed_node env) (chosen_node env)

abbrev pub chosen_of : Environment → Select → Chosen
chosen_of env = fold-Select Typed Chosen (typed_node env) (chosen_node env)

-- ---- what is asked of an expression

-- the length and the sign that a context brings an operand to: the larger length, and the sign that it has by itself if the context lets it
abbrev pub context_length : Option (ℕ × Bool) → Operand → ℕ
context_length None a = width_of a.length
context_length (Some c) a = width_of (larger (Some c.0) a.length)

abbrev pub context_sign : Option (ℕ × Bool) → Operand → Bool
context_sign None a = a.signed
context_sign (Some c) a = a.signed && c.1

abbrev pub in_context : Option (ℕ × Bool) → Operand → Made
in_context context a = a.at (context_length context a) (context_sign context a)

-- a constant in a context, such as the value of a parameter that has a range: its breaks, and its value and sign there, if it has a value
abbrev pub constant_breaks : Environment → Option (ℕ × Bool) → Expr → List Refusal
constant_breaks env context e = (typed_of env e).broken true ++ (in_context context (typed_of env e).operand).broken

abbrev pub constant_of : Environment → Option (ℕ × Bool) → Expr → Option Constant
constant_of env context e =
    let a = (typed_of env e).operand in option_map (λ x. record { value = x; signed = context_sign context a }) (in_context context a).known

-- an expression in a context: its breaks, and its typed form
abbrev pub expression_breaks : Environment → Option (ℕ × Bool) → Expr → List Refusal
expression_breaks env context e = (typed_of env e).broken false ++ (in_context context (typed_of env e).operand).broken

abbrev pub expression_form : Environment → Option (ℕ × Bool) → Expr → TExpr
expression_form env context e = (in_context context (typed_of env e).operand).form

-- the source expression's value there
abbrev pub source_value : Environment → Option (ℕ × Bool) → Expr → Flat → Scene → Word
source_value env context e d s = let t = typed_of env e in t.value d s (context_length context t.operand) (context_sign context t.operand)
