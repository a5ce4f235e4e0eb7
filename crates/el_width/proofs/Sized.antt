-- An expression that is brought to a length and a sign has them, whatever is broken.
use Rattle.std.proofs.Common.{◌≡◌, ℕ, Bool, true, false, ◌&&◌, ◌==◌, if◌then◌else◌, List, map, refl, sym, subst, arith}
use Rattle.std.specs.Prelude.{unwrap_or}
use Rattle.vl_tree.specs.declared.exprs.Expr.{Expr, map-Expr, out-Expr}
use Rattle.vl_tree.specs.declared.exprs.Select.{Select}
use Rattle.vl_tree.specs.declared.exprs.Expr.TheOpen.{Expr-F}
use Rattle.vl_tree.specs.declared.exprs.Expr.TheFolds.{fold-Select, fold_out-Expr}
use Rattle.el_design.specs.declared.expressions.TExpr.{TExpr}
use Rattle.el_design.specs.declared.expressions.Kind.TheVariants as kind
use Rattle.el_design.specs.declared.expressions.UnOp as flat_un
use Rattle.el_design.specs.declared.expressions.BinOp as flat_bin
use Rattle.el_width.specs.declared.environment.Meaning.{Meaning}
use Rattle.el_width.specs.declared.environment.Meaning.TheVariants as meaning
use Rattle.el_width.specs.declared.operators.Manner.{Manner}
use Rattle.el_width.specs.declared.operators.Manner.TheVariants.{Together, Shifts, Compares, Judges}
use Rattle.el_width.specs.declared.selects.Taken.{Taken}
use Rattle.el_width.specs.Environment.{Environment, means}
use Rattle.el_width.specs.Operators.{manner_of, keeps_length, is_signed_word, unary_of, binary_of}
use Rattle.el_width.specs.declared.numbers.Literal.{Literal}
use Rattle.el_width.specs.Lengths.{width_of}
use Rattle.el_width.specs.Numbers.{based, decimal}
use Rattle.el_width.specs.Breaks.{operands}
use Rattle.el_width.specs.Operands.{Operand, Known, node, same_sign, brought, by_itself, unary, binary, name, named, variable, literal, called, arguments, formals_of, zero_kind, compared_width, compared_sign, total_length, forms_of, copied_length, count_known, repeated}
use Rattle.el_width.specs.Typed.{Typed, Chosen}
use Rattle.el_width.specs.Expressions.{typed_node, chosen_node, typed_of}

abbrev Has : ℕ → Bool → TExpr → Type 0
Has w s e = (e.width ≡ w) × (e.signed ≡ s)

abbrev IsSized : Operand → Type 0
IsSized a = (w : ℕ) (s : Bool) → Has w s (a.at w s).form

pub same_is : (a b : Bool) → same_sign a b ≡ true → a ≡ b
same_is true true h = refl
same_is true false h = sym h
same_is false true h = h
same_is false false h = refl

pub number_is : (a b : ℕ) → (a == b) ≡ true → a ≡ b
number_is a b h = grind (arith, h)

pub parts : (a b : Bool) → (a && b) ≡ true → (a ≡ true) × (b ≡ true)
parts true b h = (refl, h)
parts false true h = (h, refl)
parts false false h = (h, h)

pub brought_has : (w : ℕ) (s : Bool) (e : TExpr) → Has w s (brought w s e)
brought_has w s e = go (e.width == w && same_sign e.signed s) refl
  where
    go : (b : Bool) → (e.width == w && same_sign e.signed s) ≡ b → Has w s (if b then e else node w s (kind.Resize e))
    go true h = let p = parts (e.width == w) (same_sign e.signed s) h in (number_is e.width w p.0, same_is e.signed s p.1)
    go false h = (refl, refl)

binary_has : (env : Environment) (token : ℕ) (op : flat_bin.BinOp) (m : Manner) (a b : Operand) → IsSized (binary env token op m a b)
binary_has env token op Together a b = λ w s. (refl, refl)
binary_has env token op Shifts a b = λ w s. (refl, refl)
binary_has env token op Compares a b = λ w s. brought_has w s (node 1 false (kind.Binary op (a.at (compared_width a b) (compared_sign a b)).form (b.at (compared_width a b) (compared_sign a b)).form))
binary_has env token op Judges a b = λ w s. brought_has w s (node 1 false (kind.Binary op (by_itself a).form (by_itself b).form))

unary_has : (token : ℕ) (op : flat_un.UnOp) (keeps : Bool) (a : Operand) → IsSized (unary token op keeps a)
unary_has token op true a = λ w s. (refl, refl)
unary_has token op false a = λ w s. brought_has w s (node 1 false (kind.Unary op (by_itself a).form))

variable_has : (token : ℕ) (k : Known) → IsSized (variable token k)
variable_has token k = λ w s. brought_has w s (node (width_of k.length) k.signed k.kind)

name_has : (token : ℕ) (m : Meaning) (ts : List Taken) → IsSized (name token m ts)
name_has token (meaning.Parameter value signed) ts = λ w s. brought_has w s (node value.width signed (kind.Num value))
name_has token meaning.Unvalued ts = λ w s. brought_has w s (node 0 false zero_kind)
name_has token meaning.Unknown ts = variable_has token (named meaning.Unknown ts)
name_has token (meaning.Net o) ts = variable_has token (named (meaning.Net o) ts)
name_has token (meaning.Variable o) ts = variable_has token (named (meaning.Variable o) ts)
name_has token (meaning.Memory o) ts = variable_has token (named (meaning.Memory o) ts)
name_has token (meaning.Routine r) ts = variable_has token (named (meaning.Routine r) ts)

literal_has : (token : ℕ) (n : Literal) → IsSized (literal token n)
literal_has token n = λ w s. brought_has w s (node n.width n.signed (kind.Num n.bits))

node_has : (env : Environment) (x : Expr-F Typed Chosen) → IsSized (typed_node env x).operand
node_has env (Expr-F.Choice at c a b) = λ w s. (refl, refl)
node_has env (Expr-F.Binary at op a b) = binary_has env at (binary_of op) (manner_of op) a.operand b.operand
node_has env (Expr-F.Unary at op a) = unary_has at (unary_of op) (keeps_length op) a.operand
node_has env (Expr-F.Based at size number) = literal_has at (based env size number)
node_has env (Expr-F.Decimal at number) = literal_has at (decimal env number)
node_has env (Expr-F.Name at n selects) = name_has at (means env n) (map (λ t. t.taken) selects)
node_has env (Expr-F.Call at n args) = variable_has at (called (means env n) (map (λ x. x.form) (arguments (formals_of (means env n)) (operands args))))
node_has env (Expr-F.Sign at sign value) = λ w s. brought_has w s (node (width_of value.operand.length) (is_signed_word sign) (kind.Sign (by_itself value.operand).form))
node_has env (Expr-F.Concat at es) = λ w s. brought_has w s (node (width_of (total_length (operands es))) false (kind.Concat (forms_of (operands es))))
node_has env (Expr-F.Replicate at count es) = λ w s. brought_has w s (node (width_of (copied_length count.operand (operands es))) false
    (kind.Repeat (unwrap_or (count_known count.operand) 0) (repeated (total_length (operands es)) (forms_of (operands es)))))

by_layer : (env : Environment) (t : Typed) (x : Expr-F Typed Chosen) → t ≡ typed_node env x → IsSized t.operand
by_layer env t x e = subst (λ u. IsSized u.operand) (sym e) (node_has env x)

-- every expression, in every instance, at every length and sign
pub forms_have : (env : Environment) (e : Expr) → IsSized (typed_of env e).operand
forms_have env e = by_layer env (typed_of env e) (map-Expr Expr Select Typed Chosen (typed_of env) (fold-Select Typed Chosen (typed_node env) (chosen_node env)) (out-Expr e)) (fold_out-Expr Typed Chosen (typed_node env) (chosen_node env) e)
