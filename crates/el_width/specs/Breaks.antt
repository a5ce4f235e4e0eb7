-- Which rules an expression breaks, and at which tokens: 32 (constants), 40 (lengths), 41 (ranges), 42 (divisors). All of it is this project's own.
use Rattle.std.specs.Prelude.{ℕ, slice_get, drop, ◌+◌, ◌-◌, ◌==◌, ◌&&◌, ◌||◌, not, Bool, true, false, List, [], ◌∷◌, ◌++◌, map, flat_map, Option, Some, None, ℤ}
use Rattle.xt_base.specs.declared.refusals.Refusal.{Refusal}
use Rattle.vl_tree.specs.declared.exprs.Expr.TheOpen.{Expr-F, Select-F}
use Rattle.el_width.specs.declared.environment.Meaning.{Meaning}
use Rattle.el_width.specs.declared.environment.Meaning.TheVariants as meaning
use Rattle.el_width.specs.declared.operators.Manner.{Manner}
use Rattle.el_width.specs.declared.operators.Manner.TheVariants.{Together, Shifts, Compares, Judges}
use Rattle.el_width.specs.Environment.{Environment, means, break_at}
use Rattle.el_width.specs.Lengths.{in_range, is_wrong_length, bounds}
use Rattle.el_width.specs.Numbers.{based, decimal}
use Rattle.el_width.specs.Operators.{manner_of, keeps_length}
use Rattle.el_width.specs.Typed.{Typed, Chosen}
use Rattle.el_width.specs.Operands.{Operand, by_itself, whole, only_if, compared_width, compared_sign, total_length, copied_length, count_known, passed, formals_of}

-- what is broken in an expression that stands by itself
abbrev pub alone : Bool → Typed → List Refusal
alone must e = e.broken must ++ (by_itself e.operand).broken

abbrev pub operands : List Typed → List Operand
operands es = map (λ e. e.operand) es

-- ---- rule 32: where an expression must be constant, at each name in it that is no parameter, and at each call

abbrev pub is_parameter : Meaning → Bool
is_parameter meaning.Unvalued = true
is_parameter (meaning.Parameter value signed) = true
is_parameter m = false

abbrev pub name_breaks : Environment → Bool → ℕ → List Refusal
name_breaks env must name = only_if (must && not (is_parameter (means env name))) (break_at env name 32)

abbrev pub call_breaks : Environment → Bool → ℕ → List Refusal
call_breaks env must name = only_if must (break_at env name 32)

-- ---- rules 41 and 40 at a select's bracket

abbrev pub bounds_breaks : Environment → ℕ → Option (ℕ × ℕ) → List Refusal
bounds_breaks env at None = break_at env at 41 ∷ []
bounds_breaks env at (Some b) = only_if (not (in_range (b.0 - b.1 + 1))) (break_at env at 40)

abbrev pub part_breaks : Environment → ℕ → Option ℤ → Option ℤ → List Refusal
part_breaks env at (Some msb) (Some lsb) = bounds_breaks env at (bounds msb lsb)
part_breaks env at (Some msb) None = []
part_breaks env at None lsb = []

abbrev pub length_breaks : Environment → ℕ → Option ℕ → List Refusal
length_breaks env at length = only_if (is_wrong_length length) (break_at env at 40)

-- in a select; bounds, widths and counts must be constant anywhere
abbrev pub select_breaks : Environment → Select-F Typed Chosen → Bool → List Refusal
select_breaks env (Select-F.Index at i) must = alone must i
select_breaks env (Select-F.Part at msb lsb) must = alone true msb ++ alone true lsb ++ part_breaks env at (whole msb.operand) (whole lsb.operand)
select_breaks env (Select-F.Up at base width) must = alone must base ++ alone true width ++ length_breaks env at (count_known width.operand)
select_breaks env (Select-F.Down at base width) must = alone must base ++ alone true width ++ length_breaks env at (count_known width.operand)

-- ---- in an expression

-- of arguments, each as it is passed
abbrev pub argument_breaks : Bool → List ℕ → List Typed → List Refusal
argument_breaks must formals [] = []
argument_breaks must formals (a ∷ args) = a.broken must ++ (passed (slice_get formals 0) a.operand).broken ++ argument_breaks must (drop 1 formals) args

-- of the operands that don't get their length and sign from round the operator
abbrev pub inner_breaks : Manner → Operand → Operand → List Refusal
inner_breaks Together a b = []
inner_breaks Shifts a b = (by_itself b).broken
inner_breaks Compares a b = (a.at (compared_width a b) (compared_sign a b)).broken ++ (b.at (compared_width a b) (compared_sign a b)).broken
inner_breaks Judges a b = (by_itself a).broken ++ (by_itself b).broken

abbrev pub reduction_breaks : Bool → Operand → List Refusal
reduction_breaks true a = []
reduction_breaks false a = (by_itself a).broken

-- a count below 1 breaks rule 40, and so does a length that is out of range
abbrev pub is_none_of : Option ℕ → Bool
is_none_of None = false
is_none_of (Some count) = count == 0

abbrev pub copies_breaks : Environment → ℕ → Option ℕ → Option ℕ → List Refusal
copies_breaks env at count length = only_if (is_none_of count || is_wrong_length length) (break_at env at 40)

abbrev pub expr_breaks : Environment → Expr-F Typed Chosen → Bool → List Refusal
expr_breaks env (Expr-F.Choice at test first second) must = alone must test ++ first.broken must ++ second.broken must
expr_breaks env (Expr-F.Binary at op left right) must = left.broken must ++ right.broken must ++ inner_breaks (manner_of op) left.operand right.operand
expr_breaks env (Expr-F.Unary at op a) must = a.broken must ++ reduction_breaks (keeps_length op) a.operand
expr_breaks env (Expr-F.Based at size number) must = only_if (not (based env size number).fits) (break_at env at 40)
expr_breaks env (Expr-F.Decimal at number) must = only_if (not (decimal env number).fits) (break_at env at 40)
expr_breaks env (Expr-F.Name at name selects) must = name_breaks env must name ++ flat_map (λ t. t.broken must) selects
expr_breaks env (Expr-F.Call at name args) must =
    call_breaks env must name ++ argument_breaks must (formals_of (means env name)) args
expr_breaks env (Expr-F.Sign at sign value) must = alone must value
expr_breaks env (Expr-F.Concat at parts) must = flat_map (alone must) parts ++ length_breaks env at (total_length (operands parts))
expr_breaks env (Expr-F.Replicate at count parts) must =
    alone true count ++ flat_map (alone must) parts ++ copies_breaks env at (count_known count.operand) (copied_length count.operand (operands parts))
