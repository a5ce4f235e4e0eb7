-- The value of an expression (IEEE 1364-2005, clause 5), whose lengths and signs stand in its nodes.
use Rattle.std.specs.Prelude.{ℕ, zero, suc, ◌-◌, Bool, not, ◌&&◌, ◌||◌, if◌then◌else◌, List, [], ◌∷◌, fold, get_or, ℤ, pos, ◌-ℤ◌}
use Rattle.xt_bits.specs.Word.{Word, word, truth, integer_of}
use Rattle.xt_bits.specs.Operators.{add_of, sub_of, mul_of, neg_of, div_of, rem_of, eq_of, lt_of, and_of, or_of, xor_of, not_of, all_ones_of, any_of, odd_of, shl_of, shr_of, sar_of, concat_of, extend_of, select_of}
use Rattle.el_design.specs.declared.expressions.UnOp.{UnOp}
use Rattle.el_design.specs.declared.expressions.UnOp.TheVariants as unary
use Rattle.el_design.specs.declared.expressions.BinOp.{BinOp}
use Rattle.el_design.specs.declared.expressions.BinOp.TheVariants as binary
use Rattle.el_design.specs.Plain.{Shape, Expr, Number, NetValue, Variable, MemoryWord, Select, Unary, Binary, Choice, Concat, Copies, Sign, Resize, Call, Exprs, NoExpr, More, Range, Bit, Part, Up, Down, Flat}
use Rattle.el_design.specs.Store.{Store, stored, place_of}

-- what an expression is evaluated in: what a function of a number gives of its arguments, each net's value, and the store
pub record Scene : Type 0 where
  pub call : ℕ → List Word → Word
  pub nets : List Word
  pub store : Store

abbrev pub shape_of : Expr → Shape
shape_of (Number s b) = s
shape_of (NetValue s n) = s
shape_of (Variable s v) = s
shape_of (MemoryWord s v i) = s
shape_of (Select s e r lsb) = s
shape_of (Unary s op e) = s
shape_of (Binary s op a b) = s
shape_of (Choice s c a b) = s
shape_of (Concat s es) = s
shape_of (Copies s n e) = s
shape_of (Sign s e) = s
shape_of (Resize s e) = s
shape_of (Call s f es) = s

abbrev pub is_signed : Expr → Bool
is_signed e = (shape_of e).signed

-- a test holds where the value isn't 0 (IEEE 1364-2005, 9.4)
abbrev pub is_up : Word → Bool
is_up x = any_of x

abbrev pub unary_value : UnOp → Word → Word
unary_value unary.Plus a = a
unary_value unary.Minus a = neg_of a
unary_value unary.Not a = truth (not (any_of a))
unary_value unary.Inv a = not_of a
unary_value unary.And a = truth (all_ones_of a)
unary_value unary.Nand a = truth (not (all_ones_of a))
unary_value unary.Or a = truth (any_of a)
unary_value unary.Nor a = truth (not (any_of a))
unary_value unary.Xor a = truth (odd_of a)
unary_value unary.Xnor a = truth (not (odd_of a))

-- `both`: both operands are signed; `signed`: the node is. `===` and `!==` are `==` and `!=` on two-state values.
abbrev pub binary_value : BinOp → Bool → Bool → Word → Word → Word
binary_value binary.Mul both signed a b = mul_of a b
binary_value binary.Div both signed a b = div_of a b both
binary_value binary.Rem both signed a b = rem_of a b both
binary_value binary.Add both signed a b = add_of a b
binary_value binary.Sub both signed a b = sub_of a b
binary_value binary.Shl both signed a b = shl_of a b.value
binary_value binary.Shr both signed a b = shr_of a b.value
binary_value binary.Ashl both signed a b = shl_of a b.value
binary_value binary.Ashr both signed a b = if signed then sar_of a b.value else shr_of a b.value
binary_value binary.Lt both signed a b = truth (lt_of a b both)
binary_value binary.Le both signed a b = truth (not (lt_of b a both))
binary_value binary.Gt both signed a b = truth (lt_of b a both)
binary_value binary.Ge both signed a b = truth (not (lt_of a b both))
binary_value binary.Eq both signed a b = truth (eq_of a b)
binary_value binary.Ne both signed a b = truth (not (eq_of a b))
binary_value binary.CaseEq both signed a b = truth (eq_of a b)
binary_value binary.CaseNe both signed a b = truth (not (eq_of a b))
binary_value binary.And both signed a b = and_of a b
binary_value binary.Xor both signed a b = xor_of a b
binary_value binary.Xnor both signed a b = not_of (xor_of a b)
binary_value binary.Or both signed a b = or_of a b
binary_value binary.LogAnd both signed a b = truth (any_of a && any_of b)
binary_value binary.LogOr both signed a b = truth (any_of a || any_of b)

-- `{a, b, c}` is `{{a, b}, c}` (IEEE 1364-2005, 5.1.14)
abbrev pub joined : List Word → Word
joined [] = word 1 0
joined (x ∷ xs) = fold concat_of x xs

-- so many more copies of a behind it
abbrev pub copies : ℕ → Word → Word
copies zero a = a
copies (suc n) a = concat_of (copies n a) a

abbrev mutual
  pub value : Flat → Scene → Expr → Word
  value d s (Number x b) = b
  value d s (NetValue x n) = get_or s.nets n (word x.width 0)
  value d s (Variable x v) = stored s.store v 0 x.width
  value d s (MemoryWord x v i) = stored s.store v (place_of d v (integer_of (value d s i) (is_signed i))) x.width
  value d s (Select x e r lsb) = select_of (value d s e) (lowest d s r -ℤ pos lsb) x.width
  value d s (Unary x op e) = unary_value op (value d s e)
  value d s (Binary x op a b) = binary_value op (is_signed a && is_signed b) x.signed (value d s a) (value d s b)
  value d s (Choice x c a b) = if is_up (value d s c) then value d s a else value d s b
  value d s (Concat x es) = joined (values d s es)
  value d s (Copies x n e) = copies (n - 1) (value d s e)
  value d s (Sign x e) = value d s e
  value d s (Resize x e) = extend_of (value d s e) x.width x.signed
  -- a call has the width of its node, also where it has no value
  value d s (Call x f es) = word x.width (s.call f (values d s es)).value

  pub values : Flat → Scene → Exprs → List Word
  values d s NoExpr = []
  values d s (More e es) = value d s e ∷ values d s es

  -- the lowest bit that a range takes, as declared: an index is a whole number, negative where it is signed and negative (IEEE 1364-2005, 5.2.1)
  pub lowest : Flat → Scene → Range → ℤ
  lowest d s (Bit e) = integer_of (value d s e) (is_signed e)
  lowest d s (Part high low) = pos low
  lowest d s (Up e w) = integer_of (value d s e) (is_signed e)
  lowest d s (Down e w) = integer_of (value d s e) (is_signed e) -ℤ pos (w - 1)
