-- The value of a source expression at a length and a sign, in a store (IEEE 1364-2005, clause 5). What is out of range, a read of 0, is this project's own.
use Rattle.std.specs.Prelude.{ℕ, slice_get, drop, ◌+◌, ◌-◌, ◌&&◌, Bool, false, List, [], ◌∷◌, map, Option, Some, None, unwrap_or, option_map, get_or, if◌then◌else◌, ℤ, pos, ◌-ℤ◌}
use Rattle.xt_bits.specs.Word.{Word, word, integer_of}
use Rattle.xt_bits.specs.Operators.{extend_of, select_of}
use Rattle.vl_tree.specs.declared.exprs.Expr.TheOpen.{Expr-F, Select-F}
use Rattle.vl_tree.specs.declared.operators.BinOp.{BinOp}
use Rattle.el_design.specs.Plain.{Flat}
use Rattle.el_design.specs.Store.{stored, place_of}
use Rattle.el_design.specs.Value.{Scene, unary_value, binary_value, is_up, joined, copies}
use Rattle.el_width.specs.declared.environment.Meaning.{Meaning}
use Rattle.el_width.specs.declared.environment.Meaning.TheVariants as meaning
use Rattle.el_width.specs.declared.environment.Object.{Object}
use Rattle.el_width.specs.declared.operators.Manner.{Manner}
use Rattle.el_width.specs.declared.operators.Manner.TheVariants.{Together, Shifts, Compares, Judges}
use Rattle.el_width.specs.Environment.{Environment, means}
use Rattle.el_width.specs.Lengths.{larger, width_of, bounds}
use Rattle.el_width.specs.Numbers.{based, decimal}
use Rattle.el_width.specs.Operators.{manner_of, keeps_length, unary_of, binary_of}
use Rattle.el_width.specs.Typed.{Typed, Chosen, Spanned}
use Rattle.el_width.specs.Operands.{whole, count_known}

-- of what stands by itself
abbrev pub alone_value : Flat → Scene → Typed → Word
alone_value d s e = e.value d s (width_of e.operand.length) e.operand.signed

-- an index is a whole number, negative where it is signed and negative (5.2.1)
abbrev pub index_value : Flat → Scene → Typed → ℤ
index_value d s e = integer_of (alone_value d s e) e.operand.signed

abbrev pub low_of : Option ℤ → Option ℤ → ℕ × ℕ
low_of (Some msb) (Some lsb) = unwrap_or (bounds msb lsb) (0, 0)
low_of (Some msb) None = (0, 0)
low_of None lsb = (0, 0)

abbrev pub no_index : Flat → Scene → ℤ
no_index d s = pos 0

abbrev pub select_span : Select-F Typed Chosen → Spanned
select_span (Select-F.Index at i) = record { index = λ d s. index_value d s i; lowest = λ d s. index_value d s i; width = 1 }
select_span (Select-F.Part at msb lsb) =
    let b = low_of (whole msb.operand) (whole lsb.operand) in record { index = no_index; lowest = λ d s. pos b.1; width = b.0 - b.1 + 1 }
select_span (Select-F.Up at base width) = record { index = no_index; lowest = λ d s. index_value d s base; width = width_of (count_known width.operand) }
select_span (Select-F.Down at base width) =
    let w = width_of (count_known width.operand) in record { index = no_index; lowest = λ d s. index_value d s base -ℤ pos (w - 1); width = w }

-- a word, or the bits of it that a select takes; `lsb` is the number of its lowest bit
abbrev pub bits_value : Flat → Scene → Word → ℕ → List Chosen → Word
bits_value d s x lsb [] = x
bits_value d s x lsb (t ∷ ts) = select_of x (t.span.lowest d s -ℤ pos lsb) t.span.width

abbrev pub word_value : Flat → Scene → Object → List Chosen → Word
word_value d s o [] = word 1 0
word_value d s o (i ∷ ts) = bits_value d s (stored s.store o.number (place_of d o.number (i.span.index d s)) o.width) o.lsb ts

abbrev pub variable_value : Flat → Scene → Object → List Chosen → Word
variable_value d s o ts = bits_value d s (stored s.store o.number 0 o.width) o.lsb ts

abbrev pub name_value : Flat → Scene → Meaning → List Chosen → Word
name_value d s (meaning.Parameter value signed) ts = value
name_value d s (meaning.Net o) ts = bits_value d s (get_or s.nets o.number (word o.width 0)) o.lsb ts
name_value d s (meaning.Variable o) ts = variable_value d s o ts
name_value d s (meaning.Memory o) ts = word_value d s o ts
name_value d s (meaning.Routine r) ts = unwrap_or (option_map (λ o. variable_value d s o ts) r.result) (word 1 0)
name_value d s m ts = word 1 0

abbrev pub passed_value : Flat → Scene → Option ℕ → Typed → Word
passed_value d s None a = alone_value d s a
passed_value d s (Some w) a = a.value d s (width_of (larger (Some w) a.operand.length)) a.operand.signed

abbrev pub argument_values : Flat → Scene → List ℕ → List Typed → List Word
argument_values d s formals [] = []
argument_values d s formals (a ∷ args) = passed_value d s (slice_get formals 0) a ∷ argument_values d s (drop 1 formals) args

-- the result variable of a function whose body is run on the arguments
abbrev pub call_value : Flat → Scene → Meaning → List Typed → Word
call_value d s (meaning.Routine r) args = word r.width (s.call r.number (argument_values d s r.formals args)).value
call_value d s m args = word 1 0

-- at a length and a sign: operands by the context are brought to them (5.4.1, 5.5.2), and the result of any other operator is extended
abbrev pub binary_at : Flat → Scene → BinOp → Manner → Typed → Typed → ℕ → Bool → Word
binary_at d s op Together a b w signed = binary_value (binary_of op) signed signed (a.value d s w signed) (b.value d s w signed)
binary_at d s op Shifts a b w signed = binary_value (binary_of op) signed signed (a.value d s w signed) (alone_value d s b)
binary_at d s op Compares a b w signed =
    let length = width_of (larger a.operand.length b.operand.length) in
    let sign = a.operand.signed && b.operand.signed in
    extend_of (binary_value (binary_of op) sign sign (a.value d s length sign) (b.value d s length sign)) w signed
binary_at d s op Judges a b w signed = extend_of (binary_value (binary_of op) false false (alone_value d s a) (alone_value d s b)) w signed

abbrev pub expr_value : Environment → Expr-F Typed Chosen → Flat → Scene → ℕ → Bool → Word
expr_value env (Expr-F.Choice at test first second) d s w signed = if is_up (alone_value d s test) then first.value d s w signed else second.value d s w signed
expr_value env (Expr-F.Binary at op left right) d s w signed = binary_at d s op (manner_of op) left right w signed
expr_value env (Expr-F.Unary at op a) d s w signed =
    if keeps_length op then unary_value (unary_of op) (a.value d s w signed) else extend_of (unary_value (unary_of op) (alone_value d s a)) w signed
expr_value env (Expr-F.Based at size number) d s w signed = extend_of (based env size number).bits w signed
expr_value env (Expr-F.Decimal at number) d s w signed = extend_of (decimal env number).bits w signed
expr_value env (Expr-F.Name at name selects) d s w signed = extend_of (name_value d s (means env name) selects) w signed
expr_value env (Expr-F.Call at name args) d s w signed = extend_of (call_value d s (means env name) args) w signed
expr_value env (Expr-F.Sign at sign value) d s w signed = extend_of (alone_value d s value) w signed
expr_value env (Expr-F.Concat at parts) d s w signed = extend_of (joined (map (alone_value d s) parts)) w signed
expr_value env (Expr-F.Replicate at count parts) d s w signed =
    extend_of (copies (unwrap_or (count_known count.operand) 0 - 1) (joined (map (alone_value d s) parts))) w signed
