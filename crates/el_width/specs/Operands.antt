-- An expression as an operand: the length and the sign that it has by itself, and what it becomes at those of its context (IEEE 1364-2005, 5.4 and 5.5).
use Rattle.std.specs.Prelude.{ℕ, slice_get, drop, ◌+◌, ◌*◌, ◌-◌, ◌==◌, ◌&&◌, ◌||◌, not, Bool, true, false, List, [], ◌∷◌, ◌++◌, map, fold, length, Option, Some, None, option_map, unwrap_or, if◌then◌else◌, ℤ}
use Rattle.xt_base.specs.declared.refusals.Refusal.{Refusal}
use Rattle.xt_bits.specs.Word.{Word, word, integer_of}
use Rattle.xt_bits.specs.Operators.{extend_of, concat_of}
use Rattle.el_design.specs.declared.expressions.UnOp.{UnOp}
use Rattle.el_design.specs.declared.expressions.BinOp.{BinOp}
use Rattle.el_design.specs.declared.expressions.TExpr.{TExpr}
use Rattle.el_design.specs.declared.expressions.Kind.{Kind}
use Rattle.el_design.specs.declared.expressions.Kind.TheVariants as kind
use Rattle.el_design.specs.declared.expressions.Pick.{Pick, out-Pick}
use Rattle.el_design.specs.declared.expressions.Kind.TheOpen.{Pick-F}
use Rattle.el_design.specs.declared.expressions.Pick.TheVariants as pick
use Rattle.el_design.specs.Value.{unary_value, binary_value, is_up, copies}
use Rattle.el_width.specs.declared.environment.Meaning.{Meaning}
use Rattle.el_width.specs.declared.environment.Meaning.TheVariants as meaning
use Rattle.el_width.specs.declared.environment.Object.{Object}
use Rattle.el_width.specs.declared.operators.Manner.{Manner}
use Rattle.el_width.specs.declared.numbers.Literal.{Literal}
use Rattle.el_width.specs.declared.selects.Taken.{Taken}
use Rattle.el_width.specs.declared.operators.Manner.TheVariants.{Together, Shifts, Compares, Judges}
use Rattle.el_width.specs.Environment.{Environment, break_at}
use Rattle.el_width.specs.Lengths.{in_range, larger, total, times, width_of, count_of}
use Rattle.el_width.specs.Operators.{divides, takes_one_width}

-- what an expression becomes at a length and a sign
pub record Made : Type 0 where
  -- the expression of the flat design
  pub form : TExpr
  -- its value, if it is a constant and has one: no parameter in it lacks a value, no length is out of range, and no divisor is 0
  pub known : Option Word
  -- rule 42 at its divisors
  pub broken : List Refusal

pub record Operand : Type 0 where
  -- its first token
  pub token : ℕ
  -- what it has by itself (5.4.1, 5.5.1)
  pub length : Option ℕ
  pub signed : Bool
  -- it names parameters alone, and calls nothing
  pub constant : Bool
  -- brought to a length and a sign (5.5.2)
  pub at : ℕ → Bool → Made

-- what stands by itself: a self-determined operand (5.4)
abbrev pub by_itself : Operand → Made
by_itself a = a.at (width_of a.length) a.signed

-- the value of a constant as a whole number
abbrev pub whole : Operand → Option ℤ
whole a = option_map (λ x. integer_of x a.signed) (by_itself a).known

-- ---- nodes

abbrev pub node : ℕ → Bool → Kind → TExpr
node w s k = record { width = w; signed = s; kind = k }

abbrev pub same_sign : Bool → Bool → Bool
same_sign true b = b
same_sign false b = not b

-- an expression that is brought to a length and a sign
abbrev pub brought : ℕ → Bool → TExpr → TExpr
brought w s e = if e.width == w && same_sign e.signed s then e else node w s (kind.Resize e)

-- the same for a value: longer by its sign bit where the sign says so, else by zeros
abbrev pub brought_value : ℕ → Bool → Option Word → Option Word
brought_value w s None = None
brought_value w s (Some x) = if in_range w then Some (extend_of x w s) else None

-- a node at a length and a sign
abbrev pub made_at : ℕ → Bool → Kind → Option Word → List Refusal → Made
made_at w s k known broken = record { form = node w s k; known = known; broken = broken }

-- an expression that has its length and sign whatever stands round it
abbrev pub own : ℕ → Option ℕ → Bool → Bool → Kind → Option Word → Operand
own token length signed constant kind known = record {
  token = token;
  length = length;
  signed = signed;
  constant = constant;
  at = λ w s. record { form = brought w s (node (width_of length) signed kind); known = brought_value w s known; broken = [] };
}

-- ---- operators

abbrev pub known_unary : UnOp → Option Word → Option Word
known_unary op a = option_map (unary_value op) a

-- an operator has a value where its operands have one, they are of one width unless it shifts or judges, and no divisor is 0
abbrev pub fits_operator : BinOp → Word → Word → Bool
fits_operator op a b = if takes_one_width op then a.width == b.width && not (divides op && b.value == 0) else true

abbrev pub value_of : BinOp → Bool → Word → Word → Option Word
value_of op signed a b = if fits_operator op a b then Some (binary_value op signed signed a b) else None

abbrev pub known_binary : BinOp → Bool → Option Word → Option Word → Option Word
known_binary op signed (Some a) (Some b) = value_of op signed a b
known_binary op signed (Some a) None = None
known_binary op signed None b = None

-- `+ - ~`: the operand by the context
abbrev pub kept_unary : ℕ → UnOp → Operand → Operand
kept_unary token op a = record {
  token = token;
  length = a.length;
  signed = a.signed;
  constant = a.constant;
  at = λ w s. made_at w s (kind.Unary op (a.at w s).form) (known_unary op (a.at w s).known) (a.at w s).broken;
}

-- `!` and the reductions: one bit of an operand that stands by itself
abbrev pub reduced : ℕ → UnOp → Operand → Operand
reduced token op a = own token (Some 1) false a.constant (kind.Unary op (by_itself a).form) (known_unary op (by_itself a).known)

abbrev pub unary : ℕ → UnOp → Bool → Operand → Operand
unary token op true a = kept_unary token op a
unary token op false a = reduced token op a

abbrev pub is_zero : Option Word → Bool
is_zero None = false
is_zero (Some x) = x.value == 0

abbrev pub only_if : Bool → Refusal → List Refusal
only_if true r = r ∷ []
only_if false r = []

-- rule 42: a divisor that isn't a constant, or is 0 at the length and sign that it is brought to; where that length is open or out of range, it isn't asked
abbrev pub divisor_breaks : BinOp → ℕ → Bool → Option Word → Refusal → List Refusal
divisor_breaks op w constant known refusal = only_if (divides op && in_range w && (not constant || is_zero known)) refusal

-- both operands by the context
abbrev pub together : Environment → ℕ → BinOp → Operand → Operand → Operand
together env token op a b = record {
  token = token;
  length = larger a.length b.length;
  signed = a.signed && b.signed;
  constant = a.constant && b.constant;
  at = λ w s. made_at w s (kind.Binary op (a.at w s).form (b.at w s).form) (known_binary op s (a.at w s).known (b.at w s).known)
      ((a.at w s).broken ++ (b.at w s).broken ++ divisor_breaks op w b.constant (b.at w s).known (break_at env b.token 42));
}

-- the left operand by the context, the right one by itself
abbrev pub shifts : ℕ → BinOp → Operand → Operand → Operand
shifts token op a b = record {
  token = token;
  length = a.length;
  signed = a.signed;
  constant = a.constant && b.constant;
  at = λ w s. made_at w s (kind.Binary op (a.at w s).form (by_itself b).form) (known_binary op s (a.at w s).known (by_itself b).known) (a.at w s).broken;
}

-- the length and the sign at which operands are compared
abbrev pub compared_width : Operand → Operand → ℕ
compared_width a b = width_of (larger a.length b.length)

abbrev pub compared_sign : Operand → Operand → Bool
compared_sign a b = a.signed && b.signed

-- one bit of two operands, each as it was made
abbrev pub judged : ℕ → BinOp → Bool → Operand → Operand → Made → Made → Operand
judged token op signed a b left right =
    own token (Some 1) false (a.constant && b.constant) (kind.Binary op left.form right.form) (known_binary op signed left.known right.known)

abbrev pub compares : ℕ → BinOp → Operand → Operand → Operand
compares token op a b =
    judged token op (compared_sign a b) a b (a.at (compared_width a b) (compared_sign a b)) (b.at (compared_width a b) (compared_sign a b))

abbrev pub judges : ℕ → BinOp → Operand → Operand → Operand
judges token op a b = judged token op false a b (by_itself a) (by_itself b)

abbrev pub binary : Environment → ℕ → BinOp → Manner → Operand → Operand → Operand
binary env token op Together a b = together env token op a b
binary env token op Shifts a b = shifts token op a b
binary env token op Compares a b = compares token op a b
binary env token op Judges a b = judges token op a b

abbrev pub known_choice : Option Word → Option Word → Option Word → Option Word
known_choice (Some c) a b = if is_up c then a else b
known_choice None a b = None

-- `c ? a : b`
abbrev pub choice : ℕ → Operand → Operand → Operand → Operand
choice token c a b = record {
  token = token;
  length = larger a.length b.length;
  signed = a.signed && b.signed;
  constant = c.constant && (a.constant && b.constant);
  at = λ w s. made_at w s (kind.Choice (by_itself c).form (a.at w s).form (b.at w s).form) (known_choice (by_itself c).known (a.at w s).known (b.at w s).known)
      ((a.at w s).broken ++ (b.at w s).broken);
}

-- `$signed(a)`, `$unsigned(a)`
abbrev pub with_sign : ℕ → Bool → Operand → Operand
with_sign token signed a = own token a.length signed a.constant (kind.Sign (by_itself a).form) (by_itself a).known

-- ---- numbers, concatenations and replications

abbrev pub literal : ℕ → Literal → Operand
literal token n = own token (Some n.width) n.signed true (kind.Num n.bits) (if in_range n.width then Some n.bits else None)

abbrev pub all_constant : List Operand → Bool
all_constant parts = fold (λ all a. all && a.constant) true parts

abbrev pub forms_of : List Operand → List TExpr
forms_of parts = map (λ a. (by_itself a).form) parts

abbrev pub total_length : List Operand → Option ℕ
total_length parts = total (map (λ a. a.length) parts)

-- one value behind another, as far as they have a length in range together
abbrev pub known_joined : Option Word → Option Word → Option Word
known_joined (Some a) (Some b) = if in_range (a.width + b.width) then Some (concat_of a b) else None
known_joined (Some a) None = None
known_joined None b = None

abbrev pub known_next : Option (Option Word) → Option Word → Option (Option Word)
known_next None x = Some x
known_next (Some before) x = Some (known_joined before x)

abbrev pub known_parts : List (Option Word) → Option Word
known_parts xs = unwrap_or (fold known_next None xs) None

abbrev pub joined_known : List Operand → Option Word
joined_known parts = known_parts (map (λ a. (by_itself a).known) parts)

-- `{a, b}`
abbrev pub concat : ℕ → List Operand → Operand
concat token parts = own token (total_length parts) false (all_constant parts) (kind.Concat (forms_of parts)) (joined_known parts)

-- what is repeated: the only part, or the concatenation of the parts
abbrev pub repeated : Option ℕ → List TExpr → TExpr
repeated length [] = node (width_of length) false (kind.Concat [])
repeated length (e ∷ []) = e
repeated length (e ∷ f ∷ es) = node (width_of length) false (kind.Concat (e ∷ f ∷ es))

abbrev pub count_known : Operand → Option ℕ
count_known n = option_map count_of (whole n)

abbrev pub copied_length : Operand → List Operand → Option ℕ
copied_length n parts = times (count_known n) (total_length parts)

abbrev pub known_copies : ℕ → Option Word → Option Word
known_copies n None = None
known_copies n (Some a) = if in_range (n * a.width) then Some (copies (n - 1) a) else None

-- `{n{a, b}}`
abbrev pub replicate : ℕ → Operand → List Operand → Operand
replicate token n parts =
    own token (copied_length n parts) false (n.constant && all_constant parts)
    (kind.Repeat (unwrap_or (count_known n) 0) (repeated (total_length parts) (forms_of parts)))
    (known_copies (unwrap_or (count_known n) 0) (joined_known parts))

-- ---- names, selects and calls

abbrev pub index : Operand → Taken
index i = record { length = Some 1; pick = pick.Bit (by_itself i).form }

abbrev pub part_of : Option (ℕ × ℕ) → Taken
part_of None = record { length = None; pick = pick.Part 0 0 }
part_of (Some b) = record { length = Some (b.0 - b.1 + 1); pick = pick.Part b.0 b.1 }

abbrev pub up : Operand → Option ℕ → Taken
up base w = record { length = w; pick = pick.Up (by_itself base).form (width_of w) }

abbrev pub down : Operand → Option ℕ → Taken
down base w = record { length = w; pick = pick.Down (by_itself base).form (width_of w) }

-- a kind with a length and a sign
pub record Known : Type 0 where
  pub length : Option ℕ
  pub signed : Bool
  pub kind : Kind

abbrev pub zero_kind : Kind
zero_kind = kind.Num (word 1 0)

-- the bits of something that a select takes; the lowest bit is declared with this number
abbrev pub selected : Known → ℕ → List Taken → Known
selected k lsb [] = k
selected k lsb (t ∷ ts) = record { length = t.length; signed = false; kind = kind.Select (node (width_of k.length) k.signed k.kind) t.pick lsb }

abbrev pub object : Object → Kind → List Taken → Known
object o k ts = selected (record { length = Some o.width; signed = o.signed; kind = k }) o.lsb ts

-- the index of a word
abbrev pub index_in : Pick-F Kind Pick TExpr → TExpr
index_in (Pick-F.Bit e) = e
index_in p = node 1 false zero_kind

abbrev pub index_of : Pick → TExpr
index_of p = index_in (out-Pick p)

abbrev pub open_kind : Known
open_kind = record { length = None; signed = false; kind = zero_kind }

-- a memory stands only with the index of a word
abbrev pub memory : Object → List Taken → Known
memory o [] = open_kind
memory o (i ∷ ts) = object o (kind.Word o.number (index_of i.pick)) ts

-- what is no parameter
abbrev pub variable : ℕ → Known → Operand
variable token k = own token k.length k.signed false k.kind None

-- a name that is no parameter
abbrev pub named : Meaning → List Taken → Known
named (meaning.Net o) ts = object o (kind.Net o.number) ts
named (meaning.Variable o) ts = object o (kind.Var o.number) ts
named (meaning.Memory o) ts = memory o ts
named (meaning.Routine r) ts = unwrap_or (option_map (λ o. object o (kind.Var o.number) ts) r.result) open_kind
named m ts = open_kind

abbrev pub name : ℕ → Meaning → List Taken → Operand
name token (meaning.Parameter value signed) ts = own token (Some value.width) signed true (kind.Num value) (Some value)
name token meaning.Unvalued ts = own token None false true zero_kind None
name token m ts = variable token (named m ts)

-- the length of what is assigned to something so wide (5.4.1)
abbrev pub assigned : ℕ → Operand → Made
assigned w a = a.at (width_of (larger (Some w) a.length)) a.signed

-- the arguments of a call are assigned to the formals; what is past these stands by itself
abbrev pub passed : Option ℕ → Operand → Made
passed None a = by_itself a
passed (Some w) a = assigned w a

abbrev pub arguments : List ℕ → List Operand → List Made
arguments formals [] = []
arguments formals (a ∷ args) = passed (slice_get formals 0) a ∷ arguments (drop 1 formals) args

abbrev pub formals_of : Meaning → List ℕ
formals_of (meaning.Routine r) = r.formals
formals_of m = []

abbrev pub called : Meaning → List TExpr → Known
called (meaning.Routine r) args = record { length = Some r.width; signed = r.signed; kind = kind.Call r.number args }
called m args = open_kind

abbrev pub call : ℕ → Meaning → List Operand → Operand
call token m args = variable token (called m (map (λ x. x.form) (arguments (formals_of m) args)))
