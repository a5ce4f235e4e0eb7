-- Reading an expression from left to right, as a function of the place where it begins. It is this project's own.
use Rattle.std.specs.Prelude.{◌≡◌, ◌==◌, ◌&&◌, ℕ, zero, suc, ◌+◌, max, nat_le, List, [], ◌∷◌, ◌++◌, Option, Some, None, Bool, true, false, Result, Ok, Err, slice_get, length, if◌then◌else◌}
use Rattle.vl_tree.specs.declared.terminals.Terminal.{Terminal}
use Rattle.vl_tree.specs.declared.terminals.Terminal.TheVariants as lex
use Rattle.vl_tree.specs.declared.operators.UnOp.{UnOp}
use Rattle.vl_tree.specs.declared.operators.BinOp.{BinOp}
use Rattle.vl_tree.specs.declared.exprs.Expr.{Expr}
use Rattle.vl_tree.specs.declared.exprs.Expr.TheVariants as expr
use Rattle.vl_tree.specs.declared.exprs.Select.{Select, out-Select}
use Rattle.vl_tree.specs.declared.exprs.Select.TheVariants as select
use Rattle.vl_tree.specs.declared.exprs.Expr.TheOpen as layer
use Rattle.vl_tree.specs.Expressions.{ends_expr}
use Rattle.vl_expr.specs.declared.classes.Start.{Start}
use Rattle.vl_expr.specs.declared.classes.Start.TheVariants as start
use Rattle.vl_expr.specs.declared.classes.Between.{Between}
use Rattle.vl_expr.specs.declared.classes.Between.TheVariants as between
use Rattle.vl_expr.specs.declared.found.Found.{Found}
use Rattle.vl_expr.specs.declared.found.ParseError.{ParseError}
use Rattle.vl_expr.specs.declared.found.ParseError.TheVariants as errors
use Rattle.vl_expr.specs.Classes.{start_of, operator_of, between_of, is_at, unary_of}

-- what is read, or the place where reading stops
abbrev pub Reading : Type 0 → Type 0
Reading X = Result X ℕ

infixl 10 ◌>>=◌
abbrev pub ◌>>=◌ : {A B : Type 0} → Reading A → (A → Reading B) → Reading B
(Ok x) >>= f = f x
(Err at) >>= f = Err at

-- a function of the code gives what reading gives, unless memory ran out
abbrev pub Gives : {X : Type 0} → Result X ParseError → Reading X → Type 0
Gives (Ok x) read = read ≡ Ok x
Gives (Err (errors.NoTree at)) read = read ≡ Err at
Gives (Err errors.Memory) read = Unit {0}

-- a function of the code puts this together, unless memory ran out
abbrev pub Makes : {X : Type 0} → Result X ParseError → X → Type 0
Makes (Ok x) made = x ≡ made
Makes (Err e) made = e ≡ errors.Memory

-- what stands one deeper is read by these: an expression of a level, and a select
pub record Reader : Type 0 where
  pub level : ℕ → ℕ → Reading (Found Expr)
  pub select : ℕ → Reading (Found Select)

-- behind this token
abbrev pub past : {X : Type 0} → List Terminal → ℕ → Terminal → Reading X → Reading X
past ls at x rest = if is_at ls at x then rest else Err at

-- a tree that is one deeper than its parts
abbrev pub node : {X : Type 0} → X → ℕ → ℕ → Found X
node tree end depth = record { tree = tree; end = end; depth = suc depth }

-- one more in a list
abbrev pub added : {X : Type 0} → Found (List X) → Found X → Found (List X)
added all p = record { tree = all.tree ++ p.tree ∷ []; end = p.end; depth = max all.depth p.depth }

abbrev pub single : {X : Type 0} → Found X → Found (List X)
single p = record { tree = p.tree ∷ []; end = p.end; depth = p.depth }

-- { "," expr } behind expressions
abbrev pub exprs_from : List Terminal → Reader → ℕ → Found (List Expr) → Reading (Found (List Expr))
exprs_from ls below zero all = Ok all
exprs_from ls below (suc turns) all =
    if is_at ls all.end lex.Comma
    then (below.level 11 (all.end + 1) >>= λ p. exprs_from ls below turns (added all p))
    else Ok all

abbrev pub exprs_of : List Terminal → Reader → ℕ → Reading (Found (List Expr))
exprs_of ls below at = below.level 11 at >>= λ p. exprs_from ls below (length ls) (single p)

abbrev pub index_layer : layer.Select-F Expr Select → Bool
index_layer (layer.Index at e) = true
index_layer _ = false

-- a plain index
abbrev pub is_index : Select → Bool
is_index s = index_layer (out-Select s)

-- one of the three selects with two expressions
abbrev pub range_select : Between → ℕ → Expr → Expr → Select
range_select between.Colon at first second = select.Part at first second
range_select between.PlusColon at first second = select.Up at first second
range_select between.MinusColon at first second = select.Down at first second

-- the rest of a select that begins at a place, behind its first expression
abbrev pub select_by : List Terminal → Reader → ℕ → Found Expr → Option Between → Reading (Found Select)
select_by ls below at first None =
    past ls first.end lex.CloseBracket (Ok (node (select.Index at first.tree) (first.end + 1) first.depth))
select_by ls below at first (Some kind) =
    below.level 11 (first.end + 1) >>= λ second.
    past ls second.end lex.CloseBracket
    (Ok (node (range_select kind at first.tree second.tree) (second.end + 1) (max first.depth second.depth)))

-- select
abbrev pub select_of : List Terminal → Reader → ℕ → Reading (Found Select)
select_of ls below at =
    past ls at lex.OpenBracket
    (below.level 11 (at + 1) >>= λ first. select_by ls below at first (between_of (slice_get ls first.end)))

-- no select
abbrev pub no_selects : ℕ → Found (List Select)
no_selects at = record { tree = []; end = at; depth = 0 }

-- the second select, behind a first
abbrev pub second_of : List Terminal → Reader → Found Select → Reading (Found (List Select))
second_of ls below first =
    if is_index first.tree && is_at ls first.end lex.OpenBracket
    then (below.select first.end >>= λ second. Ok (added (single first) second))
    else Ok (single first)

-- { select }
abbrev pub selects_of : List Terminal → Reader → ℕ → Reading (Found (List Select))
selects_of ls below at =
    if is_at ls at lex.OpenBracket
    then (below.select at >>= λ first. second_of ls below first)
    else Ok (no_selects at)

-- a part with a closing token behind it
abbrev pub closed : {X : Type 0} → List Terminal → Terminal → Found X → Reading (Found X)
closed ls x p = past ls p.end x (Ok (record { tree = p.tree; end = p.end + 1; depth = p.depth }))

-- no expressions between two parentheses
abbrev pub no_args : ℕ → Found (List Expr)
no_args at = record { tree = []; end = at + 2; depth = 0 }

-- the arguments of a call or of a task's enable: "(" [ expr { "," expr } ] ")"
abbrev pub args_of : List Terminal → Reader → ℕ → Reading (Found (List Expr))
args_of ls below at =
    past ls at lex.OpenParen
    (if is_at ls (at + 1) lex.CloseParen
    then Ok (no_args at)
    else (exprs_of ls below (at + 1) >>= λ all. closed ls lex.CloseParen all))

-- "(" expr ")"
abbrev pub paren_of : List Terminal → Reader → ℕ → Reading (Found Expr)
paren_of ls below at = past ls at lex.OpenParen (below.level 11 (at + 1) >>= λ p. closed ls lex.CloseParen p)

-- "{" parts "}" "}" behind the count of a replication
abbrev pub replicate_of : List Terminal → Reader → ℕ → Found Expr → Reading (Found Expr)
replicate_of ls below at count =
    exprs_of ls below (count.end + 1) >>= λ all.
    closed ls lex.CloseBrace all >>= λ inner.
    past ls inner.end lex.CloseBrace
    (Ok (node (expr.Replicate at count.tree inner.tree) (inner.end + 1) (max count.depth inner.depth)))

-- the other parts of a concatenation and "}", behind the first part
abbrev pub concat_of : List Terminal → Reader → ℕ → Found Expr → Reading (Found Expr)
concat_of ls below at first =
    exprs_from ls below (length ls) (single first) >>= λ all.
    past ls all.end lex.CloseBrace (Ok (node (expr.Concat at all.tree) (all.end + 1) all.depth))

-- "{" expr, and then a replication's parts or those of a concatenation
abbrev pub braces_of : List Terminal → Reader → ℕ → Reading (Found Expr)
braces_of ls below at =
    below.level 11 (at + 1) >>= λ first.
    if is_at ls first.end lex.OpenBrace then replicate_of ls below at first else concat_of ls below at first

-- a name with selects, or a call
abbrev pub name_by : List Terminal → Reader → ℕ → Bool → Reading (Found Expr)
name_by ls below at true = args_of ls below (at + 1) >>= λ all. Ok (node (expr.Call at at all.tree) all.end all.depth)
name_by ls below at false = selects_of ls below (at + 1) >>= λ all. Ok (node (expr.Name at at all.tree) all.end all.depth)

-- a decimal number, or one with a base behind its size
abbrev pub decimal_by : ℕ → Bool → Found Expr
decimal_by at true = node (expr.Based at (Some at) (at + 1)) (at + 2) 0
decimal_by at false = node (expr.Decimal at at) (at + 1) 0

-- primary
abbrev pub primary_by : List Terminal → Reader → ℕ → Start → Reading (Found Expr)
primary_by ls below at start.Decimal = Ok (decimal_by at (is_at ls (at + 1) lex.Based))
primary_by ls below at start.Based = Ok (node (expr.Based at None at) (at + 1) 0)
primary_by ls below at start.Name = name_by ls below at (is_at ls (at + 1) lex.OpenParen)
primary_by ls below at (start.Sign sign) =
    paren_of ls below (at + 1) >>= λ p. Ok (node (expr.Sign at sign p.tree) p.end p.depth)
primary_by ls below at start.Paren = paren_of ls below at >>= λ p. Ok (node p.tree p.end p.depth)
primary_by ls below at start.Brace = braces_of ls below at
primary_by ls below at start.Nothing = Err at

abbrev pub operand_by : List Terminal → Reader → ℕ → Option UnOp → Reading (Found Expr)
operand_by ls below at None = primary_by ls below at (start_of (slice_get ls at))
operand_by ls below at (Some op) =
    below.level 0 (at + 1) >>= λ p. Ok (node (expr.Unary at op p.tree) p.end p.depth)

-- operand = { unary } primary
abbrev pub operand_of : List Terminal → Reader → ℕ → Reading (Found Expr)
operand_of ls below at = operand_by ls below at (unary_of (slice_get ls at))

-- "?" expr ":" expr behind a test, whose depth may be n
abbrev pub choice_by : List Terminal → Reader → ℕ → ℕ → Found Expr → Reading (Found Expr)
choice_by ls below n from test =
    if nat_le test.depth n
    then (below.level 11 (test.end + 1) >>= λ first.
    past ls first.end lex.Colon
    (below.level 11 (first.end + 1) >>= λ second.
    Ok (node (expr.Choice from test.tree first.tree second.tree) second.end (max test.depth (max first.depth second.depth)))))
    else Err test.end

-- [ "?" expr ":" expr ]
abbrev pub choice_of : List Terminal → Reader → ℕ → ℕ → Found Expr → Reading (Found Expr)
choice_of ls below n from test = if is_at ls test.end lex.Question then choice_by ls below n from test else Ok test

-- an operator and its right operand of layer l, behind its left operand, whose depth may be n
abbrev pub binary_of : Reader → ℕ → ℕ → ℕ → Found Expr → BinOp → Reading (Found Expr)
binary_of below n l from left op =
    if nat_le left.depth n
    then (below.level l (left.end + 1) >>= λ right.
    Ok (node (expr.Binary from op left.tree right.tree) right.end (max left.depth right.depth)))
    else Err left.end

abbrev pub step_by : Reader → ℕ → ℕ → ℕ → (Found Expr → Reading (Found Expr)) → Found Expr → Option BinOp → Reading (Found Expr)
step_by below n l from more left None = Ok left
step_by below n l from more left (Some op) = binary_of below n l from left op >>= more

-- operators between operands of layer l, and their right operands, as many as there are
abbrev pub tail_of : List Terminal → Reader → ℕ → ℕ → ℕ → ℕ → Found Expr → Reading (Found Expr)
tail_of ls below n l from zero left = Ok left
tail_of ls below n l from (suc turns) left =
    step_by below n l from (tail_of ls below n l from turns) left (operator_of l (slice_get ls left.end))

abbrev pub rest_of : List Terminal → Reader → ℕ → ℕ → ℕ → Found Expr → Bool → Reading (Found Expr)
rest_of ls below n l from left true = choice_of ls below n from left
rest_of ls below n l from left false = tail_of ls below n l from n left

-- an expression of a level, whose parts are not deeper than n
abbrev pub level_of : List Terminal → Reader → ℕ → ℕ → ℕ → Reading (Found Expr)
level_of ls below n zero at = operand_of ls below at
level_of ls below n (suc l) at = level_of ls below n l at >>= λ left. rest_of ls below n l at left (l == 10)

-- what stands somewhere and is not deeper than n
abbrev pub reader_of : List Terminal → ℕ → Reader
reader_of ls zero = record { level = λ l at. Err at; select = λ at. Err at }
reader_of ls (suc n) = record {
  level = λ l at. level_of ls (reader_of ls n) n l at;
  select = λ at. select_of ls (reader_of ls n) at;
}

-- an expression that is not deeper than n
abbrev pub expr_of : List Terminal → ℕ → ℕ → Reading (Found Expr)
expr_of ls n at = (reader_of ls n).level 11 at

-- the same, if it ends before one of the tokens ) ] } , ; : { +: -:
abbrev pub whole_of : List Terminal → ℕ → ℕ → Reading (Found Expr)
whole_of ls n at = expr_of ls n at >>= λ p. if ends_expr (slice_get ls p.end) then Ok p else Err p.end
