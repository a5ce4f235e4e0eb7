-- Reading statements in two steps: what stands before the statements inside one, then these and what is behind them.
use Rattle.std.specs.Prelude.{◌&&◌, ℕ, ◌+◌, List, Bool, false, Ok, Err, slice_get, length, if◌then◌else◌}
use Rattle.vl_tree.specs.declared.terminals.Terminal.{Terminal}
use Rattle.vl_tree.specs.declared.terminals.Terminal.TheVariants as lex
use Rattle.vl_tree.specs.declared.exprs.Expr.{Expr}
use Rattle.vl_tree.specs.declared.exprs.Lvalue.{Lvalue}
use Rattle.vl_tree.specs.declared.statements.Stmt.{Stmt}
use Rattle.vl_tree.specs.declared.statements.Stmt.TheVariants as stmt
use Rattle.vl_tree.specs.declared.statements.Citem.{Citem}
use Rattle.vl_tree.specs.declared.statements.Citem.TheVariants as citem
use Rattle.vl_expr.specs.Classes.{is_at}
use Rattle.vl_expr.specs.Reading.{Reading, ◌>>=◌, past}
use Rattle.vl_parse.specs.declared.part.Part.{Part}
use Rattle.vl_parse.specs.declared.classes.Opening.{Opening}
use Rattle.vl_parse.specs.declared.classes.Opening.TheVariants as opening
use Rattle.vl_parse.specs.declared.simple.Header.{Header}
use Rattle.vl_parse.specs.declared.simple.Right.{Right}
use Rattle.vl_parse.specs.declared.simple.Right.TheVariants as right
use Rattle.vl_parse.specs.declared.simple.Before.{Before}
use Rattle.vl_parse.specs.declared.simple.Before.TheVariants as before
use Rattle.vl_parse.specs.declared.simple.Head.{Head}
use Rattle.vl_parse.specs.declared.simple.Head.TheVariants as head
use Rattle.vl_parse.specs.declared.simple.Label.{Label}
use Rattle.vl_parse.specs.declared.simple.Label.TheVariants as label
use Rattle.vl_parse.specs.Input.{same_name}
use Rattle.vl_parse.specs.Parts.{part, single, behind, named, many_of, maybe_of}
use Rattle.vl_parse.specs.Declarations.{expr_at, exprs_at, paren_of, lvalue_of}
use Rattle.vl_parse.specs.Statements.{opening_of, enables, enable_of, disable_of, opens_scope, scope_of, clock_of, else_of, opens_stmt, citems_from}
use Rattle.vl_parse.specs.inner.Steps.{pair_of, ended_of, made_of}

-- ( "=" | "<=" ) expr ";"
abbrev pub right_of : List Terminal → ℕ → ℕ → Reading (Part Right)
right_of ls n at =
    if is_at ls at lex.Equals
    then made_of right.Blocking (ended_of ls lex.Semicolon (expr_at ls n) (at + 1))
    else past ls at lex.LessEqual (made_of right.Nonblocking (ended_of ls lex.Semicolon (expr_at ls n) (at + 1)))

abbrev pub assigned : ℕ → Lvalue → Right → Stmt
assigned at target (right.Blocking e) = stmt.Blocking at target e
assigned at target (right.Nonblocking e) = stmt.Nonblocking at target e

-- an assignment
abbrev pub assign_head : List Terminal → ℕ → ℕ → Reading (Part Head)
assign_head ls n at =
    lvalue_of ls n at >>= λ t. right_of ls n t.end >>= λ r. Ok (part (head.Whole (assigned at t.tree r.tree)) r.end)

-- a statement that begins with a name
abbrev pub named_head : List Terminal → ℕ → ℕ → Reading (Part Head)
named_head ls n at =
    if enables (slice_get ls (at + 1)) then made_of head.Whole (enable_of ls n at) else assign_head ls n at

-- expr ";" expr ";"
abbrev pub clauses_of : List Terminal → ℕ → ℕ → Reading (Part (Expr × Expr))
clauses_of ls n at = pair_of (ended_of ls lex.Semicolon (expr_at ls n)) (ended_of ls lex.Semicolon (expr_at ls n)) at

-- ID "=" expr ")", where the name is spelled as the one at a place
abbrev pub next_of : List Terminal → List (List ℕ) → ℕ → ℕ → ℕ → Reading (Part Expr)
next_of ls names n at again =
    named ls again
    (if same_name names at again
    then past ls (again + 1) lex.Equals (ended_of ls lex.CloseParen (expr_at ls n) (again + 2))
    else Err again)

-- "(" ID "=" expr ";" expr ";" ID "=" expr ")" behind the "for" at this place
abbrev pub for_head : List Terminal → List (List ℕ) → ℕ → ℕ → Reading (Part Head)
for_head ls names n at =
    past ls (at + 1) lex.OpenParen (named ls (at + 2) (past ls (at + 3) lex.Equals
    (clauses_of ls n (at + 4) >>= λ c. next_of ls names n (at + 2) c.end >>= λ next.
    Ok (part (head.Before (before.For (record { first = c.tree.0; test = c.tree.1; again = c.end; next = next.tree }))) next.end))))

-- what a statement begins with
abbrev pub head_by : List Terminal → List (List ℕ) → ℕ → ℕ → Opening → Reading (Part Head)
head_by ls names n at opening.Null = Ok (part (head.Whole (stmt.Null at)) (at + 1))
head_by ls names n at opening.Assign = assign_head ls n at
head_by ls names n at opening.Name = named_head ls n at
head_by ls names n at opening.If = made_of head.If (paren_of ls n at)
head_by ls names n at opening.Case = made_of head.Case (paren_of ls n at)
head_by ls names n at opening.For = for_head ls names n at
head_by ls names n at opening.While = made_of (λ e. head.Before (before.While e)) (paren_of ls n at)
head_by ls names n at opening.Repeat = made_of (λ e. head.Before (before.Repeat e)) (paren_of ls n at)
head_by ls names n at opening.Forever = Ok (part (head.Before before.Forever) (at + 1))
head_by ls names n at opening.Block = made_of head.Block (maybe_of ls opens_scope (scope_of ls n) (at + 1))
head_by ls names n at opening.Wait = clock_of ls at >>= λ e. Ok (part (head.Before (before.Wait e (at + 3))) (at + 5))
head_by ls names n at opening.Disable = made_of head.Whole (disable_of ls at)
head_by ls names n at opening.Nothing = Err at

abbrev pub head_of : List Terminal → List (List ℕ) → ℕ → ℕ → Reading (Part Head)
head_of ls names n at = head_by ls names n at (opening_of (slice_get ls at))

-- what stands before the statement of a case item: a "default" with or without a colon, or expressions and a colon
abbrev pub label_of : List Terminal → ℕ → Bool → ℕ → Reading (Part Label)
label_of ls n defaulted at =
    if defaulted && is_at ls at lex.Default
    then Err at
    else (if is_at ls at lex.Default
    then Ok (part (label.Default (is_at ls (at + 1) lex.Colon)) (behind ls lex.Colon (at + 1)))
    else made_of label.Exprs (ended_of ls lex.Colon (exprs_at ls n) at))

abbrev pub labelled : ℕ → Label → Stmt → Citem
labelled at (label.Default colon) s = citem.Default at colon s
labelled at (label.Exprs es) s = citem.Labels at es s

-- a case item, no default if there was one before
abbrev pub citem_by : List Terminal → (ℕ → Reading (Part Stmt)) → ℕ → Bool → ℕ → Reading (Part Citem)
citem_by ls below n defaulted at =
    label_of ls n defaulted at >>= λ l. below l.end >>= λ s. Ok (part (labelled at l.tree s.tree) s.end)

-- citem { citem }, at most one of them a default
abbrev pub citems_by : List Terminal → (ℕ → Reading (Part Stmt)) → ℕ → ℕ → Reading (Part (List Citem))
citems_by ls below n at =
    citem_by ls below n false at >>= λ first. citems_from ls below n (length ls) (is_at ls at lex.Default) (single first)

abbrev pub nested : ℕ → Before → Stmt → Stmt
nested at (before.For h) s = stmt.For at (at + 2) h.first h.test h.again h.next s
nested at (before.While e) s = stmt.While at e s
nested at (before.Repeat e) s = stmt.Repeat at e s
nested at before.Forever s = stmt.Forever at s
nested at (before.Wait e clock) s = stmt.Wait at e clock s

-- the statements inside, and what is behind them
abbrev pub rest_by : List Terminal → (ℕ → Reading (Part Stmt)) → ℕ → ℕ → ℕ → Head → Reading (Part Stmt)
rest_by ls below n at end (head.Whole s) = Ok (part s end)
rest_by ls below n at end (head.If test) = below end >>= λ first. else_of ls below at test first
rest_by ls below n at end (head.Case on) =
    citems_by ls below n end >>= λ all. past ls all.end lex.Endcase (Ok (part (stmt.Case at on all.tree) (all.end + 1)))
rest_by ls below n at end (head.Block scope) =
    many_of ls opens_stmt below end >>= λ body. past ls body.end lex.End (Ok (part (stmt.Block at scope body.tree) (body.end + 1)))
rest_by ls below n at end (head.Before b) = below end >>= λ s. Ok (part (nested at b s.tree) s.end)

abbrev pub rest_of : List Terminal → (ℕ → Reading (Part Stmt)) → ℕ → ℕ → Part Head → Reading (Part Stmt)
rest_of ls below n at h = rest_by ls below n at h.end h.tree
