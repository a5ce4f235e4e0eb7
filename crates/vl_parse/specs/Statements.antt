-- Reading statements from the place where they begin. A statement's parts are not deeper than n, and the statements in it
-- are read by below. It is this project's own.
use Rattle.std.specs.Prelude.{◌≡◌, ◌&&◌, ◌||◌, ℕ, zero, suc, ◌+◌, not, List, [], ◌∷◌, Option, Some, None, Bool, true, false, Ok, Err, slice_get, length, is_some, if◌then◌else◌}
use Rattle.vl_tree.specs.declared.terminals.Terminal.{Terminal}
use Rattle.vl_tree.specs.declared.terminals.Terminal.TheVariants as lex
use Rattle.vl_tree.specs.declared.exprs.Expr.{Expr}
use Rattle.vl_tree.specs.declared.exprs.Lvalue.{Lvalue}
use Rattle.vl_tree.specs.declared.statements.Stmt.{Stmt}
use Rattle.vl_tree.specs.declared.statements.Stmt.TheVariants as stmt
use Rattle.vl_tree.specs.declared.statements.Citem.{Citem}
use Rattle.vl_tree.specs.declared.statements.Citem.TheVariants as citem
use Rattle.vl_tree.specs.declared.statements.Scope.{Scope}
use Rattle.vl_tree.specs.declared.statements.Edge.{Edge}
use Rattle.vl_tree.specs.declared.statements.Edge.TheVariants as edge
use Rattle.vl_tree.specs.Places.{is_name}
use Rattle.vl_expr.specs.Classes.{is_at, is_in}
use Rattle.vl_expr.specs.Reading.{Reading, ◌>>=◌, past}
use Rattle.vl_parse.specs.declared.part.Part.{Part}
use Rattle.vl_parse.specs.declared.classes.Opening.{Opening}
use Rattle.vl_parse.specs.declared.classes.Opening.TheVariants as opening
use Rattle.vl_parse.specs.declared.simple.Header.{Header}
use Rattle.vl_parse.specs.Input.{same_name}
use Rattle.vl_parse.specs.Parts.{part, single, added, behind, named, name_of, separated_of, many_of, maybe_of}
use Rattle.vl_parse.specs.Declarations.{expr_at, exprs_at, args_at, paren_of, lvalue_of, opens_local, local_of}

-- what a token begins as the first of a statement
abbrev pub opening_of : Option Terminal → Opening
opening_of None = opening.Nothing
opening_of (Some lex.Semicolon) = opening.Null
opening_of (Some lex.If) = opening.If
opening_of (Some lex.Case) = opening.Case
opening_of (Some lex.For) = opening.For
opening_of (Some lex.While) = opening.While
opening_of (Some lex.Repeat) = opening.Repeat
opening_of (Some lex.Forever) = opening.Forever
opening_of (Some lex.Begin) = opening.Block
opening_of (Some lex.AtSign) = opening.Wait
opening_of (Some lex.Disable) = opening.Disable
opening_of (Some lex.OpenBrace) = opening.Assign
opening_of (Some x) = if is_name x then opening.Name else opening.Nothing

-- lvalue "<=" expr ";" behind the left side
abbrev pub nonblocking_of : List Terminal → ℕ → ℕ → Part Lvalue → Reading (Part Stmt)
nonblocking_of ls n at t =
    past ls t.end lex.LessEqual
    (expr_at ls n (t.end + 1) >>= λ e.
    past ls e.end lex.Semicolon (Ok (part (stmt.Nonblocking at t.tree e.tree) (e.end + 1))))

-- lvalue "=" expr ";" behind the left side
abbrev pub blocking_of : List Terminal → ℕ → ℕ → Part Lvalue → Reading (Part Stmt)
blocking_of ls n at t =
    expr_at ls n (t.end + 1) >>= λ e.
    past ls e.end lex.Semicolon (Ok (part (stmt.Blocking at t.tree e.tree) (e.end + 1)))

-- an assignment
abbrev pub assign_of : List Terminal → ℕ → ℕ → Reading (Part Stmt)
assign_of ls n at =
    lvalue_of ls n at >>= λ t. if is_at ls t.end lex.Equals then blocking_of ls n at t else nonblocking_of ls n at t

abbrev pub opens_args : Option Terminal → Bool
opens_args o = is_in o lex.OpenParen

-- ID [ "(" [ expr { "," expr } ] ")" ] ";"
abbrev pub enable_of : List Terminal → ℕ → ℕ → Reading (Part Stmt)
enable_of ls n at =
    maybe_of ls opens_args (args_at ls n) (at + 1) >>= λ args.
    past ls args.end lex.Semicolon (Ok (part (stmt.Enable at at args.tree) (args.end + 1)))

-- whether a token behind a name makes an enable of it
abbrev pub enables : Option Terminal → Bool
enables o = is_in o lex.OpenParen || is_in o lex.Semicolon

-- a statement that begins with a name
abbrev pub named_of : List Terminal → ℕ → ℕ → Reading (Part Stmt)
named_of ls n at = if enables (slice_get ls (at + 1)) then enable_of ls n at else assign_of ls n at

-- "disable" ID { "." ID } ";"
abbrev pub disable_of : List Terminal → ℕ → Reading (Part Stmt)
disable_of ls at =
    separated_of ls lex.Dot (name_of ls) (at + 1) >>= λ path.
    past ls path.end lex.Semicolon (Ok (part (stmt.Disable at path.tree) (path.end + 1)))

-- "if" "(" expr ")" stmt [ "else" stmt ], behind the first statement
abbrev pub else_of : List Terminal → (ℕ → Reading (Part Stmt)) → ℕ → Expr → Part Stmt → Reading (Part Stmt)
else_of ls below at test first =
    if is_at ls first.end lex.Else
    then (below (first.end + 1) >>= λ second. Ok (part (stmt.If at test first.tree (Some second.tree)) second.end))
    else Ok (part (stmt.If at test first.tree None) first.end)

abbrev pub if_of : List Terminal → (ℕ → Reading (Part Stmt)) → ℕ → ℕ → Reading (Part Stmt)
if_of ls below n at =
    paren_of ls n at >>= λ test. below test.end >>= λ first. else_of ls below at test.tree first

-- "default" [ ":" ] stmt
abbrev pub default_of : List Terminal → (ℕ → Reading (Part Stmt)) → ℕ → Reading (Part Citem)
default_of ls below at =
    below (behind ls lex.Colon (at + 1)) >>= λ s.
    Ok (part (citem.Default at (is_at ls (at + 1) lex.Colon) s.tree) s.end)

-- expr { "," expr } ":" stmt
abbrev pub labels_of : List Terminal → (ℕ → Reading (Part Stmt)) → ℕ → ℕ → Reading (Part Citem)
labels_of ls below n at =
    exprs_at ls n at >>= λ es. past ls es.end lex.Colon
    (below (es.end + 1) >>= λ s. Ok (part (citem.Labels at es.tree s.tree) s.end))

-- citem
abbrev pub citem_of : List Terminal → (ℕ → Reading (Part Stmt)) → ℕ → ℕ → Reading (Part Citem)
citem_of ls below n at = if is_at ls at lex.Default then default_of ls below at else labels_of ls below n at

abbrev pub opens_citem : Option Terminal → Bool
opens_citem o = is_some o && not (is_in o lex.Endcase)

-- a case item, unless it is a second default
abbrev pub next_citem : List Terminal → (ℕ → Reading (Part Stmt)) → ℕ → Bool → ℕ → Reading (Part Citem)
next_citem ls below n defaulted at = if defaulted && is_at ls at lex.Default then Err at else citem_of ls below n at

-- { citem } behind case items, of which one was a default or none
abbrev pub citems_from : List Terminal → (ℕ → Reading (Part Stmt)) → ℕ → ℕ → Bool → Part (List Citem) → Reading (Part (List Citem))
citems_from ls below n zero defaulted all = Ok all
citems_from ls below n (suc turns) defaulted all =
    if opens_citem (slice_get ls all.end)
    then (next_citem ls below n defaulted all.end >>= λ next.
    citems_from ls below n turns (defaulted || is_at ls all.end lex.Default) (added all next))
    else Ok all

-- citem { citem }, at most one of them a default
abbrev pub citems_of : List Terminal → (ℕ → Reading (Part Stmt)) → ℕ → ℕ → Reading (Part (List Citem))
citems_of ls below n at =
    citem_of ls below n at >>= λ first. citems_from ls below n (length ls) (is_at ls at lex.Default) (single first)

-- "case" "(" expr ")" citem { citem } "endcase"
abbrev pub case_of : List Terminal → (ℕ → Reading (Part Stmt)) → ℕ → ℕ → Reading (Part Stmt)
case_of ls below n at =
    paren_of ls n at >>= λ on. citems_of ls below n on.end >>= λ all.
    past ls all.end lex.Endcase (Ok (part (stmt.Case at on.tree all.tree) (all.end + 1)))

-- ID "=" expr ")" behind the test of a header, where the name is spelled as the one at this place
abbrev pub header_end : List Terminal → List (List ℕ) → ℕ → ℕ → Expr → Part Expr → Reading (Part Header)
header_end ls names n at first test =
    named ls (test.end + 1)
    (if same_name names at (test.end + 1)
    then past ls (test.end + 2) lex.Equals
    (expr_at ls n (test.end + 3) >>= λ next. past ls next.end lex.CloseParen
    (Ok (part (record { first = first; test = test.tree; again = test.end + 1; next = next.tree }) (next.end + 1))))
    else Err (test.end + 1))

-- "(" ID "=" expr ";" expr ";" ID "=" expr ")" behind the "for" at this place
abbrev pub header_of : List Terminal → List (List ℕ) → ℕ → ℕ → Reading (Part Header)
header_of ls names n at =
    past ls (at + 1) lex.OpenParen (named ls (at + 2) (past ls (at + 3) lex.Equals
    (expr_at ls n (at + 4) >>= λ first. past ls first.end lex.Semicolon
    (expr_at ls n (first.end + 1) >>= λ test. past ls test.end lex.Semicolon
    (header_end ls names n (at + 2) first.tree test)))))

abbrev pub for_of : List Terminal → List (List ℕ) → (ℕ → Reading (Part Stmt)) → ℕ → ℕ → Reading (Part Stmt)
for_of ls names below n at =
    header_of ls names n at >>= λ h. below h.end >>= λ s.
    Ok (part (stmt.For at (at + 2) h.tree.first h.tree.test h.tree.again h.tree.next s.tree) s.end)

abbrev pub while_of : List Terminal → (ℕ → Reading (Part Stmt)) → ℕ → ℕ → Reading (Part Stmt)
while_of ls below n at =
    paren_of ls n at >>= λ test. below test.end >>= λ s. Ok (part (stmt.While at test.tree s.tree) s.end)

abbrev pub repeat_of : List Terminal → (ℕ → Reading (Part Stmt)) → ℕ → ℕ → Reading (Part Stmt)
repeat_of ls below n at =
    paren_of ls n at >>= λ count. below count.end >>= λ s. Ok (part (stmt.Repeat at count.tree s.tree) s.end)

abbrev pub forever_of : (ℕ → Reading (Part Stmt)) → ℕ → Reading (Part Stmt)
forever_of below at = below (at + 1) >>= λ s. Ok (part (stmt.Forever at s.tree) s.end)

-- ":" ID { local }
abbrev pub scope_of : List Terminal → ℕ → ℕ → Reading (Part Scope)
scope_of ls n at =
    past ls at lex.Colon (named ls (at + 1)
    (many_of ls opens_local (local_of ls n) (at + 2) >>= λ all.
    Ok (part (record { at = at; name = at + 1; locals = all.tree }) all.end)))

abbrev pub opens_scope : Option Terminal → Bool
opens_scope o = is_in o lex.Colon

abbrev pub opens_stmt : Option Terminal → Bool
opens_stmt o = is_some o && not (is_in o lex.End)

-- "begin" [ ":" ID { local } ] { stmt } "end"
abbrev pub block_of : List Terminal → (ℕ → Reading (Part Stmt)) → ℕ → ℕ → Reading (Part Stmt)
block_of ls below n at =
    maybe_of ls opens_scope (scope_of ls n) (at + 1) >>= λ scope.
    many_of ls opens_stmt below scope.end >>= λ body.
    past ls body.end lex.End (Ok (part (stmt.Block at scope.tree body.tree) (body.end + 1)))

abbrev pub edge_of : Option Terminal → Option Edge
edge_of (Some lex.Posedge) = Some edge.Posedge
edge_of (Some lex.Negedge) = Some edge.Negedge
edge_of _ = None

abbrev pub edge_by : ℕ → Option Edge → Reading Edge
edge_by at None = Err at
edge_by at (Some e) = Ok e

-- "(" ( "posedge" | "negedge" ) ID ")", four tokens, behind the "@" at this place
abbrev pub clock_of : List Terminal → ℕ → Reading Edge
clock_of ls at =
    past ls (at + 1) lex.OpenParen
    (edge_by (at + 2) (edge_of (slice_get ls (at + 2))) >>= λ e.
    named ls (at + 3) (past ls (at + 4) lex.CloseParen (Ok e)))

abbrev pub wait_of : List Terminal → (ℕ → Reading (Part Stmt)) → ℕ → Reading (Part Stmt)
wait_of ls below at =
    clock_of ls at >>= λ e. below (at + 5) >>= λ s. Ok (part (stmt.Wait at e (at + 3) s.tree) s.end)

abbrev pub stmt_by : List Terminal → List (List ℕ) → (ℕ → Reading (Part Stmt)) → ℕ → ℕ → Opening → Reading (Part Stmt)
stmt_by ls names below n at opening.Null = Ok (part (stmt.Null at) (at + 1))
stmt_by ls names below n at opening.Assign = assign_of ls n at
stmt_by ls names below n at opening.Name = named_of ls n at
stmt_by ls names below n at opening.If = if_of ls below n at
stmt_by ls names below n at opening.Case = case_of ls below n at
stmt_by ls names below n at opening.For = for_of ls names below n at
stmt_by ls names below n at opening.While = while_of ls below n at
stmt_by ls names below n at opening.Repeat = repeat_of ls below n at
stmt_by ls names below n at opening.Forever = forever_of below at
stmt_by ls names below n at opening.Block = block_of ls below n at
stmt_by ls names below n at opening.Wait = wait_of ls below at
stmt_by ls names below n at opening.Disable = disable_of ls at
stmt_by ls names below n at opening.Nothing = Err at

-- stmt, not deeper than n
abbrev pub stmt_of : List Terminal → List (List ℕ) → ℕ → ℕ → Reading (Part Stmt)
stmt_of ls names zero at = Err at
stmt_of ls names (suc n) at = stmt_by ls names (stmt_of ls names n) n at (opening_of (slice_get ls at))
