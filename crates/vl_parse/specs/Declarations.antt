-- Reading expressions, left sides, ranges, types and local variables from the place where they begin. Nothing in them is
-- deeper than n. It is this project's own.
use Rattle.std.specs.Prelude.{◌≡◌, ◌||◌, ℕ, zero, suc, ◌+◌, List, [], ◌∷◌, Option, Some, None, Bool, true, false, Ok, Err, slice_get, if◌then◌else◌}
use Rattle.vl_tree.specs.declared.terminals.Terminal.{Terminal}
use Rattle.vl_tree.specs.declared.terminals.Terminal.TheVariants as lex
use Rattle.vl_tree.specs.declared.exprs.Expr.{Expr}
use Rattle.vl_tree.specs.declared.exprs.Select.{Select}
use Rattle.vl_tree.specs.declared.exprs.Lvalue.{Lvalue}
use Rattle.vl_tree.specs.declared.exprs.Lvalue.TheVariants as lvalue
use Rattle.vl_tree.specs.declared.modules.Range.{Range}
use Rattle.vl_tree.specs.declared.modules.Binding.{Binding}
use Rattle.vl_tree.specs.declared.modules.Ptype.{Ptype}
use Rattle.vl_tree.specs.declared.modules.Ptype.TheVariants as ptype
use Rattle.vl_tree.specs.declared.routines.Local.{Local}
use Rattle.vl_tree.specs.declared.routines.Local.TheVariants as local
use Rattle.vl_expr.specs.Classes.{is_at, is_in}
use Rattle.vl_expr.specs.Reading as reading
use Rattle.vl_expr.specs.Reading.{Reading, ◌>>=◌, past, reader_of, expr_of}
use Rattle.vl_parse.specs.declared.part.Part.{Part}
use Rattle.vl_parse.specs.declared.declarations.Size.{Size}
use Rattle.vl_parse.specs.Parts.{part, bare, behind, named, name_of, separated_of, maybe_of}

-- expr
abbrev pub expr_at : List Terminal → ℕ → ℕ → Reading (Part Expr)
expr_at ls n at = bare (expr_of ls n at)

-- expr { "," expr }
abbrev pub exprs_at : List Terminal → ℕ → ℕ → Reading (Part (List Expr))
exprs_at ls n at = bare (reading.exprs_of ls (reader_of ls n) at)

-- "(" [ expr { "," expr } ] ")"
abbrev pub args_at : List Terminal → ℕ → ℕ → Reading (Part (List Expr))
args_at ls n at = bare (reading.args_of ls (reader_of ls n) at)

-- { select }
abbrev pub selects_at : List Terminal → ℕ → ℕ → Reading (Part (List Select))
selects_at ls n at = bare (reading.selects_of ls (reader_of ls n) at)

-- "(" expr ")" behind a keyword at this place
abbrev pub paren_of : List Terminal → ℕ → ℕ → Reading (Part Expr)
paren_of ls n at =
    past ls (at + 1) lex.OpenParen
    (expr_at ls n (at + 2) >>= λ e. past ls e.end lex.CloseParen (Ok (part e.tree (e.end + 1))))

-- "=" expr
abbrev pub value_of : List Terminal → ℕ → ℕ → Reading (Part Expr)
value_of ls n at = past ls at lex.Equals (expr_at ls n (at + 1))

abbrev pub opens_value : Option Terminal → Bool
opens_value o = is_in o lex.Equals

-- ID "=" expr
abbrev pub binding_of : List Terminal → ℕ → ℕ → Reading (Part Binding)
binding_of ls n at =
    named ls at (value_of ls n (at + 1) >>= λ e. Ok (part (record { at = at; name = at; value = e.tree }) e.end))

-- a name with selects
abbrev pub target_of : List Terminal → ℕ → ℕ → Reading (Part Lvalue)
target_of ls n at = named ls at (selects_at ls n (at + 1) >>= λ ss. Ok (part (lvalue.Name at at ss.tree) ss.end))

-- "{" lvalue { "," lvalue } "}"
abbrev pub targets_of : List Terminal → (ℕ → Reading (Part Lvalue)) → ℕ → Reading (Part Lvalue)
targets_of ls below at =
    separated_of ls lex.Comma below (at + 1) >>= λ all.
    past ls all.end lex.CloseBrace (Ok (part (lvalue.Concat at all.tree) (all.end + 1)))

-- lvalue
abbrev pub lvalue_of : List Terminal → ℕ → ℕ → Reading (Part Lvalue)
lvalue_of ls zero at = Err at
lvalue_of ls (suc n) at = if is_at ls at lex.OpenBrace then targets_of ls (lvalue_of ls n) at else target_of ls n at

-- range
abbrev pub range_of : List Terminal → ℕ → ℕ → Reading (Part Range)
range_of ls n at =
    past ls at lex.OpenBracket
    (expr_at ls n (at + 1) >>= λ msb. past ls msb.end lex.Colon
    (expr_at ls n (msb.end + 1) >>= λ lsb. past ls lsb.end lex.CloseBracket
    (Ok (part (record { at = at; msb = msb.tree; lsb = lsb.tree }) (lsb.end + 1)))))

abbrev pub opens_range : Option Terminal → Bool
opens_range o = is_in o lex.OpenBracket

-- [ "signed" ] [ range ]
abbrev pub size_of : List Terminal → ℕ → ℕ → Reading (Part Size)
size_of ls n at =
    maybe_of ls opens_range (range_of ls n) (behind ls lex.Signed at) >>= λ range.
    Ok (part (record { signed = is_at ls at lex.Signed; range = range.tree }) range.end)

-- ptype
abbrev pub ptype_of : List Terminal → ℕ → ℕ → Reading (Part Ptype)
ptype_of ls n at =
    if is_at ls at lex.Integer
    then Ok (part (ptype.Integer at) (at + 1))
    else (size_of ls n at >>= λ size. Ok (part (ptype.Vector at size.tree.signed size.tree.range) size.end))

-- ID { "," ID }
abbrev pub names_of : List Terminal → ℕ → Reading (Part (List ℕ))
names_of ls at = separated_of ls lex.Comma (name_of ls) at

abbrev pub opens_local : Option Terminal → Bool
opens_local o = is_in o lex.Reg || is_in o lex.Integer

abbrev pub integers_of : List Terminal → ℕ → Reading (Part Local)
integers_of ls at =
    names_of ls (at + 1) >>= λ all. past ls all.end lex.Semicolon (Ok (part (local.Integer at all.tree) (all.end + 1)))

abbrev pub regs_of : List Terminal → ℕ → ℕ → Reading (Part Local)
regs_of ls n at =
    past ls at lex.Reg
    (size_of ls n (at + 1) >>= λ size.
    names_of ls size.end >>= λ all.
    past ls all.end lex.Semicolon (Ok (part (local.Reg at size.tree.signed size.tree.range all.tree) (all.end + 1))))

-- local
abbrev pub local_of : List Terminal → ℕ → ℕ → Reading (Part Local)
local_of ls n at = if is_at ls at lex.Integer then integers_of ls at else regs_of ls n at
