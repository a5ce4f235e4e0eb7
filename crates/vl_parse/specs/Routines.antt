-- Reading tasks, functions and imports from the place where they begin. Nothing in them is deeper than n. It is this
-- project's own.
use Rattle.std.specs.Prelude.{◌≡◌, ◌||◌, ℕ, ◌+◌, List, [], ◌∷◌, Option, Some, None, Bool, true, false, Ok, Err, slice_get, is_some, if◌then◌else◌}
use Rattle.vl_tree.specs.declared.terminals.Terminal.{Terminal}
use Rattle.vl_tree.specs.declared.terminals.Terminal.TheVariants as lex
use Rattle.vl_tree.specs.declared.operators.Sign.{Sign}
use Rattle.vl_tree.specs.declared.operators.Sign.TheVariants as sign
use Rattle.vl_tree.specs.declared.modules.Direction.{Direction}
use Rattle.vl_tree.specs.declared.modules.Direction.TheVariants as direction
use Rattle.vl_tree.specs.declared.modules.Range.{Range}
use Rattle.vl_tree.specs.declared.routines.Task.{Task}
use Rattle.vl_tree.specs.declared.routines.Function.{Function}
use Rattle.vl_tree.specs.declared.routines.Args.{Args}
use Rattle.vl_tree.specs.declared.routines.Args.TheVariants as args
use Rattle.vl_tree.specs.declared.routines.Arg.{Arg}
use Rattle.vl_tree.specs.declared.routines.Arg.TheVariants as arg
use Rattle.vl_tree.specs.declared.routines.Formal.{Formal}
use Rattle.vl_tree.specs.declared.routines.Fdir.{Fdir}
use Rattle.vl_tree.specs.declared.routines.Fdir.TheVariants as fdir
use Rattle.vl_tree.specs.declared.routines.Import.{Import}
use Rattle.vl_tree.specs.declared.routines.Rtype.{Rtype}
use Rattle.vl_tree.specs.declared.routines.Rtype.TheVariants as rtype
use Rattle.vl_tree.specs.declared.routines.Itype.{Itype}
use Rattle.vl_tree.specs.declared.routines.IntWord.{IntWord}
use Rattle.vl_tree.specs.declared.routines.IntWord.TheVariants as word
use Rattle.vl_tree.specs.declared.routines.Iarg.{Iarg}
use Rattle.vl_tree.specs.declared.routines.Iarg.TheVariants as iarg
use Rattle.vl_tree.specs.Lists.{first_led}
use Rattle.vl_tree.specs.Routines.{is_function_args}
use Rattle.vl_expr.specs.Classes.{is_at, is_in}
use Rattle.vl_expr.specs.Reading.{Reading, ◌>>=◌, past}
use Rattle.vl_parse.specs.declared.part.Part.{Part}
use Rattle.vl_parse.specs.Parts.{part, behind, named, name_of, listed_of, many_of, maybe_of}
use Rattle.vl_parse.specs.Declarations.{range_of, opens_range, size_of, ptype_of, names_of, opens_local, local_of}
use Rattle.vl_parse.specs.Statements.{stmt_of}

-- "input" | "output"
abbrev pub direction_of : Option Terminal → Option Direction
direction_of (Some lex.Input) = Some direction.Input
direction_of (Some lex.Output) = Some direction.Output
direction_of _ = None

abbrev pub opens_dir : Option Terminal → Bool
opens_dir o = is_some (direction_of o)

abbrev pub fdir_by : List Terminal → ℕ → ℕ → Option Direction → Reading (Part Fdir)
fdir_by ls n at None = Err at
fdir_by ls n at (Some d) =
    if is_at ls (at + 1) lex.Integer
    then Ok (part (fdir.Integer at d) (at + 2))
    else (size_of ls n (behind ls lex.Reg (at + 1)) >>= λ size.
    Ok (part (fdir.Vector at d (is_at ls (at + 1) lex.Reg) size.tree.signed size.tree.range) size.end))

-- fdir
abbrev pub fdir_of : List Terminal → ℕ → ℕ → Reading (Part Fdir)
fdir_of ls n at = fdir_by ls n at (direction_of (slice_get ls at))

-- formal
abbrev pub formal_of : List Terminal → ℕ → ℕ → Reading (Part Formal)
formal_of ls n at =
    maybe_of ls opens_dir (fdir_of ls n) at >>= λ d.
    named ls d.end (Ok (part (record { at = at; fdir = d.tree; name = d.end }) (d.end + 1)))

-- fdir ID { "," ID } ";"
abbrev pub formals_of : List Terminal → ℕ → ℕ → Reading (Part Arg)
formals_of ls n at =
    fdir_of ls n at >>= λ d. names_of ls d.end >>= λ all.
    past ls all.end lex.Semicolon (Ok (part (arg.Formals at d.tree all.tree) (all.end + 1)))

-- fdir ID { "," ID } ";" | local
abbrev pub arg_of : List Terminal → ℕ → ℕ → Reading (Part Arg)
arg_of ls n at =
    if opens_dir (slice_get ls at)
    then formals_of ls n at
    else (local_of ls n at >>= λ l. Ok (part (arg.Local at l.tree) l.end))

abbrev pub opens_arg : Option Terminal → Bool
opens_arg o = opens_dir o || opens_local o

-- "(" [ formal { "," formal } ] ")" ";" { local }
abbrev pub listed_args : List Terminal → ℕ → ℕ → Reading (Part Args)
listed_args ls n at =
    listed_of ls (formal_of ls n) (at + 1) >>= λ formals.
    past ls formals.end lex.CloseParen
    (if first_led (λ f. f.fdir) formals.tree
    then past ls (formals.end + 1) lex.Semicolon
    (many_of ls opens_local (local_of ls n) (formals.end + 2) >>= λ locals.
    Ok (part (args.Listed at formals.tree locals.tree) locals.end))
    else Err (at + 1))

-- ";" { fdir ID { "," ID } ";" | local }
abbrev pub declared_args : List Terminal → ℕ → ℕ → Reading (Part Args)
declared_args ls n at =
    past ls at lex.Semicolon
    (many_of ls opens_arg (arg_of ls n) (at + 1) >>= λ all. Ok (part (args.Declared at all.tree) all.end))

-- args
abbrev pub args_of : List Terminal → ℕ → ℕ → Reading (Part Args)
args_of ls n at = if is_at ls at lex.OpenParen then listed_args ls n at else declared_args ls n at

-- task
abbrev pub task_of : List Terminal → List (List ℕ) → ℕ → ℕ → Reading (Part Task)
task_of ls names n at =
    past ls at lex.Task (named ls (at + 1)
    (args_of ls n (at + 2) >>= λ all. stmt_of ls names n all.end >>= λ s.
    past ls s.end lex.Endtask
    (Ok (part (record { at = at; name = at + 1; args = all.tree; body = s.tree }) (s.end + 1)))))

-- ID args, those of a function
abbrev pub inputs_of : List Terminal → ℕ → ℕ → Reading (Part Args)
inputs_of ls n at =
    named ls at
    (args_of ls n (at + 1) >>= λ all. if is_function_args all.tree then Ok (part all.tree all.end) else Err all.end)

-- function
abbrev pub function_of : List Terminal → List (List ℕ) → ℕ → ℕ → Reading (Part Function)
function_of ls names n at =
    past ls at lex.Function
    (ptype_of ls n (at + 1) >>= λ t. inputs_of ls n t.end >>= λ all. stmt_of ls names n all.end >>= λ s.
    past ls s.end lex.Endfunction
    (Ok (part (record { at = at; ptype = t.tree; name = t.end; args = all.tree; body = s.tree }) (s.end + 1))))

-- "byte" | "shortint" | "int" | "longint"
abbrev pub word_of : Option Terminal → Option IntWord
word_of (Some lex.Byte) = Some word.Byte
word_of (Some lex.Shortint) = Some word.Shortint
word_of (Some lex.Int) = Some word.Int
word_of (Some lex.Longint) = Some word.Longint
word_of _ = None

-- "signed" | "unsigned"
abbrev pub sign_of : Option Terminal → Option Sign
sign_of (Some lex.Signed) = Some sign.Signed
sign_of (Some lex.Unsigned) = Some sign.Unsigned
sign_of _ = None

abbrev pub itype_by : List Terminal → ℕ → Option IntWord → Reading (Part Itype)
itype_by ls at None = Err at
itype_by ls at (Some w) =
    Ok (part (record { at = at; word = w; sign = sign_of (slice_get ls (at + 1)) })
    (if is_some (sign_of (slice_get ls (at + 1))) then at + 2 else at + 1))

-- itype
abbrev pub itype_of : List Terminal → ℕ → Reading (Part Itype)
itype_of ls at = itype_by ls at (word_of (slice_get ls at))

-- rtype
abbrev pub rtype_of : List Terminal → ℕ → Reading (Part Rtype)
rtype_of ls at =
    if is_at ls at lex.Void then Ok (part (rtype.Void at) (at + 1))
    else (if is_at ls at lex.Bit then Ok (part (rtype.Bit at) (at + 1))
    else (itype_of ls at >>= λ t. Ok (part (rtype.Number at t.tree) t.end)))

-- "bit" [ range ] ID
abbrev pub bits_of : List Terminal → ℕ → ℕ → Direction → Reading (Part Iarg)
bits_of ls n at d =
    maybe_of ls opens_range (range_of ls n) (at + 2) >>= λ range.
    named ls range.end (Ok (part (iarg.Bits at d range.tree range.end) (range.end + 1)))

-- itype ID
abbrev pub number_of : List Terminal → ℕ → Direction → Reading (Part Iarg)
number_of ls at d =
    itype_of ls (at + 1) >>= λ t. named ls t.end (Ok (part (iarg.Number at d t.tree t.end) (t.end + 1)))

abbrev pub iarg_by : List Terminal → ℕ → ℕ → Option Direction → Reading (Part Iarg)
iarg_by ls n at None = Err at
iarg_by ls n at (Some d) = if is_at ls (at + 1) lex.Bit then bits_of ls n at d else number_of ls at d

-- iarg
abbrev pub iarg_of : List Terminal → ℕ → ℕ → Reading (Part Iarg)
iarg_of ls n at = iarg_by ls n at (direction_of (slice_get ls at))

-- "(" [ iarg { "," iarg } ] ")" ";" behind the name at this place
abbrev pub iargs_of : List Terminal → ℕ → ℕ → Reading (Part (List Iarg))
iargs_of ls n at =
    past ls (at + 1) lex.OpenParen
    (listed_of ls (iarg_of ls n) (at + 2) >>= λ all.
    past ls all.end lex.CloseParen (past ls (all.end + 1) lex.Semicolon (Ok (part all.tree (all.end + 2)))))

-- "import" QUOTED [ "context" ] "function", and the place behind
abbrev pub import_head : List Terminal → ℕ → Reading ℕ
import_head ls at =
    past ls at lex.Import (past ls (at + 1) lex.Dpi
    (past ls (behind ls lex.Context (at + 2)) lex.Function (Ok (behind ls lex.Context (at + 2) + 1))))

-- import
abbrev pub import_of : List Terminal → ℕ → ℕ → Reading (Part Import)
import_of ls n at =
    import_head ls at >>= λ from. rtype_of ls from >>= λ t. named ls t.end
    (iargs_of ls n t.end >>= λ all.
    Ok (part (record {
      at = at;
      spec = at + 1;
      context = is_at ls (at + 2) lex.Context;
      rtype = t.tree;
      name = t.end;
      args = all.tree;
    }) all.end))
