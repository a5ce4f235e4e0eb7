-- Tasks, functions and imports (IEEE 1364-2005, A.2.6 and A.2.7; imports after IEEE 1800-2005, A.2.6).
use Rattle.std.specs.Prelude.{◌≡◌, ◌&&◌, ℕ, ◌+◌, List, [], ◌∷◌, Option, Some, None, Bool, true, false}
use Rattle.std.specs.List.{list_all, list_any}
use Rattle.vl_tree.specs.declared.terminals.Terminal.{Terminal}
use Rattle.vl_tree.specs.declared.terminals.Terminal.TheVariants as lex
use Rattle.vl_tree.specs.declared.operators.Sign.{Sign}
use Rattle.vl_tree.specs.declared.operators.Sign.TheVariants as sign
use Rattle.vl_tree.specs.declared.modules.Direction.{Direction}
use Rattle.vl_tree.specs.declared.modules.Direction.TheVariants as direction
use Rattle.vl_tree.specs.declared.modules.Range.{Range}
use Rattle.vl_tree.specs.declared.modules.Ptype.{Ptype}
use Rattle.vl_tree.specs.declared.routines.Task.{Task}
use Rattle.vl_tree.specs.declared.routines.Function.{Function}
use Rattle.vl_tree.specs.declared.routines.Args.{Args}
use Rattle.vl_tree.specs.declared.routines.Args.TheVariants as args
use Rattle.vl_tree.specs.declared.routines.Arg.{Arg}
use Rattle.vl_tree.specs.declared.routines.Arg.TheVariants as arg
use Rattle.vl_tree.specs.declared.routines.Formal.{Formal}
use Rattle.vl_tree.specs.declared.routines.Fdir.{Fdir}
use Rattle.vl_tree.specs.declared.routines.Fdir.TheVariants as fdir
use Rattle.vl_tree.specs.declared.routines.Local.{Local}
use Rattle.vl_tree.specs.declared.routines.Import.{Import}
use Rattle.vl_tree.specs.declared.routines.Rtype.{Rtype}
use Rattle.vl_tree.specs.declared.routines.Rtype.TheVariants as rtype
use Rattle.vl_tree.specs.declared.routines.Itype.{Itype}
use Rattle.vl_tree.specs.declared.routines.IntWord.{IntWord}
use Rattle.vl_tree.specs.declared.routines.IntWord.TheVariants as word
use Rattle.vl_tree.specs.declared.routines.Iarg.{Iarg}
use Rattle.vl_tree.specs.declared.routines.Iarg.TheVariants as iarg
use Rattle.vl_tree.specs.declared.statements.Stmt.{Stmt}
use Rattle.vl_tree.specs.Places.{At, IsName}
use Rattle.vl_tree.specs.Lists.{Commas, MaybeCommas, Many, Maybe, Flag, Name, first_led}
use Rattle.vl_tree.specs.Declarations.{IsRange, IsPtype, IsLocal}
use Rattle.vl_tree.specs.Statements.{IsStmt}

-- "input" | "output"
pub data IsDirection (ls : List Terminal) : ℕ → ℕ → Direction → Type 0 where
  input : {i : ℕ} → At ls i lex.Input → IsDirection ls i (i + 1) direction.Input
  output : {i : ℕ} → At ls i lex.Output → IsDirection ls i (i + 1) direction.Output

-- fdir = ( "input" | "output" ) ( [ "reg" ] [ "signed" ] [ range ] | "integer" )
pub data IsFdir (ls : List Terminal) (n : ℕ) : ℕ → ℕ → Fdir → Type 0 where
  vector_formal : {i j k m : ℕ} {d : Direction} {reg signed : Bool} {range : Option Range} →
      IsDirection ls i (i + 1) d → Flag ls lex.Reg (i + 1) j reg → Flag ls lex.Signed j k signed →
      Maybe (IsRange ls n) k m range → IsFdir ls n i m (fdir.Vector i d reg signed range)
  integer_formal : {i : ℕ} {d : Direction} →
      IsDirection ls i (i + 1) d → At ls (i + 1) lex.Integer → IsFdir ls n i (i + 2) (fdir.Integer i d)

-- formal = [ fdir ] ID
pub data IsFormal (ls : List Terminal) (n : ℕ) : ℕ → ℕ → Formal → Type 0 where
  formal : {i j : ℕ} {d : Option Fdir} →
      Maybe (IsFdir ls n) i j d → IsName ls j → IsFormal ls n i (j + 1) (record { at = i; fdir = d; name = j })

-- fdir ID { "," ID } ";" | local
pub data IsArg (ls : List Terminal) (n : ℕ) : ℕ → ℕ → Arg → Type 0 where
  formals : {i j k : ℕ} {d : Fdir} {names : List ℕ} →
      IsFdir ls n i j d → Commas ls (Name ls) j k names → At ls k lex.Semicolon →
      IsArg ls n i (k + 1) (arg.Formals i d names)
  local : {i j : ℕ} {l : Local} → IsLocal ls n i j l → IsArg ls n i j (arg.Local i l)

-- args = "(" [ formal { "," formal } ] ")" ";" { local } | ";" { fdir ID { "," ID } ";" | local }
-- The first formal of a list has its leading words.
pub data IsArgs (ls : List Terminal) (n : ℕ) : ℕ → ℕ → Args → Type 0 where
  listed : {i j k : ℕ} {formals : List Formal} {locals : List Local} →
      At ls i lex.OpenParen → MaybeCommas ls (IsFormal ls n) (i + 1) j formals → At ls j lex.CloseParen →
      first_led (λ f. f.fdir) formals ≡ true →
      At ls (j + 1) lex.Semicolon → Many (IsLocal ls n) (j + 2) k locals →
      IsArgs ls n i k (args.Listed i formals locals)
  declared : {i j : ℕ} {all : List Arg} →
      At ls i lex.Semicolon → Many (IsArg ls n) (i + 1) j all → IsArgs ls n i j (args.Declared i all)

-- task = "task" ID args stmt "endtask"
pub data IsTask (ls : List Terminal) (names : List (List ℕ)) (n : ℕ) : ℕ → ℕ → Task → Type 0 where
  task : {i j k : ℕ} {dangling : Bool} {a : Args} {s : Stmt} →
      At ls i lex.Task → IsName ls (i + 1) → IsArgs ls n (i + 2) j a → IsStmt ls names n dangling j k s →
      At ls k lex.Endtask → IsTask ls names n i (k + 1) (record { at = i; name = i + 1; args = a; body = s })

-- leading words that begin with "input"
abbrev pub is_input : Fdir → Bool
is_input (fdir.Vector at direction.Input reg signed range) = true
is_input (fdir.Vector at direction.Output reg signed range) = false
is_input (fdir.Integer at direction.Input) = true
is_input (fdir.Integer at direction.Output) = false

abbrev pub is_input_formal : Formal → Bool
is_input_formal f = input_or_led f.fdir
  where
    input_or_led : Option Fdir → Bool
    input_or_led None = true
    input_or_led (Some d) = is_input d

abbrev pub is_formals : Arg → Bool
is_formals (arg.Formals at d names) = true
is_formals (arg.Local at l) = false

abbrev pub is_input_arg : Arg → Bool
is_input_arg (arg.Formals at d names) = is_input d
is_input_arg (arg.Local at l) = true

-- a function has inputs only, and at least one
abbrev pub is_function_args : Args → Bool
is_function_args (args.Listed at [] locals) = false
is_function_args (args.Listed at (f ∷ fs) locals) = list_all is_input_formal (f ∷ fs)
is_function_args (args.Declared at all) = list_all is_input_arg all && list_any is_formals all

-- function = "function" ptype ID args stmt "endfunction"
pub data IsFunction (ls : List Terminal) (names : List (List ℕ)) (n : ℕ) : ℕ → ℕ → Function → Type 0 where
  function : {i j k m : ℕ} {dangling : Bool} {t : Ptype} {a : Args} {s : Stmt} →
      At ls i lex.Function → IsPtype ls n (i + 1) j t → IsName ls j → IsArgs ls n (j + 1) k a →
      is_function_args a ≡ true → IsStmt ls names n dangling k m s → At ls m lex.Endfunction →
      IsFunction ls names n i (m + 1) (record { at = i; ptype = t; name = j; args = a; body = s })

-- "byte" | "shortint" | "int" | "longint"
pub data IsIntWord (ls : List Terminal) : ℕ → ℕ → IntWord → Type 0 where
  byte : {i : ℕ} → At ls i lex.Byte → IsIntWord ls i (i + 1) word.Byte
  shortint : {i : ℕ} → At ls i lex.Shortint → IsIntWord ls i (i + 1) word.Shortint
  int : {i : ℕ} → At ls i lex.Int → IsIntWord ls i (i + 1) word.Int
  longint : {i : ℕ} → At ls i lex.Longint → IsIntWord ls i (i + 1) word.Longint

-- "signed" | "unsigned"
pub data IsSign (ls : List Terminal) : ℕ → ℕ → Sign → Type 0 where
  signed : {i : ℕ} → At ls i lex.Signed → IsSign ls i (i + 1) sign.Signed
  unsigned : {i : ℕ} → At ls i lex.Unsigned → IsSign ls i (i + 1) sign.Unsigned

-- itype = ( "byte" | "shortint" | "int" | "longint" ) [ "signed" | "unsigned" ]
pub data IsItype (ls : List Terminal) : ℕ → ℕ → Itype → Type 0 where
  itype : {i j : ℕ} {w : IntWord} {s : Option Sign} →
      IsIntWord ls i (i + 1) w → Maybe (IsSign ls) (i + 1) j s →
      IsItype ls i j (record { at = i; word = w; sign = s })

-- rtype = "void" | "bit" | itype
pub data IsRtype (ls : List Terminal) : ℕ → ℕ → Rtype → Type 0 where
  void : {i : ℕ} → At ls i lex.Void → IsRtype ls i (i + 1) (rtype.Void i)
  bit : {i : ℕ} → At ls i lex.Bit → IsRtype ls i (i + 1) (rtype.Bit i)
  number : {i j : ℕ} {t : Itype} → IsItype ls i j t → IsRtype ls i j (rtype.Number i t)

-- iarg = ( "input" | "output" ) ( "bit" [ range ] | itype ) ID
pub data IsIarg (ls : List Terminal) (n : ℕ) : ℕ → ℕ → Iarg → Type 0 where
  bits : {i j : ℕ} {d : Direction} {range : Option Range} →
      IsDirection ls i (i + 1) d → At ls (i + 1) lex.Bit → Maybe (IsRange ls n) (i + 2) j range → IsName ls j →
      IsIarg ls n i (j + 1) (iarg.Bits i d range j)
  numbers : {i j : ℕ} {d : Direction} {t : Itype} →
      IsDirection ls i (i + 1) d → IsItype ls (i + 1) j t → IsName ls j →
      IsIarg ls n i (j + 1) (iarg.Number i d t j)

-- import = "import" QUOTED [ "context" ] "function" rtype ID "(" [ iarg { "," iarg } ] ")" ";"
pub data IsImport (ls : List Terminal) (n : ℕ) : ℕ → ℕ → Import → Type 0 where
  «import» : {i j k m : ℕ} {context : Bool} {t : Rtype} {all : List Iarg} →
      At ls i lex.Import → At ls (i + 1) lex.Dpi → Flag ls lex.Context (i + 2) j context → At ls j lex.Function →
      IsRtype ls (j + 1) k t → IsName ls k → At ls (k + 1) lex.OpenParen →
      MaybeCommas ls (IsIarg ls n) (k + 2) m all → At ls m lex.CloseParen → At ls (m + 1) lex.Semicolon →
      IsImport ls n i (m + 2)
      (record { at = i; spec = i + 1; context = context; rtype = t; name = k; args = all })
