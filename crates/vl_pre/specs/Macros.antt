-- Macros (IEEE 1364-2005, 19.3): what they stand for, how they are defined, and what their text is with arguments. That a continued line gives a blank, that a line
-- feed of an argument gives one, and which names can't be macros, is this project's own.
use Rattle.std.specs.Prelude.{ℕ, zero, suc, ◌+◌, ◌&&◌, not, Bool, false, List, [], ◌∷◌, ◌++◌, Option, Some, None, Result, Ok, bytes_eq, drop, unwrap_or, if◌then◌else◌}
use Rattle.std.specs.List.{prefix_len, list_any}
use Rattle.std.specs.Map.{update}
use Rattle.vl_pre.specs.Pieces.{Piece, pieces_of, is_byte, is_blank_piece, is_identifier, bytes_of_pieces, trimmed}
use Rattle.vl_pre.specs.Directives.{is_directive, is_stray, name_behind, Operand}
use Rattle.vl_pre.specs.Breaks.{◌>>=◌, Break, breaks}
use Rattle.vl_pre.specs.declared.macros.ListState.{ListState}
use Rattle.vl_pre.specs.declared.macros.ListState.TheVariants.{Awaits, Named, Closed}
use Rattle.vl_pre.specs.declared.pieces.Kind.TheVariants.{Single}

-- what a macro is: its formals, if it has a list of them, and its text
pub record Meaning : Type 0 where
  pub formals : Option (List (List ℕ))
  pub text : List ℕ

-- what each name stands for
abbrev pub Macros : Type 0
Macros = List ℕ → Option Meaning

abbrev pub no_macros : Macros
no_macros name = None

-- a later definition replaces an earlier one
abbrev pub with_macro : Macros → List ℕ → Option Meaning → Macros
with_macro macros name meaning = update bytes_eq macros name meaning

-- macros without formals, defined before the first file (this project's own)
abbrev pub with_defines : Macros → List (List ℕ × List ℕ) → Macros
with_defines macros [] = macros
with_defines macros (define ∷ defines) = with_defines (with_macro macros define.0 (Some (record { formals = None; text = define.1 }))) defines

-- whether the pieces begin with this byte
abbrev pub begins_with : ℕ → List Piece → Bool
begins_with sign [] = false
begins_with sign (piece ∷ pieces) = is_byte sign piece

-- how many pieces belong to a continuation behind its backslash, which stands directly before the line's end, carriage returns aside; 0 where there is none
abbrev pub continuation : Piece → List Piece → ℕ
continuation piece pieces =
    let returns = prefix_len (λ p. is_byte 13 p) pieces in
    if is_byte 92 piece && begins_with 10 (drop returns pieces) then returns + 1 else 0

-- a continuation becomes a blank
abbrev pub blanked : ℕ → Piece → Piece
blanked zero piece = piece
blanked (suc n) piece = record { line = piece.line; kind = Single 32; bytes = 32 ∷ [] }

-- a line with its continuations, and how many pieces it takes
pub record Line : Type 0 where
  pub pieces : List Piece
  pub size : ℕ

-- the line up to the first line feed that isn't continued (skipped pieces belong to a continuation)
abbrev pub line_from : ℕ → List Piece → Line
line_from skip [] = record { pieces = []; size = 0 }
line_from (suc skip) (piece ∷ pieces) = let rest = line_from skip pieces in record { pieces = rest.pieces; size = suc rest.size }
line_from zero (piece ∷ pieces) =
    if is_byte 10 piece then record { pieces = []; size = 0 }
    else (let rest = line_from (continuation piece pieces) pieces in record { pieces = blanked (continuation piece pieces) piece ∷ rest.pieces; size = suc rest.size })

-- whether a name is among others
abbrev pub is_among : List (List ℕ) → List ℕ → Bool
is_among names name = list_any (λ other. bytes_eq other name) names

-- the formals so far, and what may come next
pub record Formals : Type 0 where
  pub state : ListState
  pub names : List (List ℕ)

-- what a piece of a list of distinct formals does
abbrev pub formals_turn : ℕ → Formals → Piece → Result Formals Break
formals_turn line formals piece = if is_blank_piece piece then Ok formals else by formals.state where
  by : ListState → Result Formals Break
  by Awaits =
      if is_identifier piece && not (is_among formals.names piece.bytes) then Ok (record { state = Named; names = formals.names ++ piece.bytes ∷ [] })
      else breaks 11 line
  by Named =
      if is_byte 44 piece then Ok (record { state = Awaits; names = formals.names })
      else if is_byte 41 piece then Ok (record { state = Closed; names = formals.names })
      else breaks 11 line
  by Closed = breaks 11 line

-- the formals of a definition, if it has a list of them, and what follows
pub record Heading : Type 0 where
  pub formals : Option (List (List ℕ))
  pub rest : List Piece

-- the list is read to its closing parenthesis
abbrev pub list_from : ℕ → Formals → List Piece → Result Heading Break
list_from line formals [] = breaks 11 line
list_from line formals (piece ∷ pieces) = formals_turn line formals piece >>= λ turn. next turn.state turn (list_from line turn pieces) where
  next : ListState → Formals → Result Heading Break → Result Heading Break
  next Closed turn more = Ok (record { formals = Some turn.names; rest = pieces })
  next Awaits turn more = more
  next Named turn more = more

-- formals stand where a parenthesis follows the name directly
abbrev pub heading : ℕ → List Piece → Result Heading Break
heading line pieces =
    if begins_with 40 pieces then list_from line (record { state = Awaits; names = [] }) (drop 1 pieces)
    else Ok (record { formals = None; rest = pieces })

-- the line of the first piece that can't stand in a macro's text
abbrev pub stray_line : List Piece → Option ℕ
stray_line [] = None
stray_line (piece ∷ pieces) = if is_stray piece then Some piece.line else stray_line pieces

abbrev pub unless_stray : Option ℕ → List ℕ → Result (List ℕ) Break
unless_stray None text = Ok text
unless_stray (Some line) text = breaks 11 line

-- the text of a macro, without blanks at its ends; what can't stand in it is broken at its line
abbrev pub macro_text : List Piece → Result (List ℕ) Break
macro_text pieces = unless_stray (stray_line pieces) (bytes_of_pieces (trimmed pieces))

-- a definition: a name and what it is to be
pub record Definition : Type 0 where
  pub name : List ℕ
  pub meaning : Meaning

-- a name that is no directive's
abbrev pub macro_name : ℕ → Option Operand → Result Operand Break
macro_name line None = breaks 11 line
macro_name line (Some operand) = if is_directive operand.text then breaks 11 line else Ok operand

-- What the line behind `define defines; where it is malformed, or defines a directive's name, it is broken at its own line.
abbrev pub definition : ℕ → List Piece → Result Definition Break
definition line pieces =
    macro_name line (name_behind pieces) >>= λ name.
    heading line (drop name.size pieces) >>= λ head.
    macro_text head.rest >>= λ text.
    Ok (record { name = name.text; meaning = record { formals = head.formals; text = text } })

-- the text of the argument of a formal
abbrev pub argument_of : List (List ℕ) → List (List ℕ) → List ℕ → Option (List ℕ)
argument_of [] arguments name = None
argument_of (formal ∷ formals) [] name = None
argument_of (formal ∷ formals) (argument ∷ arguments) name = if bytes_eq formal name then Some argument else argument_of formals arguments name

-- what stands for a piece: its argument, if it is an identifier that is a formal; strings and words behind backquotes stay
abbrev pub piece_text : List (List ℕ) → List (List ℕ) → Piece → List ℕ
piece_text formals arguments piece = if is_identifier piece then unwrap_or (argument_of formals arguments piece.bytes) piece.bytes else piece.bytes

-- a text with its arguments
abbrev pub substituted : List (List ℕ) → List (List ℕ) → List Piece → List ℕ
substituted formals arguments [] = []
substituted formals arguments (piece ∷ pieces) = piece_text formals arguments piece ++ substituted formals arguments pieces

-- the text of a use with its arguments
abbrev pub text_of : Meaning → List (List ℕ) → List ℕ
text_of meaning arguments = text meaning.formals where
  text : Option (List (List ℕ)) → List ℕ
  text None = meaning.text
  text (Some formals) = substituted formals arguments (pieces_of 0 meaning.text)
