-- Uses of macros (IEEE 1364-2005, 19.3): their arguments, and the text that stands in their place. Limits and places, the blanks round a use, the brackets that keep
-- commas in an argument, and that arguments are expanded first, are this project's own.
use Rattle.std.specs.Prelude.{ℕ, zero, suc, ◌+◌, ◌-◌, ◌==◌, ◌&&◌, ◌||◌, Bool, true, false, List, [], ◌∷◌, ◌++◌, length, drop, Option, Some, None, Result, Ok, nat_lt, nat_le, if◌then◌else◌}
use Rattle.std.specs.List.{prefix_len}
use Rattle.vl_pre.specs.Pieces.{Piece, pieces_of, is_byte, is_single, is_space, without_back, word_of}
use Rattle.vl_pre.specs.Directives.{is_stray}
use Rattle.vl_pre.specs.Macros.{Meaning, Macros, begins_with, is_among, text_of}
use Rattle.vl_pre.specs.Breaks.{◌>>=◌, Break, breaks, max_text, max_uses}
use Rattle.vl_pre.specs.declared.uses.Context.{Context}
use Rattle.vl_pre.specs.declared.arguments.Class.{Class}
use Rattle.vl_pre.specs.declared.arguments.Class.TheVariants.{Passed, Closes, Ends, Belongs}
use Rattle.vl_pre.specs.declared.pieces.Kind.{Kind}
use Rattle.vl_pre.specs.declared.pieces.Kind.TheVariants.{Word, Backquote, Identifier, Quoted, Single}

-- Where a text is expanded: the macros, those within whose expansion it stands, and the context: whether it is text of the file itself, the line of the outermost use, and how long the expansion may be.
pub record Setting : Type 0 where
  pub macros : Macros
  pub forbidden : List (List ℕ)
  pub context : Context

-- the line that is told of a backquote: its own in the file, else that of the outermost use
abbrev pub told : Context → ℕ → ℕ
told context line = if context.own then line else context.outermost

-- what is expanded so far: its bytes, and how many uses there were in the whole source
pub record Expansion : Type 0 where
  pub bytes : List ℕ
  pub uses : ℕ

-- bytes come to an expansion if there is room
abbrev pub with_bytes : Context → List ℕ → Expansion → Result Expansion Break
with_bytes context bytes done =
    if nat_lt context.room (length done.bytes + length bytes) then breaks 80 context.outermost
    else Ok (record { bytes = done.bytes ++ bytes; uses = done.uses })

-- a use counts
abbrev pub with_use : Context → ℕ → ℕ → Result ℕ Break
with_use context line uses = if nat_le max_uses uses then breaks 80 (told context line) else Ok (uses + 1)

-- a text by itself is no longer than the limit
abbrev pub limited : Context → List ℕ → Result (List ℕ) Break
limited context text = if nat_lt max_text (length text) then breaks 80 context.outermost else Ok text

-- how many brackets are open behind a piece; a closing one that closes none changes nothing
abbrev pub brackets : ℕ → Piece → ℕ
brackets depth piece =
    if is_single (λ b. b == 40 || b == 91 || b == 123) piece then depth + 1
    else if is_single (λ b. b == 41 || b == 93 || b == 125) piece then depth - 1
    else depth

-- Arguments that are read: those that came, what came of the next, how many brackets are open in it, how many pieces were taken, and whether the list is closed.
pub record Arguments : Type 0 where
  pub texts : List (List Piece)
  pub next : List Piece
  pub depth : ℕ
  pub size : ℕ
  pub closed : Bool

abbrev pub is_empty : List Piece → Bool
is_empty [] = true
is_empty (piece ∷ pieces) = false

-- an argument has come, without spaces behind it
abbrev pub with_argument : Arguments → Bool → Arguments
with_argument given closed = record { texts = given.texts ++ without_back given.next ∷ []; next = []; depth = 0; size = given.size + 1; closed = closed }

-- What a piece is among arguments: they are split at commas outside brackets and closed by a parenthesis outside them; spaces in front of one are passed over.
abbrev pub class_of : Bool → ℕ → Piece → Class
class_of empty depth piece =
    if empty && is_space piece then Passed
    else if depth == 0 && is_byte 41 piece then Closes
    else if depth == 0 && is_byte 44 piece then Ends
    else Belongs

abbrev pub turn_by : Class → Arguments → Piece → Arguments
turn_by Passed given piece = record given { size = given.size + 1; closed = false }
turn_by Closes given piece = with_argument given true
turn_by Ends given piece = with_argument given false
turn_by Belongs given piece = record given { next = given.next ++ piece ∷ []; depth = brackets given.depth piece; size = given.size + 1; closed = false }

abbrev pub arguments_turn : Context → Arguments → Piece → Result Arguments Break
arguments_turn context given piece =
    if is_stray piece then breaks 11 (told context piece.line) else Ok (turn_by (class_of (is_empty given.next) given.depth piece) given piece)

-- the arguments up to the closing parenthesis
abbrev pub arguments_from : Context → Arguments → List Piece → Result Arguments Break
arguments_from context given [] = breaks 13 context.outermost
arguments_from context given (piece ∷ pieces) =
    arguments_turn context given piece >>= λ turn. if turn.closed then Ok turn else arguments_from context turn pieces

abbrev pub no_arguments : Arguments
no_arguments = record { texts = []; next = []; depth = 0; size = 0; closed = false }

-- as many as the formals, behind some pieces
abbrev pub as_many : Context → ℕ → ℕ → Arguments → Result Arguments Break
as_many context formals before given =
    if length given.texts == formals then Ok (record given { size = before + given.size }) else breaks 13 context.outermost

-- the arguments of a macro with formals, behind a parenthesis that spaces may stand before
abbrev pub arguments : Context → Option (List (List ℕ)) → List Piece → Result Arguments Break
arguments context None pieces = Ok no_arguments
arguments context (Some formals) pieces =
    let spaces = prefix_len is_space pieces in
    if begins_with 40 (drop spaces pieces)
    then (arguments_from context no_arguments (drop (spaces + 1) pieces) >>= as_many context (length formals) (spaces + 1))
    else breaks 13 context.outermost

-- how a text is expanded behind what is there
abbrev pub Expander : Type 0
Expander = Setting → List Piece → Expansion → Result Expansion Break

-- a use that is expanded: how many pieces belong to it, and what is expanded behind it
pub record Used : Type 0 where
  pub size : ℕ
  pub done : Expansion

-- how a use is expanded: its name and meaning, its line and what follows it
abbrev pub Use : Type 0
Use = Setting → List ℕ → Meaning → ℕ → List Piece → Expansion → Result Used Break

-- the texts of arguments, and the uses after them
pub record Given : Type 0 where
  pub texts : List (List ℕ)
  pub uses : ℕ

-- each argument is expanded where the use stands, in order, as a text of its own
abbrev pub given_from : Expander → Setting → Given → List (List Piece) → Result Given Break
given_from expand setting given [] = Ok given
given_from expand setting given (argument ∷ arguments) =
    expand (record setting { context = record setting.context { room = max_text } }) argument (record { bytes = []; uses = given.uses }) >>= λ text.
    given_from expand setting (record { texts = given.texts ++ text.bytes ∷ []; uses = text.uses }) arguments

-- the text of a use, if it isn't too long, is expanded with the macro forbidden, and has a blank on each side
abbrev pub surrounded : Expander → Setting → List ℕ → List ℕ → Expansion → Result Expansion Break
surrounded expand setting name text done =
    limited setting.context text >>= λ whole.
    with_bytes setting.context (32 ∷ []) done >>= λ first.
    expand (record { macros = setting.macros; forbidden = setting.forbidden ++ name ∷ []; context = record setting.context { own = false } }) (pieces_of 0 whole) first >>= λ inside.
    with_bytes setting.context (32 ∷ []) inside

-- a use that may be expanded: its arguments are read, it counts, the arguments are expanded and then its text
abbrev pub used : Expander → Use
used expand setting name meaning line pieces done =
    arguments setting.context meaning.formals pieces >>= λ read.
    with_use setting.context line done.uses >>= λ uses.
    given_from expand setting (record { texts = []; uses = uses }) read.texts >>= λ given.
    surrounded expand setting name (text_of meaning given.texts) (record { bytes = done.bytes; uses = given.uses }) >>= λ whole.
    Ok (record { size = read.size; done = whole })

-- a use that is one too many in another
abbrev pub too_deep : Use
too_deep setting name meaning line pieces done = breaks 80 (told setting.context line)

-- a word behind a backquote is a use of a macro that there is, outside its own expansion
abbrev pub known_use : Use → Setting → Piece → List Piece → Expansion → Option Meaning → Result Used Break
known_use how setting piece pieces done None = breaks 11 (told setting.context piece.line)
known_use how setting piece pieces done (Some meaning) =
    if is_among setting.forbidden (word_of piece) then breaks 12 setting.context.outermost
    else how setting (word_of piece) meaning piece.line pieces done

abbrev pub use_of : Use → Setting → Piece → List Piece → Expansion → Result Used Break
use_of how setting piece pieces done = known_use how setting piece pieces done (setting.macros (word_of piece))

abbrev pub kept_bytes : Context → List ℕ → Expansion → Result Used Break
kept_bytes context bytes done = with_bytes context bytes done >>= λ more. Ok (record { size = 0; done = more })

-- what a piece of a macro's text or argument comes to; the line feeds of an argument become blanks
abbrev pub piece_expansion : Use → Setting → Piece → List Piece → Expansion → Result Used Break
piece_expansion how setting piece pieces done =
    if is_stray piece then breaks 11 (told setting.context piece.line) else by piece.kind where
      by : Kind → Result Used Break
      by Word = use_of how setting piece pieces done
      by Backquote = breaks 11 (told setting.context piece.line)
      by Identifier = kept_bytes setting.context piece.bytes done
      by Quoted = kept_bytes setting.context piece.bytes done
      by (Single byte) = kept_bytes setting.context (if byte == 10 then 32 ∷ [] else piece.bytes) done

-- the expansion of pieces, of which those that belong to a use are skipped
abbrev pub expansion : Use → Setting → ℕ → List Piece → Expansion → Result Expansion Break
expansion how setting skip [] done = Ok done
expansion how setting (suc skip) (piece ∷ pieces) done = expansion how setting skip pieces done
expansion how setting zero (piece ∷ pieces) done =
    piece_expansion how setting piece pieces done >>= λ turn. expansion how setting turn.size pieces turn.done

-- a use that n may stand in one another, itself counted
unfoldable pub nested : ℕ → Use
nested zero = too_deep
nested (suc n) = used (λ setting pieces done. expansion (nested n) setting 0 pieces done)
