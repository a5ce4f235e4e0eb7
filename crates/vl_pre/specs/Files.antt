-- The expansion of a source: its files are loaded, cleaned and read from left to right. The first refusal or miss ends it. Limits and places are this project's own.
use Rattle.std.specs.Prelude.{ℕ, zero, suc, ◌+◌, ◌-◌, Bool, true, List, [], ◌∷◌, ◌++◌, length, Option, Some, None, Result, Ok, Err, is_some, bytes_eq, codes, nat_lt, nat_le, if◌then◌else◌}
use Rattle.std.specs.List.{list_any}
use Rattle.xt_base.specs.Outside.{Held, bytes_of, max_file}
use Rattle.vl_pre.specs.Text.{Expanded, with_stretch, with_byte}
use Rattle.vl_pre.specs.Clean.{clean_file}
use Rattle.vl_pre.specs.Pieces.{Piece, pieces_of, word_of}
use Rattle.vl_pre.specs.Directives.{directive_of, name_behind, string_behind, rest_of_line, Operand}
use Rattle.vl_pre.specs.Macros.{Macros, no_macros, with_macro, with_defines, line_from, definition}
use Rattle.vl_pre.specs.Groups.{is_read, is_conditional, operand_at, turned}
use Rattle.vl_pre.specs.Breaks.{◌>>=◌, Break, breaks, max_text, max_nesting, max_loads, max_includes}
use Rattle.vl_pre.specs.Uses.{Setting, use_of, nested}
use Rattle.vl_pre.specs.declared.groups.Group.{Group}
use Rattle.vl_pre.specs.declared.pieces.Kind.{Kind}
use Rattle.vl_pre.specs.declared.pieces.Kind.TheVariants.{Word, Backquote, Identifier, Quoted, Single}
use Rattle.vl_pre.specs.declared.directives.Directive.{Directive}
use Rattle.vl_pre.specs.declared.directives.Directive.TheVariants as directives

-- what is read so far: the macros, how many uses were expanded, the names that were loaded, and the text
pub record Reading : Type 0 where
  pub macros : Macros
  pub uses : ℕ
  pub loads : List (List ℕ)
  pub text : Expanded

-- the stretch that is read
abbrev pub stretch_of : Reading → ℕ
stretch_of reading = length reading.text.names - 1

-- the net types that may be the default (IEEE 1364-2005, 19.2, of which this project takes two)
unfoldable pub net_types : List (List ℕ)
net_types = codes "wire" ∷ codes "none" ∷ []

unfoldable pub is_nettype : List ℕ → Bool
is_nettype name = list_any (λ listed. bytes_eq listed name) net_types

-- bytes come to the text, all with one place
abbrev pub added : Expanded → ℕ → List ℕ → Expanded
added text line [] = text
added text line (byte ∷ bytes) = added (with_byte text byte line) line bytes

-- what a piece takes: how many pieces behind it belong to it, and what is read after it
pub record Taken : Type 0 where
  pub size : ℕ
  pub reading : Reading

-- a turn of a file: what a piece takes, and the groups after it
pub record Turn : Type 0 where
  pub taken : Taken
  pub groups : List Group

-- what a piece of a file does: a turn, or an include, whose name is told and how many pieces it takes
pub data Step : Type 0 where
  Turns : Turn → Step
  Includes : Operand → Step

-- a piece that is no word behind a backquote stays, if there is room in the text
abbrev pub kept_piece : Piece → Reading → Result Taken Break
kept_piece piece reading =
    if nat_lt max_text (length reading.text.bytes + length piece.bytes) then breaks 80 piece.line
    else Ok (record { size = 0; reading = record reading { text = added reading.text piece.line piece.bytes } })

-- a use stands in the file itself and in no other
abbrev pub setting_of : ℕ → Reading → Setting
setting_of line reading = record { macros = reading.macros; forbidden = []; context = record { own = true; outermost = line; room = max_text - length reading.text.bytes } }

-- the text of a use comes to the text, with the place of its backquote
abbrev pub use_piece : Piece → List Piece → Reading → Result Taken Break
use_piece piece pieces reading =
    use_of (nested max_nesting) (setting_of piece.line reading) piece pieces (record { bytes = []; uses = reading.uses }) >>= λ whole.
    Ok (record { size = whole.size; reading = record reading { uses = whole.done.uses; text = added reading.text piece.line whole.done.bytes } })

-- `define: the macro stands for its text from here
abbrev pub define_piece : Piece → List Piece → Reading → Result Taken Break
define_piece piece pieces reading =
    definition piece.line (line_from 0 pieces).pieces >>= λ d.
    Ok (record { size = (line_from 0 pieces).size; reading = record reading { macros = with_macro reading.macros d.name (Some d.meaning) } })

-- `undef: the name is no macro from here
abbrev pub undef_piece : Piece → List Piece → Reading → Result Taken Break
undef_piece piece pieces reading =
    operand_at piece.line (name_behind pieces) >>= λ name.
    Ok (record { size = name.size; reading = record reading { macros = with_macro reading.macros name.text None } })

-- `default_nettype: wire or none, and dropped
abbrev pub nettype_piece : Piece → List Piece → Reading → Result Taken Break
nettype_piece piece pieces reading =
    operand_at piece.line (name_behind pieces) >>= λ name.
    if is_nettype name.text then Ok (record { size = name.size; reading = reading }) else breaks 11 piece.line

-- a turn that leaves the groups as they are
abbrev pub in_groups : List Group → Result Taken Break → Result Step Break
in_groups groups (Ok taken) = Ok (Turns (record { taken = taken; groups = groups }))
in_groups groups (Err broken) = Err broken

-- a turn that takes some pieces and changes nothing
abbrev pub passes : ℕ → List Group → Reading → Result Step Break
passes size groups reading = in_groups groups (Ok (record { size = size; reading = reading }))

-- a conditional directive changes the groups
abbrev pub conditional_piece : Directive → Piece → List Piece → List Group → Reading → Result Step Break
conditional_piece directive piece pieces groups reading =
    turned directive (λ name. is_some (reading.macros name)) (stretch_of reading) piece.line pieces groups >>= λ turn.
    passes turn.size turn.groups reading

-- `include: a name stands behind it
abbrev pub include_piece : Piece → List Piece → Result Step Break
include_piece piece pieces = operand_at piece.line (string_behind pieces) >>= λ name. Ok (Includes name)

-- a directive where its group is read
abbrev pub directive_piece : Directive → Piece → List Piece → List Group → Reading → Result Step Break
directive_piece directives.Define piece pieces groups reading = in_groups groups (define_piece piece pieces reading)
directive_piece directives.Undef piece pieces groups reading = in_groups groups (undef_piece piece pieces reading)
directive_piece directives.Include piece pieces groups reading = include_piece piece pieces
directive_piece directives.Timescale piece pieces groups reading = passes (rest_of_line pieces) groups reading
directive_piece directives.DefaultNettype piece pieces groups reading = in_groups groups (nettype_piece piece pieces reading)
directive_piece directives.Bare piece pieces groups reading = passes 0 groups reading
directive_piece directives.Ifdef piece pieces groups reading = conditional_piece directives.Ifdef piece pieces groups reading
directive_piece directives.Ifndef piece pieces groups reading = conditional_piece directives.Ifndef piece pieces groups reading
directive_piece directives.Elsif piece pieces groups reading = conditional_piece directives.Elsif piece pieces groups reading
directive_piece directives.Else piece pieces groups reading = conditional_piece directives.Else piece pieces groups reading
directive_piece directives.Endif piece pieces groups reading = conditional_piece directives.Endif piece pieces groups reading

-- a word behind a backquote where its group is read: a directive or a use
abbrev pub word_piece : Option Directive → Piece → List Piece → List Group → Reading → Result Step Break
word_piece None piece pieces groups reading = in_groups groups (use_piece piece pieces reading)
word_piece (Some directive) piece pieces groups reading = directive_piece directive piece pieces groups reading

-- what a piece comes to where its group is read
abbrev pub read_piece : Piece → List Piece → List Group → Reading → Result Step Break
read_piece piece pieces groups reading = by piece.kind where
  by : Kind → Result Step Break
  by Word = word_piece (directive_of (word_of piece)) piece pieces groups reading
  by Backquote = breaks 11 piece.line
  by Identifier = in_groups groups (kept_piece piece reading)
  by Quoted = in_groups groups (kept_piece piece reading)
  by (Single byte) = in_groups groups (kept_piece piece reading)

-- a word behind a backquote where its group isn't read: passed over but for a conditional directive
abbrev pub passed_word : Option Directive → Piece → List Piece → List Group → Reading → Result Step Break
passed_word None piece pieces groups reading = passes 0 groups reading
passed_word (Some directive) piece pieces groups reading =
    if is_conditional directive then conditional_piece directive piece pieces groups reading else passes 0 groups reading

-- what a piece comes to where its group isn't read
abbrev pub passed_piece : Piece → List Piece → List Group → Reading → Result Step Break
passed_piece piece pieces groups reading = by piece.kind where
  by : Kind → Result Step Break
  by Word = passed_word (directive_of (word_of piece)) piece pieces groups reading
  by Backquote = passes 0 groups reading
  by Identifier = passes 0 groups reading
  by Quoted = passes 0 groups reading
  by (Single byte) = passes 0 groups reading

-- what a piece of a file comes to
abbrev pub file_piece : Piece → List Piece → List Group → Reading → Result Step Break
file_piece piece pieces groups reading = if is_read groups then read_piece piece pieces groups reading else passed_piece piece pieces groups reading

-- a rule that is broken, the stretch and line of its place, and the name of that stretch
pub record Broken : Type 0 where
  pub rule : ℕ
  pub stretch : ℕ
  pub line : ℕ
  pub name : List ℕ

-- why there is no text: a rule that is broken, or a name that isn't held; and the names that were loaded, such a one the last
pub record Stop : Type 0 where
  pub broken : Option Broken
  pub loads : List (List ℕ)

-- a place in the source, before a rule is broken at it
pub record Spot : Type 0 where
  pub stretch : ℕ
  pub line : ℕ
  pub name : List ℕ

abbrev pub broken_at : {A : Type 0} → Spot → ℕ → Reading → Result A Stop
broken_at spot rule reading = Err (record { broken = Some (record { rule = rule; stretch = spot.stretch; line = spot.line; name = spot.name }); loads = reading.loads })

-- a line of the file that is read
abbrev pub spot_of : List ℕ → ℕ → Reading → Spot
spot_of file line reading = record { stretch = stretch_of reading; line = line; name = file }

-- what is broken in a file is broken in the stretch that is read
abbrev pub in_file : {A : Type 0} → List ℕ → Reading → Result A Break → Result A Stop
in_file file reading (Ok x) = Ok x
in_file file reading (Err broken) = broken_at (spot_of file broken.line reading) broken.rule reading

-- how a file is read that is included: its name, the place of its directive, and what is read before it
abbrev pub Include : Type 0
Include = List ℕ → Spot → Reading → Result Reading Stop

-- an included file's expansion stands in place of its directive, and then the text comes back to this file
abbrev pub step_turn : Include → List ℕ → ℕ → List Group → Reading → Step → Result Turn Stop
step_turn include file line groups reading (Turns turn) = Ok turn
step_turn include file line groups reading (Includes name) =
    include name.text (spot_of file line reading) reading >>= λ read.
    Ok (record { taken = record { size = name.size; reading = record read { text = with_stretch read.text file } }; groups = groups })

-- a file ends with no group open; else the innermost is broken where it opened
abbrev pub file_end : List ℕ → List Group → Reading → Result Reading Stop
file_end file [] reading = Ok reading
file_end file (group ∷ groups) reading = broken_at (record { stretch = group.stretch; line = group.line; name = file }) 11 reading

-- the pieces of a file, of which those that belong to a directive or a use are skipped
abbrev pub file_from : Include → List ℕ → ℕ → List Piece → List Group → Reading → Result Reading Stop
file_from include file skip [] groups reading = file_end file groups reading
file_from include file (suc skip) (piece ∷ pieces) groups reading = file_from include file skip pieces groups reading
file_from include file zero (piece ∷ pieces) groups reading =
    in_file file reading (file_piece piece pieces groups reading) >>= λ step.
    step_turn include file piece.line groups reading step >>= λ turn.
    file_from include file turn.taken.size pieces turn.groups turn.taken.reading

-- a file whose bytes were loaded, and into which the text has passed: all of it is cleaned, and then it is read
abbrev pub file_text : Include → List ℕ → List ℕ → Reading → Result Reading Stop
file_text include file bytes reading = in_file file reading (clean_file bytes) >>= λ text. file_from include file 0 (pieces_of 1 text) [] reading

-- what a load finds: no file of that name, one that is too long, or its bytes, into which the text passes
abbrev pub found : Include → List ℕ → Spot → Option (List ℕ) → Reading → Result Reading Stop
found include file spot None reading = Err (record { broken = None; loads = reading.loads })
found include file spot (Some bytes) reading =
    if nat_lt max_file (length bytes) then broken_at spot 80 reading
    else file_text include file bytes (record reading { text = with_stretch reading.text file })

-- A file that n more may stand in, itself counted: includes that nest too deep and a load too many are broken before the load.
unfoldable pub file_expansion : Held → ℕ → Include
file_expansion held zero file spot reading = broken_at spot 11 reading
file_expansion held (suc n) file spot reading =
    if nat_le max_loads (length reading.loads) then broken_at spot 80 reading
    else found (file_expansion held n) file spot (bytes_of held file) (record reading { loads = reading.loads ++ file ∷ [] })

-- the expansion of the source in the named file, with macros that are defined before it
unfoldable pub source_expansion : Held → List ℕ → List (List ℕ × List ℕ) → Result Reading Stop
source_expansion held file defines =
    file_expansion held (suc max_includes) file (record { stretch = 0; line = 0; name = file })
    (record { macros = with_defines no_macros defines; uses = 0; loads = []; text = record { bytes = []; places = []; names = [] } })
