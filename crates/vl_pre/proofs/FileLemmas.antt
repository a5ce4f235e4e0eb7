-- A file that is read piece by piece.
use Rattle.std.proofs.Common.{◌≡◌, ◌+◌, ◌∙◌, ℕ, zero, suc, Bool, true, false, cond, List, [], ◌∷◌, length, drop, Result, Ok, Err, Option, Some, None, refl, sym, ap, subst}
use Rattle.std.specs.Prelude.{IfOk, IsOkAnd, nat_lt, is_some}
use Rattle.std.specs.Str.{IsAscii}
use Rattle.std.proofs.lemmas.Str.{IsAscii-drop}
use Rattle.vl_pre.specs.Breaks.{◌>>=◌, Break, breaks, max_text, max_nesting}
use Rattle.vl_pre.specs.Text.{Expanded, with_byte, with_stretch}
use Rattle.vl_pre.specs.Cursors.{left}
use Rattle.vl_pre.specs.Pieces.{Piece}
use Rattle.vl_pre.specs.Directives.{Operand, directive_of, name_behind, string_behind}
use Rattle.vl_pre.specs.Groups.{is_read, is_conditional, operand_at, turned}
use Rattle.vl_pre.specs.Macros.{line_from, definition, with_macro}
use Rattle.vl_pre.specs.Uses.{use_of, nested}
use Rattle.vl_pre.specs.Files.{Reading, Taken, Turn, Step, Turns, Includes, Include, Stop, added, kept_piece, use_piece, define_piece, undef_piece, nettype_piece, in_groups, passes, conditional_piece, directive_piece, word_piece, read_piece, passed_word, passed_piece, file_piece, stretch_of, spot_of, setting_of, in_file, step_turn, file_from, is_nettype}
use Rattle.vl_pre.specs.Readings.{IsTurn, IsInclude}
use Rattle.vl_pre.specs.Gives.{Stops}
use Rattle.vl_pre.specs.Faults.{Refuses, IsStoppedAt}
use Rattle.vl_pre.specs.declared.groups.Group.{Group}
use Rattle.vl_pre.specs.declared.pieces.Kind.{Kind}
use Rattle.vl_pre.specs.declared.pieces.Kind.TheVariants.{Word, Backquote, Identifier, Quoted, Single}
use Rattle.vl_pre.specs.declared.pieces.Cursor.{Cursor}
use Rattle.vl_pre.specs.declared.directives.Directive.{Directive}
use Rattle.vl_pre.specs.declared.directives.Directive.TheVariants as directives
use Rattle.vl_pre.specs.declared.stopped.Stopped.{Stopped}
use Rattle.vl_pre.specs.declared.stopped.Stopped.TheVariants as stops
use Rattle.vl_pre.specs.declared.faults.PreFault.{PreFault}
use Rattle.vl_pre.specs.declared.faults.PreFault.TheVariants as faults
use Rattle.vl_pre.proofs.AsciiLemmas.{string_ascii}

-- what is taken loads nothing, and stays in its stretch
abbrev pub KeepsTaken : Reading → Taken → Type 0
KeepsTaken reading taken = (taken.reading.loads ≡ reading.loads) × (taken.reading.text.names ≡ reading.text.names)

-- nor does a step, and an include has the string behind it
abbrev pub Keeps : Reading → List Piece → Step → Type 0
Keeps reading pieces (Turns turn) = KeepsTaken reading turn.taken
Keeps reading pieces (Includes operand) = string_behind pieces ≡ Some operand

bound : {A B : Type 0} (P : B → Type 0) (told : Result A Break) (f : A → Result B Break) → ((x : A) → told ≡ Ok x → IfOk (f x) P) → IfOk (told >>= f) P
bound P (Ok x) f all = all x refl
bound P (Err e) f all = tt

added_names : (text : Expanded) (line : ℕ) (bytes : List ℕ) → (added text line bytes).names ≡ text.names
added_names text line [] = refl
added_names text line (byte ∷ bytes) = added_names (with_byte text byte line) line bytes

kept_keeps : (piece : Piece) (reading : Reading) → IfOk (kept_piece piece reading) (KeepsTaken reading)
kept_keeps piece reading = go (nat_lt max_text (length reading.text.bytes + length piece.bytes)) where
  go : (b : Bool) → IfOk (cond b (breaks 80 piece.line) (Ok (record { size = 0; reading = record reading { text = added reading.text piece.line piece.bytes } }))) (KeepsTaken reading)
  go true = tt
  go false = (refl, added_names reading.text piece.line piece.bytes)

in_groups_keeps : (reading : Reading) (pieces : List Piece) (groups : List Group) (taken : Result Taken Break) → IfOk taken (KeepsTaken reading) → IfOk (in_groups groups taken) (Keeps reading pieces)
in_groups_keeps reading pieces groups (Ok taken) k = k
in_groups_keeps reading pieces groups (Err broken) k = tt

nettype_keeps : (b : Bool) (line size : ℕ) (reading : Reading) → IfOk (cond b (Ok (record { size = size; reading = reading })) (breaks 11 line)) (KeepsTaken reading)
nettype_keeps true line size reading = (refl, refl)
nettype_keeps false line size reading = tt

conditional_keeps : (directive : Directive) (piece : Piece) (pieces : List Piece) (groups : List Group) (reading : Reading) → IfOk (conditional_piece directive piece pieces groups reading) (Keeps reading pieces)
conditional_keeps directive piece pieces groups reading =
    bound (Keeps reading pieces) (turned directive (λ name. is_some (reading.macros name)) (stretch_of reading) piece.line pieces groups) (λ turn. passes turn.size turn.groups reading) (λ turn is. (refl, refl))

operand_is : (line : ℕ) (found : Option Operand) (operand : Operand) → operand_at line found ≡ Ok operand → found ≡ Some operand
operand_is line None operand is = cc
operand_is line (Some other) operand is = cc

directive_keeps : (directive : Directive) (piece : Piece) (pieces : List Piece) (groups : List Group) (reading : Reading) → IfOk (directive_piece directive piece pieces groups reading) (Keeps reading pieces)
directive_keeps directives.Define piece pieces groups reading = in_groups_keeps reading pieces groups (define_piece piece pieces reading)
    (bound (KeepsTaken reading) (definition piece.line (line_from 0 pieces).pieces) (λ d. Ok (record { size = (line_from 0 pieces).size; reading = record reading { macros = with_macro reading.macros d.name (Some d.meaning) } })) (λ d is. (refl, refl)))
directive_keeps directives.Undef piece pieces groups reading = in_groups_keeps reading pieces groups (undef_piece piece pieces reading)
    (bound (KeepsTaken reading) (operand_at piece.line (name_behind pieces)) (λ name. Ok (record { size = name.size; reading = record reading { macros = with_macro reading.macros name.text None } })) (λ name is. (refl, refl)))
directive_keeps directives.Include piece pieces groups reading = bound (Keeps reading pieces) _ _ (λ name is. operand_is piece.line (string_behind pieces) name is)
directive_keeps directives.Timescale piece pieces groups reading = (refl, refl)
directive_keeps directives.DefaultNettype piece pieces groups reading = in_groups_keeps reading pieces groups (nettype_piece piece pieces reading)
    (bound {A = Operand} (KeepsTaken reading) _ _ (λ name is. nettype_keeps (is_nettype name.text) piece.line name.size reading))
directive_keeps directives.Bare piece pieces groups reading = (refl, refl)
directive_keeps directives.Ifdef piece pieces groups reading = conditional_keeps directives.Ifdef piece pieces groups reading
directive_keeps directives.Ifndef piece pieces groups reading = conditional_keeps directives.Ifndef piece pieces groups reading
directive_keeps directives.Elsif piece pieces groups reading = conditional_keeps directives.Elsif piece pieces groups reading
directive_keeps directives.Else piece pieces groups reading = conditional_keeps directives.Else piece pieces groups reading
directive_keeps directives.Endif piece pieces groups reading = conditional_keeps directives.Endif piece pieces groups reading

word_keeps : (directive : Option Directive) (piece : Piece) (pieces : List Piece) (groups : List Group) (reading : Reading) → IfOk (word_piece directive piece pieces groups reading) (Keeps reading pieces)
word_keeps None piece pieces groups reading = in_groups_keeps reading pieces groups (use_piece piece pieces reading)
    (bound (KeepsTaken reading) (use_of (nested max_nesting) (setting_of piece.line reading) piece pieces (record { bytes = []; uses = reading.uses }))
    (λ whole. Ok (record { size = whole.size; reading = record reading { uses = whole.done.uses; text = added reading.text piece.line whole.done.bytes } }))
    (λ whole is. (refl, added_names reading.text piece.line whole.done.bytes)))
word_keeps (Some directive) piece pieces groups reading = directive_keeps directive piece pieces groups reading

read_keeps : (line : ℕ) (kind : Kind) (bytes : List ℕ) (pieces : List Piece) (groups : List Group) (reading : Reading) → IfOk (read_piece (record { line = line; kind = kind; bytes = bytes }) pieces groups reading) (Keeps reading pieces)
read_keeps line Word bytes pieces groups reading = word_keeps (directive_of (drop 1 bytes)) (record { line = line; kind = Word; bytes = bytes }) pieces groups reading
read_keeps line Backquote bytes pieces groups reading = tt
read_keeps line Identifier bytes pieces groups reading = in_groups_keeps reading pieces groups _ (kept_keeps (record { line = line; kind = Identifier; bytes = bytes }) reading)
read_keeps line Quoted bytes pieces groups reading = in_groups_keeps reading pieces groups _ (kept_keeps (record { line = line; kind = Quoted; bytes = bytes }) reading)
read_keeps line (Single byte) bytes pieces groups reading = in_groups_keeps reading pieces groups _ (kept_keeps (record { line = line; kind = Single byte; bytes = bytes }) reading)

passed_word_keeps : (directive : Option Directive) (piece : Piece) (pieces : List Piece) (groups : List Group) (reading : Reading) → IfOk (passed_word directive piece pieces groups reading) (Keeps reading pieces)
passed_word_keeps None piece pieces groups reading = (refl, refl)
passed_word_keeps (Some directive) piece pieces groups reading = go (is_conditional directive) where
  go : (b : Bool) → IfOk (cond b (conditional_piece directive piece pieces groups reading) (passes 0 groups reading)) (Keeps reading pieces)
  go true = conditional_keeps directive piece pieces groups reading
  go false = (refl, refl)

passed_keeps : (line : ℕ) (kind : Kind) (bytes : List ℕ) (pieces : List Piece) (groups : List Group) (reading : Reading) → IfOk (passed_piece (record { line = line; kind = kind; bytes = bytes }) pieces groups reading) (Keeps reading pieces)
passed_keeps line Word bytes pieces groups reading = passed_word_keeps (directive_of (drop 1 bytes)) (record { line = line; kind = Word; bytes = bytes }) pieces groups reading
passed_keeps line Backquote bytes pieces groups reading = (refl, refl)
passed_keeps line Identifier bytes pieces groups reading = (refl, refl)
passed_keeps line Quoted bytes pieces groups reading = (refl, refl)
passed_keeps line (Single byte) bytes pieces groups reading = (refl, refl)

pub file_keeps : (piece : Piece) (pieces : List Piece) (groups : List Group) (reading : Reading) → IfOk (file_piece piece pieces groups reading) (Keeps reading pieces)
file_keeps piece pieces groups reading = go (is_read groups) where
  go : (b : Bool) → IfOk (cond b (read_piece piece pieces groups reading) (passed_piece piece pieces groups reading)) (Keeps reading pieces)
  go true = read_keeps piece.line piece.kind piece.bytes pieces groups reading
  go false = passed_keeps piece.line piece.kind piece.bytes pieces groups reading

-- a turn loads nothing, and stays in its stretch
pub turn_keeps : (piece : Piece) (pieces rest : List Piece) (groups groups' : List Group) (reading reading' : Reading) → IsOkAnd (file_piece piece pieces groups reading) (IsTurn groups' reading' pieces rest)
    → (reading'.loads ≡ reading.loads) × (reading'.text.names ≡ reading.text.names)
turn_keeps piece pieces rest groups groups' reading reading' turned = go (file_piece piece pieces groups reading) turned (file_keeps piece pieces groups reading) where
  go : (told : Result Step Break) → IsOkAnd told (IsTurn groups' reading' pieces rest) → IfOk told (Keeps reading pieces) → (reading'.loads ≡ reading.loads) × (reading'.text.names ≡ reading.text.names)
  go (Err broken) t k = absurd t
  go (Ok (Includes operand)) t k = absurd t
  go (Ok (Turns turn)) t k = (ap (λ r. r.loads) (sym t.1.0) ∙ k.0, ap (λ r. r.text.names) (sym t.1.0) ∙ k.1)

-- the name of an include in an ASCII text is ASCII
pub include_ascii : (piece : Piece) (text : List ℕ) (cursor : Cursor) (rest : List Piece) (groups : List Group) (reading : Reading) (name : List ℕ) → IsAscii text
    → IsOkAnd (file_piece piece (left text cursor) groups reading) (IsInclude name (left text cursor) rest) → IsAscii name
include_ascii piece text cursor rest groups reading name ascii included = go (file_piece piece (left text cursor) groups reading) included (file_keeps piece (left text cursor) groups reading) where
  go : (told : Result Step Break) → IsOkAnd told (IsInclude name (left text cursor) rest) → IfOk told (Keeps reading (left text cursor)) → IsAscii name
  go (Err broken) t k = absurd t
  go (Ok (Turns turn)) t k = absurd t
  go (Ok (Includes operand)) t k = subst IsAscii t.0 (string_ascii cursor.line (drop cursor.at text) operand (IsAscii-drop text cursor.at ascii) k)

-- skipped pieces are dropped
pub file_drop : (include : Include) (file : List ℕ) (skip : ℕ) (pieces : List Piece) (groups : List Group) (reading : Reading) → file_from include file skip pieces groups reading ≡ file_from include file 0 (drop skip pieces) groups reading
file_drop include file zero pieces groups reading = refl
file_drop include file (suc skip) [] groups reading = refl
file_drop include file (suc skip) (piece ∷ pieces) groups reading = file_drop include file skip pieces groups reading

-- what a file comes to from its first piece on
abbrev from_step : Include → List ℕ → ℕ → List Piece → List Group → Reading → Result Step Break → Result Reading Stop
from_step include file line behind groups reading told =
    in_file file reading told >>= λ step. step_turn include file line groups reading step >>= λ turn. file_from include file turn.taken.size behind turn.groups turn.taken.reading

-- a turn, and what is left behind it
pub file_turn : (include : Include) (file : List ℕ) (pieces behind rest : List Piece) (piece : Piece) (groups groups' : List Group) (reading reading' : Reading) → pieces ≡ piece ∷ behind
    → IsOkAnd (file_piece piece behind groups reading) (IsTurn groups' reading' behind rest) → file_from include file 0 pieces groups reading ≡ file_from include file 0 rest groups' reading'
file_turn include file pieces behind rest piece groups groups' reading reading' first turned =
    ap (λ l. file_from include file 0 l groups reading) first ∙ go (file_piece piece behind groups reading) turned
  where
    go : (told : Result Step Break) → IsOkAnd told (IsTurn groups' reading' behind rest) → from_step include file piece.line behind groups reading told ≡ file_from include file 0 rest groups' reading'
    go (Err broken) t = absurd t
    go (Ok (Includes operand)) t = absurd t
    go (Ok (Turns turn)) t = file_drop include file turn.taken.size behind turn.groups turn.taken.reading ∙ (λ i. file_from include file 0 (sym t.1.1 i) (t.0 i) (t.1.0 i))

bind_assoc : {A B C E : Type 0} (told : Result A E) (f : A → Result B E) (g : B → Result C E) → ((told >>= f) >>= g) ≡ (told >>= λ x. f x >>= g)
bind_assoc (Ok x) f g = refl
bind_assoc (Err e) f g = refl

-- an include, and what is left of this file behind it
pub file_include : (include : Include) (file name : List ℕ) (pieces behind rest : List Piece) (piece : Piece) (groups : List Group) (reading : Reading) → pieces ≡ piece ∷ behind
    → IsOkAnd (file_piece piece behind groups reading) (IsInclude name behind rest)
    → file_from include file 0 pieces groups reading ≡ (include name (spot_of file piece.line reading) reading >>= λ read. file_from include file 0 rest groups (record read { text = with_stretch read.text file }))
file_include include file name pieces behind rest piece groups reading first included =
    ap (λ l. file_from include file 0 l groups reading) first ∙ go (file_piece piece behind groups reading) included
  where
    behind_it : List Piece → Reading → Result Reading Stop
    behind_it l read = file_from include file 0 l groups (record read { text = with_stretch read.text file })

    reads : (size : ℕ) (told : Result Reading Stop)
        → (told >>= (λ read. Ok (record { taken = record { size = size; reading = record read { text = with_stretch read.text file } }; groups = groups })) >>= λ (turn : Turn). file_from include file turn.taken.size behind turn.groups turn.taken.reading)
        ≡ (told >>= behind_it (drop size behind))
    reads size (Ok read) = file_drop include file size behind groups (record read { text = with_stretch read.text file })
    reads size (Err stop) = refl

    go : (told : Result Step Break) → IsOkAnd told (IsInclude name behind rest)
        → from_step include file piece.line behind groups reading told ≡ (include name (spot_of file piece.line reading) reading >>= behind_it rest)
    go (Err broken) t = absurd t
    go (Ok (Turns turn)) t = absurd t
    go (Ok (Includes operand)) t = reads operand.size (include operand.text (spot_of file piece.line reading) reading) ∙ (λ i. include (t.0 i) (spot_of file piece.line reading) reading >>= behind_it (sym t.1 i))

-- what stops a piece is told of the file
pub file_stopped : (include : Include) (file : List ℕ) (pieces behind : List Piece) (piece : Piece) (groups : List Group) (reading : Reading) (stop : Stopped) (fault : PreFault) → pieces ≡ piece ∷ behind
    → Stops stop (file_piece piece behind groups reading) → IsStoppedAt (stretch_of reading) file stop fault → Refuses fault (file_from include file 0 pieces groups reading)
file_stopped include file pieces behind piece groups reading stop fault first told at =
    subst (λ l. Refuses fault (file_from include file 0 l groups reading)) (sym first) (go stop fault told at)
  where
    go : (stop : Stopped) (fault : PreFault) → Stops stop (file_piece piece behind groups reading) → IsStoppedAt (stretch_of reading) file stop fault
        → Refuses fault (from_step include file piece.line behind groups reading (file_piece piece behind groups reading))
    go stops.Memory fault s a = subst (λ f. Refuses f (from_step include file piece.line behind groups reading (file_piece piece behind groups reading))) (sym a) tt
    go (stops.Broken rule line) (faults.Refused refusal name) s a = subst (λ told. Refuses (faults.Refused refusal name) (from_step include file piece.line behind groups reading told)) (sym s) (a.0, a.1)
    go (stops.Broken rule line) faults.ReadFault s a = absurd a
    go (stops.Broken rule line) faults.Memory s a = tt
