-- Each byte of an expanded text lies in one of the text's stretches.
use Rattle.std.proofs.Common.{◌≡◌, ◌<◌, ◌≤◌, ◌-◌, ◌+◌, ℕ, zero, suc, Bool, true, false, cond, List, [], ◌∷◌, ◌++◌, length, Result, Ok, Err, Option, Some, None, refl, sym, ap, subst, arith}
use Rattle.std.proofs.lemmas.List.{length-append}
use Rattle.std.specs.Prelude.{IfOk, nat_lt, nat_le, is_some, slice_index_or}
use Rattle.xt_base.specs.Outside.{Held, bytes_of, max_file}
use Rattle.vl_pre.specs.Breaks.{◌>>=◌, Break, breaks, max_text, max_nesting, max_loads, max_includes}
use Rattle.vl_pre.specs.Clean.{clean_file}
use Rattle.vl_pre.specs.Text.{Expanded, with_byte, with_stretch, place_of}
use Rattle.vl_pre.specs.Pieces.{Piece, pieces_of}
use Rattle.vl_pre.specs.Directives.{Operand, directive_of, name_behind, string_behind}
use Rattle.vl_pre.specs.Groups.{is_read, is_conditional, operand_at, turned}
use Rattle.vl_pre.specs.Macros.{line_from, definition, with_macro, no_macros, with_defines}
use Rattle.vl_pre.specs.Uses.{use_of, nested}
use Rattle.vl_pre.specs.Files.{Reading, Taken, Turn, Step, Turns, Includes, Include, Stop, Spot, added, kept_piece, use_piece, define_piece, undef_piece, nettype_piece, in_groups, passes, conditional_piece, directive_piece, word_piece, read_piece, passed_word, passed_piece, file_piece, stretch_of, spot_of, setting_of, in_file, step_turn, file_end, file_from, file_text, found, file_expansion, source_expansion, broken_at, is_nettype}
use Rattle.vl_pre.specs.declared.groups.Group.{Group}
use Rattle.vl_pre.specs.declared.pieces.Kind.{Kind}
use Rattle.vl_pre.specs.declared.pieces.Kind.TheVariants.{Word, Backquote, Identifier, Quoted, Single}
use Rattle.vl_pre.specs.declared.directives.Directive.{Directive}
use Rattle.vl_pre.specs.declared.directives.Directive.TheVariants as directives

-- ---- places in so many stretches

abbrev pub Lie : ℕ → List (ℕ × ℕ) → Type 0
Lie n [] = Unit {0}
Lie n (p ∷ ps) = (p.0 < n) × Lie n ps

lie_push : (n : ℕ) (ps : List (ℕ × ℕ)) (q : ℕ × ℕ) → Lie n ps → q.0 < n → Lie n (ps ++ q ∷ [])
lie_push n [] q lie within = (within, tt)
lie_push n (p ∷ ps) q lie within = (lie.0, lie_push n ps q lie.1 within)

lie_more : (n m : ℕ) (ps : List (ℕ × ℕ)) → n ≤ m → Lie n ps → Lie m ps
lie_more n m [] le lie = tt
lie_more n m (p ∷ ps) le lie = (let h : p.0 < n = lie.0 in omega arith, lie_more n m ps le lie.1)

lie_at : (n : ℕ) (ps : List (ℕ × ℕ)) (i : ℕ) → 0 < n → Lie n ps → (slice_index_or ps i (0, 0)).0 < n
lie_at n [] i some lie = some
lie_at n (p ∷ ps) zero some lie = lie.0
lie_at n (p ∷ ps) (suc i) some lie = lie_at n ps i some lie.1

-- ---- texts

abbrev pub Placed : Expanded → Type 0
Placed text = Lie (length text.names) text.places

-- placed, and begun
pub record Open (text : Expanded) : Type 0 where
  pub some : 0 < length text.names
  pub placed : Placed text

open_byte : (text : Expanded) (byte line : ℕ) → Open text → Open (with_byte text byte line)
open_byte text byte line o =
    record { some = o.some; placed = lie_push (length text.names) text.places (length text.names - 1, line) o.placed (let s : 0 < length text.names = o.some in omega arith) }

open_added : (text : Expanded) (line : ℕ) (bytes : List ℕ) → Open text → Open (added text line bytes)
open_added text line [] o = o
open_added text line (byte ∷ bytes) o = open_added (with_byte text byte line) line bytes (open_byte text byte line o)

open_stretch : (text : Expanded) (name : List ℕ) → Placed text → Open (with_stretch text name)
open_stretch text name placed =
    let more : length (text.names ++ name ∷ []) ≡ length text.names + 1 = length-append text.names (name ∷ []) in
    record { some = omega (arith, more); placed = lie_more (length text.names) (length (text.names ++ name ∷ [])) text.places (omega (arith, more)) placed }

-- each place of it lies in a stretch
pub open_place : (text : Expanded) (at : ℕ) → Open text → (place_of text at).file < length text.names
open_place text at o = lie_at (length text.names) text.places at o.some o.placed

-- ---- pieces

abbrev OpenTaken : Taken → Type 0
OpenTaken taken = Open taken.reading.text

abbrev OpenStep : Step → Type 0
OpenStep (Turns turn) = OpenTaken turn.taken
OpenStep (Includes operand) = Unit {0}

bound : {A B : Type 0} (P : B → Type 0) (told : Result A Break) (f : A → Result B Break) → ((x : A) → IfOk (f x) P) → IfOk (told >>= f) P
bound P (Ok x) f all = all x
bound P (Err e) f all = tt

module _ (reading : Reading) (o : Open reading.text) where
  kept_open : (piece : Piece) → IfOk (kept_piece piece reading) OpenTaken
  kept_open piece = go (nat_lt max_text (length reading.text.bytes + length piece.bytes)) where
    go : (b : Bool) → IfOk (cond b (breaks 80 piece.line) (Ok (record { size = 0; reading = record reading { text = added reading.text piece.line piece.bytes } }))) OpenTaken
    go true = tt
    go false = open_added reading.text piece.line piece.bytes o

  in_groups_open : (groups : List Group) (taken : Result Taken Break) → IfOk taken OpenTaken → IfOk (in_groups groups taken) OpenStep
  in_groups_open groups (Ok taken) k = k
  in_groups_open groups (Err broken) k = tt

  nettype_open : (b : Bool) (line size : ℕ) → IfOk (cond b (Ok (record { size = size; reading = reading })) (breaks 11 line)) OpenTaken
  nettype_open true line size = o
  nettype_open false line size = tt

  conditional_open : (directive : Directive) (piece : Piece) (pieces : List Piece) (groups : List Group) → IfOk (conditional_piece directive piece pieces groups reading) OpenStep
  conditional_open directive piece pieces groups =
      bound OpenStep (turned directive (λ name. is_some (reading.macros name)) (stretch_of reading) piece.line pieces groups) (λ turn. passes turn.size turn.groups reading) (λ turn. o)

  directive_open : (directive : Directive) (piece : Piece) (pieces : List Piece) (groups : List Group) → IfOk (directive_piece directive piece pieces groups reading) OpenStep
  directive_open directives.Define piece pieces groups = in_groups_open groups (define_piece piece pieces reading)
      (bound OpenTaken (definition piece.line (line_from 0 pieces).pieces) (λ d. Ok (record { size = (line_from 0 pieces).size; reading = record reading { macros = with_macro reading.macros d.name (Some d.meaning) } })) (λ d. o))
  directive_open directives.Undef piece pieces groups = in_groups_open groups (undef_piece piece pieces reading)
      (bound OpenTaken (operand_at piece.line (name_behind pieces)) (λ name. Ok (record { size = name.size; reading = record reading { macros = with_macro reading.macros name.text None } })) (λ name. o))
  directive_open directives.Include piece pieces groups = bound {A = Operand} OpenStep (operand_at piece.line (string_behind pieces)) (λ name. Ok (Includes name)) (λ name. tt)
  directive_open directives.Timescale piece pieces groups = o
  directive_open directives.DefaultNettype piece pieces groups = in_groups_open groups (nettype_piece piece pieces reading)
      (bound {A = Operand} OpenTaken _ _ (λ name. nettype_open (is_nettype name.text) piece.line name.size))
  directive_open directives.Bare piece pieces groups = o
  directive_open directives.Ifdef piece pieces groups = conditional_open directives.Ifdef piece pieces groups
  directive_open directives.Ifndef piece pieces groups = conditional_open directives.Ifndef piece pieces groups
  directive_open directives.Elsif piece pieces groups = conditional_open directives.Elsif piece pieces groups
  directive_open directives.Else piece pieces groups = conditional_open directives.Else piece pieces groups
  directive_open directives.Endif piece pieces groups = conditional_open directives.Endif piece pieces groups

  word_open : (directive : Option Directive) (piece : Piece) (pieces : List Piece) (groups : List Group) → IfOk (word_piece directive piece pieces groups reading) OpenStep
  word_open None piece pieces groups = in_groups_open groups (use_piece piece pieces reading)
      (bound OpenTaken (use_of (nested max_nesting) (setting_of piece.line reading) piece pieces (record { bytes = []; uses = reading.uses }))
      (λ whole. Ok (record { size = whole.size; reading = record reading { uses = whole.done.uses; text = added reading.text piece.line whole.done.bytes } }))
      (λ whole. open_added reading.text piece.line whole.done.bytes o))
  word_open (Some directive) piece pieces groups = directive_open directive piece pieces groups

  read_open : (kind : Kind) (line : ℕ) (bytes : List ℕ) (pieces : List Piece) (groups : List Group) → IfOk (read_piece (record { line = line; kind = kind; bytes = bytes }) pieces groups reading) OpenStep
  read_open Word line bytes pieces groups = word_open (directive_of _) (record { line = line; kind = Word; bytes = bytes }) pieces groups
  read_open Backquote line bytes pieces groups = tt
  read_open Identifier line bytes pieces groups = in_groups_open groups _ (kept_open (record { line = line; kind = Identifier; bytes = bytes }))
  read_open Quoted line bytes pieces groups = in_groups_open groups _ (kept_open (record { line = line; kind = Quoted; bytes = bytes }))
  read_open (Single byte) line bytes pieces groups = in_groups_open groups _ (kept_open (record { line = line; kind = Single byte; bytes = bytes }))

  passed_word_open : (directive : Option Directive) (piece : Piece) (pieces : List Piece) (groups : List Group) → IfOk (passed_word directive piece pieces groups reading) OpenStep
  passed_word_open None piece pieces groups = o
  passed_word_open (Some directive) piece pieces groups = go (is_conditional directive) where
    go : (b : Bool) → IfOk (cond b (conditional_piece directive piece pieces groups reading) (passes 0 groups reading)) OpenStep
    go true = conditional_open directive piece pieces groups
    go false = o

  passed_open : (kind : Kind) (line : ℕ) (bytes : List ℕ) (pieces : List Piece) (groups : List Group) → IfOk (passed_piece (record { line = line; kind = kind; bytes = bytes }) pieces groups reading) OpenStep
  passed_open Word line bytes pieces groups = passed_word_open (directive_of _) (record { line = line; kind = Word; bytes = bytes }) pieces groups
  passed_open Backquote line bytes pieces groups = o
  passed_open Identifier line bytes pieces groups = o
  passed_open Quoted line bytes pieces groups = o
  passed_open (Single byte) line bytes pieces groups = o

  piece_open : (piece : Piece) (pieces : List Piece) (groups : List Group) → IfOk (file_piece piece pieces groups reading) OpenStep
  piece_open piece pieces groups = go (is_read groups) where
    go : (b : Bool) → IfOk (cond b (read_piece piece pieces groups reading) (passed_piece piece pieces groups reading)) OpenStep
    go true = read_open piece.kind piece.line piece.bytes pieces groups
    go false = passed_open piece.kind piece.line piece.bytes pieces groups

-- ---- files

abbrev OpenRead : Result Reading Stop → Type 0
OpenRead told = IfOk told (λ read. Open read.text)

-- an include leaves the text open
abbrev Opens : Include → Type 0
Opens include = (file : List ℕ) (spot : Spot) (reading : Reading) → Placed reading.text → OpenRead (include file spot reading)

step_open : (include : Include) (file : List ℕ) (line : ℕ) (pieces : List Piece) (groups : List Group) (reading : Reading) (told : Result Step Break) → Opens include → Open reading.text → IfOk told OpenStep
    → ((skip : ℕ) (groups : List Group) (read : Reading) → Open read.text → OpenRead (file_from include file skip pieces groups read))
    → OpenRead (in_file file reading told >>= λ step. step_turn include file line groups reading step >>= λ turn. file_from include file turn.taken.size pieces turn.groups turn.taken.reading)
step_open include file line pieces groups reading (Err broken) opens o k all = tt
step_open include file line pieces groups reading (Ok (Turns turn)) opens o k all = all turn.taken.size turn.groups turn.taken.reading k
step_open include file line pieces groups reading (Ok (Includes name)) opens o k all = go (include name.text (spot_of file line reading) reading) (opens name.text (spot_of file line reading) reading o.placed) where
  go : (told : Result Reading Stop) → OpenRead told
      → OpenRead ((told >>= λ read. Ok (record { taken = record { size = name.size; reading = record read { text = with_stretch read.text file } }; groups = groups })) >>= λ (turn : Turn). file_from include file turn.taken.size pieces turn.groups turn.taken.reading)
  go (Err stop) r = tt
  go (Ok read) r = all name.size groups (record read { text = with_stretch read.text file }) (open_stretch read.text file r.placed)

end_open : (file : List ℕ) (groups : List Group) (reading : Reading) → Open reading.text → OpenRead (file_end file groups reading)
end_open file [] reading o = o
end_open file (group ∷ groups) reading o = tt

from_open : (include : Include) (file : List ℕ) (skip : ℕ) (pieces : List Piece) (groups : List Group) (reading : Reading) → Opens include → Open reading.text → OpenRead (file_from include file skip pieces groups reading)
from_open include file skip [] groups reading opens o = end_open file groups reading o
from_open include file (suc skip) (piece ∷ pieces) groups reading opens o = from_open include file skip pieces groups reading opens o
from_open include file zero (piece ∷ pieces) groups reading opens o =
    step_open include file piece.line pieces groups reading (file_piece piece pieces groups reading) opens o (piece_open reading o piece pieces groups) (λ skip groups read r. from_open include file skip pieces groups read opens r)

text_open : (include : Include) (file : List ℕ) (told : Result (List ℕ) Break) (reading : Reading) → Opens include → Open reading.text → OpenRead (in_file file reading told >>= λ text. file_from include file 0 (pieces_of 1 text) [] reading)
text_open include file (Ok text) reading opens o = from_open include file 0 (pieces_of 1 text) [] reading opens o
text_open include file (Err broken) reading opens o = tt

found_open : (include : Include) (file : List ℕ) (spot : Spot) (bytes : Option (List ℕ)) (reading : Reading) → Opens include → Placed reading.text → OpenRead (found include file spot bytes reading)
found_open include file spot None reading opens placed = tt
found_open include file spot (Some bytes) reading opens placed = go (nat_lt max_file (length bytes)) where
  go : (b : Bool) → OpenRead (cond b (broken_at spot 80 reading) (file_text include file bytes (record reading { text = with_stretch reading.text file })))
  go true = tt
  go false = text_open include file (clean_file bytes) (record reading { text = with_stretch reading.text file }) opens (open_stretch reading.text file placed)

file_opens : (held : Held) (n : ℕ) → Opens (file_expansion held n)
unfolding file_expansion
file_opens held zero file spot reading placed = tt
file_opens held (suc n) file spot reading placed = go (nat_le max_loads (length reading.loads)) (file_opens held n) where
  more : Reading
  more = record reading { loads = reading.loads ++ file ∷ [] }

  go : (b : Bool) → Opens (file_expansion held n) → OpenRead (cond b (broken_at spot 80 reading) (found (file_expansion held n) file spot (bytes_of held file) more))
  go true opens = tt
  go false opens = found_open (file_expansion held n) file spot (bytes_of held file) more opens placed

-- the text of a source is open
pub source_open : (held : Held) (file : List ℕ) (defines : List (List ℕ × List ℕ)) → OpenRead (source_expansion held file defines)
unfolding source_expansion
source_open held file defines =
    file_opens held (suc max_includes) file (record { stretch = 0; line = 0; name = file })
    (record { macros = with_defines no_macros defines; uses = 0; loads = []; text = record { bytes = []; places = []; names = [] } }) tt
