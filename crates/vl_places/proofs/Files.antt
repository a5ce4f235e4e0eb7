-- The expansion of a source keeps the places of its text from falling.
use Rattle.std.proofs.Common.{ℕ, zero, suc, Bool, true, false, cond, List, [], ◌∷◌, ◌++◌, length, Result, Ok, Err, Option, Some, None, subst, arith}
use Rattle.std.specs.Prelude.{IfOk, nat_lt, nat_le}
use Rattle.xt_base.specs.Outside.{Held, bytes_of, max_file}
use Rattle.vl_pre.specs.Breaks.{◌>>=◌, Break, max_loads, max_includes}
use Rattle.vl_pre.specs.Clean.{clean_file}
use Rattle.vl_pre.specs.Text.{Expanded, with_stretch}
use Rattle.vl_pre.specs.Pieces.{Piece, pieces_of}
use Rattle.vl_pre.specs.Macros.{no_macros, with_defines}
use Rattle.vl_pre.specs.Faults.{IsText}
use Rattle.vl_pre.specs.Files.{Reading, Turn, Step, Turns, Includes, Include, Stop, Spot, file_piece, spot_of, in_file, step_turn, file_end, file_from, file_text, found, file_expansion, source_expansion, broken_at}
use Rattle.vl_places.specs.Order.{IsInOrder}
use Rattle.vl_places.proofs.Rows.{up_to_same}
use Rattle.vl_places.proofs.Texts.{Open, Done, open_done, open_later, open_stretch, done_in_order}
use Rattle.vl_places.proofs.Pieces.{Groups, Rise, rise_before, pieces_rise, OpenStep, piece_open}

abbrev DoneRead : Result Reading Stop → Type 0
DoneRead told = IfOk told (λ read. Done read.text)

-- an include keeps places from falling
abbrev Keeps : Include → Type 0
Keeps include = (file : List ℕ) (spot : Spot) (reading : Reading) → Done reading.text → DoneRead (include file spot reading)

step_done : (include : Include) (file : List ℕ) (line : ℕ) (pieces : List Piece) (groups : Groups) (reading : Reading) (told : Result Step Break) → Keeps include → Open reading.text line → IfOk told (OpenStep line)
    → ((skip : ℕ) (groups : Groups) (read : Reading) → Open read.text line → DoneRead (file_from include file skip pieces groups read))
    → DoneRead (in_file file reading told >>= λ step. step_turn include file line groups reading step >>= λ turn. file_from include file turn.taken.size pieces turn.groups turn.taken.reading)
step_done include file line pieces groups reading (Err broken) keeps o k all = tt
step_done include file line pieces groups reading (Ok (Turns turn)) keeps o k all = all turn.taken.size turn.groups turn.taken.reading k
step_done include file line pieces groups reading (Ok (Includes name)) keeps o k all =
    go (include name.text (spot_of file line reading) reading) (keeps name.text (spot_of file line reading) reading (open_done reading.text line o)) where
      go : (told : Result Reading Stop) → DoneRead told
          → DoneRead ((told >>= λ read. Ok (record { taken = record { size = name.size; reading = record read { text = with_stretch read.text file } }; groups = groups })) >>= λ (turn : Turn). file_from include file turn.taken.size pieces turn.groups turn.taken.reading)
      go (Err stop) r = tt
      go (Ok read) r = all name.size groups (record read { text = with_stretch read.text file }) (open_stretch read.text file line r)

end_done : (file : List ℕ) (groups : Groups) (reading : Reading) → Done reading.text → DoneRead (file_end file groups reading)
end_done file [] reading done = done
end_done file (group ∷ groups) reading done = tt

from_done : (include : Include) (file : List ℕ) (skip line : ℕ) (pieces : List Piece) (groups : Groups) (reading : Reading) → Keeps include → Rise line pieces → Open reading.text line
    → DoneRead (file_from include file skip pieces groups reading)
from_done include file skip line [] groups reading keeps rise o = end_done file groups reading (open_done reading.text line o)
from_done include file (suc skip) line (piece ∷ pieces) groups reading keeps rise o =
    from_done include file skip line pieces groups reading keeps (rise_before line piece.line pieces rise.0 rise.2) o
from_done include file zero line (piece ∷ pieces) groups reading keeps rise o =
    let here : Open reading.text piece.line = open_later reading.text line piece.line rise.0 o in
    step_done include file piece.line pieces groups reading (file_piece piece pieces groups reading) keeps here (piece_open reading piece pieces groups rise.1 here)
    (λ skip groups read r. from_done include file skip piece.line pieces groups read keeps rise.2 r)

text_done : (include : Include) (file : List ℕ) (told : Result (List ℕ) Break) (reading : Reading) → Keeps include → Open reading.text 1 → DoneRead (in_file file reading told >>= λ text. file_from include file 0 (pieces_of 1 text) [] reading)
text_done include file (Ok text) reading keeps o = from_done include file 0 1 (pieces_of 1 text) [] reading keeps (pieces_rise 0 1 text) o
text_done include file (Err broken) reading keeps o = tt

found_done : (include : Include) (file : List ℕ) (spot : Spot) (bytes : Option (List ℕ)) (reading : Reading) → Keeps include → Done reading.text → DoneRead (found include file spot bytes reading)
found_done include file spot None reading keeps done = tt
found_done include file spot (Some bytes) reading keeps done = go (nat_lt max_file (length bytes)) where
  go : (b : Bool) → DoneRead (cond b (broken_at spot 80 reading) (file_text include file bytes (record reading { text = with_stretch reading.text file })))
  go true = tt
  go false = text_done include file (clean_file bytes) (record reading { text = with_stretch reading.text file }) keeps (open_stretch reading.text file 1 done)

file_keeps : (held : Held) (n : ℕ) → Keeps (file_expansion held n)
unfolding file_expansion
file_keeps held zero file spot reading done = tt
file_keeps held (suc n) file spot reading done = go (nat_le max_loads (length reading.loads)) (file_keeps held n) where
  more : Reading
  more = record reading { loads = reading.loads ++ file ∷ [] }

  go : (b : Bool) → Keeps (file_expansion held n) → DoneRead (cond b (broken_at spot 80 reading) (found (file_expansion held n) file spot (bytes_of held file) more))
  go true keeps = tt
  go false keeps = found_done (file_expansion held n) file spot (bytes_of held file) more keeps done

source_done : (held : Held) (file : List ℕ) (defines : List (List ℕ × List ℕ)) → DoneRead (source_expansion held file defines)
unfolding source_expansion
source_done held file defines =
    file_keeps held (suc max_includes) file (record { stretch = 0; line = 0; name = file })
    (record { macros = with_defines no_macros defines; uses = 0; loads = []; text = record { bytes = []; places = []; names = [] } })
    (record { sized = omega arith; climbs = up_to_same (0, 0) })

text_in_order : (told : Result Reading Stop) (text : Expanded) → DoneRead told → IsText text told → IsInOrder text
text_in_order (Ok read) text done is = subst IsInOrder is (done_in_order read.text done)
text_in_order (Err stop) text done is = absurd is

pub expanded_in_order : (held : Held) (file : List ℕ) (defines : List (List ℕ × List ℕ)) (text : Expanded) → IsText text (source_expansion held file defines) → IsInOrder text
expanded_in_order held file defines text is = text_in_order (source_expansion held file defines) text (source_done held file defines) is
