-- The names that are loaded only grow.
use Rattle.std.proofs.Common.{◌≡◌, ◌<◌, ◌-◌, ◌∙◌, ℕ, zero, suc, Bool, true, false, cond, List, [], ◌∷◌, ◌++◌, length, Result, Ok, Err, Option, Some, None, refl, sym, ap, subst, append_assoc}
use Rattle.std.proofs.lemmas.List.{append-nil}
use Rattle.std.specs.Prelude.{IfOk, nat_lt, nat_le, string_bytes}
use Rattle.xt_base.specs.Outside.{Held, bytes_of, max_file}
use Rattle.vl_pre.specs.Breaks.{◌>>=◌, Break, max_loads, max_includes}
use Rattle.vl_pre.specs.Clean.{clean_file}
use Rattle.vl_pre.specs.Text.{with_stretch}
use Rattle.vl_pre.specs.Macros.{no_macros, with_defines}
use Rattle.vl_pre.specs.Pieces.{Piece, pieces_of}
use Rattle.vl_pre.specs.Cursors.{left}
use Rattle.vl_pre.specs.Turning.{open_groups}
use Rattle.vl_pre.specs.Files.{Reading, Step, Turns, Includes, Include, Stop, Spot, Turn, broken_at, in_file, spot_of, step_turn, file_piece, file_end, file_from, file_text, found, file_expansion, source_expansion}
use Rattle.vl_pre.specs.Faults.{loads_of, AskedInOrder}
use Rattle.vl_pre.specs.Inputs.{input_rest, resumed}
use Rattle.vl_pre.specs.Readings.{reading_seen}
use Rattle.vl_pre.specs.Sources.{include_in, outer_rest, outer_of, source_rest, included_rest}
use Rattle.vl_pre.specs.declared.groups.Group.{Group}
use Rattle.vl_pre.specs.declared.inputs.Input.{Input}
use Rattle.vl_pre.specs.declared.inputs.Included.{Included}
use Rattle.vl_pre.specs.declared.source.Source.{Source}
use Rattle.vl_pre.proofs.FileLemmas.{Keeps, file_keeps}
use Rattle.vl_pre.proofs.SourceLemmas.{source_found, included_found, inner_of, include_spot, loaded}

-- the first names are those that were loaded before
abbrev pub Grows : List (List ℕ) → Result Reading Stop → Type 0
Grows loads told = (more : List (List ℕ)) × (loads_of told ≡ loads ++ more)

grows_by : (loads loads' : List (List ℕ)) (told : Result Reading Stop) → (more : List (List ℕ)) × (loads' ≡ loads ++ more) → Grows loads' told → Grows loads told
grows_by loads loads' told (more, is) (further, g) = (more ++ further, g ∙ ap (λ l. l ++ further) is ∙ append_assoc loads more further)

stays : (loads : List (List ℕ)) (told : Result Reading Stop) → loads_of told ≡ loads → Grows loads told
stays loads told is = ([], is ∙ sym (append-nil loads))

-- an include only loads more
abbrev Adds : Include → Type 0
Adds include = (file : List ℕ) (spot : Spot) (reading : Reading) → Grows reading.loads (include file spot reading)

bind_grows : (loads : List (List ℕ)) (told : Result Reading Stop) (f : Reading → Result Reading Stop) → Grows loads told → ((read : Reading) → Grows read.loads (f read)) → Grows loads (told >>= f)
bind_grows loads (Ok read) f g all = grows_by loads read.loads (f read) g (all read)
bind_grows loads (Err stop) f g all = g

step_grows : (include : Include) (file : List ℕ) (line : ℕ) (pieces : List Piece) (groups : List Group) (reading : Reading) (told : Result Step Break) → Adds include → IfOk told (Keeps reading pieces)
    → ((skip : ℕ) (groups : List Group) (reading : Reading) → Grows reading.loads (file_from include file skip pieces groups reading))
    → Grows reading.loads (in_file file reading told >>= λ step. step_turn include file line groups reading step >>= λ turn. file_from include file turn.taken.size pieces turn.groups turn.taken.reading)
step_grows include file line pieces groups reading (Err broken) adds keeps all = stays reading.loads (broken_at (spot_of file broken.line reading) broken.rule reading) refl
step_grows include file line pieces groups reading (Ok (Turns turn)) adds keeps all =
    grows_by reading.loads turn.taken.reading.loads (file_from include file turn.taken.size pieces turn.groups turn.taken.reading) ([], keeps.0 ∙ sym (append-nil reading.loads)) (all turn.taken.size turn.groups turn.taken.reading)
step_grows include file line pieces groups reading (Ok (Includes name)) adds keeps all = go (include name.text (spot_of file line reading) reading) (adds name.text (spot_of file line reading) reading) where
  go : (told : Result Reading Stop) → Grows reading.loads told
      → Grows reading.loads ((told >>= λ read. Ok (record { taken = record { size = name.size; reading = record read { text = with_stretch read.text file } }; groups = groups })) >>= λ (turn : Turn). file_from include file turn.taken.size pieces turn.groups turn.taken.reading)
  go (Err stop) g = g
  go (Ok read) g = grows_by reading.loads read.loads (file_from include file name.size pieces groups (record read { text = with_stretch read.text file })) g (all name.size groups (record read { text = with_stretch read.text file }))

end_grows : (file : List ℕ) (groups : List Group) (reading : Reading) → Grows reading.loads (file_end file groups reading)
end_grows file [] reading = stays reading.loads (Ok reading) refl
end_grows file (group ∷ groups) reading = stays reading.loads (file_end file (group ∷ groups) reading) refl

from_grows : (include : Include) (file : List ℕ) (skip : ℕ) (pieces : List Piece) (groups : List Group) (reading : Reading) → Adds include → Grows reading.loads (file_from include file skip pieces groups reading)
from_grows include file skip [] groups reading adds = end_grows file groups reading
from_grows include file (suc skip) (piece ∷ pieces) groups reading adds = from_grows include file skip pieces groups reading adds
from_grows include file zero (piece ∷ pieces) groups reading adds =
    step_grows include file piece.line pieces groups reading (file_piece piece pieces groups reading) adds (file_keeps piece pieces groups reading) (λ skip groups reading. from_grows include file skip pieces groups reading adds)

text_grows : (include : Include) (file : List ℕ) (told : Result (List ℕ) Break) (reading : Reading) → Adds include → Grows reading.loads (in_file file reading told >>= λ text. file_from include file 0 (pieces_of 1 text) [] reading)
text_grows include file (Ok text) reading adds = from_grows include file 0 (pieces_of 1 text) [] reading adds
text_grows include file (Err broken) reading adds = stays reading.loads (broken_at (spot_of file broken.line reading) broken.rule reading) refl

found_grows : (include : Include) (file : List ℕ) (spot : Spot) (bytes : Option (List ℕ)) (reading : Reading) → Adds include → Grows reading.loads (found include file spot bytes reading)
found_grows include file spot None reading adds = stays reading.loads (found include file spot None reading) refl
found_grows include file spot (Some bytes) reading adds = go (nat_lt max_file (length bytes)) where
  go : (b : Bool) → Grows reading.loads (cond b (broken_at spot 80 reading) (file_text include file bytes (record reading { text = with_stretch reading.text file })))
  go true = stays reading.loads (broken_at spot 80 reading) refl
  go false = text_grows include file (clean_file bytes) (record reading { text = with_stretch reading.text file }) adds

expansion_grows : (held : Held) (n : ℕ) → Adds (file_expansion held n)
unfolding file_expansion
expansion_grows held zero file spot reading = stays reading.loads (broken_at spot 11 reading) refl
expansion_grows held (suc n) file spot reading = go (nat_le max_loads (length reading.loads)) (expansion_grows held n) where
  more : Reading
  more = record reading { loads = reading.loads ++ file ∷ [] }

  go : (b : Bool) → Adds (file_expansion held n) → Grows reading.loads (cond b (broken_at spot 80 reading) (found (file_expansion held n) file spot (bytes_of held file) more))
  go true adds = stays reading.loads (broken_at spot 80 reading) refl
  go false adds = grows_by reading.loads more.loads (found (file_expansion held n) file spot (bytes_of held file) more) (file ∷ [], refl) (found_grows (file_expansion held n) file spot (bytes_of held file) more adds)

outer_grows : (held : Held) (outer : List Input) (reading : Reading) → Grows reading.loads (outer_rest held outer reading)
outer_grows held [] reading = stays reading.loads (Ok reading) refl
outer_grows held (input ∷ outer) reading =
    bind_grows reading.loads (resumed (include_in held (length outer)) input reading) (outer_rest held outer)
    (from_grows (include_in held (length outer)) (string_bytes input.name) 0 (left input.text.items input.cursor) (open_groups input.groups.items) (record reading { text = with_stretch reading.text (string_bytes input.name) }) (expansion_grows held (max_includes - length outer)))
    (outer_grows held outer)

-- what was loaded so far
pub source_grows : (held : Held) (source : Source) → Grows source.state.loads (source_rest held source)
source_grows held source =
    bind_grows source.state.loads (input_rest (include_in held (length (outer_of source))) source.input (reading_seen source.state)) (outer_rest held (outer_of source))
    (from_grows (include_in held (length (outer_of source))) (string_bytes source.input.name) 0 (left source.input.text.items source.input.cursor) (open_groups source.input.groups.items) (reading_seen source.state) (expansion_grows held (max_includes - length (outer_of source))))
    (outer_grows held (outer_of source))

-- an included file comes to it, where it is loaded
pub included_grows : (held : Held) (source : Source) (included : Included) → length source.outer.items < max_includes → length source.state.loads < max_loads
    → Grows (source.state.loads ++ string_bytes included.name ∷ []) (included_rest held source included)
included_grows held source included room few =
    subst (Grows (source.state.loads ++ string_bytes included.name ∷ [])) (sym (included_found held source included room few))
    (bind_grows (source.state.loads ++ string_bytes included.name ∷ []) (found (inner_of held source) (string_bytes included.name) (include_spot source included) (bytes_of held (string_bytes included.name)) (loaded source included)) (outer_rest held (source.input ∷ outer_of source))
    (found_grows (inner_of held source) (string_bytes included.name) (include_spot source included) (bytes_of held (string_bytes included.name)) (loaded source included) (expansion_grows held (max_includes - suc (length (outer_of source)))))
    (outer_grows held (source.input ∷ outer_of source)))

-- those that were asked for are the first of those that are loaded
pub asked_in_order : (start asked loads : List (List ℕ)) (told : Result Reading Stop) → asked ≡ start ++ loads → Grows loads told → AskedInOrder start asked (loads_of told)
asked_in_order start asked loads told is g = record { names = loads; rest = g.0; asked = is; order = g.1 }

-- the first file is loaded first
pub first_grows : (held : Held) (file : List ℕ) (defines : List (List ℕ × List ℕ)) → Grows (file ∷ []) (source_expansion held file defines)
first_grows held file defines =
    subst (Grows (file ∷ [])) (sym (source_found held file defines))
    (found_grows (file_expansion held max_includes) file (record { stretch = 0; line = 0; name = file }) (bytes_of held file)
    (record { macros = with_defines no_macros defines; uses = 0; loads = file ∷ []; text = record { bytes = []; places = []; names = [] } }) (expansion_grows held max_includes))
