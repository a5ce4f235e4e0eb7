-- Files that are open, as they are kept. This project's own.
use Rattle.std.specs.Prelude.{◌≡◌, ◌≤◌, Result, Ok, Err, length, string_bytes}
use Rattle.std.specs.Str.{IsAscii}
use Rattle.xt_base.specs.Outside.{max_file}
use Rattle.vl_pre.specs.Breaks.{◌>>=◌}
use Rattle.vl_pre.specs.Cursors.{left, IsWithin}
use Rattle.vl_pre.specs.Text.{with_stretch}
use Rattle.vl_pre.specs.Turning.{open_groups}
use Rattle.vl_pre.specs.Files.{Spot, Include, Reading, Stop, spot_of, file_from}
use Rattle.vl_pre.specs.Faults.{Refuses}
use Rattle.vl_pre.specs.declared.faults.Spot as kept
use Rattle.vl_pre.specs.declared.faults.PreFault.{PreFault}
use Rattle.vl_pre.specs.declared.inputs.Input.{Input}
use Rattle.vl_pre.specs.declared.inputs.Next.{Next}
use Rattle.vl_pre.specs.declared.inputs.Next.TheVariants.{Goes, Ends, Includes}

abbrev pub spot_seen : kept.Spot → Spot
spot_seen spot = record { stretch = spot.stretch; line = spot.line; name = spot.name.now }

-- a file is read from a place of its text on, which holds no byte that isn't ASCII
pub record IsInput (input : Input) : Type 0 where
  pub within : IsWithin input.text.items input.cursor
  pub ascii : IsAscii input.text.items
  pub size : length input.text.items ≤ max_file

-- what the rest of a file comes to
abbrev pub input_rest : Include → Input → Reading → Result Reading Stop
input_rest include input reading = file_from include (string_bytes input.name) 0 (left input.text.items input.cursor) (open_groups input.groups.items) reading

-- the text comes back to a file
abbrev pub resumed : Include → Input → Reading → Result Reading Stop
resumed include input reading = input_rest include input (record reading { text = with_stretch reading.text (string_bytes input.name) })

-- a file is opened: what it comes to is what is left of it, or it is refused
abbrev pub IsOpened : Include → Reading → Result Input PreFault → Result Reading Stop → Type 0
IsOpened include reading (Ok input) told = told ≡ input_rest include input reading
IsOpened include reading (Err fault) told = Refuses fault told

-- a file ends, or is refused at its end
abbrev pub IsEnded : Reading → Result Next PreFault → Result Reading Stop → Type 0
IsEnded reading (Ok Goes) told = ⊥
IsEnded reading (Ok Ends) told = told ≡ Ok reading
IsEnded reading (Ok (Includes included)) told = ⊥
IsEnded reading (Err fault) told = Refuses fault told

-- what is left of a file comes to what is left after its next piece
abbrev pub IsNext : Include → Input → Reading → Result Next PreFault → Result Reading Stop → Type 0
IsNext include input reading (Ok Goes) told = told ≡ input_rest include input reading
IsNext include input reading (Ok Ends) told = told ≡ Ok reading
IsNext include input reading (Ok (Includes included)) told =
    told ≡ (include (string_bytes included.name) (spot_of (string_bytes input.name) included.line reading) reading >>= resumed include input)
IsNext include input reading (Err fault) told = Refuses fault told
