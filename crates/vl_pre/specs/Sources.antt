-- A source that is read, as it is kept. This project's own.
use Rattle.std.specs.Prelude.{◌≡◌, ◌≤◌, ◌+◌, ◌-◌, ◌*◌, ℕ, List, [], ◌∷◌, Result, Ok, length, map, sum, reverse, string_bytes}
use Rattle.std.specs.List.{All}
use Rattle.xt_base.specs.Outside.{Held, max_file}
use Rattle.vl_pre.specs.Breaks.{◌>>=◌, max_includes, max_loads}
use Rattle.vl_pre.specs.Files.{Include, Reading, Stop, spot_of, file_expansion}
use Rattle.vl_pre.specs.Readings.{reading_seen, IsReading}
use Rattle.vl_pre.specs.Inputs.{IsInput, input_rest, resumed}
use Rattle.vl_pre.specs.declared.inputs.Input.{Input}
use Rattle.vl_pre.specs.declared.inputs.Included.{Included}
use Rattle.vl_pre.specs.declared.source.Source.{Source}

-- how a file is included in one that so many others are open round
abbrev pub include_in : Held → ℕ → Include
include_in held outer = file_expansion held (max_includes - outer)

-- what is left of the files round one that has ended, the innermost first
abbrev pub outer_rest : Held → List Input → Reading → Result Reading Stop
outer_rest held [] reading = Ok reading
outer_rest held (input ∷ outer) reading = resumed (include_in held (length outer)) input reading >>= outer_rest held outer

-- the files round the one that is read, the innermost first
abbrev pub outer_of : Source → List Input
outer_of source = reverse source.outer.items

-- what the rest of a source comes to
abbrev pub source_rest : Held → Source → Result Reading Stop
source_rest held source = input_rest (include_in held (length (outer_of source))) source.input (reading_seen source.state) >>= outer_rest held (outer_of source)

-- what it comes to from an include on
abbrev pub included_rest : Held → Source → Included → Result Reading Stop
included_rest held source included =
    include_in held (length (outer_of source)) (string_bytes included.name) (spot_of (string_bytes source.input.name) included.line (reading_seen source.state)) (reading_seen source.state)
    >>= outer_rest held (source.input ∷ outer_of source)

-- a source within the limits: each load begins a stretch, and so does each end of a file but the last
pub record IsSource (source : Source) : Type 0 where
  pub reading : IsReading (reading_seen source.state)
  pub input : IsInput source.input
  pub outer : All IsInput source.outer.items
  pub count : length source.state.text.names + length source.outer.items + 1 ≡ 2 * length source.state.loads
  pub deep : length source.outer.items ≤ max_includes

-- how much of a file is left
abbrev pub left_in : Input → ℕ
left_in input = length input.text.items - input.cursor.at + 1

-- how much is left to read: what is left of the files, and of each that may still be loaded
abbrev pub left_to_read : Source → ℕ
left_to_read source = (max_loads - length source.state.loads) * (max_file + 2) + left_in source.input + sum (map left_in source.outer.items)
