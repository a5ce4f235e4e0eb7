-- A tick of the free clock. All of it is this project's own.
use Rattle.std.specs.Prelude.{List, [], map, fold, replicate, get_or, slice_set, if◌then◌else◌}
use Rattle.xt_bits.specs.Word.{Word, word}
use Rattle.xt_bits.specs.Operators.{any_of}
use Rattle.nt_core.specs.declared.netlist.MemWrite.{MemWrite}
use Rattle.nt_core.specs.Parts.{Parts}
use Rattle.nt_core.specs.Sources.{Inputs, State, silent}
use Rattle.nt_core.specs.NodeValue.{value_at, values}

-- the state at first: the registers' start values, and 0 in each word
abbrev pub start : Parts → State
start n = record { registers = n.registers; memories = map (λ m. replicate m.words (word m.width 0)) n.memories }

-- the values of the nodes in a tick
abbrev pub tick_values : Parts → Inputs → State → List Word
tick_values n inputs state = values n.nodes (record { inputs = inputs; state = state })

-- the values of the nodes in a settling: without acknowledgements and items
abbrev pub settled : Parts → List Word → State → List Word
settled n row state = tick_values n (silent row) state

-- the memories after a write, where its condition is up; one past the end does nothing
abbrev pub written : List Word → List (List Word) → MemWrite → List (List Word)
written vs memories w =
    if any_of (value_at vs w.when)
    then slice_set memories w.memory (slice_set (get_or memories w.memory []) (value_at vs w.index).value (value_at vs w.value))
    else memories

-- the state after a tick with these values: all registers and words take their next values at once, and of two writes to one word the later one wins
abbrev pub next : Parts → List Word → State → State
next n vs state = record { registers = map (value_at vs) n.nexts; memories = fold (written vs) state.memories n.writes }

-- the state after a tick
abbrev pub tick : Parts → Inputs → State → State
tick n inputs state = next n (tick_values n inputs state) state
