-- What stands on the output ports, over the values of the nodes. All of it is this project's own.
use Rattle.std.specs.Prelude.{ℕ, ◌+◌, ◌==◌, Bool, List, map, length, take, drop, nat_lt, sum_by, Option, Some, None, slice_get, slice_index, position, if◌then◌else◌}
use Rattle.std.specs.List.{enumerate_from}
use Rattle.xt_bits.specs.Word.{Word, word}
use Rattle.xt_bits.specs.Operators.{any_of}
use Rattle.nt_core.specs.FunctionLine.{FunctionLine}
use Rattle.nt_core.specs.HostLine.{HostLine}
use Rattle.nt_core.specs.Parts.{Parts}
use Rattle.nt_core.specs.NodeValue.{value_at}
use Rattle.xt_bits.specs.Trace.{Call, Called, Unknown}

-- the value on an output port, by its place among them
abbrev pub port : Parts → List Word → ℕ → Word
port n vs i = value_at vs (slice_index n.drives i)

-- `xtc_edge` is up
abbrev pub edge_up : Parts → List Word → Bool
edge_up n vs = any_of (port n vs 0)

-- the values on the output pins
abbrev pub outputs : Parts → List Word → List Word
outputs n vs = map (value_at vs) (take (length n.outputs) (drop 1 n.drives))

-- ---- requests; a host goes by its place among the hosts

-- the place of a host's first output port, its request: the ports of the hosts before it stand before
abbrev pub request_port : Parts → ℕ → ℕ
request_port n host = 1 + length n.outputs + sum_by (λ h. 2 + length h.args) (take host n.hosts)

-- the request is up
abbrev pub request_up : Parts → List Word → ℕ → Bool
request_up n vs host = any_of (port n vs (request_port n host))

-- the number of the function that is asked for
abbrev pub function_number : Parts → List Word → ℕ → ℕ
function_number n vs host = (port n vs (request_port n host + 1)).value

-- the value on an argument pin
abbrev pub argument : Parts → List Word → ℕ → ℕ → Word
argument n vs host i = port n vs (request_port n host + 2 + i)

-- how many argument pins a host has
abbrev pub argument_count : Option HostLine → ℕ
argument_count None = 0
argument_count (Some h) = length h.args

-- ---- calls, by process

-- an argument as the function's input takes it: cut to its width, 0 above the pin or without a pin
abbrev pub input_value : Parts → List Word → ℕ → ℕ → ℕ → Word
input_value n vs host i w = word w (if nat_lt i (argument_count (slice_get n.hosts host)) then (argument n vs host i).value else 0)

-- the call that a request stands for; a number without a function is unknown
abbrev pub call_of : Parts → List Word → ℕ → Option FunctionLine → Call
call_of n vs host None = Unknown
call_of n vs host (Some f) = Called (function_number n vs host) (map (λ i. input_value n vs host i.0 i.1) (enumerate_from 0 f.ins))

-- what a host asks for, if its request is up
abbrev pub request_of : Parts → List Word → Option ℕ → Option Call
request_of n vs None = None
request_of n vs (Some host) = if request_up n vs host then Some (call_of n vs host (slice_get n.functions (function_number n vs host))) else None

-- what a process asks for, if it has a host whose request is up
abbrev pub process_request : Parts → List Word → ℕ → Option Call
process_request n vs p = request_of n vs (position (λ h. h.process == p) n.hosts)
