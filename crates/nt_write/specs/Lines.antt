-- Lines as they stand in a text. All of it is this project's own.
use Rattle.std.specs.Prelude.{ℕ, List, ◌++◌, map, zip, flat_map, codes}
use Rattle.nt_core.specs.HostLine.{HostLine}
use Rattle.nt_core.specs.Text.{output_line, host_port_names, assign_line, node_name}
use Rattle.nt_core.specs.Conditions.{host_port_widths}

-- a line with its line feed
abbrev pub ended : List ℕ → List ℕ
ended line = line ++ codes "\n"

-- lines one after another
abbrev pub lines : List (List ℕ) → List ℕ
lines all = flat_map ended all

-- a line that comes after another one of a list with commas
abbrev pub following : List ℕ → List ℕ
following line = codes ",\n" ++ line

-- such lines one after another
abbrev pub followings : List (List ℕ) → List ℕ
followings all = flat_map following all

-- the lines of a process's output ports
abbrev pub host_output_lines : HostLine → List (List ℕ)
host_output_lines h = map (λ p. output_line p.0 p.1) (zip (host_port_widths h) (host_port_names h))

-- the rest of a line that names what drives a port
abbrev pub driven : ℕ → List ℕ
driven node = codes " = " ++ node_name node ++ codes ";\n"

-- the lines of ports with the nodes that drive them
abbrev pub assigned : List (List ℕ) → List ℕ → List ℕ
assigned names drives = lines (map (λ p. assign_line p.0 p.1) (zip names drives))
