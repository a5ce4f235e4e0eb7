-- The pins for calls of a small design, computed from the definition.
use Rattle.std.proofs.Common.{◌≡◌, ℕ, true, false, List, [], ◌∷◌, Some, None, refl}
use Rattle.el_design.specs.declared.designs.Import.{Import}
use Rattle.el_design.specs.declared.designs.Port.{Port}
use Rattle.el_design.specs.Plain.{Statement, Enable, Host, FlatProc, Flat}
use Rattle.el_design.proofs.Sample.{at, block, posedge, design}
use Rattle.xt_compile.specs.Hardware.{hosts_of}

abbrev bits : ℕ → Port
bits w = record { width = w; signed = false }

-- `function byte f(input bit a, input int b, output shortint c);`, `function void g(input longint a);` and `function int h();`
abbrev f : Import
f = record { name = []; ins = bits 1 ∷ bits 32 ∷ []; result = Some (bits 8); outs = bits 16 ∷ [] }

abbrev g : Import
g = record { name = []; ins = bits 64 ∷ []; result = None; outs = [] }

abbrev h : Import
h = record { name = []; ins = []; result = Some (bits 32); outs = [] }

abbrev calls : ℕ → Statement
calls n = Host (at 10) n [] None []

abbrev enables : ℕ → Statement
enables n = Enable (at 11) n [] []

-- task 0 calls g; task 1 enables task 0
abbrev of_processes : List FlatProc → Flat
of_processes procs = record (design [] [] procs [] []) {
  tasks = record { mark = 0; ins = []; outs = []; body = calls 1 } ∷ record { mark = 1; ins = []; outs = []; body = enables 0 } ∷ [];
  imports = f ∷ g ∷ h ∷ [];
  marks = 2;
}

abbrev process : List Statement → FlatProc
process ss = record { always = true; body = block ss; place = at 9 }

abbrev of_one : List Statement → Flat
of_one ss = of_processes (process ss ∷ [])

-- a process that calls f: its result and its output, and its two arguments
of_f : hosts_of (of_one (calls 0 ∷ posedge ∷ [])) ≡ record { process = 0; rets = 8 ∷ 16 ∷ []; args = 1 ∷ 32 ∷ [] } ∷ []
of_f = refl

-- g by a task in a task: no item of a reply, and one argument
of_g : hosts_of (of_one (enables 1 ∷ posedge ∷ [])) ≡ record { process = 0; rets = []; args = 64 ∷ [] } ∷ []
of_g = refl

-- both: each argument pin as wide as the widest
of_both : hosts_of (of_one (enables 1 ∷ calls 0 ∷ posedge ∷ [])) ≡ record { process = 0; rets = 8 ∷ 16 ∷ []; args = 64 ∷ 32 ∷ [] } ∷ []
of_both = refl

-- f and h: the first item is either's result
of_results : hosts_of (of_one (calls 0 ∷ calls 2 ∷ calls 0 ∷ [])) ≡ record { process = 0; rets = 32 ∷ 16 ∷ []; args = 1 ∷ 32 ∷ [] } ∷ []
of_results = refl

-- of three processes, the second of which calls nothing
of_three : hosts_of (of_processes (process (calls 0 ∷ []) ∷ process (posedge ∷ []) ∷ process (enables 0 ∷ []) ∷ []))
    ≡ record { process = 0; rets = 8 ∷ 16 ∷ []; args = 1 ∷ 32 ∷ [] } ∷ record { process = 2; rets = []; args = 64 ∷ [] } ∷ []
of_three = refl
