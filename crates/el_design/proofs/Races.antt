-- Each race rule is needed: small designs that break one rule alone, and what comes of it, computed from the definitions.
use Rattle.std.proofs.Common.{◌≡◌, ℕ, [], ◌∷◌, map, zip, Some, refl}
use Rattle.xt_bits.specs.Word.{Word, word}
use Rattle.xt_bits.specs.Word as words
use Rattle.xt_bits.specs.Operators as operators
use Rattle.xt_bits.specs.Trace.{Trace, Rested}
use Rattle.el_design.specs.declared.expressions.BinOp.TheVariants as op
use Rattle.el_design.specs.Plain.{NetValue, Variable, Binary, Statement, Null, If, For, Flat}
use Rattle.el_design.specs.Store.{start_store}
use Rattle.el_design.specs.Queue.{Config}
use Rattle.el_design.specs.Run.{started, woken}
use Rattle.el_design.specs.Sizes.{u_of}
use Rattle.el_design.proofs.Sample.{trace_of, play, settled, at, reg, input, u, posedge, block, initial, assign, later, byte, design, none_for}

-- one edge of two processes without calls, with this value on the output pin
abbrev shows : ℕ → Trace
shows n = record { calls = [] ∷ [] ∷ []; ending = Rested 1 (word 8 n ∷ []) } ∷ []

-- two processes write one variable: `initial x = 1;` and `initial x = 2;`
abbrev pub two_write : Flat
two_write = design (reg 8 ∷ []) [] (initial (assign 0 (byte 1)) ∷ initial (assign 0 (byte 2)) ∷ []) [] (0 ∷ [])

two_write_first : trace_of two_write 2 ([] ∷ []) (none_for 2) ≡ shows 2
unfolding words.number_of words.bit_of operators.selected_bit operators.turned_bit operators.extended_bit operators.shifted_bit operators.replaced_bit
two_write_first = refl

two_write_second : trace_of two_write 0 ([] ∷ []) (none_for 2) ≡ shows 1
unfolding words.number_of words.bit_of operators.selected_bit operators.turned_bit operators.extended_bit operators.shifted_bit operators.replaced_bit
two_write_second = refl

-- what is written by blocking is read by another process: `initial x = 1;` and `initial y = x;`
abbrev pub reads_across : Flat
reads_across = design (reg 8 ∷ record (reg 8) { place = at 10 } ∷ []) [] (initial (assign 0 (byte 1)) ∷ initial (assign 1 (Variable (u 8) 0)) ∷ []) [] (1 ∷ [])

reads_across_first : trace_of reads_across 2 ([] ∷ []) (none_for 2) ≡ shows 1
unfolding words.number_of words.bit_of operators.selected_bit operators.turned_bit operators.extended_bit operators.shifted_bit operators.replaced_bit
reads_across_first = refl

reads_across_second : trace_of reads_across 0 ([] ∷ []) (none_for 2) ≡ shows 0
unfolding words.number_of words.bit_of operators.selected_bit operators.turned_bit operators.extended_bit operators.shifted_bit operators.replaced_bit
reads_across_second = refl

-- the same through a net: `assign n = x;`, `initial x = 1;` and `initial y = n;`
abbrev pub over_net : Flat
over_net = design (reg 8 ∷ record (reg 8) { place = at 10 } ∷ []) (record (input 8) { value = Some (Variable (u 8) 0) } ∷ []) (initial (assign 0 (byte 1)) ∷ initial (assign 1 (NetValue (u 8) 1)) ∷ []) [] (1 ∷ [])

over_net_first : trace_of over_net 1 ([] ∷ []) (none_for 2) ≡ shows 1
unfolding words.number_of words.bit_of operators.selected_bit operators.turned_bit operators.extended_bit operators.shifted_bit operators.replaced_bit
over_net_first = refl

over_net_second : trace_of over_net 2 ([] ∷ []) (none_for 2) ≡ shows 0
unfolding words.number_of words.bit_of operators.selected_bit operators.turned_bit operators.extended_bit operators.shifted_bit operators.replaced_bit
over_net_second = refl

-- A process writes one variable by both kinds of assignment: `initial begin i <= 200; for (i = 0; i != 3; i = i + 1) if (i == 0) @(posedge clk); end`.
-- It has one trace, but the update changes the loop's variable at the wait, so edge 1 has more events than U, which counts 3 turns.
abbrev counts_on : Statement
counts_on = block (later 0 (byte 200)
    ∷ For (at 10) 0 (byte 0) (Binary (u 1) op.Ne (Variable (u 8) 0) (byte 3)) (Binary (u 8) op.Add (Variable (u 8) 0) (byte 1))
    (If (at 11) (Binary (u 1) op.Eq (Variable (u 8) 0) (byte 0)) posedge Null)
    ∷ [])

abbrev both_kinds : Flat
both_kinds = design (reg 8 ∷ []) [] (initial counts_on ∷ []) [] (0 ∷ [])

abbrev first_edge : Flat → Config
first_edge d = (play 1000 d 0 0 (record { edge = 0; row = []; store = start_store d; nets = settled d [] (start_store d); procs = map started (zip d.procs (none_for 1)) })).0

abbrev events_in_second : Flat → Config → ℕ
events_in_second d c = (play 1000 d 0 0 (record { edge = 1; row = []; store = c.store; nets = settled d [] c.store; procs = map woken c.procs })).1

both_kinds_events : events_in_second both_kinds (first_edge both_kinds) ≡ 168
unfolding words.number_of words.bit_of operators.selected_bit operators.turned_bit operators.extended_bit operators.shifted_bit operators.replaced_bit
both_kinds_events = refl

both_kinds_u : u_of both_kinds (λ marks s. 4) (initial counts_on) ≡ 68
both_kinds_u = refl
