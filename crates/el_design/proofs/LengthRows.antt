-- Worked exits and lengths: how small statements may be left, and the most steps of a walk out and to a clock wait; and what is told of small loops.
use Rattle.std.proofs.Common.{◌≡◌, ℕ, Bool, true, false, List, [], ◌∷◌, Some, None, refl}
use Rattle.xt_bits.specs.Word as words
use Rattle.xt_bits.specs.Word.{word}
use Rattle.xt_bits.specs.Operators as operators
use Rattle.el_design.specs.declared.expressions.BinOp.TheVariants as op
use Rattle.el_design.specs.Plain.{Expr, Number, NetValue, Variable, Binary, Statement, Null, Block, If, For, While, Forever, Enable, Disable, Flat}
use Rattle.el_design.specs.Exits.{Exit, Past, Away, Told, NotCounted, Finite, Endless, Alone, exits, exits_in_place}
use Rattle.el_design.specs.Loops.{told_of}
use Rattle.el_design.specs.Lengths.{way_out, way_to_wait}
use Rattle.el_design.proofs.Sample.{at, reg, input, u, posedge, block, assign, byte, design}
use Rattle.el_design.proofs.SizeRows as sizes

-- a design with a task that waits, and with one that waits or is left by its own `disable`: `task s; begin if (a) disable s; @(posedge clk); end endtask`
abbrev asks : Statement → Statement
asks s = If (at 10) (NetValue (u 1) 1) s Null

abbrev tasks : Flat
tasks = record (design (reg 8 ∷ []) (input 1 ∷ []) [] [] []) {
  tasks = record { mark = 0; ins = []; outs = []; body = posedge } ∷ record { mark = 1; ins = []; outs = []; body = block (asks (Disable (at 11) 1) ∷ posedge ∷ []) } ∷ [];
  marks = 3;
}

abbrev counts : Told → Statement → Told
counts t s = t

-- `begin if (a) @(posedge clk); end`: the block, its list and its end, the test and the null statement
one_branch_out : way_out tasks (counts NotCounted) [] (Block (at 12) None (block (asks posedge ∷ []))) Past ≡ Some 5
one_branch_out = refl

one_branch_waits : way_to_wait tasks (counts NotCounted) [] (Block (at 12) None (block (asks posedge ∷ []))) ≡ Some 3
one_branch_waits = refl

-- a wait, and a task that waits, aren't passed
wait_out : way_out tasks (counts NotCounted) [] posedge Past ≡ None
wait_out = refl

task_out : way_out tasks (counts NotCounted) [] (Enable (at 12) 0 [] []) Past ≡ None
task_out = refl

task_waits : way_to_wait tasks (counts NotCounted) [] (Enable (at 12) 0 [] []) ≡ Some 1
task_waits = refl

-- the other is: enable, list, test, and the `disable` to its end
left_task_out : way_out tasks (counts NotCounted) [] (Enable (at 12) 1 [] []) Past ≡ Some 4
left_task_out = refl

-- `begin : b if (a) disable c; @(posedge clk); end` where c is open round it: to the `disable` it takes three steps, and past the end none lead
abbrev leaves_outer : Statement
leaves_outer = Block (at 12) (Some 1) (block (asks (Disable (at 11) 2) ∷ posedge ∷ []))

outer_away : way_out tasks (counts NotCounted) (2 ∷ []) leaves_outer (Away 2) ≡ Some 3
outer_away = refl

outer_past : way_out tasks (counts NotCounted) (2 ∷ []) leaves_outer Past ≡ None
outer_past = refl

-- where c isn't open, the `disable` does nothing, and the wait stands behind it
shut_past : way_out tasks (counts NotCounted) [] leaves_outer Past ≡ None
shut_past = refl

-- `for (i = 0; i < 2000; i = i + 1) x = 1;`: a step for its start, and two for each turn
counted_out : way_out tasks (counts (Finite 2000)) [] (sizes.loop 1 2000 (assign 0 (byte 1))) Past ≡ Some 4001
counted_out = refl

-- the same with a wait: it is come to in the first turn
counted_waits : way_to_wait tasks (counts (Finite 2000)) [] (sizes.loop 1 2000 posedge) ≡ Some 1
counted_waits = refl

-- one that never ends isn't passed
endless_out : way_out tasks (counts Endless) [] (sizes.loop 1 2000 posedge) Past ≡ None
endless_out = refl

-- `while (a) @(posedge clk);`: it may take no turn
while_out : way_out tasks (counts NotCounted) [] (While (at 12) (NetValue (u 1) 1) posedge) Past ≡ Some 1
while_out = refl

forever_out : way_out tasks (counts NotCounted) [] (Forever (at 12) posedge) Past ≡ None
forever_out = refl

-- ---- exits

abbrev leaves_by : List ℕ → Statement → Exit → Bool
leaves_by marks s e = exits tasks (counts NotCounted) (exits_in_place tasks (counts NotCounted)) Alone marks s e

branch_leaves : leaves_by [] (asks posedge) Past ≡ true
branch_leaves = refl

waiting_task_stays : leaves_by [] (Enable (at 12) 0 [] []) Past ≡ false
waiting_task_stays = refl

left_task_leaves : leaves_by [] (Enable (at 12) 1 [] []) Past ≡ true
left_task_leaves = refl

outer_leaves : leaves_by (2 ∷ []) leaves_outer (Away 2) ≡ true
outer_leaves = refl

-- its own mark is no exit
outer_stays : leaves_by (2 ∷ []) leaves_outer (Away 1) ≡ false
outer_stays = refl

-- ---- what is told of loops on a variable of two bits

abbrev two_bits : Flat
two_bits = design (reg 2 ∷ reg 8 ∷ []) [] [] [] []

abbrev two : ℕ → Expr
two n = Number (u 2) (word 2 n)

abbrev index : Expr
index = Variable (u 2) 0

abbrev looped : Expr → Statement → Statement
looped test body = For (at 10) 0 (two 0) test (Binary (u 2) op.Add index (two 1)) body

-- `for (i = 0; i < 3; i = i + 1) x = 1;`
three_turns : told_of two_bits (looped (Binary (u 1) op.Lt index (two 3)) (assign 1 (byte 1))) ≡ Finite 3
unfolding words.number_of words.bit_of operators.selected_bit operators.turned_bit operators.extended_bit operators.shifted_bit operators.replaced_bit
three_turns = refl

-- `i <= 3` holds of all values of two bits
no_end : told_of two_bits (looped (Binary (u 1) op.Le index (two 3)) (assign 1 (byte 1))) ≡ Endless
unfolding words.number_of words.bit_of operators.selected_bit operators.turned_bit operators.extended_bit operators.shifted_bit operators.replaced_bit
no_end = refl

-- the body stores to i
not_counted : told_of two_bits (looped (Binary (u 1) op.Lt index (two 3)) (assign 0 (two 1))) ≡ NotCounted
not_counted = refl
