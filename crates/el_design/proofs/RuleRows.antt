-- Worked breaks: for each case of the definition of each rule of refusal on flat designs a small design with such a break, at its place; and a design's first break.
use Rattle.std.proofs.Common.{◌≡◌, ◌⊎◌, inl, inr, ◌<◌, ◌≤◌, ◌+◌, ◌*◌, ℕ, zero, suc, not, true, false, List, [], ◌∷◌, replicate, map, length, slice_get, Some, None, sum, refl, sym, ◌∙◌, ap, ap₂, subst, arith}
use Rattle.std.specs.Prelude.{Contains, nat_lt}
use Rattle.std.proofs.lemmas.Bool.Decides.{nat_tests}
use Rattle.xt_base.specs.declared.refusals.Place.{Place}
use Rattle.xt_base.specs.declared.refusals.Refusal.{Refusal}
use Rattle.xt_base.specs.First.{stands_before, IsNamed}
use Rattle.xt_bits.specs.Word.{Word, word, truth}
use Rattle.xt_bits.specs.Operators.{lt_of}
use Rattle.el_design.specs.declared.designs.Import.{Import}
use Rattle.el_design.specs.declared.expressions.BinOp.TheVariants as op
use Rattle.el_design.specs.Plain.{Expr, Number, NetValue, Variable, Binary, Call, Statement, Null, Block, If, For, While, Enable, Disable, Host, FlatTask, FlatFunc, FlatNet, FlatProc, Flat}
use Rattle.el_design.specs.Store.{stored}
use Rattle.el_design.specs.Value.{is_up}
use Rattle.el_design.specs.Names.{nodes_of, called, calls_in}
use Rattle.el_design.specs.InPlace.{Stands, itself, in_first, in_rest, in_block, in_named, in_then, in_task, HasInPlace, Meets, LoopAt, loop_of_process, loop_of_function, IsPart, task_part, block_part}
use Rattle.el_design.specs.Touches.{writes_blocking, writes_nonblocking, by_blocking, reads, reads_net, names_it, depends}
use Rattle.el_design.specs.Turns.{turned, HasBound, bound_while, endless_for, body_of}
use Rattle.el_design.specs.Walk as walk
use Rattle.el_design.specs.Walk.{HasWalk}
use Rattle.el_design.specs.Sizes.{Counting, size_of, function_size, counting, Stopping, stops_in, stopping, CountsTurns, CountsStops, u_of, s_of, net_size, nets_size, once}
use Rattle.el_design.specs.Calls.{IsImpure, foreign, outside, early, leaves, result_place, IsRecursive, Routine, TaskOf, FunctionOf, BodyIs, task_body, function_body, leads_back, leads, there, onward, enables, calls, InText, CallMisfits, HasMisfit, misfit_enable, misfit_host, misfit_call, of_function, of_import, of_statement, of_net, in_process, in_routine, DisablesWrongly, not_own, also_other, in_function, CallsHostInside, inside_statement, inside_net, import_number, Chain, no_more, one_more}
use Rattle.el_design.specs.Rules as rules
use Rattle.el_design.specs.Rules.{max_u, max_s, max_products, max_nets_size, products, NestsTooDeep, process_nests, net_nests, process_large, SpinsAt, loop_spins, always_spins, TurnsTooOften, too_many, without_end, IsTooLarge, large_u, large_s, large_products, large_nets, TwoWriters, two_write, WrittenBothWays, both_ways, ReadAcross, variable_across, net_across, NetsInCircle, circle, Breaks, IsBroken}
use Rattle.el_design.proofs.OrderLists.{con_nil, con_mapped}
use Rattle.el_design.proofs.OrderPlaces.{got_con}
use Rattle.el_design.proofs.Texts.{met_in_place, in_place_met}
use Rattle.el_design.proofs.Sample.{at, reg, input, clock, u, posedge, block, always, initial, assign, later, byte, exprs, design}
use Rattle.el_design.proofs.SizeRows as sizes
use Rattle.el_design.proofs.Races as races

-- what stands at the start of the first process, and of the second
meets_first : (d : Flat) (p : FlatProc) (ps : List FlatProc) {marks : List ℕ} {x : Statement} → d.procs ≡ p ∷ ps → Stands d.tasks [] p.body marks x → Meets d 0 marks x
meets_first d p ps e st = record { process = p; is = rw e refl; stands = st }

meets_second : (d : Flat) (q p : FlatProc) (ps : List FlatProc) {marks : List ℕ} {x : Statement} → d.procs ≡ q ∷ p ∷ ps → Stands d.tasks [] p.body marks x → Meets d 1 marks x
meets_second d q p ps e st = record { process = p; is = rw e refl; stands = st }

-- and what either has in place
first_has : (d : Flat) (p : FlatProc) (ps : List FlatProc) {marks : List ℕ} {x : Statement} → d.procs ≡ p ∷ ps → Stands d.tasks [] p.body marks x → HasInPlace d 0 x
first_has d p ps e st = met_in_place (meets_first d p ps e st)

second_has : (d : Flat) (q p : FlatProc) (ps : List FlatProc) {marks : List ℕ} {x : Statement} → d.procs ≡ q ∷ p ∷ ps → Stands d.tasks [] p.body marks x → HasInPlace d 1 x
second_has d q p ps e st = met_in_place (meets_second d q p ps e st)

-- ---- loops (rules 61, 83 and 84)

-- `always begin if (a) @(posedge clk); end`: one branch waits, the other doesn't
abbrev one_branch : Flat
one_branch = design [] (input 1 ∷ []) (always (Block (at 10) None (block (If (at 11) (NetValue (u 1) 1) posedge Null ∷ []))) ∷ []) (1 ∷ []) []

one_branch_spins : SpinsAt one_branch (at 5)
one_branch_spins = always_spins (0, omega arith, refl) refl
    (walk.then (walk.quietly refl) (walk.then (walk.quietly refl) (walk.then (walk.goes_no (λ e. cc)) (walk.then (walk.quietly refl) (walk.then (walk.quietly refl) walk.stays)))))

-- `for (i = 0; i < 1025; i = i + 1) s = s + 1;`: one turn too many
turns_once_more : TurnsTooOften (sizes.looping (sizes.loop 1 1025 sizes.more_by_one)) (at 10)
turns_once_more = too_many (sizes.initially (sizes.loop 1 1025 sizes.more_by_one) [] (sizes.loop 1 1025 sizes.more_by_one) itself) refl (sizes.takes_turns (sizes.loop 1 1025 sizes.more_by_one) true 1025 sizes.more_by_one (omega arith) (sizes.sum_is_free (sizes.loop 1 1025 sizes.more_by_one) 1 (λ e. omega (arith, e)))) (omega arith) (walk.then walk.assigns walk.stays)

-- `initial while (a) x = 1;`: the body doesn't wait, and no text tells how often it is run
abbrev asked_loop : Statement
asked_loop = While (at 10) (NetValue (u 1) 1) (assign 0 (byte 1))

abbrev no_wait : Flat
no_wait = design (reg 8 ∷ []) (input 1 ∷ []) (initial asked_loop ∷ []) (1 ∷ []) []

asked_without_bound : HasBound no_wait asked_loop → ⊥
asked_without_bound (bound_while c e) = cc

asked_loop_spins : SpinsAt no_wait (at 10)
asked_loop_spins = loop_spins (loop_of_process (meets_first no_wait _ _ refl itself)) refl asked_without_bound (walk.then walk.assigns walk.stays)

-- `for (i = 0; i >= 0; i = i + 1) s = s + 1;` where i is unsigned: the test never fails
abbrev number : ℕ → Expr
number n = Number (u 32) (word 32 n)

abbrev endless : Statement
endless = For (at 10) 1 (number 0) (Binary (u 1) op.Ge (Variable (u 32) 1) (number 0)) (Binary (u 32) op.Add (Variable (u 32) 1) (number 1)) sizes.more_by_one

never_below : (x : Word) → is_up (truth (not (lt_of x (word 32 0) false))) ≡ true
never_below x = let e : nat_lt x.value 0 ≡ false = grind (arith, nat_tests) in ap (λ b. is_up (truth (not b))) e

endless_without_end : TurnsTooOften (sizes.looping endless) (at 10)
endless_without_end = without_end (loop_of_process (meets_first (sizes.looping endless) _ _ refl itself)) refl
    (endless_for (record { start_is = refl; test_is = refl; step_is = refl; free = sizes.sum_is_free endless 1 (λ e. omega (arith, e)) }) (λ k. never_below (stored (turned (sizes.looping endless) 1 (number 0) (Binary (u 32) op.Add (Variable (u 32) 1) (number 1)) k) 1 0 32)))
    (walk.then walk.assigns walk.stays)

-- two loops of 150 turns in one another: U is 343,526, whatever counts their turns rightly
two_loops_large : (times : List ℕ → Statement → ℕ) → CountsTurns (sizes.looping sizes.outer) times → IsTooLarge (sizes.looping sizes.outer) (at 5)
two_loops_large times c = large_u times c (0, omega arith, refl) (subst (λ n. max_u < n) (sym (sizes.counted_twice_u times c)) (omega arith))

-- ---- tasks, functions and imports (rules 50, 51, 52, 53, 62 and 82)

-- fifteen tasks, each with two enables of the one before it
doubling_large : NestsTooDeep sizes.doubling (at 5)
doubling_large = process_large (0, omega arith, refl) (subst (λ n. max_u < 1 + n) (sym (sizes.doubling_size once)) (omega arith))

-- an enable of a task on a line
abbrev enable : ℕ → ℕ → Statement
enable line t = Enable (at line) t [] []

-- tasks of which each but the first enables the one before it, and a process that enables the last
abbrev one_down : ℕ → Statement
one_down zero = Null
one_down (suc k) = enable 10 k

abbrev task : ℕ → FlatTask
task k = record { mark = k; ins = []; outs = []; body = one_down k }

abbrev tasks_from : ℕ → ℕ → List FlatTask
tasks_from j zero = []
tasks_from j (suc n) = task j ∷ tasks_from (suc j) n

abbrev enabling : ℕ → Flat
enabling k = record (design [] [] (initial (enable 11 k) ∷ []) [] []) { tasks = tasks_from 0 (suc k); marks = suc k }

task_at : (j n k m : ℕ) → k < n → m ≡ j + k → slice_get (tasks_from j n) k ≡ Some (task m)
task_at j zero k m h e = absurd (omega (arith, h))
task_at j (suc n) zero m h e = let same : j ≡ m = omega (arith, e) in ap (λ x. Some (task x)) same
task_at j (suc n) (suc k) m h e = task_at (suc j) n k m (omega (arith, h)) (omega (arith, e))

chain_of_tasks : (m k : ℕ) → k ≤ m → Chain (enabling m) k (one_down k)
chain_of_tasks m zero h = no_more
chain_of_tasks m (suc k) h = one_more ([], itself) enables (task_body (task_at 0 (suc m) k k (omega (arith, h)) (omega arith))) (chain_of_tasks m k (omega (arith, h)))

-- 65 of them
nested_tasks : NestsTooDeep (enabling 64) (at 5)
nested_tasks = process_nests (0, omega arith, refl) (one_more ([], itself) enables (task_body (task_at 0 65 64 64 (omega arith) (omega arith))) (chain_of_tasks 64 64 (omega arith)))

-- functions of which each but the first adds two calls of the one before it, and a net that calls the last
abbrev sum_of_calls : ℕ → Expr
sum_of_calls zero = byte 1
sum_of_calls (suc k) = Binary (u 8) op.Add (Call (u 8) k (exprs [])) (Call (u 8) k (exprs []))

abbrev function : ℕ → FlatFunc
function k = record { ins = []; locals = []; result = k; body = assign k (sum_of_calls k) }

abbrev functions_from : ℕ → ℕ → List FlatFunc
functions_from j zero = []
functions_from j (suc n) = function j ∷ functions_from (suc j) n

abbrev summing : ℕ → Flat
summing k = record (design (replicate (suc k) (reg 8)) (record (input 8) { value = Some (Call (u 8) k (exprs [])) } ∷ []) [] [] []) { funcs = functions_from 0 (suc k) }

function_at : (j n k m : ℕ) → k < n → m ≡ j + k → slice_get (functions_from j n) k ≡ Some (function m)
function_at j zero k m h e = absurd (omega (arith, h))
function_at j (suc n) zero m h e = let same : j ≡ m = omega (arith, e) in ap (λ x. Some (function x)) same
function_at j (suc n) (suc k) m h e = function_at (suc j) n k m (omega (arith, h)) (omega (arith, e))

functions_count : (j n : ℕ) → length (functions_from j n) ≡ n
functions_count j zero = refl
functions_count j (suc n) = ap suc (functions_count (suc j) n)

chain_of_functions : (m k : ℕ) → k ≤ m → Chain (summing m) k (assign k (sum_of_calls k))
chain_of_functions m zero h = no_more
chain_of_functions m (suc k) h =
    let all : length (functions_from 0 (suc m)) ≡ suc m = functions_count 0 (suc m) in
    one_more ([], itself) (calls (omega (arith, h, all)) (0, omega arith, refl)) (function_body (function_at 0 (suc m) k k (omega (arith, h)) (omega arith))) (chain_of_functions m k (omega (arith, h)))

-- 65 of them
nested_functions : NestsTooDeep (summing 64) (at 4)
nested_functions = net_nests {f = 64} (1, omega arith, refl) refl (0, omega arith, refl) (function_body (function_at 0 65 64 64 (omega arith) (omega arith))) (chain_of_functions 64 64 (omega arith))

-- `task t; begin t2; end endtask task t2; begin t; end endtask`: the break is at the enable of `t2`
abbrev in_a_circle : Flat
in_a_circle = record (design [] [] (initial (enable 14 0) ∷ []) [] []) {
  tasks = record { mark = 0; ins = []; outs = []; body = Block (at 10) None (block (enable 11 1 ∷ [])) } ∷ record { mark = 1; ins = []; outs = []; body = Block (at 12) None (block (enable 13 0 ∷ [])) } ∷ [];
  marks = 2;
}

circle_recursive : IsRecursive in_a_circle (at 11)
circle_recursive = leads_back {a = TaskOf 0} {b = TaskOf 1} (leads (task_body refl) ([], in_block (in_first itself)) enables)
    (onward (leads (task_body refl) ([], in_block (in_first itself)) enables) there)

-- `function f; f = f(); endfunction`
abbrev calls_itself : Flat
calls_itself = record (design (reg 8 ∷ []) [] [] [] []) { funcs = record { ins = []; locals = []; result = 0; body = assign 0 (Call (u 8) 0 (exprs [])) } ∷ [] }

calls_itself_recursive : IsRecursive calls_itself (at 6)
calls_itself_recursive = leads_back {a = FunctionOf 0} {b = FunctionOf 0} (leads (function_body refl) ([], itself) (calls (omega arith) (0, omega arith, refl))) there

-- a task with one formal, enabled without an argument
abbrev no_argument : Flat
no_argument = record (design (reg 8 ∷ []) [] (initial (enable 10 0) ∷ []) [] []) { tasks = record { mark = 0; ins = 0 ∷ []; outs = []; body = Null } ∷ []; marks = 1 }

no_argument_misfit : HasMisfit no_argument (at 10)
no_argument_misfit = misfit_enable (in_process (0, omega arith, refl) ([], itself)) refl

-- `h(1);` of an import without formals
abbrev void_import : Import
void_import = record { name = []; ins = []; outs = []; result = None }

abbrev host_argument : Flat
host_argument = record (design [] [] (initial (Host (at 10) 0 (byte 1 ∷ []) None []) ∷ []) [] []) { imports = void_import ∷ [] }

host_argument_misfit : HasMisfit host_argument (at 10)
host_argument_misfit = misfit_host (in_process (0, omega arith, refl) ([], itself)) refl

-- `x = f(1);` of a function without formals
abbrev call_argument : Flat
call_argument = record (design (reg 8 ∷ reg 8 ∷ []) [] (initial (assign 0 (Call (u 8) 0 (exprs (byte 1 ∷ [])))) ∷ []) [] []) {
  funcs = record { ins = []; locals = []; result = 1; body = assign 1 (byte 0) } ∷ [];
}

call_argument_misfit : HasMisfit call_argument (at 6)
call_argument_misfit = misfit_call (of_statement (in_process (0, omega arith, refl) ([], itself)) (0, omega arith, refl)) (0, omega arith, refl) (of_function refl)

-- `initial begin : b x = 1; end` and `initial disable b;`
abbrev block_of_other : Flat
block_of_other = record (design (reg 8 ∷ []) [] (initial (Block (at 10) (Some 0) (block (assign 0 (byte 1) ∷ []))) ∷ initial (Disable (at 11) 0) ∷ []) [] []) { marks = 1 }

-- nothing but itself stands in a `disable`, so the second process has no block
stands_in_disable : {tasks : List FlatTask} {marks o : List ℕ} {place : Place} {m : ℕ} {x : Statement} → Stands tasks marks (Disable place m) o x → Disable place m ≡ x
stands_in_disable itself = refl

second_meets : {marks : List ℕ} {x : Statement} → Meets block_of_other 1 marks x → Disable (at 11) 0 ≡ x
second_meets {marks = marks} {x = x} m =
    let e : Disable (at 11) 0 ≡ m.process.body = ap (λ o. elim o [ Some p ↦ p.body | None ↦ Disable (at 11) 0 ]) m.is in
    stands_in_disable (subst (λ s. Stands [] [] s marks x) (sym e) m.stands)

second_has_none : IsPart block_of_other 1 0 → ⊥
second_has_none (block_part h) = let e : _ ≡ _ = second_meets (in_place_met h).1 in cc
second_has_none (task_part h e i) = let e : _ ≡ _ = second_meets (in_place_met h).1 in cc

block_of_other_disables : DisablesWrongly block_of_other (at 11)
block_of_other_disables = not_own {p = 1} (second_has block_of_other _ _ _ refl itself) second_has_none

-- `task t; begin : b @(posedge clk); if (a) disable b; end endtask`, enabled by two processes
abbrev block_of_two : Flat
block_of_two = record (design [] (input 1 ∷ []) (always (enable 13 0) ∷ always (enable 14 0) ∷ []) (1 ∷ []) []) {
  tasks = record { mark = 0; ins = []; outs = []; body = Block (at 10) (Some 1) (block (posedge ∷ If (at 11) (NetValue (u 1) 1) (Disable (at 12) 1) Null ∷ [])) } ∷ [];
  marks = 2;
}

block_of_two_disables : DisablesWrongly block_of_two (at 12)
block_of_two_disables = also_other {p = 0} {q = 1}
    (first_has block_of_two _ _ refl (in_task refl (in_named (in_rest (in_first (in_then itself))))))
    (λ e. omega (arith, e)) (block_part (second_has block_of_two _ _ _ refl (in_task refl itself)))

-- an import in an expression: `x = h() + 1`, where functions are none, so the import has the number 0
abbrev asks_inside : Flat
asks_inside = record (design (reg 8 ∷ []) [] (initial (assign 0 (Binary (u 8) op.Add (Call (u 8) 0 (exprs [])) (byte 1))) ∷ []) [] (0 ∷ [])) {
  imports = void_import ∷ [];
}

asks_inside_calls : CallsHostInside asks_inside (at 6)
asks_inside_calls = inside_statement (first_has asks_inside _ _ refl itself) (0, omega arith, refl) (0, omega arith, refl) (import_number {i = 0} refl)

-- `assign a = h();`
abbrev asks_in_net : Flat
asks_in_net = record (design [] (record (input 8) { value = Some (Call (u 8) 0 (exprs [])) } ∷ []) [] [] []) { imports = void_import ∷ [] }

asks_in_net_calls : CallsHostInside asks_in_net (at 4)
asks_in_net_calls = inside_net (1, omega arith, refl) refl (0, omega arith, refl) (import_number {i = 0} refl)

-- functions, of which the name stands on line 10: `f = x` where x is a variable of the module; `f = f + 1`; and an empty body
abbrev with_function : Statement → Flat
with_function s = record (design (reg 8 ∷ record (reg 8) { place = at 10 } ∷ []) [] [] [] []) { funcs = record { ins = []; locals = []; result = 1; body = s } ∷ [] }

reads_outside : IsImpure (with_function (assign 1 (Variable (u 8) 0))) (at 6)
reads_outside = outside (0, omega arith, refl) ([], itself) refl

reads_early_shown : IsImpure (with_function (assign 1 (Binary (u 8) op.Add (Variable (u 8) 1) (byte 1)))) (at 10)
reads_early_shown = early (0, omega arith, refl) refl (result_place refl refl)

leaves_its_result : IsImpure (with_function Null) (at 10)
leaves_its_result = leaves (0, omega arith, refl) refl (result_place refl refl)

waits_in_function : IsImpure (with_function posedge) (at 8)
waits_in_function = foreign (0, omega arith, refl) ([], itself) refl

-- `function f; begin : b disable b; f = 0; end endfunction`: a function may disable nothing, a block of its own neither
abbrev own_block : Flat
own_block = record (with_function (Block (at 11) (Some 0) (block (Disable (at 12) 0 ∷ assign 1 (byte 0) ∷ [])))) { marks = 1 }

own_block_disables : DisablesWrongly own_block (at 12)
own_block_disables = in_function (0, omega arith, refl) (0 ∷ [], in_named (in_first itself))

-- ---- sizes where there is no loop (rule 84)

-- each loop counted once is then a way of counting that counts rightly
module _ (d : Flat) (no_loop : (marks : List ℕ) (s : Statement) → LoopAt d marks s → body_of s ≡ None) where
  turns_once : CountsTurns d once
  turns_once = record { unrolled = λ marks s n l u. let none : None ≡ Some u.body = sym (no_loop marks s l) ∙ u.body_is in cc; others = λ marks s l h. refl }

  stops_once : CountsStops d once
  stops_once = record { unrolled = λ marks s n l u. let none : None ≡ Some u.body = sym (no_loop marks s l) ∙ u.body_is in cc; others = λ marks s l h. refl }

-- `@(posedge clk);` so many times, in each of two processes
abbrev waits : ℕ → Statement
waits n = block (replicate n posedge)

abbrev waiting : ℕ → Flat
waiting n = design [] [] (initial (waits n) ∷ initial (waits n) ∷ []) [] []

waits_size : (c : Counting) (n : ℕ) → size_of c [] (waits n) ≡ n
waits_size c zero = refl
waits_size c (suc n) = let less : size_of c [] (waits n) ≡ n = waits_size c n in omega (arith, less)

waits_stops : (c : Stopping) (n : ℕ) → stops_in c [] (waits n) ≡ n
waits_stops c zero = refl
waits_stops c (suc n) = let less : stops_in c [] (waits n) ≡ n = waits_stops c n in omega (arith, less)

waits_only : (n : ℕ) {marks o : List ℕ} {x : Statement} → Stands [] marks (waits n) o x → body_of x ≡ None
waits_only zero itself = refl
waits_only (suc n) itself = refl
waits_only (suc n) (in_first itself) = refl
waits_only (suc n) (in_rest h) = waits_only n h

process_waits : (n p : ℕ) (process : FlatProc) → slice_get (waiting n).procs p ≡ Some process → waits n ≡ process.body
process_waits n zero process e = ap (λ o. elim o [ Some x ↦ x.body | None ↦ waits n ]) e
process_waits n (suc zero) process e = ap (λ o. elim o [ Some x ↦ x.body | None ↦ waits n ]) e
process_waits n (suc (suc p)) process e = cc

waiting_no_loop : (n : ℕ) (marks : List ℕ) (s : Statement) → LoopAt (waiting n) marks s → body_of s ≡ None
waiting_no_loop n marks s (loop_of_process {p = p} m) = waits_only n (subst (λ b. Stands [] [] b marks s) (sym (process_waits n p m.process m.is)) m.stands)
waiting_no_loop n marks s (loop_of_function c h) = absurd (con_nil _ c)

waiting_s : (n : ℕ) → s_of (waiting n) once (initial (waits n)) ≡ 1 + n
waiting_s n = ap (λ m. 1 + m) (waits_stops (stopping (waiting n) once 0) n)

waiting_u : (n : ℕ) → u_of (waiting n) once (initial (waits n)) ≡ 1 + n
waiting_u n = ap (λ m. 1 + m) (waits_size (counting (waiting n) once 0) n)

waiting_products : (n : ℕ) → products (waiting n) once once ≡ sum ((1 + n) * (1 + n) ∷ (1 + n) * (1 + n) ∷ [])
waiting_products n = ap₂ (λ s u. sum (s * u ∷ s * u ∷ [])) (waiting_s n) (waiting_u n)

-- 512 waits: S is 513
waits_large : IsTooLarge (waiting 512) (at 5)
waits_large = large_s once (stops_once (waiting 512) (waiting_no_loop 512)) (0, omega arith, refl) (subst (λ n. max_s < n) (sym (waiting_s 512)) (omega arith))

-- 511 waits: S and U are 512, and the sum of two products is 524,288
products_large : IsTooLarge (waiting 511) (at 1)
products_large =
    let large : max_products < 524288 = omega arith in
    large_products once once (turns_once (waiting 511) (waiting_no_loop 511)) (stops_once (waiting 511) (waiting_no_loop 511)) (subst (λ n. max_products < n) (sym (waiting_products 511)) large)

-- the sizes of those functions, from the first on, with what they call
abbrev summed : ℕ → ℕ
summed zero = 3
summed (suc k) = 5 + 2 * summed k

sum_size : (c : Counting) (k size : ℕ) → c.calls k ≡ size → size_of c [] (assign (suc k) (sum_of_calls (suc k))) ≡ 5 + 2 * size
sum_size c k size e = let same : c.calls k ≡ size = e in omega (arith, same)

function_sizes : (m k : ℕ) → k ≤ m → (counting (summing m) once (suc k)).calls k ≡ summed k
function_sizes m zero h = ap (function_size (counting (summing m) once 0)) (function_at 0 (suc m) 0 0 (omega arith) refl)
function_sizes m (suc k) h =
    ap (function_size (counting (summing m) once (suc k))) (function_at 0 (suc m) (suc k) (suc k) (omega (arith, h)) (omega arith))
    ∙ sum_size (counting (summing m) once (suc k)) k (summed k) (function_sizes m k (omega (arith, h)))

call_size : (c : Counting) (m size : ℕ) → c.calls m ≡ size → sum (map (net_size c) (summing m).nets) ≡ 1 + size
call_size c m size e = let same : c.calls m ≡ size = e in omega (arith, same)

summing_nets : (m : ℕ) → nets_size (summing m) once ≡ 1 + summed m
summing_nets m =
    let all : length (functions_from 0 (suc m)) ≡ suc m = functions_count 0 (suc m) in
    let nesting : 0 + length (functions_from 0 (suc m)) ≡ suc m = omega (arith, all) in
    ap (λ n. sum (map (net_size (counting (summing m) once n)) (summing m).nets)) nesting ∙ call_size (counting (summing m) once (suc m)) m (summed m) (function_sizes m m (omega arith))

function_is : (j n i : ℕ) (g : FlatFunc) → slice_get (functions_from j n) i ≡ Some g → (k : ℕ) × (assign k (sum_of_calls k) ≡ g.body)
function_is j zero i g e = cc
function_is j (suc n) zero g e = (j, ap (λ o. elim o [ Some x ↦ x.body | None ↦ assign j (sum_of_calls j) ]) e)
function_is j (suc n) (suc i) g e = function_is (suc j) n i g e

assigns_only : {marks o : List ℕ} {v : ℕ} {e : Expr} {x : Statement} → Stands [] marks (assign v e) o x → body_of x ≡ None
assigns_only itself = refl

summing_no_loop : (m : ℕ) (marks : List ℕ) (s : Statement) → LoopAt (summing m) marks s → body_of s ≡ None
summing_no_loop m marks s (loop_of_process h) = let none : None ≡ Some h.process = h.is in cc
summing_no_loop m marks s (loop_of_function {g = g} c h) =
    let at_place : (i : ℕ) × (slice_get (functions_from 0 (suc m)) i ≡ Some g) = got_con (functions_from 0 (suc m)) g c in
    let is : (k : ℕ) × (assign k (sum_of_calls k) ≡ g.body) = function_is 0 (suc m) at_place.0 g at_place.1 in
    assigns_only (subst (λ b. Stands [] [] b marks s) (sym is.1) h)

-- 17 such functions: the net counts 524,284
nets_large : IsTooLarge (summing 16) (at 1)
nets_large =
    let large : max_nets_size < 524284 = omega arith in
    large_nets once (turns_once (summing 16) (summing_no_loop 16)) (subst (λ n. max_nets_size < n) (sym (summing_nets 16)) large)

-- ---- races and loops of nets (rules 70 to 73)

two_writers : TwoWriters races.two_write (at 3)
two_writers = two_write {p = 0} {q = 1} refl (λ e. omega (arith, e))
    (by_blocking (writes_blocking (first_has races.two_write _ _ refl itself) (0, omega arith, refl))) (by_blocking (writes_blocking (second_has races.two_write _ _ _ refl itself) (0, omega arith, refl)))

-- `begin x <= 1; x = 2; end`
abbrev both_kinds : Flat
both_kinds = design (reg 8 ∷ []) [] (initial (block (later 0 (byte 1) ∷ assign 0 (byte 2) ∷ [])) ∷ []) [] (0 ∷ [])

written_both_ways : WrittenBothWays both_kinds (at 3)
written_both_ways = both_ways {p = 0} refl (writes_blocking (first_has both_kinds _ _ refl (in_rest (in_first itself))) (0, omega arith, refl))
    (writes_nonblocking (first_has both_kinds _ _ refl (in_first itself)) (0, omega arith, refl))

read_across : ReadAcross races.reads_across (at 3)
read_across = variable_across {p = 0} {q = 1} {v = 0} refl (writes_blocking (first_has races.reads_across _ _ refl itself) (0, omega arith, refl)) (λ e. omega (arith, e))
    (reads (second_has races.reads_across _ _ _ refl itself) (0, omega arith, refl))

read_over_net : ReadAcross races.over_net (at 4)
read_over_net = net_across {p = 0} {q = 1} {v = 0} {n = 1} refl (writes_blocking (first_has races.over_net _ _ refl itself) (0, omega arith, refl))
    (names_it (record { net = _; is = refl; value = refl }) (0, omega arith, refl)) (reads_net (second_has races.over_net _ _ _ refl itself) (0, omega arith, refl))

-- `assign a = a;`
abbrev own_value : Flat
own_value = design [] (record (input 8) { value = Some (NetValue (u 8) 1) } ∷ []) [] [] []

own_value_circle : NetsInCircle own_value (at 4)
own_value_circle = circle {n = 1} refl (depends (record { net = _; is = refl; value = refl }) (0, omega arith, refl))

-- ---- the first break

-- `assign a = a;` on line 4, and on each of lines 5 and 6 a net whose expression calls a void import. Named is that the import has no result, on line 5:
-- the loop of nets is of a later pass, line 6 comes later, and that an expression calls the host is the rule of a greater number.
abbrev asks : ℕ → FlatNet
asks line = record (input 8) { value = Some (Call (u 8) 0 (exprs [])); place = at line }

abbrev five_breaks : Flat
five_breaks = record (design [] (record (input 8) { value = Some (NetValue (u 8) 1) } ∷ asks 5 ∷ asks 6 ∷ []) [] [] []) { imports = void_import ∷ [] }

-- a net that is at a place of a list has the value and the place of what stands there
same_value : (a b : FlatNet) → Some a ≡ Some b → a.value ≡ b.value
same_value a b e = ap (λ o. elim o [ Some n ↦ n.value | None ↦ a.value ]) e

same_place : (a b : FlatNet) → Some a ≡ Some b → a.place ≡ b.place
same_place a b e = ap (λ o. elim o [ Some n ↦ n.place | None ↦ a.place ]) e

same_expression : (a b : Expr) → Some a ≡ Some b → a ≡ b
same_expression a b e = cc

-- the nets with calls stand on line 5 or 6
lines_of_calls : (i f : ℕ) (net : FlatNet) (e : Expr) → slice_get five_breaks.nets i ≡ Some net → net.value ≡ Some e → Contains (calls_in e) f → (at 6 ≡ net.place) ⊎ (at 5 ≡ net.place)
lines_of_calls zero f net e is v c = let none : None ≡ Some e = same_value clock net is ∙ v in cc
lines_of_calls (suc zero) f net e is v c =
    let own : NetValue (u 8) 1 ≡ e = same_expression (NetValue (u 8) 1) e (same_value (record (input 8) { value = Some (NetValue (u 8) 1) }) net is ∙ v) in
    absurd (con_nil f (subst (λ x. Contains (calls_in x) f) (sym own) c))
lines_of_calls (suc (suc zero)) f net e is v c = inr (same_place (asks 5) net is)
lines_of_calls (suc (suc (suc zero))) f net e is v c = inl (same_place (asks 6) net is)
lines_of_calls (suc (suc (suc (suc i)))) f net e is v c = cc

-- the design has no task, function or process
no_body : {r : Routine} {s : Statement} → BodyIs five_breaks r s → ⊥
no_body (task_body e) = cc
no_body (function_body e) = cc

no_text : {x : Statement} → InText five_breaks x → ⊥
no_text (in_process c h) = con_nil _ c
no_text (in_routine b h) = no_body b

no_meeting : {p : ℕ} {x : Statement} → HasInPlace five_breaks p x → ⊥
no_meeting m = let none : None ≡ Some m.process = m.is in cc

-- what misfits is a call
misfit_called : {c : Expr} → CallMisfits five_breaks c → (f : ℕ) × (called c ≡ Some f)
misfit_called (of_function {f = f} m) = (f, refl)
misfit_called (of_import {f = f} i m) = (f, refl)

-- the break that is named
abbrev named : Refusal
named = record { rule = record { 0 = 52 }; place = at 5 }

-- a break of this rule at this place doesn't stand before it
abbrev Least : ℕ → Place → Type 0
Least rule b = stands_before (record { rule = record { 0 = rule }; place = b }) named ≡ false

least_of_nets : (rule f : ℕ) (net : FlatNet) (e : Expr) → 52 ≤ rule → Contains five_breaks.nets net → net.value ≡ Some e → Contains (calls_in e) f → Least rule net.place
least_of_nets rule f net e l c v h = go (lines_of_calls (got_con five_breaks.nets net c).0 f net e (got_con five_breaks.nets net c).1 v h)
  where
    go : (at 6 ≡ net.place) ⊎ (at 5 ≡ net.place) → Least rule net.place
    go (inl e) = subst (Least rule) e refl
    go (inr e) = subst (Least rule) e (let m : nat_lt rule 52 ≡ false = grind (arith, nat_tests, l) in m)

least_of_pass : {pass rule : ℕ} {b : Place} → Breaks five_breaks pass rule b → pass ≡ 11 → Least rule b
least_of_pass (rules.impure (foreign c h i)) e = absurd (con_nil _ c)
least_of_pass (rules.impure (outside c h i)) e = absurd (con_nil _ c)
least_of_pass (rules.impure (early c h i)) e = absurd (con_nil _ c)
least_of_pass (rules.impure (leaves c h i)) e = absurd (con_nil _ c)
least_of_pass (rules.recursive (leads_back (leads b h i) t)) e = absurd (no_body b)
least_of_pass (rules.misfit (misfit_enable t i)) e = absurd (no_text t)
least_of_pass (rules.misfit (misfit_host t i)) e = absurd (no_text t)
least_of_pass (rules.misfit (misfit_call (of_statement t c) n m)) e = absurd (no_text t)
least_of_pass (rules.misfit (misfit_call {e = x} {c = call} (of_net {net = net} c v) n m)) e =
    least_of_nets 52 (misfit_called m).0 net x (omega arith) c v (con_mapped called (nodes_of x) call (misfit_called m).0 n (misfit_called m).1)
least_of_pass (rules.disables f (in_function c h)) e = absurd (con_nil _ c)
least_of_pass (rules.disables f (not_own m n)) e = absurd (no_meeting m)
least_of_pass (rules.disables f (also_other m n i)) e = absurd (no_meeting m)
least_of_pass (rules.host_inside f (inside_statement m c h i)) e = absurd (no_meeting m)
least_of_pass (rules.host_inside f (inside_net {f = call} {net = net} {e = x} c v h i)) e = least_of_nets 62 call net x (omega arith) c v h
least_of_pass (rules.nested f (process_nests c h)) e = absurd (con_nil _ c)
least_of_pass (rules.nested f (net_nests c v h b k)) e = absurd (no_body b)
least_of_pass (rules.nested f (process_large c h)) e = absurd (con_nil _ c)
least_of_pass (rules.spins h) e = absurd (omega (arith, e))
least_of_pass (rules.turns h) e = absurd (omega (arith, e))
least_of_pass (rules.too_large h) e = absurd (omega (arith, e))
least_of_pass (rules.two_writers h) e = absurd (omega (arith, e))
least_of_pass (rules.both_kinds h) e = absurd (omega (arith, e))
least_of_pass (rules.across h) e = absurd (omega (arith, e))
least_of_pass (rules.nets_circle h) e = absurd (omega (arith, e))

-- no pass comes before the eleventh
passes_from : {d : Flat} {pass rule : ℕ} {b : Place} → Breaks d pass rule b → 11 ≤ pass
passes_from (rules.impure h) = omega arith
passes_from (rules.recursive h) = omega arith
passes_from (rules.misfit h) = omega arith
passes_from (rules.disables f h) = omega arith
passes_from (rules.host_inside f h) = omega arith
passes_from (rules.nested f h) = omega arith
passes_from (rules.spins h) = omega arith
passes_from (rules.turns h) = omega arith
passes_from (rules.too_large h) = omega arith
passes_from (rules.two_writers h) = omega arith
passes_from (rules.both_kinds h) = omega arith
passes_from (rules.across h) = omega arith
passes_from (rules.nets_circle h) = omega arith

first_of_five : IsNamed (IsBroken five_breaks) 11 named
first_of_five = record {
  first = record {
    broken = rules.misfit (misfit_call (of_net (2, omega arith, refl) refl) (0, omega arith, refl) (of_import (import_number {i = 0} refl) refl));
    least = λ other h. least_of_pass h refl;
  };
  clean_before = λ earlier other l h. let from : 11 ≤ earlier = passes_from h in absurd (omega (arith, l, from));
}
