-- Worked sizes: what the definitions give for the sizes that the rules of refusal limit.
use Rattle.std.proofs.Common.{◌≡◌, ◌<◌, ◌≤◌, ◌+◌, ◌*◌, ◌/◌, ◌%◌, ◌^◌, ℕ, zero, suc, Bool, true, false, List, [], ◌∷◌, ◌++◌, replicate, Some, None, slice_get, refl, ap, ◌∙◌, arith}
use Rattle.el_design.specs.declared.expressions.BinOp.TheVariants as op
use Rattle.el_design.specs.Plain.{Expr, NetValue, Variable, Select, Binary, Resize, Bit, ToVariable, Statement, Null, Block, If, For, Enable, FlatTask, FlatProc, Flat}
use Rattle.std.specs.Prelude.{Contains, pos, int_lt, nat_lt, nat_le}
use Rattle.std.proofs.lemmas.Bool.Decides.{nat_tests}
use Rattle.xt_bits.specs.Word.{Word, word, truth, integer_of}
use Rattle.xt_bits.specs.Operators.{add_of, select_of}
use Rattle.xt_bits.proofs.Readings.{select_number}
use Rattle.el_design.specs.Store.{Store, put_all}
use Rattle.el_design.specs.Value.{value, is_up}
use Rattle.el_design.specs.Assign.{writes_of}
use Rattle.el_design.specs.InPlace.{Stands, itself, in_for, LoopAt, loop_of_process}
use Rattle.el_design.specs.Turns.{fixed, turned, goes_on, stored_by, IsFreeOf, HasTurns, of_for}
use Rattle.el_design.specs.Walk as walk
use Rattle.el_design.specs.Walk.{Walks, IsUnrolled}
use Rattle.el_design.specs.Act.{turn}
use Rattle.el_design.specs.Sizes.{CountsTurns, counting, in_place, task_size, size_of, u_of, s_of, total_size}
use Rattle.el_design.proofs.Texts.{free_of}
use Rattle.el_design.proofs.Sample.{at, reg, input, u, signed, posedge, block, always, initial, assign, later, int, design}

-- ---- `always begin`, 200 lines `if (d[0]) begin @(posedge clk); n <= n + 1; end`, `@(posedge clk); end`

abbrev branch : Statement
branch = If (at 10) (Select (u 1) (NetValue (u 8) 1) (Bit (int 0)) 0)
    (Block (at 11) None (block (posedge ∷ later 0 (Binary (u 32) op.Add (Resize (u 32) (Variable (u 16) 0)) (int 1)) ∷ []))) Null

abbrev branches : FlatProc
branches = always (Block (at 12) None (block (replicate 200 branch ++ posedge ∷ [])))

abbrev branching : Flat
branching = design (reg 16 ∷ []) (input 8 ∷ []) (branches ∷ []) (1 ∷ []) (0 ∷ [])

-- however often loops count: it has none
branching_u : (times : List ℕ → Statement → ℕ) → u_of branching times branches ≡ 2403
branching_u times = refl

branching_s : (often : List ℕ → Statement → ℕ) → s_of branching often branches ≡ 202
branching_s often = refl

-- ---- `for (i = 0; i < 1024; i = i + 1) s = s + 1;`, and such a loop of 150 turns round another

abbrev i_of : ℕ → Expr
i_of v = Variable (signed 32) v

abbrev pub loop : ℕ → ℕ → Statement → Statement
loop v n body = For (at 10) v (int 0) (Binary (u 1) op.Lt (i_of v) (int n)) (Binary (signed 32) op.Add (i_of v) (int 1)) body

abbrev pub more_by_one : Statement
more_by_one = assign 0 (Binary (u 32) op.Add (Resize (u 32) (Variable (u 16) 0)) (int 1))

abbrev pub looping : Statement → Flat
looping s = design (reg 16 ∷ reg 32 ∷ reg 32 ∷ []) [] (initial s ∷ []) [] (0 ∷ [])

abbrev inner : Statement
inner = loop 2 150 more_by_one

abbrev pub outer : Statement
outer = loop 1 150 inner

-- where an unrolled loop of so many turns counts one more
looping_u : (times : List ℕ → Statement → ℕ) → times [] (loop 1 1024 more_by_one) ≡ 1025 → u_of (looping (loop 1 1024 more_by_one)) times (initial (loop 1 1024 more_by_one)) ≡ 15376
looping_u times e = ap (λ n. 1 + n * 15) e

nested_u : (times : List ℕ → Statement → ℕ) → times [] outer ≡ 151 → times [] inner ≡ 151 → u_of (looping outer) times (initial outer) ≡ 343526
nested_u times e h = ap (λ n. 1 + n * (10 + times [] inner * 15)) e ∙ ap (λ n. 1 + 151 * (10 + n * 15)) h

-- such a loop, on the first or the second index, whatever the process
abbrev index : Bool → ℕ
index true = 1
index false = 2

-- the store with a word for the index
abbrev with_index : Bool → Word → Store
with_index true x = (word 16 0 ∷ []) ∷ (x ∷ []) ∷ (word 32 0 ∷ []) ∷ []
with_index false x = (word 16 0 ∷ []) ∷ (word 32 0 ∷ []) ∷ (x ∷ []) ∷ []

abbrev add_one : ℕ → Expr
add_one v = Binary (signed 32) op.Add (i_of v) (int 1)

abbrev below : ℕ → ℕ → Expr
below v n = Binary (u 1) op.Lt (i_of v) (int n)

stored_next : (k : ℕ) → k ≤ 1025 → select_of (add_of (word 32 k) (word 32 1)) (pos 0) 32 ≡ word 32 (suc k)
stored_next k h =
    let same : ((k % 2 ^ 32 + 1) % 2 ^ 32) / 2 ^ 0 ≡ suc k = omega (arith, h) in
    select_number (add_of (word 32 k) (word 32 1)) 0 32 ∙ ap (word 32) same

integer_is : (k : ℕ) → k ≤ 1025 → integer_of (word 32 k) true ≡ pos k
integer_is k h =
    let small : k % 2 ^ 32 ≡ k = omega (arith, h) in
    let positive : nat_le (2 ^ 31) (k % 2 ^ 32) ≡ false = grind (arith, nat_tests, small, h) in
    rw positive (ap pos small)

truth_is : (b : Bool) → is_up (truth b) ≡ b
truth_is true = refl
truth_is false = refl

module _ (s : Statement) where
  -- the store after k turns
  turned_is : (b : Bool) (k : ℕ) → k ≤ 1025 → turned (looping s) (index b) (int 0) (add_one (index b)) k ≡ with_index b (word 32 k)
  turned_is true zero h = ap (with_index true) (select_number (word 32 0) 0 32)
  turned_is false zero h = ap (with_index false) (select_number (word 32 0) 0 32)
  turned_is true (suc k) h =
      ap (λ st. let c = record (fixed (looping s)) { store = st } in put_all st (writes_of (looping s) c (ToVariable 1) (value (looping s) c (add_one 1)))) (turned_is true k (omega (arith, h)))
      ∙ ap (with_index true) (stored_next k (omega (arith, h)))
  turned_is false (suc k) h =
      ap (λ st. let c = record (fixed (looping s)) { store = st } in put_all st (writes_of (looping s) c (ToVariable 2) (value (looping s) c (add_one 2)))) (turned_is false k (omega (arith, h)))
      ∙ ap (with_index false) (stored_next k (omega (arith, h)))

  -- the test at the turn k
  test_is : (b : Bool) (n k : ℕ) → n ≤ 1025 → k ≤ 1025 → goes_on (looping s) (index b) (int 0) (below (index b) n) (add_one (index b)) k ≡ nat_lt k n
  test_is true n k m h =
      ap (λ st. is_up (value (looping s) (record (fixed (looping s)) { store = st }) (below 1 n))) (turned_is true k h)
      ∙ ap (λ x. is_up (truth (int_lt x (integer_of (word 32 n) true)))) (integer_is k h) ∙ ap (λ x. is_up (truth (int_lt (pos k) x))) (integer_is n m) ∙ truth_is (nat_lt k n)
  test_is false n k m h =
      ap (λ st. is_up (value (looping s) (record (fixed (looping s)) { store = st }) (below 2 n))) (turned_is false k h)
      ∙ ap (λ x. is_up (truth (int_lt x (integer_of (word 32 n) true)))) (integer_is k h) ∙ ap (λ x. is_up (truth (int_lt (pos k) x))) (integer_is n m) ∙ truth_is (nat_lt k n)

  -- it takes its turns, where its body leaves the index alone
  pub takes_turns : (b : Bool) (n : ℕ) (body : Statement) → n ≤ 1025 → IsFreeOf (looping s) (index b) body → HasTurns (looping s) (loop (index b) n body) n
  takes_turns true n body m free = of_for (record { start_is = refl; test_is = refl; step_is = refl; free = free })
      (λ k h. let below_it : nat_lt k n ≡ true = grind (arith, nat_tests, h) in test_is true n k m (omega (arith, h, m)) ∙ below_it)
      (let at_end : nat_lt n n ≡ false = grind (arith, nat_tests) in test_is true n n m m ∙ at_end)
  takes_turns false n body m free = of_for (record { start_is = refl; test_is = refl; step_is = refl; free = free })
      (λ k h. let below_it : nat_lt k n ≡ true = grind (arith, nat_tests, h) in test_is false n k m (omega (arith, h, m)) ∙ below_it)
      (let at_end : nat_lt n n ≡ false = grind (arith, nat_tests) in test_is false n n m m ∙ at_end)

  lone : (v w : ℕ) → (v ≡ w → ⊥) → Contains (v ∷ []) w → ⊥
  lone v w differ (zero, h, e) = differ e
  lone v w differ (suc k, h, e) = absurd (omega (arith, h))

  sum_stores : (v : ℕ) → (0 ≡ v → ⊥) → (marks o : List ℕ) (x : Statement) → Stands [] marks more_by_one o x → Contains (stored_by (looping s) x) v → ⊥
  sum_stores v differ marks o x itself c = lone 0 v differ c

  pub sum_is_free : (v : ℕ) → (0 ≡ v → ⊥) → IsFreeOf (looping s) v more_by_one
  sum_is_free v differ = free_of (looping s) v more_by_one (sum_stores v differ)

  inner_stores : (marks o : List ℕ) (x : Statement) → Stands [] marks inner o x → Contains (stored_by (looping s) x) 1 → ⊥
  inner_stores marks o x itself c = lone 2 1 (λ e. omega (arith, e)) c
  inner_stores marks o x (in_for h) c = sum_stores 1 (λ e. omega (arith, e)) marks o x h c

  inner_is_free : IsFreeOf (looping s) 1 inner
  inner_is_free = free_of (looping s) 1 inner inner_stores

  -- a walk through the inner loop's turns
  inner_walk : (n : ℕ) → Walks (looping s) [] (turn (at 1) n more_by_one []) []
  inner_walk zero = walk.stays
  inner_walk (suc n) = walk.then walk.assigns (walk.then walk.takes_turn (inner_walk n))

  inner_unrolled : (marks : List ℕ) → IsUnrolled (looping s) marks inner 150
  inner_unrolled marks = record { turns_are = takes_turns false 150 more_by_one (omega arith) (sum_is_free 2 (λ e. omega (arith, e))); body = more_by_one; body_is = refl; walk = walk.then walk.assigns walk.stays }

  outer_unrolled : IsUnrolled (looping s) [] outer 150
  outer_unrolled = record {
    turns_are = takes_turns true 150 inner (omega arith) inner_is_free;
    body = inner;
    body_is = refl;
    walk = walk.then (walk.begins_turns (at 1) refl (takes_turns false 150 more_by_one (omega arith) (sum_is_free 2 (λ e. omega (arith, e))))) (inner_walk 150);
  }

unrolled : IsUnrolled (looping (loop 1 1024 more_by_one)) [] (loop 1 1024 more_by_one) 1024
unrolled = record {
  turns_are = takes_turns (loop 1 1024 more_by_one) true 1024 more_by_one (omega arith) (sum_is_free (loop 1 1024 more_by_one) 1 (λ e. omega (arith, e)));
  body = more_by_one;
  body_is = refl;
  walk = walk.then walk.assigns walk.stays;
}

-- where they stand
pub initially : (s : Statement) (marks : List ℕ) (x : Statement) → Stands [] [] s marks x → LoopAt (looping s) marks x
initially s marks x st = loop_of_process {p = 0} (record { process = initial s; is = refl; stands = st })

-- as U counts them
counted_u : (times : List ℕ → Statement → ℕ) → CountsTurns (looping (loop 1 1024 more_by_one)) times
    → u_of (looping (loop 1 1024 more_by_one)) times (initial (loop 1 1024 more_by_one)) ≡ 15376
counted_u times c = looping_u times (c.unrolled [] (loop 1 1024 more_by_one) 1024 (initially (loop 1 1024 more_by_one) _ _ itself) unrolled)

pub counted_twice_u : (times : List ℕ → Statement → ℕ) → CountsTurns (looping outer) times → u_of (looping outer) times (initial outer) ≡ 343526
counted_twice_u times c = nested_u times (c.unrolled [] outer 150 (initially outer _ _ itself) (outer_unrolled outer)) (c.unrolled [] inner 150 (initially outer _ _ (in_for itself)) (inner_unrolled outer []))

-- ---- `task t0; x = 1; endtask`, and for each k from 1 to 15 a task `tk` with two enables of the one before it, in a `begin`

abbrev task : ℕ → Statement → FlatTask
task mark body = record { mark = mark; ins = []; outs = []; body = body }

abbrev twice : ℕ → Statement
twice t = Block (at 13) None (block (Enable (at 14) t [] [] ∷ Enable (at 15) t [] [] ∷ []))

abbrev doubles : ℕ → ℕ → List FlatTask
doubles k zero = []
doubles k (suc n) = task (k + 1) (twice k) ∷ doubles (k + 1) n

abbrev pub doubling : Flat
doubling = record (design (reg 1 ∷ []) [] (initial (Enable (at 16) 15 [] []) ∷ []) [] (0 ∷ [])) { tasks = task 0 (assign 0 (int 1)) ∷ doubles 0 15; marks = 16 }

abbrev size_at : (List ℕ → Statement → ℕ) → ℕ → List ℕ → ℕ → ℕ
size_at times n marks t = (counting doubling times n).tasks marks t

-- a task that enables the one before it twice
doubled : (times : List ℕ → Statement → ℕ) (n k size : ℕ) (marks : List ℕ) → slice_get doubling.tasks (suc k) ≡ Some (task (k + 1) (twice k))
    → ((more : List ℕ) → size_at times n more k ≡ size) → size_at times (suc n) marks (suc k) ≡ 1 + ((2 + size) + (2 + size))
doubled times n k size marks e h =
    let below : size_at times n ((k + 1) ∷ marks) k ≡ size = h ((k + 1) ∷ marks) in
    ap (task_size (counting doubling times n) marks) e ∙ ap (λ x. 1 + ((2 + x) + ((2 + x) + 0))) below ∙ omega arith

doubles_at : (j n k m : ℕ) → k < n → m ≡ j + k → slice_get (doubles j n) k ≡ Some (task (m + 1) (twice m))
doubles_at j zero k m h e = absurd (omega (arith, h))
doubles_at j (suc n) zero m h e = let same : j ≡ m = omega (arith, e) in ap (λ x. Some (task (x + 1) (twice x))) same
doubles_at j (suc n) (suc k) m h e = doubles_at (j + 1) n k m (omega (arith, h)) (omega (arith, e))

abbrev sizes : ℕ → ℕ
sizes zero = 3
sizes (suc k) = 5 + 2 * sizes k

all_doubled : (times : List ℕ → Statement → ℕ) (k : ℕ) (marks : List ℕ) → k ≤ 15 → size_at times (suc k) marks k ≡ sizes k
all_doubled times zero marks h = refl
all_doubled times (suc k) marks h =
    doubled times (suc k) k (sizes k) marks (doubles_at 0 15 k k (omega (arith, h)) (omega arith)) (λ more. all_doubled times k more (omega (arith, h))) ∙ omega arith

pub doubling_size : (times : List ℕ → Statement → ℕ) → size_of (in_place doubling times) [] (Enable (at 16) 15 [] []) ≡ 262141
doubling_size times = ap (λ n. 2 + n) (all_doubled times 15 [] (omega arith))

-- ---- over all instances: each body counts once, a loop's too, and an enable without the body

branching_total : total_size branching ≡ 2402
branching_total = refl

nested_total : total_size (looping outer) ≡ 25
nested_total = refl

doubling_total : total_size doubling ≡ 80
doubling_total = refl
