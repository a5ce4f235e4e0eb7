-- How large expressions and statements are. All of it is this project's own.
use Rattle.std.specs.Prelude.{◌≡◌, ℕ, zero, suc, ◌+◌, ◌*◌, List, [], ◌∷◌, map, sum, sum_by, length, Option, Some, None, slice_get, option_map, unwrap_or}
use Rattle.el_design.specs.Plain.{Expr, MemoryWord, Resize, Call, Lvalue, ToVariable, ToPart, ToWord, ToWordPart, Both, Nowhere, Statement, Null, Skip, Seq, Block, Assign, If, Case, Arm, For, While, Repeat, Forever, Wait, Enable, Disable, Host, FlatTask, FlatFunc, FlatNet, FlatProc, Flat}
use Rattle.el_design.specs.Names.{nodes_of, range_indexes, listed}
use Rattle.el_design.specs.InPlace.{LoopAt}
use Rattle.el_design.specs.Walk.{IsUnrolled}

-- a node counts one; a memory word is a name and a select; a call counts the function's body too, of this size; what brings an operand to a width counts nothing
abbrev pub node_size : (ℕ → ℕ) → Expr → ℕ
node_size calls (MemoryWord s v i) = 2
node_size calls (Resize s e) = 0
node_size calls (Call s f es) = 1 + calls f
node_size calls e = 1

abbrev pub expr_size : (ℕ → ℕ) → Expr → ℕ
expr_size calls e = sum_by (node_size calls) (nodes_of e)

abbrev pub exprs_size : (ℕ → ℕ) → List Expr → ℕ
exprs_size calls es = sum (map (expr_size calls) es)

abbrev mutual
  -- names, selects and concatenations count one each, and indexes what they are
  pub target_size : (ℕ → ℕ) → Lvalue → ℕ
  target_size calls (ToVariable v) = 1
  target_size calls (ToPart v r) = 2 + exprs_size calls (range_indexes r)
  target_size calls (ToWord v i) = 2 + expr_size calls i
  target_size calls (ToWordPart v i r) = 3 + expr_size calls i + exprs_size calls (range_indexes r)
  target_size calls (Both a b) = 1 + target_size calls a + parts_size calls b
  target_size calls Nowhere = 1

  -- the further parts of a concatenation, which `Nowhere` ends
  pub parts_size : (ℕ → ℕ) → Lvalue → ℕ
  parts_size calls (Both a b) = target_size calls a + parts_size calls b
  parts_size calls t = 0

abbrev pub targets_size : (ℕ → ℕ) → List Lvalue → ℕ
targets_size calls ts = sum (map (target_size calls) ts)

-- how much the bodies of functions and tasks count, by their number, and how often a loop counts, by the marks that are open round it
pub record Counting : Type 0 where
  pub calls : ℕ → ℕ
  pub tasks : List ℕ → ℕ → ℕ
  pub times : List ℕ → Statement → ℕ

-- a statement's number, and the sizes of what is named beside it
abbrev pub size_of : Counting → List ℕ → Statement → ℕ
size_of c marks Null = 1
size_of c marks Skip = 0
size_of c marks (Seq a b) = size_of c marks a + size_of c marks b
size_of c marks (Block at None body) = 1 + size_of c marks body
size_of c marks (Block at (Some m) body) = 1 + size_of c (m ∷ marks) body
size_of c marks (Assign at to e held) = 1 + target_size c.calls to + expr_size c.calls e
size_of c marks (If at test a b) = 1 + expr_size c.calls test + size_of c marks a + size_of c marks b
size_of c marks (Case at on arms) = 1 + expr_size c.calls on + size_of c marks arms
size_of c marks (Arm on labels body others) = exprs_size c.calls labels + size_of c marks body + size_of c marks others
size_of c marks (For at v first test next body) =
    c.times marks (For at v first test next body) * (3 + exprs_size c.calls (first ∷ test ∷ next ∷ []) + size_of c marks body)
size_of c marks (While at test body) = c.times marks (While at test body) * (1 + expr_size c.calls test + size_of c marks body)
size_of c marks (Repeat at count body) = c.times marks (Repeat at count body) * (2 + expr_size c.calls count + size_of c marks body)
size_of c marks (Forever at body) = 1 + size_of c marks body
size_of c marks (Wait at falling) = 1
size_of c marks (Enable at t ins outs) = 2 + exprs_size c.calls ins + targets_size c.calls outs + c.tasks marks t
size_of c marks (Disable at m) = 1
size_of c marks (Host at f ins result outs) = 2 + exprs_size c.calls ins + targets_size c.calls (listed result) + targets_size c.calls outs

-- ---- in place, with the bodies of tasks and functions

abbrev pub function_size : Counting → Option FlatFunc → ℕ
function_size c None = 0
function_size c (Some f) = size_of c [] f.body

abbrev pub task_size : Counting → List ℕ → Option FlatTask → ℕ
task_size c marks None = 0
task_size c marks (Some t) = size_of c (t.mark ∷ marks) t.body

-- where enables and calls nest so deep at most
abbrev pub counting : Flat → (List ℕ → Statement → ℕ) → ℕ → Counting
counting d times zero = record { calls = λ f. 0; tasks = λ marks t. 0; times = times }
counting d times (suc n) =
    let c = counting d times n in
    record { calls = λ f. function_size c (slice_get d.funcs f); tasks = λ marks t. task_size c marks (slice_get d.tasks t); times = times }

-- In a design in which no task or function leads back to itself, no chain of enables and calls is longer than there are tasks and functions.
abbrev pub in_place : Flat → (List ℕ → Statement → ℕ) → Counting
in_place d times = counting d times (length d.tasks + length d.funcs)

-- ---- U and S

-- each loop's body counts once
abbrev pub once : List ℕ → Statement → ℕ
once marks s = 1

-- where it stands, an unrolled loop of T turns counts T + 1 times in U, and any other loop once
pub record CountsTurns (d : Flat) (times : List ℕ → Statement → ℕ) : Type 0 where
  pub unrolled : (marks : List ℕ) (s : Statement) (n : ℕ) → LoopAt d marks s → IsUnrolled d marks s n → times marks s ≡ suc n
  pub others : (marks : List ℕ) (s : Statement) → LoopAt d marks s → ((n : ℕ) → IsUnrolled d marks s n → ⊥) → times marks s ≡ 1

-- U: one, and the size of the process's statement
abbrev pub u_of : Flat → (List ℕ → Statement → ℕ) → FlatProc → ℕ
u_of d times p = 1 + size_of (in_place d times) [] p.body

-- the waits and host calls in a statement: those of a task's body by its number, and of a loop's as often as it counts
pub record Stopping : Type 0 where
  pub in_task : List ℕ → ℕ → ℕ
  pub as_often : List ℕ → Statement → ℕ

abbrev pub stops_in : Stopping → List ℕ → Statement → ℕ
stops_in c marks Null = 0
stops_in c marks Skip = 0
stops_in c marks (Seq a b) = stops_in c marks a + stops_in c marks b
stops_in c marks (Block at None body) = stops_in c marks body
stops_in c marks (Block at (Some m) body) = stops_in c (m ∷ marks) body
stops_in c marks (Assign at to e held) = 0
stops_in c marks (If at test a b) = stops_in c marks a + stops_in c marks b
stops_in c marks (Case at on arms) = stops_in c marks arms
stops_in c marks (Arm on labels body others) = stops_in c marks body + stops_in c marks others
stops_in c marks (For at v first test next body) = c.as_often marks (For at v first test next body) * stops_in c marks body
stops_in c marks (While at test body) = c.as_often marks (While at test body) * stops_in c marks body
stops_in c marks (Repeat at count body) = c.as_often marks (Repeat at count body) * stops_in c marks body
stops_in c marks (Forever at body) = stops_in c marks body
stops_in c marks (Wait at falling) = 1
stops_in c marks (Enable at t ins outs) = c.in_task marks t
stops_in c marks (Disable at m) = 0
stops_in c marks (Host at f ins result outs) = 1

abbrev pub task_stops : Stopping → List ℕ → Option FlatTask → ℕ
task_stops c marks None = 0
task_stops c marks (Some t) = stops_in c (t.mark ∷ marks) t.body

abbrev pub stopping : Flat → (List ℕ → Statement → ℕ) → ℕ → Stopping
stopping d often zero = record { in_task = λ marks t. 0; as_often = often }
stopping d often (suc n) = let c = stopping d often n in record { in_task = λ marks t. task_stops c marks (slice_get d.tasks t); as_often = often }

-- where it stands, an unrolled loop of T turns counts T times in S, and any other loop once
pub record CountsStops (d : Flat) (often : List ℕ → Statement → ℕ) : Type 0 where
  pub unrolled : (marks : List ℕ) (s : Statement) (n : ℕ) → LoopAt d marks s → IsUnrolled d marks s n → often marks s ≡ n
  pub others : (marks : List ℕ) (s : Statement) → LoopAt d marks s → ((n : ℕ) → IsUnrolled d marks s n → ⊥) → often marks s ≡ 1

-- S: one, and the waits and host calls in place
abbrev pub s_of : Flat → (List ℕ → Statement → ℕ) → FlatProc → ℕ
s_of d often p = 1 + stops_in (stopping d often (length d.tasks)) [] p.body

-- the sizes of the nets' expressions, functions in place
abbrev pub net_size : Counting → FlatNet → ℕ
net_size c n = unwrap_or (option_map (expr_size c.calls) n.value) 0

abbrev pub nets_size : Flat → (List ℕ → Statement → ℕ) → ℕ
nets_size d times = sum (map (net_size (in_place d times)) d.nets)

-- ---- the size over all instances: each body of a process, task or function counts once, and so does each loop's body; an enable or call counts without the body

abbrev pub apart : Counting
apart = record { calls = λ f. 0; tasks = λ marks t. 0; times = once }

abbrev pub own_size : Statement → ℕ
own_size s = size_of apart [] s

abbrev pub total_size : Flat → ℕ
total_size d = sum_by (λ p. own_size p.body) d.procs + sum_by (λ t. own_size t.body) d.tasks + sum_by (λ f. own_size f.body) d.funcs + sum_by (net_size apart) d.nets
