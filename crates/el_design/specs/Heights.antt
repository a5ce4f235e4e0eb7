-- How many pieces of work stand on a process's stack at most. This project's own.
use Rattle.std.specs.Prelude.{ℕ, zero, suc, max, if◌then◌else◌, length, Option, Some, None, slice_get}
use Rattle.el_design.specs.Plain.{Statement, Seq, Block, If, Case, Arm, For, While, Repeat, Forever, Enable, FlatTask, FlatProc, Flat}

-- the pieces that a statement puts on a stack, itself or what is left of it among them; `tasks` gives those of a task's body, by the task's number
abbrev pub height : (ℕ → ℕ) → Statement → ℕ
height tasks (Seq a b) = max (suc (height tasks a)) (height tasks b)
height tasks (Block at None body) = height tasks body
height tasks (Block at (Some m) body) = suc (height tasks body)
height tasks (If at test a b) = max (height tasks a) (height tasks b)
height tasks (Case at on arms) = height tasks arms
height tasks (Arm on labels body others) = max (height tasks body) (height tasks others)
height tasks (For at v first test next body) = suc (height tasks body)
height tasks (While at test body) = suc (height tasks body)
height tasks (Repeat at count body) = suc (height tasks body)
height tasks (Forever at body) = suc (height tasks body)
height tasks (Enable at t ins outs) = suc (tasks t)
height tasks x = 1

abbrev pub body_height : (ℕ → ℕ) → Option FlatTask → ℕ
body_height tasks None = 0
body_height tasks (Some t) = height tasks t.body

-- where enables nest so deep at most
abbrev pub heights_to : Flat → ℕ → ℕ → ℕ
heights_to d zero t = 0
heights_to d (suc n) t = body_height (heights_to d n) (slice_get d.tasks t)

-- In a design in which no task leads back to itself, no chain of enables is longer than there are tasks.
abbrev pub stack_height : Flat → FlatProc → ℕ
stack_height d p = height (heights_to d (length d.tasks)) (if p.always then Forever p.place p.body else p.body)
