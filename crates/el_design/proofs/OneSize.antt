-- U and S of a process are one number each, and so is the size of all nets: any two counts of turns agree where loops stand, and sizes look nowhere else.
use Rattle.std.proofs.Common.{◌≡◌, ◌≤◌, ◌+◌, ◌*◌, ℕ, zero, suc, List, [], ◌∷◌, Option, Some, None, map, sum, option_map, unwrap_or, slice_get, length, refl, sym, ◌∙◌, ap, ap₂, arith}
use Rattle.std.proofs.Math.Path.{fun_ext}
use Rattle.el_design.specs.Plain.{Expr, Lvalue, Statement, Null, Skip, Seq, Block, Assign, If, Case, Arm, For, While, Repeat, Forever, Wait, Enable, Disable, Host, FlatTask, FlatFunc, FlatProc, Flat}
use Rattle.xt_base.specs.declared.refusals.Place.{Place}
use Rattle.el_design.specs.InPlace.{itself, in_first, in_rest, in_block, in_named, in_then, in_else, in_case, in_arm, in_others, in_for, in_while, in_repeat, in_forever, in_task, LoopAt, loop_of_process, loop_of_function}
use Rattle.el_design.specs.Sizes.{expr_size, exprs_size, targets_size, Counting, size_of, function_size, task_size, counting, CountsTurns, u_of, Stopping, stops_in, task_stops, stopping, CountsStops, s_of, nets_size}
use Rattle.el_design.specs.Walk.{IsUnrolled}
use Rattle.el_design.specs.Rules.{IsCleanBefore}
use Rattle.el_design.specs.Laws.{SizesAreOne}
use Rattle.el_design.proofs.OrderRule.{stable}
use Rattle.el_design.proofs.OrderPlaces.{con_got}
use Rattle.el_design.proofs.Counts.{placed}

-- ---- two counts agree where loops stand

-- numbers that can't differ are one
same_number : (a b : ℕ) → ((a ≡ b → ⊥) → ⊥) → a ≡ b
same_number a b h =
    let up : a ≤ b = stable a b (λ n. h (λ e. n (omega (arith, e)))) in
    let down : b ≤ a = stable b a (λ n. h (λ e. n (omega (arith, e)))) in omega (arith, up, down)

abbrev Agree : Flat → (List ℕ → Statement → ℕ) → (List ℕ → Statement → ℕ) → Type 0
Agree d a b = (marks : List ℕ) (s : Statement) → LoopAt d marks s → a marks s ≡ b marks s

turns_agree : (d : Flat) (a b : List ℕ → Statement → ℕ) → CountsTurns d a → CountsTurns d b → Agree d a b
turns_agree d a b h k marks s l = same_number (a marks s) (b marks s) (λ differ. differ (h.others marks s l (never differ) ∙ sym (k.others marks s l (never differ))))
  where
    never : (a marks s ≡ b marks s → ⊥) → (n : ℕ) → IsUnrolled d marks s n → ⊥
    never differ n u = differ (h.unrolled marks s n l u ∙ sym (k.unrolled marks s n l u))

stops_agree : (d : Flat) (a b : List ℕ → Statement → ℕ) → CountsStops d a → CountsStops d b → Agree d a b
stops_agree d a b h k marks s l = same_number (a marks s) (b marks s) (λ differ. differ (h.others marks s l (never differ) ∙ sym (k.others marks s l (never differ))))
  where
    never : (a marks s ≡ b marks s → ⊥) → (n : ℕ) → IsUnrolled d marks s n → ⊥
    never differ n u = differ (h.unrolled marks s n l u ∙ sym (k.unrolled marks s n l u))

-- ---- so do the sizes of what stands in the design

module _ (d : Flat) (clean : IsCleanBefore d 13) (a b : List ℕ → Statement → ℕ) (agree : Agree d a b) where
  -- what the bodies of tasks count agrees where they are enabled
  abbrev TasksAgree : (List ℕ → ℕ → ℕ) → (List ℕ → ℕ → ℕ) → Type 0
  TasksAgree x y = (marks : List ℕ) (at : Place) (t : ℕ) (ins : List Expr) (outs : List Lvalue) → LoopAt d marks (Enable at t ins outs) → x marks t ≡ y marks t

  abbrev counted : (ℕ → ℕ) → (List ℕ → ℕ → ℕ) → (List ℕ → Statement → ℕ) → Counting
  counted calls tasks times = record { calls = calls; tasks = tasks; times = times }

  module _ (k : ℕ → ℕ) (x y : List ℕ → ℕ → ℕ) (same : TasksAgree x y) where
    size_same : (marks : List ℕ) (s : Statement) → LoopAt d marks s → size_of (counted k x a) marks s ≡ size_of (counted k y b) marks s
    size_same marks Null l = refl
    size_same marks Skip l = refl
    size_same marks (Seq s t) l = ap₂ (λ m n. m + n) (size_same marks s (placed d clean l (in_first itself))) (size_same marks t (placed d clean l (in_rest itself)))
    size_same marks (Block at None s) l = ap (λ n. 1 + n) (size_same marks s (placed d clean l (in_block itself)))
    size_same marks (Block at (Some m) s) l = ap (λ n. 1 + n) (size_same (m ∷ marks) s (placed d clean l (in_named itself)))
    size_same marks (Assign at to e held) l = refl
    size_same marks (If at test s t) l =
        ap₂ (λ m n. 1 + expr_size k test + m + n) (size_same marks s (placed d clean l (in_then itself))) (size_same marks t (placed d clean l (in_else itself)))
    size_same marks (Case at on arms) l = ap (λ n. 1 + expr_size k on + n) (size_same marks arms (placed d clean l (in_case itself)))
    size_same marks (Arm on labels s t) l =
        ap₂ (λ m n. exprs_size k labels + m + n) (size_same marks s (placed d clean l (in_arm itself))) (size_same marks t (placed d clean l (in_others itself)))
    size_same marks (For at v first test next s) l =
        ap₂ (λ m n. m * (3 + exprs_size k (first ∷ test ∷ next ∷ []) + n)) (agree marks (For at v first test next s) l) (size_same marks s (placed d clean l (in_for itself)))
    size_same marks (While at test s) l = ap₂ (λ m n. m * (1 + expr_size k test + n)) (agree marks (While at test s) l) (size_same marks s (placed d clean l (in_while itself)))
    size_same marks (Repeat at count s) l = ap₂ (λ m n. m * (2 + expr_size k count + n)) (agree marks (Repeat at count s) l) (size_same marks s (placed d clean l (in_repeat itself)))
    size_same marks (Forever at s) l = ap (λ n. 1 + n) (size_same marks s (placed d clean l (in_forever itself)))
    size_same marks (Wait at falling) l = refl
    size_same marks (Enable at t ins outs) l = ap (λ n. 2 + exprs_size k ins + targets_size k outs + n) (same marks at t ins outs l)
    size_same marks (Disable at m) l = refl
    size_same marks (Host at f ins result outs) l = refl

  -- where functions count the same as well
  sizes_same : (c e : Counting) → c.calls ≡ e.calls → TasksAgree c.tasks e.tasks → c.times ≡ a → e.times ≡ b → (marks : List ℕ) (s : Statement) → LoopAt d marks s
      → size_of c marks s ≡ size_of e marks s
  sizes_same c e calls tasks i j marks s l =
      ap₂ (λ k times. size_of (counted k c.tasks times) marks s) calls i ∙ size_same e.calls c.tasks e.tasks tasks marks s l ∙ ap (λ times. size_of (counted e.calls e.tasks times) marks s) (sym j)

  times_are : (times : List ℕ → Statement → ℕ) (n : ℕ) → (counting d times n).times ≡ times
  times_are times zero = refl
  times_are times (suc n) = refl

  abbrev BothAgree : ℕ → Type 0
  BothAgree n = ((counting d a n).calls ≡ (counting d b n).calls) × TasksAgree (counting d a n).tasks (counting d b n).tasks

  -- one deeper
  module _ (n : ℕ) (both : BothAgree n) where
    size : (marks : List ℕ) (s : Statement) → LoopAt d marks s → size_of (counting d a n) marks s ≡ size_of (counting d b n) marks s
    size marks s l = sizes_same (counting d a n) (counting d b n) both.0 both.1 (times_are a n) (times_are b n) marks s l

    function : (o : Option FlatFunc) (f : ℕ) → slice_get d.funcs f ≡ o → function_size (counting d a n) o ≡ function_size (counting d b n) o
    function None f e = refl
    function (Some g) f e = size [] g.body (loop_of_function (con_got d.funcs f g e) itself)

    task : (o : Option FlatTask) (marks : List ℕ) (at : Place) (t : ℕ) (ins : List Expr) (outs : List Lvalue) → LoopAt d marks (Enable at t ins outs) → slice_get d.tasks t ≡ o
        → task_size (counting d a n) marks o ≡ task_size (counting d b n) marks o
    task None marks at t ins outs l e = refl
    task (Some g) marks at t ins outs l e = size (g.mark ∷ marks) g.body (placed d clean l (in_task e itself))

    both_deeper : BothAgree (suc n)
    both_deeper = (fun_ext (λ f. function (slice_get d.funcs f) f refl), λ marks at t ins outs l. task (slice_get d.tasks t) marks at t ins outs l refl)

  both_agree : (n : ℕ) → BothAgree n
  both_agree zero = (refl, λ marks at t ins outs l. refl)
  both_agree (suc n) = both_deeper n (both_agree n)

  u_same : (p : ℕ) (process : FlatProc) → slice_get d.procs p ≡ Some process → u_of d a process ≡ u_of d b process
  u_same p process e =
      let n : ℕ = length d.tasks + length d.funcs in
      let l : LoopAt d [] process.body = loop_of_process {p = p} (record { process = process; is = e; stands = itself }) in
      ap (λ m. 1 + m) (size n (both_agree n) [] process.body l)

  -- of what is in place, nets look at functions alone
  nets_same : nets_size d a ≡ nets_size d b
  nets_same = ap (λ calls. sum (map (λ net. unwrap_or (option_map (expr_size calls) net.value) 0) d.nets)) (both_agree (length d.tasks + length d.funcs)).0

  -- ---- waits and calls of the host

  abbrev stopped : (List ℕ → ℕ → ℕ) → (List ℕ → Statement → ℕ) → Stopping
  stopped tasks often = record { in_task = tasks; as_often = often }

  module _ (x y : List ℕ → ℕ → ℕ) (same : TasksAgree x y) where
    stops_same : (marks : List ℕ) (s : Statement) → LoopAt d marks s → stops_in (stopped x a) marks s ≡ stops_in (stopped y b) marks s
    stops_same marks Null l = refl
    stops_same marks Skip l = refl
    stops_same marks (Seq s t) l = ap₂ (λ m n. m + n) (stops_same marks s (placed d clean l (in_first itself))) (stops_same marks t (placed d clean l (in_rest itself)))
    stops_same marks (Block at None s) l = stops_same marks s (placed d clean l (in_block itself))
    stops_same marks (Block at (Some m) s) l = stops_same (m ∷ marks) s (placed d clean l (in_named itself))
    stops_same marks (Assign at to e held) l = refl
    stops_same marks (If at test s t) l = ap₂ (λ m n. m + n) (stops_same marks s (placed d clean l (in_then itself))) (stops_same marks t (placed d clean l (in_else itself)))
    stops_same marks (Case at on arms) l = stops_same marks arms (placed d clean l (in_case itself))
    stops_same marks (Arm on labels s t) l = ap₂ (λ m n. m + n) (stops_same marks s (placed d clean l (in_arm itself))) (stops_same marks t (placed d clean l (in_others itself)))
    stops_same marks (For at v first test next s) l = ap₂ (λ m n. m * n) (agree marks (For at v first test next s) l) (stops_same marks s (placed d clean l (in_for itself)))
    stops_same marks (While at test s) l = ap₂ (λ m n. m * n) (agree marks (While at test s) l) (stops_same marks s (placed d clean l (in_while itself)))
    stops_same marks (Repeat at count s) l = ap₂ (λ m n. m * n) (agree marks (Repeat at count s) l) (stops_same marks s (placed d clean l (in_repeat itself)))
    stops_same marks (Forever at s) l = stops_same marks s (placed d clean l (in_forever itself))
    stops_same marks (Wait at falling) l = refl
    stops_same marks (Enable at t ins outs) l = same marks at t ins outs l
    stops_same marks (Disable at m) l = refl
    stops_same marks (Host at f ins result outs) l = refl

  often_is : (often : List ℕ → Statement → ℕ) (n : ℕ) → (stopping d often n).as_often ≡ often
  often_is often zero = refl
  often_is often (suc n) = refl

  module _ (n : ℕ) (tasks : TasksAgree (stopping d a n).in_task (stopping d b n).in_task) where
    stops : (marks : List ℕ) (s : Statement) → LoopAt d marks s → stops_in (stopping d a n) marks s ≡ stops_in (stopping d b n) marks s
    stops marks s l =
        ap (λ often. stops_in (stopped (stopping d a n).in_task often) marks s) (often_is a n)
        ∙ stops_same (stopping d a n).in_task (stopping d b n).in_task tasks marks s l ∙ ap (λ often. stops_in (stopped (stopping d b n).in_task often) marks s) (sym (often_is b n))

    stops_of_task : (o : Option FlatTask) (marks : List ℕ) (at : Place) (t : ℕ) (ins : List Expr) (outs : List Lvalue) → LoopAt d marks (Enable at t ins outs) → slice_get d.tasks t ≡ o
        → task_stops (stopping d a n) marks o ≡ task_stops (stopping d b n) marks o
    stops_of_task None marks at t ins outs l e = refl
    stops_of_task (Some g) marks at t ins outs l e = stops (g.mark ∷ marks) g.body (placed d clean l (in_task e itself))

  tasks_agree : (n : ℕ) → TasksAgree (stopping d a n).in_task (stopping d b n).in_task
  tasks_agree zero = λ marks at t ins outs l. refl
  tasks_agree (suc n) = λ marks at t ins outs l. stops_of_task n (tasks_agree n) (slice_get d.tasks t) marks at t ins outs l refl

  s_same : (p : ℕ) (process : FlatProc) → slice_get d.procs p ≡ Some process → s_of d a process ≡ s_of d b process
  s_same p process e = ap (λ m. 1 + m) (stops (length d.tasks) (tasks_agree (length d.tasks)) [] process.body (loop_of_process {p = p} (record { process = process; is = e; stands = itself })))

pub sizes_are_one : (d : Flat) → IsCleanBefore d 13 → SizesAreOne d
sizes_are_one d clean = (
  λ a b h k. u_same d clean a b (turns_agree d a b h k),
  λ a b h k. s_same d clean a b (stops_agree d a b h k),
  λ a b h k. nets_same d clean a b (turns_agree d a b h k),
)
