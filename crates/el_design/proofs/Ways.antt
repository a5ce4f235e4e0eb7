-- How a statement may be left without a clock wait, and what it may store to, computed by its structure.
use Rattle.std.proofs.Common.{◌≡◌, inl, inr, ℕ, zero, suc, ◌+◌, ◌≤◌, ◌==◌, ◌&&◌, ◌||◌, not, Bool, true, false, List, [], ◌∷◌, Option, Some, None, slice_get, length, refl, sym, ◌∙◌, ap, ap₂, subst, arith}
use Rattle.std.proofs.lemmas.Option.{slice_get_within}
use Rattle.xt_base.specs.declared.refusals.Place.{Place}
use Rattle.el_design.specs.Plain.{Expr, Lvalue, Statement, Null, Skip, Seq, Block, Assign, If, Case, Arm, For, While, Repeat, Forever, Wait, Enable, Disable, Host, FlatTask, Flat}
use Rattle.el_design.specs.Assign.{has_label, count_of}
use Rattle.el_design.specs.Names.{is_constant}
use Rattle.el_design.specs.Purity.{contains_number}
use Rattle.el_design.specs.InPlace.{Stands, itself}
use Rattle.el_design.specs.InPlace as place
use Rattle.el_design.specs.Calls.{Routine, TaskOf, Uses, Leads, leads, LeadsTo, there, onward, task_body}
use Rattle.el_design.specs.Calls as call
use Rattle.el_design.specs.Turns.{fixed, holds, stored_by, goes_on}
use Rattle.el_design.specs.Walk.{is_constant_case}
use Rattle.el_design.specs.Rules.{IsCleanBefore, recursive}
use Rattle.el_design.proofs.OrderSane.{In, IsUnder, Comes}
use Rattle.el_design.proofs.OrderDepth.{under_few}

-- it is left past its end, or by a jump past the nearest end with a mark; or a variable is stored to in it
pub data Way : Type 0 where
  Past : Way
  Away : ℕ → Way
  Puts : ℕ → Way

abbrev pub Ways : Type 0
Ways = Way → Bool

abbrev pub never : Ways
never x = false

-- it is only left past its end, and stores to these variables
abbrev pub simply : List ℕ → Ways
simply own Past = true
simply own (Away m) = false
simply own (Puts v) = contains_number own v

-- one after another
abbrev pub after : Ways → Ways → Ways
after a b Past = a Past && b Past
after a b (Away m) = a (Away m) || (a Past && b (Away m))
after a b (Puts v) = a (Puts v) || b (Puts v)

-- inside an end with a mark, over stores of its own
abbrev pub ending : List ℕ → ℕ → Ways → Ways
ending own m a Past = a Past || a (Away m)
ending own m a (Away n) = not (m == n) && a (Away n)
ending own m a (Puts v) = contains_number own v || a (Puts v)

-- one of two, where each may be taken
abbrev pub choosing : Bool → Ways → Bool → Ways → Ways
choosing p a q b Past = (p && a Past) || (q && b Past)
choosing p a q b (Away m) = (p && a (Away m)) || (q && b (Away m))
choosing p a q b (Puts v) = a (Puts v) || b (Puts v)

-- a loop: it may be left without a turn; it may be left where its turns may be walked through; it may take a turn
abbrev pub turning : List ℕ → Bool → Bool → Bool → Ways → Ways
turning own over through enters a Past = over || (through && a Past)
turning own over through enters a (Away m) = enters && a (Away m)
turning own over through enters a (Puts v) = contains_number own v || a (Puts v)

abbrev pub stopping : Bool → ℕ → Ways
stopping inner m Past = not inner
stopping inner m (Away n) = (m == n) && inner
stopping inner m (Puts v) = false

abbrev pub enabling : List ℕ → Option FlatTask → Ways → Ways
enabling own None a = ending own 0 never
enabling own (Some t) a = ending own t.mark a

abbrev pub is_zero : ℕ → Bool
is_zero zero = true
is_zero (suc n) = false

-- a test may go this way
abbrev pub may : Flat → Expr → Bool → Bool
may d test true = not (is_constant test) || holds d test
may d test false = not (is_constant test && holds d test)

-- arms stand alone, or are those of a `case` that isn't constant, or of one that is
pub data Mode : Type 0 where
  Lone : Mode
  Any : Mode
  Fixed : Mode

abbrev pub takes : Mode → Bool → Bool
takes Lone label = false
takes Any label = true
takes Fixed label = label

abbrev pub skips : Mode → Bool → Bool
skips Lone label = false
skips Any label = true
skips Fixed label = not label

abbrev pub mode_of : Bool → Mode
mode_of true = Fixed
mode_of false = Any

-- how often a `repeat` of a constant count may be left
abbrev pub repeating : Bool → ℕ → Ways → Ways
repeating true n a = turning [] (is_zero n) true (not (is_zero n)) a
repeating false n a = turning [] true false true a

-- a counted `for`, whose test at first goes this way, or one that isn't counted
abbrev pub fors : List ℕ → Bool → Bool → Bool → Bool → Ways → Ways
fors own true begins ends holds a = turning own (not begins) true begins a
fors own false begins ends holds a = turning own ends false holds a

module _ (d : Flat) where
  module _ (counted : ℕ → Expr → Expr → Expr → Statement → Bool) where
    abbrev pub ways : (ℕ → List ℕ → Ways) → Mode → List ℕ → Statement → Ways
    ways c mode marks Null = simply []
    ways c mode marks Skip = simply []
    ways c mode marks (Seq a b) = after (ways c Lone marks a) (ways c Lone marks b)
    ways c mode marks (Block at None body) = ways c Lone marks body
    ways c mode marks (Block at (Some m) body) = ending [] m (ways c Lone (m ∷ marks) body)
    ways c mode marks (Assign at to e held) = simply (stored_by d (Assign at to e held))
    ways c mode marks (If at test a b) = choosing (may d test true) (ways c Lone marks a) (may d test false) (ways c Lone marks b)
    ways c mode marks (Case at on arms) = ways c (mode_of (is_constant_case on arms)) marks arms
    ways c mode marks (Arm on labels body others) =
        choosing (takes mode (has_label d (fixed d) on labels)) (ways c Lone marks body) (skips mode (has_label d (fixed d) on labels)) (ways c mode marks others)
    ways c mode marks (For at v first test next body) =
        fors (stored_by d (For at v first test next body)) (counted v first test next body) (goes_on d v first test next 0) (may d test false) (may d test true) (ways c Lone marks body)
    ways c mode marks (While at test body) = turning [] (may d test false) false (may d test true) (ways c Lone marks body)
    ways c mode marks (Repeat at count body) = repeating (is_constant count) (count_of d (fixed d) count) (ways c Lone marks body)
    ways c mode marks (Forever at body) = turning [] false false true (ways c Lone marks body)
    ways c mode marks (Wait at falling) = never
    ways c mode marks (Enable at t ins outs) = enabling (stored_by d (Enable at t ins outs)) (slice_get d.tasks t) (c t marks)
    ways c mode marks (Disable at m) = stopping (contains_number marks m) m
    ways c mode marks (Host at f ins result outs) = simply (stored_by d (Host at f ins result outs))

    -- the bodies of tasks, in place so deep at most
    abbrev pub body_ways : (ℕ → List ℕ → Ways) → Option FlatTask → List ℕ → Ways
    body_ways c None marks = never
    body_ways c (Some t) marks = ways c Lone (t.mark ∷ marks) t.body

    abbrev pub task_ways : ℕ → ℕ → List ℕ → Ways
    task_ways zero t marks = never
    task_ways (suc n) t marks = body_ways (task_ways n) (slice_get d.tasks t) marks

    -- the same where the tasks that it enables do the same
    same : (c e : ℕ → List ℕ → Ways) (text : List ℕ) (s : Statement) →
        ((o : List ℕ) (x : Statement) (t : ℕ) → Stands [] text s o x → Uses d x (TaskOf t) → (marks : List ℕ) → c t marks ≡ e t marks) →
        (mode : Mode) (marks : List ℕ) → ways c mode marks s ≡ ways e mode marks s
    same c e text Null f mode marks = refl
    same c e text Skip f mode marks = refl
    same c e text (Seq a b) f mode marks =
        ap₂ (λ x y. after x y) (same c e text a (λ o x t st. f o x t (place.in_first st)) Lone marks) (same c e text b (λ o x t st. f o x t (place.in_rest st)) Lone marks)
    same c e text (Block at None body) f mode marks = same c e text body (λ o x t st. f o x t (place.in_block st)) Lone marks
    same c e text (Block at (Some m) body) f mode marks = ap (λ x. ending [] m x) (same c e (m ∷ text) body (λ o x t st. f o x t (place.in_named st)) Lone (m ∷ marks))
    same c e text (Assign at to v held) f mode marks = refl
    same c e text (If at test a b) f mode marks =
        ap₂ (λ x y. choosing (may d test true) x (may d test false) y) (same c e text a (λ o x t st. f o x t (place.in_then st)) Lone marks) (same c e text b (λ o x t st. f o x t (place.in_else st)) Lone marks)
    same c e text (Case at on arms) f mode marks = same c e text arms (λ o x t st. f o x t (place.in_case st)) (mode_of (is_constant_case on arms)) marks
    same c e text (Arm on labels body others) f mode marks =
        ap₂ (λ x y. choosing (takes mode (has_label d (fixed d) on labels)) x (skips mode (has_label d (fixed d) on labels)) y)
        (same c e text body (λ o x t st. f o x t (place.in_arm st)) Lone marks) (same c e text others (λ o x t st. f o x t (place.in_others st)) mode marks)
    same c e text (For at v first test next body) f mode marks =
        ap (λ x. fors (stored_by d (For at v first test next body)) (counted v first test next body) (goes_on d v first test next 0) (may d test false) (may d test true) x)
        (same c e text body (λ o x t st. f o x t (place.in_for st)) Lone marks)
    same c e text (While at test body) f mode marks =
        ap (λ x. turning [] (may d test false) false (may d test true) x) (same c e text body (λ o x t st. f o x t (place.in_while st)) Lone marks)
    same c e text (Repeat at count body) f mode marks =
        ap (λ x. repeating (is_constant count) (count_of d (fixed d) count) x) (same c e text body (λ o x t st. f o x t (place.in_repeat st)) Lone marks)
    same c e text (Forever at body) f mode marks = ap (λ x. turning [] false false true x) (same c e text body (λ o x t st. f o x t (place.in_forever st)) Lone marks)
    same c e text (Wait at falling) f mode marks = refl
    same c e text (Enable at t ins outs) f mode marks =
        ap (λ x. enabling (stored_by d (Enable at t ins outs)) (slice_get d.tasks t) x) (f text (Enable at t ins outs) t itself call.enables marks)
    same c e text (Disable at m) f mode marks = refl
    same c e text (Host at g ins result outs) f mode marks = refl

    module _ (clean : IsCleanBefore d 13) where
      led_on : {b c : Routine} {r : Routine} {at : Place} → LeadsTo d b c → Leads d c r at → LeadsTo d b r
      led_on there l = onward l there
      led_on (onward k rest) l = onward k (led_on rest l)

      -- what enters these tasks, and a task that it enables
      abbrev comes_within : (under text : List ℕ) (s : Statement) → Type 0
      comes_within under text s = (o : List ℕ) (x : Statement) (t u : ℕ) → Stands [] text s o x → Uses d x (TaskOf t) → In u under → Comes d u t

      inside : (under : List ℕ) (t : ℕ) (task : FlatTask) → slice_get d.tasks t ≡ Some task → IsUnder d under → ((u : ℕ) → In u under → Comes d u t) → IsUnder d (t ∷ under)
      inside under t task e tasks before = (slice_get_within d.tasks t task e, (λ j. let c : Comes d t t = before t j in clean 11 51 _ (omega arith) (recursive (call.leads_back c.2 c.3))), tasks)

      comes_on : (under : List ℕ) (t : ℕ) (task : FlatTask) → slice_get d.tasks t ≡ Some task → ((u : ℕ) → In u under → Comes d u t) → comes_within (t ∷ under) [] task.body
      comes_on under t task e before o x q u st uses (inl j) = subst (λ k. Comes d k q) j (TaskOf q, _, leads (task_body e) (o, st) uses, there)
      comes_on under t task e before o x q u st uses (inr j) = let c : Comes d u t = before u j in (c.0, c.1, c.2, led_on c.3 (leads (task_body e) (o, st) uses))

      -- with as many tasks in one another as there are, one more changes nothing
      enough : (n : ℕ) (under text : List ℕ) (s : Statement) → IsUnder d under → length d.tasks ≤ length under + n → comes_within under text s →
          (mode : Mode) (marks : List ℕ) → ways (task_ways n) mode marks s ≡ ways (task_ways (suc n)) mode marks s
      enough zero under text s tasks room comes = same (task_ways zero) (task_ways 1) text s (λ o x t st uses marks. by_task t marks (λ u i. comes o x t u st uses i) (slice_get d.tasks t) refl)
        where
          by_task : (t : ℕ) (marks : List ℕ) → ((u : ℕ) → In u under → Comes d u t) → (o : Option FlatTask) → slice_get d.tasks t ≡ o → never ≡ body_ways (task_ways zero) (slice_get d.tasks t) marks
          by_task t marks before None e = sym (ap (λ o. body_ways (task_ways zero) o marks) e)
          by_task t marks before (Some task) e = absurd (let k : length (t ∷ under) ≤ length d.tasks = under_few d (t ∷ under) (inside under t task e tasks before) in omega arith)
      enough (suc n) under text s tasks room comes =
          same (task_ways (suc n)) (task_ways (suc (suc n))) text s (λ o x t st uses marks. by_task t marks (λ u i. comes o x t u st uses i) (slice_get d.tasks t) refl (λ task. enough n (t ∷ under) [] task.body))
        where
          Deeper : ℕ → FlatTask → Type 0
          Deeper t task = IsUnder d (t ∷ under) → length d.tasks ≤ length (t ∷ under) + n → comes_within (t ∷ under) [] task.body →
              (mode : Mode) (marks : List ℕ) → ways (task_ways n) mode marks task.body ≡ ways (task_ways (suc n)) mode marks task.body

          by_task : (t : ℕ) (marks : List ℕ) → ((u : ℕ) → In u under → Comes d u t) → (o : Option FlatTask) → slice_get d.tasks t ≡ o → ((task : FlatTask) → Deeper t task) →
              body_ways (task_ways n) (slice_get d.tasks t) marks ≡ body_ways (task_ways (suc n)) (slice_get d.tasks t) marks
          by_task t marks before None e deeper = ap (λ o. body_ways (task_ways n) o marks) e ∙ sym (ap (λ o. body_ways (task_ways (suc n)) o marks) e)
          by_task t marks before (Some task) e deeper =
              ap (λ o. body_ways (task_ways n) o marks) e
              ∙ deeper task (inside under t task e tasks before) (omega arith) (comes_on under t task e before) Lone (task.mark ∷ marks)
              ∙ sym (ap (λ o. body_ways (task_ways (suc n)) o marks) e)

      -- so deep as there are tasks
      abbrev pub all_ways : Mode → List ℕ → Statement → Ways
      all_ways = ways (task_ways (length d.tasks))

      pub at_enable : (mode : Mode) (marks : List ℕ) (at : Place) (t : ℕ) (ins : List Expr) (outs : List Lvalue) (task : FlatTask) → slice_get d.tasks t ≡ Some task →
          all_ways mode marks (Enable at t ins outs) ≡ ending (stored_by d (Enable at t ins outs)) task.mark (all_ways Lone (task.mark ∷ marks) task.body)
      at_enable mode marks at t ins outs task e =
          enough (length d.tasks) [] [] (Enable at t ins outs) tt (omega arith) (λ o x q u st uses i. absurd i) mode marks
          ∙ ap (λ o. enabling (stored_by d (Enable at t ins outs)) o (body_ways (task_ways (length d.tasks)) o marks)) e
