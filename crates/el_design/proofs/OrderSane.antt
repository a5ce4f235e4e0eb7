-- In a design that breaks no rule, what a statement comes to is never lost, takes no more events than its size, and is left by a walk.
use Rattle.std.proofs.Common.{◌≡◌, ◌⊎◌, inl, inr, ℕ, zero, suc, ◌+◌, ◌*◌, ◌<◌, ◌≤◌, ◌&&◌, ◌==◌, Bool, true, false, if◌then◌else◌, List, [], ◌∷◌, ◌++◌, Option, Some, None, Contains, All, slice_get, get_or, zip, map, length, option_map, unwrap_or, flat_map, refl, sym, ◌∙◌, ap, subst, arith, eq-eqb}
use Rattle.std.proofs.lemmas.List.Elements.{Contains-append_left, Contains-append_right}
use Rattle.xt_base.specs.declared.refusals.Place.{Place}
use Rattle.xt_bits.specs.Word.{Word}
use Rattle.xt_bits.specs.Stimulus.{Reply}
use Rattle.el_design.specs.Plain.{Expr, Number, NetValue, Variable, MemoryWord, Select, Unary, Binary, Choice, Concat, Copies, Sign, Resize, Call, Lvalue, ToVariable, Statement, Null, Skip, Seq, Block, Assign, If, Case, Arm, For, While, Repeat, Forever, Wait, Enable, Disable, Host, FlatTask, Flat}
use Rattle.el_design.specs.Store.{Write, put_all}
use Rattle.el_design.specs.Value.{value}
use Rattle.el_design.specs.Assign.{writes_of, has_label, arm_chosen, count_of}
use Rattle.el_design.specs.Names.{nodes_of, nodes_of_all, range_nodes, is_constant, target_variables}
use Rattle.el_design.specs.Stack.{Work, Do, End, Return, Step, Turns, Await, below_mark}
use Rattle.el_design.specs.InPlace.{Stands, itself, Meets}
use Rattle.el_design.specs.InPlace as place
use Rattle.el_design.specs.Calls.{Routine, TaskOf, Uses, Leads, leads, LeadsTo, there, onward, task_body}
use Rattle.el_design.specs.Calls as call
use Rattle.el_design.specs.Turns.{fixed, holds, stored_by, formals_in, turned, goes_on, IsCounted, HasTurns, of_repeat, of_while, of_for, IsEndlessFor, endless_for}
use Rattle.el_design.specs.Walk.{choices, is_constant_case, MayGo, HasWalk}
use Rattle.std.specs.List.{sum_by}
use Rattle.std.proofs.lemmas.List.Sums.{sum_by-cons}
use Rattle.el_design.specs.Sizes.{node_size, Counting, size_of, exprs_size, expr_size}
use Rattle.el_design.specs.Rules.{max_turns, IsClean}
use Rattle.el_design.specs.Sound.{IsPlainVariable, IsStatement, ChooseBy}
use Rattle.el_design.specs.Act.{copied_in, copied_out, reply_written}
use Rattle.el_design.specs.Alone.{Doing, Outcome, Falls, Stops, Lost, Setting, seen, counted, writing, assigning, stepped, asking, is_tested, and_then, loop, turns_of, enabling, disabling, awaiting, go}
use Rattle.el_design.proofs.Texts.{free_met}
use Rattle.el_design.proofs.OrderLists.{con_head, con_tail, con_nil, con_cases}
use Rattle.el_design.proofs.OrderWrites.{WritesIn, writes_in, entered_in, left_in, replied_in}
use Rattle.el_design.proofs.OrderRule.{CountsEnough, label_way, split, stable, Opens, walked, spins_not, few_turns, no_end, tested_way, counted_turns, IsShaped, shaped_all, turn_first, turn_next, turn_test}
use Rattle.el_design.proofs.OrderWalk.{Surely, sure, surely, IsConstantLoop, Leaves, leaves_null, leaves_skip, leaves_seq, leaves_first, leaves_block, leaves_named, leaves_ended, leaves_through, leaves_assign, leaves_then, leaves_else, LeavesArms, leaves_case, leaves_host, leaves_passed, leaves_disabled, leaves_enable, leaves_task, leaves_enabled, leaves_forever, leaves_while, leaves_while_turn, leaves_for, leaves_for_turn, leaves_repeat, leaves_repeat_turn}
use Rattle.el_design.proofs.OrderOutcome.{FreeIn, Kept, kept_store, kept_then, kept_writes, Fine, Sane, sane_map, sane_then, sane_closed, sane_returned, InTurn, Paused, at_wait, in_first, in_rest, in_block, in_named, in_then, in_else, in_case, in_arm, in_others, in_for, in_while, in_repeat, in_forever, in_task, Rests, at_least, turns_fit}

-- ---- sizes

pub head_size : (calls : ℕ → ℕ) (n : Expr) (ns : List Expr) → 1 ≤ node_size calls n → 1 ≤ sum_by (node_size calls) (n ∷ ns)
head_size calls n ns h = let e : sum_by (node_size calls) (n ∷ ns) ≡ node_size calls n + sum_by (node_size calls) ns = sum_by-cons (node_size calls) n ns in omega arith

pub some_size : (calls : ℕ → ℕ) (e : Expr) → 1 ≤ expr_size calls e
some_size calls (Number s b) = omega arith
some_size calls (NetValue s n) = omega arith
some_size calls (Variable s v) = omega arith
some_size calls (MemoryWord s v i) = head_size calls (MemoryWord s v i) (nodes_of i) (omega arith)
some_size calls (Select s x r lsb) = head_size calls (Select s x r lsb) (nodes_of x ++ range_nodes r) (omega arith)
some_size calls (Unary s op x) = head_size calls (Unary s op x) (nodes_of x) (omega arith)
some_size calls (Binary s op a b) = head_size calls (Binary s op a b) (nodes_of a ++ nodes_of b) (omega arith)
some_size calls (Choice s c a b) = head_size calls (Choice s c a b) (nodes_of c ++ nodes_of a ++ nodes_of b) (omega arith)
some_size calls (Concat s es) = head_size calls (Concat s es) (nodes_of_all es) (omega arith)
some_size calls (Copies s n x) = head_size calls (Copies s n x) (nodes_of x) (omega arith)
some_size calls (Sign s x) = head_size calls (Sign s x) (nodes_of x) (omega arith)
some_size calls (Resize s x) =
    let e : sum_by (node_size calls) (Resize s x ∷ nodes_of x) ≡ 0 + sum_by (node_size calls) (nodes_of x) = sum_by-cons (node_size calls) (Resize s x) (nodes_of x) in let h : 1 ≤ sum_by (node_size calls) (nodes_of x) = some_size calls x in omega arith
some_size calls (Call s f es) = head_size calls (Call s f es) (nodes_of_all es) (omega arith)

pub three_sizes : (calls : ℕ → ℕ) (a b c : Expr) → 3 ≤ exprs_size calls (a ∷ b ∷ c ∷ [])
three_sizes calls a b c = let x : 1 ≤ expr_size calls a = some_size calls a in let y : 1 ≤ expr_size calls b = some_size calls b in let z : 1 ≤ expr_size calls c = some_size calls c in omega arith

-- ---- where a statement stands

abbrev pub In : ℕ → List ℕ → Type 0
In t [] = ⊥
In t (u ∷ us) = (u ≡ t) ⊎ In t us

-- a task enables others, and so on, to another
abbrev pub Comes : Flat → ℕ → ℕ → Type 0
Comes d u t = (b : Routine) × (at : Place) × Leads d (TaskOf u) b at × LeadsTo d b (TaskOf t)

-- the tasks that are entered, each once
abbrev pub IsUnder : Flat → List ℕ → Type 0
IsUnder d [] = Unit {0}
IsUnder d (t ∷ ts) = (t < length d.tasks) × (In t ts → ⊥) × IsUnder d ts

-- A statement of process p in place, with these marks open round it, above a stack, in these tasks: what stands in it is met by the process, and is of a text.
pub record Here (d : Flat) (p : ℕ) (marks : List ℕ) (s : Statement) (below : List Work) (under : List ℕ) : Type 0 where
  pub meets : (o : List ℕ) (x : Statement) → Stands d.tasks marks s o x → Meets d p o x
  pub opens : Opens marks below
  pub text : List ℕ
  pub sound : (o : List ℕ) (x : Statement) → Stands [] text s o x → IsStatement d x
  pub comes : (o : List ℕ) (x : Statement) (t u : ℕ) → Stands [] text s o x → Uses d x (TaskOf t) → In u under → Comes d u t
  pub tasks : IsUnder d under

abbrev Embeds : Statement → Statement → Type 0
Embeds s t = (tasks : List FlatTask) (marks o : List ℕ) (x : Statement) → Stands tasks marks t o x → Stands tasks marks s o x

pub here_part : {d : Flat} {p : ℕ} {marks : List ℕ} {s t : Statement} {below above : List Work} {under : List ℕ} → Embeds s t →
    ((m : ℕ) → below_mark m above ≡ None → below_mark m below ≡ None) → Here d p marks s below under → Here d p marks t above under
here_part {d} {marks = marks} f g h = record {
  meets = λ o x st. h.meets o x (f d.tasks marks o x st);
  opens = λ m c e. h.opens m c (g m e);
  text = h.text;
  sound = λ o x st. h.sound o x (f [] h.text o x st);
  comes = λ o x t u st. h.comes o x t u (f [] h.text o x st);
  tasks = h.tasks;
}

opens_more : (m : ℕ) (marks : List ℕ) (below above : List Work) → ((n : ℕ) → below_mark n above ≡ (if m == n then Some below else below_mark n below)) → Opens marks below → Opens (m ∷ marks) above
opens_more m marks below above f h n c e = go (con_cases m n marks c) (m == n) refl (sym (f n) ∙ e)
  where
    go : (m ≡ n) ⊎ Contains marks n → (b : Bool) → (m == n) ≡ b → (if m == n then Some below else below_mark n below) ≡ None → ⊥
    go k true i e = let g : Some below ≡ None = ap (λ b. if b then Some below else below_mark n below) (sym i) ∙ e in cc
    go (inl i) false j e = let g : true ≡ false = sym (eq-eqb m n i) ∙ j in cc
    go (inr k) false j e = h n k (ap (λ b. if b then Some below else below_mark n below) (sym j) ∙ e)

pub here_named : {d : Flat} {p m : ℕ} {marks : List ℕ} {at : Place} {body : Statement} {below : List Work} {under : List ℕ} →
    Here d p marks (Block at (Some m) body) below under → Here d p (m ∷ marks) body (End m ∷ below) under
here_named {m = m} {marks = marks} {below = below} h = record {
  meets = λ o x st. h.meets o x (place.in_named st);
  opens = opens_more m marks below (End m ∷ below) (λ n. refl) h.opens;
  text = m ∷ h.text;
  sound = λ o x st. h.sound o x (place.in_named st);
  comes = λ o x t u st. h.comes o x t u (place.in_named st);
  tasks = h.tasks;
}

-- ---- the statements

module _ (d : Flat) (p : ℕ) (clean : IsClean d) (times : List ℕ → Statement → ℕ) (counts : CountsEnough d times) (nets : List Word) (turns : ℕ) (enough : max_turns < turns) where
  -- what is said of a statement
  abbrev pub Stated : List ℕ → Statement → List Work → ℕ → Doing → Outcome → Type 0
  Stated marks s below size x o = Sane (λ e y. Leaves d below s e) (Fine d marks s size x) (Rests d marks s below) o

  -- and of the arms of a `case` on an expression
  abbrev pub Armed : Expr → List ℕ → Statement → List Work → ℕ → Doing → Outcome → Type 0
  Armed on marks s below size x o = Sane (λ e y. LeavesArms d below on s e) (Fine d marks s size x) (Rests d marks s below) o

  abbrev pub Claimed : Bool → Expr → List ℕ → Statement → List Work → ℕ → Doing → Outcome → Type 0
  Claimed false on marks s below size x o = Stated marks s below size x o
  Claimed true on marks s below size x o = Armed on marks s below size x o

  -- and of the bodies of tasks
  abbrev pub TasksStated : (FlatTask → List Work → Doing → Outcome) → (List ℕ → ℕ → ℕ) → List ℕ → Type 0
  TasksStated run sizes under = (t : ℕ) (task : FlatTask) → slice_get d.tasks t ≡ Some task → (marks : List ℕ) (below : List Work) →
      Here d p (task.mark ∷ marks) task.body below (t ∷ under) → (x : Doing) → IsShaped d x.store → Stated (task.mark ∷ marks) task.body below (sizes marks t) x (run task below x)

  shaped_on : (A : ℕ → Type 0) (x y : Doing) → IsShaped d x.store → Kept A x y → IsShaped d y.store
  shaped_on A x y s k = k.shape ∙ s

  -- ---- one event

  untouched : (marks : List ℕ) (s : Statement) (size : ℕ) (x y : Doing) → y.store ≡ x.store → y.events ≤ size + x.events → Fine d marks s size x y
  untouched marks s size x y e n = record { spent = n; kept = kept_store (FreeIn d marks s) x y e }

  touched : (marks : List ℕ) (s : Statement) (size : ℕ) (x y : Doing) (ws : List Write) → y.store ≡ put_all x.store ws → y.events ≤ size + x.events → WritesIn (λ v. Contains (stored_by d s) v) ws → Fine d marks s size x y
  touched marks s size x y ws e n w = record { spent = n; kept = kept_writes (FreeIn d marks s) (λ v. Contains (stored_by d s) v) x y ws e w (λ v f c. f marks s itself c) }

  -- events before, within a bound
  pub fine_part : (marks inner : List ℕ) (s t : Statement) (size more : ℕ) (x y z : Doing) → ((v : ℕ) → FreeIn d marks s v → FreeIn d inner t v) → more + y.events ≤ size + x.events →
      Kept (FreeIn d marks s) x y → Fine d inner t more y z → Fine d marks s size x z
  fine_part marks inner s t size more x y z f n k g =
      record { spent = (let a : z.events ≤ more + y.events = g.spent in omega arith); kept = kept_then (FreeIn d marks s) (FreeIn d marks s) (FreeIn d inner t) x y z (λ v a. a) f k g.kept }

  rests_part : (marks inner : List ℕ) (s t : Statement) (below above : List Work) → ((y : Doing) (k : List Work) → Paused d y.store inner t above k → Paused d y.store marks s below k) →
      (l : List Work) (y : Doing) → Rests d inner t above l y → Rests d marks s below l y
  rests_part marks inner s t below above f l y r at falling k e = f y k (r at falling k e)

  -- ---- loops

  pub has_walk : (marks : List ℕ) (below : List Work) (body : Statement) → Opens marks below → Leaves d below body None → Surely (HasWalk d marks body)
  has_walk marks below body o v = walked d marks below body o v

  pub some_turns : (marks : List ℕ) (x : Statement) → Meets d p marks x → 1 ≤ times marks x
  some_turns marks x m = counts.once marks x m

  pub for_turns : (at : Place) (v n : ℕ) (first test next : Expr) (body : Statement) → HasTurns d (For at v first test next body) n →
      IsCounted d v first test next body × ((k : ℕ) → k < n → goes_on d v first test next k ≡ true) × (goes_on d v first test next n ≡ false)
  for_turns at v n first test next body (of_for c f g) = (c, f, g)

  pub repeat_turns : (at : Place) (n : ℕ) (count : Expr) (body : Statement) → HasTurns d (Repeat at count body) n → (is_constant count ≡ true) × (n ≡ count_of d (fixed d) count)
  repeat_turns at n count body (of_repeat c) = (c, refl)

  while_turns : (at : Place) (n : ℕ) (test : Expr) (body : Statement) → HasTurns d (While at test body) n → (is_constant test ≡ true) × (holds d test ≡ false)
  while_turns at n test body (of_while c h) = (c, h)

  pub endless_turns : (at : Place) (v : ℕ) (first test next : Expr) (body : Statement) → IsEndlessFor d (For at v first test next body) →
      IsCounted d v first test next body × ((k : ℕ) → goes_on d v first test next k ≡ true)
  endless_turns at v first test next body (endless_for c f) = (c, f)

  pub repeat_ends : (at : Place) (count : Expr) (body : Statement) → IsEndlessFor d (Repeat at count body) → ⊥
  repeat_ends at count body h = elim h [ ]

  while_ends : (at : Place) (test : Expr) (body : Statement) → IsEndlessFor d (While at test body) → ⊥
  while_ends at test body h = elim h [ ]

  pub forever_ends : (at : Place) (body : Statement) → IsConstantLoop d (Forever at body) → ⊥
  forever_ends at body (inl h) = no_turns h.0 h.1
    where
      no_turns : (n : ℕ) → HasTurns d (Forever at body) n → ⊥
      no_turns n t = elim t [ ]
  forever_ends at body (inr h) = elim h [ ]

  -- ---- a `for`, from its test at a turn

  module _ (run : FlatTask → List Work → Doing → Outcome) (marks : List ℕ) (below : List Work) (at : Place) (v w : ℕ) (first test next : Expr) (body : Statement) (size : ℕ)
      (meets : Meets d p marks (For at v first test next body)) (opens : Opens marks below) (plain : IsPlainVariable d v w)
      (inner : (y : Doing) → IsShaped d y.store → Stated marks body (Step at v test next body ∷ below) size y
      (go (record { design = d; nets = nets; turns = turns; enabled = run }) false body (Step at v test next body ∷ below) y)) where
    abbrev loop_of : Statement
    loop_of = For at v first test next body

    abbrev setting_of : Setting
    setting_of = record { design = d; nets = nets; turns = turns; enabled = run }

    abbrev FreeHere : ℕ → Type 0
    FreeHere u = FreeIn d marks (For at v first test next body) u

    abbrev turn_to : Doing → Outcome
    turn_to y = and_then (go setting_of false body (Step at v test next body ∷ below) y) (λ z. Falls (stepped setting_of v next z))

    -- at a test, so many turns done
    abbrev pub AtTest : ℕ → Doing → Type 0
    AtTest j y = IsCounted d v first test next body → (get_or y.store v [] ≡ get_or (turned d v first next j) v []) × ((i : ℕ) → i < j → goes_on d v first test next i ≡ true)

    -- so many turns begun; where more than one is, the first came to the body's end
    pub record ForSpent (j : ℕ) (y z : Doing) : Type 0 where
      pub more : ℕ
      pub fell : (more ≤ 1) ⊎ Leaves d below body None
      pub spent : z.events ≤ more * (size + 2) + suc y.events
      pub held : IsCounted d v first test next body → (i : ℕ) → i < j + more → goes_on d v first test next i ≡ true
      pub kept : Kept (FreeIn d marks (For at v first test next body)) y z

    abbrev pub ForLeft : ℕ → Doing → Option ℕ → Doing → Type 0
    ForLeft j y None z = MayGo d test false × ((i : ℕ) × (IsCounted d v first test next body → goes_on d v first test next i ≡ false)) × (Leaves d below body None ⊎ ((IsCounted d v first test next body → goes_on d v first test next j ≡ false) × (z.events ≡ suc y.events)))
    ForLeft j y (Some m) z = Leaves d below body (Some m) × MayGo d test true × (IsCounted d v first test next body → goes_on d v first test next 0 ≡ true)

    -- a turn
    record Turned (y z : Doing) : Type 0 where
      turn_spent : z.events ≤ size + 2 + y.events
      turn_kept : Kept (FreeIn d marks (For at v first test next body)) y z

    abbrev TurnLeft : ℕ → Option ℕ → Doing → Type 0
    TurnLeft j None z = Leaves d below body None × AtTest (suc j) z
    TurnLeft j (Some m) z = Leaves d below body (Some m)

    abbrev Goal : ℕ → Doing → Outcome → Type 0
    Goal j y o = Sane (ForLeft j y) (ForSpent j y) (Rests d marks (For at v first test next body) below) o

    free_body : (u : ℕ) → FreeIn d marks (For at v first test next body) u → FreeIn d marks body u
    free_body u f o x st = f o x (place.in_for st)

    free_variable : (u : ℕ) → FreeIn d marks (For at v first test next body) u → u ≡ v → ⊥
    free_variable u f e = f marks (For at v first test next body) itself (subst (λ n. Contains (stored_by d (For at v first test next body)) n) (sym e) (con_head v []))

    pub step_kept : (e : Expr) (z : Doing) → Kept (FreeIn d marks (For at v first test next body)) z (stepped setting_of v e z)
    step_kept e z = kept_writes (FreeIn d marks (For at v first test next body)) (λ u. u ≡ v) z (stepped setting_of v e z) (writes_of d (seen setting_of z) (ToVariable v) (value d (seen setting_of z) e)) refl (writes_in (λ u. u ≡ v) d (seen setting_of z) (ToVariable v) (value d (seen setting_of z) e) only) free_variable
      where
        only : (u : ℕ) → Contains (v ∷ []) u → u ≡ v
        only u c = go (con_cases v u [] c)
          where
            go : (v ≡ u) ⊎ Contains [] u → u ≡ v
            go (inl e) = sym e
            go (inr k) = absurd (con_nil u k)

    up_to : (j : ℕ) (y : Doing) → AtTest j y → is_tested setting_of test y ≡ true → IsCounted d v first test next body → (i : ℕ) → i ≤ j → goes_on d v first test next i ≡ true
    up_to j y f e c i h = go (split j i)
      where
        here : goes_on d v first test next j ≡ true
        here = sym (turn_test setting_of y v j first test next c.test_is (f c).0) ∙ e

        go : (j ≤ i) ⊎ (i < j) → goes_on d v first test next i ≡ true
        go (inl g) = subst (λ n. goes_on d v first test next n ≡ true) (let q : j ≡ i = omega arith in q) here
        go (inr g) = (f c).1 i g

    turn_sane : (j : ℕ) (y : Doing) → IsShaped d y.store → AtTest j y → is_tested setting_of test y ≡ true →
        Sane (TurnLeft j) (Turned y) (Rests d marks (For at v first test next body) below)
        (and_then (go setting_of false body (Step at v test next body ∷ below) (counted y)) (λ z. Falls (stepped setting_of v next z)))
    turn_sane j y s f e =
        sane_then (λ x z. Leaves d (Step at v test next body ∷ below) body x) (TurnLeft j) (Fine d marks body size (counted y)) (Turned y) (Rests d marks body (Step at v test next body ∷ below)) (Rests d marks (For at v first test next body) below)
        (go setting_of false body (Step at v test next body ∷ below) (counted y)) (λ z. Falls (stepped setting_of v next z)) (inner (counted y) s)
        (λ z l g. ((l, next_turn z g), record { turn_spent = (let a : z.events ≤ size + suc y.events = g.spent in omega arith); turn_kept = kept_then FreeHere FreeHere FreeHere y z (stepped setting_of v next z) (λ u a. a) (λ u a. a) (body_kept z g) (step_kept next z) }))
        (λ m z l g. l)
        (λ z g. record { turn_spent = (let a : z.events ≤ size + suc y.events = g.spent in omega arith); turn_kept = body_kept z g })
        (λ l z r g a q k i. in_for j (in_turn z g) (r a q k i))
      where
        body_kept : (z : Doing) → Fine d marks body size (counted y) z → Kept FreeHere y z
        body_kept z g = kept_then FreeHere FreeHere (FreeIn d marks body) y (counted y) z (λ u a. a) free_body (kept_store FreeHere y (counted y) refl) g.kept

        same_value : (z : Doing) → Fine d marks body size (counted y) z → IsCounted d v first test next body → get_or z.store v [] ≡ get_or (turned d v first next j) v []
        same_value z g c = g.kept.words v (λ o x st k. free_met d v body c.free x st k) ∙ (f c).0

        next_turn : (z : Doing) → Fine d marks body size (counted y) z → AtTest (suc j) (stepped setting_of v next z)
        next_turn z g c = (turn_next setting_of z v w j first next (shaped_on _ (counted y) z s g.kept) plain c.step_is (same_value z g c), λ i h. up_to j y f e c i (omega arith))

        in_turn : (z : Doing) → Fine d marks body size (counted y) z → InTurn d z.store v first test next body j
        in_turn z g c = (same_value z g c, up_to j y f e c)

    -- where the body may be walked through there is a next turn to be had
    more_turns : (j fuel : ℕ) (y : Doing) → AtTest j y → is_tested setting_of test y ≡ true → Leaves d below body None → max_turns < j + suc fuel → 1 ≤ fuel
    more_turns j fuel y f e l h = stable 1 fuel (surely (has_walk marks below body opens l) (λ walk. surely (spins_not d clean meets refl walk) (λ k. sure (go walk k))))
      where
        last : (n : ℕ) → HasTurns d (For at v first test next body) n → n ≤ j → ⊥
        last n t g = let q : IsCounted d v first test next body × ((k : ℕ) → k < n → goes_on d v first test next k ≡ true) × (goes_on d v first test next n ≡ false) = for_turns at v n first test next body t in
            let b : true ≡ false = sym (up_to j y f e q.0 n g) ∙ q.2 in cc

        go : HasWalk d marks body → IsConstantLoop d (For at v first test next body) → 1 ≤ fuel
        go walk (inl t) = count (split t.0 j)
          where
            count : (t.0 ≤ j) ⊎ (j < t.0) → 1 ≤ fuel
            count (inl g) = absurd (last t.0 t.1 g)
            count (inr g) = let b : t.0 ≤ max_turns = few_turns d clean meets refl t.1 walk in omega arith
        go walk (inr t) = absurd (no_end d clean meets refl t walk)

    pub for_sane : (fuel j : ℕ) (y : Doing) → IsShaped d y.store → AtTest j y → 1 ≤ fuel → (Leaves d below body None → max_turns < j + fuel) →
        Sane (ForLeft j y) (ForSpent j y) (Rests d marks (For at v first test next body) below)
        (loop fuel (is_tested setting_of test) (λ y. and_then (go setting_of false body (Step at v test next body ∷ below) y) (λ z. Falls (stepped setting_of v next z))) y)
    for_sane zero j y s f some much = absurd (omega arith)
    for_sane (suc fuel) j y s f some much = choose (is_tested setting_of test y) refl (λ z l sz fz. for_sane fuel (suc j) z sz fz (more_turns j fuel y f (l.1) l.0 (much l.0)) (λ k. let m : max_turns < j + suc fuel = much l.0 in omega arith))
      where
        onto : (z : Doing) → Leaves d below body None → Turned y z → (o : Outcome) → Sane (ForLeft (suc j) z) (ForSpent (suc j) z) (Rests d marks (For at v first test next body) below) o → Goal j y o
        onto z l t o r = sane_map (ForLeft (suc j) z) (ForLeft j y) (ForSpent (suc j) z) (ForSpent j y) (Rests d marks (For at v first test next body) below) (Rests d marks (For at v first test next body) below)
            left_by (λ u g. record {
              more = suc g.more;
              fell = inr l;
              spent = (let a : u.events ≤ g.more * (size + 2) + suc z.events = g.spent in let b : z.events ≤ size + 2 + y.events = t.turn_spent in
                  let e : suc g.more * (size + 2) ≡ g.more * (size + 2) + (size + 2) = Rattle.std.proofs.Common.suc-mul g.more (size + 2) in omega arith);
              held = λ c i h. g.held c i (omega arith);
              kept = kept_then FreeHere FreeHere FreeHere y z u (λ n a. a) (λ n a. a) t.turn_kept g.kept;
            }) (λ q u r g. r) o r
          where
            left_by : (e : Option ℕ) (u : Doing) → ForLeft (suc j) z e u → ForSpent (suc j) z u → ForLeft j y e u
            left_by None u a g = (a.0, a.1, inl l)
            left_by (Some m) u a g = a

        choose : (b : Bool) → is_tested setting_of test y ≡ b →
            ((z : Doing) → Leaves d below body None × (is_tested setting_of test y ≡ true) → IsShaped d z.store → AtTest (suc j) z → Sane (ForLeft (suc j) z) (ForSpent (suc j) z) (Rests d marks (For at v first test next body) below) (loop fuel (is_tested setting_of test) turn_to z)) →
            Goal j y (if b then and_then (turn_to (counted y)) (loop fuel (is_tested setting_of test) turn_to) else Falls (counted y))
        choose false e more =
            ((tested_way setting_of y test false e, (j, fails), inr (fails, refl)), record { more = 0; fell = inl (omega arith); spent = omega arith; held = λ c i h. (f c).1 i (omega arith); kept = kept_store _ y (counted y) refl })
          where
            fails : IsCounted d v first test next body → goes_on d v first test next j ≡ false
            fails c = sym (turn_test setting_of y v j first test next c.test_is (f c).0) ∙ e
        choose true e more =
            sane_then (TurnLeft j) (ForLeft j y) (Turned y) (ForSpent j y) (Rests d marks (For at v first test next body) below) (Rests d marks (For at v first test next body) below)
            (turn_to (counted y)) (loop fuel (is_tested setting_of test) turn_to) (turn_sane j y s f e)
            (λ z l t. onto z l.0 t (loop fuel (is_tested setting_of test) turn_to z) (more z (l.0, e) (shaped_on _ y z s t.turn_kept) l.1))
            (λ m z l t. (l, tested_way setting_of y test true e, λ c. up_to j y f e c 0 (omega arith)))
            (λ z t. record { more = 1; fell = inl (omega arith); spent = (let a : z.events ≤ size + 2 + y.events = t.turn_spent in let b : 1 * (size + 2) ≡ size + 2 = Rattle.std.proofs.Common.one-mul (size + 2) in omega arith); held = λ c i h. up_to j y f e c i (omega arith); kept = t.turn_kept })
            (λ l z r t. r)

  -- ---- the turns of a `repeat`

  module _ (run : FlatTask → List Work → Doing → Outcome) (marks : List ℕ) (below : List Work) (at : Place) (count : Expr) (body : Statement) (size : ℕ)
      (inner : (n : ℕ) (y : Doing) → IsShaped d y.store → Stated marks body (Turns at n body ∷ below) size y
      (go (record { design = d; nets = nets; turns = turns; enabled = run }) false body (Turns at n body ∷ below) y)) where
    abbrev repeat_turn : ℕ → Doing → Outcome
    repeat_turn n = go (record { design = d; nets = nets; turns = turns; enabled = run }) false body (Turns at n body ∷ below)

    abbrev FreeRepeat : ℕ → Type 0
    FreeRepeat u = FreeIn d marks (Repeat at count body) u

    pub record RepeatSpent (left : ℕ) (y z : Doing) : Type 0 where
      pub spent : z.events ≤ left * (size + 1) + y.events
      pub near : Leaves d below body None ⊎ (z.events ≤ size + y.events)
      pub kept : Kept (FreeIn d marks (Repeat at count body)) y z

    abbrev pub RepeatLeft : ℕ → Option ℕ → Doing → Type 0
    RepeatLeft left None z = (left ≡ 0) ⊎ Leaves d below body None
    RepeatLeft left (Some m) z = Leaves d below body (Some m) × (1 ≤ left)

    free_repeat : (u : ℕ) → FreeIn d marks (Repeat at count body) u → FreeIn d marks body u
    free_repeat u f o x st = f o x (place.in_repeat st)

    left_more : (n : ℕ) → Leaves d below body None → (e : Option ℕ) (u y : Doing) → RepeatLeft n e u → RepeatSpent n y u → RepeatLeft (suc n) e u
    left_more n l None u y a g = inr l
    left_more n l (Some m) u y a g = (a.0, omega arith)

    pub repeat_sane : (left : ℕ) (y : Doing) → IsShaped d y.store → ((n : ℕ) → HasTurns d (Repeat at count body) n → left ≤ n) →
        Sane (RepeatLeft left) (RepeatSpent left y) (Rests d marks (Repeat at count body) below) (turns_of left repeat_turn y)
    repeat_sane zero y s h = (inl refl, record { spent = omega arith; near = inr (omega arith); kept = kept_store FreeRepeat y y refl })
    repeat_sane (suc n) y s h =
        let e : suc n * (size + 1) ≡ n * (size + 1) + (size + 1) = Rattle.std.proofs.Common.suc-mul n (size + 1) in
        sane_then (λ e z. Leaves d (Turns at n body ∷ below) body e) (RepeatLeft (suc n)) (Fine d marks body size y) (RepeatSpent (suc n) y) (Rests d marks body (Turns at n body ∷ below)) (Rests d marks (Repeat at count body) below)
        (repeat_turn n y) (λ z. turns_of n repeat_turn (counted z)) (inner n y s)
        (λ z l g. sane_map (RepeatLeft n) (RepeatLeft (suc n)) (RepeatSpent n (counted z)) (RepeatSpent (suc n) y) (Rests d marks (Repeat at count body) below) (Rests d marks (Repeat at count body) below)
        (λ q u a b. left_more n l q u (counted z) a b)
        (λ u b. record {
          spent = (let a : u.events ≤ n * (size + 1) + suc z.events = b.spent in let c : z.events ≤ size + y.events = g.spent in omega arith);
          near = inl l;
          kept = kept_then FreeRepeat (FreeIn d marks body) FreeRepeat y z u free_repeat (λ u a. a) g.kept (record { words = b.kept.words; shape = b.kept.shape });
        })
        (λ q u r b. r) (turns_of n repeat_turn (counted z)) (repeat_sane n (counted z) (shaped_on _ y z s g.kept) (λ k t. let a : suc n ≤ k = h k t in omega arith)))
        (λ m z l g. (l, omega arith))
        (λ z g. record { spent = (let c : z.events ≤ size + y.events = g.spent in omega arith); near = inr g.spent; kept = kept_then FreeRepeat FreeRepeat (FreeIn d marks body) y y z (λ u a. a) free_repeat (kept_store FreeRepeat y y refl) g.kept })
        (λ l z r g a q k i. in_repeat n h (r a q k i))

  -- ---- a `while`

  module _ (run : FlatTask → List Work → Doing → Outcome) (marks : List ℕ) (below : List Work) (at : Place) (test : Expr) (body : Statement) (size : ℕ)
      (meets : Meets d p marks (While at test body)) (opens : Opens marks below)
      (inner : (y : Doing) → IsShaped d y.store → Stated marks body (Do (While at test body) ∷ below) size y
      (go (record { design = d; nets = nets; turns = turns; enabled = run }) false body (Do (While at test body) ∷ below) y)) where
    abbrev while_setting : Setting
    while_setting = record { design = d; nets = nets; turns = turns; enabled = run }

    abbrev while_turn : Doing → Outcome
    while_turn = go (record { design = d; nets = nets; turns = turns; enabled = run }) false body (Do (While at test body) ∷ below)

    pub while_never : (y : Doing) → is_tested while_setting test y ≡ true → Leaves d below body None → ⊥
    while_never y e l = has_walk marks below body opens l (λ walk. spins_not d clean meets refl walk go)
      where
        go : IsConstantLoop d (While at test body) → ⊥
        go (inl t) = let q : (is_constant test ≡ true) × (holds d test ≡ false) = while_turns at t.0 test body t.1 in let b : true ≡ false = sym (tested_way while_setting y test true e q.0) ∙ q.1 in cc
        go (inr t) = while_ends at test body t

    pub while_sane : (fuel : ℕ) (y : Doing) → IsShaped d y.store → 1 ≤ fuel →
        Stated marks (While at test body) below (1 + size) y (loop fuel (is_tested while_setting test) while_turn y)
    while_sane zero y s h = absurd (omega arith)
    while_sane (suc fuel) y s h = choose (is_tested while_setting test y) refl
      where
        choose : (b : Bool) → is_tested while_setting test y ≡ b →
            Stated marks (While at test body) below (1 + size) y (if b then and_then (while_turn (counted y)) (loop fuel (is_tested while_setting test) while_turn) else Falls (counted y))
        choose false e = (leaves_while d below at test body (tested_way while_setting y test false e), untouched marks (While at test body) (1 + size) y (counted y) refl (omega arith))
        choose true e =
            sane_then (λ q z. Leaves d (Do (While at test body) ∷ below) body q) (λ q z. Leaves d below (While at test body) q) (Fine d marks body size (counted y)) (Fine d marks (While at test body) (1 + size) y)
            (Rests d marks body (Do (While at test body) ∷ below)) (Rests d marks (While at test body) below)
            (while_turn (counted y)) (loop fuel (is_tested while_setting test) while_turn) (inner (counted y) s)
            (λ z l g. absurd (while_never y e l))
            (λ m z l g. leaves_while_turn d below at test body m (tested_way while_setting y test true e) l)
            (λ z g. fine_part marks marks (While at test body) body (1 + size) size y (counted y) z (λ v f o x st. f o x (place.in_while st)) (omega arith) (kept_store _ y (counted y) refl) g)
            (λ l z r g a q k i. in_while (r a q k i))

  -- ---- all statements

  within : {X : Type 0} (xs : List X) (i : ℕ) (x : X) → slice_get xs i ≡ Some x → i < length xs
  within [] i x e = cc
  within (y ∷ ys) zero x e = omega arith
  within (y ∷ ys) (suc i) x e = let h : i < length ys = within ys i x e in omega arith

  led_on : {a b c : Routine} {at : Place} → LeadsTo d a b → Leads d b c at → LeadsTo d a c
  led_on there l = onward l there
  led_on (onward k m) l = onward k (led_on m l)

  module _ (sound_tasks : (t : ℕ) (task : FlatTask) → slice_get d.tasks t ≡ Some task → (o : List ℕ) (x : Statement) → Stands [] [] task.body o x → IsStatement d x)
      (run : FlatTask → List Work → Doing → Outcome) (calls : ℕ → ℕ) (tasks : List ℕ → ℕ → ℕ) (under : List ℕ) (stated : TasksStated run tasks under) where
    abbrev here_setting : Setting
    here_setting = record { design = d; nets = nets; turns = turns; enabled = run }

    abbrev sizes : Counting
    sizes = record { calls = calls; tasks = tasks; times = times }

    pub here_task : (marks : List ℕ) (below : List Work) (at : Place) (t : ℕ) (ins : List Expr) (outs : List Lvalue) (task : FlatTask) (outputs : List (ℕ × Lvalue)) → slice_get d.tasks t ≡ Some task →
        Here d p marks (Enable at t ins outs) below under → Here d p (task.mark ∷ marks) task.body (Return at task.mark outputs ∷ below) (t ∷ under)
    here_task marks below at t ins outs task outputs is h = record {
      meets = λ o x st. h.meets o x (place.in_task is st);
      opens = opens_more task.mark marks below (Return at task.mark outputs ∷ below) (λ n. refl) h.opens;
      text = [];
      sound = sound_tasks t task is;
      comes = comes;
      tasks = (within d.tasks t task is, fresh, h.tasks);
    }
      where
        before : (u : ℕ) → In u under → Comes d u t
        before u i = h.comes h.text (Enable at t ins outs) t u itself call.enables i

        fresh : In t under → ⊥
        fresh i = let c : Comes d t t = before t i in clean 11 51 _ (Rattle.el_design.specs.Rules.recursive (call.leads_back c.2 c.3))

        comes : (o : List ℕ) (x : Statement) (q u : ℕ) → Stands [] [] task.body o x → Uses d x (TaskOf q) → In u (t ∷ under) → Comes d u q
        comes o x q u st uses (inl e) = subst (λ n. Comes d n q) e (TaskOf q, _, leads (task_body is) (o, st) uses, there)
        comes o x q u st uses (inr i) = let c : Comes d u t = before u i in (c.0, c.1, c.2, led_on c.3 (leads (task_body is) (o, st) uses))

    as_claimed : (chosen : Bool) (on : Expr) (marks : List ℕ) (s : Statement) (below : List Work) (size : ℕ) (x : Doing) (o : Outcome) →
        choices s ≡ s ∷ [] → arm_chosen d (fixed d) s ≡ s → Stated marks s below size x o → Claimed chosen on marks s below size x o
    as_claimed false on marks s below size x o e f h = h
    as_claimed true on marks s below size x o e f h =
        sane_map (λ q y. Leaves d below s q) (λ q y. LeavesArms d below on s q) (Fine d marks s size x) (Fine d marks s size x) (Rests d marks s below) (Rests d marks s below)
        (λ q y l g. record { chosen = s; among = subst (λ l. Contains l s) (sym e) (con_head s []); fixed_choice = λ k. sym f; leaves = l }) (λ y g. g) (λ l y r g. r) o h

    not_waiting : (marks : List ℕ) (s : Statement) (below l : List Work) (y : Doing) → ((at : Place) (falling : Bool) (k : List Work) → l ≡ Do (Wait at falling) ∷ k → ⊥) → Rests d marks s below l y
    not_waiting marks s below l y n at falling k e = absurd (n at falling k e)

    assign_sane : (marks : List ℕ) (below : List Work) (at : Place) (to : Lvalue) (e : Expr) (held : Bool) (x : Doing) →
        Stated marks (Assign at to e held) below (size_of sizes marks (Assign at to e held)) x (Falls (assigning (writes_of d (seen here_setting x) to (value d (seen here_setting x) e)) held x))
    assign_sane marks below at to e true x = (leaves_assign d below at to e true, untouched marks (Assign at to e true) _ x _ refl (omega arith))
    assign_sane marks below at to e false x = (
      leaves_assign d below at to e false,
      touched marks (Assign at to e false) _ x _ (writes_of d (seen here_setting x) to (value d (seen here_setting x) e)) refl (omega arith)
          (writes_in (λ v. Contains (stored_by d (Assign at to e false)) v) d (seen here_setting x) to (value d (seen here_setting x) e) (λ v c. Contains-append_left (target_variables to) [] v c)),
    )

    enable_sane : (marks : List ℕ) (below : List Work) (at : Place) (t : ℕ) (ins : List Expr) (outs : List Lvalue) (x : Doing) → Here d p marks (Enable at t ins outs) below under → IsShaped d x.store →
        (o : Option FlatTask) → slice_get d.tasks t ≡ o → Stated marks (Enable at t ins outs) below (size_of sizes marks (Enable at t ins outs)) x (enabling here_setting at ins outs below x o)
    enable_sane marks below at t ins outs x h s None e =
        absurd (subst (Rattle.el_design.specs.Sound.FitsTask d ins) e (h.sound h.text (Enable at t ins outs) itself).fits)
    enable_sane marks below at t ins outs x h s (Some task) e =
        sane_returned (λ q y. Leaves d (Return at task.mark (zip task.outs outs) ∷ below) task.body q) (λ q y. Leaves d below (Enable at t ins outs) q)
        (Fine d (task.mark ∷ marks) task.body (tasks marks t) entered) (Inside) (Rests d (task.mark ∷ marks) task.body (Return at task.mark (zip task.outs outs) ∷ below)) (Rests d marks (Enable at t ins outs) below)
        out task.mark (run task (Return at task.mark (zip task.outs outs) ∷ below) entered)
        (stated t task e marks (Return at task.mark (zip task.outs outs) ∷ below) (here_task marks below at t ins outs task (zip task.outs outs) e h) entered (shaped_all x.store entering ∙ s))
        (λ y l g. (leaves_enable d below at t ins outs task (zip task.outs outs) e l, left y g))
        (λ n y i l g. leaves_task d below at t n ins outs task (zip task.outs outs) e i l)
        (λ n y i l g. leaves_enabled d below at t n ins outs task (zip task.outs outs) e i l)
        (λ y g. inside y g)
        (λ l y r g a q k i. in_task e (r a q k i))
      where
        entering : List Write
        entering = copied_in d (seen here_setting x) (zip task.ins ins)

        entered : Doing
        entered = writing entering x

        out : Doing → Doing
        out y = writing (copied_out d (seen here_setting y) (zip task.outs outs)) y

        Inside : Doing → Type 0
        Inside = Fine d marks (Enable at t ins outs) (size_of sizes marks (Enable at t ins outs)) x

        formals : formals_in d (Enable at t ins outs) ≡ task.ins
        formals = ap (λ o. unwrap_or (option_map (λ x. x.ins) o) []) e

        enters : WritesIn (λ v. Contains (stored_by d (Enable at t ins outs)) v) entering
        enters = entered_in (λ v. Contains (stored_by d (Enable at t ins outs)) v) d (seen here_setting x) task.ins ins
            (λ v c. Contains-append_left (formals_in d (Enable at t ins outs)) (flat_map target_variables outs) v (subst (λ l. Contains l v) (sym formals) c))

        begun : Kept (FreeIn d marks (Enable at t ins outs)) x entered
        begun = kept_writes (FreeIn d marks (Enable at t ins outs)) (λ v. Contains (stored_by d (Enable at t ins outs)) v) x entered entering refl enters (λ v f c. f marks (Enable at t ins outs) itself c)

        inside : (y : Doing) → Fine d (task.mark ∷ marks) task.body (tasks marks t) entered y → Inside y
        inside y g = fine_part marks (task.mark ∷ marks) (Enable at t ins outs) task.body _ (tasks marks t) x entered y (λ v f o z st. f o z (place.in_task e st)) (omega arith) begun g

        left : (y : Doing) → Fine d (task.mark ∷ marks) task.body (tasks marks t) entered y → Inside (out y)
        left y g = record {
          spent = (let a : y.events ≤ tasks marks t + suc x.events = g.spent in omega arith);
          kept = kept_then (FreeIn d marks (Enable at t ins outs)) (FreeIn d marks (Enable at t ins outs)) (FreeIn d marks (Enable at t ins outs)) x y (out y) (λ v a. a) (λ v a. a) (inside y g).kept
              (kept_writes (FreeIn d marks (Enable at t ins outs)) (λ v. Contains (stored_by d (Enable at t ins outs)) v) y (out y) (copied_out d (seen here_setting y) (zip task.outs outs)) refl
              (left_in (λ v. Contains (stored_by d (Enable at t ins outs)) v) d (seen here_setting y) task.outs outs (λ v c. Contains-append_right (formals_in d (Enable at t ins outs)) (flat_map target_variables outs) v c)) (λ v f c. f marks (Enable at t ins outs) itself c));
        }

    disable_sane : (marks : List ℕ) (below : List Work) (at : Place) (m : ℕ) (x : Doing) (o : Option (List Work)) → below_mark m below ≡ o → Stated marks (Disable at m) below 1 x (disabling m x o)
    disable_sane marks below at m x None e = (leaves_passed d below at m e, untouched marks (Disable at m) 1 x (counted x) refl (omega arith))
    disable_sane marks below at m x (Some k) e = (leaves_disabled d below at m, untouched marks (Disable at m) 1 x (counted x) refl (omega arith))

    host_sane : (marks : List ℕ) (below : List Work) (at : Place) (f : ℕ) (ins : List Expr) (result : Option Lvalue) (outs : List Lvalue) (x : Doing) (rs : List Reply) →
        Stated marks (Host at f ins result outs) below (size_of sizes marks (Host at f ins result outs)) x (awaiting here_setting at f result outs below (asking here_setting f ins x) rs)
    host_sane marks below at f ins result outs x [] =
        (not_waiting marks (Host at f ins result outs) below (Await at f result outs ∷ below) (asking here_setting f ins x) (λ a q k e. cc), untouched marks (Host at f ins result outs) _ x (asking here_setting f ins x) refl (omega arith))
    host_sane marks below at f ins result outs x (r ∷ rs) = (
      leaves_host d below at f ins result outs,
      touched marks (Host at f ins result outs) _ x _ (reply_written d (seen here_setting (asking here_setting f ins x)) r f result outs) refl (omega arith)
          (replied_in (λ v. Contains (stored_by d (Host at f ins result outs)) v) d (seen here_setting (asking here_setting f ins x)) r f result outs (λ v c. c)),
    )

    abbrev whole : List ℕ → Statement → ℕ
    whole marks s = size_of sizes marks s

    for_whole : (marks : List ℕ) (below : List Work) (at : Place) (v : ℕ) (first test next : Expr) (body : Statement) (x : Doing) → Here d p marks (For at v first test next body) below under → IsShaped d x.store →
        ((y : Doing) → IsShaped d y.store → Stated marks body (Step at v test next body ∷ below) (whole marks body) y (go here_setting false body (Step at v test next body ∷ below) y)) →
        Stated marks (For at v first test next body) below (whole marks (For at v first test next body)) x (go here_setting false (For at v first test next body) below x)
    for_whole marks below at v first test next body x h s inner =
        sane_map (ForLeft run marks below at v w first test next body size meets h.opens plain inner 0 begun) (λ q y. Leaves d below (For at v first test next body) q)
        (ForSpent run marks below at v w first test next body size meets h.opens plain inner 0 begun) (Fine d marks (For at v first test next body) (whole marks (For at v first test next body)) x)
        (Rests d marks (For at v first test next body) below) (Rests d marks (For at v first test next body) below)
        leaves_by fine (λ l y r g. r) _
        (for_sane run marks below at v w first test next body size meets h.opens plain inner turns 0 begun (shaped_on _ x begun s (step_kept run marks below at v w first test next body size meets h.opens plain inner first x)) at_first (omega arith) (λ l. omega arith))
      where
        size : ℕ
        size = whole marks body

        begun : Doing
        begun = stepped here_setting v first x

        meets : Meets d p marks (For at v first test next body)
        meets = h.meets marks (For at v first test next body) itself

        fits : (w : ℕ) × IsPlainVariable d v w × (w ≤ Rattle.el_design.specs.Sound.width first) × (w ≤ Rattle.el_design.specs.Sound.width next)
        fits = (h.sound h.text (For at v first test next body) itself).fits

        w : ℕ
        w = fits.0

        plain : IsPlainVariable d v w
        plain = fits.1

        at_first : AtTest run marks below at v w first test next body size meets h.opens plain inner 0 begun
        at_first c = (turn_first here_setting x v w first next s plain c.start_is, λ i k. absurd (omega arith))

        leaves_by : (e : Option ℕ) (y : Doing) → ForLeft run marks below at v w first test next body size meets h.opens plain inner 0 begun e y →
            ForSpent run marks below at v w first test next body size meets h.opens plain inner 0 begun y → Leaves d below (For at v first test next body) e
        leaves_by None y l g = leaves_for d below at v first test next body l.0
            (λ q. let c : IsCounted d v first test next body × ((k : ℕ) → goes_on d v first test next k ≡ true) = endless_turns at v first test next body q in let b : true ≡ false = sym (c.1 l.1.0) ∙ l.1.1 c.0 in cc)
            (λ n t. no_turn n t l.2)
          where
            no_turn : (n : ℕ) → HasTurns d (For at v first test next body) n → Leaves d below body None ⊎ ((IsCounted d v first test next body → goes_on d v first test next 0 ≡ false) × (y.events ≡ suc begun.events)) → (n ≡ 0) ⊎ Leaves d below body None
            no_turn zero t l = inl refl
            no_turn (suc n) t (inl l) = inr l
            no_turn (suc n) t (inr f) = absurd (let q : IsCounted d v first test next body × ((k : ℕ) → k < suc n → goes_on d v first test next k ≡ true) × (goes_on d v first test next (suc n) ≡ false) = for_turns at v (suc n) first test next body t in
                let b : true ≡ false = sym (q.1 0 (omega arith)) ∙ f.0 q.0 in cc)
        leaves_by (Some m) y l g = leaves_for_turn d below at v first test next body m l.1
            (λ t. let q : IsCounted d v first test next body × ((k : ℕ) → k < 0 → goes_on d v first test next k ≡ true) × (goes_on d v first test next 0 ≡ false) = for_turns at v 0 first test next body t in let b : true ≡ false = sym (l.2 q.0) ∙ q.2 in cc) l.0

        fine : (y : Doing) → ForSpent run marks below at v w first test next body size meets h.opens plain inner 0 begun y → Fine d marks (For at v first test next body) (whole marks (For at v first test next body)) x y
        fine y g = record {
          spent = room g.fell;
          kept = kept_then (FreeIn d marks (For at v first test next body)) (FreeIn d marks (For at v first test next body)) (FreeIn d marks (For at v first test next body)) x begun y (λ u a. a) (λ u a. a)
              (step_kept run marks below at v w first test next body size meets h.opens plain inner first x) g.kept;
        }
          where
            own : ℕ
            own = 3 + exprs_size calls (first ∷ test ∷ next ∷ []) + size

            room : (g.more ≤ 1) ⊎ Leaves d below body None → y.events ≤ times marks (For at v first test next body) * own + x.events
            room (inl z) = let a : own ≤ times marks (For at v first test next body) * own = at_least _ own (some_turns marks (For at v first test next body) meets) in
                let b : y.events ≤ g.more * (size + 2) + suc (suc x.events) = g.spent in
                let k : g.more * (size + 2) ≤ 1 * (size + 2) = Rattle.std.proofs.Common.mul-le-mul z (Rattle.std.proofs.Common.le_refl (size + 2)) in
                let e : 1 * (size + 2) ≡ size + 2 = Rattle.std.proofs.Common.one-mul (size + 2) in
                let f : 3 ≤ exprs_size calls (first ∷ test ∷ next ∷ []) = three_sizes calls first test next in omega arith
            room (inr l) = stable y.events (times marks (For at v first test next body) * own + x.events)
                (surely (has_walk marks below body h.opens l) (λ walk. surely (spins_not d clean meets refl walk) (λ k. sure (constant walk k))))
              where
                constant : HasWalk d marks body → IsConstantLoop d (For at v first test next body) → y.events ≤ times marks (For at v first test next body) * own + x.events
                constant walk (inl t) =
                    let q : IsCounted d v first test next body × ((k : ℕ) → k < t.0 → goes_on d v first test next k ≡ true) × (goes_on d v first test next t.0 ≡ false) = for_turns at v t.0 first test next body t.1 in
                    let few : g.more ≤ t.0 = up_to_turns (split g.more t.0) q.0 q.2 in
                    let e : suc t.0 ≤ times marks (For at v first test next body) = counts.unrolled marks (For at v first test next body) t.0 meets (record { turns_are = t.1; body = body; body_is = refl; walk = walk }) in
                    let k : g.more * (size + 2) ≤ t.0 * (size + 2) = Rattle.std.proofs.Common.mul-le-mul few (Rattle.std.proofs.Common.le_refl (size + 2)) in
                    let b : 1 + suc t.0 * (size + 2) ≤ suc t.0 * own = turns_fit t.0 t.0 (size + 2) own (omega arith) (omega arith) in
                    let m : suc t.0 * (size + 2) ≡ t.0 * (size + 2) + (size + 2) = Rattle.std.proofs.Common.suc-mul t.0 (size + 2) in
                    let c : y.events ≤ g.more * (size + 2) + suc (suc x.events) = g.spent in
                    let r : suc t.0 * own ≤ times marks (For at v first test next body) * own = Rattle.std.proofs.Common.mul-le-mul e (Rattle.std.proofs.Common.le_refl own) in omega arith
                  where
                    up_to_turns : (g.more ≤ t.0) ⊎ (t.0 < g.more) → IsCounted d v first test next body → goes_on d v first test next t.0 ≡ false → g.more ≤ t.0
                    up_to_turns (inl h) c f = h
                    up_to_turns (inr h) c f = absurd (let b : true ≡ false = sym (g.held c t.0 (omega arith)) ∙ f in cc)
                constant walk (inr t) = absurd (no_end d clean meets refl t walk)

    repeat_whole : (marks : List ℕ) (below : List Work) (at : Place) (count : Expr) (body : Statement) (x : Doing) → Here d p marks (Repeat at count body) below under → IsShaped d x.store →
        ((n : ℕ) (y : Doing) → IsShaped d y.store → Stated marks body (Turns at n body ∷ below) (whole marks body) y (go here_setting false body (Turns at n body ∷ below) y)) →
        Stated marks (Repeat at count body) below (whole marks (Repeat at count body)) x (go here_setting false (Repeat at count body) below x)
    repeat_whole marks below at count body x h s inner =
        sane_map (RepeatLeft run marks below at count body size inner so_many) (λ q y. Leaves d below (Repeat at count body) q)
        (RepeatSpent run marks below at count body size inner so_many (counted x)) (Fine d marks (Repeat at count body) (whole marks (Repeat at count body)) x)
        (Rests d marks (Repeat at count body) below) (Rests d marks (Repeat at count body) below)
        leaves_by fine (λ l y r g. r) _
        (repeat_sane run marks below at count body size inner so_many (counted x) s (λ n t. let e : n ≡ so_many = turns_are n t in omega arith))
      where
        size : ℕ
        size = whole marks body

        so_many : ℕ
        so_many = count_of d (seen here_setting x) count

        meets : Meets d p marks (Repeat at count body)
        meets = h.meets marks (Repeat at count body) itself

        turns_are : (n : ℕ) → HasTurns d (Repeat at count body) n → n ≡ so_many
        turns_are n t = let q : (is_constant count ≡ true) × (n ≡ count_of d (fixed d) count) = repeat_turns at n count body t in q.1 ∙ sym (counted_turns here_setting x count q.0)

        leaves_by : (e : Option ℕ) (y : Doing) → RepeatLeft run marks below at count body size inner so_many e y → RepeatSpent run marks below at count body size inner so_many (counted x) y → Leaves d below (Repeat at count body) e
        leaves_by None y (inl z) g = leaves_repeat d below at count body (λ n t. inl (turns_are n t ∙ z))
        leaves_by None y (inr l) g = leaves_repeat d below at count body (λ n t. inr l)
        leaves_by (Some m) y l g = leaves_repeat_turn d below at count body m (λ t. let e : 0 ≡ so_many = turns_are 0 t in let k : 1 ≤ so_many = l.1 in omega arith) l.0

        fine : (y : Doing) → RepeatSpent run marks below at count body size inner so_many (counted x) y → Fine d marks (Repeat at count body) (whole marks (Repeat at count body)) x y
        fine y g = record { spent = room g.near; kept = record { words = g.kept.words; shape = g.kept.shape } }
          where
            own : ℕ
            own = 2 + expr_size calls count + size

            room : Leaves d below body None ⊎ (y.events ≤ size + suc x.events) → y.events ≤ times marks (Repeat at count body) * own + x.events
            room (inr b) = let a : own ≤ times marks (Repeat at count body) * own = at_least _ own (some_turns marks (Repeat at count body) meets) in omega arith
            room (inl l) = stable y.events (times marks (Repeat at count body) * own + x.events)
                (surely (has_walk marks below body h.opens l) (λ walk. surely (spins_not d clean meets refl walk) (λ k. sure (constant walk k))))
              where
                constant : HasWalk d marks body → IsConstantLoop d (Repeat at count body) → y.events ≤ times marks (Repeat at count body) * own + x.events
                constant walk (inl t) =
                    let e : suc t.0 ≤ times marks (Repeat at count body) = counts.unrolled marks (Repeat at count body) t.0 meets (record { turns_are = t.1; body = body; body_is = refl; walk = walk }) in
                    let n : t.0 ≡ so_many = turns_are t.0 t.1 in
                    let b : 1 + suc t.0 * (size + 1) ≤ suc t.0 * own = turns_fit t.0 t.0 (size + 1) own (omega arith) (omega arith) in
                    let m : suc t.0 * (size + 1) ≡ t.0 * (size + 1) + (size + 1) = Rattle.std.proofs.Common.suc-mul t.0 (size + 1) in
                    let c : y.events ≤ t.0 * (size + 1) + suc x.events = subst (λ n. y.events ≤ n * (size + 1) + suc x.events) (sym n) g.spent in
                    let r : suc t.0 * own ≤ times marks (Repeat at count body) * own = Rattle.std.proofs.Common.mul-le-mul e (Rattle.std.proofs.Common.le_refl own) in omega arith
                constant walk (inr t) = absurd (repeat_ends at count body t)

    while_whole : (marks : List ℕ) (below : List Work) (at : Place) (test : Expr) (body : Statement) (x : Doing) → Here d p marks (While at test body) below under → IsShaped d x.store →
        ((y : Doing) → IsShaped d y.store → Stated marks body (Do (While at test body) ∷ below) (whole marks body) y (go here_setting false body (Do (While at test body) ∷ below) y)) →
        Stated marks (While at test body) below (whole marks (While at test body)) x (go here_setting false (While at test body) below x)
    while_whole marks below at test body x h s inner =
        sane_map (λ q y. Leaves d below (While at test body) q) (λ q y. Leaves d below (While at test body) q) (Fine d marks (While at test body) (1 + size) x) (Fine d marks (While at test body) (whole marks (While at test body)) x)
        (Rests d marks (While at test body) below) (Rests d marks (While at test body) below) (λ q y l g. l) (λ y g. record { spent = room y g.spent; kept = g.kept }) (λ l y r g. r) _
        (while_sane run marks below at test body size (h.meets marks (While at test body) itself) h.opens inner turns x s (omega arith))
      where
        size : ℕ
        size = whole marks body

        room : (y : Doing) → y.events ≤ 1 + size + x.events → y.events ≤ times marks (While at test body) * (1 + expr_size calls test + size) + x.events
        room y b = let a : 1 + expr_size calls test + size ≤ times marks (While at test body) * (1 + expr_size calls test + size) = at_least _ _ (some_turns marks (While at test body) (h.meets marks (While at test body) itself)) in omega arith

    -- a `forever` whose body has no such walk
    pub forever_whole : (marks : List ℕ) (below : List Work) (at : Place) (body : Statement) (x : Doing) → (Leaves d below body None → ⊥) →
        Stated marks body (Do (Forever at body) ∷ below) (whole marks body) x (go here_setting false body (Do (Forever at body) ∷ below) x) →
        Stated marks (Forever at body) below (whole marks (Forever at body)) x (go here_setting false (Forever at body) below x)
    forever_whole marks below at body x never inner =
        sane_then (λ q z. Leaves d (Do (Forever at body) ∷ below) body q) (λ q z. Leaves d below (Forever at body) q) (Fine d marks body (whole marks body) x) (Fine d marks (Forever at body) (whole marks (Forever at body)) x)
        (Rests d marks body (Do (Forever at body) ∷ below)) (Rests d marks (Forever at body) below)
        (go here_setting false body (Do (Forever at body) ∷ below) x) (λ y. Lost) inner
        (λ z l g. absurd (never l))
        (λ m z l g. leaves_forever d below at body m l)
        (λ z g. fine_part marks marks (Forever at body) body _ (whole marks body) x x z (λ v f o x st. f o x (place.in_forever st)) (omega arith) (kept_store _ x x refl) g)
        (λ l z r g a q k i. in_forever (r a q k i))

    if_sane : (marks : List ℕ) (below : List Work) (at : Place) (test : Expr) (a b : Statement) (x : Doing) (way : Bool) → is_tested here_setting test x ≡ way →
        Stated marks a below (whole marks a) (counted x) (go here_setting false a below (counted x)) → Stated marks b below (whole marks b) (counted x) (go here_setting false b below (counted x)) →
        Stated marks (If at test a b) below (whole marks (If at test a b)) x (if way then go here_setting false a below (counted x) else go here_setting false b below (counted x))
    if_sane marks below at test a b x true e u v =
        sane_map (λ q z. Leaves d below a q) (λ q z. Leaves d below (If at test a b) q) (Fine d marks a (whole marks a) (counted x)) (Fine d marks (If at test a b) (whole marks (If at test a b)) x) (Rests d marks a below) (Rests d marks (If at test a b) below)
        (λ q z l g. leaves_then d below at test a b q (tested_way here_setting x test true e) l)
        (λ z g. fine_part marks marks (If at test a b) a _ (whole marks a) x (counted x) z (λ v f o x st. f o x (place.in_then st)) (omega arith) (kept_store _ x (counted x) refl) g)
        (λ l z r g c q k i. in_then (r c q k i)) _ u
    if_sane marks below at test a b x false e u v =
        sane_map (λ q z. Leaves d below b q) (λ q z. Leaves d below (If at test a b) q) (Fine d marks b (whole marks b) (counted x)) (Fine d marks (If at test a b) (whole marks (If at test a b)) x) (Rests d marks b below) (Rests d marks (If at test a b) below)
        (λ q z l g. leaves_else d below at test a b q (tested_way here_setting x test false e) l)
        (λ z g. fine_part marks marks (If at test a b) b _ (whole marks b) x (counted x) z (λ v f o x st. f o x (place.in_else st)) (omega arith) (kept_store _ x (counted x) refl) g)
        (λ l z r g c q k i. in_else (r c q k i)) _ v

    arm_sane : (on by : Expr) (labels : List Expr) (body others : Statement) (marks : List ℕ) (below : List Work) (x : Doing) → by ≡ on → (way : Bool) → has_label d (seen here_setting x) by labels ≡ way →
        Stated marks body below (whole marks body) x (go here_setting false body below x) → Armed on marks others below (whole marks others) x (go here_setting true others below x) →
        Armed on marks (Arm by labels body others) below (whole marks (Arm by labels body others)) x (if way then go here_setting false body below x else go here_setting true others below x)
    arm_sane on by labels body others marks below x e true f u v =
        sane_map (λ q z. Leaves d below body q) (λ q z. LeavesArms d below on (Arm by labels body others) q) (Fine d marks body (whole marks body) x) (Fine d marks (Arm by labels body others) (whole marks (Arm by labels body others)) x)
        (Rests d marks body below) (Rests d marks (Arm by labels body others) below)
        (λ q z l g. record {
          chosen = body;
          among = con_head body (choices others);
          fixed_choice = λ k. sym (ap (λ b. if b then body else arm_chosen d (fixed d) others) (label_way d (seen here_setting x) refl on by labels body others true e f k).0);
          leaves = l;
        })
        (λ z g. fine_part marks marks (Arm by labels body others) body _ (whole marks body) x x z (λ v f o x st. f o x (place.in_arm st)) (omega arith) (kept_store _ x x refl) g)
        (λ l z r g c q k i. in_arm (r c q k i)) _ u
    arm_sane on by labels body others marks below x e false f u v =
        sane_map (λ q z. LeavesArms d below on others q) (λ q z. LeavesArms d below on (Arm by labels body others) q) (Fine d marks others (whole marks others) x) (Fine d marks (Arm by labels body others) (whole marks (Arm by labels body others)) x)
        (Rests d marks others below) (Rests d marks (Arm by labels body others) below)
        (λ q z l g. record {
          chosen = l.chosen;
          among = con_tail body l.chosen (choices others) l.among;
          fixed_choice = λ k. let w : (has_label d (fixed d) by labels ≡ false) × (is_constant_case on others ≡ true) = label_way d (seen here_setting x) refl on by labels body others false e f k in
              l.fixed_choice w.1 ∙ sym (ap (λ b. if b then body else arm_chosen d (fixed d) others) w.0);
          leaves = l.leaves;
        })
        (λ z g. fine_part marks marks (Arm by labels body others) others _ (whole marks others) x x z (λ v f o x st. f o x (place.in_others st)) (omega arith) (kept_store _ x x refl) g)
        (λ l z r g c q k i. in_others (r c q k i)) _ v

    no_arms : (on : Expr) (s : Statement) → false ≡ true → ChooseBy on s
    no_arms on s e = absurd (let f : false ≡ true = e in cc)

    pub sane : (chosen : Bool) (on : Expr) (s : Statement) (marks : List ℕ) (below : List Work) → Here d p marks s below under → (chosen ≡ true → ChooseBy on s) → (x : Doing) → IsShaped d x.store →
        Claimed chosen on marks s below (whole marks s) x (go here_setting chosen s below x)
    sane chosen on Null marks below h c x sh = as_claimed chosen on marks Null below 1 x (Falls x) refl refl (leaves_null d below, untouched marks Null 1 x x refl (omega arith))
    sane chosen on Skip marks below h c x sh = as_claimed chosen on marks Skip below 0 x (Falls x) refl refl (leaves_skip d below, untouched marks Skip 0 x x refl (omega arith))
    sane chosen on (Seq a b) marks below h c x sh = as_claimed chosen on marks (Seq a b) below (whole marks (Seq a b)) x (go here_setting chosen (Seq a b) below x) refl refl
        (sane_then (λ q z. Leaves d (Do b ∷ below) a q) (λ q z. Leaves d below (Seq a b) q) (Fine d marks a (whole marks a) x) (Fine d marks (Seq a b) (whole marks (Seq a b)) x) (Rests d marks a (Do b ∷ below)) (Rests d marks (Seq a b) below)
        (go here_setting false a (Do b ∷ below) x) (go here_setting false b below)
        (sane false on a marks (Do b ∷ below) (here_part (λ tasks m o x st. place.in_first st) (λ m e. e) h) (no_arms on a) x sh)
        (λ y l g. sane_map (λ q z. Leaves d below b q) (λ q z. Leaves d below (Seq a b) q) (Fine d marks b (whole marks b) y) (Fine d marks (Seq a b) (whole marks (Seq a b)) x) (Rests d marks b below) (Rests d marks (Seq a b) below)
        (λ q z k f. leaves_seq d below a b q l k)
        (λ z f. fine_part marks marks (Seq a b) b _ (whole marks b) x y z (λ v f o x st. f o x (place.in_rest st)) (let n : y.events ≤ whole marks a + x.events = g.spent in omega arith)
        (kept_then (FreeIn d marks (Seq a b)) (FreeIn d marks (Seq a b)) (FreeIn d marks a) x x y (λ v f. f) (λ v f o x st. f o x (place.in_first st)) (kept_store _ x x refl) g.kept) f)
        (λ l z r f at q k i. in_rest (r at q k i)) (go here_setting false b below y)
        (sane false on b marks below (here_part (λ tasks m o x st. place.in_rest st) (λ m e. e) h) (no_arms on b) y (shaped_on _ x y sh g.kept)))
        (λ m y l g. leaves_first d below a b m l)
        (λ y g. fine_part marks marks (Seq a b) a _ (whole marks a) x x y (λ v f o x st. f o x (place.in_first st)) (omega arith) (kept_store _ x x refl) g)
        (λ l y r g at q k i. in_first (r at q k i)))
    sane chosen on (Block at None body) marks below h c x sh = as_claimed chosen on marks (Block at None body) below (whole marks (Block at None body)) x (go here_setting chosen (Block at None body) below x) refl refl
        (sane_map (λ q z. Leaves d below body q) (λ q z. Leaves d below (Block at None body) q) (Fine d marks body (whole marks body) x) (Fine d marks (Block at None body) (whole marks (Block at None body)) x) (Rests d marks body below) (Rests d marks (Block at None body) below)
        (λ q z l g. leaves_block d below at body q l)
        (λ z g. fine_part marks marks (Block at None body) body _ (whole marks body) x x z (λ v f o x st. f o x (place.in_block st)) (omega arith) (kept_store _ x x refl) g)
        (λ l z r g a q k i. in_block (r a q k i)) (go here_setting false body below x)
        (sane false on body marks below (here_part (λ tasks m o x st. place.in_block st) (λ m e. e) h) (no_arms on body) x sh))
    sane chosen on (Block at (Some m) body) marks below h c x sh = as_claimed chosen on marks (Block at (Some m) body) below (whole marks (Block at (Some m) body)) x (go here_setting chosen (Block at (Some m) body) below x) refl refl
        (sane_closed (λ q z. Leaves d (End m ∷ below) body q) (λ q z. Leaves d below (Block at (Some m) body) q) (Fine d (m ∷ marks) body (whole (m ∷ marks) body) x) (Fine d marks (Block at (Some m) body) (whole marks (Block at (Some m) body)) x)
        (Rests d (m ∷ marks) body (End m ∷ below)) (Rests d marks (Block at (Some m) body) below) m (go here_setting false body (End m ∷ below) x)
        (sane false on body (m ∷ marks) (End m ∷ below) (here_named h) (no_arms on body) x sh)
        (λ y l g. leaves_named d below at m body l)
        (λ n y e l g. leaves_ended d below at m n body e l)
        (λ n y e l g. leaves_through d below at m n body e l)
        (λ z g. fine_part marks (m ∷ marks) (Block at (Some m) body) body _ (whole (m ∷ marks) body) x x z (λ v f o x st. f o x (place.in_named st)) (omega arith) (kept_store _ x x refl) g)
        (λ l z r g a q k i. in_named (r a q k i)))
    sane chosen on (Assign at to e held) marks below h c x sh = as_claimed chosen on marks (Assign at to e held) below (whole marks (Assign at to e held)) x (go here_setting chosen (Assign at to e held) below x) refl refl (assign_sane marks below at to e held x)
    sane chosen on (If at test a b) marks below h c x sh = as_claimed chosen on marks (If at test a b) below (whole marks (If at test a b)) x (go here_setting chosen (If at test a b) below x) refl refl
        (if_sane marks below at test a b x (is_tested here_setting test x) refl
        (sane false on a marks below (here_part (λ tasks m o x st. place.in_then st) (λ m e. e) h) (no_arms on a) (counted x) sh)
        (sane false on b marks below (here_part (λ tasks m o x st. place.in_else st) (λ m e. e) h) (no_arms on b) (counted x) sh))
    sane chosen on (Case at by arms) marks below h c x sh = as_claimed chosen on marks (Case at by arms) below (whole marks (Case at by arms)) x (go here_setting chosen (Case at by arms) below x) refl refl
        (sane_map (λ q z. LeavesArms d below by arms q) (λ q z. Leaves d below (Case at by arms) q) (Fine d marks arms (whole marks arms) (counted x)) (Fine d marks (Case at by arms) (whole marks (Case at by arms)) x) (Rests d marks arms below) (Rests d marks (Case at by arms) below)
        (λ q z l g. leaves_case d below at by arms q l)
        (λ z g. fine_part marks marks (Case at by arms) arms _ (whole marks arms) x (counted x) z (λ v f o x st. f o x (place.in_case st)) (omega arith) (kept_store _ x (counted x) refl) g)
        (λ l z r g a q k i. in_case (r a q k i)) (go here_setting true arms below (counted x))
        (sane true by arms marks below (here_part (λ tasks m o x st. place.in_case st) (λ m e. e) h) (λ e. (h.sound h.text (Case at by arms) itself).fits.1) (counted x) sh))
    sane true on (Arm by labels body others) marks below h c x sh =
        arm_sane on by labels body others marks below x (c refl).0 (has_label d (seen here_setting x) by labels) refl
        (sane false on body marks below (here_part (λ tasks m o x st. place.in_arm st) (λ m e. e) h) (no_arms on body) x sh)
        (sane true on others marks below (here_part (λ tasks m o x st. place.in_others st) (λ m e. e) h) (λ e. (c refl).1) x sh)
    sane false on (Arm by labels body others) marks below h c x sh =
        (not_waiting marks (Arm by labels body others) below (Do (Arm by labels body others) ∷ below) x (λ a q k e. cc), untouched marks (Arm by labels body others) _ x x refl (omega arith))
    sane chosen on (For at v first test next body) marks below h c x sh = as_claimed chosen on marks (For at v first test next body) below (whole marks (For at v first test next body)) x (go here_setting chosen (For at v first test next body) below x) refl refl
        (for_whole marks below at v first test next body x h sh (λ y. sane false on body marks (Step at v test next body ∷ below) (here_part (λ tasks m o x st. place.in_for st) (λ m e. e) h) (no_arms on body) y))
    sane chosen on (While at test body) marks below h c x sh = as_claimed chosen on marks (While at test body) below (whole marks (While at test body)) x (go here_setting chosen (While at test body) below x) refl refl
        (while_whole marks below at test body x h sh (λ y. sane false on body marks (Do (While at test body) ∷ below) (here_part (λ tasks m o x st. place.in_while st) (λ m e. e) h) (no_arms on body) y))
    sane chosen on (Repeat at count body) marks below h c x sh = as_claimed chosen on marks (Repeat at count body) below (whole marks (Repeat at count body)) x (go here_setting chosen (Repeat at count body) below x) refl refl
        (repeat_whole marks below at count body x h sh (λ n y. sane false on body marks (Turns at n body ∷ below) (here_part (λ tasks m o x st. place.in_repeat st) (λ m e. e) h) (no_arms on body) y))
    sane chosen on (Forever at body) marks below h c x sh = as_claimed chosen on marks (Forever at body) below (whole marks (Forever at body)) x (go here_setting chosen (Forever at body) below x) refl refl
        (forever_whole marks below at body x (λ l. has_walk marks below body h.opens l (λ walk. spins_not d clean (h.meets marks (Forever at body) itself) refl walk (forever_ends at body)))
        (sane false on body marks (Do (Forever at body) ∷ below) (here_part (λ tasks m o x st. place.in_forever st) (λ m e. e) h) (no_arms on body) x sh))
    sane chosen on (Wait at falling) marks below h c x sh = as_claimed chosen on marks (Wait at falling) below 1 x (Stops (Do (Wait at falling) ∷ below) x) refl refl
        (λ a q k e. waits a q k e, untouched marks (Wait at falling) 1 x x refl (omega arith))
      where
        tails : (v w : Work) (j k : List Work) → v ∷ j ≡ w ∷ k → j ≡ k
        tails v w j k e = cc

        waits : (a : Place) (q : Bool) (k : List Work) → Do (Wait at falling) ∷ below ≡ Do (Wait a q) ∷ k → Paused d x.store marks (Wait at falling) below k
        waits a q k e = subst (λ k. Paused d x.store marks (Wait at falling) below k) (tails _ _ below k e) at_wait
    sane chosen on (Enable at t ins outs) marks below h c x sh = as_claimed chosen on marks (Enable at t ins outs) below (whole marks (Enable at t ins outs)) x (go here_setting chosen (Enable at t ins outs) below x) refl refl
        (enable_sane marks below at t ins outs x h sh (slice_get d.tasks t) refl)
    sane chosen on (Disable at m) marks below h c x sh = as_claimed chosen on marks (Disable at m) below 1 x (go here_setting chosen (Disable at m) below x) refl refl (disable_sane marks below at m x (below_mark m below) refl)
    sane chosen on (Host at f ins result outs) marks below h c x sh = as_claimed chosen on marks (Host at f ins result outs) below (whole marks (Host at f ins result outs)) x (go here_setting chosen (Host at f ins result outs) below x) refl refl
        (host_sane marks below at f ins result outs x x.replies)
