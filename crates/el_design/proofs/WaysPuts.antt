-- What a statement may store to by its ways is what stands in it in place; and which loops are counted.
use Rattle.std.proofs.Common.{◌≡◌, ◌⊎◌, inl, inr, ℕ, zero, suc, ◌==◌, ◌&&◌, ◌||◌, not, Bool, true, false, List, [], ◌∷◌, Option, Some, None, Contains, slice_get, length, refl, sym, ◌∙◌, ap, subst, T, eqb→eq, eq-eqb}
use Rattle.el_design.specs.Plain.{Expr, Lvalue, Statement, Null, Skip, Seq, Block, Assign, If, Case, Arm, For, While, Repeat, Forever, Wait, Enable, Disable, Host, FlatTask, Flat}
use Rattle.xt_base.specs.declared.refusals.Place.{Place}
use Rattle.el_design.specs.Assign.{count_of}
use Rattle.el_design.specs.Names.{is_constant}
use Rattle.el_design.specs.Purity.{contains_number}
use Rattle.el_design.specs.InPlace.{Stands, itself, in_first, in_rest, in_block, in_named, in_then, in_else, in_case, in_arm, in_others, in_for, in_while, in_repeat, in_forever, in_task}
use Rattle.el_design.specs.Turns.{fixed, stored_by, is_test_of, is_step_of, goes_on, IsCounted}
use Rattle.el_design.specs.Walk.{is_constant_case}
use Rattle.el_design.specs.Rules.{IsCleanBefore}
use Rattle.el_design.proofs.Texts.{free_met, free_of}
use Rattle.el_design.proofs.OrderLists.{con_head, con_tail, con_nil, con_cases}
use Rattle.el_design.proofs.Ways.{Puts, Ways, enabling, repeating, fors, may, Mode, Lone, mode_of, ways, body_ways, task_ways, all_ways, at_enable}

-- ---- truth values

pub one_of : (a b : Bool) → (a || b) ≡ true → (a ≡ true) ⊎ (b ≡ true)
one_of true b e = inl refl
one_of false b e = inr e

pub first_of : (a b : Bool) → a ≡ true → (a || b) ≡ true
first_of true b e = refl
first_of false b e = cc

pub second_of : (a b : Bool) → b ≡ true → (a || b) ≡ true
second_of true b e = refl
second_of false b e = e

pub left_of : (a b : Bool) → (a && b) ≡ true → a ≡ true
left_of true b e = refl
left_of false b e = cc

pub right_of : (a b : Bool) → (a && b) ≡ true → b ≡ true
right_of true b e = e
right_of false b e = cc

pub both_are : (a b : Bool) → a ≡ true → b ≡ true → (a && b) ≡ true
both_are true b e f = f
both_are false b e f = cc

pub not_so : (a : Bool) → not a ≡ true → a ≡ false
not_so true e = cc
not_so false e = refl

pub so_not : (a : Bool) → a ≡ false → not a ≡ true
so_not true e = cc
so_not false e = refl

pub true_or_false : (a : Bool) → (a ≡ true) ⊎ (a ≡ false)
true_or_false true = inl refl
true_or_false false = inr refl

pub clash : {X : Type 0} (a : Bool) → a ≡ true → a ≡ false → X
clash true e f = cc
clash false e f = cc

-- ---- numbers in lists

pub has_con : (xs : List ℕ) (v : ℕ) → Contains xs v → contains_number xs v ≡ true
has_con [] v c = absurd (con_nil v c)
has_con (x ∷ xs) v c = go (con_cases x v xs c) (has_con xs v)
  where
    go : (x ≡ v) ⊎ Contains xs v → (Contains xs v → contains_number xs v ≡ true) → ((x == v) || contains_number xs v) ≡ true
    go (inl e) more = first_of (x == v) (contains_number xs v) (eq-eqb x v e)
    go (inr k) more = second_of (x == v) (contains_number xs v) (more k)

pub con_has : (xs : List ℕ) (v : ℕ) → contains_number xs v ≡ true → Contains xs v
con_has [] v e = cc
con_has (x ∷ xs) v e = go (one_of (x == v) (contains_number xs v) e) (con_has xs v)
  where
    go : ((x == v) ≡ true) ⊎ (contains_number xs v ≡ true) → (contains_number xs v ≡ true → Contains xs v) → Contains (x ∷ xs) v
    go (inl h) more = subst (λ y. Contains (x ∷ xs) y) (eqb→eq x v (subst T (sym h) tt)) (con_head x xs)
    go (inr h) more = con_tail x v xs (more h)

-- ---- stores

module _ (d : Flat) (counted : ℕ → Expr → Expr → Expr → Statement → Bool) (v : ℕ) where
  repeat_puts : (b : Bool) (n : ℕ) (a : Ways) → repeating b n a (Puts v) ≡ a (Puts v)
  repeat_puts true n a = refl
  repeat_puts false n a = refl

  for_puts : (own : List ℕ) (b p q r : Bool) (a : Ways) → fors own b p q r a (Puts v) ≡ (contains_number own v || a (Puts v))
  for_puts own true p q r a = refl
  for_puts own false p q r a = refl

  -- nothing in it stores to the variable
  abbrev Leaves : List ℕ → Statement → Type 0
  Leaves marks s = (o : List ℕ) (x : Statement) → Stands d.tasks marks s o x → Contains (stored_by d x) v → ⊥

  abbrev TasksLeave : (ℕ → List ℕ → Ways) → Type 0
  TasksLeave c = (t : ℕ) (task : FlatTask) (marks : List ℕ) → slice_get d.tasks t ≡ Some task → c t marks (Puts v) ≡ true → Leaves (task.mark ∷ marks) task.body → ⊥

  module _ (c : ℕ → List ℕ → Ways) (ok : TasksLeave c) where
    own : (marks : List ℕ) (s : Statement) → contains_number (stored_by d s) v ≡ true → Leaves marks s → ⊥
    own marks s e l = l marks s itself (con_has (stored_by d s) v e)

    two : (marks : List ℕ) (a b : Bool) → (a || b) ≡ true → (a ≡ true → ⊥) → (b ≡ true → ⊥) → ⊥
    two marks a b e f g = go (one_of a b e)
      where
        go : (a ≡ true) ⊎ (b ≡ true) → ⊥
        go (inl h) = f h
        go (inr h) = g h

    enable_puts : (marks : List ℕ) (at : Place) (t : ℕ) (ins : List Expr) (outs : List Lvalue) (o : Option FlatTask) → slice_get d.tasks t ≡ o →
        enabling (stored_by d (Enable at t ins outs)) o (c t marks) (Puts v) ≡ true → Leaves marks (Enable at t ins outs) → ⊥
    enable_puts marks at t ins outs None i e l = two marks (contains_number (stored_by d (Enable at t ins outs)) v) false e (λ h. own marks (Enable at t ins outs) h l) (λ h. cc)
    enable_puts marks at t ins outs (Some task) i e l =
        two marks (contains_number (stored_by d (Enable at t ins outs)) v) (c t marks (Puts v)) e (λ h. own marks (Enable at t ins outs) h l) (λ h. ok t task marks i h (λ o x st. l o x (in_task i st)))

    puts : (mode : Mode) (marks : List ℕ) (s : Statement) → ways d counted c mode marks s (Puts v) ≡ true → Leaves marks s → ⊥
    puts mode marks Null e l = cc
    puts mode marks Skip e l = cc
    puts mode marks (Seq a b) e l = two marks _ _ e (λ h. puts Lone marks a h (λ o x st. l o x (in_first st))) (λ h. puts Lone marks b h (λ o x st. l o x (in_rest st)))
    puts mode marks (Block at None body) e l = puts Lone marks body e (λ o x st. l o x (in_block st))
    puts mode marks (Block at (Some m) body) e l = puts Lone (m ∷ marks) body e (λ o x st. l o x (in_named st))
    puts mode marks (Assign at to x held) e l = own marks (Assign at to x held) e l
    puts mode marks (If at test a b) e l = two marks _ _ e (λ h. puts Lone marks a h (λ o x st. l o x (in_then st))) (λ h. puts Lone marks b h (λ o x st. l o x (in_else st)))
    puts mode marks (Case at on arms) e l = puts (mode_of (is_constant_case on arms)) marks arms e (λ o x st. l o x (in_case st))
    puts mode marks (Arm on labels body others) e l = two marks _ _ e (λ h. puts Lone marks body h (λ o x st. l o x (in_arm st))) (λ h. puts mode marks others h (λ o x st. l o x (in_others st)))
    puts mode marks (For at u first test next body) e l =
        two marks _ _ (sym (for_puts (stored_by d (For at u first test next body)) (counted u first test next body) (goes_on d u first test next 0) (may d test false) (may d test true) (ways d counted c Lone marks body)) ∙ e)
        (λ h. own marks (For at u first test next body) h l) (λ h. puts Lone marks body h (λ o x st. l o x (in_for st)))
    puts mode marks (While at test body) e l = puts Lone marks body e (λ o x st. l o x (in_while st))
    puts mode marks (Repeat at count body) e l =
        puts Lone marks body (sym (repeat_puts (is_constant count) (count_of d (fixed d) count) (ways d counted c Lone marks body)) ∙ e) (λ o x st. l o x (in_repeat st))
    puts mode marks (Forever at body) e l = puts Lone marks body e (λ o x st. l o x (in_forever st))
    puts mode marks (Wait at falling) e l = cc
    puts mode marks (Enable at t ins outs) e l = enable_puts marks at t ins outs (slice_get d.tasks t) refl e l
    puts mode marks (Disable at m) e l = cc
    puts mode marks (Host at f ins result outs) e l = own marks (Host at f ins result outs) e l

  tasks_leave : (n : ℕ) → TasksLeave (task_ways d counted n)
  tasks_leave zero t task marks i e l = cc
  tasks_leave (suc n) t task marks i e l =
      puts (task_ways d counted n) (tasks_leave n) Lone (task.mark ∷ marks) task.body (sym (ap (λ o. body_ways d counted (task_ways d counted n) o marks (Puts v)) i) ∙ e) l

  module _ (clean : IsCleanBefore d 13) where
    abbrev all_of : Mode → List ℕ → Statement → Ways
    all_of = all_ways d counted clean

    pub puts_there : (marks : List ℕ) (s : Statement) → all_of Lone marks s (Puts v) ≡ true → Leaves marks s → ⊥
    puts_there marks s e l = puts (task_ways d counted (length d.tasks)) (tasks_leave (length d.tasks)) Lone marks s e l

    own_puts : (mode : Mode) (marks : List ℕ) (s : Statement) → Contains (stored_by d s) v → all_of mode marks s (Puts v) ≡ true
    own_puts mode marks (Assign at to x held) h = has_con (stored_by d (Assign at to x held)) v h
    own_puts mode marks (For at u first test next body) h =
        for_puts (stored_by d (For at u first test next body)) (counted u first test next body) (goes_on d u first test next 0) (may d test false) (may d test true) (all_of Lone marks body)
        ∙ first_of _ _ (has_con (stored_by d (For at u first test next body)) v h)
    own_puts mode marks (Enable at t ins outs) h = go (slice_get d.tasks t)
      where
        go : (o : Option FlatTask) → enabling (stored_by d (Enable at t ins outs)) o (task_ways d counted (length d.tasks) t marks) (Puts v) ≡ true
        go None = first_of _ _ (has_con (stored_by d (Enable at t ins outs)) v h)
        go (Some task) = first_of _ _ (has_con (stored_by d (Enable at t ins outs)) v h)
    own_puts mode marks (Host at f ins result outs) h = has_con (stored_by d (Host at f ins result outs)) v h
    own_puts mode marks Null h = absurd (con_nil v h)
    own_puts mode marks Skip h = absurd (con_nil v h)
    own_puts mode marks (Seq a b) h = absurd (con_nil v h)
    own_puts mode marks (Block at m body) h = absurd (con_nil v h)
    own_puts mode marks (If at test a b) h = absurd (con_nil v h)
    own_puts mode marks (Case at on arms) h = absurd (con_nil v h)
    own_puts mode marks (Arm on labels body others) h = absurd (con_nil v h)
    own_puts mode marks (While at test body) h = absurd (con_nil v h)
    own_puts mode marks (Repeat at count body) h = absurd (con_nil v h)
    own_puts mode marks (Forever at body) h = absurd (con_nil v h)
    own_puts mode marks (Wait at falling) h = absurd (con_nil v h)
    own_puts mode marks (Disable at m) h = absurd (con_nil v h)

    pub there_puts : {round o : List ℕ} {s x : Statement} → Stands d.tasks round s o x → Contains (stored_by d x) v → (mode : Mode) (marks : List ℕ) → all_of mode marks s (Puts v) ≡ true
    there_puts {s = s} itself h mode marks = own_puts mode marks s h
    there_puts (in_first st) h mode marks = first_of _ _ (there_puts st h Lone marks)
    there_puts (in_rest st) h mode marks = second_of _ _ (there_puts st h Lone marks)
    there_puts (in_block st) h mode marks = there_puts st h Lone marks
    there_puts (in_named {m = m} st) h mode marks = there_puts st h Lone (m ∷ marks)
    there_puts (in_then st) h mode marks = first_of _ _ (there_puts st h Lone marks)
    there_puts (in_else st) h mode marks = second_of _ _ (there_puts st h Lone marks)
    there_puts (in_case {e = e} {arms = arms} st) h mode marks = there_puts st h (mode_of (is_constant_case e arms)) marks
    there_puts (in_arm st) h mode marks = first_of _ _ (there_puts st h Lone marks)
    there_puts (in_others st) h mode marks = second_of _ _ (there_puts st h mode marks)
    there_puts (in_for {at = at} {v = u} {a = first} {b = test} {c = next} {body = body} st) h mode marks =
        for_puts (stored_by d (For at u first test next body)) (counted u first test next body) (goes_on d u first test next 0) (may d test false) (may d test true) (all_of Lone marks body)
        ∙ second_of _ _ (there_puts st h Lone marks)
    there_puts (in_while st) h mode marks = there_puts st h Lone marks
    there_puts (in_repeat {e = count} {body = body} st) h mode marks = repeat_puts (is_constant count) (count_of d (fixed d) count) (all_of Lone marks body) ∙ there_puts st h Lone marks
    there_puts (in_forever st) h mode marks = there_puts st h Lone marks
    there_puts (in_task {at = at} {t = t} {ins = ins} {outs = outs} {task = task} i st) h mode marks =
        ap (λ w. w (Puts v)) (at_enable d counted clean mode marks at t ins outs task i) ∙ second_of _ _ (there_puts st h Lone (task.mark ∷ marks))

-- ---- counted loops

module _ (d : Flat) (clean : IsCleanBefore d 13) where
  any_for : ℕ → Expr → Expr → Expr → Statement → Bool
  any_for v first test next body = true

  pub stores : ℕ → Statement → Bool
  stores v body = all_ways d any_for clean Lone [] body (Puts v)

  abbrev pub counted_for : ℕ → Expr → Expr → Expr → Statement → Bool
  counted_for v first test next body = is_constant first && is_test_of v test && is_step_of v next && not (stores v body)

  pub is_counted : (v : ℕ) (first test next : Expr) (body : Statement) → counted_for v first test next body ≡ true → IsCounted d v first test next body
  unfolding stores
  is_counted v first test next body e =
      let abc : (is_constant first && is_test_of v test && is_step_of v next) ≡ true = left_of (is_constant first && is_test_of v test && is_step_of v next) (not (stores v body)) e in
      let ab : (is_constant first && is_test_of v test) ≡ true = left_of (is_constant first && is_test_of v test) (is_step_of v next) abc in
      record {
        start_is = left_of (is_constant first) (is_test_of v test) ab;
        test_is = right_of (is_constant first) (is_test_of v test) ab;
        step_is = right_of (is_constant first && is_test_of v test) (is_step_of v next) abc;
        free = free_of d v body (λ marks o x st c. clash (stores v body) (there_puts d any_for v clean st c Lone []) (not_so (stores v body) (right_of (is_constant first && is_test_of v test && is_step_of v next) (not (stores v body)) e)));
      }

  pub counted_is : (v : ℕ) (first test next : Expr) (body : Statement) → IsCounted d v first test next body → counted_for v first test next body ≡ true
  unfolding stores
  counted_is v first test next body c =
      both_are _ _ (both_are _ _ (both_are _ _ c.start_is c.test_is) c.step_is) (go (true_or_false (stores v body)))
    where
      go : (stores v body ≡ true) ⊎ (stores v body ≡ false) → not (stores v body) ≡ true
      go (inl h) = absurd (puts_there d any_for v clean [] body h (λ o x st k. free_met d v body c.free x st k))
      go (inr h) = so_not (stores v body) h
