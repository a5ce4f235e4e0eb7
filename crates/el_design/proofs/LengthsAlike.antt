-- A statement's lengths don't depend on what lies ahead of exits that it hasn't, and where nothing lies ahead there is none.
use Rattle.std.proofs.Common.{◌≡◌, ℕ, zero, suc, ◌==◌, ◌&&◌, not, Bool, true, false, if◌then◌else◌, List, ◌∷◌, Option, Some, None, slice_get, length, refl, sym, ◌∙◌, ap, ap₂, subst, T, eqb→eq, eq-eqb}
use Rattle.el_design.specs.Plain.{Statement, Null, Skip, Seq, Block, Assign, If, Case, Arm, For, While, Repeat, Forever, Wait, Enable, Disable, Host, FlatTask, Flat}
use Rattle.el_design.specs.Assign.{has_label, count_of}
use Rattle.el_design.specs.Names.{is_constant}
use Rattle.el_design.specs.Purity.{contains_number}
use Rattle.el_design.specs.Turns.{fixed}
use Rattle.el_design.specs.Walk.{is_constant_case}
use Rattle.el_design.specs.Exits.{Exit, Past, Away, Exits, past_alone, after, inside, choosing, looping, stopping, may_hold, may_fail, Told, NotCounted, Finite, Endless, is_zero, turns_of, endless_of, for_exits, repeat_exits, Arms, Alone, takes, skips, arms_of, TaskExits, enable_exits, exits, body_exits, exits_to, exits_in_place}
use Rattle.el_design.specs.Lengths.{Ahead, Lengths, one_more, longer, where_so, past_to, ended, passed, stepped, in_turn, marked, either_of, leaving, turns_left, over_again, any_turns, for_lengths, repeat_lengths, TaskLengths, enable_lengths, lengths, body_lengths, lengths_to, lengths_in_place, to_exit, way_out, LengthsAreOfExits}
use Rattle.el_design.proofs.WaysPuts.{first_of, second_of, right_of, both_are, so_not, clash}

-- ---- what lies ahead of exits that there aren't doesn't matter

abbrev pub Agree : Exits → Ahead → Ahead → Type 0
Agree w x y = (e : Exit) → w e ≡ true → x e ≡ y e

abbrev pub Alike : Exits → Lengths → Type 0
Alike w a = (x y : Ahead) → Agree w x y → a x ≡ a y

more_alike : (a : Lengths) (x y : Ahead) → a x ≡ a y → stepped a x ≡ stepped a y
more_alike a x y e = ap one_more e

passed_alike : Alike past_alone passed
passed_alike x y h = ap one_more (h Past refl)

seq_alike : (v w : Exits) (a b : Lengths) → Alike v a → Alike w b → Alike (after v w) (in_turn a b)
seq_alike v w a b f g x y h = ap one_more (f (past_to (b x) x) (past_to (b y) y) ahead)
  where
    ahead : Agree v (past_to (b x) x) (past_to (b y) y)
    ahead Past p = g x y later
      where
        later : Agree w x y
        later Past q = h Past (both_are (v Past) (w Past) p q)
        later (Away m) q = h (Away m) (second_of (v (Away m)) _ (both_are (v Past) (w (Away m)) p q))
    ahead (Away m) p = h (Away m) (first_of (v (Away m)) _ p)

ended_alike : (m : ℕ) (w : Exits) (x y : Ahead) → Agree (inside m w) x y → Agree w (ended m x) (ended m y)
ended_alike m w x y h Past p = ap one_more (h Past (first_of (w Past) _ p))
ended_alike m w x y h (Away n) p = go (m == n) refl
  where
    go : (b : Bool) → (m == n) ≡ b → (if m == n then one_more (x Past) else x (Away n)) ≡ (if m == n then one_more (y Past) else y (Away n))
    go true e = rw e (ap one_more (h Past (second_of (w Past) (w (Away m)) (subst (λ k. w (Away k) ≡ true) (sym (eqb→eq m n (subst T (sym e) tt))) p))))
    go false e = rw e (h (Away n) (both_are (not (m == n)) (w (Away n)) (so_not (m == n) e) p))

marked_alike : (m : ℕ) (w : Exits) (a : Lengths) → Alike w a → Alike (inside m w) (marked m a)
marked_alike m w a f x y h = ap one_more (f (ended m x) (ended m y) (ended_alike m w x y h))

where_alike : (p : Bool) (a b : Option ℕ) → (p ≡ true → a ≡ b) → where_so p a ≡ where_so p b
where_alike true a b f = f refl
where_alike false a b f = refl

choice_alike : (p q : Bool) (v w : Exits) (a b : Lengths) → Alike v a → Alike w b → Alike (choosing p v q w) (either_of p a q b)
choice_alike p q v w a b f g x y h =
    ap₂ longer (where_alike p (a x) (a y) (λ i. f x y (λ e j. h e (first_of (p && v e) (q && w e) (both_are p (v e) i j)))))
    (where_alike q (b x) (b y) (λ i. g x y (λ e j. h e (second_of (p && v e) (q && w e) (both_are q (w e) i j)))))

again_alike : (over through some : Bool) (w : Exits) (a : Lengths) → some ≡ true → Alike w a → (x y : Ahead) → Agree (looping over through some w) x y → a (past_to None x) ≡ a (past_to None y)
again_alike over through some w a i f x y h = f (past_to None x) (past_to None y) ahead
  where
    ahead : Agree w (past_to None x) (past_to None y)
    ahead Past p = refl
    ahead (Away m) p = h (Away m) (both_are some (w (Away m)) i p)

any_alike : (over some : Bool) (w : Exits) (a : Lengths) → Alike w a → Alike (looping over false some w) (any_turns over some a)
any_alike over some w a f x y h =
    ap one_more (ap₂ longer (where_alike over (x Past) (y Past) (λ i. h Past (first_of over _ i))) (where_alike some (a (past_to None x)) (a (past_to None y)) (λ i. again_alike over false some w a i f x y h)))

over_alike : (w : Exits) (a : Lengths) → Alike w a → Alike (endless_of w) (over_again a)
over_alike w a f x y h = ap one_more (again_alike false false true w a refl f x y h)

turns_alike : (n : ℕ) (w : Exits) (a : Lengths) → Alike w a → Alike (turns_of n w) (turns_left n a)
turns_alike zero w a f x y h = h Past refl
turns_alike (suc n) w a f x y h = f (past_to (one_more (turns_left n a x)) x) (past_to (one_more (turns_left n a y)) y) (ahead (turns_alike n w a f x y))
  where
    later : w Past ≡ true → Agree (turns_of n w) x y
    later p Past q = h Past p
    later p (Away m) q = h (Away m) (right_of (not (is_zero n)) (w (Away m)) q)

    ahead : (Agree (turns_of n w) x y → turns_left n a x ≡ turns_left n a y) → Agree w (past_to (one_more (turns_left n a x)) x) (past_to (one_more (turns_left n a y)) y)
    ahead rest Past p = ap one_more (rest (later p))
    ahead rest (Away m) p = h (Away m) p

for_alike : (t : Told) (hold fail : Bool) (w : Exits) (a : Lengths) → Alike w a → Alike (for_exits t hold fail w) (for_lengths t hold fail a)
for_alike NotCounted hold fail w a f x y h = any_alike fail hold w a f x y h
for_alike (Finite n) hold fail w a f x y h = more_alike (turns_left n a) x y (turns_alike n w a f x y h)
for_alike Endless hold fail w a f x y h = over_alike w a f x y h

repeat_alike : (b : Bool) (n : ℕ) (w : Exits) (a : Lengths) → Alike w a → Alike (repeat_exits b n w) (repeat_lengths b n a)
repeat_alike true n w a f x y h = more_alike (turns_left n a) x y (turns_alike n w a f x y h)
repeat_alike false n w a f x y h = any_alike true true w a f x y h

leaving_alike : (here : Bool) (m : ℕ) → Alike (stopping here m) (leaving here m)
leaving_alike true m x y h = h (Away m) (both_are (m == m) true (eq-eqb m m refl) refl)
leaving_alike false m x y h = ap one_more (h Past refl)

enable_alike : (o : Option FlatTask) (w : Exits) (a : Lengths) → Alike w a → Alike (enable_exits o w) (enable_lengths o a)
enable_alike None w a f x y h = refl
enable_alike (Some t) w a f x y h = marked_alike t.mark w a f x y h

module _ (d : Flat) (told : Statement → Told) (waits : Option ℕ) where
  alike : (out : TaskExits) (tasks : TaskLengths) → ((t : ℕ) (marks : List ℕ) → Alike (out t marks) (tasks t marks)) → (arms : Arms) (marks : List ℕ) (s : Statement) →
      Alike (exits d told out arms marks s) (lengths d told waits tasks arms marks s)
  alike out tasks f arms marks Null = passed_alike
  alike out tasks f arms marks Skip = passed_alike
  alike out tasks f arms marks (Seq a b) = seq_alike (exits d told out Alone marks a) (exits d told out Alone marks b) (lengths d told waits tasks Alone marks a) (lengths d told waits tasks Alone marks b) (alike out tasks f Alone marks a) (alike out tasks f Alone marks b)
  alike out tasks f arms marks (Block at None body) = λ x y h. more_alike (lengths d told waits tasks Alone marks body) x y (alike out tasks f Alone marks body x y h)
  alike out tasks f arms marks (Block at (Some m) body) = marked_alike m (exits d told out Alone (m ∷ marks) body) (lengths d told waits tasks Alone (m ∷ marks) body) (alike out tasks f Alone (m ∷ marks) body)
  alike out tasks f arms marks (Assign at to e held) = passed_alike
  alike out tasks f arms marks (If at test a b) = λ x y h. ap one_more
      (choice_alike (may_hold d test) (may_fail d test) (exits d told out Alone marks a) (exits d told out Alone marks b) (lengths d told waits tasks Alone marks a) (lengths d told waits tasks Alone marks b) (alike out tasks f Alone marks a) (alike out tasks f Alone marks b) x y h)
  alike out tasks f arms marks (Case at on others) = λ x y h. ap one_more (alike out tasks f (arms_of (is_constant_case on others)) marks others x y h)
  alike out tasks f arms marks (Arm on labels body others) =
      choice_alike (takes arms (has_label d (fixed d) on labels)) (skips arms (has_label d (fixed d) on labels)) (exits d told out Alone marks body) (exits d told out arms marks others)
      (lengths d told waits tasks Alone marks body) (lengths d told waits tasks arms marks others) (alike out tasks f Alone marks body) (alike out tasks f arms marks others)
  alike out tasks f arms marks (For at v first test next body) =
      for_alike (told (For at v first test next body)) (may_hold d test) (may_fail d test) (exits d told out Alone marks body) (lengths d told waits tasks Alone marks body) (alike out tasks f Alone marks body)
  alike out tasks f arms marks (While at test body) = any_alike (may_fail d test) (may_hold d test) (exits d told out Alone marks body) (lengths d told waits tasks Alone marks body) (alike out tasks f Alone marks body)
  alike out tasks f arms marks (Repeat at count body) =
      repeat_alike (is_constant count) (count_of d (fixed d) count) (exits d told out Alone marks body) (lengths d told waits tasks Alone marks body) (alike out tasks f Alone marks body)
  alike out tasks f arms marks (Forever at body) = over_alike (exits d told out Alone marks body) (lengths d told waits tasks Alone marks body) (alike out tasks f Alone marks body)
  alike out tasks f arms marks (Wait at falling) = λ x y h. refl
  alike out tasks f arms marks (Enable at t ins outs) = enable_alike (slice_get d.tasks t) (out t marks) (tasks t marks) (f t marks)
  alike out tasks f arms marks (Disable at m) = leaving_alike (contains_number marks m) m
  alike out tasks f arms marks (Host at g ins result outs) = passed_alike

  tasks_alike : (n t : ℕ) (marks : List ℕ) → Alike (exits_to d told n t marks) (lengths_to d told waits n t marks)
  tasks_alike zero t marks = λ x y h. refl
  tasks_alike (suc n) t marks = go (slice_get d.tasks t) (tasks_alike n)
    where
      go : (o : Option FlatTask) → ((q : ℕ) (open_marks : List ℕ) → Alike (exits_to d told n q open_marks) (lengths_to d told waits n q open_marks)) → Alike (body_exits d told (exits_to d told n) marks o) (body_lengths d told waits (lengths_to d told waits n) marks o)
      go None f = λ x y h. refl
      go (Some task) f = alike (exits_to d told n) (lengths_to d told waits n) f Alone (task.mark ∷ marks) task.body

  pub in_place_alike : (marks : List ℕ) (s : Statement) → Alike (exits d told (exits_in_place d told) Alone marks s) (lengths_in_place d told waits marks s)
  in_place_alike marks s = alike (exits_in_place d told) (lengths_to d told waits (length d.tasks)) (tasks_alike (length d.tasks)) Alone marks s

-- ---- where nothing lies ahead

abbrev Nothing : Ahead → Type 0
Nothing x = (e : Exit) → x e ≡ None

abbrev Ends : Lengths → Type 0
Ends a = (x : Ahead) → Nothing x → a x ≡ None

more_none : (a : Option ℕ) → a ≡ None → one_more a ≡ None
more_none None e = refl
more_none (Some n) e = cc

longer_none : (p q : Bool) (a b : Option ℕ) → a ≡ None → b ≡ None → longer (where_so p a) (where_so q b) ≡ None
longer_none true true a b e f = ap₂ longer e f
longer_none true false a b e f = ap₂ longer e refl
longer_none false true a b e f = f
longer_none false false a b e f = refl

past_none : (a : Option ℕ) (x : Ahead) → a ≡ None → Nothing x → Nothing (past_to a x)
past_none a x e f Past = e
past_none a x e f (Away m) = f (Away m)

ended_none : (m : ℕ) (x : Ahead) → Nothing x → Nothing (ended m x)
ended_none m x f Past = more_none (x Past) (f Past)
ended_none m x f (Away n) = go (m == n)
  where
    go : (b : Bool) → (if b then one_more (x Past) else x (Away n)) ≡ None
    go true = more_none (x Past) (f Past)
    go false = f (Away n)

over_ends : (a : Lengths) → Ends a → Ends (over_again a)
over_ends a f x h = more_none (a (past_to None x)) (f (past_to None x) (past_none None x refl h))

any_ends : (p q : Bool) (a : Lengths) → Ends a → Ends (any_turns p q a)
any_ends p q a f x h = more_none _ (longer_none p q (x Past) (a (past_to None x)) (h Past) (f (past_to None x) (past_none None x refl h)))

turns_end : (n : ℕ) (a : Lengths) → Ends a → Ends (turns_left n a)
turns_end zero a f x h = h Past
turns_end (suc n) a f x h = f (past_to (one_more (turns_left n a x)) x) (past_none (one_more (turns_left n a x)) x (more_none (turns_left n a x) (turns_end n a f x h)) h)

stepped_ends : (a : Lengths) → Ends a → Ends (stepped a)
stepped_ends a f x h = more_none (a x) (f x h)

for_ends : (t : Told) (hold fail : Bool) (a : Lengths) → Ends a → Ends (for_lengths t hold fail a)
for_ends NotCounted hold fail a f = any_ends fail hold a f
for_ends (Finite n) hold fail a f = stepped_ends (turns_left n a) (turns_end n a f)
for_ends Endless hold fail a f = over_ends a f

repeat_ends : (b : Bool) (n : ℕ) (a : Lengths) → Ends a → Ends (repeat_lengths b n a)
repeat_ends true n a f = stepped_ends (turns_left n a) (turns_end n a f)
repeat_ends false n a f = any_ends true true a f

passed_ends : Ends passed
passed_ends x h = more_none (x Past) (h Past)

marked_ends : (m : ℕ) (a : Lengths) → Ends a → Ends (marked m a)
marked_ends m a f x h = more_none (a (ended m x)) (f (ended m x) (ended_none m x h))

leaving_ends : (b : Bool) (m : ℕ) → Ends (leaving b m)
leaving_ends true m x h = h (Away m)
leaving_ends false m x h = more_none (x Past) (h Past)

enable_ends : (o : Option FlatTask) (a : Lengths) → Ends a → Ends (enable_lengths o a)
enable_ends None a f x h = refl
enable_ends (Some t) a f x h = marked_ends t.mark a f x h

module _ (d : Flat) (told : Statement → Told) where
  none : (tasks : TaskLengths) → ((t : ℕ) (marks : List ℕ) → Ends (tasks t marks)) → (arms : Arms) (marks : List ℕ) (s : Statement) → Ends (lengths d told None tasks arms marks s)
  none tasks f arms marks Null = passed_ends
  none tasks f arms marks Skip = passed_ends
  none tasks f arms marks (Seq a b) = λ x h. more_none _ (none tasks f Alone marks a (past_to (lengths d told None tasks Alone marks b x) x) (past_none _ x (none tasks f Alone marks b x h) h))
  none tasks f arms marks (Block at None body) = stepped_ends (lengths d told None tasks Alone marks body) (none tasks f Alone marks body)
  none tasks f arms marks (Block at (Some m) body) = marked_ends m (lengths d told None tasks Alone (m ∷ marks) body) (none tasks f Alone (m ∷ marks) body)
  none tasks f arms marks (Assign at to e held) = passed_ends
  none tasks f arms marks (If at test a b) = λ x h. more_none _ (longer_none (may_hold d test) (may_fail d test) _ _ (none tasks f Alone marks a x h) (none tasks f Alone marks b x h))
  none tasks f arms marks (Case at on others) = stepped_ends (lengths d told None tasks (arms_of (is_constant_case on others)) marks others) (none tasks f (arms_of (is_constant_case on others)) marks others)
  none tasks f arms marks (Arm on labels body others) =
      λ x h. longer_none (takes arms (has_label d (fixed d) on labels)) (skips arms (has_label d (fixed d) on labels)) _ _ (none tasks f Alone marks body x h) (none tasks f arms marks others x h)
  none tasks f arms marks (For at v first test next body) = for_ends (told (For at v first test next body)) (may_hold d test) (may_fail d test) (lengths d told None tasks Alone marks body) (none tasks f Alone marks body)
  none tasks f arms marks (While at test body) = any_ends (may_fail d test) (may_hold d test) (lengths d told None tasks Alone marks body) (none tasks f Alone marks body)
  none tasks f arms marks (Repeat at count body) = repeat_ends (is_constant count) (count_of d (fixed d) count) (lengths d told None tasks Alone marks body) (none tasks f Alone marks body)
  none tasks f arms marks (Forever at body) = over_ends (lengths d told None tasks Alone marks body) (none tasks f Alone marks body)
  none tasks f arms marks (Wait at falling) = λ x h. refl
  none tasks f arms marks (Enable at t ins outs) = enable_ends (slice_get d.tasks t) (tasks t marks) (f t marks)
  none tasks f arms marks (Disable at m) = leaving_ends (contains_number marks m) m
  none tasks f arms marks (Host at g ins result outs) = passed_ends

  tasks_none : (n t : ℕ) (marks : List ℕ) → Ends (lengths_to d told None n t marks)
  tasks_none zero t marks = λ x h. refl
  tasks_none (suc n) t marks = go (slice_get d.tasks t) (tasks_none n)
    where
      go : (o : Option FlatTask) → ((q : ℕ) (open_marks : List ℕ) → Ends (lengths_to d told None n q open_marks)) → Ends (body_lengths d told None (lengths_to d told None n) marks o)
      go None f = λ x h. refl
      go (Some task) f = none (lengths_to d told None n) f Alone (task.mark ∷ marks) task.body

  -- what leads nowhere but to one exit
  else_none : (z e : Exit) → (z ≡ e → ⊥) → to_exit z e ≡ None
  else_none Past Past f = absurd (f refl)
  else_none Past (Away n) f = refl
  else_none (Away m) Past f = refl
  else_none (Away m) (Away n) f = go (m == n) refl
    where
      go : (b : Bool) → (m == n) ≡ b → to_exit (Away m) (Away n) ≡ None
      go true e = absurd (f (ap Away (eqb→eq m n (subst T (sym e) tt))))
      go false e = rw e refl

  -- where a statement has a length by an exit, it has the exit
  pub length_exit : (marks : List ℕ) (s : Statement) (z : Exit) (n : ℕ) → way_out d told marks s z ≡ Some n → exits d told (exits_in_place d told) Alone marks s z ≡ true
  length_exit marks s z n e = go (exits d told (exits_in_place d told) Alone marks s z) refl
    where
      nothing : exits d told (exits_in_place d told) Alone marks s z ≡ false → way_out d told marks s z ≡ None
      nothing f =
          in_place_alike d told None marks s (to_exit z) (λ x. None) (λ x h. else_none z x (λ i. clash (exits d told (exits_in_place d told) Alone marks s x) h (subst (λ y. exits d told (exits_in_place d told) Alone marks s y ≡ false) i f)))
          ∙ none (lengths_to d told None (length d.tasks)) (tasks_none (length d.tasks)) Alone marks s (λ x. None) (λ x. refl)

      go : (b : Bool) → exits d told (exits_in_place d told) Alone marks s z ≡ b → exits d told (exits_in_place d told) Alone marks s z ≡ true
      go true f = f
      go false f = let i : None ≡ Some n = sym (nothing f) ∙ e in cc

pub lengths_are_of_exits : (d : Flat) (told : Statement → Told) (marks : List ℕ) (s : Statement) → LengthsAreOfExits d told marks s
lengths_are_of_exits d told marks s waits one other h = in_place_alike d told waits marks s one other h
