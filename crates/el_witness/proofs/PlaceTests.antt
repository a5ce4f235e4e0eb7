-- Tests of the rules that look at what processes have in place: where they hold, each `disable` has its block in its own process alone, and no two processes race.
-- They compute. A test may fail of a design that breaks no rule.
use Rattle.std.proofs.Common.{◌≡◌, ◌≢◌, ◌⊎◌, inl, inr, ◌<◌, ◌≤◌, ◌+◌, ◌||◌, ℕ, zero, suc, Bool, true, false, List, [], ◌∷◌, ◌++◌, flat_map, length, slice_get, Option, Some, None, refl, sym, ◌∙◌, ap, subst, arith}
use Rattle.std.specs.Prelude.{Contains, eqb, ltb}
use Rattle.std.specs.List.{list_all, filter_map}
use Rattle.std.proofs.lemmas.Bool.{eqb-true, eqb-false, ltb-true}
use Rattle.std.proofs.lemmas.List.Elements.{Contains-append_left, Contains-append_right}
use Rattle.std.proofs.lemmas.Option.{slice_get_within}
use Rattle.xt_base.specs.declared.refusals.Place.{Place}
use Rattle.el_design.specs.Plain.{Expr, Statement, Null, Skip, Seq, Block, Assign, If, Case, Arm, For, While, Repeat, Forever, Wait, Enable, Disable, Host, FlatNet, FlatTask, Flat}
use Rattle.el_design.specs.Names.{variables_in, nets_in}
use Rattle.el_design.specs.InPlace.{Stands, itself, in_first, in_rest, in_block, in_named, in_then, in_else, in_case, in_arm, in_others, in_for, in_while, in_repeat, in_forever, in_task, HasInPlace, Meets, IsPart, block_part, task_part}
use Rattle.el_design.specs.Texts.{texts}
use Rattle.el_design.specs.Queue.{numbers_from, numbers}
use Rattle.el_design.specs.Turns.{body_of}
use Rattle.el_design.specs.Touches as touches
use Rattle.el_design.specs.Touches.{blocking_writes, nonblocking_writes, read_by, WritesBlocking, WritesNonblocking, Writes, Reads, ReadsNet, Reaches, DependsOn, NetIs}
use Rattle.el_design.specs.Calls as calls
use Rattle.el_design.specs.Calls.{DisablesWrongly}
use Rattle.el_design.specs.Rules as rules
use Rattle.el_design.specs.Rules.{TwoWriters, WrittenBothWays, ReadAcross, NetsInCircle, IsOrder}
use Rattle.el_design.proofs.OrderLists.{con_head, con_tail, con_all, con_mapped}
use Rattle.el_design.proofs.OrderPlaces.{con_got, con_flat}
use Rattle.el_design.proofs.WaysPuts.{one_of}
use Rattle.el_design.proofs.Texts.{holds_is, in_place_met}
use Rattle.el_witness.proofs.SoundTests.{Apart, is_apart, apart_is}
use Rattle.el_witness.proofs.TextTests.{all_from, from_passes}

-- ---- numbers

some_number : (a b : ℕ) → Some a ≡ Some b → a ≡ b
some_number a b e = cc

pub con_numbers : (n i k : ℕ) → i ≤ k → k < i + n → Contains (numbers_from i n) k
con_numbers zero i k l m = absurd (omega (arith, l, m))
con_numbers (suc n) i k l m = go (eqb i k) refl (λ h. con_numbers n (suc i) k h (omega (arith, m)))
  where
    go : (b : Bool) → eqb i k ≡ b → (suc i ≤ k → Contains (numbers_from (suc i) n) k) → Contains (i ∷ numbers_from (suc i) n) k
    go true e more = subst (λ j. Contains (i ∷ numbers_from (suc i) n) j) (eqb-true i k e) (con_head i (numbers_from (suc i) n))
    go false e more = con_tail i k (numbers_from (suc i) n) (more (let n : i ≢ k = eqb-false i k e in omega (arith, l, n)))

pub got_number : (n i k : ℕ) → k < n → slice_get (numbers_from i n) k ≡ Some (i + k)
got_number zero i k h = absurd (omega (arith, h))
got_number (suc n) i zero h = let e : i ≡ i + 0 = omega arith in ap Some e
got_number (suc n) i (suc k) h = let e : suc i + k ≡ i + suc k = omega arith in got_number n (suc i) k (omega (arith, h)) ∙ ap Some e

pub count_numbers : (n i : ℕ) → length (numbers_from i n) ≡ n
count_numbers zero i = refl
count_numbers (suc n) i = ap suc (count_numbers n (suc i))

pub of_numbers : (n k : ℕ) → k < n → Contains (numbers n) k
of_numbers n k h = con_numbers n 0 k (omega arith) (omega (arith, h))

pub number_at : (n k : ℕ) → k < n → slice_get (numbers n) k ≡ Some k
number_at n k h = let e : 0 + k ≡ k = omega arith in got_number n 0 k h ∙ ap Some e

-- ---- what stands in place in a statement, with the marks that are open round it; `inside` gives what stands in the body of a task, by the task's number

abbrev pub Inside : Type 0
Inside = ℕ → List ℕ → List (List ℕ × Statement)

abbrev pub placed : Inside → List ℕ → Statement → List (List ℕ × Statement)
placed inside marks Null = (marks, Null) ∷ []
placed inside marks Skip = (marks, Skip) ∷ []
placed inside marks (Seq a b) = (marks, Seq a b) ∷ placed inside marks a ++ placed inside marks b
placed inside marks (Block at None body) = (marks, Block at None body) ∷ placed inside marks body
placed inside marks (Block at (Some m) body) = (marks, Block at (Some m) body) ∷ placed inside (m ∷ marks) body
placed inside marks (Assign at to e held) = (marks, Assign at to e held) ∷ []
placed inside marks (If at test a b) = (marks, If at test a b) ∷ placed inside marks a ++ placed inside marks b
placed inside marks (Case at on arms) = (marks, Case at on arms) ∷ placed inside marks arms
placed inside marks (Arm on labels body others) = (marks, Arm on labels body others) ∷ placed inside marks body ++ placed inside marks others
placed inside marks (For at v first test next body) = (marks, For at v first test next body) ∷ placed inside marks body
placed inside marks (While at test body) = (marks, While at test body) ∷ placed inside marks body
placed inside marks (Repeat at count body) = (marks, Repeat at count body) ∷ placed inside marks body
placed inside marks (Forever at body) = (marks, Forever at body) ∷ placed inside marks body
placed inside marks (Wait at falling) = (marks, Wait at falling) ∷ []
placed inside marks (Enable at t ins outs) = (marks, Enable at t ins outs) ∷ inside t marks
placed inside marks (Disable at m) = (marks, Disable at m) ∷ []
placed inside marks (Host at f ins result outs) = (marks, Host at f ins result outs) ∷ []

abbrev pub AreInside : List FlatTask → Inside → Type 0
AreInside tasks inside = (t : ℕ) (task : FlatTask) (marks : List ℕ) → slice_get tasks t ≡ Some task → inside t marks ≡ placed inside (task.mark ∷ marks) task.body

module _ (tasks : List FlatTask) (inside : Inside) (given : AreInside tasks inside) where
  itself_placed : (marks : List ℕ) (s : Statement) → Contains (placed inside marks s) (marks, s)
  itself_placed marks Null = con_head (marks, Null) []
  itself_placed marks Skip = con_head (marks, Skip) []
  itself_placed marks (Seq a b) = con_head (marks, Seq a b) (placed inside marks a ++ placed inside marks b)
  itself_placed marks (Block at None body) = con_head (marks, Block at None body) (placed inside marks body)
  itself_placed marks (Block at (Some m) body) = con_head (marks, Block at (Some m) body) (placed inside (m ∷ marks) body)
  itself_placed marks (Assign at to e held) = con_head (marks, Assign at to e held) []
  itself_placed marks (If at test a b) = con_head (marks, If at test a b) (placed inside marks a ++ placed inside marks b)
  itself_placed marks (Case at on arms) = con_head (marks, Case at on arms) (placed inside marks arms)
  itself_placed marks (Arm on labels body others) = con_head (marks, Arm on labels body others) (placed inside marks body ++ placed inside marks others)
  itself_placed marks (For at v first test next body) = con_head (marks, For at v first test next body) (placed inside marks body)
  itself_placed marks (While at test body) = con_head (marks, While at test body) (placed inside marks body)
  itself_placed marks (Repeat at count body) = con_head (marks, Repeat at count body) (placed inside marks body)
  itself_placed marks (Forever at body) = con_head (marks, Forever at body) (placed inside marks body)
  itself_placed marks (Wait at falling) = con_head (marks, Wait at falling) []
  itself_placed marks (Enable at t ins outs) = con_head (marks, Enable at t ins outs) (inside t marks)
  itself_placed marks (Disable at m) = con_head (marks, Disable at m) []
  itself_placed marks (Host at f ins result outs) = con_head (marks, Host at f ins result outs) []

  left_of_two : (s x : List ℕ × Statement) (xs ys : List (List ℕ × Statement)) → Contains xs x → Contains (s ∷ xs ++ ys) x
  left_of_two s x xs ys c = con_tail s x (xs ++ ys) (Contains-append_left xs ys x c)

  right_of_two : (s x : List ℕ × Statement) (xs ys : List (List ℕ × Statement)) → Contains ys x → Contains (s ∷ xs ++ ys) x
  right_of_two s x xs ys c = con_tail s x (xs ++ ys) (Contains-append_right xs ys x c)

  pub stands_placed : (marks o : List ℕ) (s x : Statement) → Stands tasks marks s o x → Contains (placed inside marks s) (o, x)
  stands_placed marks o s x itself = itself_placed marks s
  stands_placed marks o (Seq a b) x (in_first h) = left_of_two _ (o, x) (placed inside marks a) (placed inside marks b) (stands_placed marks o a x h)
  stands_placed marks o (Seq a b) x (in_rest h) = right_of_two _ (o, x) (placed inside marks a) (placed inside marks b) (stands_placed marks o b x h)
  stands_placed marks o (Block at None body) x (in_block h) = con_tail _ (o, x) (placed inside marks body) (stands_placed marks o body x h)
  stands_placed marks o (Block at (Some m) body) x (in_named h) = con_tail _ (o, x) (placed inside (m ∷ marks) body) (stands_placed (m ∷ marks) o body x h)
  stands_placed marks o (If at test a b) x (in_then h) = left_of_two _ (o, x) (placed inside marks a) (placed inside marks b) (stands_placed marks o a x h)
  stands_placed marks o (If at test a b) x (in_else h) = right_of_two _ (o, x) (placed inside marks a) (placed inside marks b) (stands_placed marks o b x h)
  stands_placed marks o (Case at on arms) x (in_case h) = con_tail _ (o, x) (placed inside marks arms) (stands_placed marks o arms x h)
  stands_placed marks o (Arm on labels body others) x (in_arm h) = left_of_two _ (o, x) (placed inside marks body) (placed inside marks others) (stands_placed marks o body x h)
  stands_placed marks o (Arm on labels body others) x (in_others h) = right_of_two _ (o, x) (placed inside marks body) (placed inside marks others) (stands_placed marks o others x h)
  stands_placed marks o (For at v first test next body) x (in_for h) = con_tail _ (o, x) (placed inside marks body) (stands_placed marks o body x h)
  stands_placed marks o (While at test body) x (in_while h) = con_tail _ (o, x) (placed inside marks body) (stands_placed marks o body x h)
  stands_placed marks o (Repeat at count body) x (in_repeat h) = con_tail _ (o, x) (placed inside marks body) (stands_placed marks o body x h)
  stands_placed marks o (Forever at body) x (in_forever h) = con_tail _ (o, x) (placed inside marks body) (stands_placed marks o body x h)
  stands_placed marks o (Enable at t ins outs) x (in_task {task = task} e h) =
      con_tail _ (o, x) (inside t marks) (subst (λ l. Contains l (o, x)) (sym (given t task marks e)) (stands_placed (task.mark ∷ marks) o task.body x h))

-- ---- what holds where no task is, and which of what stands in place are loops

abbrev pub nothing : Inside
nothing t marks = []

pub no_inside : AreInside [] nothing
no_inside t task marks e = absurd (let f : None ≡ Some task = e in cc)

abbrev pub kept_if : Option Statement → List ℕ × Statement → Option (List ℕ × Statement)
kept_if None y = None
kept_if (Some b) y = Some y

abbrev pub is_loop : List ℕ × Statement → Option (List ℕ × Statement)
is_loop y = kept_if (body_of y.1) y

abbrev pub loops_among : List (List ℕ × Statement) → List (List ℕ × Statement)
loops_among ys = filter_map is_loop ys

pub kept_loop : (ys : List (List ℕ × Statement)) (y : List ℕ × Statement) {body : Statement} → body_of y.1 ≡ Some body → Contains ys y → Contains (loops_among ys) y
kept_loop ys y e c = con_mapped is_loop ys y y c (ap (λ o. kept_if o y) e)

-- ---- what a process has in place

module _ (d : Flat) (inside : Inside) (given : AreInside d.tasks inside) where
  abbrev pub placed_of : ℕ → List (List ℕ × Statement)
  placed_of p = elim (slice_get d.procs p) [ None ↦ [] | Some q ↦ placed inside [] q.body ]

  pub met_placed : {p : ℕ} {marks : List ℕ} {x : Statement} → Meets d p marks x → Contains (placed_of p) (marks, x)
  met_placed {p = p} {marks = marks} {x = x} m =
      subst (λ o. Contains (elim o [ None ↦ [] | Some q ↦ placed inside [] q.body ]) (marks, x)) (sym m.is) (stands_placed d.tasks inside given [] marks m.process.body x m.stands)

  -- what each statement in place has of a kind
  abbrev pub gathered : (Statement → List ℕ) → ℕ → List ℕ
  gathered f p = flat_map (λ y. f y.1) (placed_of p)

  pub gathers : (f : Statement → List ℕ) {p : ℕ} {x : Statement} (v : ℕ) → HasInPlace d p x → Contains (f x) v → Contains (gathered f p) v
  gathers f {p = p} {x = x} v h c = let m = in_place_met h in con_flat (λ y. f y.1) (placed_of p) (m.0, x) v (met_placed m.1) c

  number_within : {p : ℕ} {x : Statement} → HasInPlace d p x → p < length d.procs
  number_within {p = p} h = slice_get_within d.procs p h.process h.is

  -- of any two processes the one's numbers of a kind are apart from the other's of another
  abbrev pub apart_or_same : (ℕ → List ℕ) → (ℕ → List ℕ) → ℕ → ℕ → Bool
  apart_or_same f g p q = eqb p q || is_apart (f p) (g q)

  abbrev pub processes : List ℕ
  processes = numbers (length d.procs)

  abbrev pub all_apart : (ℕ → List ℕ) → (ℕ → List ℕ) → Bool
  all_apart f g = list_all (λ p. list_all (apart_or_same f g p) processes) processes

  pub two_apart : (f g : ℕ → List ℕ) → all_apart f g ≡ true → (p q : ℕ) → p < length d.procs → q < length d.procs → p ≢ q → Apart (f p) (g q)
  two_apart f g h p q k l n = go (one_of (eqb p q) (is_apart (f p) (g q)) (con_all (apart_or_same f g p) processes q (con_all (λ p. list_all (apart_or_same f g p) processes) processes p h (of_numbers (length d.procs) p k)) (of_numbers (length d.procs) q l)))
    where
      go : (eqb p q ≡ true) ⊎ (is_apart (f p) (g q) ≡ true) → Apart (f p) (g q)
      go (inl e) = absurd (n (eqb-true p q e))
      go (inr e) = apart_is (f p) (g q) e

  abbrev pub own_apart : (ℕ → List ℕ) → (ℕ → List ℕ) → Bool
  own_apart f g = list_all (λ p. is_apart (f p) (g p)) processes

  pub one_apart : (f g : ℕ → List ℕ) → own_apart f g ≡ true → (p : ℕ) → p < length d.procs → Apart (f p) (g p)
  one_apart f g h p k = apart_is (f p) (g p) (con_all (λ p. is_apart (f p) (g p)) processes p h (of_numbers (length d.procs) p k))

  -- ---- disables (rule 53)

  abbrev pub disabled_by : Statement → List ℕ
  disabled_by (Disable at m) = m ∷ []
  disabled_by x = []

  abbrev pub task_mark : Option FlatTask → List ℕ
  task_mark None = []
  task_mark (Some t) = t.mark ∷ []

  abbrev pub mark_of : Statement → List ℕ
  mark_of (Block at (Some m) body) = m ∷ []
  mark_of (Enable at t ins outs) = task_mark (slice_get d.tasks t)
  mark_of x = []

  part_marked : {p m : ℕ} → IsPart d p m → Contains (gathered mark_of p) m
  part_marked {m = m} (block_part h) = gathers mark_of m h (con_head m [])
  part_marked {m = m} (task_part {task = task} h e i) = gathers mark_of m h (subst (λ o. Contains (task_mark o) m) (sym e) (subst (λ k. Contains (task.mark ∷ []) k) i (con_head task.mark [])))

  part_within : {p m : ℕ} → IsPart d p m → p < length d.procs
  part_within (block_part h) = number_within h
  part_within (task_part h e i) = number_within h

  abbrev pub no_disable : Statement → Bool
  no_disable (Disable at m) = false
  no_disable x = true

  -- each mark of a `disable` is that of a part of its process
  abbrev pub OwnMarks : Type 0
  OwnMarks = (p m : ℕ) → Contains (gathered disabled_by p) m → IsPart d p m

  pub none_disables : list_all (λ g. list_all no_disable (texts g.body)) d.funcs ≡ true → OwnMarks → all_apart (gathered disabled_by) (gathered mark_of) ≡ true → (at : Place) → DisablesWrongly d at → ⊥
  none_disables h own k at (calls.in_function {g = g} {m = m} c s) =
      let e : false ≡ true = con_all no_disable (texts g.body) (Disable at m) (con_all (λ g. list_all no_disable (texts g.body)) d.funcs g h c) ((holds_is g.body (Disable at m)).0 s) in cc
  none_disables h own k at (calls.not_own {p = p} {m = m} s n) = n (own p m (gathers disabled_by m s (con_head m [])))
  none_disables h own k at (calls.also_other {p = p} {q = q} {m = m} s n i) =
      two_apart (gathered disabled_by) (gathered mark_of) k p q (number_within s) (part_within i) (λ e. n (sym e)) m (gathers disabled_by m s (con_head m [])) (part_marked i)

  -- ---- races (rules 70 to 72)

  abbrev pub blocking : ℕ → List ℕ
  blocking = gathered (blocking_writes d)

  abbrev pub nonblocking : ℕ → List ℕ
  nonblocking = gathered nonblocking_writes

  abbrev pub either_way : Statement → List ℕ
  either_way x = blocking_writes d x ++ nonblocking_writes x

  abbrev pub written : ℕ → List ℕ
  written = gathered either_way

  blocking_there : {p v : ℕ} → WritesBlocking d p v → Contains (blocking p) v
  blocking_there {v = v} (touches.writes_blocking h c) = gathers (blocking_writes d) v h c

  nonblocking_there : {p v : ℕ} → WritesNonblocking d p v → Contains (nonblocking p) v
  nonblocking_there {v = v} (touches.writes_nonblocking h c) = gathers nonblocking_writes v h c

  writes_there : {p v : ℕ} → Writes d p v → Contains (written p) v
  writes_there {v = v} (touches.by_blocking (touches.writes_blocking {x = x} h c)) = gathers either_way v h (Contains-append_left (blocking_writes d x) (nonblocking_writes x) v c)
  writes_there {v = v} (touches.by_nonblocking (touches.writes_nonblocking {x = x} h c)) = gathers either_way v h (Contains-append_right (blocking_writes d x) (nonblocking_writes x) v c)

  blocking_within : {p v : ℕ} → WritesBlocking d p v → p < length d.procs
  blocking_within (touches.writes_blocking h c) = number_within h

  writes_within : {p v : ℕ} → Writes d p v → p < length d.procs
  writes_within (touches.by_blocking w) = blocking_within w
  writes_within (touches.by_nonblocking (touches.writes_nonblocking h c)) = number_within h

  pub none_twice : all_apart written written ≡ true → (at : Place) → TwoWriters d at → ⊥
  none_twice h _ (rules.two_write {p = p} {q = q} {v = v} e n a b) = two_apart written written h p q (writes_within a) (writes_within b) n v (writes_there a) (writes_there b)

  pub none_both_ways : own_apart blocking nonblocking ≡ true → (at : Place) → WrittenBothWays d at → ⊥
  none_both_ways h _ (rules.both_ways {p = p} {v = v} e a b) = one_apart blocking nonblocking h p (blocking_within a) v (blocking_there a) (nonblocking_there b)

  abbrev pub read : ℕ → List ℕ
  read = gathered (read_by d)

  reads_there : {p v : ℕ} → Reads d p v → Contains (read p) v
  reads_there {v = v} (touches.reads h c) = gathers (read_by d) v h c

  reads_within : {p v : ℕ} → Reads d p v → p < length d.procs
  reads_within (touches.reads h c) = number_within h

  -- the variables that nets name
  abbrev pub named_by : FlatNet → List ℕ
  named_by n = elim n.value [ None ↦ [] | Some e ↦ variables_in e ]

  abbrev pub of_nets : ℕ → List ℕ
  of_nets p = flat_map named_by d.nets

  named_there : {n v : ℕ} {e : Expr} → NetIs d n e → Contains (variables_in e) v → Contains (flat_map named_by d.nets) v
  named_there {n = n} {v = v} {e = e} i c =
      con_flat named_by d.nets i.net v (con_got d.nets n i.net i.is) (subst (λ o. Contains (elim o [ None ↦ [] | Some e ↦ variables_in e ]) v) (sym i.value) c)

  reached_there : {n v : ℕ} → Reaches d n v → Contains (flat_map named_by d.nets) v
  reached_there (touches.names_it i c) = named_there i c
  reached_there (touches.through i c r) = reached_there r

  pub none_across : all_apart blocking read ≡ true → own_apart blocking of_nets ≡ true → (at : Place) → ReadAcross d at → ⊥
  none_across h k _ (rules.variable_across {p = p} {q = q} {v = v} e w n r) = two_apart blocking read h p q (blocking_within w) (reads_within r) (λ i. n (sym i)) v (blocking_there w) (reads_there r)
  none_across h k _ (rules.net_across {p = p} {v = v} e w r s) = one_apart blocking of_nets k p (blocking_within w) v (blocking_there w) (reached_there r)

-- ---- nets (rule 73): each names only nets of smaller numbers

module _ (d : Flat) where
  abbrev pub nets_below : ℕ → FlatNet → Bool
  nets_below n net = elim net.value [ None ↦ true | Some e ↦ list_all (λ m. ltb m n) (nets_in e) ]

  abbrev pub NetsDescend : Type 0
  NetsDescend = all_from nets_below 0 d.nets ≡ true

  net_below : {n m : ℕ} {e : Expr} → NetsDescend → NetIs d n e → Contains (nets_in e) m → m < n
  net_below {n = n} {m = m} {e = e} h i c =
      ltb-true m n (con_all (λ m. ltb m n) (nets_in e) m (subst (λ o. elim o [ None ↦ true | Some e ↦ list_all (λ m. ltb m n) (nets_in e) ] ≡ true) i.value (from_passes nets_below 0 d.nets n i.net h i.is n (omega arith))) c)

  depends_below : {n m : ℕ} → NetsDescend → DependsOn d n m → m < n
  depends_below h (touches.depends i c) = net_below h i c
  depends_below h (touches.depends_through i c r) = let k = net_below h i c in let l = depends_below h r in omega (arith, k, l)

  pub none_in_circle : NetsDescend → (at : Place) → NetsInCircle d at → ⊥
  none_in_circle h _ (rules.circle e r) = let k = depends_below h r in omega (arith, k)

  -- their numbers are an order
  pub in_order : NetsDescend → IsOrder d (numbers (length d.nets))
  in_order h = record { each = of_numbers (length d.nets); size = count_numbers (length d.nets) 0; after = after }
    where
      after : (i n m : ℕ) → slice_get (numbers (length d.nets)) i ≡ Some n → DependsOn d n m → (j : ℕ) × (j < i) × (slice_get (numbers (length d.nets)) j ≡ Some m)
      after i n m e r =
          let k = slice_get_within (numbers (length d.nets)) i n e in
          let l : length (numbers (length d.nets)) ≡ length d.nets = count_numbers (length d.nets) 0 in
          let same : Some i ≡ Some n = sym (number_at (length d.nets) i (omega (arith, k, l))) ∙ e in
          let is : i ≡ n = some_number i n same in
          let low = depends_below h r in
          (m, omega (arith, low, is), number_at (length d.nets) m (omega (arith, low, is, k, l)))
