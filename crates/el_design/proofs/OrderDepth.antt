-- Tasks in place: no chain of enables is longer than there are tasks.
use Rattle.std.proofs.Common.{◌≡◌, ◌⊎◌, inl, inr, ℕ, zero, suc, ◌+◌, ◌<◌, ◌≤◌, ◌==◌, Bool, true, false, if◌then◌else◌, List, [], ◌∷◌, ◌++◌, Some, slice_get, map, length, refl, sym, ◌∙◌, ap, subst, arith, eq-eqb, T, eqb→eq}
use Rattle.std.proofs.lemmas.List.Elements.{Contains-append_left, Contains-append_right}
use Rattle.xt_bits.specs.Word.{Word, word}
use Rattle.el_design.specs.Plain.{Expr, Number, Statement, FlatTask, FlatProc, Flat}
use Rattle.el_design.specs.Stack.{Work}
use Rattle.el_design.specs.InPlace.{Stands}
use Rattle.el_design.specs.Sizes.{Counting, counting, size_of, task_size}
use Rattle.el_design.specs.Rules.{max_turns, IsClean}
use Rattle.el_design.specs.Sound.{IsSound, IsStatement, ChooseBy}
use Rattle.el_design.specs.Alone.{Doing, go, enabled_at, setting}
use Rattle.el_design.proofs.OrderRule.{CountsEnough, IsShaped}
use Rattle.el_design.proofs.OrderPlaces.{con_got, con_map}
use Rattle.el_design.proofs.OrderSane.{In, IsUnder, Here, Stated, Claimed, TasksStated, sane}

-- ---- numbers that are all different and below n are at most n

abbrev pub Apart : List ℕ → Type 0
Apart [] = Unit {0}
Apart (x ∷ xs) = (In x xs → ⊥) × Apart xs

abbrev pub Below : ℕ → List ℕ → Type 0
Below n [] = Unit {0}
Below n (x ∷ xs) = (x < n) × Below n xs

-- without a number
abbrev without : ℕ → List ℕ → List ℕ
without n [] = []
without n (x ∷ xs) = if x == n then without n xs else x ∷ without n xs

is_it : (x n : ℕ) → (x == n) ≡ true → x ≡ n
is_it x n e = eqb→eq x n (subst T (sym e) tt)

in_without : (n y : ℕ) (xs : List ℕ) → In y (without n xs) → In y xs
in_without n y [] i = i
in_without n y (x ∷ xs) i = go (in_without n y xs) (x == n) i
  where
    go : (In y (without n xs) → In y xs) → (b : Bool) → In y (if b then without n xs else x ∷ without n xs) → In y (x ∷ xs)
    go more true i = inr (more i)
    go more false (inl e) = inl e
    go more false (inr i) = inr (more i)

apart_without : (n : ℕ) (xs : List ℕ) → Apart xs → Apart (without n xs)
apart_without n [] a = tt
apart_without n (x ∷ xs) a = go (apart_without n xs a.1) (x == n)
  where
    go : Apart (without n xs) → (b : Bool) → Apart (if b then without n xs else x ∷ without n xs)
    go more true = more
    go more false = (λ i. a.0 (in_without n x xs i), more)

below_without : (n : ℕ) (xs : List ℕ) → Below (suc n) xs → Below n (without n xs)
below_without n [] b = tt
below_without n (x ∷ xs) b = go (below_without n xs b.1) (x == n) refl
  where
    go : Below n (without n xs) → (t : Bool) → (x == n) ≡ t → Below n (if t then without n xs else x ∷ without n xs)
    go more true e = more
    go more false e = (less (Rattle.el_design.proofs.OrderRule.split n x), more)
      where
        less : (n ≤ x) ⊎ (x < n) → x < n
        less (inr h) = h
        less (inl h) = absurd (let i : x ≡ n = (let k : x < suc n = b.0 in omega arith) in let f : true ≡ false = sym (eq-eqb x n i) ∙ e in cc)

same_without : (n : ℕ) (xs : List ℕ) → (In n xs → ⊥) → length xs ≤ length (without n xs)
same_without n [] a = omega arith
same_without n (x ∷ xs) a = go (x == n) refl (same_without n xs (λ i. a (inr i)))
  where
    go : (t : Bool) → (x == n) ≡ t → length xs ≤ length (without n xs) → length (x ∷ xs) ≤ length (if t then without n xs else x ∷ without n xs)
    go true e h = absurd (a (inl (is_it x n e)))
    go false e h = omega arith

one_without : (n : ℕ) (xs : List ℕ) → Apart xs → length xs ≤ suc (length (without n xs))
one_without n [] a = omega arith
one_without n (x ∷ xs) a = go (x == n) refl (one_without n xs a.1)
  where
    go : (t : Bool) → (x == n) ≡ t → length xs ≤ suc (length (without n xs)) → length (x ∷ xs) ≤ suc (length (if t then without n xs else x ∷ without n xs))
    go true e h = let k : length xs ≤ length (without n xs) = same_without n xs (subst (λ m. In m xs → ⊥) (is_it x n e) a.0) in omega arith
    go false e h = omega arith

pub few : (n : ℕ) (xs : List ℕ) → Apart xs → Below n xs → length xs ≤ n
few zero [] a b = omega arith
few zero (x ∷ xs) a b = absurd (let h : x < 0 = b.0 in omega arith)
few (suc n) xs a b = let h : length (without n xs) ≤ n = few n (without n xs) (apart_without n xs a) (below_without n xs b) in let k : length xs ≤ suc (length (without n xs)) = one_without n xs a in omega arith

pub under_few : (d : Flat) (us : List ℕ) → IsUnder d us → length us ≤ length d.tasks
under_few d us u = few (length d.tasks) us (apart us u) (bounded us u)
  where
    apart : (us : List ℕ) → IsUnder d us → Apart us
    apart [] u = tt
    apart (t ∷ ts) u = (u.1, apart ts u.2)

    bounded : (us : List ℕ) → IsUnder d us → Below (length d.tasks) us
    bounded [] u = tt
    bounded (t ∷ ts) u = (u.0, bounded ts u.2)

-- ---- the bodies of tasks keep what is sound

pub sound_tasks : (d : Flat) → IsSound d → (t : ℕ) (task : FlatTask) → slice_get d.tasks t ≡ Some task → (o : List ℕ) (x : Statement) → Stands [] [] task.body o x → IsStatement d x
sound_tasks d s t task e o x st = s.statements task.body x
    (Contains-append_left (map (λ p. p.body) d.procs ++ map (λ t. t.body) d.tasks) (map (λ f. f.body) d.funcs) task.body
    (Contains-append_right (map (λ p. p.body) d.procs) (map (λ t. t.body) d.tasks) task.body (con_map (λ t. t.body) d.tasks task (con_got d.tasks t task e)))) (o, st)

pub sound_process : (d : Flat) → IsSound d → (p : ℕ) (process : FlatProc) → slice_get d.procs p ≡ Some process → (o : List ℕ) (x : Statement) → Stands [] [] process.body o x → IsStatement d x
sound_process d s p process e o x st = s.statements process.body x
    (Contains-append_left (map (λ p. p.body) d.procs ++ map (λ t. t.body) d.tasks) (map (λ f. f.body) d.funcs) process.body
    (Contains-append_left (map (λ p. p.body) d.procs) (map (λ t. t.body) d.tasks) process.body (con_map (λ p. p.body) d.procs process (con_got d.procs p process e)))) (o, st)

-- ---- tasks so deep

-- sizes where enables nest so deep at most
abbrev pub sizes_at : Flat → (List ℕ → Statement → ℕ) → ℕ → Counting
sizes_at d times b = record { calls = (counting d times b).calls; tasks = (counting d times b).tasks; times = times }

pub sizes_are : (d : Flat) (times : List ℕ → Statement → ℕ) (b : ℕ) → sizes_at d times b ≡ counting d times b
sizes_are d times zero = refl
sizes_are d times (suc b) = refl

pub any : Expr
any = Number (record { width = 1; signed = false }) (word 1 0)

module _ (d : Flat) (p : ℕ) (clean : IsClean d) (sound : IsSound d) (times : List ℕ → Statement → ℕ) (counts : CountsEnough d times) (nets : List Word) (turns : ℕ) (enough : max_turns < turns) where
  pub tasks_stated : (a b : ℕ) (under : List ℕ) → b ≤ a → length d.tasks ≤ length under + b → TasksStated d p clean times counts nets turns enough (enabled_at d nets turns a) ((counting d times b).tasks) under
  tasks_stated a zero under l r t task e marks below h x sh = absurd (let n : length (t ∷ under) ≤ length d.tasks = under_few d (t ∷ under) h.tasks in omega arith)
  tasks_stated zero (suc b) under l r t task e marks below h x sh = absurd (omega arith)
  tasks_stated (suc a) (suc b) under l r t task e marks below h x sh =
      subst (λ n. Stated d p clean times counts nets turns enough (task.mark ∷ marks) task.body below n x (enabled_at d nets turns (suc a) task below x)) same
      (sane d p clean times counts nets turns enough (sound_tasks d sound) (enabled_at d nets turns a) ((counting d times b).calls) ((counting d times b).tasks) (t ∷ under)
      (tasks_stated a b (t ∷ under) (omega arith) (omega arith)) false any task.body (task.mark ∷ marks) below h (λ e. absurd (let f : false ≡ true = e in cc)) x sh)
    where
      same : size_of (sizes_at d times b) (task.mark ∷ marks) task.body ≡ (counting d times (suc b)).tasks marks t
      same = ap (λ c. size_of c (task.mark ∷ marks) task.body) (sizes_are d times b) ∙ sym (ap (task_size (counting d times b) marks) e)

  -- what is said of a statement run from its start
  pub started : (a b : ℕ) (under : List ℕ) → b ≤ a → length d.tasks ≤ length under + b → (chosen : Bool) (on : Expr) (s : Statement) (marks : List ℕ) (below : List Work) →
      Here d p marks s below under → (chosen ≡ true → ChooseBy on s) → (x : Doing) → IsShaped d x.store →
      Claimed d p clean times counts nets turns enough chosen on marks s below (size_of (sizes_at d times b) marks s) x (go (setting d nets turns a) chosen s below x)
  started a b under l r = sane d p clean times counts nets turns enough (sound_tasks d sound) (enabled_at d nets turns a) ((counting d times b).calls) ((counting d times b).tasks) under (tasks_stated a b under l r)
