-- The rows of the rules on loops and sizes.
use Rattle.std.proofs.Common.{◌≡◌, ◌⊎◌, inl, inr, ◌<◌, ◌≤◌, ◌+◌, ◌*◌, ◌/◌, ◌%◌, ◌^◌, not, ℕ, zero, suc, Bool, true, false, List, [], ◌∷◌, map, sum, length, slice_get, Some, None, refl, sym, ◌∙◌, ap, ap₂, subst, arith}
use Rattle.std.specs.Prelude.{Contains, pos, nat_lt, ltb}
use Rattle.std.specs.List.{list_all}
use Rattle.std.proofs.lemmas.Bool.{ltb-true, ltb-false}
use Rattle.std.proofs.lemmas.Bool.Decides.{nat_tests}
use Rattle.xt_base.specs.declared.refusals.Place.{Place}
use Rattle.xt_bits.specs.Word.{Word, word, truth}
use Rattle.xt_bits.specs.Operators.{add_of, select_of}
use Rattle.xt_bits.proofs.Readings.{select_number}
use Rattle.el_design.specs.Plain.{Expr, ToVariable, Statement, Null, For, While, FlatFunc, FlatProc, Flat}
use Rattle.el_design.specs.Store.{Store, stored, put_all}
use Rattle.el_design.specs.Value.{value, is_up}
use Rattle.el_design.specs.Assign.{writes_of}
use Rattle.el_design.specs.Purity.{contains_number}
use Rattle.el_design.specs.Texts.{texts}
use Rattle.el_design.specs.InPlace.{in_text, in_body, Stands, itself, in_first, in_rest, in_block, Meets, LoopAt, loop_of_process, loop_of_function}
use Rattle.el_design.specs.Turns.{fixed, turned, goes_on, stored_by, body_of, IsFreeOf, HasBound, bound_while, bound_for, HasTurns, of_for, IsEndlessFor, endless_for}
use Rattle.el_design.specs.Walk as walk
use Rattle.el_design.specs.Walk.{HasWalk, IsUnrolled}
use Rattle.el_design.specs.Exits.{TaskExits, no_exit, AreOfTasks}
use Rattle.el_design.specs.Sizes.{Counting, size_of, function_size, counting, Stopping, stops_in, stopping, CountsTurns, CountsStops, u_of, s_of, net_size, nets_size, in_place, once}
use Rattle.el_design.specs.Calls.{task_body, function_body, enables, calls, Chain, no_more, one_more}
use Rattle.el_design.specs.Rules as rules
use Rattle.el_design.specs.Rules.{max_u, max_s, max_products, max_nets_size, products, IsFinite, NestsTooDeep, process_nests, net_nests, process_large, SpinsAt, loop_spins, always_spins, TurnsTooOften, without_end, IsTooLarge, large_u, large_s, large_products, large_nets, IsClean}
use Rattle.el_design.proofs.OrderLists.{con_nil, con_cases, con_all}
use Rattle.el_design.proofs.OrderPlaces.{got_con}
use Rattle.el_design.proofs.WaysPuts.{has_con, not_so, clash}
use Rattle.el_witness.specs.RuleRows.{Row, wait, initial, byte, block, enable, assign, read}
use Rattle.el_witness.specs.Bench.{u, un}
use Rattle.el_design.specs.Checked.{IsChecked}
use Rattle.el_witness.proofs.SoundTests.{answered, is_sound}
use Rattle.el_witness.specs.LoopRows as rows
use Rattle.el_witness.proofs.TextTests as text
use Rattle.el_witness.proofs.PlaceTests as place
use Rattle.el_witness.proofs.LoopTests as loops
use Rattle.el_witness.proofs.LoopTests.{not_counted}
use Rattle.el_witness.proofs.PlaceTests.{nothing, no_inside, loops_among, kept_loop}

-- ---- designs without tasks

meets_first : (d : Flat) (p : FlatProc) (ps : List FlatProc) {marks : List ℕ} {x : Statement} → d.procs ≡ p ∷ ps → Stands d.tasks [] p.body marks x → Meets d 0 marks x
meets_first d p ps e st = record { process = p; is = rw e refl; stands = st }

abbrev none : TaskExits
none t marks = no_exit

of_none : (d : Flat) → d.tasks ≡ [] → AreOfTasks d not_counted none
of_none d n t task marks e = let f : None ≡ Some task = ap (λ ts. slice_get ts t) (sym n) ∙ e in cc

-- ---- rule 61

pub branch_without_wait : Row SpinsAt (rows.waits_if Null) 4 (rows.waits_if (wait 8))
branch_without_wait = (
  always_spins (0, omega arith, refl) refl (walk.then (walk.quietly refl) (walk.then (walk.quietly refl) (walk.then (walk.goes_no (λ e. cc)) (walk.then (walk.quietly refl) (walk.then (walk.quietly refl) walk.stays))))),
  loops.none_spins (rows.waits_if (wait 8)) (text.none_recursive (rows.waits_if (wait 8)) (refl, refl)) nothing no_inside none (of_none (rows.waits_if (wait 8)) refl) (refl, refl) refl,
)

while_without_bound : HasBound (rows.loops_while Null) (While (Rattle.el_design.specs.Witnesses.at 6) rows.a (block 7 (assign 8 0 (byte 1) ∷ Null ∷ []))) → ⊥
while_without_bound (bound_while c e) = cc

function_without_bound : HasBound rows.loops_inside (While (Rattle.el_design.specs.Witnesses.at 6) (read 2) (assign 7 1 (read 2))) → ⊥
function_without_bound (bound_while c e) = cc

pub loop_without_wait : Row SpinsAt (rows.loops_while Null) 6 (rows.loops_while (wait 9))
loop_without_wait = (
  loop_spins (loop_of_process (meets_first (rows.loops_while Null) _ _ refl itself)) refl while_without_bound
      (walk.then (walk.quietly refl) (walk.then (walk.quietly refl) (walk.then walk.assigns (walk.then (walk.quietly refl) (walk.then (walk.quietly refl) (walk.then (walk.quietly refl) walk.stays)))))),
  loops.none_spins (rows.loops_while (wait 9)) (text.none_recursive (rows.loops_while (wait 9)) (refl, refl)) nothing no_inside none (of_none (rows.loops_while (wait 9)) refl) (refl, refl) refl,
)

-- a loop of a function
pub function_without_wait : Row SpinsAt rows.loops_inside 6 rows.tests_inside
function_without_wait = (
  loop_spins (loop_of_function (0, omega arith, refl) (in_block (in_first itself))) refl function_without_bound (walk.then walk.assigns walk.stays),
  loops.none_spins rows.tests_inside (text.none_recursive rows.tests_inside (refl, refl)) nothing no_inside none (of_none rows.tests_inside refl) (refl, refl) refl,
)

-- ---- turns

abbrev with_index : Word → Store
with_index x = (word 8 0 ∷ []) ∷ (x ∷ []) ∷ []

stored_next : (k : ℕ) → k ≤ 1025 → select_of (add_of (word 32 k) (word 32 1)) (pos 0) 32 ≡ word 32 (suc k)
stored_next k h =
    let same : ((k % 2 ^ 32 + 1) % 2 ^ 32) / 2 ^ 0 ≡ suc k = omega (arith, h) in
    select_number (add_of (word 32 k) (word 32 1)) 0 32 ∙ ap (word 32) same

small : (k : ℕ) → k ≤ 1025 → k % 2 ^ 32 ≡ k
small k h = omega (arith, h)

truth_is : (b : Bool) → is_up (truth b) ≡ b
truth_is true = refl
truth_is false = refl

-- a variable to which no statement of a text stores
free_text : (d : Flat) (v : ℕ) (b : Statement) → d.tasks ≡ [] → list_all (λ x. not (contains_number (stored_by d x) v)) (texts b) ≡ true → IsFreeOf d v b
free_text d v b n h x (in_text c) k = clash (contains_number (stored_by d x) v) (has_con (stored_by d x) v k) (not_so (contains_number (stored_by d x) v) (con_all (λ y. not (contains_number (stored_by d y) v)) (texts b) x h c))
free_text d v b n h x (in_body {t = t} {task = task} c e p) k = let f : None ≡ Some task = ap (λ ts. slice_get ts t) (sym n) ∙ e in cc

module _ (test : Expr) (second : Statement) where
  abbrev d : Flat
  d = rows.counts test second

  turned_is : (k : ℕ) → k ≤ 1025 → turned d 1 (un 32 0) rows.next_i k ≡ with_index (word 32 k)
  turned_is zero h = ap with_index (select_number (word 32 0) 0 32)
  turned_is (suc k) h =
      ap (λ st. let c = record (fixed d) { store = st } in put_all st (writes_of d c (ToVariable 1) (value d c rows.next_i))) (turned_is k (omega (arith, h)))
      ∙ ap with_index (stored_next k (omega (arith, h)))

  -- the test at the turn k
  test_is : (n k : ℕ) → n ≤ 1025 → k ≤ 1025 → goes_on d 1 (un 32 0) (rows.below n) rows.next_i k ≡ nat_lt k n
  test_is n k m h =
      ap (λ st. is_up (value d (record (fixed d) { store = st }) (rows.below n))) (turned_is k h)
      ∙ ap (λ x. is_up (truth (nat_lt x (n % 2 ^ 32)))) (small k h) ∙ ap (λ x. is_up (truth (nat_lt k x))) (small n m) ∙ truth_is (nat_lt k n)

-- a loop with this test takes its turns
takes_turns : (n : ℕ) (second : Statement) → n ≤ 1025 → IsFreeOf (rows.counts (rows.below n) second) 1 (rows.body second) → HasTurns (rows.counts (rows.below n) second) (rows.loop (rows.below n) second) n
takes_turns n second m free = of_for (record { start_is = refl; test_is = refl; step_is = refl; free = free })
    (λ k h. let below_it : nat_lt k n ≡ true = grind (arith, nat_tests, h) in test_is (rows.below n) second n k m (omega (arith, h, m)) ∙ below_it)
    (let at_end : nat_lt n n ≡ false = grind (arith, nat_tests) in test_is (rows.below n) second n n m m ∙ at_end)

-- no loop takes two numbers of turns, nor both a number of them and all
turns_meet : (f : ℕ → Bool) (n m : ℕ) → ((k : ℕ) → k < n → f k ≡ true) → f n ≡ false → ((k : ℕ) → k < m → f k ≡ true) → f m ≡ false → n ≡ m
turns_meet f n m h e k i = go (ltb n m) refl (ltb m n) refl
  where
    go : (a : Bool) → ltb n m ≡ a → (b : Bool) → ltb m n ≡ b → n ≡ m
    go true p b q = clash (f n) (k n (ltb-true n m p)) e
    go false p true q = clash (f m) (h m (ltb-true m n q)) i
    go false p false q = let x : m ≤ n = ltb-false n m p in let y : n ≤ m = ltb-false m n q in omega (arith, x, y)

one_count : {d : Flat} {at : Place} {v n m : ℕ} {first test next : Expr} {b : Statement} → HasTurns d (For at v first test next b) n → HasTurns d (For at v first test next b) m → n ≡ m
one_count {d = d} {v = v} {n = n} {m = m} {first = first} {test = test} {next = next} (of_for c h e) (of_for c2 k i) = turns_meet (goes_on d v first test next) n m h e k i

not_endless : {d : Flat} {at : Place} {v n : ℕ} {first test next : Expr} {b : Statement} → HasTurns d (For at v first test next b) n → IsEndlessFor d (For at v first test next b) → ⊥
not_endless {d = d} {v = v} {n = n} {first = first} {test = test} {next = next} (of_for c h e) (endless_for c2 k) = clash (goes_on d v first test next n) (k n) e

-- what a design of one loop has for loops
module _ (test : Expr) (second : Statement) where
  abbrev there : List ℕ × Statement
  there = ([], rows.loop test second)

  abbrev found : ℕ → List (List ℕ × Statement)
  found p = loops_among (place.placed_of (rows.counts test second) nothing no_inside p)

  lone_loop : found 0 ≡ there ∷ [] → (p : ℕ) (y : List ℕ × Statement) → Contains (found p) y → there ≡ y
  lone_loop e zero y c = go (con_cases there y [] (subst (λ l. Contains l y) e c))
    where
      go : (there ≡ y) ⊎ Contains [] y → there ≡ y
      go (inl i) = i
      go (inr n) = absurd (con_nil y n)
  lone_loop e (suc zero) y c = absurd (con_nil y c)
  lone_loop e (suc (suc p)) y c = absurd (con_nil y c)

  loop_at : found 0 ≡ there ∷ [] → {marks : List ℕ} {x b : Statement} → LoopAt (rows.counts test second) marks x → body_of x ≡ Some b → there ≡ (marks, x)
  loop_at e {marks = marks} {x = x} (loop_of_process {p = p} m) i =
      lone_loop e p (marks, x) (kept_loop (place.placed_of (rows.counts test second) nothing no_inside p) (marks, x) i (place.met_placed (rows.counts test second) nothing no_inside m))
  loop_at e (loop_of_function {g = g} c s) i = absurd (con_nil g c)

  -- the loop takes so many turns
  only_turns : (k : ℕ) → found 0 ≡ there ∷ [] → HasTurns (rows.counts test second) (rows.loop test second) k → {marks : List ℕ} {x b : Statement} {n : ℕ} → LoopAt (rows.counts test second) marks x → body_of x ≡ Some b → HasTurns (rows.counts test second) x n → n ≡ k
  only_turns k e t {n = n} l i h = one_count (subst (λ y. HasTurns (rows.counts test second) y.1 n) (sym (loop_at e l i)) h) t

  few_turns : (k : ℕ) → k ≤ 1024 → found 0 ≡ there ∷ [] → HasTurns (rows.counts test second) (rows.loop test second) k → (place : Place) → TurnsTooOften (rows.counts test second) place → ⊥
  few_turns k f e t _ (rules.too_many l b h m w) = let same = only_turns k e t l b h in omega (arith, m, same, f)
  few_turns k f e t _ (rules.without_end l b h w) = not_endless t (subst (λ y. IsEndlessFor (rows.counts test second) y.1) (sym (loop_at e l b)) h)

free_null : (n : ℕ) → IsFreeOf (rows.takes n) 1 (rows.body Null)
free_null n = free_text (rows.takes n) 1 (rows.body Null) refl refl

pub turns_1025 : Row TurnsTooOften (rows.takes 1025) 5 (rows.takes 1024)
turns_1025 = (
  rules.too_many (loop_of_process (meets_first (rows.takes 1025) _ _ refl itself)) refl (takes_turns 1025 Null (omega arith) (free_null 1025)) (omega arith)
      (walk.then (walk.quietly refl) (walk.then (walk.quietly refl) (walk.then walk.assigns (walk.then (walk.quietly refl) (walk.then (walk.quietly refl) (walk.then (walk.quietly refl) walk.stays)))))),
  few_turns (rows.below 1024) Null 1024 (omega arith) refl (takes_turns 1024 Null (omega arith) (free_null 1024)),
)

abbrev forever : Flat
forever = rows.never_ends Null

never_below : (x : Word) → is_up (truth (not (nat_lt x.value 0))) ≡ true
never_below x = let e : nat_lt x.value 0 ≡ false = grind (arith, nat_tests) in ap (λ b. is_up (truth (not b))) e

pub never_fails : Row TurnsTooOften (rows.never_ends Null) 5 (rows.never_ends (wait 8))
never_fails = (
  without_end (loop_of_process (meets_first forever _ _ refl itself)) refl
      (endless_for (record { start_is = refl; test_is = refl; step_is = refl; free = free_text forever 1 (rows.body Null) refl refl }) (λ k. never_below (stored (turned forever 1 (un 32 0) rows.next_i k) 1 0 32)))
      (walk.then (walk.quietly refl) (walk.then (walk.quietly refl) (walk.then walk.assigns (walk.then (walk.quietly refl) (walk.then (walk.quietly refl) (walk.then (walk.quietly refl) walk.stays)))))),
  loops.none_turns (rows.never_ends (wait 8)) (text.none_recursive (rows.never_ends (wait 8)) (refl, refl)) nothing no_inside none (of_none (rows.never_ends (wait 8)) refl) (refl, refl),
)

-- ---- sizes: how often such a loop counts

module _ (n : ℕ) (few : n ≤ 1025) (second : Statement) (free : IsFreeOf (rows.counts (rows.below n) second) 1 (rows.body second)) (alone : found (rows.below n) second 0 ≡ there (rows.below n) second ∷ [])
    (walks : HasWalk (rows.counts (rows.below n) second) [] (rows.body second))
  where
    abbrev looping : Flat
    looping = rows.counts (rows.below n) second

    abbrev its_loop : Statement
    its_loop = rows.loop (rows.below n) second

    takes_them : HasTurns looping its_loop n
    takes_them = takes_turns n second few free

    unrolled_loop : IsUnrolled looping [] its_loop n
    unrolled_loop = record { turns_are = takes_them; body = rows.body second; body_is = refl; walk = walks }

    at_loop : LoopAt looping [] its_loop
    at_loop = loop_of_process (meets_first looping _ _ refl itself)

    abbrev n_times : List ℕ → Statement → ℕ
    n_times marks (For at v first test next body) = suc n
    n_times marks x = 1

    times_right : {marks : List ℕ} {x : Statement} {k : ℕ} → LoopAt looping marks x → IsUnrolled looping marks x k → n_times marks x ≡ suc k
    times_right {marks = marks} {x = x} {k = k} l un =
        let same : k ≡ n = only_turns (rows.below n) second n alone takes_them l un.body_is un.turns_are in
        subst (λ y. n_times y.0 y.1 ≡ suc k) (loop_at (rows.below n) second alone l un.body_is) (ap suc (sym same))

    once_others : (marks : List ℕ) (s : Statement) → LoopAt looping marks s → ((k : ℕ) → IsUnrolled looping marks s k → ⊥) → n_times marks s ≡ 1
    once_others marks (For at v first test next b) l none_un = absurd (none_un n (subst (λ y. IsUnrolled looping y.0 y.1 n) (loop_at (rows.below n) second alone l refl) unrolled_loop))
    once_others marks s l none_un = refl

    counts_n : CountsTurns looping n_times
    counts_n = record { unrolled = λ marks s k l un. times_right l un; others = once_others }

    its_times : (times : List ℕ → Statement → ℕ) → CountsTurns looping times → times [] its_loop ≡ suc n
    its_times times c = c.unrolled [] its_loop n at_loop unrolled_loop

-- a loop that adds twice in each turn
walks_twice : (n : ℕ) → HasWalk (rows.adds_twice n) [] (rows.body (rows.more_x 8))
walks_twice n = walk.then (walk.quietly refl) (walk.then (walk.quietly refl) (walk.then walk.assigns (walk.then (walk.quietly refl) (walk.then walk.assigns (walk.then (walk.quietly refl) walk.stays)))))

free_twice : (n : ℕ) → IsFreeOf (rows.adds_twice n) 1 (rows.body (rows.more_x 8))
free_twice n = free_text (rows.adds_twice n) 1 (rows.body (rows.more_x 8)) refl refl

u_twice : (n : ℕ) → n ≤ 1025 → (times : List ℕ → Statement → ℕ) → CountsTurns (rows.adds_twice n) times → u_of (rows.adds_twice n) times (initial 4 (rows.loop (rows.below n) (rows.more_x 8))) ≡ 1 + suc n * 21
u_twice n few times c = ap (λ t. 1 + t * 21) (its_times n few (rows.more_x 8) (free_twice n) refl (walks_twice n) times c)

s_twice : (n : ℕ) → (often : List ℕ → Statement → ℕ) → s_of (rows.adds_twice n) often (initial 4 (rows.loop (rows.below n) (rows.more_x 8))) ≡ 1
s_twice n often = let e : often [] (rows.loop (rows.below n) (rows.more_x 8)) * 0 ≡ 0 = omega arith in ap (λ t. 1 + t) e

of_one : (p q : FlatProc) → Contains (p ∷ []) q → p ≡ q
of_one p q c = go (con_cases p q [] c)
  where
    go : (p ≡ q) ⊎ Contains [] q → p ≡ q
    go (inl e) = e
    go (inr n) = absurd (con_nil q n)

abbrev one_product : ℕ → ℕ → ℕ
one_product s u = sum (s * u ∷ [])

not_large_900 : (place : Place) → IsTooLarge (rows.adds_twice 900) place → ⊥
not_large_900 _ (large_u {process = q} times c k l) =
    let e : u_of (rows.adds_twice 900) times q ≡ 18922 = subst (λ p. u_of (rows.adds_twice 900) times p ≡ 18922) (of_one _ q k) (u_twice 900 (omega arith) times c) in omega (arith, e, l)
not_large_900 _ (large_s {process = q} often c k l) =
    let e : s_of (rows.adds_twice 900) often q ≡ 1 = subst (λ p. s_of (rows.adds_twice 900) often p ≡ 1) (of_one _ q k) (s_twice 900 often) in omega (arith, e, l)
not_large_900 _ (large_products times often c k l) =
    let e : products (rows.adds_twice 900) times often ≡ 18922 = ap₂ one_product (s_twice 900 often) (u_twice 900 (omega arith) times c) in omega (arith, e, l)
not_large_900 _ (large_nets times c l) = let e : nets_size (rows.adds_twice 900) times ≡ 0 = refl in omega (arith, e, l)

abbrev thousand : List ℕ → Statement → ℕ
thousand = n_times 1000 (omega arith) (rows.more_x 8) (free_twice 1000) refl (walks_twice 1000)

thousand_counts : CountsTurns (rows.adds_twice 1000) thousand
thousand_counts = counts_n 1000 (omega arith) (rows.more_x 8) (free_twice 1000) refl (walks_twice 1000)

pub turns_count : Row IsTooLarge (rows.adds_twice 1000) 4 (rows.adds_twice 900)
turns_count = (
  large_u thousand thousand_counts (0, omega arith, refl) (subst (λ k. max_u < k) (sym (u_twice 1000 (omega arith) thousand thousand_counts)) (omega arith)),
  not_large_900,
)

-- ---- sizes: waits

module _ (d : Flat) (no_loop : (marks : List ℕ) (s : Statement) → LoopAt d marks s → body_of s ≡ None) where
  turns_once : CountsTurns d once
  turns_once = record { unrolled = λ marks s n l u. let none : None ≡ Some u.body = sym (no_loop marks s l) ∙ u.body_is in cc; others = λ marks s l h. refl }

  stops_once : CountsStops d once
  stops_once = record { unrolled = λ marks s n l u. let none : None ≡ Some u.body = sym (no_loop marks s l) ∙ u.body_is in cc; others = λ marks s l h. refl }

waits_size : (c : Counting) (n : ℕ) → size_of c [] (rows.waits n) ≡ n
waits_size c zero = refl
waits_size c (suc n) = let less : size_of c [] (rows.waits n) ≡ n = waits_size c n in omega (arith, less)

waits_stops : (c : Stopping) (n : ℕ) → stops_in c [] (rows.waits n) ≡ n
waits_stops c zero = refl
waits_stops c (suc n) = let less : stops_in c [] (rows.waits n) ≡ n = waits_stops c n in omega (arith, less)

waits_only : (n : ℕ) {marks o : List ℕ} {x : Statement} → Stands [] marks (rows.waits n) o x → body_of x ≡ None
waits_only zero itself = refl
waits_only (suc n) itself = refl
waits_only (suc n) (in_first itself) = refl
waits_only (suc n) (in_rest h) = waits_only n h

-- any such process in a design without tasks and functions
u_waits : (d : Flat) (times : List ℕ → Statement → ℕ) (n : ℕ) (p : FlatProc) → rows.waits n ≡ p.body → u_of d times p ≡ 1 + n
u_waits d times n p e = ap (λ b. 1 + size_of (in_place d times) [] b) (sym e) ∙ ap (λ m. 1 + m) (waits_size (in_place d times) n)

s_waits : (d : Flat) (often : List ℕ → Statement → ℕ) (n : ℕ) (p : FlatProc) → rows.waits n ≡ p.body → s_of d often p ≡ 1 + n
s_waits d often n p e = ap (λ b. 1 + stops_in (stopping d often (length d.tasks)) [] b) (sym e) ∙ ap (λ m. 1 + m) (waits_stops (stopping d often (length d.tasks)) n)

alone_body : (n p : ℕ) (process : FlatProc) → slice_get (rows.waits_alone n).procs p ≡ Some process → rows.waits n ≡ process.body
alone_body n zero process e = ap (λ o. elim o [ Some x ↦ x.body | None ↦ rows.waits n ]) e
alone_body n (suc p) process e = absurd (let f : None ≡ Some process = e in cc)

beside_body : (n p : ℕ) (process : FlatProc) → slice_get (rows.waits_beside n).procs p ≡ Some process → rows.waits n ≡ process.body
beside_body n zero process e = ap (λ o. elim o [ Some x ↦ x.body | None ↦ rows.waits n ]) e
beside_body n (suc zero) process e = ap (λ o. elim o [ Some x ↦ x.body | None ↦ rows.waits n ]) e
beside_body n (suc (suc p)) process e = absurd (let f : None ≡ Some process = e in cc)

alone_no_loop : (n : ℕ) (marks : List ℕ) (s : Statement) → LoopAt (rows.waits_alone n) marks s → body_of s ≡ None
alone_no_loop n marks s (loop_of_process {p = p} m) = waits_only n (subst (λ b. Stands [] [] b marks s) (sym (alone_body n p m.process m.is)) m.stands)
alone_no_loop n marks s (loop_of_function c h) = absurd (con_nil _ c)

beside_no_loop : (n : ℕ) (marks : List ℕ) (s : Statement) → LoopAt (rows.waits_beside n) marks s → body_of s ≡ None
beside_no_loop n marks s (loop_of_process {p = p} m) = waits_only n (subst (λ b. Stands [] [] b marks s) (sym (beside_body n p m.process m.is)) m.stands)
beside_no_loop n marks s (loop_of_function c h) = absurd (con_nil _ c)

abbrev two_products : ℕ → ℕ → ℕ
two_products s u = sum (s * u ∷ s * u ∷ [])

alone_products : (times often : List ℕ → Statement → ℕ) (n : ℕ) → products (rows.waits_alone n) times often ≡ one_product (1 + n) (1 + n)
alone_products times often n = ap₂ one_product (s_waits (rows.waits_alone n) often n (initial 3 (rows.waits n)) refl) (u_waits (rows.waits_alone n) times n (initial 3 (rows.waits n)) refl)

beside_products : (times often : List ℕ → Statement → ℕ) (n : ℕ) → products (rows.waits_beside n) times often ≡ two_products (1 + n) (1 + n)
beside_products times often n = ap₂ two_products (s_waits (rows.waits_beside n) often n (initial 3 (rows.waits n)) refl) (u_waits (rows.waits_beside n) times n (initial 3 (rows.waits n)) refl)

not_large_511 : (place : Place) → IsTooLarge (rows.waits_alone 511) place → ⊥
not_large_511 _ (large_u {process = q} times c k l) = let i = got_con (rows.waits_alone 511).procs q k in let e = u_waits (rows.waits_alone 511) times 511 q (alone_body 511 i.0 q i.1) in omega (arith, e, l)
not_large_511 _ (large_s {process = q} often c k l) = let i = got_con (rows.waits_alone 511).procs q k in let e = s_waits (rows.waits_alone 511) often 511 q (alone_body 511 i.0 q i.1) in omega (arith, e, l)
not_large_511 _ (large_products times often c k l) = let e : products (rows.waits_alone 511) times often ≡ 262144 = alone_products times often 511 in omega (arith, e, l)
not_large_511 _ (large_nets times c l) = let e : nets_size (rows.waits_alone 511) times ≡ 0 = refl in omega (arith, e, l)

pub waits_512 : Row IsTooLarge (rows.waits_alone 512) 3 (rows.waits_alone 511)
waits_512 = (
  large_s once (stops_once (rows.waits_alone 512) (alone_no_loop 512)) (0, omega arith, refl) (subst (λ n. max_s < n) (sym (s_waits (rows.waits_alone 512) once 512 (initial 3 (rows.waits 512)) refl)) (omega arith)),
  not_large_511,
)

not_large_499 : (place : Place) → IsTooLarge (rows.waits_beside 499) place → ⊥
not_large_499 _ (large_u {process = q} times c k l) = let i = got_con (rows.waits_beside 499).procs q k in let e = u_waits (rows.waits_beside 499) times 499 q (beside_body 499 i.0 q i.1) in omega (arith, e, l)
not_large_499 _ (large_s {process = q} often c k l) = let i = got_con (rows.waits_beside 499).procs q k in let e = s_waits (rows.waits_beside 499) often 499 q (beside_body 499 i.0 q i.1) in omega (arith, e, l)
not_large_499 _ (large_products times often c k l) = let e : products (rows.waits_beside 499) times often ≡ 500000 = beside_products times often 499 in omega (arith, e, l)
not_large_499 _ (large_nets times c l) = let e : nets_size (rows.waits_beside 499) times ≡ 0 = refl in omega (arith, e, l)

pub products_500 : Row IsTooLarge (rows.waits_beside 500) 1 (rows.waits_beside 499)
products_500 = (
  large_products once once (turns_once (rows.waits_beside 500) (beside_no_loop 500)) (stops_once (rows.waits_beside 500) (beside_no_loop 500))
      (let large : max_products < 502002 = omega arith in subst (λ n. max_products < n) (sym (beside_products once once 500)) large),
  not_large_499,
)

-- ---- sizes: functions with two calls each

function_at : (j n k m : ℕ) → k < n → m ≡ j + k → slice_get (rows.doubling_functions j n) k ≡ Some (rows.doubling_function m)
function_at j zero k m h e = absurd (omega (arith, h))
function_at j (suc n) zero m h e = let same : j ≡ m = omega (arith, e) in ap (λ x. Some (rows.doubling_function x)) same
function_at j (suc n) (suc k) m h e = function_at (suc j) n k m (omega (arith, h)) (omega (arith, e))

functions_count : (j n : ℕ) → length (rows.doubling_functions j n) ≡ n
functions_count j zero = refl
functions_count j (suc n) = ap suc (functions_count (suc j) n)

abbrev summed : ℕ → ℕ
summed zero = 3
summed (suc k) = 5 + 2 * summed k

sum_size : (c : Counting) (k size : ℕ) → c.calls k ≡ size → size_of c [] (assign 3 (suc k) (rows.two_calls (suc k))) ≡ 5 + 2 * size
sum_size c k size e = let same : c.calls k ≡ size = e in omega (arith, same)

module _ (times : List ℕ → Statement → ℕ) where
  function_sizes : (m k : ℕ) → k ≤ m → (counting (rows.doubles_in_net m) times (suc k)).calls k ≡ summed k
  function_sizes m zero h = ap (function_size (counting (rows.doubles_in_net m) times 0)) (function_at 0 (suc m) 0 0 (omega arith) refl)
  function_sizes m (suc k) h =
      ap (function_size (counting (rows.doubles_in_net m) times (suc k))) (function_at 0 (suc m) (suc k) (suc k) (omega (arith, h)) (omega arith))
      ∙ sum_size (counting (rows.doubles_in_net m) times (suc k)) k (summed k) (function_sizes m k (omega (arith, h)))

  call_size : (c : Counting) (m size : ℕ) → c.calls m ≡ size → sum (map (net_size c) (rows.doubles_in_net m).nets) ≡ 1 + size
  call_size c m size e = let same : c.calls m ≡ size = e in omega (arith, same)

  doubling_nets : (m : ℕ) → nets_size (rows.doubles_in_net m) times ≡ 1 + summed m
  doubling_nets m =
      let all : length (rows.doubling_functions 0 (suc m)) ≡ suc m = functions_count 0 (suc m) in
      let nesting : 0 + length (rows.doubling_functions 0 (suc m)) ≡ suc m = omega (arith, all) in
      ap (λ n. sum (map (net_size (counting (rows.doubles_in_net m) times n)) (rows.doubles_in_net m).nets)) nesting
      ∙ call_size (counting (rows.doubles_in_net m) times (suc m)) m (summed m) (function_sizes m m (omega arith))

function_is : (j n i : ℕ) (g : FlatFunc) → slice_get (rows.doubling_functions j n) i ≡ Some g → (k : ℕ) × (assign 3 k (rows.two_calls k) ≡ g.body)
function_is j zero i g e = cc
function_is j (suc n) zero g e = (j, ap (λ o. elim o [ Some x ↦ x.body | None ↦ assign 3 j (rows.two_calls j) ]) e)
function_is j (suc n) (suc i) g e = function_is (suc j) n i g e

assigns_only : {marks o : List ℕ} {line v : ℕ} {e : Expr} {x : Statement} → Stands [] marks (assign line v e) o x → body_of x ≡ None
assigns_only itself = refl

doubling_no_loop : (m : ℕ) (marks : List ℕ) (s : Statement) → LoopAt (rows.doubles_in_net m) marks s → body_of s ≡ None
doubling_no_loop m marks s (loop_of_process h) = let none : None ≡ Some h.process = h.is in cc
doubling_no_loop m marks s (loop_of_function {g = g} c h) =
    let at_place : (i : ℕ) × (slice_get (rows.doubling_functions 0 (suc m)) i ≡ Some g) = got_con (rows.doubling_functions 0 (suc m)) g c in
    let is : (k : ℕ) × (assign 3 k (rows.two_calls k) ≡ g.body) = function_is 0 (suc m) at_place.0 g at_place.1 in
    assigns_only (subst (λ b. Stands [] [] b marks s) (sym is.1) h)

not_large_16 : (place : Place) → IsTooLarge (rows.doubles_in_net 15) place → ⊥
not_large_16 _ (large_u {process = q} times c k l) = con_nil q k
not_large_16 _ (large_s {process = q} often c k l) = con_nil q k
not_large_16 _ (large_products times often c k l) = let e : products (rows.doubles_in_net 15) times often ≡ 0 = refl in omega (arith, e, l)
not_large_16 _ (large_nets times c l) = let e : nets_size (rows.doubles_in_net 15) times ≡ 262140 = doubling_nets times 15 in omega (arith, e, l)

pub functions_17 : Row IsTooLarge (rows.doubles_in_net 16) 1 (rows.doubles_in_net 15)
functions_17 = (
  large_nets once (turns_once (rows.doubles_in_net 16) (doubling_no_loop 16)) (let large : max_nets_size < 524284 = omega arith in subst (λ n. max_nets_size < n) (sym (doubling_nets once 16)) large),
  not_large_16,
)

-- ---- rule 82: chains of tasks and of functions

task_at : (j n k m : ℕ) → k < n → m ≡ j + k → slice_get (rows.chained_tasks j n) k ≡ Some (rows.chained_task m)
task_at j zero k m h e = absurd (omega (arith, h))
task_at j (suc n) zero m h e = let same : j ≡ m = omega (arith, e) in ap (λ x. Some (rows.chained_task x)) same
task_at j (suc n) (suc k) m h e = task_at (suc j) n k m (omega (arith, h)) (omega (arith, e))

chain_of_tasks : (m k : ℕ) → k ≤ m → Chain (rows.enables_chain m) k (rows.one_down k)
chain_of_tasks m zero h = no_more
chain_of_tasks m (suc k) h = one_more ([], itself) enables (task_body (task_at 0 (suc m) k k (omega (arith, h)) (omega arith))) (chain_of_tasks m k (omega (arith, h)))

pub tasks_65 : Row NestsTooDeep (rows.enables_chain 64) 3 (rows.enables_chain 63)
tasks_65 = (
  process_nests (0, omega arith, refl) (one_more ([], itself) enables (task_body (task_at 0 65 64 64 (omega arith) (omega arith))) (chain_of_tasks 64 64 (omega arith))),
  text.none_nested (rows.enables_chain 63) (refl, refl) refl (omega arith) refl,
)

chained_at : (j n k m : ℕ) → k < n → m ≡ j + k → slice_get (rows.chained_functions j n) k ≡ Some (rows.chained_function m)
chained_at j zero k m h e = absurd (omega (arith, h))
chained_at j (suc n) zero m h e = let same : j ≡ m = omega (arith, e) in ap (λ x. Some (rows.chained_function x)) same
chained_at j (suc n) (suc k) m h e = chained_at (suc j) n k m (omega (arith, h)) (omega (arith, e))

chained_count : (j n : ℕ) → length (rows.chained_functions j n) ≡ n
chained_count j zero = refl
chained_count j (suc n) = ap suc (chained_count (suc j) n)

chain_of_functions : (m k : ℕ) → k ≤ m → Chain (rows.calls_chain m) k (assign 3 k (rows.one_call k))
chain_of_functions m zero h = no_more
chain_of_functions m (suc k) h =
    let all : length (rows.chained_functions 0 (suc m)) ≡ suc m = chained_count 0 (suc m) in
    one_more ([], itself) (calls (omega (arith, h, all)) (0, omega arith, refl)) (function_body (chained_at 0 (suc m) k k (omega (arith, h)) (omega arith))) (chain_of_functions m k (omega (arith, h)))

pub functions_65 : Row NestsTooDeep (rows.calls_chain 64) 4 (rows.calls_chain 63)
functions_65 = (
  net_nests {f = 64} (0, omega arith, refl) refl (0, omega arith, refl) (function_body (chained_at 0 65 64 64 (omega arith) (omega arith))) (chain_of_functions 64 64 (omega arith)),
  text.none_nested (rows.calls_chain 63) (refl, refl) refl (omega arith) refl,
)

pub tasks_double : Row NestsTooDeep (rows.enables_twice 12) 3 (rows.enables_twice 11)
tasks_double = (
  process_large (0, omega arith, refl) (ltb-true max_u (u_of (rows.enables_twice 12) once (initial 3 (enable 4 12))) refl),
  text.none_nested (rows.enables_twice 11) (refl, refl) refl (omega arith) refl,
)

-- ---- the loop of 1,024 turns breaks no rule

abbrev pub longest : Flat
longest = rows.takes 1024

abbrev longest_loop : Statement
longest_loop = rows.loop (rows.below 1024) Null

walks_null : (n : ℕ) → HasWalk (rows.takes n) [] (rows.body Null)
walks_null n = walk.then (walk.quietly refl) (walk.then (walk.quietly refl) (walk.then walk.assigns (walk.then (walk.quietly refl) (walk.then (walk.quietly refl) (walk.then (walk.quietly refl) walk.stays)))))

longest_u : (times : List ℕ → Statement → ℕ) → CountsTurns longest times → u_of longest times (initial 4 longest_loop) ≡ 17426
longest_u times c = ap (λ t. 1 + t * 17) (its_times 1024 (omega arith) Null (free_null 1024) refl (walks_null 1024) times c)

longest_s : (often : List ℕ → Statement → ℕ) → s_of longest often (initial 4 longest_loop) ≡ 1
longest_s often = let e : often [] longest_loop * 0 ≡ 0 = omega arith in ap (λ t. 1 + t) e

longest_not_large : (place : Place) → IsTooLarge longest place → ⊥
longest_not_large _ (large_u {process = q} times c k l) = let e : u_of longest times q ≡ 17426 = subst (λ p. u_of longest times p ≡ 17426) (of_one _ q k) (longest_u times c) in omega (arith, e, l)
longest_not_large _ (large_s {process = q} often c k l) = let e : s_of longest often q ≡ 1 = subst (λ p. s_of longest often p ≡ 1) (of_one _ q k) (longest_s often) in omega (arith, e, l)
longest_not_large _ (large_products times often c k l) = let e : products longest times often ≡ 17426 = ap₂ one_product (longest_s often) (longest_u times c) in omega (arith, e, l)
longest_not_large _ (large_nets times c l) = let e : nets_size longest times ≡ 0 = refl in omega (arith, e, l)

longest_bound : HasBound longest longest_loop
longest_bound = bound_for (record { start_is = refl; test_is = refl; step_is = refl; free = free_null 1024 })

longest_waits : (place : Place) → SpinsAt longest place → ⊥
longest_waits _ (loop_spins l b n w) = n (subst (λ y. HasBound longest y.1) (loop_at (rows.below 1024) Null refl l b) longest_bound)
longest_waits _ (always_spins {process = q} c a w) = let e : false ≡ true = ap (λ p. p.always) (of_one (initial 4 longest_loop) q c) ∙ a in cc

no_marks : place.OwnMarks longest nothing no_inside
no_marks zero m c = absurd (con_nil m c)
no_marks (suc p) m c = absurd (con_nil m c)

longest_clean : IsClean longest
longest_clean pass rule at (rules.impure h) = text.none_impure longest refl at h
longest_clean pass rule at (rules.recursive h) = text.none_recursive longest (refl, refl) at h
longest_clean pass rule at (rules.misfit h) = text.none_misfit longest (refl, refl, refl) at h
longest_clean pass rule at (rules.disables f h) = place.none_disables longest nothing no_inside refl no_marks refl at h
longest_clean pass rule at (rules.host_inside f h) = text.none_inside longest (refl, refl) at h
longest_clean pass rule at (rules.nested f h) = text.none_nested longest (refl, refl) refl (omega arith) refl at h
longest_clean pass rule at (rules.spins h) = longest_waits at h
longest_clean pass rule at (rules.turns h) = turns_1025.1 at h
longest_clean pass rule at (rules.too_large h) = longest_not_large at h
longest_clean pass rule at (rules.two_writers h) = place.none_twice longest nothing no_inside refl at h
longest_clean pass rule at (rules.both_kinds h) = place.none_both_ways longest nothing no_inside refl at h
longest_clean pass rule at (rules.across h) = place.none_across longest nothing no_inside refl refl at h
longest_clean pass rule at (rules.nets_circle h) = place.none_in_circle longest refl at h

pub longest_is_checked : IsChecked (rows.takes 1024) []
longest_is_checked = record { sound = answered (is_sound longest) refl; clean = longest_clean; ordered = place.in_order longest refl }
