-- The meter breaks no rule: the tests hold of it, and each of its two loops ends.
use Rattle.std.proofs.Common.{◌≡◌, ◌⊎◌, inl, inr, ◌<◌, ◌≤◌, ℕ, zero, suc, Bool, true, false, List, [], ◌∷◌, slice_get, Some, None, sum, ◌*◌, refl, sym, ap₂, subst, arith}
use Rattle.std.specs.Prelude.{Contains}
use Rattle.std.proofs.lemmas.Bool.{leb-true}
use Rattle.xt_base.specs.declared.refusals.Place.{Place}
use Rattle.xt_bits.specs.Word as words
use Rattle.xt_bits.specs.Operators as operators
use Rattle.el_design.specs.declared.expressions.BinOp.TheVariants as op
use Rattle.el_design.specs.Plain.{Expr, Statement, For, Enable, Binary, FlatTask, FlatFunc, FlatProc}
use Rattle.el_design.specs.InPlace.{InPlace, Stands, in_text, in_body, LoopAt, loop_of_process, loop_of_function, IsPart, block_part}
use Rattle.el_design.specs.Turns.{body_of, HasBound, bound_for, HasTurns, of_while, of_for, IsEndlessFor, endless_for, IsCounted, goes_on, stored_by}
use Rattle.el_design.specs.Walk as walk
use Rattle.el_design.specs.Walk.{HasWalk, IsUnrolled}
use Rattle.el_design.specs.Exits.{Told, NotCounted, Finite, Past, Alone, TaskExits, no_exit, exits, TellsRightly, AreOfTasks}
use Rattle.el_design.specs.Sizes.{CountsTurns, CountsStops, u_of, s_of, nets_size}
use Rattle.el_design.specs.Calls.{IsImpure, DisablesWrongly}
use Rattle.el_design.specs.Rules as rules
use Rattle.el_design.specs.Rules.{Breaks, IsClean, IsCleanBefore, IsFinite, NestsTooDeep, SpinsAt, TurnsTooOften, IsTooLarge, products}
use Rattle.el_design.specs.Checked.{IsChecked}
use Rattle.el_design.proofs.OrderLists.{con_nil, con_cases, some_is}
use Rattle.el_design.proofs.OrderPlaces.{got_con}
use Rattle.el_design.proofs.Texts.{in_place_met, in_place_stands}
use Rattle.el_design.proofs.WaysPuts.{clash}
use Rattle.el_design.proofs.ExitsWalks.{exits_are_walks}
use Rattle.el_design.proofs.OneSize.{sizes_are_one}
use Rattle.el_witness.specs.Meter.{meter, i_var, sums_var, int, i_value, one_bit, whole, larger, until_up, fetch, until_up_mark, fetch_mark, txn_mark, until_up_loop, waits_or_leaves, four_turns, adds_extra, asking, keeping_peak}
use Rattle.el_witness.proofs.TextTests as text
use Rattle.el_witness.proofs.PlaceTests as place
use Rattle.el_witness.proofs.PlaceTests.{Inside, placed, AreInside, nothing, no_inside, loops_among, kept_loop}
use Rattle.el_witness.proofs.MeterSound.{meter_is_sound}

-- ---- what stands in place

abbrev inside : Inside
inside zero marks = placed nothing (until_up_mark ∷ marks) until_up.body
inside (suc zero) marks = placed (λ t m. placed nothing (until_up_mark ∷ m) until_up.body) (fetch_mark ∷ marks) fetch.body
inside (suc (suc t)) marks = []

is_task : (a b : FlatTask) → Some a ≡ Some b → a ≡ b
is_task a b e = cc

are_inside : AreInside meter.tasks inside
are_inside zero task marks e = subst (λ t. inside 0 marks ≡ placed inside (t.mark ∷ marks) t.body) (is_task until_up task e) refl
are_inside (suc zero) task marks e = subst (λ t. inside 1 marks ≡ placed inside (t.mark ∷ marks) t.body) (is_task fetch task e) refl
are_inside (suc (suc t)) task marks e = absurd (let f : None ≡ Some task = e in cc)

-- ---- the rules that look at texts

descend : text.RoutinesDescend meter
descend = (refl, refl)

is_finite : IsFinite meter
is_finite = text.none_recursive meter descend

fit : text.ArgumentsFit meter
fit = (refl, refl, refl)

alone : text.FunctionsAlone meter
alone = (refl, refl)

-- ---- disables and races

is_own : place.OwnMarks meter inside are_inside
is_own zero m c = go (con_cases txn_mark m [] c)
  where
    go : (txn_mark ≡ m) ⊎ Contains [] m → IsPart meter 0 m
    go (inl e) = subst (IsPart meter 0) e (block_part (record { process = asking; is = refl; there = in_text (2, omega arith, refl) }))
    go (inr n) = absurd (con_nil m n)
is_own (suc zero) m c = absurd (con_nil m c)
is_own (suc (suc p)) m c = absurd (con_nil m c)

-- ---- the loops: the `while` of `until_up`, and the `for` of four turns

abbrev while_marks : List ℕ
while_marks = until_up_mark ∷ fetch_mark ∷ txn_mark ∷ []

abbrev for_marks : List ℕ
for_marks = txn_mark ∷ []

-- a loop that stands there is the one or the other
data Loop : List ℕ → Statement → Type 0 where
  the_while : Loop while_marks until_up_loop
  the_for : Loop for_marks four_turns

abbrev while_there : List ℕ × Statement
while_there = (while_marks, until_up_loop)

abbrev for_there : List ℕ × Statement
for_there = (for_marks, four_turns)

one_loop : (y : List ℕ × Statement) → Contains (while_there ∷ for_there ∷ []) y → Loop y.0 y.1
one_loop y c = first (con_cases while_there y (for_there ∷ []) c)
  where
    second : (for_there ≡ y) ⊎ Contains [] y → Loop y.0 y.1
    second (inl e) = subst (λ y. Loop y.0 y.1) e the_for
    second (inr n) = absurd (con_nil y n)

    first : (while_there ≡ y) ⊎ Contains (for_there ∷ []) y → Loop y.0 y.1
    first (inl e) = subst (λ y. Loop y.0 y.1) e the_while
    first (inr c) = second (con_cases for_there y [] c)

loop_of : (p : ℕ) (y : List ℕ × Statement) → Contains (loops_among (place.placed_of meter inside are_inside p)) y → Loop y.0 y.1
loop_of zero y c = one_loop y c
loop_of (suc zero) y c = absurd (con_nil y c)
loop_of (suc (suc p)) y c = absurd (con_nil y c)

-- of the function's body no loop is part
no_function_loop : (y : List ℕ × Statement) → Contains (loops_among (placed nothing [] larger.body)) y → ⊥
no_function_loop y c = con_nil y c

of_larger : (g : FlatFunc) → Contains meter.funcs g → larger ≡ g
of_larger g c = go (con_cases larger g [] c)
  where
    go : (larger ≡ g) ⊎ Contains [] g → larger ≡ g
    go (inl e) = e
    go (inr n) = absurd (con_nil g n)

loop_at : {marks : List ℕ} {x body : Statement} → LoopAt meter marks x → body_of x ≡ Some body → Loop marks x
loop_at {marks = marks} {x = x} (loop_of_process {p = p} m) e =
    loop_of p (marks, x) (kept_loop (place.placed_of meter inside are_inside p) (marks, x) e (place.met_placed meter inside are_inside m))
loop_at {marks = marks} {x = x} {body = body} (loop_of_function {g = g} c s) e =
    absurd (no_function_loop (marks, x) (kept_loop (placed nothing [] larger.body) (marks, x) e (place.stands_placed [] nothing no_inside [] marks larger.body x (subst (λ f. Stands [] [] f.body marks x) (sym (of_larger g c)) s))))

-- ---- turns

itself_only : (x : Statement) → InPlace meter.tasks x adds_extra → x ≡ adds_extra
itself_only x (in_text c) = go (con_cases adds_extra x [] c)
  where
    go : (adds_extra ≡ x) ⊎ Contains [] x → x ≡ adds_extra
    go (inl e) = sym e
    go (inr n) = absurd (con_nil x n)
itself_only x (in_body {at = at} {t = t} {ins = ins} {outs = outs} c e h) = go (con_cases adds_extra (Enable at t ins outs) [] c)
  where
    go : (adds_extra ≡ Enable at t ins outs) ⊎ Contains [] (Enable at t ins outs) → x ≡ adds_extra
    go (inl e) = cc
    go (inr n) = absurd (con_nil (Enable at t ins outs) n)

free : (x : Statement) → InPlace meter.tasks x adds_extra → Contains (stored_by meter x) i_var → ⊥
free x h c = go (con_cases sums_var i_var [] (subst (λ s. Contains (stored_by meter s) i_var) (itself_only x h) c))
  where
    go : (sums_var ≡ i_var) ⊎ Contains [] i_var → ⊥
    go (inl e) = omega (arith, e)
    go (inr n) = con_nil i_var n

counted : IsCounted meter i_var (int 0) (Binary one_bit op.Lt i_value (int 4)) (Binary whole op.Add i_value (int 1)) adds_extra
counted = record { start_is = refl; test_is = refl; step_is = refl; free = free }

abbrev for_goes : ℕ → Bool
for_goes n = goes_on meter i_var (int 0) (Binary one_bit op.Lt i_value (int 4)) (Binary whole op.Add i_value (int 1)) n

for_goes_0 : for_goes 0 ≡ true
unfolding words.number_of words.bit_of operators.selected_bit operators.turned_bit operators.extended_bit operators.shifted_bit operators.replaced_bit
for_goes_0 = refl

for_goes_1 : for_goes 1 ≡ true
unfolding words.number_of words.bit_of operators.selected_bit operators.turned_bit operators.extended_bit operators.shifted_bit operators.replaced_bit
for_goes_1 = refl

for_goes_2 : for_goes 2 ≡ true
unfolding words.number_of words.bit_of operators.selected_bit operators.turned_bit operators.extended_bit operators.shifted_bit operators.replaced_bit
for_goes_2 = refl

for_goes_3 : for_goes 3 ≡ true
unfolding words.number_of words.bit_of operators.selected_bit operators.turned_bit operators.extended_bit operators.shifted_bit operators.replaced_bit
for_goes_3 = refl

for_ends : for_goes 4 ≡ false
unfolding words.number_of words.bit_of operators.selected_bit operators.turned_bit operators.extended_bit operators.shifted_bit operators.replaced_bit
for_ends = refl

goes_four : (k : ℕ) → k < 4 → for_goes k ≡ true
goes_four zero h = for_goes_0
goes_four (suc zero) h = for_goes_1
goes_four (suc (suc zero)) h = for_goes_2
goes_four (suc (suc (suc zero))) h = for_goes_3
goes_four (suc (suc (suc (suc k)))) h = absurd (omega (arith, h))

takes_four : HasTurns meter four_turns 4
takes_four = of_for counted goes_four for_ends

exactly_four : (n : ℕ) → ((k : ℕ) → k < n → for_goes k ≡ true) → for_goes n ≡ false → n ≡ 4
exactly_four zero h e = clash (for_goes 0) for_goes_0 e
exactly_four (suc zero) h e = clash (for_goes 1) for_goes_1 e
exactly_four (suc (suc zero)) h e = clash (for_goes 2) for_goes_2 e
exactly_four (suc (suc (suc zero))) h e = clash (for_goes 3) for_goes_3 e
exactly_four (suc (suc (suc (suc zero)))) h e = refl
exactly_four (suc (suc (suc (suc (suc k))))) h e = clash (for_goes 4) (h 4 (omega arith)) for_ends

four_alone : {n : ℕ} → HasTurns meter four_turns n → n ≡ 4
four_alone {n = n} (of_for c h e) = exactly_four n h e

no_while_turns : {n : ℕ} → HasTurns meter until_up_loop n → ⊥
no_while_turns (of_while c e) = let f : false ≡ true = c in cc

no_endless : {marks : List ℕ} {x : Statement} → Loop marks x → IsEndlessFor meter x → ⊥
no_endless the_while e = elim e [ ]
no_endless the_for (endless_for c h) = clash (for_goes 4) (h 4) for_ends

is_process : (a b : FlatProc) → Some a ≡ Some b → a ≡ b
is_process a b e = cc

-- ---- walks

abbrev told : Statement → Told
told (For at v first test next body) = Finite 4
told x = NotCounted

abbrev none : TaskExits
none t marks = no_exit

abbrev task_exits : TaskExits
task_exits zero marks = exits meter told none Alone (until_up_mark ∷ marks) until_up.body
task_exits (suc zero) marks = exits meter told (λ t m. exits meter told none Alone (until_up_mark ∷ m) until_up.body) Alone (fetch_mark ∷ marks) fetch.body
task_exits (suc (suc t)) marks = no_exit

of_tasks : AreOfTasks meter told task_exits
of_tasks zero task marks e = subst (λ t. task_exits 0 marks ≡ exits meter told task_exits Alone (t.mark ∷ marks) t.body) (is_task until_up task e) refl
of_tasks (suc zero) task marks e = subst (λ t. task_exits 1 marks ≡ exits meter told task_exits Alone (t.mark ∷ marks) t.body) (is_task fetch task e) refl
of_tasks (suc (suc t)) task marks e = absurd (let f : None ≡ Some task = e in cc)

told_rightly : (at : Place) (v : ℕ) (first test next : Expr) (body : Statement) {marks : List ℕ} → Loop marks (For at v first test next body) → HasTurns meter (For at v first test next body) 4
told_rightly at v first test next body the_for = takes_four

process_told : (p : ℕ) (process : FlatProc) → slice_get meter.procs p ≡ Some process → TellsRightly meter told process.body
process_told p process e at v first test next body h =
    let m = in_place_met (record { process = process; is = e; there = h }) in
    told_rightly at v first test next body (loop_at (loop_of_process {p = p} m.1) refl)

exits_found : (p : ℕ) (process : FlatProc) → slice_get meter.procs p ≡ Some process → exits meter told task_exits Alone [] process.body Past ≡ false → HasWalk meter [] process.body → ⊥
exits_found p process e f w = clash (exits meter told task_exits Alone [] process.body Past) ((exits_are_walks meter is_finite told task_exits of_tasks [] process.body (process_told p process e)).past_only w) f

no_process_walk : (p : ℕ) (process : FlatProc) → slice_get meter.procs p ≡ Some process → HasWalk meter [] process.body → ⊥
no_process_walk zero process e = subst (λ q. HasWalk meter [] q.body → ⊥) (is_process asking process e) (exits_found 0 asking refl refl)
no_process_walk (suc zero) process e = subst (λ q. HasWalk meter [] q.body → ⊥) (is_process keeping_peak process e) (exits_found 1 keeping_peak refl refl)
no_process_walk (suc (suc p)) process e = absurd (let f : None ≡ Some process = e in cc)

-- the body of the `while` waits
while_told : TellsRightly meter told waits_or_leaves
while_told at v first test next body h =
    let s = in_place_stands while_marks waits_or_leaves h in
    absurd (none_in_while (s.0, For at v first test next body) (kept_loop (placed inside while_marks waits_or_leaves) (s.0, For at v first test next body) refl (place.stands_placed meter.tasks inside are_inside while_marks s.0 waits_or_leaves (For at v first test next body) s.1)))
  where
    none_in_while : (y : List ℕ × Statement) → Contains (loops_among (placed inside while_marks waits_or_leaves)) y → ⊥
    none_in_while y c = con_nil y c

while_waits : HasWalk meter while_marks waits_or_leaves → ⊥
while_waits w = clash (exits meter told task_exits Alone while_marks waits_or_leaves Past) ((exits_are_walks meter is_finite told task_exits of_tasks while_marks waits_or_leaves while_told).past_only w) refl

no_loop_spins : {marks : List ℕ} {x body : Statement} → Loop marks x → body_of x ≡ Some body → (HasBound meter x → ⊥) → HasWalk meter marks body → ⊥
no_loop_spins the_while e n w = while_waits (subst (HasWalk meter while_marks) (sym (some_is waits_or_leaves _ e)) w)
no_loop_spins the_for e n w = n (bound_for counted)

none_spins : (at : Place) → SpinsAt meter at → ⊥
none_spins _ (rules.loop_spins l b n w) = no_loop_spins (loop_at l b) b n w
none_spins _ (rules.always_spins {process = q} c a w) = let i = got_con meter.procs q c in no_process_walk i.0 q i.1 w

no_turns : {marks : List ℕ} {x : Statement} {n : ℕ} → Loop marks x → HasTurns meter x n → 1024 < n → ⊥
no_turns the_while t l = no_while_turns t
no_turns the_for t l = let e = four_alone t in omega (arith, e, l)

none_turns : (at : Place) → TurnsTooOften meter at → ⊥
none_turns _ (rules.too_many l b t m w) = no_turns (loop_at l b) t m
none_turns _ (rules.without_end l b e w) = no_endless (loop_at l b) e

-- ---- sizes

-- the `for` counts five times in U and four in S, and the `while` once
abbrev times : List ℕ → Statement → ℕ
times marks (For at v first test next body) = 5
times marks x = 1

abbrev often : List ℕ → Statement → ℕ
often marks (For at v first test next body) = 4
often marks x = 1

unrolled_for : IsUnrolled meter for_marks four_turns 4
unrolled_for = record { turns_are = takes_four; body = adds_extra; body_is = refl; walk = walk.then walk.assigns walk.stays }

times_unrolled : {marks : List ℕ} {x : Statement} {n : ℕ} → Loop marks x → HasTurns meter x n → times marks x ≡ suc n
times_unrolled the_while t = absurd (no_while_turns t)
times_unrolled the_for t = let e = four_alone t in omega (arith, e)

often_unrolled : {marks : List ℕ} {x : Statement} {n : ℕ} → Loop marks x → HasTurns meter x n → often marks x ≡ n
often_unrolled the_while t = absurd (no_while_turns t)
often_unrolled the_for t = let e = four_alone t in omega (arith, e)

not_unrolled : (at : Place) (v : ℕ) (first test next : Expr) (body : Statement) {marks : List ℕ} → Loop marks (For at v first test next body) → ((n : ℕ) → IsUnrolled meter marks (For at v first test next body) n → ⊥) → ⊥
not_unrolled at v first test next body the_for n = n 4 unrolled_for

other_times : (marks : List ℕ) (s : Statement) → LoopAt meter marks s → ((n : ℕ) → IsUnrolled meter marks s n → ⊥) → times marks s ≡ 1
other_times marks (For at v first test next body) l n = absurd (not_unrolled at v first test next body (loop_at l refl) n)
other_times marks s l n = refl

other_often : (marks : List ℕ) (s : Statement) → LoopAt meter marks s → ((n : ℕ) → IsUnrolled meter marks s n → ⊥) → often marks s ≡ 1
other_often marks (For at v first test next body) l n = absurd (not_unrolled at v first test next body (loop_at l refl) n)
other_often marks s l n = refl

counts_turns : CountsTurns meter times
counts_turns = record { unrolled = λ marks s n l u. times_unrolled (loop_at l u.body_is) u.turns_are; others = other_times }

counts_stops : CountsStops meter often
counts_stops = record { unrolled = λ marks s n l u. often_unrolled (loop_at l u.body_is) u.turns_are; others = other_often }

none_impure : (at : Place) → IsImpure meter at → ⊥
none_impure = text.none_impure meter refl

none_disables : (at : Place) → DisablesWrongly meter at → ⊥
none_disables = place.none_disables meter inside are_inside refl is_own refl

none_nested : (at : Place) → NestsTooDeep meter at → ⊥
none_nested = text.none_nested meter descend refl (omega arith) refl

-- no rule of a pass before the one on sizes is broken
clean_before : IsCleanBefore meter 13
clean_before pass rule at l (rules.impure h) = none_impure at h
clean_before pass rule at l (rules.recursive h) = is_finite at h
clean_before pass rule at l (rules.misfit h) = text.none_misfit meter fit at h
clean_before pass rule at l (rules.disables f h) = none_disables at h
clean_before pass rule at l (rules.host_inside f h) = text.none_inside meter alone at h
clean_before pass rule at l (rules.nested f h) = none_nested at h
clean_before pass rule at l (rules.spins h) = none_spins at h
clean_before pass rule at l (rules.turns h) = none_turns at h
clean_before pass rule at l (rules.too_large h) = omega (arith, l)
clean_before pass rule at l (rules.two_writers h) = omega (arith, l)
clean_before pass rule at l (rules.both_kinds h) = omega (arith, l)
clean_before pass rule at l (rules.across h) = omega (arith, l)
clean_before pass rule at l (rules.nets_circle h) = omega (arith, l)

-- whichever way of counting counts rightly, it gives what these give
u_is : (other : List ℕ → Statement → ℕ) → CountsTurns meter other → (p : ℕ) (process : FlatProc) → slice_get meter.procs p ≡ Some process → u_of meter other process ≡ u_of meter times process
u_is other c p process e = (sizes_are_one meter clean_before).0 other times c counts_turns p process e

s_is : (other : List ℕ → Statement → ℕ) → CountsStops meter other → (p : ℕ) (process : FlatProc) → slice_get meter.procs p ≡ Some process → s_of meter other process ≡ s_of meter often process
s_is other c p process e = (sizes_are_one meter clean_before).1 other often c counts_stops p process e

small_u : (p : ℕ) (process : FlatProc) → slice_get meter.procs p ≡ Some process → u_of meter times process ≤ rules.max_u
small_u zero process e = subst (λ q. u_of meter times q ≤ rules.max_u) (is_process asking process e) (leb-true (u_of meter times asking) rules.max_u refl)
small_u (suc zero) process e = subst (λ q. u_of meter times q ≤ rules.max_u) (is_process keeping_peak process e) (leb-true (u_of meter times keeping_peak) rules.max_u refl)
small_u (suc (suc p)) process e = absurd (let f : None ≡ Some process = e in cc)

small_s : (p : ℕ) (process : FlatProc) → slice_get meter.procs p ≡ Some process → s_of meter often process ≤ rules.max_s
small_s zero process e = subst (λ q. s_of meter often q ≤ rules.max_s) (is_process asking process e) (leb-true (s_of meter often asking) rules.max_s refl)
small_s (suc zero) process e = subst (λ q. s_of meter often q ≤ rules.max_s) (is_process keeping_peak process e) (leb-true (s_of meter often keeping_peak) rules.max_s refl)
small_s (suc (suc p)) process e = absurd (let f : None ≡ Some process = e in cc)

small_products : products meter times often ≤ rules.max_products
small_products = leb-true (products meter times often) rules.max_products refl

products_are : (a b : List ℕ → Statement → ℕ) → CountsTurns meter a → CountsStops meter b → products meter a b ≡ products meter times often
products_are a b c k =
    let u0 = u_is a c 0 asking refl in
    let u1 = u_is a c 1 keeping_peak refl in
    let s0 = s_is b k 0 asking refl in
    let s1 = s_is b k 1 keeping_peak refl in
    ap₂ (λ x y. sum (x ∷ y ∷ [])) (ap₂ (λ x y. x * y) s0 u0) (ap₂ (λ x y. x * y) s1 u1)

small_nets : nets_size meter times ≤ rules.max_nets_size
small_nets = leb-true (nets_size meter times) rules.max_nets_size refl

none_large : (at : Place) → IsTooLarge meter at → ⊥
none_large _ (rules.large_u {process = q} other c k l) = let i = got_con meter.procs q k in let e = u_is other c i.0 q i.1 in let s = small_u i.0 q i.1 in omega (arith, e, s, l)
none_large _ (rules.large_s {process = q} other c k l) = let i = got_con meter.procs q k in let e = s_is other c i.0 q i.1 in let s = small_s i.0 q i.1 in omega (arith, e, s, l)
none_large _ (rules.large_products a b c k l) = let e = products_are a b c k in let s = small_products in omega (arith, e, s, l)
none_large _ (rules.large_nets a c l) = let e = (sizes_are_one meter clean_before).2 a times c counts_turns in let s = small_nets in omega (arith, e, s, l)

is_clean : IsClean meter
is_clean pass rule at (rules.impure h) = none_impure at h
is_clean pass rule at (rules.recursive h) = is_finite at h
is_clean pass rule at (rules.misfit h) = text.none_misfit meter fit at h
is_clean pass rule at (rules.disables f h) = none_disables at h
is_clean pass rule at (rules.host_inside f h) = text.none_inside meter alone at h
is_clean pass rule at (rules.nested f h) = none_nested at h
is_clean pass rule at (rules.spins h) = none_spins at h
is_clean pass rule at (rules.turns h) = none_turns at h
is_clean pass rule at (rules.too_large h) = none_large at h
is_clean pass rule at (rules.two_writers h) = place.none_twice meter inside are_inside refl at h
is_clean pass rule at (rules.both_kinds h) = place.none_both_ways meter inside are_inside refl at h
is_clean pass rule at (rules.across h) = place.none_across meter inside are_inside refl refl at h
is_clean pass rule at (rules.nets_circle h) = place.none_in_circle meter refl at h

pub meter_is_checked : IsChecked meter (0 ∷ 1 ∷ 2 ∷ [])
meter_is_checked = record { sound = meter_is_sound; clean = is_clean; ordered = place.in_order meter refl }
