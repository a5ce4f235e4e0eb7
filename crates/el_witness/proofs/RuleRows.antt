-- The rows of the rules: each break is found, and the tests hold of the neighbours.
use Rattle.std.proofs.Common.{◌≡◌, ◌⊎◌, inl, inr, ℕ, zero, suc, Bool, true, false, is_none, List, [], ◌∷◌, Some, None, refl, sym, ap, subst, arith}
use Rattle.std.specs.Prelude.{Contains}
use Rattle.xt_base.specs.declared.refusals.Place.{Place}
use Rattle.el_design.specs.Plain.{Expr, Lvalue, ToVariable, Nowhere, NetValue, Statement, Null, Block, Enable, Disable, FlatTask, FlatProc, Flat}
use Rattle.el_design.specs.Texts.{texts}
use Rattle.el_design.specs.InPlace.{InPlace, in_text, in_body, Stands, itself, in_first, in_rest, in_block, in_named, in_task, HasInPlace, Meets, IsPart, task_part, block_part}
use Rattle.el_design.specs.Touches.{writes_blocking, writes_nonblocking, by_blocking, by_nonblocking, reads, reads_net, names_it, depends, depends_through}
use Rattle.el_design.specs.Calls.{IsImpure, foreign, outside, early, leaves, result_place, IsRecursive, TaskOf, FunctionOf, task_body, function_body, leads_back, leads, there, onward, enables, calls, HasMisfit, misfit_enable, misfit_host, misfit_call, of_function, of_import, of_statement, of_net, in_process, DisablesWrongly, not_own, also_other, in_function, CallsHostInside, inside_statement, inside_net, import_number}
use Rattle.el_design.specs.Rules.{TwoWriters, two_write, WrittenBothWays, both_ways, ReadAcross, variable_across, net_across, NetsInCircle, circle}
use Rattle.el_design.specs.Witnesses.{at}
use Rattle.el_design.proofs.OrderLists.{con_nil, con_cases, con_all}
use Rattle.el_design.proofs.Texts.{met_in_place, in_place_met}
use Rattle.el_witness.specs.Bench.{u}
use Rattle.el_witness.specs.RuleRows as rows
use Rattle.el_witness.specs.RuleRows.{Row}
use Rattle.el_witness.proofs.TextTests as text
use Rattle.el_witness.proofs.PlaceTests as place
use Rattle.el_witness.proofs.PlaceTests.{Inside, placed, AreInside, nothing, no_inside}

-- ---- what stands in place

pub first_has : (d : Flat) (p : FlatProc) (ps : List FlatProc) {marks : List ℕ} {x : Statement} → d.procs ≡ p ∷ ps → Stands d.tasks [] p.body marks x → HasInPlace d 0 x
first_has d p ps e st = met_in_place {marks = _} (record { process = p; is = rw e refl; stands = st })

pub second_has : (d : Flat) (q p : FlatProc) (ps : List FlatProc) {marks : List ℕ} {x : Statement} → d.procs ≡ q ∷ p ∷ ps → Stands d.tasks [] p.body marks x → HasInPlace d 1 x
second_has d q p ps e st = met_in_place {marks = _} (record { process = p; is = rw e refl; stands = st })

-- ---- rule 50

pub holds_back : Row IsImpure rows.holds_back 7 rows.assigns
holds_back = (foreign (0, omega arith, refl) ([], in_block (in_rest (in_first itself))) refl, text.none_impure rows.assigns refl)

pub waits_inside : Row IsImpure rows.waits_inside 7 rows.assigns
waits_inside = (foreign (0, omega arith, refl) ([], in_block (in_rest (in_first itself))) refl, text.none_impure rows.assigns refl)

pub names_outside : Row IsImpure rows.names_outside 7 rows.assigns
names_outside = (outside (0, omega arith, refl) ([], in_block (in_rest (in_first itself))) refl, text.none_impure rows.assigns refl)

pub enables_inside : Row IsImpure rows.enables_inside 7 rows.assigns
enables_inside = (foreign (0, omega arith, refl) ([], in_block (in_rest (in_first itself))) refl, text.none_impure rows.assigns refl)

pub calls_inside : Row IsImpure rows.calls_inside 7 rows.assigns
calls_inside = (foreign (0, omega arith, refl) ([], in_block (in_rest (in_first itself))) refl, text.none_impure rows.assigns refl)

pub names_net : Row IsImpure rows.names_net 7 rows.assigns
names_net = (outside (0, omega arith, refl) ([], in_block (in_rest (in_first itself))) refl, text.none_impure rows.assigns refl)

pub names_import : Row IsImpure rows.names_import 7 rows.assigns
names_import = (outside (0, omega arith, refl) ([], in_block (in_rest (in_first itself))) refl, text.none_impure rows.assigns refl)

pub of_the_module : Row IsImpure (rows.with_variable []) 6 (rows.with_variable (3 ∷ []))
of_the_module = (outside (0, omega arith, refl) ([], in_block (in_first itself)) refl, text.none_impure (rows.with_variable (3 ∷ [])) refl)

pub reads_early : Row IsImpure rows.reads_early 3 rows.reads_late
reads_early = (early (0, omega arith, refl) refl (result_place refl refl), text.none_impure rows.reads_late refl)

pub leaves_result : Row IsImpure rows.leaves_result 3 rows.gives_result
leaves_result = (leaves (0, omega arith, refl) refl (result_place refl refl), text.none_impure rows.gives_result refl)

-- ---- rule 51

pub first_enable : Row IsRecursive rows.tasks_in_circle 3 rows.tasks_in_line
first_enable = (leads_back {a = TaskOf 0} {b = TaskOf 1} (leads (task_body refl) ([], itself) enables) (onward (leads (task_body refl) ([], itself) enables) there), text.none_recursive rows.tasks_in_line (refl, refl))

pub second_enable : Row IsRecursive rows.tasks_in_circle 5 rows.tasks_in_line
second_enable = (leads_back {a = TaskOf 1} {b = TaskOf 0} (leads (task_body refl) ([], itself) enables) (onward (leads (task_body refl) ([], itself) enables) there), text.none_recursive rows.tasks_in_line (refl, refl))

pub calls_itself : Row IsRecursive (rows.two_functions 1) 7 (rows.two_functions 0)
calls_itself = (leads_back {a = FunctionOf 1} {b = FunctionOf 1} (leads (function_body refl) ([], itself) (calls (omega arith) (0, omega arith, refl))) there, text.none_recursive (rows.two_functions 0) (refl, refl))

-- ---- rule 52

pub too_few : Row HasMisfit (rows.enables_with []) 7 (rows.enables_with (rows.byte 1 ∷ []))
too_few = (misfit_enable (in_process (0, omega arith, refl) ([], itself)) refl, text.none_misfit (rows.enables_with (rows.byte 1 ∷ [])) (refl, refl, refl))

pub no_output : Row HasMisfit (rows.copies_all []) 7 (rows.copies_to (ToVariable 0))
no_output = (misfit_enable (in_process (0, omega arith, refl) ([], itself)) refl, text.none_misfit (rows.copies_to (ToVariable 0)) (refl, refl, refl))

pub no_target : Row HasMisfit (rows.copies_to Nowhere) 7 (rows.copies_to (ToVariable 0))
no_target = (misfit_enable (in_process (0, omega arith, refl) ([], itself)) refl, text.none_misfit (rows.copies_to (ToVariable 0)) (refl, refl, refl))

pub too_many : Row HasMisfit (rows.calls_host rows.void (rows.host_of (rows.byte 1 ∷ []))) 5 (rows.calls_host rows.void (rows.host_of []))
too_many = (misfit_host (in_process (0, omega arith, refl) ([], itself)) refl, text.none_misfit (rows.calls_host rows.void (rows.host_of [])) (refl, refl, refl))

pub no_result : Row HasMisfit (rows.calls_host rows.void rows.host_to_x) 5 (rows.calls_host rows.giving rows.host_to_x)
no_result = (misfit_host (in_process (0, omega arith, refl) ([], itself)) refl, text.none_misfit (rows.calls_host rows.giving rows.host_to_x) (refl, refl, refl))

pub result_dropped : Row HasMisfit (rows.calls_host rows.giving (rows.host_of [])) 5 (rows.calls_host rows.void (rows.host_of []))
result_dropped = (misfit_host (in_process (0, omega arith, refl) ([], itself)) refl, text.none_misfit (rows.calls_host rows.void (rows.host_of [])) (refl, refl, refl))

pub bare_in_statement : Row HasMisfit (rows.calls_with rows.full_call rows.bare_call) 8 (rows.calls_with rows.full_call rows.full_call)
bare_in_statement = (misfit_call (of_statement (in_process (0, omega arith, refl) ([], itself)) (0, omega arith, refl)) (0, omega arith, refl) (of_function refl), text.none_misfit (rows.calls_with rows.full_call rows.full_call) (refl, refl, refl))

pub bare_in_net : Row HasMisfit (rows.calls_with rows.bare_call rows.full_call) 6 (rows.calls_with rows.full_call rows.full_call)
bare_in_net = (misfit_call (of_net (0, omega arith, refl) refl) (0, omega arith, refl) (of_function refl), text.none_misfit (rows.calls_with rows.full_call rows.full_call) (refl, refl, refl))

pub void_in_net : Row HasMisfit (rows.net_of rows.void rows.bare_call) 4 (rows.net_of rows.void (rows.read 0))
void_in_net = (misfit_call (of_net (0, omega arith, refl) refl) (0, omega arith, refl) (of_import (import_number {i = 0} refl) refl), text.none_misfit (rows.net_of rows.void (rows.read 0)) (refl, refl, refl))

pub import_too_many : Row HasMisfit (rows.net_of rows.giving rows.full_call) 4 (rows.net_of rows.giving rows.bare_call)
import_too_many = (
  misfit_call (of_net (0, omega arith, refl) refl) (0, omega arith, refl) (of_import (import_number {i = 0} refl) refl),
  text.none_misfit (rows.net_of rows.giving rows.bare_call) (refl, refl, refl),
)

-- ---- rule 62

pub in_statement : Row CallsHostInside (rows.calls_host rows.giving rows.host_inside) 5 (rows.calls_host rows.giving rows.host_to_x)
in_statement = (inside_statement (first_has (rows.calls_host rows.giving rows.host_inside) _ _ refl itself) (0, omega arith, refl) (0, omega arith, refl) (import_number {i = 0} refl), text.none_inside (rows.calls_host rows.giving rows.host_to_x) (refl, refl))

pub in_net : Row CallsHostInside (rows.net_of rows.giving rows.bare_call) 4 (rows.net_of rows.giving (rows.read 0))
in_net = (inside_net (0, omega arith, refl) refl (0, omega arith, refl) (import_number {i = 0} refl), text.none_inside (rows.net_of rows.giving (rows.read 0)) (refl, refl))

-- ---- rules 70 to 73

pub write_both : Row TwoWriters rows.write_both 2 rows.write_apart
write_both = (
  two_write {p = 0} {q = 1} refl (λ e. omega (arith, e)) (by_blocking (writes_blocking (first_has rows.write_both _ _ refl itself) (0, omega arith, refl)))
      (by_blocking (writes_blocking (second_has rows.write_both _ _ _ refl itself) (0, omega arith, refl))),
  place.none_twice rows.write_apart nothing no_inside refl,
)

pub update_both : Row TwoWriters rows.update_both 2 rows.write_apart
update_both = (
  two_write {p = 0} {q = 1} refl (λ e. omega (arith, e)) (by_nonblocking (writes_nonblocking (first_has rows.update_both _ _ refl itself) (0, omega arith, refl)))
      (by_nonblocking (writes_nonblocking (second_has rows.update_both _ _ _ refl itself) (0, omega arith, refl))),
  place.none_twice rows.write_apart nothing no_inside refl,
)

pub writes_both_ways : Row WrittenBothWays rows.writes_both_ways 2 rows.writes_one_way
writes_both_ways = (
  both_ways {p = 0} refl (writes_blocking (first_has rows.writes_both_ways _ _ refl (in_block (in_rest (in_first itself)))) (0, omega arith, refl))
      (writes_nonblocking (first_has rows.writes_both_ways _ _ refl (in_block (in_first itself))) (0, omega arith, refl)),
  place.none_both_ways rows.writes_one_way nothing no_inside refl,
)

pub reads_across : Row ReadAcross rows.reads_across 2 rows.reads_update
reads_across = (
  variable_across {p = 0} {q = 1} {v = 0} refl (writes_blocking (first_has rows.reads_across _ _ refl itself) (0, omega arith, refl)) (λ e. omega (arith, e))
      (reads (second_has rows.reads_across _ _ _ refl itself) (0, omega arith, refl)),
  place.none_across rows.reads_update nothing no_inside refl refl,
)

pub reads_over_net : Row ReadAcross (rows.over_net (rows.assign 5 0 (rows.byte 1))) 8 (rows.over_net (rows.later 5 0 (rows.byte 1)))
reads_over_net = (
  net_across {p = 0} {q = 1} {v = 0} {n = 0} refl (writes_blocking (first_has (rows.over_net (rows.assign 5 0 (rows.byte 1))) _ _ refl itself) (0, omega arith, refl))
      (names_it (record { net = _; is = refl; value = refl }) (0, omega arith, refl)) (reads_net (second_has (rows.over_net (rows.assign 5 0 (rows.byte 1))) _ _ _ refl itself) (0, omega arith, refl)),
  place.none_across (rows.over_net (rows.later 5 0 (rows.byte 1))) nothing no_inside refl refl,
)

pub first_net : Row NetsInCircle (rows.two_nets (NetValue (u 8) 1)) 3 (rows.two_nets (rows.read 0))
first_net = (
  circle {n = 0} refl (depends_through (record { net = _; is = refl; value = refl }) (0, omega arith, refl) (depends (record { net = _; is = refl; value = refl }) (0, omega arith, refl))),
  place.none_in_circle (rows.two_nets (rows.read 0)) refl,
)

pub second_net : Row NetsInCircle (rows.two_nets (NetValue (u 8) 1)) 4 (rows.two_nets (rows.read 0))
second_net = (
  circle {n = 1} refl (depends_through (record { net = _; is = refl; value = refl }) (0, omega arith, refl) (depends (record { net = _; is = refl; value = refl }) (0, omega arith, refl))),
  place.none_in_circle (rows.two_nets (rows.read 0)) refl,
)

-- ---- rule 53

-- nothing but itself stands in a `disable`
stands_in_disable : {tasks : List FlatTask} {marks o : List ℕ} {place : Place} {m : ℕ} {x : Statement} → Stands tasks marks (Disable place m) o x → Disable place m ≡ x
stands_in_disable itself = refl

abbrev beside : Flat
beside = rows.beside_block Null (Disable (at 8) 0)

second_meets : {marks : List ℕ} {x : Statement} → Meets beside 1 marks x → Disable (at 8) 0 ≡ x
second_meets {marks = marks} {x = x} m =
    let e : Disable (at 8) 0 ≡ m.process.body = ap (λ o. elim o [ Some p ↦ p.body | None ↦ Disable (at 8) 0 ]) m.is in
    stands_in_disable (subst (λ s. Stands [] [] s marks x) (sym e) m.stands)

second_has_none : IsPart beside 1 0 → ⊥
second_has_none (block_part h) = let e : _ ≡ _ = second_meets (in_place_met h).1 in cc
second_has_none (task_part h e i) = let e : _ ≡ _ = second_meets (in_place_met h).1 in cc

abbrev own_block : Flat
own_block = rows.beside_block (Disable (at 6) 0) Null

own_marks : place.OwnMarks own_block nothing no_inside
own_marks zero m c = go (con_cases 0 m [] c)
  where
    go : (0 ≡ m) ⊎ Contains [] m → IsPart own_block 0 m
    go (inl e) = subst (IsPart own_block 0) e (block_part (first_has own_block _ _ refl itself))
    go (inr n) = absurd (con_nil m n)
own_marks (suc zero) m c = absurd (con_nil m c)
own_marks (suc (suc p)) m c = absurd (con_nil m c)

pub of_other : Row DisablesWrongly (rows.beside_block Null (Disable (at 8) 0)) 8 (rows.beside_block (Disable (at 6) 0) Null)
of_other = (not_own {p = 1} (second_has beside _ _ _ refl itself) second_has_none, place.none_disables own_block nothing no_inside refl own_marks refl)

no_marks : place.OwnMarks (rows.with_block Null) nothing no_inside
no_marks zero m c = absurd (con_nil m c)
no_marks (suc p) m c = absurd (con_nil m c)

pub in_a_function : Row DisablesWrongly (rows.with_block (Disable (at 7) 0)) 7 (rows.with_block Null)
in_a_function = (in_function (0, omega arith, refl) (0 ∷ [], in_block (in_first (in_named (in_rest (in_first itself))))), place.none_disables (rows.with_block Null) nothing no_inside refl no_marks refl)

-- no block with a mark stands in the process alone, and it enables nothing
abbrev is_bare : Statement → Bool
is_bare (Block place mark body) = is_none mark
is_bare (Enable place t ins outs) = false
is_bare x = true

abbrev disables_unused : Flat
disables_unused = rows.disables_in_task Null

abbrev unused_body : Statement
unused_body = rows.block 6 (Null ∷ Disable (at 8) 1 ∷ [])

is_none_of : (m : ℕ) (place : Place) (body : Statement) → InPlace disables_unused.tasks (Block place (Some m) body) unused_body → ⊥
is_none_of m place body (in_text c) = let off : false ≡ true = con_all is_bare (texts unused_body) (Block place (Some m) body) refl c in cc
is_none_of m place body (in_body {at = line} {t = t} {ins = ins} {outs = outs} c e h) = let off : false ≡ true = con_all is_bare (texts unused_body) (Enable line t ins outs) refl c in cc

enables_none : (place : Place) (t : ℕ) (ins : List Expr) (outs : List Lvalue) → InPlace disables_unused.tasks (Enable place t ins outs) unused_body → ⊥
enables_none place t ins outs (in_text c) = let off : false ≡ true = con_all is_bare (texts unused_body) (Enable place t ins outs) refl c in cc
enables_none place t ins outs (in_body {at = line} {t = q} {ins = given} {outs = targets} c e h) = let off : false ≡ true = con_all is_bare (texts unused_body) (Enable line q given targets) refl c in cc

in_unused : {x : Statement} → HasInPlace disables_unused 0 x → InPlace disables_unused.tasks x unused_body
in_unused {x = x} h =
    let e : unused_body ≡ h.process.body = ap (λ o. elim o [ Some p ↦ p.body | None ↦ unused_body ]) h.is in
    subst (InPlace disables_unused.tasks x) (sym e) h.there

unused_has_none : IsPart disables_unused 0 1 → ⊥
unused_has_none (block_part {at = place} {body = body} h) = is_none_of 1 place body (in_unused h)
unused_has_none (task_part {at = place} {t = t} {ins = ins} {outs = outs} h e i) = enables_none place t ins outs (in_unused h)

is_task : (a b : FlatTask) → Some a ≡ Some b → a ≡ b
is_task a b e = cc

abbrev of_idle : Inside
of_idle zero marks = placed nothing (0 ∷ marks) rows.idle_task.body
of_idle (suc t) marks = []

idle_inside : AreInside (rows.idle_task ∷ []) of_idle
idle_inside zero task marks e = subst (λ t. of_idle 0 marks ≡ placed of_idle (t.mark ∷ marks) t.body) (is_task rows.idle_task task e) refl
idle_inside (suc t) task marks e = absurd (let f : None ≡ Some task = e in cc)

abbrev disables_used : Flat
disables_used = rows.disables_in_task (rows.enable 7 0)

used_marks : place.OwnMarks disables_used of_idle idle_inside
used_marks zero m c = go (con_cases 1 m [] c)
  where
    go : (1 ≡ m) ⊎ Contains [] m → IsPart disables_used 0 m
    go (inl e) = subst (IsPart disables_used 0) e (block_part (first_has disables_used _ _ refl (in_block (in_first (in_task refl itself)))))
    go (inr n) = absurd (con_nil m n)
used_marks (suc p) m c = absurd (con_nil m c)

pub of_none : Row DisablesWrongly (rows.disables_in_task Null) 8 (rows.disables_in_task (rows.enable 7 0))
of_none = (
  not_own {p = 0} (first_has disables_unused _ _ refl (in_block (in_rest (in_first itself)))) unused_has_none,
  place.none_disables disables_used of_idle idle_inside refl used_marks refl,
)

abbrev of_task : Inside
of_task zero marks = placed nothing (0 ∷ marks) rows.shared_task.body
of_task (suc t) marks = []

task_inside : AreInside (rows.shared_task ∷ []) of_task
task_inside zero task marks e = subst (λ t. of_task 0 marks ≡ placed of_task (t.mark ∷ marks) t.body) (is_task rows.shared_task task e) refl
task_inside (suc t) task marks e = absurd (let f : None ≡ Some task = e in cc)

abbrev both_enable : Flat
both_enable = rows.sharing (rows.enable 9 0)

abbrev one_enables : Flat
one_enables = rows.sharing (rows.wait 9)

task_marks : place.OwnMarks one_enables of_task task_inside
task_marks zero m c = go (con_cases 1 m [] c)
  where
    go : (1 ≡ m) ⊎ Contains [] m → IsPart one_enables 0 m
    go (inl e) = subst (IsPart one_enables 0) e (block_part (first_has one_enables _ _ refl (in_task refl itself)))
    go (inr n) = absurd (con_nil m n)
task_marks (suc zero) m c = absurd (con_nil m c)
task_marks (suc (suc p)) m c = absurd (con_nil m c)

pub of_two : Row DisablesWrongly (rows.sharing (rows.enable 9 0)) 5 (rows.sharing (rows.wait 9))
of_two = (
  also_other {p = 0} {q = 1} (first_has both_enable _ _ refl (in_task refl (in_named (in_rest (in_first itself))))) (λ e. omega (arith, e)) (block_part (second_has both_enable _ _ _ refl (in_task refl itself))),
  place.none_disables one_enables of_task task_inside refl task_marks refl,
)
