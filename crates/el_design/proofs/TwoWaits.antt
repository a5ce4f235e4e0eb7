-- The design of two waits is checked: it is sound, breaks no rule, and its nets have an order.
use Rattle.std.proofs.Common.{◌≡◌, ◌≢◌, inl, inr, ◌<◌, ◌≤◌, ℕ, zero, suc, true, false, List, [], ◌∷◌, flat_map, slice_get, Option, Some, None, All, AllPairs, refl, sym, ◌∙◌, ap, subst, arith}
use Rattle.std.specs.Prelude.{Contains}
use Rattle.el_design.specs.Plain.{Expr, Number, NetValue, Variable, Lvalue, ToVariable, Statement, Skip, Wait, Enable, Disable, Host, FlatNet, FlatProc, FlatTask, FlatFunc}
use Rattle.el_design.specs.InPlace.{Stands, itself, in_first, in_rest, in_block, Holds, HasInPlace, Meets, LoopAt, loop_of_process, loop_of_function}
use Rattle.el_design.specs.Walk as walk
use Rattle.el_design.specs.Walk.{HasWalk, Walks, Steps}
use Rattle.el_design.specs.Stack.{Do, Work}
use Rattle.el_design.specs.Turns.{body_of}
use Rattle.el_design.specs.Touches.{blocking_writes, WritesBlocking, writes_blocking, Writes, by_blocking, by_nonblocking, writes_nonblocking, DependsOn, depends, depends_through}
use Rattle.el_design.specs.Names.{own_expressions, nodes_of, calls_in, called}
use Rattle.el_design.specs.Sizes.{u_of, s_of, once, nets_size}
use Rattle.el_design.specs.Calls as calls
use Rattle.el_design.specs.Rules as rules
use Rattle.el_design.specs.Rules.{Breaks, IsClean, IsOrder}
use Rattle.el_design.specs.Sound as sound
use Rattle.el_design.specs.Sound.{IsSound, IsStatement, bodies_of}
use Rattle.el_design.specs.Checked.{IsChecked}
use Rattle.el_design.proofs.OrderLists.{con_nil, con_cases, con_mapped, some_is}
use Rattle.el_design.proofs.Texts.{in_place_met}
use Rattle.el_design.specs.declared.designs.Source.TheVariants as source
use Rattle.el_design.specs.Witnesses.{at, variable, input, eight, list, sum, takes_input, adds_one, twice_waiting, process, two_waits}

all_nil : {X : Type 0} (P : X → Type 0) → All P []
all_nil P k d h = absurd (omega (arith, h))

all_cons : {X : Type 0} (P : X → Type 0) (x : X) (xs : List X) → P x → All P xs → All P (x ∷ xs)
all_cons P x xs p ps zero d h = p
all_cons P x xs p ps (suc k) d h = ps k d (omega (arith, h))

all_one : {X : Type 0} (P : X → Type 0) (x : X) → P x → All P (x ∷ [])
all_one P x p = all_cons P x [] p (all_nil P)

-- what stands in the process: its block, the lists in it, and the statements of these
abbrev first_wait : Statement
first_wait = Wait (at 6) false

abbrev second_wait : Statement
second_wait = Wait (at 8) false

abbrev body : Statement
body = list (first_wait ∷ takes_input ∷ second_wait ∷ adds_one ∷ [])

abbrev rest1 : Statement
rest1 = list (takes_input ∷ second_wait ∷ adds_one ∷ [])

abbrev rest2 : Statement
rest2 = list (second_wait ∷ adds_one ∷ [])

abbrev rest3 : Statement
rest3 = list (adds_one ∷ [])

data Held : Statement → Type 0 where
  h_all : Held twice_waiting
  h_body : Held body
  h_wait : Held first_wait
  h_rest1 : Held rest1
  h_first : Held takes_input
  h_rest2 : Held rest2
  h_again : Held second_wait
  h_rest3 : Held rest3
  h_second : Held adds_one
  h_skip : Held Skip

held : {tasks : List FlatTask} {marks o : List ℕ} {x : Statement} → Stands tasks marks twice_waiting o x → Held x
held itself = h_all
held (in_block itself) = h_body
held (in_block (in_first itself)) = h_wait
held (in_block (in_rest itself)) = h_rest1
held (in_block (in_rest (in_first itself))) = h_first
held (in_block (in_rest (in_rest itself))) = h_rest2
held (in_block (in_rest (in_rest (in_first itself)))) = h_again
held (in_block (in_rest (in_rest (in_rest itself)))) = h_rest3
held (in_block (in_rest (in_rest (in_rest (in_first itself))))) = h_second
held (in_block (in_rest (in_rest (in_rest (in_rest itself))))) = h_skip

no_body : {x b : Statement} → Held x → body_of x ≡ Some b → ⊥
no_body h_all e = cc
no_body h_body e = cc
no_body h_wait e = cc
no_body h_rest1 e = cc
no_body h_first e = cc
no_body h_rest2 e = cc
no_body h_again e = cc
no_body h_rest3 e = cc
no_body h_second e = cc
no_body h_skip e = cc

-- the only process is this one
is_process : (p : ℕ) (q : FlatProc) → slice_get two_waits.procs p ≡ Some q → (0 ≡ p) × (process ≡ q)
is_process zero q e = (refl, let f : Some process ≡ Some q = e in cc)
is_process (suc p) q e = absurd (let f : None ≡ Some q = e in cc)

of_process : (q : FlatProc) → Contains two_waits.procs q → process ≡ q
of_process q c = elim (con_cases process q [] c) [ inl e ↦ e | inr n ↦ absurd (con_nil q n) ]

no_net : (n : ℕ) (net : FlatNet) (e : Expr) → slice_get two_waits.nets n ≡ Some net → net.value ≡ Some e → ⊥
no_net zero net e h i = let f : input 2 1 ≡ net = (let g : Some (input 2 1) ≡ Some net = h in cc) in let k : None ≡ Some e = ap (λ x. x.value) f ∙ i in cc
no_net (suc zero) net e h i = let f : input 3 8 ≡ net = (let g : Some (input 3 8) ≡ Some net = h in cc) in let k : None ≡ Some e = ap (λ x. x.value) f ∙ i in cc
no_net (suc (suc n)) net e h i = let f : None ≡ Some net = h in cc

no_value : (net : FlatNet) (e : Expr) → Contains two_waits.nets net → net.value ≡ Some e → ⊥
no_value net e c i = elim (con_cases (input 2 1) net (input 3 8 ∷ []) c) [
  | inl f ↦ let k : None ≡ Some e = ap (λ x. x.value) f ∙ i in cc
  | inr r ↦ elim (con_cases (input 3 8) net [] r) [ inl f ↦ let k : None ≡ Some e = ap (λ x. x.value) f ∙ i in cc | inr n ↦ absurd (con_nil net n) ]
]

met : (p : ℕ) (marks : List ℕ) (x : Statement) → Meets two_waits p marks x → Held x
met p marks x m =
    let e : process ≡ m.process = (is_process p m.process m.is).1 in
    held (subst (λ q. Stands [] [] q.body marks x) (sym e) m.stands)

has : (p : ℕ) (x : Statement) → HasInPlace two_waits p x → Held x
has p x h = let m = in_place_met h in met p m.0 x m.1

texts : (s x : Statement) → Contains (bodies_of two_waits) s → Holds s x → Held x
texts s x c h = elim (con_cases twice_waiting s [] c) [ inl e ↦ held (subst (λ b. Stands [] [] b h.0 x) (sym e) h.1) | inr n ↦ absurd (con_nil s n) ]

in_text : (x : Statement) → calls.InText two_waits x → Held x
in_text x (calls.in_process {process = q} c h) = held (subst (λ p. Stands [] [] p.body h.0 x) (sym (of_process q c)) h.1)
in_text x (calls.in_routine (calls.task_body e) h) = cc
in_text x (calls.in_routine (calls.function_body e) h) = cc

-- ---- sound

no_pairs_one : {X : Type 0} (R : X → X → Type 0) (x : X) → AllPairs R (x ∷ [])
no_pairs_one R x i j d h k = absurd (omega (arith, h, k))

no_pairs : {X : Type 0} (R : X → X → Type 0) → AllPairs R []
no_pairs R i j d h k = absurd (omega (arith, h, k))

in_range : sound.IsWidth 8
in_range = (omega arith, omega arith)

target : sound.IsTarget two_waits (ToVariable 0) 8
target = sound.variable (record { var = variable 4 8; is = refl; plain = refl; wide = refl })

abbrev one_byte : Expr
one_byte = Number eight (Rattle.xt_bits.specs.Word.word 8 1)

number_node : sound.IsNode two_waits (Number eight (Rattle.xt_bits.specs.Word.word 8 1))
number_node = (in_range, (refl, omega arith))

variable_node : sound.IsNode two_waits (Variable eight 0)
variable_node = (in_range, record { var = variable 4 8; is = refl; plain = refl; wide = refl })

sum_node : sound.IsNode two_waits sum
sum_node = (in_range, ((refl, refl), tt))

sum_is : sound.IsExpr two_waits sum
sum_is = record {
  nodes = all_cons (sound.IsNode two_waits) sum (Variable eight 0 ∷ one_byte ∷ []) sum_node (all_cons (sound.IsNode two_waits) (Variable eight 0) (one_byte ∷ []) variable_node (all_one (sound.IsNode two_waits) one_byte number_node));
  shallow = omega arith;
}

net_is : sound.IsExpr two_waits (NetValue eight 1)
net_is = record { nodes = all_one (sound.IsNode two_waits) (NetValue eight 1) (in_range, record { net = input 3 8; is = refl; wide = refl }); shallow = omega arith }

statement : {x : Statement} → Held x → IsStatement two_waits x
statement h_all = record { expressions = all_nil _; outputs = all_nil _; fits = tt }
statement h_body = record { expressions = all_nil _; outputs = all_nil _; fits = tt }
statement h_wait = record { expressions = all_nil _; outputs = all_nil _; fits = refl }
statement h_rest1 = record { expressions = all_nil _; outputs = all_nil _; fits = tt }
statement h_first = record { expressions = all_one (sound.IsExpr two_waits) (NetValue eight 1) net_is; outputs = all_one (sound.IsOutput two_waits) (ToVariable 0) (inr (8, target, in_range)); fits = (8, target, in_range, omega arith) }
statement h_rest2 = record { expressions = all_nil _; outputs = all_nil _; fits = tt }
statement h_again = record { expressions = all_nil _; outputs = all_nil _; fits = refl }
statement h_rest3 = record { expressions = all_nil _; outputs = all_nil _; fits = tt }
statement h_second = record { expressions = all_one (sound.IsExpr two_waits) sum sum_is; outputs = all_one (sound.IsOutput two_waits) (ToVariable 0) (inr (8, target, in_range)); fits = (8, target, in_range, omega arith) }
statement h_skip = record { expressions = all_nil _; outputs = all_nil _; fits = tt }

no_function : (f : ℕ) (g : FlatFunc) → slice_get two_waits.funcs f ≡ Some g → ⊥
no_function f g e = let h : None ≡ Some g = e in cc

is_sound : IsSound two_waits
is_sound = record {
  vars = all_one sound.IsVariable (variable 4 8) (record { wide = in_range; start = refl; fits = omega arith; bits = omega arith; places = omega arith });
  nets = all_cons (sound.IsFlatNet two_waits) (input 2 1) (input 3 8 ∷ []) (record { wide = (omega arith, omega arith); bits = omega arith; value = tt }) (all_one (sound.IsFlatNet two_waits) (input 3 8) (record { wide = in_range; bits = omega arith; value = tt }));
  imports = all_nil _;
  tasks = all_nil _;
  funcs = λ f g e. absurd (no_function f g e);
  statements = λ s x c h. statement (texts s x c h);
  arms = all_one (λ s. sound.arms_fit false s ≡ true) twice_waiting refl;
  shallow = all_one (λ s. sound.statement_depth s ≤ sound.max_depth) twice_waiting (omega arith);
  marks_below = all_nil _;
  marks_distinct = no_pairs (λ a b. a ≢ b);
  inputs = all_one (sound.IsInput two_waits) 1 (input 3 8, refl, refl);
  inputs_once = no_pairs_one (λ a b. a ≢ b) 1;
  outputs = all_one (sound.HasSource two_waits) (record { name = []; from = source.Var 0 }) (8, record { var = variable 4 8; is = refl; plain = refl; wide = refl });
}

-- ---- no rule is broken

-- a wait has no step
stuck_at_wait : (k mid : List Work) → Steps two_waits [] (Do first_wait ∷ k) mid → ⊥
stuck_at_wait k mid (walk.quietly e) = cc
stuck_at_wait k mid (walk.begins_turns p e t) = cc
stuck_at_wait k mid (walk.goes_on_for e t) = cc
stuck_at_wait k mid (walk.goes_on_while e t) = cc
stuck_at_wait k mid (walk.takes_none f m q) = let e : None ≡ Some _ = f.body_is in cc
stuck_at_wait k mid (walk.takes_one f m q) = let e : None ≡ Some _ = f.body_is in cc

none_from_wait : (k : List Work) → Walks two_waits [] (Do first_wait ∷ k) [] → ⊥
none_from_wait k (walk.then s w) = stuck_at_wait k _ s

-- a list and a block have quiet steps alone
list_step : (k mid : List Work) → Steps two_waits [] (Do body ∷ k) mid → (Do first_wait ∷ Do rest1 ∷ k) ≡ mid
list_step k mid (walk.quietly e) = some_is _ _ e
list_step k mid (walk.begins_turns p e t) = cc
list_step k mid (walk.goes_on_for e t) = cc
list_step k mid (walk.goes_on_while e t) = cc
list_step k mid (walk.takes_none f m q) = let e : None ≡ Some _ = f.body_is in cc
list_step k mid (walk.takes_one f m q) = let e : None ≡ Some _ = f.body_is in cc

block_step : (mid : List Work) → Steps two_waits [] (Do twice_waiting ∷ []) mid → (Do body ∷ []) ≡ mid
block_step mid (walk.quietly e) = some_is _ _ e
block_step mid (walk.begins_turns p e t) = cc
block_step mid (walk.goes_on_for e t) = cc
block_step mid (walk.goes_on_while e t) = cc
block_step mid (walk.takes_none f m q) = let e : None ≡ Some _ = f.body_is in cc
block_step mid (walk.takes_one f m q) = let e : None ≡ Some _ = f.body_is in cc

none_from_list : Walks two_waits [] (Do body ∷ []) [] → ⊥
none_from_list (walk.then s w) = none_from_wait (Do rest1 ∷ []) (subst (λ m. Walks two_waits [] m []) (sym (list_step [] _ s)) w)

no_walk : HasWalk two_waits [] twice_waiting → ⊥
no_walk (walk.then s w) = none_from_list (subst (λ m. Walks two_waits [] m []) (sym (block_step _ s)) w)

no_loop : (marks : List ℕ) (x b : Statement) → LoopAt two_waits marks x → body_of x ≡ Some b → ⊥
no_loop marks x b (loop_of_process {p = p} m) e = no_body (met p marks x m) e
no_loop marks x b (loop_of_function {g = g} c s) e = con_nil g c

no_enable : {place : _} {t : ℕ} {ins : List Expr} {outs : List Lvalue} → Held (Enable place t ins outs) → ⊥
no_enable h = elim h [ ]

no_host : {place : _} {f : ℕ} {ins : List Expr} {r : Option Lvalue} {outs : List Lvalue} → Held (Host place f ins r outs) → ⊥
no_host h = elim h [ ]

no_disable : {place : _} {m : ℕ} → Held (Disable place m) → ⊥
no_disable h = elim h [ ]

no_calls : {x : Statement} → Held x → flat_map calls_in (own_expressions x) ≡ []
no_calls h_all = refl
no_calls h_body = refl
no_calls h_wait = refl
no_calls h_rest1 = refl
no_calls h_first = refl
no_calls h_rest2 = refl
no_calls h_again = refl
no_calls h_rest3 = refl
no_calls h_second = refl
no_calls h_skip = refl

-- an expression of a statement is one of two
no_call_in : {x : Statement} {e : Expr} → Held x → Contains (own_expressions x) e → calls_in e ≡ []
no_call_in {e = e} h_all c = absurd (con_nil e c)
no_call_in {e = e} h_body c = absurd (con_nil e c)
no_call_in {e = e} h_wait c = absurd (con_nil e c)
no_call_in {e = e} h_rest1 c = absurd (con_nil e c)
no_call_in {e = e} h_first c = elim (con_cases (NetValue eight 1) e [] c) [ inl i ↦ subst (λ a. calls_in a ≡ []) i refl | inr n ↦ absurd (con_nil e n) ]
no_call_in {e = e} h_rest2 c = absurd (con_nil e c)
no_call_in {e = e} h_again c = absurd (con_nil e c)
no_call_in {e = e} h_rest3 c = absurd (con_nil e c)
no_call_in {e = e} h_second c = elim (con_cases sum e [] c) [ inl i ↦ subst (λ a. calls_in a ≡ []) i refl | inr n ↦ absurd (con_nil e n) ]
no_call_in {e = e} h_skip c = absurd (con_nil e c)

no_misfit_node : (e c : Expr) → calls_in e ≡ [] → Contains (nodes_of e) c → calls.CallMisfits two_waits c → ⊥
no_misfit_node e c none k (calls.of_function {f = f} m) = con_nil f (subst (λ xs. Contains xs f) none (con_mapped called (nodes_of e) c f k refl))
no_misfit_node e c none k (calls.of_import {f = f} n m) = con_nil f (subst (λ xs. Contains xs f) none (con_mapped called (nodes_of e) c f k refl))

no_misfit : (place : _) → calls.HasMisfit two_waits place → ⊥
no_misfit _ (calls.misfit_enable i e) = no_enable (in_text _ i)
no_misfit _ (calls.misfit_host i e) = no_host (in_text _ i)
no_misfit _ (calls.misfit_call {e = e} {c = c} (calls.of_statement i k) n m) = no_misfit_node e c (no_call_in (in_text _ i) k) n m
no_misfit _ (calls.misfit_call {e = e} {c = c} (calls.of_net {net = net} k i) n m) = no_value net e k i

no_impure : (place : _) → calls.IsImpure two_waits place → ⊥
no_impure _ (calls.foreign {g = g} c h e) = con_nil g c
no_impure _ (calls.outside {g = g} c h e) = con_nil g c
no_impure _ (calls.early {g = g} c h e) = con_nil g c
no_impure _ (calls.leaves {g = g} c h e) = con_nil g c

no_recursion : (place : _) → calls.IsRecursive two_waits place → ⊥
no_recursion _ (calls.leads_back (calls.leads (calls.task_body e) h u) l) = cc
no_recursion _ (calls.leads_back (calls.leads (calls.function_body e) h u) l) = cc

no_disables : (place : _) → calls.DisablesWrongly two_waits place → ⊥
no_disables _ (calls.in_function {g = g} c h) = con_nil g c
no_disables _ (calls.not_own m n) = no_disable (has _ _ m)
no_disables _ (calls.also_other m n p) = no_disable (has _ _ m)

no_host_inside : (place : _) → calls.CallsHostInside two_waits place → ⊥
no_host_inside _ (calls.inside_statement {f = f} m k c n) = con_nil f (subst (λ xs. Contains xs f) (no_call_in (has _ _ m) k) c)
no_host_inside _ (calls.inside_net {net = net} {e = e} k i c n) = no_value net e k i

no_use : {x : Statement} {r : calls.Routine} → Held x → calls.Uses two_waits x r → ⊥
no_use h calls.enables = no_enable h
no_use h (calls.calls {f = f} l c) = con_nil f (subst (λ xs. Contains xs f) (no_calls h) c)

no_nesting : (place : _) → rules.NestsTooDeep two_waits place → ⊥
no_nesting _ (rules.process_nests {process = q} k (calls.one_more {x = x} h u b c)) = no_use (held (subst (λ p. Stands [] [] p.body h.0 x) (sym (of_process q k)) h.1)) u
no_nesting _ (rules.net_nests {net = net} {e = e} k i c b h) = no_value net e k i
no_nesting _ (rules.process_large {process = q} k l) =
    let e : 12 ≡ u_of two_waits once q = ap (u_of two_waits once) (of_process q k) in omega (arith, l, e)

no_spin : (place : _) → rules.SpinsAt two_waits place → ⊥
no_spin _ (rules.loop_spins l b n w) = no_loop _ _ _ l b
no_spin _ (rules.always_spins {process = q} k a w) = no_walk (subst (λ p. HasWalk two_waits [] p.body) (sym (of_process q k)) w)

no_turns : (place : _) → rules.TurnsTooOften two_waits place → ⊥
no_turns _ (rules.too_many l b n m w) = no_loop _ _ _ l b
no_turns _ (rules.without_end l b n w) = no_loop _ _ _ l b

no_large : (place : _) → rules.IsTooLarge two_waits place → ⊥
no_large _ (rules.large_u {process = q} times c k l) = let e : 12 ≡ u_of two_waits times q = ap (u_of two_waits times) (of_process q k) in omega (arith, l, e)
no_large _ (rules.large_s {process = q} often c k l) = let e : 3 ≡ s_of two_waits often q = ap (s_of two_waits often) (of_process q k) in omega (arith, l, e)
no_large _ (rules.large_products times often c k l) = let e : 36 ≡ rules.products two_waits times often = refl in omega (arith, l, e)
no_large _ (rules.large_nets times c l) = let e : 0 ≡ nets_size two_waits times = refl in omega (arith, l, e)

only_first : {p v : ℕ} → Writes two_waits p v → 0 ≡ p
only_first {p = p} (by_blocking (writes_blocking m c)) = (is_process p m.process m.is).0
only_first {p = p} (by_nonblocking (writes_nonblocking m c)) = (is_process p m.process m.is).0

none_blocking_at : {x : Statement} → Held x → blocking_writes two_waits x ≡ []
none_blocking_at h_all = refl
none_blocking_at h_body = refl
none_blocking_at h_wait = refl
none_blocking_at h_rest1 = refl
none_blocking_at h_first = refl
none_blocking_at h_rest2 = refl
none_blocking_at h_again = refl
none_blocking_at h_rest3 = refl
none_blocking_at h_second = refl
none_blocking_at h_skip = refl

none_blocking : {p v : ℕ} → WritesBlocking two_waits p v → ⊥
none_blocking {v = v} (writes_blocking m c) = con_nil v (subst (λ xs. Contains xs v) (none_blocking_at (has _ _ m)) c)

no_dependence : {n m : ℕ} → DependsOn two_waits n m → ⊥
no_dependence {n = n} (depends {e = e} i c) = no_net n i.net e i.is i.value
no_dependence {n = n} (depends_through {e = e} i c d) = no_net n i.net e i.is i.value

is_clean : IsClean two_waits
is_clean pass rule place (rules.impure h) = no_impure place h
is_clean pass rule place (rules.recursive h) = no_recursion place h
is_clean pass rule place (rules.misfit h) = no_misfit place h
is_clean pass rule place (rules.disables f h) = no_disables place h
is_clean pass rule place (rules.host_inside f h) = no_host_inside place h
is_clean pass rule place (rules.nested f h) = no_nesting place h
is_clean pass rule place (rules.spins h) = no_spin place h
is_clean pass rule place (rules.turns h) = no_turns place h
is_clean pass rule place (rules.too_large h) = no_large place h
is_clean pass rule place (rules.two_writers (rules.two_write e n a b)) = n (sym (only_first a) ∙ only_first b)
is_clean pass rule place (rules.both_kinds (rules.both_ways e a b)) = none_blocking a
is_clean pass rule place (rules.across (rules.variable_across e w n r)) = none_blocking w
is_clean pass rule place (rules.across (rules.net_across e w r s)) = none_blocking w
is_clean pass rule place (rules.nets_circle (rules.circle e h)) = no_dependence h

each_net : (n : ℕ) → n < 2 → Contains (0 ∷ 1 ∷ []) n
each_net zero h = (0, omega arith, refl)
each_net (suc zero) h = (1, omega arith, refl)
each_net (suc (suc n)) h = absurd (omega (arith, h))

pub checked : IsChecked two_waits (0 ∷ 1 ∷ [])
checked = record { sound = is_sound; clean = is_clean; ordered = record { each = each_net; size = refl; after = λ i n m e d. absurd (no_dependence d) } }
