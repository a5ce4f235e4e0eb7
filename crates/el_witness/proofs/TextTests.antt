-- Tests of the rules that look at texts: where they hold, no function is impure, nothing leads back to itself, arguments fit, no import is called inside an expression,
-- and enables and calls don't nest too deep. They compute. A test may fail of a design that breaks no rule.
use Rattle.std.proofs.Common.{◌≡◌, ◌⊎◌, inl, inr, ◌<◌, ◌≤◌, ◌+◌, ◌-◌, ◌&&◌, ◌||◌, not, ℕ, zero, suc, Bool, true, false, List, [], ◌∷◌, ◌++◌, map, flat_map, length, slice_get, Some, None, subst, arith}
use Rattle.std.specs.Prelude.{Contains, leb, ltb}
use Rattle.std.specs.List.{list_all}
use Rattle.std.proofs.lemmas.Bool.{leb-true, ltb-true}
use Rattle.std.proofs.lemmas.List.Elements.{Contains-append_left, Contains-append_right}
use Rattle.std.proofs.lemmas.Option.{slice_get_within}
use Rattle.xt_base.specs.declared.refusals.Place.{Place}
use Rattle.el_design.specs.Plain.{Expr, Call, Statement, Enable, Host, FlatNet, FlatTask, FlatFunc, FlatProc, Flat}
use Rattle.el_design.specs.Names.{nodes_of, calls_in, own_expressions}
use Rattle.el_design.specs.InPlace.{InPlace, in_text, in_body, HasInPlace, Holds}
use Rattle.el_design.specs.Texts.{texts}
use Rattle.el_design.specs.Purity.{is_foreign, names_outside, reads_early, leaves_result}
use Rattle.el_design.specs.Sound.{bodies_of}
use Rattle.el_design.specs.Sizes.{once, u_of}
use Rattle.el_design.specs.Calls as calls
use Rattle.el_design.specs.Calls.{IsImpure, IsRecursive, Routine, TaskOf, FunctionOf, BodyIs, Uses, Leads, LeadsTo, InText, HasMisfit, CallMisfits, StandsAt, CallsHostInside, IsImportNumber, Chain, enable_misfits, host_misfits, function_misfits, import_misfits}
use Rattle.el_design.specs.Rules as rules
use Rattle.el_design.specs.Rules.{IsFinite, NestsTooDeep, max_u, max_nesting}
use Rattle.el_design.proofs.OrderLists.{con_all}
use Rattle.el_design.proofs.OrderPlaces.{con_got, con_map, con_flat}
use Rattle.el_design.proofs.WaysPuts.{left_of, right_of, one_of, not_so, clash}
use Rattle.el_design.proofs.Texts.{holds_is}

-- each element with its number passes
abbrev pub all_from : {X : Type 0} → (ℕ → X → Bool) → ℕ → List X → Bool
all_from p n [] = true
all_from p n (x ∷ xs) = p n x && all_from p (suc n) xs

some_one : {X : Type 0} (a b : X) → Some a ≡ Some b → a ≡ b
some_one a b e = cc

pub from_passes : {X : Type 0} (p : ℕ → X → Bool) (n : ℕ) (xs : List X) (i : ℕ) (x : X) → all_from p n xs ≡ true → slice_get xs i ≡ Some x → (k : ℕ) → n + i ≡ k → p k x ≡ true
from_passes p n [] i x h e k m = absurd (let f : None ≡ Some x = e in cc)
from_passes p n (y ∷ ys) zero x h e k m =
    let same : n ≡ k = omega (arith, m) in
    subst (λ j. p j x ≡ true) same (subst (λ z. p n z ≡ true) (some_one y x e) (left_of (p n y) (all_from p (suc n) ys) h))
from_passes p n (y ∷ ys) (suc i) x h e k m = from_passes p (suc n) ys i x (right_of (p n y) (all_from p (suc n) ys) h) e k (omega (arith, m))

module _ (d : Flat) where
  -- ---- the statements of all texts

  abbrev pub all_text : List Statement
  all_text = flat_map texts (bodies_of d)

  text_of : (s x : Statement) → Contains (bodies_of d) s → Contains (texts s) x → Contains all_text x
  text_of s x c h = con_flat texts (bodies_of d) s x c h

  abbrev pub process_bodies : List Statement
  process_bodies = map (λ p. p.body) d.procs

  abbrev pub task_bodies : List Statement
  task_bodies = map (λ t. t.body) d.tasks

  abbrev pub function_bodies : List Statement
  function_bodies = map (λ f. f.body) d.funcs

  process_text : (q : FlatProc) (x : Statement) → Contains d.procs q → Contains (texts q.body) x → Contains all_text x
  process_text q x c h = text_of q.body x (Contains-append_left (process_bodies ++ task_bodies) function_bodies q.body (Contains-append_left process_bodies task_bodies q.body (con_map (λ p. p.body) d.procs q c))) h

  task_text : (t : FlatTask) (x : Statement) → Contains d.tasks t → Contains (texts t.body) x → Contains all_text x
  task_text t x c h = text_of t.body x (Contains-append_left (process_bodies ++ task_bodies) function_bodies t.body (Contains-append_right process_bodies task_bodies t.body (con_map (λ p. p.body) d.tasks t c))) h

  function_text : (g : FlatFunc) (x : Statement) → Contains d.funcs g → Contains (texts g.body) x → Contains all_text x
  function_text g x c h = text_of g.body x (Contains-append_right (process_bodies ++ task_bodies) function_bodies g.body (con_map (λ p. p.body) d.funcs g c)) h

  pub in_all : {x : Statement} → InText d x → Contains all_text x
  in_all {x = x} (calls.in_process {process = q} c h) = process_text q x c ((holds_is q.body x).0 h)
  in_all {x = x} (calls.in_routine (calls.task_body {t = t} {task = task} e) h) = task_text task x (con_got d.tasks t task e) ((holds_is task.body x).0 h)
  in_all {x = x} (calls.in_routine (calls.function_body {f = f} {g = g} e) h) = function_text g x (con_got d.funcs f g e) ((holds_is g.body x).0 h)

  within_all : {x s : Statement} → ((y : Statement) → Contains (texts s) y → Contains all_text y) → InPlace d.tasks x s → Contains all_text x
  within_all {x = x} all (in_text c) = all x c
  within_all all (in_body {t = t} {task = task} c e h) = within_all (λ y k. task_text task y (con_got d.tasks t task e) k) h

  pub placed_in_all : {p : ℕ} {x : Statement} → HasInPlace d p x → Contains all_text x
  placed_in_all {p = p} h = within_all (λ y k. process_text h.process y (con_got d.procs p h.process h.is) k) h.there

  -- ---- purity of functions (rule 50)

  abbrev pub is_pure : FlatFunc → Bool
  is_pure g = list_all (λ x. not (is_foreign x)) (texts g.body) && (list_all (λ x. not (names_outside d g x)) (texts g.body) && (not (reads_early g) && not (leaves_result g)))

  pub none_impure : list_all is_pure d.funcs ≡ true → (at : Place) → IsImpure d at → ⊥
  none_impure h _ (calls.foreign {g = g} {x = x} c s e) =
      let k = con_all is_pure d.funcs g h c in
      clash (is_foreign x) e (not_so (is_foreign x) (con_all (λ y. not (is_foreign y)) (texts g.body) x (left_of (list_all (λ x. not (is_foreign x)) (texts g.body)) (list_all (λ x. not (names_outside d g x)) (texts g.body) && (not (reads_early g) && not (leaves_result g))) k) ((holds_is g.body x).0 s)))
  none_impure h _ (calls.outside {g = g} {x = x} c s e) =
      let k = con_all is_pure d.funcs g h c in
      let l = right_of (list_all (λ x. not (is_foreign x)) (texts g.body)) (list_all (λ x. not (names_outside d g x)) (texts g.body) && (not (reads_early g) && not (leaves_result g))) k in
      clash (names_outside d g x) e (not_so (names_outside d g x) (con_all (λ y. not (names_outside d g y)) (texts g.body) x (left_of (list_all (λ x. not (names_outside d g x)) (texts g.body)) (not (reads_early g) && not (leaves_result g)) l) ((holds_is g.body x).0 s)))
  none_impure h _ (calls.early {g = g} c e p) =
      let k = con_all is_pure d.funcs g h c in
      let l = right_of (list_all (λ x. not (is_foreign x)) (texts g.body)) (list_all (λ x. not (names_outside d g x)) (texts g.body) && (not (reads_early g) && not (leaves_result g))) k in
      let m = right_of (list_all (λ x. not (names_outside d g x)) (texts g.body)) (not (reads_early g) && not (leaves_result g)) l in
      clash (reads_early g) e (not_so (reads_early g) (left_of (not (reads_early g)) (not (leaves_result g)) m))
  none_impure h _ (calls.leaves {g = g} c e p) =
      let k = con_all is_pure d.funcs g h c in
      let l = right_of (list_all (λ x. not (is_foreign x)) (texts g.body)) (list_all (λ x. not (names_outside d g x)) (texts g.body) && (not (reads_early g) && not (leaves_result g))) k in
      let m = right_of (list_all (λ x. not (names_outside d g x)) (texts g.body)) (not (reads_early g) && not (leaves_result g)) l in
      clash (leaves_result g) e (not_so (leaves_result g) (right_of (not (reads_early g)) (not (leaves_result g)) m))

  -- ---- recursion (rule 51) and nesting (rule 82): each body enables and calls only what has a smaller number, functions before tasks

  abbrev pub rank : Routine → ℕ
  rank (FunctionOf f) = f
  rank (TaskOf t) = length d.funcs + t

  abbrev pub enables_below : ℕ → Statement → Bool
  enables_below n (Enable at t ins outs) = ltb (length d.funcs + t) n
  enables_below n x = true

  abbrev pub uses_below : ℕ → Statement → Bool
  uses_below n x = enables_below n x && list_all (λ f. ltb f n) (flat_map calls_in (own_expressions x))

  abbrev pub text_below : ℕ → Statement → Bool
  text_below n s = list_all (uses_below n) (texts s)

  used_below : {n : ℕ} {x : Statement} {r : Routine} → uses_below n x ≡ true → Uses d x r → rank r < n
  used_below {n = n} {x = x} h (calls.enables {t = t}) = ltb-true (length d.funcs + t) n (left_of (enables_below n x) (list_all (λ f. ltb f n) (flat_map calls_in (own_expressions x))) h)
  used_below {n = n} {x = x} h (calls.calls {f = f} l c) =
      ltb-true f n (con_all (λ f. ltb f n) (flat_map calls_in (own_expressions x)) f (right_of (enables_below n x) (list_all (λ f. ltb f n) (flat_map calls_in (own_expressions x))) h) c)

  held_below : {n : ℕ} {s x : Statement} {r : Routine} → text_below n s ≡ true → Holds s x → Uses d x r → rank r < n
  held_below {n = n} {s = s} {x = x} h k u = used_below (con_all (uses_below n) (texts s) x h ((holds_is s x).0 k)) u

  abbrev pub RoutinesDescend : Type 0
  RoutinesDescend = (all_from (λ t x. text_below (length d.funcs + t) x.body) 0 d.tasks ≡ true) × (all_from (λ f g. text_below f g.body) 0 d.funcs ≡ true)

  body_below : {r : Routine} {s : Statement} → RoutinesDescend → BodyIs d r s → text_below (rank r) s ≡ true
  body_below h (calls.task_body {t = t} {task = task} e) = from_passes (λ t x. text_below (length d.funcs + t) x.body) 0 d.tasks t task h.0 e t (omega arith)
  body_below h (calls.function_body {f = f} {g = g} e) = from_passes (λ f g. text_below f g.body) 0 d.funcs f g h.1 e f (omega arith)

  led_below : {a b : Routine} {at : Place} → RoutinesDescend → Leads d a b at → rank b < rank a
  led_below h (calls.leads b s u) = held_below (body_below h b) s u

  led_to_below : {a b : Routine} → RoutinesDescend → LeadsTo d a b → rank b ≤ rank a
  led_to_below h calls.there = omega arith
  led_to_below h (calls.onward l m) = let k = led_below h l in let j = led_to_below h m in omega (arith, k, j)

  pub none_recursive : RoutinesDescend → IsFinite d
  none_recursive h _ (calls.leads_back l m) = let k = led_below h l in let j = led_to_below h m in omega (arith, k, j)

  chain_low : {n m : ℕ} {s : Statement} → RoutinesDescend → text_below m s ≡ true → Chain d n s → n ≤ m
  chain_low h k calls.no_more = omega arith
  chain_low h k (calls.one_more {r = r} s u b c) = let i = held_below k s u in let j = chain_low h (body_below h b) c in omega (arith, i, j)

  abbrev pub ProcessesDescend : Type 0
  ProcessesDescend = list_all (λ p. text_below max_nesting p.body) d.procs ≡ true

  abbrev pub FewFunctions : Type 0
  FewFunctions = length d.funcs ≤ max_nesting

  abbrev pub small_process : FlatProc → Bool
  small_process p = leb (u_of d once p) max_u

  small_number : {f : ℕ} {s : Statement} → BodyIs d (FunctionOf f) s → f < length d.funcs
  small_number (calls.function_body {f = f} {g = g} e) = slice_get_within d.funcs f g e

  pub none_nested : RoutinesDescend → ProcessesDescend → FewFunctions → list_all small_process d.procs ≡ true → (at : Place) → NestsTooDeep d at → ⊥
  none_nested h k few u _ (rules.process_nests {process = q} c n) = let i = chain_low h (con_all (λ p. text_below max_nesting p.body) d.procs q k c) n in omega (arith, i)
  none_nested h k few u _ (rules.net_nests c i j b n) = let f = small_number b in let l = chain_low h (body_below h b) n in omega (arith, f, l, few)
  none_nested h k few u _ (rules.process_large {process = q} c l) = let s = leb-true (u_of d once q) max_u (con_all small_process d.procs q u c) in omega (arith, s, l)

  -- ---- arguments (rule 52) and calls of the host (rule 62)

  abbrev pub call_fits : Expr → Bool
  call_fits (Call s f es) = not (function_misfits (slice_get d.funcs f) es) && (ltb f (length d.funcs) || not (import_misfits (slice_get d.imports (f - length d.funcs)) es))
  call_fits e = true

  no_import : {f i : ℕ} → IsImportNumber d f i → f < length d.funcs → ⊥
  no_import (calls.import_number e) l = omega (arith, e, l)

  behind : {f i : ℕ} → IsImportNumber d f i → f - length d.funcs ≡ i
  behind (calls.import_number e) = omega (arith, e)

  none_misfits : (c : Expr) → call_fits c ≡ true → CallMisfits d c → ⊥
  none_misfits _ h (calls.of_function {f = f} {es = es} m) =
      clash (function_misfits (slice_get d.funcs f) es) m (not_so (function_misfits (slice_get d.funcs f) es)
      (left_of (not (function_misfits (slice_get d.funcs f) es)) (ltb f (length d.funcs) || not (import_misfits (slice_get d.imports (f - length d.funcs)) es)) h))
  none_misfits _ h (calls.of_import {f = f} {i = i} {es = es} n m) =
      go (one_of (ltb f (length d.funcs)) (not (import_misfits (slice_get d.imports (f - length d.funcs)) es))
      (right_of (not (function_misfits (slice_get d.funcs f) es)) (ltb f (length d.funcs) || not (import_misfits (slice_get d.imports (f - length d.funcs)) es)) h))
    where
      go : (ltb f (length d.funcs) ≡ true) ⊎ (not (import_misfits (slice_get d.imports (f - length d.funcs)) es) ≡ true) → ⊥
      go (inl l) = no_import n (ltb-true f (length d.funcs) l)
      go (inr k) = clash (import_misfits (slice_get d.imports i) es) m (subst (λ j. import_misfits (slice_get d.imports j) es ≡ false) (behind n) (not_so (import_misfits (slice_get d.imports (f - length d.funcs)) es) k))

  abbrev pub calls_fit : Expr → Bool
  calls_fit e = list_all call_fits (nodes_of e)

  abbrev pub arguments_fit : Statement → Bool
  arguments_fit (Enable at t ins outs) = not (enable_misfits (slice_get d.tasks t) ins outs)
  arguments_fit (Host at f ins result outs) = not (host_misfits (slice_get d.imports f) ins result outs)
  arguments_fit x = true

  abbrev pub value_fits : FlatNet → Bool
  value_fits n = elim n.value [ None ↦ true | Some e ↦ calls_fit e ]

  abbrev pub ArgumentsFit : Type 0
  ArgumentsFit = (list_all arguments_fit all_text ≡ true) × (list_all (λ x. list_all calls_fit (own_expressions x)) all_text ≡ true) × (list_all value_fits d.nets ≡ true)

  text_fits : {x : Statement} {e : Expr} → ArgumentsFit → Contains all_text x → Contains (own_expressions x) e → calls_fit e ≡ true
  text_fits {x = x} {e = e} h c k = con_all calls_fit (own_expressions x) e (con_all (λ x. list_all calls_fit (own_expressions x)) all_text x h.1 c) k

  net_fits : {n : FlatNet} {e : Expr} → ArgumentsFit → Contains d.nets n → n.value ≡ Some e → calls_fit e ≡ true
  net_fits {n = n} {e = e} h c i = subst (λ o. elim o [ None ↦ true | Some e ↦ calls_fit e ] ≡ true) i (con_all value_fits d.nets n h.2 c)

  stands_fit : {e : Expr} {at : Place} → ArgumentsFit → StandsAt d e at → calls_fit e ≡ true
  stands_fit h (calls.of_statement t c) = text_fits h (in_all t) c
  stands_fit h (calls.of_net c i) = net_fits h c i

  pub none_misfit : ArgumentsFit → (at : Place) → HasMisfit d at → ⊥
  none_misfit h at (calls.misfit_enable {t = t} {ins = ins} {outs = outs} i m) =
      clash (enable_misfits (slice_get d.tasks t) ins outs) m (not_so (enable_misfits (slice_get d.tasks t) ins outs) (con_all arguments_fit all_text (Enable at t ins outs) h.0 (in_all i)))
  none_misfit h at (calls.misfit_host {f = f} {ins = ins} {result = result} {outs = outs} i m) =
      clash (host_misfits (slice_get d.imports f) ins result outs) m (not_so (host_misfits (slice_get d.imports f) ins result outs) (con_all arguments_fit all_text (Host at f ins result outs) h.0 (in_all i)))
  none_misfit h at (calls.misfit_call {e = e} {c = c} s n m) =
      none_misfits c (con_all call_fits (nodes_of e) c (stands_fit h s) n) m

  abbrev pub calls_own : Expr → Bool
  calls_own e = list_all (λ f. ltb f (length d.funcs)) (calls_in e)

  abbrev pub value_calls_own : FlatNet → Bool
  value_calls_own n = elim n.value [ None ↦ true | Some e ↦ calls_own e ]

  -- expressions call functions alone
  abbrev pub FunctionsAlone : Type 0
  FunctionsAlone = (list_all (λ x. list_all calls_own (own_expressions x)) all_text ≡ true) × (list_all value_calls_own d.nets ≡ true)

  no_host : (e : Expr) {f i : ℕ} → calls_own e ≡ true → Contains (calls_in e) f → IsImportNumber d f i → ⊥
  no_host e {f = f} h c n = no_import n (ltb-true f (length d.funcs) (con_all (λ f. ltb f (length d.funcs)) (calls_in e) f h c))

  pub none_inside : FunctionsAlone → (at : Place) → CallsHostInside d at → ⊥
  none_inside h _ (calls.inside_statement {x = x} {e = e} m c k n) =
      no_host e (con_all calls_own (own_expressions x) e (con_all (λ x. list_all calls_own (own_expressions x)) all_text x h.0 (placed_in_all m)) c) k n
  none_inside h _ (calls.inside_net {net = net} {e = e} c i k n) =
      no_host e (subst (λ o. elim o [ None ↦ true | Some e ↦ calls_own e ] ≡ true) i (con_all value_calls_own d.nets net h.1 c)) k n
