-- The imports that processes call, and the pins for their calls.
use Rattle.std.proofs.Common.{◌≡◌, ◌⊎◌, inl, inr, ℕ, zero, suc, ◌+◌, List, [], ◌∷◌, ◌++◌, Option, Some, None, Contains, flat_map, slice_get, length, refl, sym, ◌∙◌, ap₂, subst}
use Rattle.std.specs.List.{enumerate_from, filter_map}
use Rattle.std.proofs.lemmas.List.Elements.{Contains-append_cases}
use Rattle.xt_base.specs.declared.refusals.Place.{Place}
use Rattle.el_design.specs.Calls as calls
use Rattle.el_design.specs.Plain.{Expr, Lvalue, Statement, Null, Skip, Seq, Block, Assign, If, Case, Arm, For, While, Repeat, Forever, Wait, Enable, Disable, Host, FlatTask, FlatProc, Flat}
use Rattle.el_design.specs.InPlace.{InPlace, in_text, in_body}
use Rattle.el_design.specs.Rules.{IsFinite}
use Rattle.el_design.specs.Texts.{texts}
use Rattle.el_design.proofs.Nested.{made_of_task}
use Rattle.el_design.proofs.OrderLists.{con_nil, con_head, con_tail, con_cases}
use Rattle.el_design.proofs.OrderPlaces.{con_flat}
use Rattle.xt_compile.specs.Hardware.{called_by, called_in, called_in_task, called_in_place, host_of, functions_called, hosts_of, CallsImport, calls_import, CallsAreListed}

-- ---- lists

flat_con : {X Y : Type 0} (f : X → List Y) (xs : List X) (y : Y) → Contains (flat_map f xs) y → (x : X) × Contains xs x × Contains (f x) y
flat_con f [] y c = absurd (con_nil y c)
flat_con f (x ∷ xs) y c = go (Contains-append_cases (f x) (flat_map f xs) y c) (flat_con f xs y)
  where
    go : Contains (f x) y ⊎ Contains (flat_map f xs) y → (Contains (flat_map f xs) y → (z : _) × Contains xs z × Contains (f z) y) → (z : _) × Contains (x ∷ xs) z × Contains (f z) y
    go (inl k) more = (x, con_head x xs, k)
    go (inr k) more = let z = more k in (z.0, con_tail x z.0 xs z.1, z.2)

flat_same : {X Y : Type 0} (f g : X → List Y) (xs : List X) → ((x : X) → Contains xs x → f x ≡ g x) → flat_map f xs ≡ flat_map g xs
flat_same f g [] h = refl
flat_same f g (x ∷ xs) h = ap₂ (λ a b. a ++ b) (h x (con_head x xs)) (flat_same f g xs (λ y c. h y (con_tail x y xs c)))

-- ---- imports that are called in place

module _ (d : Flat) where
  body_calls : (ℕ → List ℕ) → Option FlatTask → List ℕ
  body_calls of_task None = []
  body_calls of_task (Some task) = called_in of_task task.body

  -- a statement has a call in place
  abbrev Calls : Statement → ℕ → Type 0
  Calls s f = (at : Place) × (ins : List Expr) × (result : Option Lvalue) × (outs : List Lvalue) × InPlace d.tasks (Host at f ins result outs) s

  abbrev Listed : ℕ → Statement → ℕ → Type 0
  Listed n s f = Contains (called_in (called_in_task d n) s) f

  only_one : (g f : ℕ) → Contains (g ∷ []) f → g ≡ f
  only_one g f c = elim (con_cases g f [] c) [ inl e ↦ e | inr k ↦ absurd (con_nil f k) ]

  -- what is listed of a task
  of_task : (n : ℕ) → ((s : Statement) (f : ℕ) → Listed n s f → Calls s f) → (t f : ℕ) → Contains (called_in_task d (suc n) t) f → (task : FlatTask) × (slice_get d.tasks t ≡ Some task) × Calls task.body f
  of_task n deeper t f c = go (slice_get d.tasks t) refl c
    where
      go : (o : Option FlatTask) → slice_get d.tasks t ≡ o → Contains (elim o [ None ↦ [] | Some task ↦ called_in (called_in_task d n) task.body ]) f → (task : FlatTask) × (slice_get d.tasks t ≡ Some task) × Calls task.body f
      go None e k = absurd (con_nil f k)
      go (Some task) e k = (task, e, deeper task.body f k)

  at_enable : (n : ℕ) (s : Statement) (f : ℕ) (at : Place) (t : ℕ) (ins : List Expr) (outs : List Lvalue) → Contains (texts s) (Enable at t ins outs) → Contains (called_in_task d n t) f →
      ((x : Statement) (g : ℕ) → (m : ℕ) → n ≡ suc m → Listed m x g → Calls x g) → Calls s f
  at_enable zero s f at t ins outs c k deeper = absurd (con_nil f k)
  at_enable (suc m) s f at t ins outs c k deeper =
      let x = of_task m (λ y g l. deeper y g m refl l) t f k in
      (x.2.0, x.2.1, x.2.2, x.2.3, in_body c x.1 x.2.4)

  at_one : (n : ℕ) (s x : Statement) (f : ℕ) → Contains (texts s) x → Contains (called_by (called_in_task d n) x) f →
      ((y : Statement) (g : ℕ) → (m : ℕ) → n ≡ suc m → Listed m y g → Calls y g) → Calls s f
  at_one n s (Enable at t ins outs) f c k deeper = at_enable n s f at t ins outs c k deeper
  at_one n s (Host at g ins result outs) f c k deeper = subst (Calls s) (only_one g f k) (at, ins, result, outs, in_text c)
  at_one n s Null f c k deeper = absurd (con_nil f k)
  at_one n s Skip f c k deeper = absurd (con_nil f k)
  at_one n s (Seq a b) f c k deeper = absurd (con_nil f k)
  at_one n s (Block at mark body) f c k deeper = absurd (con_nil f k)
  at_one n s (Assign at to e held) f c k deeper = absurd (con_nil f k)
  at_one n s (If at test a b) f c k deeper = absurd (con_nil f k)
  at_one n s (Case at on arms) f c k deeper = absurd (con_nil f k)
  at_one n s (Arm on labels body others) f c k deeper = absurd (con_nil f k)
  at_one n s (For at v first test next body) f c k deeper = absurd (con_nil f k)
  at_one n s (While at test body) f c k deeper = absurd (con_nil f k)
  at_one n s (Repeat at count body) f c k deeper = absurd (con_nil f k)
  at_one n s (Forever at body) f c k deeper = absurd (con_nil f k)
  at_one n s (Wait at falling) f c k deeper = absurd (con_nil f k)
  at_one n s (Disable at m) f c k deeper = absurd (con_nil f k)

  -- what is listed is called
  found : (n : ℕ) (s : Statement) (f : ℕ) → Listed n s f → Calls s f
  found zero s f l = let x = flat_con (called_by (called_in_task d zero)) (texts s) f l in at_one zero s x.0 f x.1 x.2 (λ y g m e k. cc)
  found (suc n) s f l =
      let x = flat_con (called_by (called_in_task d (suc n))) (texts s) f l in
      at_one (suc n) s x.0 f x.1 x.2 (λ y g m e k. found n y g (subst (λ j. Listed j y g) (pred_is m n e) k))
    where
      pred_is : (m n : ℕ) → suc n ≡ suc m → m ≡ n
      pred_is m n e = cc

  module _ (finite : IsFinite d) where
    same_by : (c e : ℕ → List ℕ) (s x : Statement) → Contains (texts s) x →
        ((at : Place) (t : ℕ) (ins : List Expr) (outs : List Lvalue) → Contains (texts s) (Enable at t ins outs) → c t ≡ e t) → called_by c x ≡ called_by e x
    same_by c e s (Enable at t ins outs) k h = h at t ins outs k
    same_by c e s (Host at g ins result outs) k h = refl
    same_by c e s Null k h = refl
    same_by c e s Skip k h = refl
    same_by c e s (Seq a b) k h = refl
    same_by c e s (Block at mark body) k h = refl
    same_by c e s (Assign at to v held) k h = refl
    same_by c e s (If at test a b) k h = refl
    same_by c e s (Case at on arms) k h = refl
    same_by c e s (Arm on labels body others) k h = refl
    same_by c e s (For at v first test next body) k h = refl
    same_by c e s (While at test body) k h = refl
    same_by c e s (Repeat at count body) k h = refl
    same_by c e s (Forever at body) k h = refl
    same_by c e s (Wait at falling) k h = refl
    same_by c e s (Disable at m) k h = refl

    -- the imports that a task calls are those that its body calls in place
    task_is : (t : ℕ) (task : FlatTask) → slice_get d.tasks t ≡ Some task → called_in_task d (length d.tasks) t ≡ called_in_place d task.body
    task_is t task e =
        made_of_task d finite ℕ (List ℕ) [] (λ c x i. called_in (λ q. c q i) x.body) (λ c o i. elim o [ None ↦ [] | Some x ↦ called_in (λ q. c q i) x.body ]) (λ n q i. called_in_task d n q)
        (λ c i. refl) (λ c x i. refl) (λ q i. refl) (λ n q i. refl)
        (λ a b x f i. flat_same (called_by (λ q. a q i)) (called_by (λ q. b q i)) (texts x.body) (λ y k. same_by (λ q. a q i) (λ q. b q i) x.body y k (λ at q ins outs j. f at q ins outs j i))) t task e 0

    -- what is called is listed
    listed : (f : ℕ) {at : Place} {ins : List Expr} {result : Option Lvalue} {outs : List Lvalue} (s : Statement) → InPlace d.tasks (Host at f ins result outs) s → Contains (called_in_place d s) f
    listed f {at = at} {ins = ins} {result = result} {outs = outs} s (in_text c) =
        con_flat (called_by (called_in_task d (length d.tasks))) (texts s) (Host at f ins result outs) f c (con_head f [])
    listed f s (in_body {at = there} {t = t} {ins = given} {outs = targets} {task = task} c e h) =
        con_flat (called_by (called_in_task d (length d.tasks))) (texts s) (Enable there t given targets) f c
        (subst (λ xs. Contains xs f) (sym (task_is t task e)) (listed f task.body h))

some_is : {X : Type 0} (a b : X) → Some a ≡ Some b → a ≡ b
some_is a b e = cc

pub calls_are_listed : (d : Flat) → IsFinite d → CallsAreListed d
calls_are_listed d finite p process is f = (calls, lists)
  where
    calls : Contains (called_in_place d process.body) f → CallsImport d p f
    calls c = let x = found d (length d.tasks) process.body f c in calls_import (record { process = process; is = is; there = x.4 })

    lists : CallsImport d p f → Contains (called_in_place d process.body) f
    lists (calls_import h) = listed d finite f process.body (subst (λ (q : FlatProc). InPlace d.tasks _ q.body) (some_is h.process process (sym h.is ∙ is)) h.there)

-- ---- without imports

none_got : {X : Type 0} (xs : List X) → xs ≡ [] → (fs : List ℕ) → filter_map (slice_get xs) fs ≡ []
none_got xs e [] = refl
none_got xs e (f ∷ fs) = subst (λ ys. filter_map (slice_get ys) (f ∷ fs) ≡ []) (sym e) (none_got [] refl fs)

pub none_without_imports : (d : Flat) → d.imports ≡ [] → hosts_of d ≡ []
none_without_imports d e = go 0 d.procs
  where
    go : (n : ℕ) (ps : List FlatProc) → flat_map (λ p. host_of p.0 (functions_called d p.1.body)) (enumerate_from n ps) ≡ []
    go n [] = refl
    go n (p ∷ ps) = rw (none_got d.imports e (called_in_place d p.body)) (go (n + 1) ps)
