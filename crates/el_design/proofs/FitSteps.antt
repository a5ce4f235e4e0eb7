-- What fits a sound design goes on to fit it: stacks and their quiet steps, and the events of processes.
use Rattle.std.proofs.Common.{◌≡◌, ℕ, zero, suc, Bool, true, false, ◌==◌, if◌then◌else◌, List, [], ◌∷◌, ◌++◌, zip, slice_get, All, Contains, Option, Some, None, IfSome, is_some, option_map, unwrap_or, refl, subst}
use Rattle.std.proofs.lemmas.List.Elements.{All-nil, All-cons, All-head, All-tail, All-append, All-push}
use Rattle.xt_base.specs.declared.refusals.Place.{Place}
use Rattle.xt_bits.specs.Stimulus.{Reply}
use Rattle.xt_bits.specs.Word.{Word}
use Rattle.el_design.specs.declared.designs.Port.{Port}
use Rattle.el_design.specs.Plain.{Expr, Lvalue, ToVariable, Statement, Null, Skip, Seq, Block, Assign, If, Case, Arm, For, While, Repeat, Forever, Wait, Enable, Disable, Host, FlatTask, FlatProc, Flat}
use Rattle.el_design.specs.Store.{stored, width_of, Write}
use Rattle.el_design.specs.Value.{Scene, value, is_up}
use Rattle.el_design.specs.Assign.{writes_of, copies_to, after, has_label, arm_chosen, count_of}
use Rattle.el_design.specs.Names.{listed}
use Rattle.el_design.specs.InPlace.{itself, in_forever}
use Rattle.el_design.specs.Sound.{IsExpr, IsOutput, IsSound}
use Rattle.el_design.specs.Stack.{Work, Do, End, Return, Test, Step, Turns, Await, enter, settle, start_stack, wake, below_mark}
use Rattle.el_design.specs.Act.{Process, Acted, ran, turn, copied_in, copied_out, enabled, import_at, item_word, result_written, outputs_written, replied, assigned, act_do, act_top, act}
use Rattle.el_design.specs.Fits.{IsDeclared, FitsOutput, FitsWrite, IsSoundText, FitsLoop, FitsWork, FitsProcess}
use Rattle.el_design.proofs.FitValues.{all_left, all_right}
use Rattle.el_design.proofs.FitStores.{writes_fit, copies_fit, variable_fits, body_self, body_seq, body_block, body_if, body_case, body_arm, body_for, body_while, body_repeat, body_forever}
use Rattle.el_design.proofs.FitStatements.{variable_declared, for_variable, for_made, enable_made, host_made, process_body, task_body, task_formals}

-- one of two
pub chosen : {X : Type 0} (P : X → Type 0) (b : Bool) (x y : X) → P x → P y → P (if b then x else y)
chosen P true x y h k = h
chosen P false x y h k = k

-- ---- stacks

module _ (d : Flat) where
  pushed : (w : Work) (k : List Work) → FitsWork d w → All (FitsWork d) k → All (FitsWork d) (w ∷ k)
  pushed w k h hs = All-cons (FitsWork d) w k h hs

  enter_fits : (s : Statement) (below still : List Work) → IsSoundText d s → All (FitsWork d) below → All (FitsWork d) still → All (FitsWork d) (enter s below still)
  enter_fits Null below still h b k = k
  enter_fits Skip below still h b k = k
  enter_fits (Seq a b) below still h hb hk =
      let both = body_seq d a b h in
      enter_fits a (Do b ∷ below) (enter b below still) both.0 (pushed (Do b) below both.1 hb) (enter_fits b below still both.1 hb hk)
  enter_fits (Block at None body) below still h b k = enter_fits body below still (body_block d at None body h) b k
  enter_fits (Block at (Some m) body) below still h b k = enter_fits body (End m ∷ below) still (body_block d at (Some m) body h) (pushed (End m) below tt b) k
  enter_fits (Forever at body) below still h b k =
      let again = pushed (Do (Forever at body)) below h b in
      enter_fits body (Do (Forever at body) ∷ below) (Do (Forever at body) ∷ below) (body_forever d at body h) again again
  enter_fits s below still h b k = pushed (Do s) below h b

  pub settle_fits : (k : List Work) → All (FitsWork d) k → All (FitsWork d) (settle k)
  settle_fits [] h = h
  settle_fits (Do s ∷ k) h =
      let rest = All-tail (FitsWork d) (Do s) k h in
      enter_fits s k (settle k) (All-head (FitsWork d) (Do s) k h) rest (settle_fits k rest)
  settle_fits (End m ∷ k) h = settle_fits k (All-tail (FitsWork d) (End m) k h)
  settle_fits (w ∷ k) h = h

  pub wake_fits : (k : List Work) → All (FitsWork d) k → All (FitsWork d) (wake k)
  wake_fits (Do (Wait at falling) ∷ k) h = settle_fits k (All-tail (FitsWork d) _ k h)
  wake_fits k h = h

  below_given : (m : ℕ) (k : List Work) → All (FitsWork d) k → IfSome (below_mark m k) (All (FitsWork d))
  below_given m [] h = tt
  below_given m (w ∷ k) h = go w (All-tail (FitsWork d) w k h) (below_given m k (All-tail (FitsWork d) w k h))
    where
      this : (b : Bool) → All (FitsWork d) k → IfSome (below_mark m k) (All (FitsWork d)) → IfSome (if b then Some k else below_mark m k) (All (FitsWork d))
      this b here later = chosen (λ o. IfSome o (All (FitsWork d))) b (Some k) (below_mark m k) here later

      go : (w : Work) → All (FitsWork d) k → IfSome (below_mark m k) (All (FitsWork d)) → IfSome (below_mark m (w ∷ k)) (All (FitsWork d))
      go (End n) here later = this (n == m) here later
      go (Return at n outs) here later = this (n == m) here later
      go w here later = later

-- ---- lists of what fits

pub zipped : {X Y : Type 0} (P : X → Type 0) (Q : Y → Type 0) (R : X × Y → Type 0) → ((x : X) (y : Y) → P x → Q y → R (x, y))
    → (xs : List X) (ys : List Y) → All P xs → All Q ys → All R (zip xs ys)
zipped P Q R f [] ys h k = All-nil R
zipped P Q R f (x ∷ xs) [] h k = All-nil R
zipped P Q R f (x ∷ xs) (y ∷ ys) h k =
    All-cons R (x, y) (zip xs ys) (f x y (All-head P x xs h) (All-head Q y ys k)) (zipped P Q R f xs ys (All-tail P x xs h) (All-tail Q y ys k))

pub any_one : {X : Type 0} (xs : List X) → All (λ x. Unit {0}) xs
any_one xs k d lt = tt

-- ---- events of processes

module _ (d : Flat) (sound : IsSound d) where
  -- a process from its beginning
  pub always_fits : (at : Place) (body : Statement) → IsSoundText d body → IsSoundText d (Forever at body)
  always_fits at body h x (o, itself) = record { expressions = All-nil (IsExpr d); outputs = All-nil (IsOutput d); fits = tt }
  always_fits at body h x (o, in_forever k) = h x (o, k)

  pub start_stack_fits : (p : FlatProc) → Contains d.procs p → All (FitsWork d) (start_stack p)
  start_stack_fits p c =
      let body = process_body d sound p c in
      let first : Work = if p.always then Do (Forever p.place p.body) else Do p.body in
      settle_fits d (first ∷ []) (pushed d first [] (chosen (FitsWork d) p.always (Do (Forever p.place p.body)) (Do p.body) (always_fits p.place p.body body) body) (All-nil (FitsWork d)))

  copied_in_fits : (s : Scene) (xs : List (ℕ × Expr)) → All (λ x. IsDeclared d x.0) xs → All (FitsWrite d) (copied_in d s xs)
  copied_in_fits s [] h = All-nil (FitsWrite d)
  copied_in_fits s (x ∷ xs) h =
      All-append (FitsWrite d) (writes_of d s (ToVariable x.0) (value d s x.1)) (copied_in d s xs)
      (variable_fits d sound s x.0 (All-head (λ x. IsDeclared d x.0) x xs h) (value d s x.1))
      (copied_in_fits s xs (All-tail (λ x. IsDeclared d x.0) x xs h))

  abbrev FitsCopy : ℕ × Lvalue → Type 0
  FitsCopy x = IsDeclared d x.0 × FitsOutput d x.1

  copied_out_fits : (s : Scene) (xs : List (ℕ × Lvalue)) → All FitsCopy xs → All (FitsWrite d) (copied_out d s xs)
  copied_out_fits s [] h = All-nil (FitsWrite d)
  copied_out_fits s (x ∷ xs) h =
      let held = stored s.store x.0 0 (width_of d x.0) in
      let signed = unwrap_or (option_map (λ v. v.signed) (slice_get d.vars x.0)) false in
      let ws = copies_to d s x.1 held signed in
      All-append (FitsWrite d) ws (copied_out d (after s ws) xs) (copies_fit d sound s x.1 (All-head FitsCopy x xs h).1.0 held signed)
      (copied_out_fits (after s ws) xs (All-tail FitsCopy x xs h))

  result_fits : (s : Scene) (r : Reply) (port : Option Port) (t : Option Lvalue) → All (FitsOutput d) (listed t) → All (FitsWrite d) (result_written d s r port t)
  result_fits s r (Some port) (Some t) h = copies_fit d sound s t (All-head (FitsOutput d) t [] h).0 (item_word r 0 port) port.signed
  result_fits s r port t h = All-nil (FitsWrite d)

  outputs_written_fit : (s : Scene) (r : Reply) (i : ℕ) (xs : List (Port × Lvalue)) (port : Option Port) (result : Option Lvalue)
      → All (λ x. FitsOutput d x.1) xs → All (FitsOutput d) (listed result) → All (FitsWrite d) (outputs_written d s r i xs port result)
  outputs_written_fit s r i [] port result h k = result_fits s r port result k
  outputs_written_fit s r i (x ∷ xs) port result h k =
      let ws = copies_to d s x.1 (item_word r i x.0) x.0.signed in
      All-append (FitsWrite d) ws (outputs_written d (after s ws) r (suc i) xs port result)
      (copies_fit d sound s x.1 (All-head (λ x. FitsOutput d x.1) x xs h).0 (item_word r i x.0) x.0.signed)
      (outputs_written_fit (after s ws) r (suc i) xs port result (All-tail (λ x. FitsOutput d x.1) x xs h) k)

  -- what an event leaves fits, where there is one
  abbrev Leaves : Option Acted → Type 0
  Leaves o = IfSome o (λ a. FitsProcess d a.process × All (FitsWrite d) a.writes)

  module _ (s : Scene) (p : Process) (kept : All (All (FitsWrite d)) p.updates) (k : List Work) (below : All (FitsWork d) k) where
    ran_fits : (at : Place) (ws : List Write) (next : List Work) → All (FitsWrite d) ws → All (FitsWork d) next → Leaves (ran at ws p next)
    ran_fits at ws next hw hk = (record { work = settle_fits d next hk; updates = kept }, hw)

    no_writes : All (FitsWrite d) []
    no_writes = All-nil (FitsWrite d)

    over : (w : Work) → FitsWork d w → All (FitsWork d) (w ∷ k)
    over w h = pushed d w k h below

    assigned_leaves : (at : Place) (ws : List Write) (held : Bool) → All (FitsWrite d) ws → Leaves (assigned at ws held p k)
    assigned_leaves at ws false h = ran_fits at ws k h below
    assigned_leaves at ws true h = (record { work = settle_fits d k below; updates = All-push (All (FitsWrite d)) p.updates ws kept h }, no_writes)

    arm_fits : (arms : Statement) → IsSoundText d arms → IsSoundText d (arm_chosen d s arms)
    arm_fits (Arm on labels body others) h =
        let both = body_arm d on labels body others h in
        chosen (IsSoundText d) (has_label d s on labels) body (arm_chosen d s others) both.0 (arm_fits others both.1)
    arm_fits other h = h

    turn_fits : (at : Place) (n : ℕ) (body : Statement) → IsSoundText d body → All (FitsWork d) (turn at n body k)
    turn_fits at zero body h = below
    turn_fits at (suc left) body h = pushed d (Do body) (Turns at left body ∷ k) h (over (Turns at left body) h)

    enabled_leaves : (at : Place) (t : ℕ) (ins : List Expr) (outs : List Lvalue) (o : Option FlatTask) → slice_get d.tasks t ≡ o → All (FitsOutput d) outs
        → Leaves (enabled d s p k at ins outs o)
    enabled_leaves at t ins outs None e h = ran_fits at [] k no_writes below
    enabled_leaves at t ins outs (Some task) e h =
        let formals = task_formals d sound t task e in
        let copied = zipped (IsDeclared d) (λ y. Unit {0}) (λ z. IsDeclared d z.0) (λ x y a b. a) task.ins ins formals.0 (any_one ins) in
        let outputs = zipped (IsDeclared d) (FitsOutput d) FitsCopy (λ x y a b. (a, b)) task.outs outs formals.1 h in
        let end : Work = Return at task.mark (zip task.outs outs) in
        ran_fits at (copied_in d s (zip task.ins ins)) (Do task.body ∷ end ∷ k) (copied_in_fits s (zip task.ins ins) copied)
        (pushed d (Do task.body) (end ∷ k) (task_body d sound t task e) (over end outputs))

    while_leaves : (at : Place) (b : Bool) (body : Statement) (later : Work) → IsSoundText d body → FitsWork d later
        → Leaves (ran at [] p (if b then Do body ∷ later ∷ k else k))
    while_leaves at b body later h l =
        let both = Do body ∷ later ∷ k in
        ran_fits at [] (if b then both else k) no_writes (chosen (All (FitsWork d)) b both k (pushed d (Do body) (later ∷ k) h (over later l)) below)

    turned_leaves : (at : Place) (n : ℕ) (body : Statement) → IsSoundText d body → Leaves (ran at [] p (turn at n body k))
    turned_leaves at n body h = ran_fits at [] (turn at n body k) no_writes (turn_fits at n body h)

    stored_leaves : (at : Place) (v : ℕ) (x : Word) (w : Work) → IsDeclared d v → FitsWork d w → Leaves (ran at (writes_of d s (ToVariable v) x) p (w ∷ k))
    stored_leaves at v x w h l = ran_fits at (writes_of d s (ToVariable v) x) (w ∷ k) (variable_fits d sound s v h x) (over w l)

    disabled_fits : (o : Option (List Work)) → IfSome o (All (FitsWork d)) → All (FitsWork d) (unwrap_or o k)
    disabled_fits None h = below
    disabled_fits (Some next) h = h

    do_leaves : (x : Statement) → IsSoundText d x → Leaves (act_do d s p k x)
    do_leaves (Assign at to e held) h = assigned_leaves at _ held (writes_fit d sound s to (All-head (IsOutput d) to [] (body_self d _ h).outputs) (value d s e))
    do_leaves (If at test a b) h =
        let both = body_if d at test a b h in
        let next : Work = if is_up (value d s test) then Do a else Do b in
        ran_fits at [] (next ∷ k) no_writes (over next (chosen (FitsWork d) (is_up (value d s test)) (Do a) (Do b) both.0 both.1))
    do_leaves (Case at on arms) h =
        let next = Do (arm_chosen d s arms) in
        ran_fits at [] (next ∷ k) no_writes (over next (arm_fits arms (body_case d at on arms h)))
    do_leaves (While at test body) h =
        while_leaves at (is_up (value d s test)) body (Do (While at test body)) (body_while d at test body h) h
    do_leaves (Repeat at count body) h =
        turned_leaves at (count_of d s count) body (body_repeat d at count body h)
    do_leaves (For at v first test next body) h =
        let own = body_self d _ h in
        let variable = for_variable d at v first test next body own in
        let made = for_made d at v first test next body own in
        let loop : FitsLoop d v test next body = (variable, made.1, made.2, body_for d at v first test next body h) in
        stored_leaves at v (value d s first) (Test at v test next body) (variable_declared d v variable) loop
    do_leaves (Enable at t ins outs) h =
        enabled_leaves at t ins outs (slice_get d.tasks t) refl (enable_made d at t ins outs (body_self d _ h)).1
    do_leaves (Disable at m) h = ran_fits at [] (unwrap_or (below_mark m k) k) no_writes (disabled_fits (below_mark m k) (below_given d m k below))
    do_leaves (Host at f ins result outs) h =
        (record { work = over (Await at f result outs) (host_made d at f ins result outs (body_self d _ h)).1; updates = kept }, no_writes)
    do_leaves x h = tt

    replied_leaves : (at : Place) (f : ℕ) (result : Option Lvalue) (outs : List Lvalue) (rs : List Reply) → All (FitsOutput d) (listed result ++ outs)
        → Leaves (replied d s p k at f result outs rs)
    replied_leaves at f result outs [] h = tt
    replied_leaves at f result outs (r ∷ rs) h =
        let ports = import_at d f [] (λ x. x.outs) in
        let port = import_at d f None (λ x. x.result) in
        let to = zipped (λ y. Unit {0}) (FitsOutput d) (λ z. FitsOutput d z.1) (λ x y a b. b) ports outs (any_one ports) (all_right (FitsOutput d) (listed result) outs h) in
        (record { work = settle_fits d k below; updates = kept }, outputs_written_fit s r (if is_some port then 1 else 0) (zip ports outs) port result to (all_left (FitsOutput d) (listed result) outs h))

  top_leaves : (s : Scene) (p : Process) → All (All (FitsWrite d)) p.updates → (k : List Work) → All (FitsWork d) k → Leaves (act_top d s p k)
  top_leaves s p kept [] h = tt
  top_leaves s p kept (w ∷ k) h = go w (All-head (FitsWork d) w k h) (All-tail (FitsWork d) w k h)
    where
      go : (w : Work) → FitsWork d w → All (FitsWork d) k → Leaves (act_top d s p (w ∷ k))
      go (Do x) fits below = do_leaves s p kept k below x fits
      go (End m) fits below = tt
      go (Return at m outs) fits below = ran_fits s p kept k below at (copied_out d s outs) k (copied_out_fits s outs fits) below
      go (Test at v test next body) fits below = while_leaves s p kept k below at (is_up (value d s test)) body (Step at v test next body) fits.3 fits
      go (Step at v test next body) fits below = stored_leaves s p kept k below at v (value d s next) (Test at v test next body) (variable_declared d v fits.0) fits
      go (Turns at left body) fits below = turned_leaves s p kept k below at left body fits
      go (Await at f result outs) fits below = replied_leaves s p kept k below at f result outs p.replies fits

  pub act_fits : (s : Scene) (p : Process) (a : Acted) → FitsProcess d p → act d s p ≡ Some a → FitsProcess d a.process × All (FitsWrite d) a.writes
  act_fits s p a h e = subst Leaves e (top_leaves s p h.updates p.stack h.work)
