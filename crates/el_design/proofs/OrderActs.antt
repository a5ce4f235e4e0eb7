-- The event of a process writes what the process writes in place, and depends on what it reads in place.
use Rattle.std.proofs.Common.{◌≡◌, ℕ, Bool, true, false, if◌then◌else◌, List, [], ◌∷◌, ◌++◌, All, Option, Some, None, Contains, slice_get, zip, flat_map, option_map, unwrap_or, refl, sym, ap, subst, append-nil}
use Rattle.std.proofs.lemmas.List.Elements.{Contains-append_left, Contains-append_right, All-nil, All-cons}
use Rattle.xt_base.specs.declared.refusals.Place.{Place}
use Rattle.xt_bits.specs.Word.{Word}
use Rattle.xt_bits.specs.Stimulus.{Reply}
use Rattle.xt_bits.specs.Trace.{Called}
use Rattle.el_design.specs.Plain.{Expr, Lvalue, ToVariable, Statement, Null, Skip, Seq, Block, Assign, If, Case, Arm, For, While, Repeat, Forever, Wait, Enable, Disable, Host, FlatTask, Flat}
use Rattle.el_design.specs.Store.{Write}
use Rattle.el_design.specs.Value.{Scene, value, is_up}
use Rattle.el_design.specs.Assign.{writes_of, arm_chosen, count_of}
use Rattle.el_design.specs.Names.{nodes_of, variables_in, nets_in, target_indexes, target_variables, own_targets, own_expressions, labels_in, listed}
use Rattle.el_design.specs.Turns.{formals_in, outputs_in}
use Rattle.el_design.specs.Touches.{WritesBlocking, WritesNonblocking, Reads, ReadsNet}
use Rattle.el_design.specs.InPlace.{itself}
use Rattle.el_design.specs.InPlace as place
use Rattle.el_design.specs.Sound.{IsSound, IsStatement}
use Rattle.el_design.specs.Stack.{Work, Do, End, Return, Test, Step, Turns, Await, below_mark}
use Rattle.el_design.specs.Act.{Process, Acted, ran, turn, copied_in, copied_out, enabled, arguments, asked, import_at, replied, assigned, act_do, act_top, act}
use Rattle.el_design.proofs.OrderLists.{con_head, con_tail}
use Rattle.el_design.proofs.OrderPlaces.{con_flat}
use Rattle.el_design.proofs.OrderFoot.{NamesAll, value_same, named_nodes}
use Rattle.el_design.proofs.OrderWrites.{WritesIn, writes_in, entered_in, left_in, replied_in}
use Rattle.el_design.proofs.OrderSame.{Same, NamesOnly, assigned_same, arm_same, count_same, arguments_same, entered_same, returned_same, reply_same}
use Rattle.el_design.proofs.OrderShare.{Share, SharesAll, Returns, StackShared, own, part, body_of_for, body_of_while, body_of_repeat, settle_shared, below_shared, turn_shared, one_of, arm_shared, task_shared}

-- what an event of a process did
pub record Acts (d : Flat) (i : ℕ) (p : Process) (a : Acted) : Type 0 where
  pub writes : WritesIn (WritesBlocking d i) a.writes
  pub more : List (List Write)
  pub updates : a.process.updates ≡ p.updates ++ more
  pub held : All (WritesIn (WritesNonblocking d i)) more
  pub stack : StackShared d i a.process.stack

abbrev pub ActsWell : Flat → ℕ → Process → Option Acted → Type 0
ActsWell d i p None = Unit {0}
ActsWell d i p (Some a) = Acts d i p a

module _ (d : Flat) (i : ℕ) (sound : IsSound d) where
  -- ---- what it writes

  ran_well : (at : Place) (ws : List Write) (p : Process) (k : List Work) → WritesIn (WritesBlocking d i) ws → StackShared d i k → ActsWell d i p (ran at ws p k)
  ran_well at ws p k w h = record { writes = w; more = []; updates = sym (append-nil p.updates); held = All-nil (WritesIn (WritesNonblocking d i)); stack = settle_shared d i k h }

  -- the targets of a statement that isn't held are written by blocking
  targets_blocking : (x : Statement) → ((v : ℕ) → Contains (formals_in d x ++ flat_map target_variables (own_targets x)) v → WritesBlocking d i v) → (v : ℕ) → Contains (flat_map target_variables (own_targets x)) v → WritesBlocking d i v
  targets_blocking x f v c = f v (Contains-append_right (formals_in d x) (flat_map target_variables (own_targets x)) v c)

  entered_well : (s : Scene) (p : Process) (k : List Work) (at : Place) (t : ℕ) (ins : List Expr) (outs : List Lvalue) → SharesAll d i (Enable at t ins outs) → StackShared d i k →
      (o : Option FlatTask) → slice_get d.tasks t ≡ o → ActsWell d i p (enabled d s p k at ins outs o)
  entered_well s p k at t ins outs m h None is = ran_well at [] p k tt h
  entered_well s p k at t ins outs m h (Some task) is =
      let share : Share d i (Enable at t ins outs) = own d i m in
      ran_well at (copied_in d s (zip task.ins ins)) p (Do task.body ∷ Return at task.mark (zip task.outs outs) ∷ k)
      (entered_in (WritesBlocking d i) d s task.ins ins (λ v c. share.blocking v (Contains-append_left (formals_in d (Enable at t ins outs)) (flat_map target_variables outs) v
      (subst (λ o. Contains (unwrap_or (option_map (λ (x : FlatTask). x.ins) o) []) v) (sym is) c))))
      (task_shared d i at t ins outs task sound is m, (record { number = t; ins = ins; targets = outs; task = task; share = share; task_is = is; outs_are = refl }, h))

  asked_well : (s : Scene) (p : Process) (k : List Work) (at : Place) (f : ℕ) (ins : List Expr) (result : Option Lvalue) (outs : List Lvalue) (ws : List Word) → SharesAll d i (Host at f ins result outs) → StackShared d i k →
      ActsWell d i p (asked at p (Called f ws) (Await at f result outs ∷ k))
  asked_well s p k at f ins result outs ws m h = record { writes = tt; more = []; updates = sym (append-nil p.updates); held = All-nil (WritesIn (WritesNonblocking d i)); stack = ((ins, m), h) }

  do_well : (s : Scene) (p : Process) (k : List Work) (x : Statement) → SharesAll d i x → StackShared d i k → ActsWell d i p (act_do d s p k x)
  do_well s p k Null m h = tt
  do_well s p k Skip m h = tt
  do_well s p k (Seq a b) m h = tt
  do_well s p k (Block at mark body) m h = tt
  do_well s p k (Assign at to e false) m h =
      let share : Share d i (Assign at to e false) = own d i m in
      ran_well at (writes_of d s to (value d s e)) p k
      (writes_in (WritesBlocking d i) d s to (value d s e) (λ v c. targets_blocking (Assign at to e false) share.blocking v (Contains-append_left (target_variables to) [] v c))) h
  do_well s p k (Assign at to e true) m h =
      let share : Share d i (Assign at to e true) = own d i m in
      record {
        writes = tt;
        more = writes_of d s to (value d s e) ∷ [];
        updates = refl;
        held = All-cons (WritesIn (WritesNonblocking d i)) (writes_of d s to (value d s e)) [] (writes_in (WritesNonblocking d i) d s to (value d s e) share.nonblocking) (All-nil (WritesIn (WritesNonblocking d i)));
        stack = settle_shared d i k h;
      }
  do_well s p k (If at test a b) m h =
      ran_well at [] p ((if is_up (value d s test) then Do a else Do b) ∷ k) tt
      (chosen (is_up (value d s test)) (part d i (λ tasks marks o x st. place.in_then st) m) (part d i (λ tasks marks o x st. place.in_else st) m))
    where
      chosen : (u : Bool) → SharesAll d i a → SharesAll d i b → StackShared d i ((if u then Do a else Do b) ∷ k)
      chosen true f g = (f, h)
      chosen false f g = (g, h)
  do_well s p k (Case at on arms) m h = ran_well at [] p (Do (arm_chosen d s arms) ∷ k) tt (arm_shared d i s arms (part d i (λ tasks marks o x st. place.in_case st) m), h)
  do_well s p k (Arm on labels body others) m h = tt
  do_well s p k (For at v first test next body) m h =
      let share : Share d i (For at v first test next body) = own d i m in
      ran_well at (writes_of d s (ToVariable v) (value d s first)) p (Test at v test next body ∷ k)
      (writes_in (WritesBlocking d i) d s (ToVariable v) (value d s first) (λ u c. targets_blocking (For at v first test next body) share.blocking u (Contains-append_left (v ∷ []) [] u c))) ((first, m), h)
  do_well s p k (While at test body) m h =
      ran_well at [] p (if is_up (value d s test) then Do body ∷ Do (While at test body) ∷ k else k) tt
      (one_of d i (is_up (value d s test)) (Do body ∷ Do (While at test body) ∷ k) k (body_of_while d i m, (m, h)) h)
  do_well s p k (Repeat at count body) m h = ran_well at [] p (turn at (count_of d s count) body k) tt (turn_shared d i at (count_of d s count) body k (body_of_repeat d i m) h)
  do_well s p k (Forever at body) m h = tt
  do_well s p k (Wait at falling) m h = tt
  do_well s p k (Enable at t ins outs) m h = entered_well s p k at t ins outs m h (slice_get d.tasks t) refl
  do_well s p k (Disable at n) m h = ran_well at [] p (unwrap_or (below_mark n k) k) tt (below_shared d i n k k h h)
  do_well s p k (Host at f ins result outs) m h = asked_well s p k at f ins result outs (arguments d s (zip (import_at d f [] (λ x. x.ins)) ins)) m h

  replied_well : (s : Scene) (p : Process) (k : List Work) (at : Place) (f : ℕ) (ins : List Expr) (result : Option Lvalue) (outs : List Lvalue) (rs : List Reply) →
      Share d i (Host at f ins result outs) → StackShared d i k → ActsWell d i p (replied d s p k at f result outs rs)
  replied_well s p k at f ins result outs [] m h = tt
  replied_well s p k at f ins result outs (r ∷ rs) m h = record {
    writes = replied_in (WritesBlocking d i) d s r f result outs (targets_blocking (Host at f ins result outs) m.blocking);
    more = [];
    updates = sym (append-nil p.updates);
    held = All-nil (WritesIn (WritesNonblocking d i));
    stack = settle_shared d i k h;
  }

  top_well : (s : Scene) (p : Process) (k : List Work) → StackShared d i k → ActsWell d i p (act_top d s p k)
  top_well s p [] h = tt
  top_well s p (Do x ∷ k) h = do_well s p k x h.0 h.1
  top_well s p (End m ∷ k) h = tt
  top_well s p (Return at m outs ∷ k) h =
      let r : Returns d i at outs = h.0 in
      ran_well at (copied_out d s outs) p k
      (subst (λ os. WritesIn (WritesBlocking d i) (copied_out d s os)) (sym r.outs_are)
      (left_in (WritesBlocking d i) d s r.task.outs r.targets (targets_blocking (Enable at r.number r.ins r.targets) r.share.blocking))) h.1
  top_well s p (Test at v test next body ∷ k) h =
      ran_well at [] p (if is_up (value d s test) then Do body ∷ Step at v test next body ∷ k else k) tt
      (one_of d i (is_up (value d s test)) (Do body ∷ Step at v test next body ∷ k) k (body_of_for d i h.0.1, (h.0, h.1)) h.1)
  top_well s p (Step at v test next body ∷ k) h =
      let share : Share d i (For at v h.0.0 test next body) = own d i h.0.1 in
      ran_well at (writes_of d s (ToVariable v) (value d s next)) p (Test at v test next body ∷ k)
      (writes_in (WritesBlocking d i) d s (ToVariable v) (value d s next) (λ u c. targets_blocking (For at v h.0.0 test next body) share.blocking u (Contains-append_left (v ∷ []) [] u c))) (h.0, h.1)
  top_well s p (Turns at n body ∷ k) h = ran_well at [] p (turn at n body k) tt (turn_shared d i at n body k h.0 h.1)
  top_well s p (Await at f result outs ∷ k) h = replied_well s p k at f h.0.0 result outs p.replies (own d i h.0.1) h.1

  pub act_shared : (s : Scene) (p : Process) (a : Acted) → StackShared d i p.stack → act d s p ≡ Some a → Acts d i p a
  act_shared s p a h e = subst (ActsWell d i p) e (top_well s p p.stack h)

  -- ---- what it depends on

  abbrev OnlyOf : List Expr → Type 0
  OnlyOf es = NamesOnly (Reads d i) (ReadsNet d i) d es

  named_of : (x : Statement) → Share d i x → OnlyOf (own_expressions x)
  named_of x m e c =
      named_nodes (Reads d i) (ReadsNet d i) e
      (λ v k. m.reads v (Contains-append_left (flat_map variables_in (own_expressions x)) (outputs_in d x) v (con_flat variables_in (own_expressions x) e v c k)))
      (λ n k. m.nets n (con_flat nets_in (own_expressions x) e n c k))

  left_only : (es fs : List Expr) → OnlyOf (es ++ fs) → OnlyOf es
  left_only es fs h x c = h x (Contains-append_left es fs x c)

  right_only : (es fs : List Expr) → OnlyOf (es ++ fs) → OnlyOf fs
  right_only es fs h x c = h x (Contains-append_right es fs x c)

  module _ (s t : Scene) (g : Same (Reads d i) (ReadsNet d i) s t) where
    value_alike : (e : Expr) → NamesAll (Reads d i) (ReadsNet d i) (nodes_of e) → value d s e ≡ value d t e
    value_alike e h = value_same (Reads d i) (ReadsNet d i) d s t g.agree e h

    -- the first of its expressions, and the second and third of a `for`
    first_alike : (x : Statement) (e : Expr) (es : List Expr) → own_expressions x ≡ e ∷ es → Share d i x → NamesAll (Reads d i) (ReadsNet d i) (nodes_of e)
    first_alike x e es is m = named_of x m e (subst (λ xs. Contains xs e) (sym is) (con_head e es))

    entered_alike : (p : Process) (k : List Work) (at : Place) (ins : List Expr) (outs : List Lvalue) (o : Option FlatTask) → OnlyOf ins → enabled d s p k at ins outs o ≡ enabled d t p k at ins outs o
    entered_alike p k at ins outs None h = refl
    entered_alike p k at ins outs (Some task) h =
        ap (λ ws. ran at ws p (Do task.body ∷ Return at task.mark (zip task.outs outs) ∷ k)) (entered_same (Reads d i) (ReadsNet d i) d s t g.agree task.ins ins h)

    do_alike : (p : Process) (k : List Work) (x : Statement) → SharesAll d i x → act_do d s p k x ≡ act_do d t p k x
    do_alike p k Null m = refl
    do_alike p k Skip m = refl
    do_alike p k (Seq a b) m = refl
    do_alike p k (Block at mark body) m = refl
    do_alike p k (Assign at to e held) m = ap (λ ws. assigned at ws held p k) (assigned_same (Reads d i) (ReadsNet d i) d s t g.agree to e (named_of (Assign at to e held) (own d i m)))
    do_alike p k (If at test a b) m = ap (λ w. ran at [] p ((if is_up w then Do a else Do b) ∷ k)) (value_alike test (first_alike (If at test a b) test [] refl (own d i m)))
    do_alike p k (Case at on arms) m =
        let st : IsStatement d (Case at on arms) = m.sound m.text (Case at on arms) itself in
        ap (λ x. ran at [] p (Do x ∷ k))
        (arm_same (Reads d i) (ReadsNet d i) d s t g.agree on arms st.fits.1 (first_alike (Case at on arms) on (labels_in arms) refl (own d i m)) (right_only (on ∷ []) (labels_in arms) (named_of (Case at on arms) (own d i m))))
    do_alike p k (Arm on labels body others) m = refl
    do_alike p k (For at v first test next body) m =
        ap (λ w. ran at (writes_of d t (ToVariable v) w) p (Test at v test next body ∷ k)) (value_alike first (first_alike (For at v first test next body) first (test ∷ next ∷ []) refl (own d i m)))
    do_alike p k (While at test body) m =
        ap (λ w. ran at [] p (if is_up w then Do body ∷ Do (While at test body) ∷ k else k)) (value_alike test (first_alike (While at test body) test [] refl (own d i m)))
    do_alike p k (Repeat at count body) m =
        ap (λ n. ran at [] p (turn at n body k)) (count_same (Reads d i) (ReadsNet d i) d s t g.agree count (first_alike (Repeat at count body) count [] refl (own d i m)))
    do_alike p k (Forever at body) m = refl
    do_alike p k (Wait at falling) m = refl
    do_alike p k (Enable at n ins outs) m = entered_alike p k at ins outs (slice_get d.tasks n) (left_only ins (flat_map target_indexes outs) (named_of (Enable at n ins outs) (own d i m)))
    do_alike p k (Disable at n) m = refl
    do_alike p k (Host at f ins result outs) m =
        ap (λ ws. asked at p (Called f ws) (Await at f result outs ∷ k))
        (arguments_same (Reads d i) (ReadsNet d i) d s t g.agree (import_at d f [] (λ x. x.ins)) ins (left_only ins (flat_map target_indexes (listed result ++ outs)) (named_of (Host at f ins result outs) (own d i m))))

    replied_alike : (p : Process) (k : List Work) (at : Place) (f : ℕ) (result : Option Lvalue) (outs : List Lvalue) (rs : List Reply) → OnlyOf (flat_map target_indexes (listed result ++ outs)) →
        replied d s p k at f result outs rs ≡ replied d t p k at f result outs rs
    replied_alike p k at f result outs [] h = refl
    replied_alike p k at f result outs (r ∷ rs) h =
        ap (λ ws. replied_with ws) (reply_same (Reads d i) (ReadsNet d i) d s t r f result outs g h)
      where
        replied_with : List Write → Option Acted
        replied_with ws = option_map (λ (a : Acted). record a { writes = ws }) (replied d s p k at f result outs (r ∷ rs))

    top_alike : (p : Process) (k : List Work) → StackShared d i k → act_top d s p k ≡ act_top d t p k
    top_alike p [] h = refl
    top_alike p (Do x ∷ k) h = do_alike p k x h.0
    top_alike p (End m ∷ k) h = refl
    top_alike p (Return at m outs ∷ k) h =
        let r : Returns d i at outs = h.0 in
        let x : Statement = Enable at r.number r.ins r.targets in
        ap (λ ws. ran at ws p k)
        (subst (λ os. copied_out d s os ≡ copied_out d t os) (sym r.outs_are)
        (returned_same (Reads d i) (ReadsNet d i) d s t r.task.outs r.targets g
        (λ v c. r.share.reads v (Contains-append_right (flat_map variables_in (own_expressions x)) (outputs_in d x) v (subst (λ o. Contains (unwrap_or (option_map (λ (y : FlatTask). y.outs) o) []) v) (sym r.task_is) c)))
        (right_only r.ins (flat_map target_indexes r.targets) (named_of x r.share))))
    top_alike p (Test at v test next body ∷ k) h =
        ap (λ w. ran at [] p (if is_up w then Do body ∷ Step at v test next body ∷ k else k))
        (value_alike test (named_of (For at v h.0.0 test next body) (own d i h.0.1) test (con_tail h.0.0 test (test ∷ next ∷ []) (con_head test (next ∷ [])))))
    top_alike p (Step at v test next body ∷ k) h =
        ap (λ w. ran at (writes_of d t (ToVariable v) w) p (Test at v test next body ∷ k))
        (value_alike next (named_of (For at v h.0.0 test next body) (own d i h.0.1) next (con_tail h.0.0 next (test ∷ next ∷ []) (con_tail test next (next ∷ []) (con_head next [])))))
    top_alike p (Turns at n body ∷ k) h = refl
    top_alike p (Await at f result outs ∷ k) h =
        replied_alike p k at f result outs p.replies (right_only h.0.0 (flat_map target_indexes (listed result ++ outs)) (named_of (Host at f h.0.0 result outs) (own d i h.0.1)))

    pub act_same : (p : Process) → StackShared d i p.stack → act d s p ≡ act d t p
    act_same p h = top_alike p p.stack h
