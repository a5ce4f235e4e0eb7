-- A function's body by its structure is what the stack runs.
use Rattle.std.proofs.Common.{◌≡◌, ℕ, zero, suc, ◌^◌, Bool, true, false, if◌then◌else◌, List, [], ◌∷◌, Some, None, refl, sym, ap, subst}
use Rattle.xt_bits.specs.Word.{Word}
use Rattle.xt_base.specs.declared.refusals.Place.{Place}
use Rattle.el_design.specs.Plain.{Expr, ToVariable, Statement, Null, Skip, Seq, Block, Assign, If, Case, Arm, For, While, Repeat, Forever, Wait, Enable, Disable, Host, Flat}
use Rattle.el_design.specs.Store.{Store, Write, width_of, put_all}
use Rattle.el_design.specs.Value.{value, is_up}
use Rattle.el_design.specs.Assign.{writes_of, has_label, arm_chosen, count_of}
use Rattle.el_design.specs.Function.{times, while_up, body_scene, assigned, body_store}
use Rattle.el_design.specs.Stack as stacks
use Rattle.el_design.specs.Stack.{Work, Do, End, settle}
use Rattle.el_design.specs.Act.{Ran, turn, act}
use Rattle.el_design.specs.Bodies.{alone, Events, EndsWithin, Turns, Ends, BodyRuns}

module _ (d : Flat) (call : ℕ → List Word → Word) where
  abbrev Comes : List Work → Store → List Work → Store → Type 0
  Comes k store end after = (n : ℕ) × Events d call n k store end after

  here : (k : List Work) (store : Store) → Comes k store k store
  here k store = (zero, (refl, refl))

  -- one event, and those after it
  event : (at : Place) (ws : List Write) (k next : List Work) (store : Store) (end : List Work) (after : Store)
      → act d (body_scene call store) (alone k) ≡ Some (record { did = Ran; at = at; writes = ws; process = alone next })
      → Comes next (put_all store ws) end after → Comes k store end after
  event at ws k next store end after e c = (suc c.0, (record { did = Ran; at = at; writes = ws; process = alone next }, e, c.1))

  joined_at : (n : ℕ) (k : List Work) (store : Store) (mid : List Work) (between : Store) (end : List Work) (after : Store)
      → Events d call n k store mid between → Comes mid between end after → Comes k store end after
  joined_at zero k store mid between end after h c = subst (λ x. Comes x store end after) (sym h.0) (subst (λ s. Comes mid s end after) (sym h.1) c)
  joined_at (suc n) k store mid between end after h c =
      let rest = joined_at n h.0.process.stack (put_all store h.0.writes) mid between end after h.2 c in
      (suc rest.0, (h.0, h.1, rest.1))

  joined : (k : List Work) (store : Store) (mid : List Work) (between : Store) (end : List Work) (after : Store)
      → Comes k store mid between → Comes mid between end after → Comes k store end after
  joined k store mid between end after h c = joined_at h.0 k store mid between end after h.1 c

  -- a statement on any stack
  abbrev Goes : Statement → Store → Type 0
  Goes s store = (k : List Work) → Comes (settle (Do s ∷ k)) store (settle k) (body_store d call s store)

  -- the turns that are left of a `repeat`
  repeated : (at : Place) (body : Statement) → ((store : Store) → Ends d call body false store → Goes body store) → (n : ℕ) (k : List Work) (store : Store)
      → Turns n (Ends d call body false) (body_store d call body) store → Comes (settle (turn at n body k)) store (settle k) (times n (body_store d call body) store)
  repeated at body go zero k store h = here (settle k) store
  repeated at body go (suc n) k store h =
      let next = body_store d call body store in
      let rest = repeated at body go n k next h.1 in
      joined (settle (Do body ∷ stacks.Turns at n body ∷ k)) store (stacks.Turns at n body ∷ k) next (settle k) (times n (body_store d call body) next)
      (go store h.0 (stacks.Turns at n body ∷ k))
      (event at [] (stacks.Turns at n body ∷ k) (settle (turn at n body k)) next (settle k) (times n (body_store d call body) next) refl rest)

  -- the turns of a `for`, from its test on
  module _ (at : Place) (v : ℕ) (test next : Expr) (body : Statement) (k : List Work) where
    abbrev holds : Store → Bool
    holds st = is_up (value d (body_scene call st) test)

    abbrev turned : Store → Store
    turned st = assigned d call v next (body_store d call body st)

    abbrev tested : List Work
    tested = stacks.Test at v test next body ∷ k

    abbrev stepped : List Work
    stepped = stacks.Step at v test next body ∷ k

    test_is : (b : Bool) (store : Store) → holds store ≡ b
        → act d (body_scene call store) (alone tested) ≡ Some (record { did = Ran; at = at; writes = []; process = alone (settle (if b then Do body ∷ stepped else k)) })
    test_is b store e = ap (λ x. Some (record { did = Ran; at = at; writes = []; process = alone (settle (if x then Do body ∷ stepped else k)) })) e

    fails : (store : Store) → holds store ≡ false → Comes tested store (settle k) store
    fails store e = event at [] tested (settle k) store (settle k) store (test_is false store e) (here (settle k) store)

    looped : ((store : Store) → Ends d call body false store → Goes body store) → (n : ℕ) (store : Store)
        → EndsWithin n holds (Ends d call body false) turned store → Comes tested store (settle k) (while_up n holds turned store)
    looped go zero store h = fails store h
    looped go (suc n) store h = by_test (holds store) refl (λ e. looped go n (turned store) (h e).1)
      where
        by_test : (b : Bool) → holds store ≡ b → (holds store ≡ true → Comes tested (turned store) (settle k) (while_up n holds turned (turned store)))
            → Comes tested store (settle k) (elim (holds store) [ true ↦ while_up n holds turned (turned store) | false ↦ store ])
        by_test true e rest =
            let st = body_store d call body store in
            let end = while_up n holds turned (turned store) in
            subst (λ b. Comes tested store (settle k) (elim b [ true ↦ end | false ↦ store ])) (sym e)
            (event at [] tested (settle (Do body ∷ stepped)) store (settle k) end (test_is true store e)
            (joined (settle (Do body ∷ stepped)) store stepped st (settle k) end (go store (h e).0 stepped)
            (event at (writes_of d (body_scene call st) (ToVariable v) (value d (body_scene call st) next)) stepped tested st (settle k) end refl (rest e))))
        by_test false e rest =
            subst (λ b. Comes tested store (settle k) (elim b [ true ↦ while_up n holds turned (turned store) | false ↦ store ])) (sym e) (fails store e)

  -- what is on the stack: of arms, the one that is chosen
  abbrev on_stack : Bool → Store → Statement → Statement
  on_stack true store s = arm_chosen d (body_scene call store) s
  on_stack false store s = s

  abbrev Done : Statement → Store → List Work → Type 0
  Done s store k = Comes (settle (Do s ∷ k)) store (settle k) (body_store d call s store)

  whole : (c : Bool) (s : Statement) (store : Store) (k : List Work) (after : Store) → arm_chosen d (body_scene call store) s ≡ s
      → Comes (settle (Do s ∷ k)) store (settle k) after → Comes (settle (Do (on_stack c store s) ∷ k)) store (settle k) after
  whole true s store k after e h = subst (λ x. Comes (settle (Do x ∷ k)) store (settle k) after) (sym e) h
  whole false s store k after e h = h

  branched : (at : Place) (test : Expr) (a b : Statement) (k : List Work) (store : Store) (c : Bool) → is_up (value d (body_scene call store) test) ≡ c
      → (is_up (value d (body_scene call store) test) ≡ true → Done a store k) → (is_up (value d (body_scene call store) test) ≡ false → Done b store k)
      → Comes (Do (If at test a b) ∷ k) store (settle k) (body_store d call (If at test a b) store)
  branched at test a b k store true e yes_goes no_goes =
      rw e (event at [] (Do (If at test a b) ∷ k) (settle (Do a ∷ k)) store (settle k) (body_store d call a store) (rw e refl) (yes_goes e))
  branched at test a b k store false e yes_goes no_goes =
      rw e (event at [] (Do (If at test a b) ∷ k) (settle (Do b ∷ k)) store (settle k) (body_store d call b store) (rw e refl) (no_goes e))

  labelled : (on : Expr) (labels : List Expr) (body others : Statement) (k : List Work) (store : Store) (c : Bool) → has_label d (body_scene call store) on labels ≡ c
      → (has_label d (body_scene call store) on labels ≡ true → Done body store k)
      → (has_label d (body_scene call store) on labels ≡ false → Comes (settle (Do (arm_chosen d (body_scene call store) others) ∷ k)) store (settle k) (body_store d call others store))
      → Comes (settle (Do (arm_chosen d (body_scene call store) (Arm on labels body others)) ∷ k)) store (settle k) (body_store d call (Arm on labels body others) store)
  labelled on labels body others k store true e this later = rw e (this e)
  labelled on labels body others k store false e this later = rw e (later e)

  goes : (s : Statement) (c : Bool) (store : Store) → Ends d call s c store → (k : List Work)
      → Comes (settle (Do (on_stack c store s) ∷ k)) store (settle k) (body_store d call s store)
  goes Null c store h k = whole c Null store k store refl (here (settle k) store)
  goes Skip c store h k = whole c Skip store k store refl (here (settle k) store)
  goes (Seq a b) c store h k =
      let between = body_store d call a store in
      whole c (Seq a b) store k (body_store d call b between) refl
      (joined (settle (Do a ∷ Do b ∷ k)) store (settle (Do b ∷ k)) between (settle k) (body_store d call b between) (goes a false store h.0 (Do b ∷ k)) (goes b false between h.1 k))
  goes (Block at None body) c store h k = whole c (Block at None body) store k (body_store d call body store) refl (goes body false store h k)
  goes (Block at (Some m) body) c store h k = whole c (Block at (Some m) body) store k (body_store d call body store) refl (goes body false store h (End m ∷ k))
  goes (Assign at to e true) c store h k = absurd (let clash : true ≡ false = h in cc)
  goes (Assign at to e false) c store h k =
      let s = body_scene call store in
      let ws = writes_of d s to (value d s e) in
      whole c (Assign at to e false) store k (put_all store ws) refl
      (event at ws (Do (Assign at to e false) ∷ k) (settle k) store (settle k) (put_all store ws) refl (here (settle k) (put_all store ws)))
  goes (If at test a b) c store h k =
      whole c (If at test a b) store k (body_store d call (If at test a b) store) refl
      (branched at test a b k store (is_up (value d (body_scene call store) test)) refl (λ e. goes a false store (h.0 e) k) (λ e. goes b false store (h.1 e) k))
  goes (Case at on arms) c store h k =
      whole c (Case at on arms) store k (body_store d call arms store) refl
      (event at [] (Do (Case at on arms) ∷ k) (settle (Do (arm_chosen d (body_scene call store) arms) ∷ k)) store (settle k) (body_store d call arms store) refl (goes arms true store h k))
  goes (For at v first test next body) c store h k =
      let s = body_scene call store in
      let begin = assigned d call v first store in
      let end = body_store d call (For at v first test next body) store in
      whole c (For at v first test next body) store k end refl
      (event at (writes_of d s (ToVariable v) (value d s first)) (Do (For at v first test next body) ∷ k) (stacks.Test at v test next body ∷ k) store (settle k) end refl
      (looped at v test next body k (λ st e. goes body false st e) (2 ^ width_of d v) begin h))
  goes (While at test body) c store h k =
      whole c (While at test body) store k store refl
      (event at [] (Do (While at test body) ∷ k) (settle k) store (settle k) store
      (ap (λ x. Some (record { did = Ran; at = at; writes = []; process = alone (settle (if x then Do body ∷ Do (While at test body) ∷ k else k)) })) h) (here (settle k) store))
  goes (Repeat at count body) c store h k =
      let n = count_of d (body_scene call store) count in
      let end = body_store d call (Repeat at count body) store in
      whole c (Repeat at count body) store k end refl
      (event at [] (Do (Repeat at count body) ∷ k) (settle (turn at n body k)) store (settle k) end refl (repeated at body (λ st e. goes body false st e) n k store h))
  goes (Arm on labels body others) true store h k =
      labelled on labels body others k store (has_label d (body_scene call store) on labels) refl (λ e. goes body false store (h.0 e) k) (λ e. goes others true store (h.1 e) k)
  goes (Arm on labels body others) false store h k = absurd h
  goes (Forever at body) c store h k = absurd h
  goes (Wait at falling) c store h k = absurd h
  goes (Enable at t ins outs) c store h k = absurd h
  goes (Disable at m) c store h k = absurd h
  goes (Host at f ins result outs) c store h k = absurd h

pub body_runs : (d : Flat) (call : ℕ → List Word → Word) (s : Statement) (k : List Work) (store : Store) → BodyRuns d call s k store
body_runs d call s k store = λ h. goes d call s false store h k
