-- A stack alone does what its big step says.
use Rattle.std.proofs.Common.{◌≡◌, ℕ, zero, suc, Bool, true, false, if◌then◌else◌, ◌==◌, List, [], ◌∷◌, Option, Some, None, zip, slice_get, refl, sym, ◌∙◌, subst}
use Rattle.xt_base.specs.declared.refusals.Place.{Place}
use Rattle.xt_bits.specs.Word.{Word}
use Rattle.xt_bits.specs.Stimulus.{Reply}
use Rattle.el_design.specs.Plain.{Expr, Lvalue, Statement, Null, Skip, Seq, Block, Assign, If, Case, Arm, For, While, Repeat, Forever, Wait, Enable, Disable, Host, FlatTask, Flat}
use Rattle.el_design.specs.Assign.{writes_of, arm_chosen, has_label, count_of}
use Rattle.el_design.specs.Value.{value}
use Rattle.el_design.specs.Stack.{Work, Do, End, Return, Test, Step, Turns, Await, settle, below_mark}
use Rattle.el_design.specs.Act.{turn}
use Rattle.el_design.specs.Alone.{Doing, Outcome, Falls, Stops, Jumps, Lost, Setting, seen, counted, assigning, stepped, asking, is_tested, and_then, closed, returned, loop, turns_of, enabling, disabling, awaiting, go, setting, go_work, go_stack, leave, is_stop, lone_step, lone, Goes, stays, takes}
use Rattle.el_design.proofs.Settling.{again}

-- the events that lead from one stack, above another, to what is said of that other
abbrev pub Reaches : Flat → List Word → List Work → List Work → Doing → Outcome → Type 0
Reaches d nets k below x (Falls y) = Goes d nets k x (settle below) y
Reaches d nets k below x (Stops l y) = Goes d nets k x l y × (is_stop l y.replies ≡ true)
Reaches d nets k below x (Jumps m y) = (rest : List Work) × (below_mark m below ≡ Some rest) × Goes d nets k x (settle rest) y
Reaches d nets k below x Lost = Unit {0}

pub onward : {d : Flat} {nets : List Word} {k mid end : List Work} {x y z : Doing} → Goes d nets k x mid y → Goes d nets mid y end z → Goes d nets k x end z
onward stays h = h
onward (takes e n g) h = takes e n (onward g h)

pub ahead : (d : Flat) (nets : List Word) (k mid below : List Work) (x y : Doing) (o : Outcome) → Goes d nets k x mid y → Reaches d nets mid below y o → Reaches d nets k below x o
ahead d nets k mid below x y (Falls z) g r = onward g r
ahead d nets k mid below x y (Stops l z) g r = (onward g r.0, r.1)
ahead d nets k mid below x y (Jumps m z) g r = (r.0, r.1, onward g r.2)
ahead d nets k mid below x y Lost g r = tt

pub one : {d : Flat} {nets : List Word} {k mid : List Work} {x y : Doing} → lone_step d nets (lone k x) ≡ Some (lone mid y) → y.events ≡ suc x.events → Goes d nets k x mid y
one e n = takes e n stays

some_is : (a b : List Work) → Some a ≡ Some b → a ≡ b
some_is a b e = cc

-- what work has no mark
abbrev Unmarked : Work → List Work → Type 0
Unmarked w below = (m : ℕ) → below_mark m (w ∷ below) ≡ below_mark m below

pub then_reaches : (d : Flat) (nets : List Word) (w : Work) (k below : List Work) (x : Doing) (o : Outcome) (f : Doing → Outcome) → Unmarked w below →
    Reaches d nets k (w ∷ below) x o → ((y : Doing) → Reaches d nets (settle (w ∷ below)) below y (f y)) → Reaches d nets k below x (and_then o f)
then_reaches d nets w k below x (Falls y) f u r h = ahead d nets k (settle (w ∷ below)) below x y (f y) r (h y)
then_reaches d nets w k below x (Stops l y) f u r h = r
then_reaches d nets w k below x (Jumps m y) f u r h = (r.0, sym (u m) ∙ r.1, r.2)
then_reaches d nets w k below x Lost f u r h = tt

jumped : (d : Flat) (nets : List Word) (k below rest : List Work) (x y : Doing) (n : ℕ) (b : Bool) →
    (if b then Some below else below_mark n below) ≡ Some rest → Goes d nets k x (settle rest) y → Reaches d nets k below x (if b then Falls y else Jumps n y)
jumped d nets k below rest x y n true e g = subst (λ r. Goes d nets k x (settle r) y) (sym (some_is below rest e)) g
jumped d nets k below rest x y n false e g = (rest, e, g)

pub closed_reaches : (d : Flat) (nets : List Word) (m : ℕ) (k below : List Work) (x : Doing) (o : Outcome) →
    Reaches d nets k (End m ∷ below) x o → Reaches d nets k below x (closed m o)
closed_reaches d nets m k below x (Falls y) r = r
closed_reaches d nets m k below x (Stops l y) r = r
closed_reaches d nets m k below x (Jumps n y) r = jumped d nets k below r.0 x y n (m == n) r.1 r.2
closed_reaches d nets m k below x Lost r = tt

pub returned_reaches : (d : Flat) (nets : List Word) (at : Place) (m : ℕ) (outs : List (ℕ × Lvalue)) (out : Doing → Doing) (k below : List Work) (x : Doing) (o : Outcome) →
    ((y : Doing) → Goes d nets (Return at m outs ∷ below) y (settle below) (out y)) →
    Reaches d nets k (Return at m outs ∷ below) x o → Reaches d nets k below x (returned out m o)
returned_reaches d nets at m outs out k below x (Falls y) h r = onward r (h y)
returned_reaches d nets at m outs out k below x (Stops l y) h r = r
returned_reaches d nets at m outs out k below x (Jumps n y) h r = jumped d nets k below r.0 x y n (m == n) r.1 r.2
returned_reaches d nets at m outs out k below x Lost h r = tt

-- a loop: each test is an event, and leads to a turn above the loop itself, or to what is below
loop_reaches : (d : Flat) (nets : List Word) (w : Work) (below : List Work) (test : Doing → Bool) (turn : Doing → Outcome) →
    Unmarked w below → settle (w ∷ below) ≡ w ∷ below →
    ((x : Doing) → test x ≡ true → Reaches d nets (w ∷ below) (w ∷ below) x (turn (counted x))) →
    ((x : Doing) → test x ≡ false → Goes d nets (w ∷ below) x (settle below) (counted x)) →
    (n : ℕ) (x : Doing) → Reaches d nets (w ∷ below) below x (loop n test turn x)
loop_reaches d nets w below test turn u s up down zero x = tt
loop_reaches d nets w below test turn u s up down (suc n) x = choose (λ y. rw s (loop_reaches d nets w below test turn u s up down n y)) (test x) refl
  where
    choose : ((y : Doing) → Reaches d nets (settle (w ∷ below)) below y (loop n test turn y)) →
        (b : Bool) → test x ≡ b → Reaches d nets (w ∷ below) below x (if b then and_then (turn (counted x)) (loop n test turn) else Falls (counted x))
    choose more true e = then_reaches d nets w (w ∷ below) below x (turn (counted x)) (loop n test turn) u (up x e) more
    choose more false e = down x e

-- the turns that a `repeat` has left
pub turns_reach : (d : Flat) (nets : List Word) (at : Place) (body : Statement) (below : List Work) (turn_to : ℕ → Doing → Outcome) →
    ((n : ℕ) (x : Doing) → Reaches d nets (settle (Do body ∷ Turns at n body ∷ below)) (Turns at n body ∷ below) x (turn_to n x)) →
    (n : ℕ) (x : Doing) → Reaches d nets (settle (turn at n body below)) below x (turns_of n turn_to x)
turns_reach d nets at body below turn_to h zero x = stays
turns_reach d nets at body below turn_to h (suc n) x =
    then_reaches d nets (Turns at n body) _ below x (turn_to n x) (λ y. turns_of n turn_to (counted y)) (λ m. refl) (h n x)
    (λ y. ahead d nets (Turns at n body ∷ below) (settle (turn at n body below)) below y (counted y) _ (one refl refl) (turns_reach d nets at body below turn_to h n (counted y)))

-- ---- statements

abbrev entry : Setting → Bool → Statement → Doing → Statement
entry c false s x = s
entry c true s x = arm_chosen c.design (seen c x) s

-- where the arms of a `case` begin, or any other statement
abbrev pub Begins : Setting → Bool → Statement → List Work → Doing → Outcome → Type 0
Begins c chosen s below x o = Reaches c.design c.nets (settle (Do (entry c chosen s x) ∷ below)) below x o

as_is : (c : Setting) (chosen : Bool) (s : Statement) (below : List Work) (x : Doing) (o : Outcome) → arm_chosen c.design (seen c x) s ≡ s →
    Reaches c.design c.nets (settle (Do s ∷ below)) below x o → Begins c chosen s below x o
as_is c false s below x o e r = r
as_is c true s below x o e r = rw e r

-- a test by which one of two stacks is chosen
tested : (d : Flat) (nets : List Word) (k a b : List Work) (x : Doing) (t way : Bool) → lone_step d nets (lone k x) ≡ Some (lone (settle (if t then a else b)) (counted x)) →
    t ≡ way → Goes d nets k x (settle (if way then a else b)) (counted x)
tested d nets k a b x t way e h = one (rw h at e) refl

branch : (d : Flat) (nets : List Word) (a b : Statement) (below : List Work) (x : Doing) (t : Bool) (o p : Outcome) →
    Reaches d nets (settle (Do a ∷ below)) below x o → Reaches d nets (settle (Do b ∷ below)) below x p →
    Reaches d nets (settle ((if t then Do a else Do b) ∷ below)) below x (if t then o else p)
branch d nets a b below x true o p r q = r
branch d nets a b below x false o p r q = q

arm : (d : Flat) (nets : List Word) (a b : Statement) (below : List Work) (x : Doing) (t : Bool) (o p : Outcome) →
    Reaches d nets (settle (Do a ∷ below)) below x o → Reaches d nets (settle (Do b ∷ below)) below x p →
    Reaches d nets (settle (Do (if t then a else b) ∷ below)) below x (if t then o else p)
arm d nets a b below x true o p r q = r
arm d nets a b below x false o p r q = q

assigns : (c : Setting) (at : Place) (to : Lvalue) (e : Expr) (held : Bool) (below : List Work) (x : Doing) →
    Goes c.design c.nets (Do (Assign at to e held) ∷ below) x (settle below) (assigning (writes_of c.design (seen c x) to (value c.design (seen c x) e)) held x)
assigns c at to e false below x = one refl refl
assigns c at to e true below x = one refl refl

-- what the bodies of tasks come to
abbrev pub Enabled : Setting → Type 0
Enabled c = (t : FlatTask) (below : List Work) (x : Doing) → Reaches c.design c.nets (settle (Do t.body ∷ below)) below x (c.enabled t below x)

enables : (c : Setting) → Enabled c → (at : Place) (n : ℕ) (ins : List Expr) (outs : List Lvalue) (below : List Work) (x : Doing) (t : Option FlatTask) →
    slice_get c.design.tasks n ≡ t → Reaches c.design c.nets (Do (Enable at n ins outs) ∷ below) below x (enabling c at ins outs below x t)
enables c h at n ins outs below x None e = one (rw e) refl
enables c h at n ins outs below x (Some t) e =
    returned_reaches c.design c.nets at t.mark (zip t.outs outs) _ _ below x (c.enabled t (Return at t.mark (zip t.outs outs) ∷ below) _)
    (λ y. one refl refl)
    (ahead c.design c.nets _ _ (Return at t.mark (zip t.outs outs) ∷ below) x _ _ (one (rw e) refl) (h t (Return at t.mark (zip t.outs outs) ∷ below) _))

disables : (c : Setting) (at : Place) (m : ℕ) (below : List Work) (x : Doing) (o : Option (List Work)) →
    below_mark m below ≡ o → Reaches c.design c.nets (Do (Disable at m) ∷ below) below x (disabling m x o)
disables c at m below x None e = one (rw e) refl
disables c at m below x (Some rest) e = (rest, e, one (rw e) refl)

awaits : (c : Setting) (at : Place) (f : ℕ) (result : Option Lvalue) (outs : List Lvalue) (below : List Work) (x : Doing) (rs : List Reply) →
    x.replies ≡ rs → Reaches c.design c.nets (Await at f result outs ∷ below) below x (awaiting c at f result outs below x rs)
awaits c at f result outs below x [] e = (stays, rw e)
awaits c at f result outs below x (r ∷ rs) e = one (rw e) refl

-- past the body of a `for` comes its step, and then its test
pub step_reaches : (c : Setting) (at : Place) (v : ℕ) (test next : Expr) (body : Statement) (below k : List Work) (x : Doing) (o : Outcome) →
    Reaches c.design c.nets k (Step at v test next body ∷ below) x o → Reaches c.design c.nets k (Test at v test next body ∷ below) x (and_then o (λ z. Falls (stepped c v next z)))
step_reaches c at v test next body below k x (Falls y) r = onward r (one refl refl)
step_reaches c at v test next body below k x (Stops l y) r = r
step_reaches c at v test next body below k x (Jumps m y) r = r
step_reaches c at v test next body below k x Lost r = tt

pub for_reaches : (c : Setting) (at : Place) (v : ℕ) (test next : Expr) (body : Statement) (below : List Work) →
    ((x : Doing) → Reaches c.design c.nets (settle (Do body ∷ Step at v test next body ∷ below)) (Step at v test next body ∷ below) x (go c false body (Step at v test next body ∷ below) x)) →
    (n : ℕ) (x : Doing) →
    Reaches c.design c.nets (Test at v test next body ∷ below) below x
    (loop n (is_tested c test) (λ y. and_then (go c false body (Step at v test next body ∷ below) y) (λ z. Falls (stepped c v next z))) x)
for_reaches c at v test next body below h = loop_reaches c.design c.nets (Test at v test next body) below (is_tested c test) _ (λ m. refl) refl
    (λ x e. ahead c.design c.nets _ (settle (Do body ∷ Step at v test next body ∷ below)) (Test at v test next body ∷ below) x (counted x) _
    (tested c.design c.nets (Test at v test next body ∷ below) (Do body ∷ Step at v test next body ∷ below) below x (is_tested c test x) true refl e)
    (step_reaches c at v test next body below _ (counted x) (go c false body (Step at v test next body ∷ below) (counted x)) (h (counted x))))
    (λ x e. tested c.design c.nets (Test at v test next body ∷ below) (Do body ∷ Step at v test next body ∷ below) below x (is_tested c test x) false refl e)

pub while_reaches : (c : Setting) (at : Place) (test : Expr) (body : Statement) (below : List Work) →
    ((x : Doing) → Reaches c.design c.nets (settle (Do body ∷ Do (While at test body) ∷ below)) (Do (While at test body) ∷ below) x (go c false body (Do (While at test body) ∷ below) x)) →
    (n : ℕ) (x : Doing) → Reaches c.design c.nets (Do (While at test body) ∷ below) below x (loop n (is_tested c test) (go c false body (Do (While at test body) ∷ below)) x)
while_reaches c at test body below h = loop_reaches c.design c.nets (Do (While at test body)) below (is_tested c test) _ (λ m. refl) refl
    (λ x e. ahead c.design c.nets _ (settle (Do body ∷ Do (While at test body) ∷ below)) (Do (While at test body) ∷ below) x (counted x) _
    (tested c.design c.nets (Do (While at test body) ∷ below) (Do body ∷ Do (While at test body) ∷ below) below x (is_tested c test x) true refl e) (h (counted x)))
    (λ x e. tested c.design c.nets (Do (While at test body) ∷ below) (Do body ∷ Do (While at test body) ∷ below) below x (is_tested c test x) false refl e)

pub runs : (c : Setting) → Enabled c → (chosen : Bool) (s : Statement) (below : List Work) (x : Doing) → Begins c chosen s below x (go c chosen s below x)
runs c h chosen Null below x = as_is c chosen Null below x (Falls x) refl stays
runs c h chosen Skip below x = as_is c chosen Skip below x (Falls x) refl stays
runs c h chosen (Seq a b) below x = as_is c chosen (Seq a b) below x (go c chosen (Seq a b) below x) refl
    (then_reaches c.design c.nets (Do b) _ below x (go c false a (Do b ∷ below) x) (go c false b below) (λ m. refl) (runs c h false a (Do b ∷ below) x) (runs c h false b below))
runs c h chosen (Block at None body) below x = as_is c chosen (Block at None body) below x (go c chosen (Block at None body) below x) refl (runs c h false body below x)
runs c h chosen (Block at (Some m) body) below x = as_is c chosen (Block at (Some m) body) below x (go c chosen (Block at (Some m) body) below x) refl
    (closed_reaches c.design c.nets m _ below x (go c false body (End m ∷ below) x) (runs c h false body (End m ∷ below) x))
runs c h chosen (Assign at to e held) below x = as_is c chosen (Assign at to e held) below x (go c chosen (Assign at to e held) below x) refl (assigns c at to e held below x)
runs c h chosen (If at test a b) below x = as_is c chosen (If at test a b) below x (go c chosen (If at test a b) below x) refl
    (ahead c.design c.nets _ (settle ((if is_tested c test x then Do a else Do b) ∷ below)) below x (counted x) _ (one refl refl)
    (branch c.design c.nets a b below (counted x) (is_tested c test x) _ _ (runs c h false a below (counted x)) (runs c h false b below (counted x))))
runs c h chosen (Case at on arms) below x = as_is c chosen (Case at on arms) below x (go c chosen (Case at on arms) below x) refl
    (ahead c.design c.nets _ (settle (Do (arm_chosen c.design (seen c x) arms) ∷ below)) below x (counted x) _ (one refl refl) (runs c h true arms below (counted x)))
runs c h true (Arm on labels body others) below x =
    arm c.design c.nets body (arm_chosen c.design (seen c x) others) below x (has_label c.design (seen c x) on labels) _ _ (runs c h false body below x) (runs c h true others below x)
runs c h false (Arm on labels body others) below x = (stays, refl)
runs c h chosen (For at v first test next body) below x = as_is c chosen (For at v first test next body) below x (go c chosen (For at v first test next body) below x) refl
    (ahead c.design c.nets _ (Test at v test next body ∷ below) below x (stepped c v first x) _ (one refl refl) (for_reaches c at v test next body below (runs c h false body (Step at v test next body ∷ below)) c.turns (stepped c v first x)))
runs c h chosen (While at test body) below x = as_is c chosen (While at test body) below x (go c chosen (While at test body) below x) refl (while_reaches c at test body below (runs c h false body (Do (While at test body) ∷ below)) c.turns x)
runs c h chosen (Repeat at count body) below x = as_is c chosen (Repeat at count body) below x (go c chosen (Repeat at count body) below x) refl
    (ahead c.design c.nets _ (settle (turn at (count_of c.design (seen c x) count) body below)) below x (counted x) _ (one refl refl)
    (turns_reach c.design c.nets at body below (λ left. go c false body (Turns at left body ∷ below)) (λ n y. runs c h false body (Turns at n body ∷ below) y) (count_of c.design (seen c x) count) (counted x)))
runs c h chosen (Forever at body) below x = as_is c chosen (Forever at body) below x (go c chosen (Forever at body) below x) refl
    (then_reaches c.design c.nets (Do (Forever at body)) _ below x (go c false body (Do (Forever at body) ∷ below) x) (λ y. Lost) (λ m. refl)
    (subst (λ k. Reaches c.design c.nets k (Do (Forever at body) ∷ below) x (go c false body (Do (Forever at body) ∷ below) x)) (again body (Do (Forever at body) ∷ below) (Do (Forever at body) ∷ below)) (runs c h false body (Do (Forever at body) ∷ below) x))
    (λ y. tt))
runs c h chosen (Wait at falling) below x = as_is c chosen (Wait at falling) below x (Stops (Do (Wait at falling) ∷ below) x) refl (stays, refl)
runs c h chosen (Enable at t ins outs) below x = as_is c chosen (Enable at t ins outs) below x (go c chosen (Enable at t ins outs) below x) refl (enables c h at t ins outs below x (slice_get c.design.tasks t) refl)
runs c h chosen (Disable at m) below x = as_is c chosen (Disable at m) below x (go c chosen (Disable at m) below x) refl (disables c at m below x (below_mark m below) refl)
runs c h chosen (Host at f ins result outs) below x = as_is c chosen (Host at f ins result outs) below x (go c chosen (Host at f ins result outs) below x) refl
    (ahead c.design c.nets _ (Await at f result outs ∷ below) below x (asking c f ins x) _ (one refl refl) (awaits c at f result outs below (asking c f ins x) x.replies refl))

pub enabled_runs : (d : Flat) (nets : List Word) (turns n : ℕ) → Enabled (setting d nets turns n)
enabled_runs d nets turns zero t below x = tt
enabled_runs d nets turns (suc n) t below x = runs (setting d nets turns n) (enabled_runs d nets turns n) false t.body below x

-- ---- stacks

pub work_runs : (c : Setting) → Enabled c → (w : Work) (below : List Work) (x : Doing) → Reaches c.design c.nets (settle (w ∷ below)) below x (go_work c w below x)
work_runs c h (Do s) below x = runs c h false s below x
work_runs c h (End m) below x = stays
work_runs c h (Return at m outs) below x = one refl refl
work_runs c h (Test at v test next body) below x = for_reaches c at v test next body below (runs c h false body (Step at v test next body ∷ below)) c.turns x
work_runs c h (Step at v test next body) below x =
    ahead c.design c.nets _ (Test at v test next body ∷ below) below x (stepped c v next x) _ (one refl refl) (for_reaches c at v test next body below (runs c h false body (Step at v test next body ∷ below)) c.turns (stepped c v next x))
work_runs c h (Turns at left body) below x =
    ahead c.design c.nets _ (settle (turn at left body below)) below x (counted x) _ (one refl refl)
    (turns_reach c.design c.nets at body below (λ n. go c false body (Turns at n body ∷ below)) (λ n y. runs c h false body (Turns at n body ∷ below) y) left (counted x))
work_runs c h (Await at f result outs) below x = awaits c at f result outs below x x.replies refl

-- what is said of a whole stack: it stops there, or is lost
abbrev pub Ends : Flat → List Word → List Work → Doing → Outcome → Type 0
Ends d nets k x (Falls y) = ⊥
Ends d nets k x (Stops l y) = Goes d nets k x l y × (is_stop l y.replies ≡ true)
Ends d nets k x (Jumps m y) = ⊥
Ends d nets k x Lost = Unit {0}

ends_ahead : (d : Flat) (nets : List Word) (k mid : List Work) (x y : Doing) (o : Outcome) → Goes d nets k x mid y → Ends d nets mid y o → Ends d nets k x o
ends_ahead d nets k mid x y (Falls z) g r = r
ends_ahead d nets k mid x y (Stops l z) g r = (onward g r.0, r.1)
ends_ahead d nets k mid x y (Jumps m z) g r = r
ends_ahead d nets k mid x y Lost g r = tt

left : (c : Setting) (m n : ℕ) (k rest : List Work) (y : Doing) (b : Bool) → (if b then Some k else below_mark m k) ≡ Some rest →
    Ends c.design c.nets (settle k) y (go_stack c k y) → (below_mark m k ≡ Some rest → Ends c.design c.nets (settle rest) y (leave c m k y)) →
    Ends c.design c.nets (settle rest) y (if b then go_stack c k y else leave c m k y)
left c m n k rest y true e f g = subst (λ r. Ends c.design c.nets (settle r) y (go_stack c k y)) (some_is k rest e) f
left c m n k rest y false e f g = g e

mutual
  pub stack_runs : (c : Setting) → Enabled c → (k : List Work) (x : Doing) → Ends c.design c.nets (settle k) x (go_stack c k x)
  stack_runs c h [] x = (stays, refl)
  stack_runs c h (w ∷ k) x = choose (go_work c w k x) (work_runs c h w k x) (stack_runs c h k) (λ m rest y. leave_runs c h m k rest y)
    where
      choose : (o : Outcome) → Reaches c.design c.nets (settle (w ∷ k)) k x o →
          ((y : Doing) → Ends c.design c.nets (settle k) y (go_stack c k y)) →
          ((m : ℕ) (rest : List Work) (y : Doing) → below_mark m k ≡ Some rest → Ends c.design c.nets (settle rest) y (leave c m k y)) →
          Ends c.design c.nets (settle (w ∷ k)) x (elim o [ Falls y ↦ go_stack c k y | Stops l y ↦ Stops l y | Jumps m y ↦ leave c m k y | Lost ↦ Lost ])
      choose (Falls y) r falls jumps = ends_ahead c.design c.nets _ _ x y (go_stack c k y) r (falls y)
      choose (Stops l y) r falls jumps = r
      choose (Jumps m y) r falls jumps = ends_ahead c.design c.nets _ _ x y (leave c m k y) r.2 (jumps m r.0 y r.1)
      choose Lost r falls jumps = tt

  leave_runs : (c : Setting) → Enabled c → (m : ℕ) (k rest : List Work) (y : Doing) → below_mark m k ≡ Some rest → Ends c.design c.nets (settle rest) y (leave c m k y)
  leave_runs c h m [] rest y e = tt
  leave_runs c h m (End n ∷ k) rest y e = left c m n k rest y (n == m) e (stack_runs c h k y) (leave_runs c h m k rest y)
  leave_runs c h m (Return at n outs ∷ k) rest y e = left c m n k rest y (n == m) e (stack_runs c h k y) (leave_runs c h m k rest y)
  leave_runs c h m (Do s ∷ k) rest y e = leave_runs c h m k rest y e
  leave_runs c h m (Test at v test next body ∷ k) rest y e = leave_runs c h m k rest y e
  leave_runs c h m (Step at v test next body ∷ k) rest y e = leave_runs c h m k rest y e
  leave_runs c h m (Turns at n body ∷ k) rest y e = leave_runs c h m k rest y e
  leave_runs c h m (Await at f result outs ∷ k) rest y e = leave_runs c h m k rest y e
