-- What is left of a process reads and writes what the process reads and writes in place, and nothing else.
use Rattle.std.proofs.Common.{◌≡◌, ℕ, zero, suc, Bool, true, false, ◌==◌, if◌then◌else◌, List, [], ◌∷◌, ◌++◌, Option, Some, None, Contains, slice_get, zip, map, flat_map, unwrap_or}
use Rattle.std.proofs.lemmas.List.Elements.{Contains-append_left, Contains-append_right, All-nil}
use Rattle.xt_base.specs.declared.refusals.Place.{Place}
use Rattle.el_design.specs.Plain.{Expr, Lvalue, Statement, Null, Skip, Seq, Block, Arm, For, While, Repeat, Forever, Wait, Enable, Host, FlatTask, FlatProc, Flat}
use Rattle.el_design.specs.Value.{Scene}
use Rattle.el_design.specs.Assign.{has_label, arm_chosen}
use Rattle.el_design.specs.Names.{nets_in, own_expressions}
use Rattle.el_design.specs.InPlace.{Stands, itself, HasInPlace, Meets, Holds}
use Rattle.el_design.specs.InPlace as place
use Rattle.el_design.specs.Touches.{blocking_writes, nonblocking_writes, read_by, WritesBlocking, writes_blocking, WritesNonblocking, writes_nonblocking, Reads, ReadsNet}
use Rattle.el_design.specs.Touches as touch
use Rattle.el_design.specs.Sound.{IsExpr, IsOutput, IsStatement, IsSound}
use Rattle.el_design.specs.Stack.{Work, Do, End, Return, Test, Step, Turns, Await, enter, settle, start_stack, wake, below_mark}
use Rattle.el_design.specs.Act.{turn}
use Rattle.el_design.proofs.OrderLists.{con_nil}
use Rattle.el_design.proofs.Texts.{met_in_place}
use Rattle.el_design.proofs.OrderPlaces.{con_got, con_map}

-- what a statement itself touches, the process touches in place
pub record Share (d : Flat) (i : ℕ) (x : Statement) : Type 0 where
  pub blocking : (v : ℕ) → Contains (blocking_writes d x) v → WritesBlocking d i v
  pub nonblocking : (v : ℕ) → Contains (nonblocking_writes x) v → WritesNonblocking d i v
  pub reads : (v : ℕ) → Contains (read_by d x) v → Reads d i v
  pub nets : (n : ℕ) → Contains (flat_map nets_in (own_expressions x)) n → ReadsNet d i n

pub share_met : (d : Flat) (i : ℕ) (o : List ℕ) (x : Statement) → Meets d i o x → Share d i x
share_met d i o x m = let h : HasInPlace d i x = met_in_place m in
    record { blocking = λ v c. writes_blocking h c; nonblocking = λ v c. writes_nonblocking h c; reads = λ v c. touch.reads h c; nets = λ n c. touch.reads_net h c }

-- of all that stands in a statement of a text
pub record SharesAll (d : Flat) (i : ℕ) (s : Statement) : Type 0 where
  pub marks : List ℕ
  pub each : (o : List ℕ) (x : Statement) → Stands d.tasks marks s o x → Share d i x
  pub text : List ℕ
  pub sound : (o : List ℕ) (x : Statement) → Stands [] text s o x → IsStatement d x

-- the end of an enable
pub record Returns (d : Flat) (i : ℕ) (at : Place) (outs : List (ℕ × Lvalue)) : Type 0 where
  pub number : ℕ
  pub ins : List Expr
  pub targets : List Lvalue
  pub task : FlatTask
  pub share : Share d i (Enable at number ins targets)
  pub task_is : slice_get d.tasks number ≡ Some task
  pub outs_are : outs ≡ zip task.outs targets

abbrev pub WorkShared : Flat → ℕ → Work → Type 0
WorkShared d i (Do s) = SharesAll d i s
WorkShared d i (End m) = Unit {0}
WorkShared d i (Return at m outs) = Returns d i at outs
WorkShared d i (Test at v test next body) = (first : Expr) × SharesAll d i (For at v first test next body)
WorkShared d i (Step at v test next body) = (first : Expr) × SharesAll d i (For at v first test next body)
WorkShared d i (Turns at n body) = SharesAll d i body
WorkShared d i (Await at f result outs) = (ins : List Expr) × SharesAll d i (Host at f ins result outs)

abbrev pub StackShared : Flat → ℕ → List Work → Type 0
StackShared d i [] = Unit {0}
StackShared d i (w ∷ k) = WorkShared d i w × StackShared d i k

-- ---- parts

abbrev pub Embeds : Statement → Statement → Type 0
Embeds s t = (tasks : List FlatTask) (marks o : List ℕ) (x : Statement) → Stands tasks marks t o x → Stands tasks marks s o x

module _ (d : Flat) (i : ℕ) where
  pub own : {s : Statement} → SharesAll d i s → Share d i s
  own {s} h = h.each h.marks s itself

  pub part : {s t : Statement} → Embeds s t → SharesAll d i s → SharesAll d i t
  part f h = record { marks = h.marks; each = λ o x st. h.each o x (f d.tasks h.marks o x st); text = h.text; sound = λ o x st. h.sound o x (f [] h.text o x st) }

  named : {at : Place} {m : ℕ} {body : Statement} → SharesAll d i (Block at (Some m) body) → SharesAll d i body
  named {m = m} h = record { marks = m ∷ h.marks; each = λ o x st. h.each o x (place.in_named st); text = m ∷ h.text; sound = λ o x st. h.sound o x (place.in_named st) }

  pub body_of_for : {at : Place} {v : ℕ} {first test next : Expr} {body : Statement} → SharesAll d i (For at v first test next body) → SharesAll d i body
  body_of_for h = part (λ tasks marks o x st. place.in_for st) h

  pub body_of_while : {at : Place} {test : Expr} {body : Statement} → SharesAll d i (While at test body) → SharesAll d i body
  body_of_while h = part (λ tasks marks o x st. place.in_while st) h

  pub body_of_repeat : {at : Place} {count : Expr} {body : Statement} → SharesAll d i (Repeat at count body) → SharesAll d i body
  body_of_repeat h = part (λ tasks marks o x st. place.in_repeat st) h

  -- ---- stacks

  enter_shared : (s : Statement) (below still : List Work) → SharesAll d i s → StackShared d i below → StackShared d i still → StackShared d i (enter s below still)
  enter_shared Null below still m h k = k
  enter_shared Skip below still m h k = k
  enter_shared (Seq a b) below still m h k =
      let second : SharesAll d i b = part (λ tasks marks o x st. place.in_rest st) m in
      enter_shared a (Do b ∷ below) (enter b below still) (part (λ tasks marks o x st. place.in_first st) m) (second, h) (enter_shared b below still second h k)
  enter_shared (Block at None body) below still m h k = enter_shared body below still (part (λ tasks marks o x st. place.in_block st) m) h k
  enter_shared (Block at (Some n) body) below still m h k = enter_shared body (End n ∷ below) still (named m) (tt, h) k
  enter_shared (Forever at body) below still m h k =
      enter_shared body (Do (Forever at body) ∷ below) (Do (Forever at body) ∷ below) (part (λ tasks marks o x st. place.in_forever st) m) (m, h) (m, h)
  enter_shared s below still m h k = (m, h)

  pub settle_shared : (k : List Work) → StackShared d i k → StackShared d i (settle k)
  settle_shared [] h = tt
  settle_shared (Do s ∷ k) h = enter_shared s k (settle k) h.0 h.1 (settle_shared k h.1)
  settle_shared (End m ∷ k) h = settle_shared k h.1
  settle_shared (w ∷ k) h = h

  pub wake_shared : (k : List Work) → StackShared d i k → StackShared d i (wake k)
  wake_shared (Do (Wait at falling) ∷ k) h = settle_shared k h.1
  wake_shared k h = h

  picked : (b : Bool) (k other : List Work) (o : Option (List Work)) → StackShared d i k → StackShared d i (unwrap_or o other) → StackShared d i (unwrap_or (if b then Some k else o) other)
  picked true k other o h g = h
  picked false k other o h g = g

  pub below_shared : (m : ℕ) (k other : List Work) → StackShared d i k → StackShared d i other → StackShared d i (unwrap_or (below_mark m k) other)
  below_shared m [] other h g = g
  below_shared m (End n ∷ k) other h g = picked (n == m) k other (below_mark m k) h.1 (below_shared m k other h.1 g)
  below_shared m (Return at n outs ∷ k) other h g = picked (n == m) k other (below_mark m k) h.1 (below_shared m k other h.1 g)
  below_shared m (w ∷ k) other h g = below_shared m k other h.1 g

  pub turn_shared : (at : Place) (n : ℕ) (body : Statement) (k : List Work) → SharesAll d i body → StackShared d i k → StackShared d i (turn at n body k)
  turn_shared at zero body k m h = h
  turn_shared at (suc n) body k m h = (m, (m, h))

  pub one_of : (b : Bool) (w u : List Work) → StackShared d i w → StackShared d i u → StackShared d i (if b then w else u)
  one_of true w u h g = h
  one_of false w u h g = g

  pub either : (b : Bool) (x y : Statement) → SharesAll d i x → SharesAll d i y → SharesAll d i (if b then x else y)
  either true x y h g = h
  either false x y h g = g

  pub arm_shared : (s : Scene) (arms : Statement) → SharesAll d i arms → SharesAll d i (arm_chosen d s arms)
  arm_shared s (Arm on labels body others) m =
      either (has_label d s on labels) body (arm_chosen d s others) (part (λ tasks marks o x st. place.in_arm st) m) (arm_shared s others (part (λ tasks marks o x st. place.in_others st) m))
  arm_shared s x m = m

  -- ---- the beginning

  nothing_of : (at : Place) (body : Statement) → Share d i (Forever at body)
  nothing_of at body = record { blocking = λ v c. absurd (con_nil v c); nonblocking = λ v c. absurd (con_nil v c); reads = λ v c. absurd (con_nil v c); nets = λ n c. absurd (con_nil n c) }

  no_statement : (at : Place) (body : Statement) → IsStatement d (Forever at body)
  no_statement at body = record { expressions = All-nil (IsExpr d); outputs = All-nil (IsOutput d); fits = tt }

  lasting : (at : Place) (body : Statement) → SharesAll d i body → SharesAll d i (Forever at body)
  lasting at body h = record { marks = h.marks; each = each; text = h.text; sound = sound }
    where
      each : (o : List ℕ) (x : Statement) → Stands d.tasks h.marks (Forever at body) o x → Share d i x
      each o x itself = nothing_of at body
      each o x (place.in_forever st) = h.each o x st

      sound : (o : List ℕ) (x : Statement) → Stands [] h.text (Forever at body) o x → IsStatement d x
      sound o x itself = no_statement at body
      sound o x (place.in_forever st) = h.sound o x st

  process_shared : (p : FlatProc) → IsSound d → slice_get d.procs i ≡ Some p → SharesAll d i p.body
  process_shared p sound is = record {
    marks = [];
    each = λ o x st. share_met d i o x (record { process = p; is = is; stands = st });
    text = [];
    sound = λ o x st. sound.statements p.body x
        (Contains-append_left (map (λ q. q.body) d.procs ++ map (λ t. t.body) d.tasks) (map (λ f. f.body) d.funcs) p.body
        (Contains-append_left (map (λ q. q.body) d.procs) (map (λ t. t.body) d.tasks) p.body (con_map (λ (q : FlatProc). q.body) d.procs p (con_got d.procs i p is)))) (o, st);
  }

  pub started_shared : (p : FlatProc) → IsSound d → slice_get d.procs i ≡ Some p → StackShared d i (start_stack p)
  started_shared p sound is = go p.always
    where
      go : (b : Bool) → StackShared d i (settle ((if b then Do (Forever p.place p.body) else Do p.body) ∷ []))
      go true = settle_shared (Do (Forever p.place p.body) ∷ []) (lasting p.place p.body (process_shared p sound is), tt)
      go false = settle_shared (Do p.body ∷ []) (process_shared p sound is, tt)

  pub task_shared : (at : Place) (t : ℕ) (ins : List Expr) (outs : List Lvalue) (task : FlatTask) → IsSound d → slice_get d.tasks t ≡ Some task → SharesAll d i (Enable at t ins outs) → SharesAll d i task.body
  task_shared at t ins outs task sound is h = record {
    marks = task.mark ∷ h.marks;
    each = λ o x st. h.each o x (place.in_task is st);
    text = [];
    sound = λ o x st. sound.statements task.body x
        (Contains-append_left (map (λ q. q.body) d.procs ++ map (λ t. t.body) d.tasks) (map (λ f. f.body) d.funcs) task.body
        (Contains-append_right (map (λ q. q.body) d.procs) (map (λ t. t.body) d.tasks) task.body (con_map (λ (q : FlatTask). q.body) d.tasks task (con_got d.tasks t task is)))) (o, st);
  }
