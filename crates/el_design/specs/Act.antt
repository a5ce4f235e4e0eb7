-- The event of a process, by the top of its still stack (IEEE 1364-2005, clauses 9 and 10; calls of the host are this project's own). It gives data: what is written, and the process after it.
use Rattle.std.specs.Prelude.{ℕ, zero, suc, Bool, true, false, if◌then◌else◌, List, [], ◌∷◌, ◌++◌, get_or, slice_get, Option, Some, None, is_some, option_map, unwrap_or, zip}
use Rattle.xt_base.specs.declared.refusals.Place.{Place}
use Rattle.xt_bits.specs.Stimulus.{Reply}
use Rattle.xt_bits.specs.Word.{Word, word}
use Rattle.el_design.specs.declared.designs.Port.{Port}
use Rattle.el_design.specs.declared.designs.Import.{Import}
use Rattle.xt_bits.specs.Trace.{Call, Called}
use Rattle.el_design.specs.Plain.{Expr, Lvalue, ToVariable, Statement, Null, Skip, Seq, Block, Assign, If, Case, Arm, For, While, Repeat, Forever, Wait, Enable, Disable, Host, FlatTask, Flat}
use Rattle.el_design.specs.Store.{width_of, stored, Write}
use Rattle.el_design.specs.Value.{Scene, value, is_up}
use Rattle.el_design.specs.Assign.{writes_of, copies_to, after, arm_chosen, count_of}
use Rattle.el_design.specs.Stack.{Work, Do, End, Return, Test, Step, Turns, Await, settle, below_mark}

-- a process: its still stack, its updates, oldest first, the replies that are left for it, and of this edge its calls and the delays of the replies taken
pub record Process : Type 0 where
  pub stack : List Work
  pub updates : List (List Write)
  pub replies : List Reply
  pub calls : List Call
  pub delays : List ℕ

pub data Did : Type 0 where
  Ran : Did
  Asked : Did
  Replied : Did

-- what an event did: its kind, its line, its writes in order, and the process after it
pub record Acted : Type 0 where
  pub did : Did
  pub at : Place
  pub writes : List Write
  pub process : Process

-- the process with other work, after the quiet steps
abbrev pub goes_on : Process → List Work → Process
goes_on p k = record p { stack = settle k }

abbrev pub ran : Place → List Write → Process → List Work → Option Acted
ran at ws p k = Some (record { did = Ran; at = at; writes = ws; process = goes_on p k })

-- a `repeat` that has so many turns left
abbrev pub turn : Place → ℕ → Statement → List Work → List Work
turn at zero body k = k
turn at (suc left) body k = Do body ∷ Turns at left body ∷ k

-- the inputs of an enable, all evaluated before it copies them to the formals (IEEE 1364-2005, 10.2.2; the order is this project's own)
abbrev pub copied_in : Flat → Scene → List (ℕ × Expr) → List Write
copied_in d s [] = []
copied_in d s (x ∷ xs) = writes_of d s (ToVariable x.0) (value d s x.1) ++ copied_in d s xs

-- the outputs of a task at its return, in order: the target's indexes are evaluated, then the formal is copied (IEEE 1364-2005, 10.2.2; the order, and that indexes are
-- evaluated at the return, are this project's own)
abbrev pub copied_out : Flat → Scene → List (ℕ × Lvalue) → List Write
copied_out d s [] = []
copied_out d s (x ∷ xs) =
    let ws = copies_to d s x.1 (stored s.store x.0 0 (width_of d x.0)) (unwrap_or (option_map (λ v. v.signed) (slice_get d.vars x.0)) false) in
    ws ++ copied_out d (after s ws) xs

abbrev pub enabled : Flat → Scene → Process → List Work → Place → List Expr → List Lvalue → Option FlatTask → Option Acted
enabled d s p k at ins outs None = ran at [] p k
enabled d s p k at ins outs (Some t) = ran at (copied_in d s (zip t.ins ins)) p (Do t.body ∷ Return at t.mark (zip t.outs outs) ∷ k)

-- the arguments of a host call, each cut to its type's width
abbrev pub arguments : Flat → Scene → List (Port × Expr) → List Word
arguments d s [] = []
arguments d s (x ∷ xs) = word x.0.width (value d s x.1).value ∷ arguments d s xs

abbrev pub asked : Place → Process → Call → List Work → Option Acted
asked at p call k = Some (record { did = Asked; at = at; writes = []; process = record p { stack = k; calls = p.calls ++ call ∷ [] } })

-- what an import declares, nothing where there is none
abbrev pub import_at : {X : Type 0} → Flat → ℕ → X → (Import → X) → X
import_at d f none fact = unwrap_or (option_map fact (slice_get d.imports f)) none

-- an item as a value of a type: modulo 2 to its width, 0 where it is missing
abbrev pub item_word : Reply → ℕ → Port → Word
item_word r i port = word port.width (get_or r.items i 0)

-- the outputs of a reply in order, their items from the i-th on, and then its result, which is item 0; this is this project's own
abbrev pub result_written : Flat → Scene → Reply → Option Port → Option Lvalue → List Write
result_written d s r (Some port) (Some t) = copies_to d s t (item_word r 0 port) port.signed
result_written d s r port t = []

abbrev pub outputs_written : Flat → Scene → Reply → ℕ → List (Port × Lvalue) → Option Port → Option Lvalue → List Write
outputs_written d s r i [] port result = result_written d s r port result
outputs_written d s r i (x ∷ xs) port result =
    let ws = copies_to d s x.1 (item_word r i x.0) x.0.signed in
    ws ++ outputs_written d (after s ws) r (suc i) xs port result

abbrev pub reply_written : Flat → Scene → Reply → ℕ → Option Lvalue → List Lvalue → List Write
reply_written d s r f result outs =
    let port = import_at d f None (λ x. x.result) in
    outputs_written d s r (if is_some port then 1 else 0) (zip (import_at d f [] (λ x. x.outs)) outs) port result

abbrev pub replied : Flat → Scene → Process → List Work → Place → ℕ → Option Lvalue → List Lvalue → List Reply → Option Acted
replied d s p k at f result outs [] = None
replied d s p k at f result outs (r ∷ rs) =
    Some (record { did = Replied; at = at; writes = reply_written d s r f result outs; process = record (goes_on p k) { replies = rs; delays = p.delays ++ r.wait ∷ [] } })

-- an assignment: a blocking one is stored, a nonblocking one is appended to the updates with its value and its indexes evaluated (IEEE 1364-2005, 9.2.2)
abbrev pub assigned : Place → List Write → Bool → Process → List Work → Option Acted
assigned at ws false p k = ran at ws p k
assigned at ws true p k = ran at [] (record p { updates = p.updates ++ ws ∷ [] }) k

-- the event of a statement on top of k; None where it is a wait, or no still stack's top
abbrev pub act_do : Flat → Scene → Process → List Work → Statement → Option Acted
act_do d s p k Null = None
act_do d s p k Skip = None
act_do d s p k (Seq a b) = None
act_do d s p k (Block at mark body) = None
act_do d s p k (Assign at to e held) = assigned at (writes_of d s to (value d s e)) held p k
act_do d s p k (If at test a b) = ran at [] p ((if is_up (value d s test) then Do a else Do b) ∷ k)
act_do d s p k (Case at on arms) = ran at [] p (Do (arm_chosen d s arms) ∷ k)
act_do d s p k (Arm on labels body others) = None
act_do d s p k (For at v first test next body) = ran at (writes_of d s (ToVariable v) (value d s first)) p (Test at v test next body ∷ k)
act_do d s p k (While at test body) = ran at [] p (if is_up (value d s test) then Do body ∷ Do (While at test body) ∷ k else k)
act_do d s p k (Repeat at count body) = ran at [] p (turn at (count_of d s count) body k)
act_do d s p k (Forever at body) = None
act_do d s p k (Wait at falling) = None
act_do d s p k (Enable at t ins outs) = enabled d s p k at ins outs (slice_get d.tasks t)
act_do d s p k (Disable at m) = ran at [] p (unwrap_or (below_mark m k) k)
act_do d s p k (Host at f ins result outs) = asked at p (Called f (arguments d s (zip (import_at d f [] (λ x. x.ins)) ins))) (Await at f result outs ∷ k)

abbrev pub act_top : Flat → Scene → Process → List Work → Option Acted
act_top d s p [] = None
act_top d s p (Do x ∷ k) = act_do d s p k x
act_top d s p (End m ∷ k) = None
act_top d s p (Return at m outs ∷ k) = ran at (copied_out d s outs) p k
act_top d s p (Test at v test next body ∷ k) = ran at [] p (if is_up (value d s test) then Do body ∷ Step at v test next body ∷ k else k)
act_top d s p (Step at v test next body ∷ k) = ran at (writes_of d s (ToVariable v) (value d s next)) p (Test at v test next body ∷ k)
act_top d s p (Turns at left body ∷ k) = ran at [] p (turn at left body k)
act_top d s p (Await at f result outs ∷ k) = replied d s p k at f result outs p.replies

-- the event of a process, if it has one
abbrev pub act : Flat → Scene → Process → Option Acted
act d s p = act_top d s p p.stack
