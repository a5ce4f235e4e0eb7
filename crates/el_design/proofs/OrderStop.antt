-- A process alone, from the beginning of an edge: it stops, has no more than U events, and then waits inside its statement again.
use Rattle.std.proofs.Common.{◌≡◌, ℕ, ◌+◌, ◌<◌, ◌≤◌, Bool, true, false, if◌then◌else◌, List, [], ◌∷◌, Option, Some, None, slice_get, length, refl, sym, ap, subst, arith}
use Rattle.xt_bits.specs.Word.{Word}
use Rattle.el_design.specs.Plain.{Statement, Forever, FlatProc, Flat}
use Rattle.el_design.specs.Stack.{Work, Do, settle}
use Rattle.el_design.specs.Sizes.{size_of, u_of, counting}
use Rattle.el_design.specs.Rules.{max_turns, IsClean}
use Rattle.el_design.specs.Sound.{IsSound}
use Rattle.el_design.specs.Alone.{Doing, Outcome, Falls, Stops, Jumps, Lost, Setting, go, go_stack, is_stop, setting, Goes, stays}
use Rattle.el_design.proofs.OrderAlone.{Reaches, runs, enabled_runs}
use Rattle.el_design.proofs.OrderLists.{con_nil}
use Rattle.el_design.proofs.OrderRule.{CountsEnough, always_waits, IsShaped}
use Rattle.el_design.proofs.OrderWalk.{Leaves}
use Rattle.el_design.proofs.OrderOutcome.{FreeIn, Kept, Fine, Sane, Paused, in_forever, Rests}
use Rattle.el_design.proofs.OrderSane.{Here, Stated, has_walk, forever_whole}
use Rattle.el_design.proofs.OrderDepth.{sizes_at, sizes_are, any, sound_tasks, sound_process, tasks_stated, started}
use Rattle.el_design.proofs.OrderPlaces.{con_got}
use Rattle.el_design.proofs.OrderResume.{resume, resumes, carry, resume_carried}
use Rattle.el_design.proofs.OrderBeside.{Beside, resumed, res_forever}

-- the statement that a process is
abbrev pub root : FlatProc → Statement
root p = if p.always then Forever p.place p.body else p.body

-- enables nest so deep at most
abbrev pub deep : Flat → ℕ
deep d = length d.tasks + length d.funcs

-- a stack stops: where, and in which state
pub record Stopped (d : Flat) (nets : List Word) (turns : ℕ) (process : FlatProc) (bound : ℕ) (k : List Work) (x : Doing) : Type 0 where
  pub stack : List Work
  pub end : Doing
  pub goes : Goes d nets (settle k) x stack end
  pub still : is_stop stack end.replies ≡ true
  pub spent : end.events ≤ bound + x.events
  pub rests : Rests d [] (root process) [] stack end
  pub kept : Kept (FreeIn d [] (root process)) x end
  pub is : go_stack (setting d nets turns (deep d)) k x ≡ Stops stack end

module _ (d : Flat) (p : ℕ) (clean : IsClean d) (sound : IsSound d) (times : List ℕ → Statement → ℕ) (counts : CountsEnough d times) (nets : List Word) (turns : ℕ) (enough : max_turns < turns)
    (process : FlatProc) (here : slice_get d.procs p ≡ Some process) where
  here_process : (below : List Work) → Here d p [] process.body below []
  here_process below = record {
    meets = λ o x st. record { process = process; is = here; stands = st };
    opens = λ m c e. con_nil m c;
    text = [];
    sound = sound_process d sound p process here;
    comes = λ o x t u st uses i. absurd i;
    tasks = tt;
  }

  size_is : 1 + size_of (sizes_at d times (deep d)) [] process.body ≡ u_of d times process
  size_is = ap (λ c. 1 + size_of c [] process.body) (sizes_are d times (deep d))

  finish : (L : Option ℕ → Doing → Type 0) (s : Statement) → s ≡ root process → (size : ℕ) (k : List Work) (x : Doing) (o : Outcome) → Sane L (Fine d [] s size x) (Rests d [] s []) o → Reaches d nets (settle k) [] x o →
      go_stack (setting d nets turns (deep d)) k x ≡ carry (setting d nets turns (deep d)) [] o → size ≤ u_of d times process → Stopped d nets turns process (u_of d times process) k x
  finish L s i size k x (Falls y) f r e h = record {
    stack = [];
    end = y;
    goes = r;
    still = refl;
    spent = (let n : y.events ≤ size + x.events = f.1.spent in omega arith);
    rests = λ at falling j f. cc;
    kept = subst (λ s. Kept (FreeIn d [] s) x y) i f.1.kept;
    is = e;
  }
  finish L s i size k x (Stops l y) f r e h = record {
    stack = l;
    end = y;
    goes = r.0;
    still = r.1;
    spent = (let n : y.events ≤ size + x.events = f.1.spent in omega arith);
    rests = subst (λ s. Rests d [] s [] l y) i f.0;
    kept = subst (λ s. Kept (FreeIn d [] s) x y) i f.1.kept;
    is = e;
  }
  finish L s i size k x (Jumps m y) f r e h = absurd (let g : None ≡ Some r.0 = r.1 in cc)
  finish L s i size k x Lost f r e h = absurd f

  -- an `always` waits
  never : process.always ≡ true → (below : List Work) → Leaves d below process.body None → ⊥
  never a below l = has_walk d p clean times counts nets turns enough [] below process.body (λ m c e. con_nil m c) l (λ walk. always_waits d clean (con_got d.procs p process here) a walk)

  abbrev whole : ℕ
  whole = size_of (sizes_at d times (deep d)) [] process.body

  abbrev lone_setting : Setting
  lone_setting = setting d nets turns (deep d)

  room : length d.tasks ≤ 0 + deep d
  room = omega arith

  -- from the process's start
  pub starts : (x : Doing) → IsShaped d x.store → Stopped d nets turns process (u_of d times process) (Do (root process) ∷ []) x
  starts x sh = choose process.always refl
    where
      begins : (below : List Work) → Stated d p clean times counts nets turns enough [] process.body below whole x (go lone_setting false process.body below x)
      begins below = started d p clean sound times counts nets turns enough (deep d) (deep d) [] (omega arith) room false any process.body [] below (here_process below) (λ f. absurd (let g : false ≡ true = f in cc)) x sh

      carried : (s : Statement) → go_stack lone_setting (Do s ∷ []) x ≡ carry lone_setting [] (go lone_setting false s [] x)
      carried s = same (go lone_setting false s [] x)
        where
          same : (o : Outcome) → (elim o [ Falls y ↦ go_stack lone_setting [] y | Stops l y ↦ Stops l y | Jumps m y ↦ Rattle.el_design.specs.Alone.leave lone_setting m [] y | Lost ↦ Lost ]) ≡ carry lone_setting [] o
          same (Falls y) = refl
          same (Stops l y) = refl
          same (Jumps m y) = refl
          same Lost = refl

      at_root : (s : Statement) → s ≡ root process → (size : ℕ) → size ≤ u_of d times process → Stated d p clean times counts nets turns enough [] s [] size x (go lone_setting false s [] x) → Stopped d nets turns process (u_of d times process) (Do (root process) ∷ []) x
      at_root s e size h st = subst (λ r. Stopped d nets turns process (u_of d times process) (Do r ∷ []) x) e
          (finish (λ q y. Leaves d [] s q) s e size (Do s ∷ []) x (go lone_setting false s [] x) st (runs lone_setting (enabled_runs d nets turns (deep d)) false s [] x) (carried s) h)

      choose : (b : Bool) → process.always ≡ b → Stopped d nets turns process (u_of d times process) (Do (root process) ∷ []) x
      choose true a = at_root (Forever process.place process.body) (ap (λ b. if b then Forever process.place process.body else process.body) (sym a)) (1 + whole) (let e : 1 + whole ≡ u_of d times process = size_is in omega arith)
          (forever_whole d p clean times counts nets turns enough (sound_tasks d sound) lone_setting.enabled ((counting d times (deep d)).calls) ((counting d times (deep d)).tasks) [] (tasks_stated d p clean sound times counts nets turns enough (deep d) (deep d) [] (omega arith) room)
          [] [] process.place process.body x (never a []) (begins (Do (Forever process.place process.body) ∷ [])))
      choose false a = at_root process.body (ap (λ b. if b then Forever process.place process.body else process.body) (sym a)) whole (let e : 1 + whole ≡ u_of d times process = size_is in omega arith) (begins [])

  -- from a wait in it
  pub goes_from : (k : List Work) (x : Doing) → IsShaped d x.store → Paused d x.store [] (root process) [] k → Stopped d nets turns process (u_of d times process) k x
  goes_from k x sh q = choose process.always refl
    where
      choose : (b : Bool) → process.always ≡ b → Stopped d nets turns process (u_of d times process) k x
      choose true a = forever (subst (λ b. Paused d x.store [] (if b then Forever process.place process.body else process.body) [] k) a q)
        where
          loops : (q : Paused d x.store [] process.body (Do (Forever process.place process.body) ∷ []) k) → Stopped d nets turns process (u_of d times process) k x
          loops q = finish (λ e y. Beside d p clean sound times counts nets turns enough false any (deep d) [] (Forever process.place process.body) [] x e y) (Forever process.place process.body)
              (ap (λ b. if b then Forever process.place process.body else process.body) (sym a)) (1 + whole) k x (resume lone_setting (in_forever {at = process.place} q) x)
              (res_forever d p clean sound times counts nets turns enough (deep d) [] room process.place process.body [] [] (here_process (Do (Forever process.place process.body) ∷ [])) (never a []) x sh (deep d) (omega arith) (resume lone_setting q x)
              (resumed d p clean sound times counts nets turns enough (deep d) (deep d) [] (omega arith) room false any q (here_process (Do (Forever process.place process.body) ∷ [])) (λ f. absurd (let g : false ≡ true = f in cc)) x refl sh))
              (resumes lone_setting (enabled_runs d nets turns (deep d)) (in_forever {at = process.place} q) x) (resume_carried lone_setting (in_forever {at = process.place} q) x) (let e : 1 + whole ≡ u_of d times process = size_is in omega arith)

          forever : Paused d x.store [] (Forever process.place process.body) [] k → Stopped d nets turns process (u_of d times process) k x
          forever (in_forever q) = loops q
      choose false a = initial (subst (λ b. Paused d x.store [] (if b then Forever process.place process.body else process.body) [] k) a q)
        where
          initial : Paused d x.store [] process.body [] k → Stopped d nets turns process (u_of d times process) k x
          initial q = finish (λ e y. Beside d p clean sound times counts nets turns enough false any (deep d) [] process.body [] x e y) process.body
              (ap (λ b. if b then Forever process.place process.body else process.body) (sym a)) whole k x (resume lone_setting q x)
              (resumed d p clean sound times counts nets turns enough (deep d) (deep d) [] (omega arith) room false any q (here_process []) (λ f. absurd (let g : false ≡ true = f in cc)) x refl sh)
              (resumes lone_setting (enabled_runs d nets turns (deep d)) q x) (resume_carried lone_setting q x) (let e : 1 + whole ≡ u_of d times process = size_is in omega arith)
