-- A stack that waited, past its wait: what the statement comes to in which it stands.
use Rattle.std.proofs.Common.{◌≡◌, ℕ, ◌==◌, Bool, true, false, if◌then◌else◌, List, ◌∷◌, zip, refl, ◌∙◌}
use Rattle.xt_base.specs.declared.refusals.Place.{Place}
use Rattle.el_design.specs.Plain.{Lvalue, Statement, Forever, While}
use Rattle.el_design.specs.Store.{Store}
use Rattle.el_design.specs.Stack.{Work, Do, End, Return, Test, Step, Turns, settle}
use Rattle.el_design.specs.Act.{turn, copied_out}
use Rattle.el_design.specs.Alone.{Doing, Outcome, Falls, Stops, Jumps, Lost, Setting, seen, counted, writing, stepped, is_tested, and_then, closed, returned, loop, turns_of, go, go_work, go_stack, leave, stays}
use Rattle.el_design.proofs.OrderAlone.{Reaches, ahead, one, then_reaches, closed_reaches, returned_reaches, step_reaches, for_reaches, while_reaches, turns_reach, Enabled, runs}
use Rattle.el_design.proofs.OrderOutcome.{Paused, at_wait, in_first, in_rest, in_block, in_named, in_then, in_else, in_case, in_arm, in_others, in_for, in_while, in_repeat, in_forever, in_task}

-- past the wait, what the statement comes to
abbrev pub resume : (c : Setting) {store : Store} {marks : List ℕ} {s : Statement} {below k : List Work} → Paused c.design store marks s below k → Doing → Outcome
resume c at_wait x = Falls x
resume c (in_first {below = below} {b = b} q) x = and_then (resume c q x) (go c false b below)
resume c (in_rest q) x = resume c q x
resume c (in_block q) x = resume c q x
resume c (in_named {m = m} q) x = closed m (resume c q x)
resume c (in_then q) x = resume c q x
resume c (in_else q) x = resume c q x
resume c (in_case q) x = resume c q x
resume c (in_arm q) x = resume c q x
resume c (in_others q) x = resume c q x
resume c (in_for {below = below} {at = at} {v = v} {first = first} {test = test} {next = next} {body = body} j f q) x =
    and_then (and_then (resume c q x) (λ z. Falls (stepped c v next z)))
    (loop c.turns (is_tested c test) (λ y. and_then (go c false body (Step at v test next body ∷ below) y) (λ z. Falls (stepped c v next z))))
resume c (in_while {below = below} {at = at} {test = test} {body = body} q) x =
    and_then (resume c q x) (loop c.turns (is_tested c test) (go c false body (Do (While at test body) ∷ below)))
resume c (in_repeat {below = below} {at = at} {body = body} left f q) x =
    and_then (resume c q x) (λ y. turns_of left (λ n. go c false body (Turns at n body ∷ below)) (counted y))
resume c (in_forever {below = below} {at = at} {body = body} q) x = and_then (resume c q x) (go c false (Forever at body) below)
resume c (in_task {outs = outs} {task = task} e q) x =
    returned (λ y. writing (copied_out c.design (seen c y) (zip task.outs outs)) y) task.mark (resume c q x)

-- the stack goes there
pub resumes : (c : Setting) → Enabled c → {store : Store} {marks : List ℕ} {s : Statement} {below k : List Work} (q : Paused c.design store marks s below k) (x : Doing) →
    Reaches c.design c.nets (settle k) below x (resume c q x)
resumes c h at_wait x = stays
resumes c h (in_first {below = below} {k = k} {b = b} q) x =
    then_reaches c.design c.nets (Do b) (settle k) below x (resume c q x) (go c false b below) (λ m. refl) (resumes c h q x) (λ y. runs c h false b below y)
resumes c h (in_rest q) x = resumes c h q x
resumes c h (in_block q) x = resumes c h q x
resumes c h (in_named {below = below} {k = k} {m = m} q) x = closed_reaches c.design c.nets m (settle k) below x (resume c q x) (resumes c h q x)
resumes c h (in_then q) x = resumes c h q x
resumes c h (in_else q) x = resumes c h q x
resumes c h (in_case q) x = resumes c h q x
resumes c h (in_arm q) x = resumes c h q x
resumes c h (in_others q) x = resumes c h q x
resumes c h (in_for {below = below} {k = k} {at = at} {v = v} {first = first} {test = test} {next = next} {body = body} j f q) x =
    then_reaches c.design c.nets (Test at v test next body) (settle k) below x (and_then (resume c q x) (λ z. Falls (stepped c v next z))) _ (λ m. refl)
    (step_reaches c at v test next body below (settle k) x (resume c q x) (resumes c h q x))
    (for_reaches c at v test next body below (runs c h false body (Step at v test next body ∷ below)) c.turns)
resumes c h (in_while {below = below} {k = k} {at = at} {test = test} {body = body} q) x =
    then_reaches c.design c.nets (Do (While at test body)) (settle k) below x (resume c q x) _ (λ m. refl) (resumes c h q x)
    (while_reaches c at test body below (runs c h false body (Do (While at test body) ∷ below)) c.turns)
resumes c h (in_repeat {below = below} {k = k} {at = at} {body = body} left f q) x =
    then_reaches c.design c.nets (Turns at left body) (settle k) below x (resume c q x) _ (λ m. refl) (resumes c h q x)
    (λ y. ahead c.design c.nets (Turns at left body ∷ below) (settle (turn at left body below)) below y (counted y) _ (one refl refl)
    (turns_reach c.design c.nets at body below (λ n. go c false body (Turns at n body ∷ below)) (λ n z. runs c h false body (Turns at n body ∷ below) z) left (counted y)))
resumes c h (in_forever {below = below} {k = k} {at = at} {body = body} q) x =
    then_reaches c.design c.nets (Do (Forever at body)) (settle k) below x (resume c q x) (go c false (Forever at body) below) (λ m. refl) (resumes c h q x) (λ y. runs c h false (Forever at body) below y)
resumes c h (in_task {below = below} {k = k} {at = at} {outs = outs} {task = task} e q) x =
    returned_reaches c.design c.nets at task.mark (zip task.outs outs) (λ y. writing (copied_out c.design (seen c y) (zip task.outs outs)) y) (settle k) below x (resume c q x) (λ y. one refl refl) (resumes c h q x)

-- ---- and so does the big step of a whole stack

abbrev pub carry : Setting → List Work → Outcome → Outcome
carry c k (Falls y) = go_stack c k y
carry c k (Stops l y) = Stops l y
carry c k (Jumps m y) = leave c m k y
carry c k Lost = Lost

carry_then : (c : Setting) (w : Work) (k : List Work) (o : Outcome) (f : Doing → Outcome) → ((y : Doing) → go_stack c (w ∷ k) y ≡ carry c k (f y)) → ((m : ℕ) (y : Doing) → leave c m (w ∷ k) y ≡ leave c m k y) →
    carry c (w ∷ k) o ≡ carry c k (and_then o f)
carry_then c w k (Falls y) f g h = g y
carry_then c w k (Stops l y) f g h = refl
carry_then c w k (Jumps m y) f g h = h m y
carry_then c w k Lost f g h = refl

carry_step : (c : Setting) (k : List Work) (o : Outcome) (f : Doing → Doing) (g : Doing → Outcome) → carry c k (and_then o (λ y. g (f y))) ≡ carry c k (and_then (and_then o (λ y. Falls (f y))) g)
carry_step c k (Falls y) f g = refl
carry_step c k (Stops l y) f g = refl
carry_step c k (Jumps m y) f g = refl
carry_step c k Lost f g = refl

-- go_work's outcome is carried as go_stack does
work_carried : (c : Setting) (w : Work) (k : List Work) (y : Doing) → go_stack c (w ∷ k) y ≡ carry c k (go_work c w k y)
work_carried c w k y = go (go_work c w k y)
  where
    go : (o : Outcome) → (elim o [ Falls y ↦ go_stack c k y | Stops l y ↦ Stops l y | Jumps m y ↦ leave c m k y | Lost ↦ Lost ]) ≡ carry c k o
    go (Falls y) = refl
    go (Stops l y) = refl
    go (Jumps m y) = refl
    go Lost = refl

marked : (c : Setting) (k : List Work) (n : ℕ) (y : Doing) (b : Bool) → (if b then go_stack c k y else leave c n k y) ≡ carry c k (if b then Falls y else Jumps n y)
marked c k n y true = refl
marked c k n y false = refl

carry_closed : (c : Setting) (m : ℕ) (k : List Work) (o : Outcome) → carry c (End m ∷ k) o ≡ carry c k (closed m o)
carry_closed c m k (Falls y) = refl
carry_closed c m k (Stops l y) = refl
carry_closed c m k (Jumps n y) = marked c k n y (m == n)
carry_closed c m k Lost = refl

carry_returned : (c : Setting) (at : Place) (m : ℕ) (outs : List (ℕ × Lvalue)) (k : List Work) (o : Outcome) →
    carry c (Return at m outs ∷ k) o ≡ carry c k (returned (λ y. writing (copied_out c.design (seen c y) outs) y) m o)
carry_returned c at m outs k (Falls y) = refl
carry_returned c at m outs k (Stops l y) = refl
carry_returned c at m outs k (Jumps n y) = marked c k n y (m == n)
carry_returned c at m outs k Lost = refl

pub resume_carried : (c : Setting) {store : Store} {marks : List ℕ} {s : Statement} {below k : List Work} (q : Paused c.design store marks s below k) (x : Doing) → go_stack c k x ≡ carry c below (resume c q x)
resume_carried c at_wait x = refl
resume_carried c (in_first {below = below} {b = b} q) x = resume_carried c q x ∙ carry_then c (Do b) below (resume c q x) (go c false b below) (λ y. work_carried c (Do b) below y) (λ m y. refl)
resume_carried c (in_rest q) x = resume_carried c q x
resume_carried c (in_block q) x = resume_carried c q x
resume_carried c (in_named {below = below} {m = m} q) x = resume_carried c q x ∙ carry_closed c m below (resume c q x)
resume_carried c (in_then q) x = resume_carried c q x
resume_carried c (in_else q) x = resume_carried c q x
resume_carried c (in_case q) x = resume_carried c q x
resume_carried c (in_arm q) x = resume_carried c q x
resume_carried c (in_others q) x = resume_carried c q x
resume_carried c (in_for {below = below} {at = at} {v = v} {first = first} {test = test} {next = next} {body = body} j f q) x =
    resume_carried c q x
    ∙ carry_then c (Step at v test next body) below (resume c q x) (λ y. loop c.turns (is_tested c test) (λ y. and_then (go c false body (Step at v test next body ∷ below) y) (λ z. Falls (stepped c v next z))) (stepped c v next y))
    (λ y. work_carried c (Step at v test next body) below y) (λ m y. refl)
    ∙ carry_step c below (resume c q x) (stepped c v next) _
resume_carried c (in_while {below = below} {at = at} {test = test} {body = body} q) x =
    resume_carried c q x ∙ carry_then c (Do (While at test body)) below (resume c q x) _ (λ y. work_carried c (Do (While at test body)) below y) (λ m y. refl)
resume_carried c (in_repeat {below = below} {at = at} {body = body} left f q) x =
    resume_carried c q x ∙ carry_then c (Turns at left body) below (resume c q x) _ (λ y. work_carried c (Turns at left body) below y) (λ m y. refl)
resume_carried c (in_forever {below = below} {at = at} {body = body} q) x =
    resume_carried c q x ∙ carry_then c (Do (Forever at body)) below (resume c q x) _ (λ y. work_carried c (Do (Forever at body)) below y) (λ m y. refl)
resume_carried c (in_task {below = below} {at = at} {outs = outs} {task = task} e q) x =
    resume_carried c q x ∙ carry_returned c at task.mark (zip task.outs outs) below (resume c q x)
