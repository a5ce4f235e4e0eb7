-- Which statements stand in which: in the text, or in place, with the body of each enabled task at its enable. All of it is this project's own.
use Rattle.std.specs.Prelude.{◌≡◌, ℕ, List, [], ◌∷◌, Some, None, Contains, slice_get}
use Rattle.xt_base.specs.declared.refusals.Place.{Place}
use Rattle.el_design.specs.Texts.{texts}
use Rattle.el_design.specs.Plain.{Expr, Lvalue, Statement, Seq, Block, If, Case, Arm, For, While, Repeat, Forever, Enable, FlatTask, FlatProc, FlatFunc, Flat}

-- A statement stands in place in another: in its text, or in the body of a task that this text enables, and so on.
pub data InPlace (tasks : List FlatTask) (x : Statement) : Statement → Type 0 where
  in_text : {s : Statement} → Contains (texts s) x → InPlace tasks x s
  in_body : {s : Statement} {at : Place} {t : ℕ} {ins : List Expr} {outs : List Lvalue} {task : FlatTask} →
      Contains (texts s) (Enable at t ins outs) → slice_get tasks t ≡ Some task → InPlace tasks x task.body → InPlace tasks x s

-- a process has a statement in place: its text holds it, or the text of a task that it reaches by enables
pub record HasInPlace (d : Flat) (p : ℕ) (x : Statement) : Type 0 where
  pub process : FlatProc
  pub is : slice_get d.procs p ≡ Some process
  pub there : InPlace d.tasks x process.body

-- a block or task with this mark is part of a process in place
pub data IsPart (d : Flat) (p m : ℕ) : Type 0 where
  block_part : {at : Place} {body : Statement} → HasInPlace d p (Block at (Some m) body) → IsPart d p m
  task_part : {at : Place} {t : ℕ} {ins : List Expr} {outs : List Lvalue} {task : FlatTask} →
      HasInPlace d p (Enable at t ins outs) → slice_get d.tasks t ≡ Some task → task.mark ≡ m → IsPart d p m

-- ---- with the marks that are open there, which walks of loops need

-- In a statement, with these marks open round it, stands another, with those marks open round that. The tasks are those whose bodies are taken in.
pub data Stands (tasks : List FlatTask) : List ℕ → Statement → List ℕ → Statement → Type 0 where
  itself : {marks : List ℕ} {s : Statement} → Stands tasks marks s marks s
  in_first : {marks o : List ℕ} {a b x : Statement} → Stands tasks marks a o x → Stands tasks marks (Seq a b) o x
  in_rest : {marks o : List ℕ} {a b x : Statement} → Stands tasks marks b o x → Stands tasks marks (Seq a b) o x
  in_block : {marks o : List ℕ} {at : Place} {body x : Statement} →
      Stands tasks marks body o x → Stands tasks marks (Block at None body) o x
  in_named : {marks o : List ℕ} {at : Place} {m : ℕ} {body x : Statement} →
      Stands tasks (m ∷ marks) body o x → Stands tasks marks (Block at (Some m) body) o x
  in_then : {marks o : List ℕ} {at : Place} {e : Expr} {a b x : Statement} →
      Stands tasks marks a o x → Stands tasks marks (If at e a b) o x
  in_else : {marks o : List ℕ} {at : Place} {e : Expr} {a b x : Statement} →
      Stands tasks marks b o x → Stands tasks marks (If at e a b) o x
  in_case : {marks o : List ℕ} {at : Place} {e : Expr} {arms x : Statement} →
      Stands tasks marks arms o x → Stands tasks marks (Case at e arms) o x
  in_arm : {marks o : List ℕ} {e : Expr} {labels : List Expr} {body others x : Statement} →
      Stands tasks marks body o x → Stands tasks marks (Arm e labels body others) o x
  in_others : {marks o : List ℕ} {e : Expr} {labels : List Expr} {body others x : Statement} →
      Stands tasks marks others o x → Stands tasks marks (Arm e labels body others) o x
  in_for : {marks o : List ℕ} {at : Place} {v : ℕ} {a b c : Expr} {body x : Statement} →
      Stands tasks marks body o x → Stands tasks marks (For at v a b c body) o x
  in_while : {marks o : List ℕ} {at : Place} {e : Expr} {body x : Statement} →
      Stands tasks marks body o x → Stands tasks marks (While at e body) o x
  in_repeat : {marks o : List ℕ} {at : Place} {e : Expr} {body x : Statement} →
      Stands tasks marks body o x → Stands tasks marks (Repeat at e body) o x
  in_forever : {marks o : List ℕ} {at : Place} {body x : Statement} →
      Stands tasks marks body o x → Stands tasks marks (Forever at body) o x
  in_task : {marks o : List ℕ} {at : Place} {t : ℕ} {ins : List Expr} {outs : List Lvalue} {task : FlatTask} {x : Statement} →
      slice_get tasks t ≡ Some task → Stands tasks (task.mark ∷ marks) task.body o x → Stands tasks marks (Enable at t ins outs) o x

-- a statement stands in another in the text, with no task's body taken in
abbrev pub Holds : Statement → Statement → Type 0
Holds s x = (o : List ℕ) × Stands [] [] s o x

-- a process meets a statement in place, with these marks open round it
pub record Meets (d : Flat) (p : ℕ) (marks : List ℕ) (x : Statement) : Type 0 where
  pub process : FlatProc
  pub is : slice_get d.procs p ≡ Some process
  pub stands : Stands d.tasks [] process.body marks x

-- a statement, as a loop, at a place where it stands, with the marks that are open there: of a process in place, or of a function
pub data LoopAt (d : Flat) : List ℕ → Statement → Type 0 where
  loop_of_process : {p : ℕ} {marks : List ℕ} {x : Statement} → Meets d p marks x → LoopAt d marks x
  loop_of_function : {g : FlatFunc} {marks : List ℕ} {x : Statement} → Contains d.funcs g → Stands [] [] g.body marks x → LoopAt d marks x
