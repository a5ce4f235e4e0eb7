-- Rules on tasks, functions and imports: purity, recursion, arguments, disables, calls of the host and nesting. All of it is this project's own,
-- but that a function may hold no time control and no nonblocking assignment, and enable no task (IEEE 1364-2005, 10.4.4).
use Rattle.std.specs.Prelude.{◌≡◌, ◌≢◌, ◌+◌, ◌<◌, ◌||◌, ◌&&◌, ◌==◌, not, ℕ, suc, Bool, true, false, List, Option, Some, None, is_some, is_none, Contains, flat_map, length, slice_get}
use Rattle.std.specs.List.{list_any}
use Rattle.xt_base.specs.declared.refusals.Place.{Place}
use Rattle.el_design.specs.declared.designs.Import.{Import}
use Rattle.el_design.specs.declared.designs.Var.{Var}
use Rattle.el_design.specs.Plain.{Shape, Expr, Call, Exprs, NoExpr, More, Lvalue, Statement, Enable, Disable, Host, FlatTask, FlatFunc, FlatNet, FlatProc, Flat}
use Rattle.el_design.specs.Names.{nodes_of, calls_in, is_nowhere, own_expressions, place_of_statement}
use Rattle.el_design.specs.InPlace.{HasInPlace, Holds, IsPart}
use Rattle.el_design.specs.Purity.{is_foreign, names_outside, reads_early, leaves_result}

-- ---- purity of functions (rule 50)

-- the place of a function is that of its name, with which its result is declared
pub data IsPlaceOfFunction (d : Flat) (f : FlatFunc) (at : Place) : Type 0 where
  result_place : {v : Var} → slice_get d.vars f.result ≡ Some v → v.place ≡ at → IsPlaceOfFunction d f at

pub data IsImpure (d : Flat) : Place → Type 0 where
  foreign : {g : FlatFunc} {x : Statement} → Contains d.funcs g → Holds g.body x → is_foreign x ≡ true → IsImpure d (place_of_statement x)
  outside : {g : FlatFunc} {x : Statement} → Contains d.funcs g → Holds g.body x → names_outside d g x ≡ true → IsImpure d (place_of_statement x)
  early : {g : FlatFunc} {at : Place} → Contains d.funcs g → reads_early g ≡ true → IsPlaceOfFunction d g at → IsImpure d at
  leaves : {g : FlatFunc} {at : Place} → Contains d.funcs g → leaves_result g ≡ true → IsPlaceOfFunction d g at → IsImpure d at

-- ---- recursion (rule 51): all edges count, of tasks and functions, by enables and calls

pub data Routine : Type 0 where
  TaskOf : ℕ → Routine
  FunctionOf : ℕ → Routine

-- the body of a task or function
pub data BodyIs (d : Flat) : Routine → Statement → Type 0 where
  task_body : {t : ℕ} {task : FlatTask} → slice_get d.tasks t ≡ Some task → BodyIs d (TaskOf t) task.body
  function_body : {f : ℕ} {g : FlatFunc} → slice_get d.funcs f ≡ Some g → BodyIs d (FunctionOf f) g.body

-- a statement enables or calls, by itself
pub data Uses (d : Flat) : Statement → Routine → Type 0 where
  enables : {at : Place} {t : ℕ} {ins : List Expr} {outs : List Lvalue} → Uses d (Enable at t ins outs) (TaskOf t)
  calls : {x : Statement} {f : ℕ} → f < length d.funcs → Contains (flat_map calls_in (own_expressions x)) f → Uses d x (FunctionOf f)

-- a task or function enables or calls another, at a statement of its text
pub data Leads (d : Flat) (a b : Routine) : Place → Type 0 where
  leads : {s x : Statement} → BodyIs d a s → Holds s x → Uses d x b → Leads d a b (place_of_statement x)

pub data LeadsTo (d : Flat) : Routine → Routine → Type 0 where
  there : {a : Routine} → LeadsTo d a a
  onward : {a b c : Routine} {at : Place} → Leads d a b at → LeadsTo d b c → LeadsTo d a c

pub data IsRecursive (d : Flat) : Place → Type 0 where
  leads_back : {a b : Routine} {at : Place} → Leads d a b at → LeadsTo d b a → IsRecursive d at

-- ---- arguments (rule 52), also in bodies that no process enables

-- a statement of the text of a process, task or function
pub data InText (d : Flat) (x : Statement) : Type 0 where
  in_process : {process : FlatProc} → Contains d.procs process → Holds process.body x → InText d x
  in_routine : {r : Routine} {s : Statement} → BodyIs d r s → Holds s x → InText d x

abbrev pub differ : {A B : Type 0} → List A → List B → Bool
differ xs ys = not (length xs == length ys)

-- as many arguments as formals, and each output argument can be stored to
abbrev pub misfits : {A B : Type 0} → List A → List Expr → List B → List Lvalue → Bool
misfits formals ins targets outs = differ formals ins || differ targets outs || list_any is_nowhere outs

abbrev pub enable_misfits : Option FlatTask → List Expr → List Lvalue → Bool
enable_misfits None ins outs = false
enable_misfits (Some t) ins outs = misfits t.ins ins t.outs outs

-- a call of an import as a statement has no result, and one that gives its result to a target has one
abbrev pub host_misfits : Option Import → List Expr → Option Lvalue → List Lvalue → Bool
host_misfits None ins result outs = false
host_misfits (Some f) ins result outs = misfits f.ins ins f.outs outs || (is_some result && is_none f.result) || (is_none result && is_some f.result)

abbrev pub count_of_exprs : Exprs → ℕ
count_of_exprs NoExpr = 0
count_of_exprs (More e es) = suc (count_of_exprs es)

abbrev pub function_misfits : Option FlatFunc → Exprs → Bool
function_misfits None es = false
function_misfits (Some f) es = not (length f.ins == count_of_exprs es)

-- an import in an expression isn't void, and its inputs and outputs together are as many as the arguments
abbrev pub import_misfits : Option Import → Exprs → Bool
import_misfits None es = false
import_misfits (Some f) es = is_none f.result || not (length f.ins + length f.outs == count_of_exprs es)

-- the number of an import, behind those of the functions
pub data IsImportNumber (d : Flat) (f : ℕ) : ℕ → Type 0 where
  import_number : {i : ℕ} → f ≡ length d.funcs + i → IsImportNumber d f i

pub data CallMisfits (d : Flat) : Expr → Type 0 where
  of_function : {s : Shape} {f : ℕ} {es : Exprs} → function_misfits (slice_get d.funcs f) es ≡ true → CallMisfits d (Call s f es)
  of_import : {s : Shape} {f i : ℕ} {es : Exprs} → IsImportNumber d f i → import_misfits (slice_get d.imports i) es ≡ true → CallMisfits d (Call s f es)

-- an expression of a statement or of a net, with the place of what holds it
pub data StandsAt (d : Flat) (e : Expr) : Place → Type 0 where
  of_statement : {x : Statement} → InText d x → Contains (own_expressions x) e → StandsAt d e (place_of_statement x)
  of_net : {net : FlatNet} → Contains d.nets net → net.value ≡ Some e → StandsAt d e net.place

pub data HasMisfit (d : Flat) : Place → Type 0 where
  misfit_enable : {at : Place} {t : ℕ} {ins : List Expr} {outs : List Lvalue} →
      InText d (Enable at t ins outs) → enable_misfits (slice_get d.tasks t) ins outs ≡ true → HasMisfit d at
  misfit_host : {at : Place} {f : ℕ} {ins : List Expr} {result : Option Lvalue} {outs : List Lvalue} →
      InText d (Host at f ins result outs) → host_misfits (slice_get d.imports f) ins result outs ≡ true → HasMisfit d at
  misfit_call : {e c : Expr} {at : Place} → StandsAt d e at → Contains (nodes_of e) c → CallMisfits d c → HasMisfit d at

-- ---- disables (rule 53) and calls of the host (rule 62), where no task or function leads back to itself

pub data DisablesWrongly (d : Flat) : Place → Type 0 where
  in_function : {g : FlatFunc} {m : ℕ} {at : Place} → Contains d.funcs g → Holds g.body (Disable at m) → DisablesWrongly d at
  not_own : {p m : ℕ} {at : Place} → HasInPlace d p (Disable at m) → (IsPart d p m → ⊥) → DisablesWrongly d at
  also_other : {p q m : ℕ} {at : Place} → HasInPlace d p (Disable at m) → q ≢ p → IsPart d q m → DisablesWrongly d at

-- an import is called inside an expression of a statement that a process has in place, or of a net
pub data CallsHostInside (d : Flat) : Place → Type 0 where
  inside_statement : {p f i : ℕ} {x : Statement} {e : Expr} →
      HasInPlace d p x → Contains (own_expressions x) e → Contains (calls_in e) f → IsImportNumber d f i → CallsHostInside d (place_of_statement x)
  inside_net : {f i : ℕ} {net : FlatNet} {e : Expr} →
      Contains d.nets net → net.value ≡ Some e → Contains (calls_in e) f → IsImportNumber d f i → CallsHostInside d net.place

-- ---- nesting (rule 82): a chain of so many enables and calls in place; a call's arguments aren't inside the function

pub data Chain (d : Flat) : ℕ → Statement → Type 0 where
  no_more : {s : Statement} → Chain d 0 s
  one_more : {n : ℕ} {s x body : Statement} {r : Routine} → Holds s x → Uses d x r → BodyIs d r body → Chain d n body → Chain d (suc n) s
