-- The breaks of the rules, line by line. This project's own.
use Rattle.std.specs.Prelude.{ℕ, ◌-◌, ◌+◌, ◌==◌, ◌&&◌, ◌||◌, nat_lt, nat_le, not, Bool, true, false, List, [], ◌∷◌, ◌++◌, Option, Some, None, is_none, is_some, flat_map, length, slice_get, if◌then◌else◌}
use Rattle.std.specs.List.{list_any, list_all}
use Rattle.xt_base.specs.declared.refusals.Place.{Place}
use Rattle.xt_base.specs.declared.refusals.Refusal.{Refusal}
use Rattle.el_design.specs.declared.designs.Import.{Import}
use Rattle.el_design.specs.declared.designs.Var.{Var}
use Rattle.el_design.specs.Plain.{FlatTask, FlatFunc, Flat}
use Rattle.el_design.specs.Purity.{contains_number, variables_of, assigned_after}
use Rattle.ck_call.specs.declared.nodes.Node.{Node}
use Rattle.ck_call.specs.declared.nodes.Node.TheVariants as node
use Rattle.ck_call.specs.declared.lines.Call.{Call}
use Rattle.ck_call.specs.declared.lines.Form.{Form}
use Rattle.ck_call.specs.declared.lines.Form.TheVariants as form
use Rattle.ck_call.specs.declared.lines.Line.{Line}
use Rattle.ck_call.specs.declared.texts.Texts.{Texts}
use Rattle.ck_call.specs.inner.Assigned.{early_by}
use Rattle.ck_call.specs.inner.Lines.{lines}

abbrev pub break_at : ℕ → Place → Refusal
break_at rule at = record { rule = record { 0 = rule }; place = at }

abbrev pub only_if : Bool → ℕ → Place → List Refusal
only_if true rule at = break_at rule at ∷ []
only_if false rule at = []

-- a rule's breaks at the lines that a test finds
abbrev pub breaks_by : (Line → Bool) → ℕ → List Line → List Refusal
breaks_by test rule ls = flat_map (λ l. only_if (test l) rule l.at) ls

-- in all bodies and nets
abbrev pub text_breaks : (Line → Bool) → ℕ → Texts → List Refusal
text_breaks test rule t = flat_map (breaks_by test rule) t.procs ++ flat_map (breaks_by test rule) t.tasks ++ flat_map (breaks_by test rule) t.funcs ++ breaks_by test rule t.nets

-- ---- arguments (rule 52)

-- against so many formals
abbrev pub differs : Call → ℕ → ℕ → Bool
differs c ins outs = not (ins == c.ins) || not (outs == c.outs) || c.nowhere

abbrev pub task_differs : Call → Option FlatTask → Bool
task_differs c None = false
task_differs c (Some t) = differs c (length t.ins) (length t.outs)

abbrev pub host_differs : Call → Bool → Option Import → Bool
host_differs c gives None = false
host_differs c gives (Some f) = differs c (length f.ins) (length f.outs) || (gives && is_none f.result) || (not gives && is_some f.result)

abbrev pub form_misfits : Flat → Form → Bool
form_misfits d (form.Enable c) = task_differs c (slice_get d.tasks c.number)
form_misfits d (form.Host c gives) = host_differs c gives (slice_get d.imports c.number)
form_misfits d x = false

abbrev pub function_differs : ℕ → Option FlatFunc → Bool
function_differs n None = false
function_differs n (Some f) = not (length f.ins == n)

abbrev pub import_differs : ℕ → Option Import → Bool
import_differs n None = false
import_differs n (Some f) = is_none f.result || not (length f.ins + length f.outs == n)

abbrev pub call_misfits : Flat → ℕ → ℕ → Bool
call_misfits d f n = if nat_lt f (length d.funcs) then function_differs n (slice_get d.funcs f) else import_differs n (slice_get d.imports (f - length d.funcs))

abbrev pub node_misfits : Flat → Node → Bool
node_misfits d (node.Call f n) = call_misfits d f n
node_misfits d x = false

abbrev pub misfits : Flat → Line → Bool
misfits d l = form_misfits d l.form || list_any (node_misfits d) l.nodes

abbrev pub misfit_breaks : Flat → Texts → List Refusal
misfit_breaks d t = text_breaks (misfits d) 52 t

-- ---- purity of functions (rule 50), by statements

abbrev pub is_foreign_form : Form → Bool
is_foreign_form form.Held = true
is_foreign_form form.Wait = true
is_foreign_form (form.Enable c) = true
is_foreign_form (form.Host c gives) = true
is_foreign_form x = false

-- a node names what isn't a function's own, of whose variables there is a list; `functions` is how many functions there are
abbrev pub is_outside : List ℕ → ℕ → Node → Bool
is_outside own functions (node.Net n) = true
is_outside own functions (node.Var v) = not (contains_number own v)
is_outside own functions (node.Word v) = not (contains_number own v)
is_outside own functions (node.Call f n) = nat_le functions f
is_outside own functions x = false

abbrev pub is_impure : List ℕ → ℕ → Line → Bool
is_impure own functions l = is_foreign_form l.form || not (list_all (contains_number own) l.stored) || list_any (is_outside own functions) l.nodes

abbrev pub result_breaks : Bool → Option Var → List Refusal
result_breaks broken None = []
result_breaks broken (Some v) = only_if broken 50 v.place

-- a local or the result is read too early, or the result is left
abbrev pub fails : FlatFunc → Bool
fails g = early_by (g.locals ++ g.result ∷ []) g.ins g.body || not (contains_number (assigned_after g.ins g.body) g.result)

abbrev pub function_breaks : Flat → FlatFunc → List Refusal
function_breaks d g = breaks_by (is_impure (variables_of g) (length d.funcs)) 50 (lines g.body) ++ result_breaks (fails g) (slice_get d.vars g.result)

abbrev pub purity_breaks : Flat → List Refusal
purity_breaks d = flat_map (function_breaks d) d.funcs
