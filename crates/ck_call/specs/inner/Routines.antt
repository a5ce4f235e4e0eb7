-- The graph of tasks and functions: tasks by their numbers, and functions behind them. This project's own.
use Rattle.std.specs.Prelude.{ℕ, suc, ◌+◌, ◌==◌, nat_lt, Bool, List, [], ◌∷◌, ◌++◌, map, flat_map, length, slice_index_or, if◌then◌else◌}
use Rattle.std.specs.List.{list_any}
use Rattle.xt_base.specs.declared.refusals.Refusal.{Refusal}
use Rattle.ck_call.specs.declared.nodes.Node.{Node}
use Rattle.ck_call.specs.declared.nodes.Node.TheVariants as node
use Rattle.ck_call.specs.declared.lines.Form.{Form}
use Rattle.ck_call.specs.declared.lines.Form.TheVariants as form
use Rattle.ck_call.specs.declared.lines.Line.{Line}
use Rattle.ck_call.specs.declared.texts.Texts.{Texts}
use Rattle.ck_call.specs.inner.Breaks.{breaks_by}

-- the task that a statement enables
abbrev pub form_targets : ℕ → Form → List ℕ
form_targets tasks (form.Enable c) = if nat_lt c.number tasks then c.number ∷ [] else []
form_targets tasks x = []

-- the function that a node calls
abbrev pub node_targets : ℕ → ℕ → Node → List ℕ
node_targets tasks funcs (node.Call f n) = if nat_lt f funcs then (tasks + f) ∷ [] else []
node_targets tasks funcs x = []

abbrev pub line_targets : ℕ → ℕ → Line → List ℕ
line_targets tasks funcs l = form_targets tasks l.form ++ flat_map (node_targets tasks funcs) l.nodes

abbrev pub text_targets : ℕ → ℕ → List Line → List ℕ
text_targets tasks funcs ls = flat_map (line_targets tasks funcs) ls

abbrev pub text_enables : ℕ → List Line → List ℕ
text_enables tasks ls = flat_map (λ l. form_targets tasks l.form) ls

-- which routines each routine enables and calls
abbrev pub routine_rows : Texts → List (List ℕ)
routine_rows t = map (text_targets (length t.tasks) (length t.funcs)) t.tasks ++ map (text_targets (length t.tasks) (length t.funcs)) t.funcs

-- which tasks each task enables
abbrev pub enable_rows : Texts → List (List ℕ)
enable_rows t = map (text_enables (length t.tasks)) t.tasks

-- ---- recursion (rule 51), by labels that two routines have in common exactly where each leads to the other

abbrev pub label : List ℕ → ℕ → ℕ
label labels r = slice_index_or labels r 0

abbrev pub leads_back : List ℕ → ℕ → ℕ → ℕ → Line → Bool
leads_back labels tasks funcs from l = list_any (λ b. label labels b == label labels from) (line_targets tasks funcs l)

-- those of routines with these numbers on
abbrev pub circle_breaks : List ℕ → ℕ → ℕ → ℕ → List (List Line) → List Refusal
circle_breaks labels tasks funcs from [] = []
circle_breaks labels tasks funcs from (ls ∷ more) = breaks_by (leads_back labels tasks funcs from) 51 ls ++ circle_breaks labels tasks funcs (suc from) more

abbrev pub recursion_breaks : List ℕ → Texts → List Refusal
recursion_breaks labels t = circle_breaks labels (length t.tasks) (length t.funcs) 0 t.tasks ++ circle_breaks labels (length t.tasks) (length t.funcs) (length t.tasks) t.funcs
