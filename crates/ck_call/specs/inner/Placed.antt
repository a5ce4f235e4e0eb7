-- Statements that processes have in place: in their own texts, and in those of the tasks that they reach. This project's own.
use Rattle.std.specs.Prelude.{◌≡◌, ◌<◌, ◌↔◌, ℕ, zero, suc, ◌==◌, nat_le, not, Bool, true, false, List, [], ◌∷◌, ◌++◌, Option, Some, None, flat_map, fold, length, replicate, slice_get, slice_index_or, slice_set, if◌then◌else◌, Contains}
use Rattle.std.specs.List.{list_any}
use Rattle.xt_base.specs.declared.refusals.Refusal.{Refusal}
use Rattle.xt_graph.specs.Graph.{IsReached}
use Rattle.el_design.specs.Plain.{FlatTask, Flat}
use Rattle.ck_call.specs.declared.nodes.Node.{Node}
use Rattle.ck_call.specs.declared.nodes.Node.TheVariants as node
use Rattle.ck_call.specs.declared.lines.Form.{Form}
use Rattle.ck_call.specs.declared.lines.Form.TheVariants as form
use Rattle.ck_call.specs.declared.lines.Line.{Line}
use Rattle.ck_call.specs.declared.texts.Texts.{Texts}
use Rattle.ck_call.specs.declared.owners.Owner.{Owner}
use Rattle.ck_call.specs.declared.owners.Owner.TheVariants as owner
use Rattle.ck_call.specs.inner.Breaks.{only_if, breaks_by}
use Rattle.ck_call.specs.inner.Routines.{text_enables, enable_rows}

-- ---- reach

-- the tasks that are reached from some
abbrev pub IsReach : List (List ℕ) → List ℕ → List ℕ → Type 0
IsReach rows from reach = (n : ℕ) → Contains reach n ↔ ((n < length rows) × IsReached rows from n)

-- the numbers below a limit that have a mark
abbrev pub marked_to : List Bool → ℕ → List ℕ
marked_to marks zero = []
marked_to marks (suc n) = marked_to marks n ++ (if slice_index_or marks n false then n ∷ [] else [])

abbrev pub reach_at : List (List ℕ) → ℕ → List ℕ
reach_at reaches p = slice_index_or reaches p []

-- of each process up to some one, the tasks that it reaches
pub record AreReaches (t : Texts) (reaches : List (List ℕ)) (count : ℕ) : Type 0 where
  pub size : length reaches ≡ count
  pub each : (p : ℕ) (ls : List Line) → p < count → slice_get t.procs p ≡ Some ls → IsReach (enable_rows t) (text_enables (length t.tasks) ls) (reach_at reaches p)

abbrev pub text_at : List (List Line) → ℕ → List Line
text_at ts n = slice_index_or ts n []

-- the lines of a process in place
abbrev pub placed : List (List Line) → List ℕ → List Line → List Line
placed ts reach ls = ls ++ flat_map (text_at ts) reach

-- ---- of which processes a named block or task is part

abbrev pub joined : ℕ → Owner → Owner
joined p owner.Nobody = owner.One p
joined p (owner.One q) = if q == p then owner.One q else owner.Many
joined p owner.Many = owner.Many

abbrev pub owner_at : List Owner → ℕ → Owner
owner_at os m = slice_index_or os m owner.Nobody

abbrev pub noted : ℕ → List Owner → ℕ → List Owner
noted p os m = slice_set os m (joined p (owner_at os m))

abbrev pub task_marks : Option FlatTask → List ℕ
task_marks None = []
task_marks (Some t) = t.mark ∷ []

-- the marks of what a line makes part of a process
abbrev pub form_marks : Flat → Form → List ℕ
form_marks d (form.Named m) = m ∷ []
form_marks d (form.Enable c) = task_marks (slice_get d.tasks c.number)
form_marks d x = []

abbrev pub text_marks : Flat → List Line → List ℕ
text_marks d ls = flat_map (λ l. form_marks d l.form) ls

abbrev pub notes : Flat → ℕ → List Owner → List Line → List Owner
notes d p os ls = fold (noted p) os (text_marks d ls)

abbrev pub all_notes : Flat → List (List Line) → List (List ℕ) → ℕ → List Owner → List (List Line) → List Owner
all_notes d ts reaches p os [] = os
all_notes d ts reaches p os (ls ∷ more) = all_notes d ts reaches (suc p) (notes d p os (placed ts (reach_at reaches p) ls)) more

abbrev pub owners_of : Flat → Texts → List (List ℕ) → List Owner
owners_of d t reaches = all_notes d t.tasks reaches 0 (replicate d.marks owner.Nobody) t.procs

-- ---- breaks (rules 53 and 62)

abbrev pub is_owner : ℕ → Owner → Bool
is_owner p (owner.One q) = q == p
is_owner p o = false

-- a disable whose block or task isn't part of this process, or is part of another too
abbrev pub is_misplaced : List Owner → ℕ → Form → Bool
is_misplaced os p (form.Disable m) = not (is_owner p (owner_at os m))
is_misplaced os p x = false

abbrev pub is_import : ℕ → Node → Bool
is_import funcs (node.Call f n) = nat_le funcs f
is_import funcs x = false

abbrev pub calls_import : ℕ → Line → Bool
calls_import funcs l = list_any (is_import funcs) l.nodes

abbrev pub line_breaks : List Owner → ℕ → ℕ → Line → List Refusal
line_breaks os funcs p l = only_if (is_misplaced os p l.form) 53 l.at ++ only_if (calls_import funcs l) 62 l.at

abbrev pub process_breaks : List Owner → ℕ → List (List Line) → List (List ℕ) → ℕ → List (List Line) → List Refusal
process_breaks os funcs ts reaches p [] = []
process_breaks os funcs ts reaches p (ls ∷ more) = flat_map (line_breaks os funcs p) (placed ts (reach_at reaches p) ls) ++ process_breaks os funcs ts reaches (suc p) more

abbrev pub is_disable_form : Form → Bool
is_disable_form (form.Disable m) = true
is_disable_form x = false

abbrev pub is_disable : Line → Bool
is_disable l = is_disable_form l.form

abbrev pub place_breaks : Flat → Texts → List (List ℕ) → List Refusal
place_breaks d t reaches =
    process_breaks (owners_of d t reaches) (length t.funcs) t.tasks reaches 0 t.procs ++ flat_map (breaks_by is_disable 53) t.funcs ++ breaks_by (calls_import (length t.funcs)) 62 t.nets
