-- How deep enables and calls nest in tasks and functions, and how large these are in place. This project's own.
use Rattle.std.specs.Prelude.{ℕ, suc, ◌+◌, min, max, ◌||◌, nat_le, Bool, List, [], ◌∷◌, ◌++◌, map, fold, length, replicate, slice_index_or, slice_set}
use Rattle.std.specs.List.{list_any}
use Rattle.xt_base.specs.declared.refusals.Place.{Place}
use Rattle.xt_base.specs.declared.refusals.Refusal.{Refusal}
use Rattle.xt_graph.specs.Graph.{row}
use Rattle.el_design.specs.Names.{no_place}
use Rattle.ck_call.specs.declared.lines.Line.{Line}
use Rattle.ck_call.specs.declared.texts.Texts.{Texts}
use Rattle.ck_call.specs.declared.measures.Measure.{Measure}
use Rattle.ck_call.specs.inner.Weights.{capped}
use Rattle.ck_call.specs.inner.Breaks.{only_if, breaks_by}
use Rattle.ck_call.specs.inner.Routines.{line_targets, text_targets}

abbrev pub nothing : Measure
nothing = record { depth = 0; size = 0 }

abbrev pub measure_at : List Measure → ℕ → Measure
measure_at table r = slice_index_or table r nothing

-- 65 stands for any greater depth
abbrev pub deeper : ℕ → ℕ
deeper n = min (suc n) 65

abbrev pub nesting : List Measure → List ℕ → ℕ
nesting table [] = 0
nesting table (r ∷ rs) = max (deeper (measure_at table r).depth) (nesting table rs)

abbrev pub sizes : List Measure → List ℕ → ℕ
sizes table [] = 0
sizes table (r ∷ rs) = (measure_at table r).size + sizes table rs

-- of a body of this size by itself that enables and calls these
abbrev pub measured : List Measure → ℕ → List ℕ → Measure
measured table weight rs = record { depth = nesting table rs; size = capped (weight + sizes table rs) }

abbrev pub lines_weight : List Line → ℕ
lines_weight [] = 0
lines_weight (l ∷ ls) = l.weight + lines_weight ls

abbrev pub text_weight : List Line → ℕ
text_weight ls = capped (lines_weight ls)

abbrev pub routine_weights : Texts → List ℕ
routine_weights t = map text_weight t.tasks ++ map text_weight t.funcs

-- a further routine, whose targets have been measured
abbrev pub measured_next : List (List ℕ) → List ℕ → List Measure → ℕ → List Measure
measured_next rows weights table r = slice_set table r (measured table (slice_index_or weights r 0) (row rows r))

abbrev pub measures : List (List ℕ) → List ℕ → List ℕ → List Measure
measures rows weights order = fold (measured_next rows weights) (replicate (length rows) nothing) order

-- ---- breaks (rule 82)

abbrev pub is_too_deep : Measure → Bool
is_too_deep m = nat_le 65 m.depth || nat_le 20000 m.size

abbrev pub text_measure : List Measure → ℕ → ℕ → List Line → Measure
text_measure table tasks funcs ls = measured table (text_weight ls) (text_targets tasks funcs ls)

abbrev pub place_at : List Place → ℕ → Place
place_at places p = slice_index_or places p no_place

abbrev pub deep_processes : List Measure → ℕ → ℕ → List Place → ℕ → List (List Line) → List Refusal
deep_processes table tasks funcs places p [] = []
deep_processes table tasks funcs places p (ls ∷ more) = only_if (is_too_deep (text_measure table tasks funcs ls)) 82 (place_at places p) ++ deep_processes table tasks funcs places (suc p) more

-- a net calls a function in which there is no room for so many more
abbrev pub is_deep_net : List Measure → ℕ → ℕ → Line → Bool
is_deep_net table tasks funcs l = list_any (λ r. nat_le 64 (measure_at table r).depth) (line_targets tasks funcs l)

abbrev pub nesting_breaks : List Measure → List Place → Texts → List Refusal
nesting_breaks table places t =
    deep_processes table (length t.tasks) (length t.funcs) places 0 t.procs ++ breaks_by (is_deep_net table (length t.tasks) (length t.funcs)) 82 t.nets
