-- What a function's body may do, and which of its variables are surely assigned (IEEE 1364-2005, 10.4.4; the rest is this project's own).
use Rattle.std.specs.Prelude.{ℕ, ◌&&◌, ◌||◌, not, Bool, true, false, List, [], ◌∷◌, ◌++◌, flat_map, filter, length, nat_le, ◌==◌, if◌then◌else◌}
use Rattle.std.specs.List.{list_all, list_any}
use Rattle.el_design.specs.Plain.{Expr, Statement, Null, Skip, Seq, Block, Assign, If, Case, Arm, For, While, Repeat, Forever, Wait, Enable, Disable, Host, FlatFunc, Flat}
use Rattle.el_design.specs.Names.{variables_in, nets_in, calls_in, target_indexes, target_variables, whole_variables, own_targets, own_expressions, labels_in, listed}

-- the variables of a function: its formals, its locals and its result
abbrev pub variables_of : FlatFunc → List ℕ
variables_of f = f.ins ++ f.locals ++ f.result ∷ []

abbrev pub contains_number : List ℕ → ℕ → Bool
contains_number xs v = list_any (λ x. x == v) xs

-- a statement is of a kind that a function may not have
abbrev pub is_foreign : Statement → Bool
is_foreign (Assign at to e held) = held
is_foreign (Wait at falling) = true
is_foreign (Enable at t ins outs) = true
is_foreign (Host at f ins result outs) = true
is_foreign s = false

-- a statement names a variable, a net or an import that isn't the function's own
abbrev pub names_outside : Flat → FlatFunc → Statement → Bool
names_outside d f x =
    let es = own_expressions x in
    not (list_all (contains_number (variables_of f)) (flat_map variables_in es ++ flat_map target_variables (own_targets x)))
    || list_any (λ n. true) (flat_map nets_in es)
    || list_any (λ g. nat_le (length d.funcs) g) (flat_map calls_in es)

-- ---- surely assigned: by structure alone. Only the whole name counts, by blocking assignment; a loop, an endless one too, leaves what its header's first assignment leaves; a `disable` assigns nothing.

abbrev pub both_of : List ℕ → List ℕ → List ℕ
both_of xs ys = filter (contains_number ys) xs

-- what is surely assigned after a statement, over what is before it
abbrev pub assigned_after : List ℕ → Statement → List ℕ
assigned_after before Null = before
assigned_after before Skip = before
assigned_after before (Seq a b) = assigned_after (assigned_after before a) b
assigned_after before (Block at mark body) = assigned_after before body
assigned_after before (Assign at to e held) = if held then before else before ++ whole_variables to
assigned_after before (If at test a b) = both_of (assigned_after before a) (assigned_after before b)
assigned_after before (Case at on arms) = assigned_after before arms
assigned_after before (Arm on labels body others) = both_of (assigned_after before body) (assigned_after before others)
assigned_after before (For at v first test next body) = before ++ v ∷ []
assigned_after before (While at test body) = before
assigned_after before (Repeat at count body) = before
assigned_after before (Forever at body) = before
assigned_after before (Wait at falling) = before
assigned_after before (Enable at t ins outs) = before ++ flat_map whole_variables outs
assigned_after before (Disable at m) = before
assigned_after before (Host at f ins result outs) = before ++ flat_map whole_variables (outs ++ listed result)

-- an expression reads a watched variable that isn't surely assigned before
abbrev pub is_early : List ℕ → List ℕ → Expr → Bool
is_early watched before e = list_any (λ v. contains_number watched v && not (contains_number before v)) (variables_in e)

abbrev pub are_early : List ℕ → List ℕ → List Expr → Bool
are_early watched before es = list_any (is_early watched before) es

-- a statement reads a watched variable before it is surely assigned
abbrev pub early_in : List ℕ → List ℕ → Statement → Bool
early_in watched before Null = false
early_in watched before Skip = false
early_in watched before (Seq a b) = early_in watched before a || early_in watched (assigned_after before a) b
early_in watched before (Block at mark body) = early_in watched before body
early_in watched before (Assign at to e held) = are_early watched before (target_indexes to ++ e ∷ [])
early_in watched before (If at test a b) = is_early watched before test || early_in watched before a || early_in watched before b
early_in watched before (Case at on arms) = are_early watched before (on ∷ labels_in arms) || early_in watched before arms
early_in watched before (Arm on labels body others) = early_in watched before body || early_in watched before others
early_in watched before (For at v first test next body) =
    is_early watched before first
    || is_early watched (before ++ v ∷ []) test
    || early_in watched (before ++ v ∷ []) body
    || is_early watched (assigned_after (before ++ v ∷ []) body) next
early_in watched before (While at test body) = is_early watched before test || early_in watched before body
early_in watched before (Repeat at count body) = is_early watched before count || early_in watched before body
early_in watched before (Forever at body) = early_in watched before body
early_in watched before (Wait at falling) = false
early_in watched before (Enable at t ins outs) = are_early watched before (ins ++ flat_map target_indexes outs)
early_in watched before (Disable at m) = false
early_in watched before (Host at f ins result outs) = are_early watched before (ins ++ flat_map target_indexes (listed result ++ outs))

-- a local or the result of a function is read before it is surely assigned; the formals are assigned at the call
abbrev pub reads_early : FlatFunc → Bool
reads_early f = early_in (f.locals ++ f.result ∷ []) f.ins f.body

-- the result is left without a sure assignment
abbrev pub leaves_result : FlatFunc → Bool
leaves_result f = not (contains_number (assigned_after f.ins f.body) f.result)
