-- What a sound design tells of its statements, functions and tasks: their expressions are well made, and their targets fit.
use Rattle.std.proofs.Common.{◌≡◌, ℕ, List, [], ◌∷◌, ◌++◌, Option, Some, All, Contains, map, flat_map, slice_get}
use Rattle.std.proofs.lemmas.List.Elements.{All-nil, All-cons, All-head, All-tail, All-weaker, Contains-append_left, Contains-append_right}
use Rattle.xt_base.specs.declared.refusals.Place.{Place}
use Rattle.el_design.specs.Plain.{Expr, Lvalue, Statement, For, Enable, Host, FlatTask, FlatProc, Flat}
use Rattle.el_design.specs.Names.{own_expressions, target_indexes, listed}
use Rattle.el_design.specs.Sound.{IsPlainVariable, IsExpr, IsOutput, IsStatement, IsSound}
use Rattle.el_design.specs.Fits.{IsDeclared, IsWellMade, FitsOutput, IsSoundText}
use Rattle.el_design.proofs.OrderPlaces.{con_got, con_map}
use Rattle.el_design.proofs.FitValues.{all_at, all_left, all_right}

-- a variable that is no memory
abbrev pub IsVariableOf : Flat → ℕ → Type 0
IsVariableOf d v = (w : ℕ) × IsPlainVariable d v w

module _ (d : Flat) where
  -- ---- expressions and targets

  pub made_of : (es : List Expr) → All (IsExpr d) es → All (IsWellMade d) es
  made_of es h = All-weaker (IsExpr d) (IsWellMade d) (λ e x. x.nodes) es h

  outputs_fit : (ts : List Lvalue) → All (IsOutput d) ts → All (IsWellMade d) (flat_map target_indexes ts) → All (FitsOutput d) ts
  outputs_fit [] h k = All-nil (FitsOutput d)
  outputs_fit (t ∷ ts) h k =
      All-cons (FitsOutput d) t ts (All-head (IsOutput d) t ts h, all_left (IsWellMade d) (target_indexes t) (flat_map target_indexes ts) k)
      (outputs_fit ts (All-tail (IsOutput d) t ts h) (all_right (IsWellMade d) (target_indexes t) (flat_map target_indexes ts) k))

  pub own_made : (s : Statement) → IsStatement d s → All (IsWellMade d) (own_expressions s)
  own_made s h = made_of (own_expressions s) h.expressions

  -- ---- statements

  pub for_made : (at : Place) (v : ℕ) (first test next : Expr) (body : Statement) → IsStatement d (For at v first test next body) → IsWellMade d first × IsWellMade d test × IsWellMade d next
  for_made at v first test next body h =
      let k : All (IsWellMade d) (first ∷ test ∷ next ∷ []) = own_made (For at v first test next body) h in
      let l : All (IsWellMade d) (test ∷ next ∷ []) = All-tail (IsWellMade d) first (test ∷ next ∷ []) k in
      (All-head (IsWellMade d) first (test ∷ next ∷ []) k, All-head (IsWellMade d) test (next ∷ []) l, All-head (IsWellMade d) next [] (All-tail (IsWellMade d) test (next ∷ []) l))

  pub variable_declared : (v : ℕ) → IsVariableOf d v → IsDeclared d v
  variable_declared v h = let is : IsPlainVariable d v h.0 = h.1 in (is.var, is.is)

  pub for_variable : (at : Place) (v : ℕ) (first test next : Expr) (body : Statement) → IsStatement d (For at v first test next body) → IsVariableOf d v
  for_variable at v first test next body h = (h.fits.0, h.fits.1)

  pub enable_made : (at : Place) (t : ℕ) (ins : List Expr) (outs : List Lvalue) → IsStatement d (Enable at t ins outs) → All (IsWellMade d) ins × All (FitsOutput d) outs
  enable_made at t ins outs h =
      let k : All (IsWellMade d) (ins ++ flat_map target_indexes outs) = own_made (Enable at t ins outs) h in
      (all_left (IsWellMade d) ins (flat_map target_indexes outs) k, outputs_fit outs h.outputs (all_right (IsWellMade d) ins (flat_map target_indexes outs) k))

  pub host_made : (at : Place) (f : ℕ) (ins : List Expr) (result : Option Lvalue) (outs : List Lvalue) → IsStatement d (Host at f ins result outs) → All (IsWellMade d) ins × All (FitsOutput d) (listed result ++ outs)
  host_made at f ins result outs h =
      let k : All (IsWellMade d) (ins ++ flat_map target_indexes (listed result ++ outs)) = own_made (Host at f ins result outs) h in
      (all_left (IsWellMade d) ins (flat_map target_indexes (listed result ++ outs)) k, outputs_fit (listed result ++ outs) h.outputs (all_right (IsWellMade d) ins (flat_map target_indexes (listed result ++ outs)) k))

  -- ---- bodies

  module _ (sound : IsSound d) where
    pub process_body : (p : FlatProc) → Contains d.procs p → IsSoundText d p.body
    process_body p is x h =
        sound.statements p.body x
        (Contains-append_left (map (λ p. p.body) d.procs ++ map (λ t. t.body) d.tasks) (map (λ f. f.body) d.funcs) p.body
        (Contains-append_left (map (λ p. p.body) d.procs) (map (λ t. t.body) d.tasks) p.body (con_map (λ p. p.body) d.procs p is)))
        h

    pub task_body : (i : ℕ) (t : FlatTask) → slice_get d.tasks i ≡ Some t → IsSoundText d t.body
    task_body i t is x h =
        sound.statements t.body x
        (Contains-append_left (map (λ p. p.body) d.procs ++ map (λ t. t.body) d.tasks) (map (λ f. f.body) d.funcs) t.body
        (Contains-append_right (map (λ p. p.body) d.procs) (map (λ t. t.body) d.tasks) t.body (con_map (λ t. t.body) d.tasks t (con_got d.tasks i t is))))
        h

    -- and so are the formals of a task
    pub task_formals : (i : ℕ) (t : FlatTask) → slice_get d.tasks i ≡ Some t → All (IsDeclared d) t.ins × All (IsDeclared d) t.outs
    task_formals i t is =
        let k : All (IsDeclared d) (t.ins ++ t.outs) = All-weaker (IsVariableOf d) (IsDeclared d) variable_declared (t.ins ++ t.outs) (all_at (λ t. All (IsVariableOf d) (t.ins ++ t.outs)) d.tasks i t is sound.tasks) in
        (all_left (IsDeclared d) t.ins t.outs k, all_right (IsDeclared d) t.ins t.outs k)
