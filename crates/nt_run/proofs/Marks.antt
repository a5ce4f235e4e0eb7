-- The nodes that have a step are marked.
use Rattle.std.proofs.Common.{◌≡◌, ℕ, zero, suc, ◌+◌, ◌<◌, ◌≤◌, List, [], ◌∷◌, ◌++◌, length, take, get_or, replicate, Bool, true, false, arith, refl, subst, sym, ap, ◌∙◌, Some, inl, inr}
use Rattle.std.specs.Prelude.{fold, slice_get, slice_set}
use Rattle.std.proofs.lemmas.Option.{slice_get_within}
use Rattle.std.proofs.lemmas.List.{length-set, length-replicate, get_or-set_same, get_or_append_left, get_or_at, take-append-le, take_all, length-append}
use Rattle.std.proofs.lemmas.List.Sums.{fold-append}
use Rattle.std.proofs.lemmas.Bool.{cases_lt}
use Rattle.std.proofs.Math.Seq.{take-suc}
use Rattle.nt_core.specs.declared.netlist.Node.{Node}
use Rattle.nt_core.specs.Forms.{operands}
use Rattle.nt_core.specs.Conditions.{AreNodes}
use Rattle.nt_core.proofs.FormValues.{operands_before}
use Rattle.nt_run.specs.declared.orders.Step.{Step}
use Rattle.nt_run.specs.Order.{marked, IsStep, AreSteps, IsBegun, IsTried, IsOrder}

-- ---- marks

length-marks : (marks : List Bool) (steps : List Step) → length (fold (λ marks s. slice_set marks s.place true) marks steps) ≡ length marks
length-marks marks [] = refl
length-marks marks (s ∷ steps) = length-marks (slice_set marks s.place true) steps ∙ length-set marks s.place true

pub length-marked : (count : ℕ) (steps : List Step) → length (marked count steps) ≡ count
length-marked count steps = length-marks (replicate count false) steps ∙ length-replicate count false

-- one more step
pub marked-push : (count : ℕ) (steps : List Step) (s : Step) → marked count (steps ++ s ∷ []) ≡ slice_set (marked count steps) s.place true
marked-push count steps s = fold-append (λ marks s. slice_set marks s.place true) (replicate count false) steps (s ∷ [])

-- the next step of a list
pub marked-next : (count : ℕ) (steps : List Step) (k : ℕ) (s : Step) → k < length steps → s ≡ get_or steps k s
    → marked count (take (k + 1) steps) ≡ slice_set (marked count (take k steps)) s.place true
marked-next count steps k s h is =
    let next : k + 1 ≡ suc k = omega arith in
    let more : take (k + 1) steps ≡ take k steps ++ s ∷ [] =
    ap (λ j. take j steps) next ∙ take-suc steps k s h ∙ ap (λ t. take k steps ++ t ∷ []) (sym is) in
    ap (marked count) more ∙ marked-push count (take k steps) s

-- a mark stays
mark_kept : (marks : List Bool) (i a : ℕ) → get_or marks a false ≡ true → get_or (slice_set marks i true) a false ≡ true
mark_kept [] i a e = e
mark_kept (m ∷ marks) zero zero e = refl
mark_kept (m ∷ marks) zero (suc a) e = e
mark_kept (m ∷ marks) (suc i) zero e = e
mark_kept (m ∷ marks) (suc i) (suc a) e = mark_kept marks i a e

-- ---- an order that grows

module _ (nodes : List Node) (steps : List Step) (marks : List Bool) (begun : IsBegun nodes steps marks) (s : Step) (is : IsStep nodes marks s) where
  -- an earlier step, or the new one
  steps_more : AreSteps nodes (steps ++ s ∷ [])
  steps_more k d h = elim (cases_lt k (length steps)) [
    | inl low ↦
        let before : take k (steps ++ s ∷ []) ≡ take k steps = take-append-le k steps (s ∷ []) (omega arith) in
        let here : get_or (steps ++ s ∷ []) k d ≡ get_or steps k d = get_or_append_left steps (s ∷ []) d k low in
        subst (λ l. IsStep nodes (marked (length nodes) l) (get_or (steps ++ s ∷ []) k d)) (sym before)
        (subst (IsStep nodes (marked (length nodes) (take k steps))) (sym here) (begun.ordered k d low))
    | inr high ↦
        let last : k ≡ length steps = omega (arith, h, length-append steps (s ∷ [])) in
        let before : take k (steps ++ s ∷ []) ≡ steps = take-append-le k steps (s ∷ []) (omega arith) ∙ take_all k steps (omega arith) in
        let here : get_or (steps ++ s ∷ []) k d ≡ s = get_or_at steps s [] d k (sym last) in
        subst (λ l. IsStep nodes (marked (length nodes) l) (get_or (steps ++ s ∷ []) k d)) (sym before)
        (subst (IsStep nodes (marked (length nodes) steps)) (sym here) (subst (λ ms. IsStep nodes ms s) begun.known is))
  ]

  pub place_within : s.place < length marks
  place_within = omega (arith, slice_get_within nodes s.place is.node is.at, ap length begun.known, length-marked (length nodes) steps)

  pub tried_more : IsTried nodes marks s.place (steps ++ s ∷ []) (slice_set marks s.place true)
  tried_more = record {
    begun = record { ordered = steps_more; known = ap (λ ms. slice_set ms s.place true) begun.known ∙ sym (marked-push (length nodes) steps s) };
    kept = mark_kept marks s.place;
    tried = λ m at e. get_or-set_same marks s.place true false place_within;
  }

-- ---- one node after another

some_at : (nodes : List Node) (i : ℕ) → i < length nodes → (m : Node) × (slice_get nodes i ≡ Some m)
some_at [] i h = absurd (omega arith)
some_at (m ∷ nodes) zero h = (m, refl)
some_at (m ∷ nodes) (suc i) h = some_at nodes i (omega arith)

-- all nodes up to one are marked
pub known_more : (nodes : List Node) → AreNodes nodes → (old : List Bool) (place : ℕ) (steps : List Step) (marks : List Bool) → place < length nodes
    → ((a : ℕ) → a < place → get_or old a false ≡ true) → IsTried nodes old place steps marks → (a : ℕ) → a < place + 1 → get_or marks a false ≡ true
known_more nodes are old place steps marks h known tried a l = elim (cases_lt a place) [
  | inl low ↦ tried.kept a (known a low)
  | inr high ↦
      let here : place ≡ a = omega (arith, l, high) in
      let at = some_at nodes place h in
      subst (λ i. get_or marks i false ≡ true) here
      (tried.tried at.0 at.1 (λ k d h. known (get_or (operands at.0.op) k d) (operands_before nodes are place at.0 at.1 k d h)))
]

-- all nodes are marked
pub order_whole : (nodes : List Node) (steps : List Step) (marks : List Bool) → IsBegun nodes steps marks → (count : ℕ) → length nodes ≤ count
    → ((a : ℕ) → a < count → get_or marks a false ≡ true) → IsOrder nodes steps
order_whole nodes steps marks begun count h known = record {
  ordered = begun.ordered;
  whole = λ i l. subst (λ ms. get_or ms i false ≡ true) begun.known (known i (omega (arith, l, h)));
}
