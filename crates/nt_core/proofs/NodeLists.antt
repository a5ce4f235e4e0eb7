-- Lists of nodes that grow.
use Rattle.std.proofs.Common.{◌≡◌, ℕ, zero, suc, ◌+◌, ◌<◌, ◌≤◌, List, [], ◌∷◌, ◌++◌, length, length-append, take, get_or, arith, refl, subst, sym, ap, ◌∙◌, ◌⊎◌, inl, inr, Some}
use Rattle.std.specs.Prelude.{slice_get}
use Rattle.std.proofs.lemmas.Bool.{cases_lt}
use Rattle.std.proofs.lemmas.Option.{same_Some, none-some, slice_get_read}
use Rattle.std.proofs.lemmas.List.{map-append, length-map, take-append-le}
use Rattle.std.proofs.Math.Seq.{take-append_seam}
use Rattle.nt_core.specs.declared.netlist.Node.{Node}
use Rattle.nt_core.specs.Forms.{widths, IsNode}
use Rattle.nt_core.specs.Conditions.{AreNodes}

-- an element of a list with one more at its end
pub slice_get-push : {X : Type 0} (xs : List X) (y : X) (i : ℕ) (x : X) → slice_get (xs ++ y ∷ []) i ≡ Some x
    → ((i < length xs) × (slice_get xs i ≡ Some x)) ⊎ ((i ≡ length xs) × (y ≡ x))
slice_get-push [] y zero x e = inr (refl, same_Some y x e)
slice_get-push [] y (suc i) x e = absurd (none-some x e)
slice_get-push (z ∷ xs) y zero x e = inl (omega arith, e)
slice_get-push (z ∷ xs) y (suc i) x e =
    elim (slice_get-push xs y i x e) [ inl p ↦ inl (omega (arith, p.0), p.1) | inr p ↦ inr (ap suc p.0, p.1) ]

-- the widths of the nodes before one are not changed by one more at the end
pub take-widths-push : (ns : List Node) (m : Node) (i : ℕ) → i ≤ length ns → take i (widths (ns ++ m ∷ [])) ≡ take i (widths ns)
take-widths-push ns m i h =
    ap (take i) (map-append (λ (n : Node). n.width) ns (m ∷ []))
    ∙ take-append-le i (widths ns) (widths (m ∷ [])) (omega (arith, length-map ns (λ (n : Node). n.width)))

-- those before the new one are all others
pub take-widths-seam : (ns : List Node) (m : Node) (i : ℕ) → i ≡ length ns → take i (widths (ns ++ m ∷ [])) ≡ widths ns
take-widths-seam ns m i h =
    let f : Node → ℕ = λ n. n.width in
    ap (λ k. take k (widths (ns ++ m ∷ []))) (h ∙ sym (length-map ns f))
    ∙ ap (take (length (widths ns))) (map-append f ns (m ∷ []))
    ∙ take-append_seam (widths ns) (widths (m ∷ []))

-- one more node that fits those before it
pub AreNodes-push : (ns : List Node) (m : Node) → AreNodes ns → length ns < 4294967295 → IsNode (widths ns) m → AreNodes (ns ++ m ∷ [])
AreNodes-push ns m are room is = record {
  few = omega (arith, room, length-append ns (m ∷ []));
  each = λ i x e. elim (slice_get-push ns m i x e) [
    | inl p ↦ subst (λ ws. IsNode ws x) (sym (take-widths-push ns m i (omega (arith, p.0)))) (are.each i x p.1)
    | inr p ↦ subst (λ k. IsNode (take i (widths (ns ++ m ∷ []))) k) p.1 (subst (λ ws. IsNode ws m) (sym (take-widths-seam ns m i p.0)) is)
  ];
}

-- ---- nodes, each against those before it

widths-take : (nodes : List Node) (i : ℕ) → widths (take i nodes) ≡ take i (widths nodes)
widths-take [] zero = refl
widths-take [] (suc i) = refl
widths-take (m ∷ ms) zero = refl
widths-take (m ∷ ms) (suc i) = ap (λ ws. m.width ∷ ws) (widths-take ms i)

-- each node below a place can follow those before it
abbrev pub FollowTo : List Node → ℕ → Type 0
FollowTo nodes i = (j : ℕ) (m : Node) → j < i → slice_get nodes j ≡ Some m → IsNode (take j (widths nodes)) m

pub follows_at : (nodes : List Node) (i : ℕ) (m : Node) → i < length nodes → m ≡ get_or nodes i m → ((j : ℕ) (k : Node) → slice_get nodes j ≡ Some k → IsNode (take j (widths nodes)) k) → IsNode (widths (take i nodes)) m
follows_at nodes i m within is each = subst (λ ws. IsNode ws m) (sym (widths-take nodes i)) (each i m (slice_get_read nodes (length nodes) i m refl within is))

pub follow_more : (nodes : List Node) (i : ℕ) (m : Node) → i < length nodes → m ≡ get_or nodes i m → FollowTo nodes i → IsNode (widths (take i nodes)) m → FollowTo nodes (i + 1)
follow_more nodes i m within is before here j k below at = elim (cases_lt j i) [
  | inl less ↦ before j k less at
  | inr more ↦
      let same : i ≡ j = omega arith in
      let node : m ≡ k = same_Some m k (sym (slice_get_read nodes (length nodes) i m refl within is) ∙ ap (slice_get nodes) same ∙ at) in
      subst (λ n. IsNode (take j (widths nodes)) n) node (subst (λ a. IsNode (take a (widths nodes)) m) same (subst (λ ws. IsNode ws m) (widths-take nodes i) here))
]
