-- The nodes of next values.
use Rattle.std.proofs.Common.{◌≡◌, ◌++◌, ℕ, zero, suc, List, [], ◌∷◌, Option, Some, None, length, map, get_or, set, refl, sym, ap, ◌∙◌, subst}
use Rattle.std.specs.Prelude.{slice_get, IsSomeAnd}
use Rattle.std.proofs.lemmas.List.{map-append}
use Rattle.std.proofs.lemmas.Option.{same_Some, none-some, slice_get-get_or, slice_get_read}
use Rattle.nt_core.specs.declared.netlist.Node.{Node}
use Rattle.nt_core.specs.Conditions.{Drive}
use Rattle.nt_core.specs.Forms.{widths}
use Rattle.el_design.specs.Plain.{Expr}
use Rattle.xt_compile.specs.first.Form.{IsSumOf}
use Rattle.xt_compile.specs.first.Nodes.{HasWidth}
use Rattle.xt_compile.proofs.first_form.Growing.{node_there, node_width}

-- the width of a variable, and the sum of this width
pub some_sum : (vars nets : List ℕ) (v : ℕ) (e : Expr) → IsSomeAnd (slice_get vars v) (λ w. IsSumOf vars nets w e) → (w : ℕ) × (slice_get vars v ≡ Some w) × IsSumOf vars nets w e
some_sum vars nets v e h = go (slice_get vars v) refl h
  where
    go : (o : Option ℕ) → slice_get vars v ≡ o → IsSomeAnd o (λ w. IsSumOf vars nets w e) → (w : ℕ) × (slice_get vars v ≡ Some w) × IsSumOf vars nets w e
    go None is h = absurd h
    go (Some w) is h = (w, is, h)

-- another node as the next value of one thing
set_driven : (ws is wanted : List ℕ) (i k w : ℕ) → map (slice_get ws) is ≡ map Some wanted → slice_get wanted i ≡ Some w → slice_get ws k ≡ Some w → map (slice_get ws) (set is i k) ≡ map Some wanted
set_driven ws [] wanted i k w e h g = e
set_driven ws (j ∷ is) [] i k w e h g = absurd (none-some w h)
set_driven ws (j ∷ is) (v ∷ wanted) zero k w e h g = let same : v ≡ w = same_Some v w h in cc
set_driven ws (j ∷ is) (v ∷ wanted) (suc i) k w e h g = let tail = set_driven ws is wanted i k w (cc) h g in cc

pub drive_set : (ns : List Node) (is wanted : List ℕ) (i k w : ℕ) → Drive ns is wanted → slice_get wanted i ≡ Some w → HasWidth ns k w → Drive ns (set is i k) wanted
drive_set ns is wanted i k w e h g = set_driven (widths ns) is wanted i k w e h g

-- the node of the next value, as it is read
pub next_node : (ns : List Node) (is ws : List ℕ) (i w node : ℕ) → Drive ns is ws → slice_get ws i ≡ Some w → node ≡ get_or is i node → node ≡ get_or is i 0
next_node ns is ws i w node e h read =
    let there = node_there ns is ws i w e h in
    same_Some _ _ (sym (slice_get_read is (length is) i node refl there read) ∙ slice_get-get_or is i 0 there)

pub next_width : (ns : List Node) (is ws : List ℕ) (i w node : ℕ) → Drive ns is ws → slice_get ws i ≡ Some w → node ≡ get_or is i node → HasWidth ns node w
next_width ns is ws i w node e h read =
    let there = node_there ns is ws i w e h in
    subst (λ k. slice_get (widths ns) k ≡ Some w) (same_Some _ _ (sym (slice_get-get_or is i 0 there) ∙ slice_get_read is (length is) i node refl there read)) (node_width ns is ws i w e h)

-- one more node, for one more width
pub drive_push : (ns : List Node) (is wanted : List ℕ) (k w : ℕ) → Drive ns is wanted → HasWidth ns k w → Drive ns (is ++ k ∷ []) (wanted ++ w ∷ [])
drive_push ns is wanted k w e h =
    map-append (slice_get (widths ns)) is (k ∷ []) ∙ ap (λ xs. xs ++ slice_get (widths ns) k ∷ []) e ∙ ap (λ x. map (λ (v : ℕ). Some v) wanted ++ x ∷ []) h
    ∙ sym (map-append (λ (v : ℕ). Some v) wanted (w ∷ []))
