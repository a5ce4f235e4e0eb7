-- Sums that are capped on the way are capped at the end alike.
use Rattle.std.proofs.Common.{◌≡◌, ◌+◌, ℕ, List, [], ◌∷◌, map, arith, refl, ap, sym, ◌∙◌}
use Rattle.el_design.specs.View.{lvalue_of, parts_of}
use Rattle.el_design.specs.declared.expressions.Target as target
use Rattle.el_design.specs.declared.expressions.Target.{Target}
use Rattle.el_design.proofs.Equations.{target_concat_is}
use Rattle.ck_call.specs.inner.Weights.{capped, target_weight, parts_weight}

pub capped_sum : (a b : ℕ) → capped (capped a + capped b) ≡ capped (a + b)
capped_sum a b = omega arith

pub capped_one : (a b : ℕ) → capped (a + capped b) ≡ capped (a + b)
capped_one a b = omega arith

concat_is : (t : Target) (ts : List Target) → t ≡ target.Concat ts → target_weight (lvalue_of t) ≡ target_weight (parts_of (map lvalue_of ts))
concat_is t ts e = ap (λ x. target_weight (lvalue_of x)) e ∙ ap target_weight (target_concat_is ts)

pub concat_weight : (t : Target) (ts parts : List Target) (p r : ℕ) → t ≡ target.Concat ts → parts ≡ ts → p ≡ capped (parts_weight (parts_of (map lvalue_of parts))) → r ≡ capped (1 + p)
    → r ≡ capped (target_weight (lvalue_of t))
concat_weight t ts parts p r e f g h =
    h ∙ ap (λ n. capped (1 + n)) g ∙ capped_one 1 (parts_weight (parts_of (map lvalue_of parts))) ∙ ap (λ x. capped (1 + parts_weight (parts_of (map lvalue_of x)))) f
    ∙ ap capped (one_more ts ∙ sym (concat_is t ts e))
  where
    one_more : (ts : List Target) → 1 + parts_weight (parts_of (map lvalue_of ts)) ≡ target_weight (parts_of (map lvalue_of ts))
    one_more [] = refl
    one_more (x ∷ xs) = refl
