-- The order of breaks beside that of their places.
use Rattle.std.proofs.Common.{◌≡◌, ◌⊎◌, inl, inr, ◌<◌, ◌≤◌, ℕ, Bool, true, false, ◌∙◌, ap, arith}
use Rattle.std.proofs.lemmas.Bool.{cases_lt}
use Rattle.std.specs.Prelude.{nat_lt}
use Rattle.xt_base.specs.First.{less_or, stands_before}
use Rattle.xt_base.specs.declared.refusals.Place.{Place}
use Rattle.xt_base.specs.declared.refusals.Refusal.{Refusal}
use Rattle.xt_base.proofs.First.{asymmetric}
use Rattle.vl_places.specs.Order.{IsNotBehind}

pub not_behind_same : (p q : Place) → IsNotBehind p q → IsNotBehind q p → (p.file ≡ q.file) × (p.line ≡ q.line)
not_behind_same p q (inl a) (inl b) = absurd (omega (arith, a, b))
not_behind_same p q (inl a) (inr b) = absurd (omega (arith, a, b.0))
not_behind_same p q (inr a) (inl b) = absurd (omega (arith, a.0, b))
not_behind_same p q (inr a) (inr b) = (a.0, omega (arith, a.1, b.1))

level_same : (a b : ℕ) (more : Bool) → a ≡ b → less_or a b more ≡ more
level_same a b true e = grind (arith, e)
level_same a b false e = grind (arith, e)

level_less : (a b : ℕ) (more : Bool) → a < b → less_or a b more ≡ true
level_less a b more h = grind (arith, h)

place_same : (p q : Place) → p.file ≡ q.file → p.line ≡ q.line → p.instance ≡ q.instance → p ≡ q
place_same p q f l i = λ k. record { file = f k; line = l k; instance = i k }

pub breaks_in_order : (a b : Refusal) → a.place.instance ≡ b.place.instance → IsNotBehind a.place b.place
    → (a.place ≡ b.place) ⊎ ((stands_before a b ≡ true) × (stands_before b a ≡ false))
breaks_in_order a b one not_behind = go not_behind where
  first : stands_before a b ≡ true → (a.place ≡ b.place) ⊎ ((stands_before a b ≡ true) × (stands_before b a ≡ false))
  first h = inr (h, asymmetric a b h)

  go : IsNotBehind a.place b.place → (a.place ≡ b.place) ⊎ ((stands_before a b ≡ true) × (stands_before b a ≡ false))
  go (inl file) = first (level_same a.place.instance b.place.instance _ one ∙ level_less a.place.file b.place.file _ file)
  go (inr (file, line)) = line_of (cases_lt a.place.line b.place.line) where
    line_of : (a.place.line < b.place.line) ⊎ (b.place.line ≤ a.place.line) → (a.place ≡ b.place) ⊎ ((stands_before a b ≡ true) × (stands_before b a ≡ false))
    line_of (inl less) = first (level_same a.place.instance b.place.instance _ one ∙ level_same a.place.file b.place.file _ file ∙ level_less a.place.line b.place.line _ less)
    line_of (inr more) = inl (place_same a.place b.place file (omega (arith, line, more)) one)

pub rules_in_order : (a b : Refusal) → a.place ≡ b.place → stands_before a b ≡ nat_lt a.rule.0 b.rule.0
rules_in_order a b same =
    level_same a.place.instance b.place.instance _ (ap (λ (p : Place). p.instance) same)
    ∙ level_same a.place.file b.place.file _ (ap (λ (p : Place). p.file) same)
    ∙ level_same a.place.line b.place.line _ (ap (λ (p : Place). p.line) same)
