-- Rows of stretches and lines that never fall.
use Rattle.std.proofs.Common.{◌≡◌, ◌⊎◌, inl, inr, ◌<◌, ◌≤◌, ℕ, zero, suc, List, [], ◌∷◌, ◌++◌, length, refl, arith}
use Rattle.std.specs.Prelude.{slice_index_or}

-- one isn't behind another
abbrev pub UpTo : ℕ × ℕ → ℕ × ℕ → Type 0
UpTo p q = (p.0 < q.0) ⊎ ((p.0 ≡ q.0) × (p.1 ≤ q.1))

pub up_to_same : (p : ℕ × ℕ) → UpTo p p
up_to_same p = inr (refl, omega arith)

pub up_to_later : (stretch a b : ℕ) → a ≤ b → UpTo (stretch, a) (stretch, b)
up_to_later stretch a b le = inr (refl, le)

pub up_to : (p q r : ℕ × ℕ) → UpTo p q → UpTo q r → UpTo p r
up_to p q r (inl a) (inl b) = inl (omega (arith, a, b))
up_to p q r (inl a) (inr b) = inl (omega (arith, a, b.0))
up_to p q r (inr a) (inl b) = inl (omega (arith, a.0, b))
up_to p q r (inr a) (inr b) = inr (omega (arith, a.0, b.0), omega (arith, a.1, b.1))

-- from one to another each isn't behind the next
abbrev pub Climbs : ℕ × ℕ → List (ℕ × ℕ) → ℕ × ℕ → Type 0
Climbs low [] high = UpTo low high
Climbs low (p ∷ ps) high = UpTo low p × Climbs p ps high

pub climbs_push : (low high : ℕ × ℕ) (ps : List (ℕ × ℕ)) → Climbs low ps high → Climbs low (ps ++ high ∷ []) high
climbs_push low high [] climbs = (climbs, up_to_same high)
climbs_push low high (p ∷ ps) climbs = (climbs.0, climbs_push p high ps climbs.1)

pub climbs_more : (low high top : ℕ × ℕ) (ps : List (ℕ × ℕ)) → UpTo high top → Climbs low ps high → Climbs low ps top
climbs_more low high top [] more climbs = up_to low high top climbs more
climbs_more low high top (p ∷ ps) more climbs = (climbs.0, climbs_more p high top ps more climbs.1)

climbs_above : (low high : ℕ × ℕ) (ps : List (ℕ × ℕ)) (i : ℕ) → Climbs low ps high → i < length ps → UpTo low (slice_index_or ps i (0, 0))
climbs_above low high [] i climbs inside = absurd (omega (arith, inside))
climbs_above low high (p ∷ ps) zero climbs inside = climbs.0
climbs_above low high (p ∷ ps) (suc i) climbs inside =
    up_to low p (slice_index_or ps i (0, 0)) climbs.0 (climbs_above p high ps i climbs.1 (omega (arith, inside)))

-- of two of them the earlier isn't behind the later
pub climbs_at : (low high : ℕ × ℕ) (ps : List (ℕ × ℕ)) (a b : ℕ) → Climbs low ps high → a ≤ b → b < length ps
    → UpTo (slice_index_or ps a (0, 0)) (slice_index_or ps b (0, 0))
climbs_at low high [] a b climbs le inside = absurd (omega (arith, inside))
climbs_at low high (p ∷ ps) zero zero climbs le inside = up_to_same p
climbs_at low high (p ∷ ps) zero (suc b) climbs le inside = climbs_above p high ps b climbs.1 (omega (arith, inside))
climbs_at low high (p ∷ ps) (suc a) zero climbs le inside = absurd (omega (arith, le))
climbs_at low high (p ∷ ps) (suc a) (suc b) climbs le inside = climbs_at p high ps a b climbs.1 (omega (arith, le)) (omega (arith, inside))
