-- Circles of a graph found by two passes: what makes the second pass right.
use Rattle.std.proofs.Common.{◌≡◌, ◌⊎◌, inl, inr, ◌<◌, ◌≤◌, ◌+◌, ℕ, zero, suc, refl, sym, subst, arith, nat_le, Bool, true, false}
use Rattle.xt_graph.specs.Graph.{Leads, there, onward}

pub then_leads : {E : ℕ → ℕ → Type 0} {a b c : ℕ} → Leads E a b → Leads E b c → Leads E a c
then_leads there k = k
then_leads (onward e h) k = onward e (then_leads h k)

-- Nodes are finished at turns: `at n` is the turn of n. An edge from a node that is finished by the turn of u to one that is finished later leads to one that leads back to u.
pub record ComesBack (E : ℕ → ℕ → Type 0) (at : ℕ → ℕ) : Type 0 where
  pub back : (u x g : ℕ) → at x ≤ at u → at u < at g → E x g → Leads E g u
  pub one : (u v : ℕ) → at u ≡ at v → u ≡ v

-- a way backwards, where each edge has one
pub leads_back : {E D : ℕ → ℕ → Type 0} {a b : ℕ} → ((x y : ℕ) → E x y → D y x) → Leads E a b → Leads D b a
leads_back turn there = there
leads_back turn (onward {a = a} {b = b} e h) = then_leads (leads_back turn h) (onward (turn a b e) there)

-- a way to r whose other nodes are all finished before r
pub data Below (E : ℕ → ℕ → Type 0) (at : ℕ → ℕ) (r : ℕ) : ℕ → Type 0 where
  ends : Below E at r r
  goes : {a b : ℕ} → E a b → at a < at r → Below E at r b → Below E at r a

-- a way that begins at a node finished by the turn of u and ends later has a first edge that leads later
record Leaves (E : ℕ → ℕ → Type 0) (at : ℕ → ℕ) (u r : ℕ) : Type 0 where
  from : ℕ
  to : ℕ
  before : at from ≤ at u
  after : at u < at to
  edge : E from to
  rest : Below E at r to
  most : at to ≤ at r

below_or : (x y : ℕ) → (x ≤ y) ⊎ (y < x)
below_or x y = go (nat_le x y) refl
  where
    go : (b : Bool) → nat_le x y ≡ b → (x ≤ y) ⊎ (y < x)
    go true e = inl (grind (arith, e))
    go false e = inr (grind (arith, e))

clash : {X : Type 0} (x y : ℕ) → x ≤ y → y < x → X
clash x y h k = absurd (omega (arith, h, k))

-- the first node of such a way is finished by the turn of its end
low : {E : ℕ → ℕ → Type 0} (at : ℕ → ℕ) (r a : ℕ) → Below E at r a → at a ≤ at r
low at r a ends = omega arith
low at r a (goes e less more) = omega (arith, less)

leaves : {E : ℕ → ℕ → Type 0} (at : ℕ → ℕ) (u r a : ℕ) → at a ≤ at u → at u < at r → Below E at r a → Leaves E at u r
leaves at u r a h k ends = clash (at a) (at u) h k
leaves {E = E} at u r a h k (goes {b = b} e less more) = go (λ p. leaves at u r b p k more) (below_or (at b) (at u))
  where
    go : (at b ≤ at u → Leaves E at u r) → (at b ≤ at u) ⊎ (at u < at b) → Leaves E at u r
    go on (inl p) = on p
    go on (inr p) = record { from = a; to = b; before = h; after = p; edge = e; rest = more; most = low at r b more }

-- What reaches r by a way whose other nodes are all finished before r is reached by r. So what a search against the edges finds from the node that is finished
-- last of those not yet found is the circle of that node.
pub reached_back : {E : ℕ → ℕ → Type 0} (at : ℕ → ℕ) → ComesBack E at → (n x r : ℕ) → at r ≤ at x + n → Below E at r x → Leads E r x
reached_back {E = E} at f zero x r m w = subst (λ y. Leads E r y) (sym (f.one x r (omega (arith, m, low at r x w)))) there
reached_back {E = E} at f (suc n) x r m w = go (λ g p v. reached_back at f n g r (omega (arith, p, m)) v) (below_or (at r) (at x))
  where
    go : ((g : ℕ) → at x < at g → Below E at r g → Leads E r g) → (at r ≤ at x) ⊎ (at x < at r) → Leads E r x
    go on (inl p) = subst (λ y. Leads E r y) (sym (f.one x r (omega (arith, p, low at r x w)))) there
    go on (inr p) =
        let l = leaves at x r x (omega arith) p w in
        then_leads (on l.to l.after l.rest) (f.back x l.from l.to l.before l.after l.edge)
