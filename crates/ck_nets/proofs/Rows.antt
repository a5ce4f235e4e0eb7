-- Small designs, worked by hand: net n stands on line n + 1.
use Rattle.std.proofs.Common.{◌≡◌, ℕ, List, [], ◌∷◌, Option, Some, None, false, refl, arith}
use Rattle.xt_base.specs.declared.refusals.Place.{Place}
use Rattle.el_design.specs.declared.expressions.BinOp.TheVariants as op
use Rattle.el_design.specs.Plain.{Expr, NetValue, Binary, FlatNet, Flat}
use Rattle.el_design.specs.Touches.{DependsOn, depends, depends_through}
use Rattle.el_design.specs.Rules.{NetsInCircle, circle, Breaks, nets_circle}
use Rattle.el_design.proofs.Sample.{at, u, design}
use Rattle.ck_nets.specs.inner.Reading.{graph_of, break_of, breaks_from}

abbrev net : ℕ → Option Expr → FlatNet
net line value = record { width = 1; signed = false; lsb = 0; value = value; place = at line }

abbrev of_nets : List FlatNet → Flat
of_nets nets = record (design [] [] [] [] []) { nets = nets }

abbrev pin : FlatNet
pin = net 1 None

-- `assign b = c;`, and `assign d = b;`, which only leads to what is behind `b`
abbrev b : FlatNet
b = net 2 (Some (NetValue (u 1) 2))

abbrev d : FlatNet
d = net 4 (Some (NetValue (u 1) 1))

-- ---- refused: `assign c = b & a;`

abbrev c_of_b : FlatNet
c_of_b = net 3 (Some (Binary (u 1) op.And (NetValue (u 1) 1) (NetValue (u 1) 0)))

abbrev ring : Flat
ring = of_nets (pin ∷ b ∷ c_of_b ∷ d ∷ [])

ring_graph : graph_of ring ≡ [] ∷ (2 ∷ []) ∷ (1 ∷ 0 ∷ []) ∷ (1 ∷ []) ∷ []
ring_graph = refl

-- the labels of its circles: `b` and `c` have one
ring_breaks : breaks_from (0 ∷ 1 ∷ 1 ∷ 3 ∷ []) 0 ring.nets ≡ break_of b ∷ break_of c_of_b ∷ []
ring_breaks = refl

ring_broken : Breaks ring 15 73 (at 2)
ring_broken = nets_circle (circle {n = 1} refl (depends_through (record { net = b; is = refl; value = refl }) (0, omega arith, refl) (depends (record { net = c_of_b; is = refl; value = refl }) (0, omega arith, refl))))

-- ---- accepted: `assign c = a & a;`

abbrev c_of_a : FlatNet
c_of_a = net 3 (Some (Binary (u 1) op.And (NetValue (u 1) 0) (NetValue (u 1) 0)))

abbrev row : Flat
row = of_nets (pin ∷ b ∷ c_of_a ∷ d ∷ [])

row_graph : graph_of row ≡ [] ∷ (2 ∷ []) ∷ (0 ∷ 0 ∷ []) ∷ (1 ∷ []) ∷ []
row_graph = refl

row_breaks : breaks_from (0 ∷ 1 ∷ 2 ∷ 3 ∷ []) 0 row.nets ≡ []
row_breaks = refl

-- ---- refused: `assign e = e;` alone

abbrev e_of_e : FlatNet
e_of_e = net 1 (Some (NetValue (u 1) 0))

alone_breaks : breaks_from (0 ∷ []) 0 (e_of_e ∷ []) ≡ break_of e_of_e ∷ []
alone_breaks = refl
