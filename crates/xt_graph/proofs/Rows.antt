-- Small graphs, worked by hand: each definition on a graph with a circle and on its neighbour without one.
use Rattle.std.proofs.Common.{◌≡◌, ℕ, true, false, List, [], ◌∷◌, replicate, fold, refl, arith}
use Rattle.xt_graph.specs.Graph.{Points, Leads, there, onward, HasCircle, IsReached}
use Rattle.xt_graph.specs.inner.Reversing.{turned}
use Rattle.xt_graph.specs.inner.Searching.{Found, find_all, spread}
use Rattle.xt_graph.specs.inner.Finishing.{visited, turn}
use Rattle.xt_graph.specs.inner.Ordering.{stand_behind}
use Rattle.xt_graph.specs.inner.Labelling.{Labelled, labelled}
use Rattle.xt_graph.specs.declared.finishing.Visit.TheVariants.{Enter, Finish}

-- 1 and 2 point to each other, 0 to 1, and 3 to 0 and to 9, which is no node
abbrev ring : List (List ℕ)
ring = (1 ∷ []) ∷ (2 ∷ []) ∷ (1 ∷ []) ∷ (0 ∷ 9 ∷ []) ∷ []

-- the neighbour: 2 points to nothing
abbrev line : List (List ℕ)
line = (1 ∷ []) ∷ (2 ∷ []) ∷ [] ∷ (0 ∷ 9 ∷ []) ∷ []

-- 0 points to itself alone
abbrev alone : List (List ℕ)
alone = (0 ∷ []) ∷ []

-- ---- edges, ways, circles

zero_to_one : Points ring 0 1
zero_to_one = record { listed = (0, omega arith, refl); node = omega arith }

three_to_none : Points ring 3 9 → ⊥
three_to_none p = let l = p.node in absurd (omega (arith, l))

one_to_two : Points ring 1 2
one_to_two = record { listed = (0, omega arith, refl); node = omega arith }

two_to_one : Points ring 2 1
two_to_one = record { listed = (0, omega arith, refl); node = omega arith }

zero_leads_to_two : Leads (Points ring) 0 2
zero_leads_to_two = onward zero_to_one (onward one_to_two there)

ring_has_circle : HasCircle ring
ring_has_circle = record { from = 1; to = 2; edge = one_to_two; back = onward two_to_one there }

alone_has_circle : HasCircle alone
alone_has_circle = record { from = 0; to = 0; edge = record { listed = (0, omega arith, refl); node = omega arith }; back = there }

zero_reaches_two : IsReached ring (3 ∷ 0 ∷ []) 2
zero_reaches_two = record { first = 0; listed = (1, omega arith, refl); leads = zero_leads_to_two }

-- ---- edges turned round

turned_ring : turned 0 (replicate 4 []) ring ≡ (3 ∷ []) ∷ (0 ∷ 2 ∷ []) ∷ (1 ∷ []) ∷ [] ∷ []
turned_ring = refl

-- ---- searches

abbrev nothing : Found
nothing = record { marks = replicate 4 false; found = [] }

from_three : (spread ring 4 0 (find_all nothing (3 ∷ []))).found ≡ 3 ∷ 0 ∷ 1 ∷ 2 ∷ []
from_three = refl

from_one : (spread ring 4 0 (find_all nothing (1 ∷ []))).marks ≡ false ∷ true ∷ true ∷ false ∷ []
from_one = refl

from_none : (spread ring 4 0 (find_all nothing (9 ∷ []))).marks ≡ replicate 4 false
from_none = refl

-- ---- a visit: what a node points to is entered above its end

enters_three : visited ring (record { marks = replicate 4 false; todo = Enter 0 ∷ []; finished = [] }) (Enter 3)
    ≡ record { marks = false ∷ false ∷ false ∷ true ∷ []; todo = Enter 0 ∷ Finish 3 ∷ Enter 0 ∷ Enter 9 ∷ []; finished = [] }
enters_three = refl

passes_nine : visited ring (record { marks = replicate 4 false; todo = Enter 0 ∷ []; finished = [] }) (Enter 9) ≡ record { marks = replicate 4 false; todo = Enter 0 ∷ []; finished = [] }
passes_nine = refl

-- ---- orders

line_in_order : stand_behind line (replicate 4 false) (2 ∷ 1 ∷ 0 ∷ 3 ∷ []) ≡ true
line_in_order = refl

line_out_of_order : stand_behind line (replicate 4 false) (1 ∷ 2 ∷ 0 ∷ 3 ∷ []) ≡ false
line_out_of_order = refl

ring_in_no_order : stand_behind ring (replicate 4 false) (2 ∷ 1 ∷ 0 ∷ 3 ∷ []) ≡ false
ring_in_no_order = refl

alone_in_no_order : stand_behind alone (false ∷ []) (0 ∷ []) ≡ false
alone_in_no_order = refl

third_turn : turn (2 ∷ 1 ∷ 0 ∷ 3 ∷ []) 0 ≡ 2
third_turn = refl

-- ---- labels, the last finished first

abbrev unlabelled : Labelled
unlabelled = record { search = nothing; labels = replicate 4 0 }

ring_labels : (fold (labelled (turned 0 (replicate 4 []) ring)) unlabelled (3 ∷ 0 ∷ 1 ∷ 2 ∷ [])).labels ≡ 0 ∷ 1 ∷ 1 ∷ 3 ∷ []
ring_labels = refl

line_labels : (fold (labelled (turned 0 (replicate 4 []) line)) unlabelled (3 ∷ 0 ∷ 1 ∷ 2 ∷ [])).labels ≡ 0 ∷ 1 ∷ 2 ∷ 3 ∷ []
line_labels = refl
