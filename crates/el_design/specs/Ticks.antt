-- How many ticks of the free clock an edge takes. This is this project's own.
use Rattle.std.specs.Prelude.{ℕ, suc, ◌+◌, max, List, [], ◌∷◌}

-- a call with a delay of w ticks takes w + 1 of them
abbrev pub busy : List ℕ → ℕ
busy [] = 0
busy (w ∷ ws) = suc w + busy ws

abbrev pub longest : List (List ℕ) → ℕ
longest [] = 0
longest (ws ∷ more) = max (busy ws) (longest more)

-- by the delays of each process's calls: processes wait for their replies side by side
abbrev pub ticks_of : List (List ℕ) → ℕ
ticks_of delays = suc (longest delays)
