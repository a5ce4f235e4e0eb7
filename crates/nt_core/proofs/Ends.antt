-- Each edge of a written design's run comes to its end, and there is one trace: each tick but the first keeps a drawn reply waiting or takes it.
use Rattle.std.proofs.Common.{◌≡◌, ℕ, zero, suc, ◌+◌, ◌-◌, ◌<◌, ◌≤◌, Bool, true, false, List, [], ◌∷◌, map, arith, refl, subst, sym, Option, Some, None, is_some}
use Rattle.std.specs.Prelude.{nat_le, not, if◌then◌else◌, ◌||◌}
use Rattle.std.specs.List.{enumerate_from, list_any}
use Rattle.std.proofs.lemmas.Bool.{leb-false}
use Rattle.xt_bits.specs.Word.{Word}
use Rattle.nt_core.specs.Parts.{Parts}
use Rattle.xt_bits.specs.Stimulus.{Reply}
use Rattle.xt_bits.specs.Trace.{Call, Ending, Starved, Stalled}
use Rattle.nt_core.specs.Tick.{settled}
use Rattle.nt_core.specs.Ports.{process_request, edge_up}
use Rattle.nt_core.specs.Driver.{Standing, Free, Asking, Agent, hear, hear_call, listen, is_asking, has_reply, halt, passed, pass}
use Rattle.nt_core.specs.DesignRun.{Run, Ended, heard, in_tick, ticked, at_rest, tick_on, halt_or, edge_within}

-- ---- how many more ticks there can be: a request with a reply takes its remaining wait and one more

abbrev pub standing_weight : Standing → ℕ
standing_weight Free = 0
standing_weight (Asking None ticks) = 0
standing_weight (Asking (Some reply) ticks) = suc (reply.wait - ticks)

abbrev pub left_weight : List Reply → ℕ
left_weight [] = 0
left_weight (r ∷ rs) = suc r.wait + left_weight rs

abbrev pub weight_of : Agent → ℕ
weight_of a = standing_weight a.standing + left_weight a.left

abbrev pub weight : List Agent → ℕ
weight [] = 0
weight (a ∷ rest) = weight_of a + weight rest

-- ---- a request that is heard

draw_le : (standing : Standing) (left : List Reply) (calls : List Call) (call : Call) → weight_of (hear_call call standing (record { standing = standing; left = left; calls = calls })) ≤ standing_weight standing + left_weight left
draw_le Free [] calls call = omega arith
draw_le Free (r ∷ left) calls call = omega arith
draw_le (Asking reply ticks) left calls call = omega arith

hear_le : (o : Option Call) (a : Agent) → weight_of (hear o a) ≤ weight_of a
hear_le None a = omega arith
hear_le (Some call) a = draw_le a.standing a.left a.calls call

hears_le : (f : ℕ → Option Call) (k : ℕ) (agents : List Agent) → weight (map (λ a. hear (f a.0) a.1) (enumerate_from k agents)) ≤ weight agents
hears_le f k [] = omega arith
hears_le f k (a ∷ rest) = omega (arith, hear_le (f k) a, hears_le f (k + 1) rest)

pub listen_le : (n : Parts) (vs : List Word) (agents : List Agent) → weight (listen n vs agents) ≤ weight agents
listen_le n vs agents = hears_le (process_request n vs) 0 agents

-- ---- a tick

passed_at : (reply : Reply) (ticks : ℕ) (b : Bool) → nat_le reply.wait ticks ≡ b
    → standing_weight (if is_some (if b then Some reply.items else None) then Free else Asking (Some reply) (ticks + 1)) < suc (reply.wait - ticks)
passed_at reply ticks true e = omega arith
passed_at reply ticks false e = omega (arith, leb-false reply.wait ticks e)

passed_le : (s : Standing) → standing_weight (passed s) ≤ standing_weight s
passed_le Free = omega arith
passed_le (Asking None ticks) = omega arith
passed_le (Asking (Some reply) ticks) = omega (arith, passed_at reply ticks (nat_le reply.wait ticks) refl)

passed_lt : (s : Standing) → has_reply s ≡ true → standing_weight (passed s) < standing_weight s
passed_lt Free h = cc
passed_lt (Asking None ticks) h = cc
passed_lt (Asking (Some reply) ticks) h = passed_at reply ticks (nat_le reply.wait ticks) refl

pub passes_le : (agents : List Agent) → weight (map pass agents) ≤ weight agents
passes_le [] = omega arith
passes_le (a ∷ rest) = omega (arith, passed_le a.standing, passes_le rest)

passes_first : (b : Bool) (a : Agent) (rest : List Agent) → has_reply a.standing ≡ b → b || list_any (λ a. has_reply a.standing) rest ≡ true
    → (list_any (λ a. has_reply a.standing) rest ≡ true → weight (map pass rest) < weight rest) → weight (map pass (a ∷ rest)) < weight (a ∷ rest)
passes_first true a rest e h more = omega (arith, passed_lt a.standing e, passes_le rest)
passes_first false a rest e h more = omega (arith, passed_le a.standing, more h)

passes_lt : (agents : List Agent) → list_any (λ a. has_reply a.standing) agents ≡ true → weight (map pass agents) < weight agents
passes_lt [] h = cc
passes_lt (a ∷ rest) h = passes_first (has_reply a.standing) a rest refl h (passes_lt rest)

-- where nothing halts the edge, some request has a reply
choose_none : (b d : Bool) → ◌≡◌ {A = Option Ending} (if not b then Some Stalled else (if not d then Some Starved else None)) None → d ≡ true
choose_none true true e = refl
choose_none true false e = cc
choose_none false d e = cc

halt_none : (agents : List Agent) → halt agents ≡ None → list_any (λ a. has_reply a.standing) agents ≡ true
halt_none agents e = choose_none (list_any (λ a. is_asking a.standing) agents) (list_any (λ a. has_reply a.standing) agents) e

-- ---- an edge ends

-- the end comes within so many ticks
abbrev pub EndsWithin : ℕ → Parts → List Word → ℕ → Run → Type 0
EndsWithin more n row ticks r = (e : Ended) × (edge_within more n row ticks r ≡ Some e)

if-some : (b : Bool) (x : Ended) (o : Option Ended) → (b ≡ false → (e : Ended) × (o ≡ Some e)) → (e : Ended) × ((if b then Some x else o) ≡ Some e)
if-some true x o h = (x, refl)
if-some false x o h = h refl

halt-some : (o : Option Ending) (r : Run) (on : Option Ended) → (o ≡ None → (e : Ended) × (on ≡ Some e)) → (e : Ended) × (halt_or o r on ≡ Some e)
halt-some (Some ending) r on h = (record { ending = ending; run = r }, refl)
halt-some None r on h = h refl

pub edge_goes_on : (more : ℕ) (n : Parts) (row : List Word) (ticks : ℕ) (r : Run) → weight r.agents < more → EndsWithin more n row (suc ticks) r
edge_goes_on zero n row ticks r l = absurd (omega arith)
edge_goes_on (suc more) n row ticks r l =
    let h : Run = heard n row r in
    let below : weight h.agents ≤ weight r.agents = listen_le n (settled n row r.state) r.agents in
    halt-some (halt h.agents) h (tick_on (edge_within more n row) n row (suc ticks) h) (λ none.
    if-some (edge_up n (in_tick n row h)) (at_rest n row (suc ticks + 1) (ticked n row h)) (edge_within more n row (suc ticks + 1) (ticked n row h)) (λ down.
    let less : weight (ticked n row h).agents < weight h.agents = passes_lt h.agents (halt_none h.agents none) in
    let next : suc ticks + 1 ≡ suc (suc ticks) = omega arith in
    subst (λ t. EndsWithin more n row t (ticked n row h)) (sym next) (edge_goes_on more n row (suc ticks) (ticked n row h) (omega arith))))

-- each edge ends, with at most two ticks more than the weight
pub edge_ends : (more : ℕ) (n : Parts) (row : List Word) (r : Run) → weight r.agents < more → EndsWithin (suc more) n row 0 r
edge_ends more n row r l =
    let h : Run = heard n row r in
    let below : weight h.agents ≤ weight r.agents = listen_le n (settled n row r.state) r.agents in
    let same : weight (ticked n row h).agents ≤ weight h.agents = passes_le h.agents in
    if-some (edge_up n (in_tick n row h)) (at_rest n row 1 (ticked n row h)) (edge_within more n row 1 (ticked n row h)) (λ down.
    edge_goes_on more n row 0 (ticked n row h) (omega arith))
