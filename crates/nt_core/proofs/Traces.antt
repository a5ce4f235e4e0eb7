-- Each stimulus of a written design has one trace.
use Rattle.std.proofs.Common.{◌≡◌, ℕ, zero, suc, ◌+◌, ◌<◌, ◌≤◌, Bool, true, false, List, [], ◌∷◌, map, arith, refl, subst, sym, ap, ◌∙◌, Option, Some, None}
use Rattle.std.specs.Prelude.{if◌then◌else◌, option_and_then, option_map}
use Rattle.std.proofs.lemmas.Option.{same_Some, none-some}
use Rattle.xt_bits.specs.Word.{Word}
use Rattle.nt_core.specs.Parts.{Parts}
use Rattle.xt_bits.specs.Stimulus.{Stimulus}
use Rattle.xt_bits.specs.Trace.{Ending, Rested, Starved, Stalled, Trace}
use Rattle.nt_core.specs.Tick.{settled}
use Rattle.nt_core.specs.Ports.{edge_up}
use Rattle.nt_core.specs.Driver.{Agent, listen, halt, pass}
use Rattle.nt_core.specs.DesignRun.{Run, Ended, heard, in_tick, ticked, at_rest, tick_on, halt_or, step_on, edge_within, without_calls, edge_start, shown, after, trace_within, run_start, IsDesignTrace}
use Rattle.nt_core.proofs.Ends.{weight, weight_of, listen_le, passes_le, EndsWithin, edge_ends}

-- ---- more ticks than are needed change nothing

-- what one run answers, the other does
abbrev Extends : (ℕ → Run → Option Ended) → (ℕ → Run → Option Ended) → Type 0
Extends go more = (t : ℕ) (r : Run) (e : Ended) → go t r ≡ Some e → more t r ≡ Some e

if-extends : (b : Bool) (x e : Ended) (o p : Option Ended) → (o ≡ Some e → p ≡ Some e) → (if b then Some x else o) ≡ Some e → (if b then Some x else p) ≡ Some e
if-extends true x e o p h k = k
if-extends false x e o p h k = h k

tick-extends : (go more : ℕ → Run → Option Ended) (n : Parts) (row : List Word) (t : ℕ) (r : Run) (e : Ended) → Extends go more
    → tick_on go n row t r ≡ Some e → tick_on more n row t r ≡ Some e
tick-extends go more n row t r e h k =
    if-extends (edge_up n (in_tick n row r)) (at_rest n row (t + 1) (ticked n row r)) e (go (t + 1) (ticked n row r)) (more (t + 1) (ticked n row r))
    (h (t + 1) (ticked n row r) e) k

halt-extends : (o : Option Ending) (r : Run) (e : Ended) (p q : Option Ended) → (p ≡ Some e → q ≡ Some e) → halt_or o r p ≡ Some e → halt_or o r q ≡ Some e
halt-extends None r e p q h k = h k
halt-extends (Some ending) r e p q h k = k

step-extends : (go more : ℕ → Run → Option Ended) (n : Parts) (row : List Word) (t : ℕ) (r : Run) (e : Ended) → Extends go more
    → step_on go n row t r ≡ Some e → step_on more n row t r ≡ Some e
step-extends go more n row zero r e h k = tick-extends go more n row zero r e h k
step-extends go more n row (suc t) r e h k =
    halt-extends (halt r.agents) r e (tick_on go n row (suc t) r) (tick_on more n row (suc t) r) (tick-extends go more n row (suc t) r e h) k

edge-suc : (more : ℕ) (n : Parts) (row : List Word) (t : ℕ) (r : Run) (e : Ended) → edge_within more n row t r ≡ Some e → edge_within (suc more) n row t r ≡ Some e
edge-suc zero n row t r e k = absurd (none-some e k)
edge-suc (suc more) n row t r e k =
    step-extends (edge_within more n row) (edge_within (suc more) n row) n row t (heard n row r) e (λ t r e. edge-suc more n row t r e) k

-- ---- an edge leaves no more to be waited for

agents_le : (b : Bool) (x e : Ended) (o : Option Ended) (w : ℕ) → weight x.run.agents ≤ w → (o ≡ Some e → weight e.run.agents ≤ w)
    → (if b then Some x else o) ≡ Some e → weight e.run.agents ≤ w
agents_le true x e o w p q k = subst (λ e. weight e.run.agents ≤ w) (same_Some x e k) p
agents_le false x e o w p q k = q k

halt_le : (o : Option Ending) (r : Run) (e : Ended) (p : Option Ended) (w : ℕ) → weight r.agents ≤ w → (p ≡ Some e → weight e.run.agents ≤ w)
    → halt_or o r p ≡ Some e → weight e.run.agents ≤ w
halt_le None r e p w l q k = q k
halt_le (Some ending) r e p w l q k = subst (λ e. weight e.run.agents ≤ w) (same_Some (record { ending = ending; run = r }) e k) l

tick_le : (go : ℕ → Run → Option Ended) (n : Parts) (row : List Word) (t : ℕ) (r : Run) (e : Ended)
    → ((t : ℕ) (r : Run) → go t r ≡ Some e → weight e.run.agents ≤ weight r.agents)
    → tick_on go n row t r ≡ Some e → weight e.run.agents ≤ weight r.agents
tick_le go n row t r e h k =
    let less : weight (map pass r.agents) ≤ weight r.agents = passes_le r.agents in
    agents_le (edge_up n (in_tick n row r)) (at_rest n row (t + 1) (ticked n row r)) e (go (t + 1) (ticked n row r)) (weight r.agents) less
    (λ g. omega (arith, h (t + 1) (ticked n row r) g, less)) k

step_le : (go : ℕ → Run → Option Ended) (n : Parts) (row : List Word) (t : ℕ) (r : Run) (e : Ended)
    → ((t : ℕ) (r : Run) → go t r ≡ Some e → weight e.run.agents ≤ weight r.agents)
    → step_on go n row t r ≡ Some e → weight e.run.agents ≤ weight r.agents
step_le go n row zero r e h k = tick_le go n row zero r e h k
step_le go n row (suc t) r e h k =
    halt_le (halt r.agents) r e (tick_on go n row (suc t) r) (weight r.agents) (omega arith) (tick_le go n row (suc t) r e h) k

edge_le : (more : ℕ) (n : Parts) (row : List Word) (t : ℕ) (r : Run) (e : Ended) → edge_within more n row t r ≡ Some e → weight e.run.agents ≤ weight r.agents
edge_le zero n row t r e k = absurd (none-some e k)
edge_le (suc more) n row t r e k =
    let below : weight (listen n (settled n row r.state) r.agents) ≤ weight r.agents = listen_le n (settled n row r.state) r.agents in
    omega (arith, below, step_le (edge_within more n row) n row t (heard n row r) e (λ t r. edge_le more n row t r e) k)

-- an edge begins with the replies that the last one left
start-weight : (agents : List Agent) → weight (map without_calls agents) ≡ weight agents
start-weight [] = refl
start-weight (a ∷ rest) = ap (λ k. weight_of a + k) (start-weight rest)

-- ---- the trace

-- there is a trace where each edge may take so many ticks
abbrev pub TracesWithin : ℕ → Parts → List (List Word) → Run → Type 0
TracesWithin most n rows r = (t : Trace) × (trace_within most n rows r ≡ Some t)

after-some : (go : Run → Option Trace) (e : Ended) (ending : Ending) → ((t : Trace) × (go e.run ≡ Some t)) → (t : Trace) × (after go e ending ≡ Some t)
after-some go e (Rested ticks pins) g = (shown e ∷ g.0, ap (option_map (λ t. shown e ∷ t)) g.1)
after-some go e Starved g = (shown e ∷ [], refl)
after-some go e Stalled g = (shown e ∷ [], refl)

pub traces : (most : ℕ) (n : Parts) (rows : List (List Word)) (r : Run) → weight r.agents < most → TracesWithin (suc most) n rows r
traces most n [] r l = ([], refl)
traces most n (row ∷ rows) r l =
    let s : Run = edge_start r in
    let same : weight s.agents ≡ weight r.agents = start-weight r.agents in
    let edge : EndsWithin (suc most) n row 0 s = edge_ends most n row s (omega arith) in
    let left : weight edge.0.run.agents ≤ weight s.agents = edge_le (suc most) n row 0 s edge.0 edge.1 in
    let rest = traces most n rows edge.0.run (omega arith) in
    let whole = after-some (trace_within (suc most) n rows) edge.0 edge.0.ending rest in
    (whole.0, ap (option_and_then (λ e. after (trace_within (suc most) n rows) e e.ending)) edge.1 ∙ whole.1)

-- every stimulus has a trace
pub trace_exists : (n : Parts) (x : Stimulus) → (t : Trace) × IsDesignTrace n x t
trace_exists n x =
    let found = traces (suc (weight (run_start n x).agents)) n x.rows (run_start n x) (omega arith) in
    (found.0, (suc (suc (weight (run_start n x).agents)), found.1))

-- ---- and one alone

map-extends : (e : Ended) (t : Trace) (o p : Option Trace) → ((u : Trace) → o ≡ Some u → p ≡ Some u)
    → option_map (λ t. shown e ∷ t) o ≡ Some t → option_map (λ t. shown e ∷ t) p ≡ Some t
map-extends e t None p h k = cc
map-extends e t (Some u) p h k = ap (option_map (λ t. shown e ∷ t)) (h u refl) ∙ k

after-extends : (go more : Run → Option Trace) (e : Ended) (ending : Ending) (t : Trace) → ((r : Run) (u : Trace) → go r ≡ Some u → more r ≡ Some u)
    → after go e ending ≡ Some t → after more e ending ≡ Some t
after-extends go more e (Rested ticks pins) t h k = map-extends e t (go e.run) (more e.run) (h e.run) k
after-extends go more e Starved t h k = k
after-extends go more e Stalled t h k = k

then-extends : (f g : Ended → Option Trace) (o p : Option Ended) (t : Trace) → ((e : Ended) → o ≡ Some e → p ≡ Some e)
    → ((e : Ended) → f e ≡ Some t → g e ≡ Some t) → option_and_then f o ≡ Some t → option_and_then g p ≡ Some t
then-extends f g None p t h k m = cc
then-extends f g (Some e) p t h k m = ap (option_and_then g) (h e refl) ∙ k e m

trace-suc : (most : ℕ) (n : Parts) (rows : List (List Word)) (r : Run) (t : Trace) → trace_within most n rows r ≡ Some t → trace_within (suc most) n rows r ≡ Some t
trace-suc most n [] r t k = k
trace-suc most n (row ∷ rows) r t k =
    then-extends (λ e. after (trace_within most n rows) e e.ending) (λ e. after (trace_within (suc most) n rows) e e.ending)
    (edge_within most n row 0 (edge_start r)) (edge_within (suc most) n row 0 (edge_start r)) t
    (λ e. edge-suc most n row 0 (edge_start r) e)
    (λ e. after-extends (trace_within most n rows) (trace_within (suc most) n rows) e e.ending t (λ r u. trace-suc most n rows r u)) k

trace-more : (k most : ℕ) (n : Parts) (rows : List (List Word)) (r : Run) (t : Trace) → trace_within most n rows r ≡ Some t → trace_within (k + most) n rows r ≡ Some t
trace-more zero most n rows r t h = let same : zero + most ≡ most = omega arith in rw same h
trace-more (suc k) most n rows r t h =
    let same : suc k + most ≡ suc (k + most) = omega arith in
    rw same (trace-suc (k + most) n rows r t (trace-more k most n rows r t h))

-- two traces of one stimulus are the same
pub one_trace : (n : Parts) (x : Stimulus) (t u : Trace) → IsDesignTrace n x t → IsDesignTrace n x u → t ≡ u
one_trace n x t u p q =
    let r : Run = run_start n x in
    let left : trace_within (q.0 + p.0) n x.rows r ≡ Some t = trace-more q.0 p.0 n x.rows r t p.1 in
    let same : p.0 + q.0 ≡ q.0 + p.0 = omega arith in
    let right : trace_within (q.0 + p.0) n x.rows r ≡ Some u = subst (λ m. trace_within m n x.rows r ≡ Some u) same (trace-more p.0 q.0 n x.rows r u q.1) in
    same_Some t u (sym left ∙ right)
