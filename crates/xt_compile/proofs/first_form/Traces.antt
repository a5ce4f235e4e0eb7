-- The trace of a compiled netlist is that of its process in big steps.
use Rattle.std.proofs.Common.{◌≡◌, ◌≤◌, ◌+◌, ◌++◌, ℕ, suc, Bool, true, if◌then◌else◌, List, [], ◌∷◌, Option, Some, None, length, map, get_or, replicate, max, refl, sym, ap, ◌∙◌, arith}
use Rattle.std.specs.Prelude.{All, position, ◌==◌, option_map, option_and_then}
use Rattle.std.specs.List.{enumerate_from}
use Rattle.std.proofs.lemmas.List.{length-map, get_or_at}
use Rattle.xt_bits.specs.Stimulus.{Reply, Stimulus}
use Rattle.xt_bits.specs.Trace.{Call, Rested, Seen}
use Rattle.xt_bits.specs.Word.{Word, word}
use Rattle.nt_core.specs.HostLine.{HostLine}
use Rattle.nt_core.specs.DesignRun.{Run, agent_start, run_start, heard, ticked, at_rest, Ended, edge_within, shown, without_calls, edge_start, after, trace_within, IsDesignTrace}
use Rattle.nt_core.specs.DesignRun as design
use Rattle.nt_core.specs.Driver.{Agent, hear, driven, pass}
use Rattle.nt_core.specs.Parts.{Parts}
use Rattle.nt_core.specs.Ports.{edge_up, outputs, process_request, request_of}
use Rattle.nt_core.specs.Sources.{State, Sources, silent}
use Rattle.nt_core.specs.Tick.{settled}
use Rattle.el_design.specs.declared.designs.Design.{Design}
use Rattle.el_design.specs.declared.designs.Var.{Var}
use Rattle.el_design.specs.Plain.{Statement, FlatProc}
use Rattle.el_design.specs.Queue.{scene_of}
use Rattle.el_design.specs.Run.{IsRow, IsStimulus}
use Rattle.el_design.specs.Store.{Store, start_word}
use Rattle.el_design.specs.View.{flat_of}
use Rattle.xt_compile.specs.first.Compiled.{Ticks, held}
use Rattle.xt_compile.specs.first.Form.{IsOfForm, IsVariable, var_widths, net_widths}
use Rattle.xt_compile.specs.first.Machine.{HasBody, stretch, onward, updated, Point, edge, nets_of, pins_seen, trace_of, start_point}
use Rattle.xt_compile.specs.first.Machine as machine
use Rattle.xt_compile.specs.first.Nodes.{words_of, read_registers, all_assigned, rest_at, waits, next_point, state_width}
use Rattle.xt_compile.proofs.first_form.Fits.{Fit, fit_none, fit_more, fit_length}
use Rattle.xt_compile.proofs.first_form.Pins.{nets_fit}
use Rattle.xt_compile.proofs.first_form.Points.{onward_rest, next_within}
use Rattle.xt_compile.proofs.first_form.Stores.{AreFormal, formal_rest, formal_stretch, updated_is, all_updates}

-- ---- registers

read_from : (ws : List ℕ) (vs more registers : List Word) (n : ℕ) → length vs ≡ length ws → ((i : ℕ) (d : Word) → get_or registers (n + i) d ≡ get_or (vs ++ more) i d)
    → map (λ x. get_or registers x.0 (word x.1 0)) (enumerate_from n ws) ≡ vs
read_from [] [] more registers n size at = refl
read_from [] (v ∷ vs) more registers n size at = absurd (omega arith)
read_from (w ∷ ws) [] more registers n size at = absurd (omega arith)
read_from (w ∷ ws) (v ∷ vs) more registers n size at =
    let e : n ≡ n + 0 = omega arith in
    let head : get_or registers n (word w 0) ≡ v = ap (λ (k : ℕ). get_or registers k (word w 0)) e ∙ at 0 (word w 0) in
    let tail = read_from ws vs more registers (n + 1) (omega arith) (λ i d. let f : n + 1 + i ≡ n + suc i = omega arith in ap (λ (k : ℕ). get_or registers k d) f ∙ at (suc i) d) in
    ap (λ (x : Word). x ∷ map (λ x. get_or registers x.0 (word x.1 0)) (enumerate_from (n + 1) ws)) head ∙ ap (λ (xs : List Word). v ∷ xs) tail

read_front : (ws : List ℕ) (vs more : List Word) → length vs ≡ length ws → read_registers ws (vs ++ more) ≡ vs
read_front ws vs more size = read_from ws vs more (vs ++ more) 0 size (λ i d. let e : 0 + i ≡ i = omega arith in ap (λ (k : ℕ). get_or (vs ++ more) k d) e)

-- ---- the host's side, where there is no host

abbrev pub empties : List Agent → List (List Call)
empties agents = map (λ _. []) agents

nobody : (n : Parts) → n.hosts ≡ [] → (vs : List Word) (p : ℕ) → process_request n vs p ≡ None
nobody n none vs p = ap (λ (hs : List HostLine). request_of n vs (position (λ h. h.process == p) hs)) none

heard_one : (n : Parts) → n.hosts ≡ [] → (vs : List Word) (k : ℕ) (a : Agent) → (pass (hear (process_request n vs k) (without_calls a))).calls ≡ []
heard_one n none vs k a = ap (λ (o : Option Call). (pass (hear o (without_calls a))).calls) (nobody n none vs k)

heard_all : (n : Parts) → n.hosts ≡ [] → (vs : List Word) (k : ℕ) (agents : List Agent)
    → map (λ a. a.calls) (map pass (map (λ a. hear (process_request n vs a.0) a.1) (enumerate_from k (map without_calls agents)))) ≡ map (λ _. []) agents
heard_all n none vs k [] = refl
heard_all n none vs k (a ∷ agents) =
    let head = heard_one n none vs k a in
    let tail = heard_all n none vs (k + 1) agents in
    cc

as_many : (n : Parts) (vs : List Word) (k : ℕ) (agents : List Agent) → empties (map pass (map (λ a. hear (process_request n vs a.0) a.1) (enumerate_from k (map without_calls agents)))) ≡ empties agents
as_many n vs k [] = refl
as_many n vs k (a ∷ agents) = ap (λ (xs : List (List Call)). [] ∷ xs) (as_many n vs (k + 1) agents)

-- ---- an edge

-- a run at an edge's beginning, heard and ticked
abbrev pub after_edge : Parts → List Word → Run → Run
after_edge n row r = ticked n row (heard n row (edge_start r))

one_tick : (n : Parts) (row : List Word) (r : Run) → edge_up n (design.in_tick n row (heard n row (edge_start r))) ≡ true → edge_within 1 n row 0 (edge_start r) ≡ Some (at_rest n row 1 (after_edge n row r))
one_tick n row r up =
    ap (λ (b : Bool). if b then Some (at_rest n row 1 (ticked n row (heard n row (edge_start r)))) else edge_within 0 n row 1 (ticked n row (heard n row (edge_start r)))) up

-- a run of the netlist stands where the process does: the variables hold `vs`, and the control point is `q`
pub record At (d : Design) (body : List Statement) (r : Run) (p : Point) (vs : List Word) (q : ℕ) : Type 0 where
  pub registers : r.state.registers ≡ vs ++ word state_width q ∷ []
  pub fits : Fit (var_widths d) vs
  pub store : p.store ≡ words_of vs
  pub rest : p.rest ≡ rest_at q body
  pub within : q ≤ waits body
  pub agents : empties r.agents ≡ [] ∷ []

held_is : (d : Design) (state : State) (vs : List Word) (q : ℕ) → state.registers ≡ vs ++ word state_width q ∷ [] → Fit (var_widths d) vs → held d state ≡ vs
held_is d state vs q is fits = ap (read_registers (var_widths d)) is ∙ read_front (var_widths d) vs (word state_width q ∷ []) (fit_length (var_widths d) vs fits)

point_is : (d : Design) (registers vs : List Word) (q : ℕ) → registers ≡ vs ++ word state_width q ∷ [] → Fit (var_widths d) vs → get_or registers (length d.vars) (word state_width 0) ≡ word state_width q
point_is d registers vs q is fits =
    ap (λ (rs : List Word). get_or rs (length d.vars) (word state_width 0)) is
    ∙ get_or_at vs (word state_width q) [] (word state_width 0) (length d.vars) (fit_length (var_widths d) vs fits ∙ length-map d.vars (λ (v : Var). v.width))

abbrev next_values : Design → List Statement → List Word → List Word → ℕ → List Word
next_values d body row vs q = all_assigned (flat_of d) (scene_of (flat_of d) (words_of vs) (nets_of (flat_of d) row)) (stretch body (rest_at q body)) vs

at_edge : (d : Design) (n : Parts) (body : List Statement) → Ticks d n body → AreFormal (var_widths d) (net_widths d) body → 1 ≤ waits body → (row : List Word) → IsRow (flat_of d) row
    → (r : Run) (p : Point) (vs : List Word) (q : ℕ) → At d body r p vs q → At d body (after_edge n row r) (edge (flat_of d) body (nets_of (flat_of d) row) p) (next_values d body row vs q) (next_point q body)
at_edge d n body ticks formal some row is_row r p vs q at =
    let s : Sources = record { inputs = driven row (heard n row (edge_start r)).agents; state = r.state } in
    let was : held d r.state ≡ vs = held_is d r.state vs q at.registers at.fits in
    let nets = nets_fit d row is_row in
    let statements = formal_stretch (var_widths d) (net_widths d) body (rest_at q body) formal (formal_rest (var_widths d) (net_widths d) q body formal) in
    record {
      registers =
          ticks.steps s q (point_is d r.state.registers vs q at.registers at.fits) at.within some
          ∙ ap (λ (ws : List Word). all_assigned (flat_of d) (scene_of (flat_of d) (words_of ws) (nets_of (flat_of d) row)) (stretch body (rest_at q body)) ws ++ word state_width (next_point q body) ∷ []) was;
      fits = (all_updates (flat_of d) (var_widths d) (net_widths d) vs (nets_of (flat_of d) row) (stretch body (rest_at q body)) vs refl at.fits nets statements at.fits).fits;
      store =
          ap (λ (store : Store). updated (flat_of d) (nets_of (flat_of d) row) store (stretch body p.rest)) at.store
          ∙ ap (λ (rest : List Statement). updated (flat_of d) (nets_of (flat_of d) row) (words_of vs) (stretch body rest)) at.rest
          ∙ updated_is (flat_of d) (var_widths d) (net_widths d) vs (nets_of (flat_of d) row) (stretch body (rest_at q body)) refl at.fits nets statements;
      rest = ap (onward body) at.rest ∙ onward_rest q body at.within some;
      within = next_within q body at.within some;
      agents = as_many n (settled n row r.state) 0 r.agents ∙ at.agents;
    }

-- what is seen of the edge
edge_seen : (d : Design) (n : Parts) (body : List Statement) → Ticks d n body → (row : List Word) (r : Run) (p : Point) (vs : List Word) (q : ℕ)
    → empties r.agents ≡ [] ∷ [] → At d body (after_edge n row r) p vs q → shown (at_rest n row 1 (after_edge n row r)) ≡ machine.seen (flat_of d) row p
edge_seen d n body ticks row r p vs q alone at =
    let calls : map (λ a. a.calls) (after_edge n row r).agents ≡ [] ∷ [] = heard_all n ticks.hosts (settled n row r.state) 0 r.agents ∙ alone in
    let pins : outputs n (settled n row (after_edge n row r).state) ≡ pins_seen (flat_of d) row p.store =
    ticks.pins (record { inputs = silent row; state = (after_edge n row r).state })
    ∙ ap (λ (ws : List Word). pins_seen (flat_of d) row (words_of ws)) (held_is d (after_edge n row r).state vs q at.registers at.fits)
    ∙ sym (ap (pins_seen (flat_of d) row) at.store) in
    ap (λ (cs : List (List Call)). record { calls = cs; ending = Rested 1 (outputs n (settled n row (after_edge n row r).state)) }) calls
    ∙ ap (λ (ws : List Word). record { calls = [] ∷ []; ending = Rested 1 ws }) pins

-- ---- all edges

rows_follow : (d : Design) (n : Parts) (body : List Statement) → Ticks d n body → AreFormal (var_widths d) (net_widths d) body → 1 ≤ waits body → (rows : List (List Word)) → All (IsRow (flat_of d)) rows
    → (r : Run) (p : Point) (vs : List Word) (q : ℕ) → At d body r p vs q → trace_within 1 n rows r ≡ Some (trace_of (flat_of d) body rows p)
rows_follow d n body ticks formal some [] are r p vs q at = refl
rows_follow d n body ticks formal some (row ∷ rows) are r p vs q at =
    let next = at_edge d n body ticks formal some row (are 0 row (omega arith)) r p vs q at in
    let s : Sources = record { inputs = driven row (heard n row (edge_start r)).agents; state = r.state } in
    let later = rows_follow d n body ticks formal some rows (λ k x lt. are (suc k) x (omega arith)) (after_edge n row r) (edge (flat_of d) body (nets_of (flat_of d) row) p) (next_values d body row vs q) (next_point q body) next in
    ap (option_and_then (λ e. after (trace_within 1 n rows) e e.ending)) (one_tick n row r (ticks.edges s))
    ∙ ap (option_map (λ t. shown (at_rest n row 1 (after_edge n row r)) ∷ t)) later
    ∙ ap (λ (x : Seen). Some (x ∷ trace_of (flat_of d) body rows (edge (flat_of d) body (nets_of (flat_of d) row) p)))
    (edge_seen d n body ticks row r (edge (flat_of d) body (nets_of (flat_of d) row) p) (next_values d body row vs q) (next_point q body) at.agents next)

-- ---- the start

starts_fit : (vs : List Var) → All IsVariable vs → Fit (map (λ v. v.width) vs) (map (λ v. v.start) vs)
starts_fit [] are = fit_none
starts_fit (v ∷ vs) are = let is = are 0 v (omega arith) in fit_more (record { width = is.start; below = is.fits }) (starts_fit vs (λ k x lt. are (suc k) x (omega arith)))

starts_stored : (vs : List Var) → All IsVariable vs → map (λ v. replicate (max 1 v.words) (start_word v)) vs ≡ words_of (map (λ v. v.start) vs)
starts_stored [] are = refl
starts_stored (v ∷ vs) are =
    let is = are 0 v (omega arith) in
    ap (λ (k : ℕ). replicate (max 1 k) (if k == 0 then v.start else word v.width 0) ∷ map (λ v. replicate (max 1 v.words) (start_word v)) vs) is.words
    ∙ ap (λ (xs : List (List Word)). (v.start ∷ []) ∷ xs) (starts_stored vs (λ k x lt. are (suc k) x (omega arith)))

started : (replies : List (List Reply)) → length replies ≡ 1 → empties (map agent_start replies) ≡ [] ∷ []
started [] e = absurd (omega arith)
started (r ∷ []) e = refl
started (r ∷ x ∷ replies) e = absurd (omega arith)

pub follows : (d : Design) (form : IsOfForm d) (n : Parts) (body : List Statement) → HasBody (flat_of d) body → Ticks d n body → AreFormal (var_widths d) (net_widths d) body → 1 ≤ waits body
    → (x : Stimulus) → IsStimulus (flat_of d) x → IsDesignTrace n x (trace_of (flat_of d) body x.rows (start_point (flat_of d) body))
follows d form n body has ticks formal some x is = (
  1,
  rows_follow d n body ticks formal some x.rows is.rows (run_start n x) (start_point (flat_of d) body) (map (λ v. v.start) d.vars) 0 (record {
    registers = ticks.registers;
    fits = starts_fit d.vars form.vars;
    store = starts_stored d.vars form.vars;
    rest = refl;
    within = omega arith;
    agents = started x.replies (is.replies ∙ ap (λ (ps : List FlatProc). length ps) has.is);
  }),
)
