-- What a tick answers, and what it leaves. All of it is this project's own.
use Rattle.std.specs.Prelude.{ℕ, Bool, true, false, not, ◌&&◌, List, Option, Some, None, is_some, if◌then◌else◌}
use Rattle.std.specs.List.{enumerate_from, list_any}
use Rattle.xt_bits.specs.Word.{Word}
use Rattle.nt_core.specs.Parts.{Parts}
use Rattle.nt_core.specs.Tick.{tick_values, next}
use Rattle.nt_core.specs.Ports.{edge_up, request_up, function_number}
use Rattle.nt_run.specs.declared.ends.TickEnd.{TickEnd}
use Rattle.nt_run.specs.declared.ends.TickEnd.TheVariants.{Ticked, Waiting, EdgeDone, Stalled}
use Rattle.nt_run.specs.Acknowledged.{Acknowledged, reply_to, driven_by}
use Rattle.nt_run.specs.Machine.{Machine, settled_values}

-- the number of the function that a host asks for, if its request is up
abbrev pub requested : Parts → List Word → ℕ → Option ℕ
requested n vs host = if request_up n vs host then Some (function_number n vs host) else None

-- some host's request is up
abbrev pub has_request : Parts → List Word → Bool
has_request n vs = list_any (λ h. request_up n vs h.0) (enumerate_from 0 n.hosts)

-- some host's request is up, and isn't acknowledged
abbrev pub has_unanswered : Parts → List Word → Acknowledged → Bool
has_unanswered n vs a = list_any (λ h. request_up n vs h.0 && not (is_some (reply_to a h.1.process))) (enumerate_from 0 n.hosts)

-- no tick can be made: it isn't an edge's first, and no request is up
abbrev pub is_stalled : Machine → Bool
is_stalled m = m.is_begun && not (has_request m.design (settled_values m))

-- the values of the nodes in a tick
abbrev pub values_in_tick : Machine → Acknowledged → List Word
values_in_tick m a = tick_values m.design (driven_by m.row a) m.state

-- how a tick ends that is made
abbrev pub made_end : Bool → Bool → TickEnd
made_end is_done is_unanswered = if is_done then EdgeDone else (if is_unanswered then Waiting else Ticked)

-- how a tick ends; requests are those of the settling before it
abbrev pub tick_end : Machine → Acknowledged → TickEnd
tick_end m a =
    if is_stalled m then Stalled
    else made_end (edge_up m.design (values_in_tick m a)) (has_unanswered m.design (settled_values m) a)

-- the machine after a tick that is made: an edge that is done makes the next tick an edge's first
abbrev pub ticked : Machine → Acknowledged → Machine
ticked m a = record m {
  state = next m.design (values_in_tick m a) m.state;
  is_begun = not (edge_up m.design (values_in_tick m a));
  is_settled = false;
}

-- the machine after a call of tick: where it stalls it has settled, and nothing else has changed
abbrev pub after_tick : Machine → Acknowledged → Machine
after_tick m a = if is_stalled m then record m { is_settled = true } else ticked m a
