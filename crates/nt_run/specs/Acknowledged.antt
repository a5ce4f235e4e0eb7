-- What a host acknowledges in a tick. All of it is this project's own.
use Rattle.std.specs.Prelude.{ℕ, Bool, not, List, [], map, take, length, replicate, slice_index, slice_set, get_or, Option, Some, None, is_some, unwrap_or}
use Rattle.std.specs.List.{list_any}
use Rattle.xt_bits.specs.Word.{Word}
use Rattle.nt_core.specs.Parts.{Parts}
use Rattle.nt_core.specs.Sources.{Inputs}
use Rattle.nt_run.specs.declared.TheConstants.{MAX_ITEMS}

-- the process of each host, by its place; and for each process the items with which its request is acknowledged, if it is
pub record Acknowledged : Type 0 where
  pub processes : List ℕ
  pub replies : List (Option (List ℕ))

-- no host, and so nothing acknowledged
abbrev pub silence : Acknowledged
silence = record { processes = []; replies = [] }

-- the hosts of a design, with nothing acknowledged
abbrev pub unacknowledged : Parts → Acknowledged
unacknowledged n = record { processes = map (λ h. h.process) n.hosts; replies = replicate n.processes None }

-- the same hosts, with nothing acknowledged
abbrev pub cleared : Acknowledged → Acknowledged
cleared a = record a { replies = replicate (length a.replies) None }

-- the request of the host at a place is acknowledged with these items; none past the sixteenth has a pin
abbrev pub acknowledged : Acknowledged → ℕ → List ℕ → Acknowledged
acknowledged a host items = record a { replies = slice_set a.replies (slice_index a.processes host) (Some (take MAX_ITEMS items)) }

-- the reply to a process, if its request is acknowledged
abbrev pub reply_to : Acknowledged → ℕ → Option (List ℕ)
reply_to a p = get_or a.replies p None

-- nothing is acknowledged
abbrev pub is_quiet : Acknowledged → Bool
is_quiet a = not (list_any is_some a.replies)

-- what stands on the input pins in a tick with this row
abbrev pub driven_by : List Word → Acknowledged → Inputs
driven_by row a = record { row = row; acks = map is_some a.replies; items = map (λ r. unwrap_or r []) a.replies }
