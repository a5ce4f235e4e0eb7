-- The host's side of a written design's run: which requests are new, what is recorded and drawn, and when a request is acknowledged. All of it is this project's own.
use Rattle.std.specs.Prelude.{ℕ, ◌+◌, nat_le, Bool, true, false, not, List, [], ◌∷◌, ◌++◌, map, drop, Option, Some, None, is_some, unwrap_or, slice_get, if◌then◌else◌}
use Rattle.std.specs.List.{enumerate_from, list_any}
use Rattle.xt_bits.specs.Word.{Word}
use Rattle.nt_core.specs.Parts.{Parts}
use Rattle.nt_core.specs.Sources.{Inputs}
use Rattle.nt_core.specs.Ports.{process_request}
use Rattle.xt_bits.specs.Stimulus.{Reply}
use Rattle.xt_bits.specs.Trace.{Call, Ending, Starved, Stalled}

-- how a process's request stands before a tick: it wasn't up at the tick before, or was acknowledged there; or it has been up for so many ticks, with the reply that was drawn for it, if one was left
pub data Standing : Type 0 where
  Free : Standing
  Asking : Option Reply → ℕ → Standing

-- a process as its host sees it: its request, the replies not drawn yet, and this edge's calls
pub record Agent : Type 0 where
  pub standing : Standing
  pub left : List Reply
  pub calls : List Call

-- ---- before a tick

-- a request that is up: a new one is recorded, and draws the next reply
abbrev pub hear_call : Call → Standing → Agent → Agent
hear_call call Free a = record { standing = Asking (slice_get a.left 0) 0; left = drop 1 a.left; calls = a.calls ++ call ∷ [] }
hear_call call (Asking reply ticks) a = a

-- what a process asks for before a tick, if it asks; a request that is down is forgotten, with its reply
abbrev pub hear : Option Call → Agent → Agent
hear None a = record a { standing = Free }
hear (Some call) a = hear_call call a.standing a

-- all processes, over the values of a settling
abbrev pub listen : Parts → List Word → List Agent → List Agent
listen n vs agents = map (λ a. hear (process_request n vs a.0) a.1) (enumerate_from 0 agents)

-- the request is up
abbrev pub is_asking : Standing → Bool
is_asking Free = false
is_asking (Asking reply ticks) = true

-- the request is up, and has a reply
abbrev pub has_reply : Standing → Bool
has_reply Free = false
has_reply (Asking reply ticks) = is_some reply

-- why no tick is made that isn't an edge's first: no request is up, or each that is up is without a reply
abbrev pub halt : List Agent → Option Ending
halt agents =
    if not (list_any (λ a. is_asking a.standing) agents) then Some Stalled
    else (if not (list_any (λ a. has_reply a.standing) agents) then Some Starved else None)

-- ---- in a tick

-- the items with which a request is acknowledged in this tick: those of its reply, once it has been up for the reply's ticks
abbrev pub reply_due : Option Reply → ℕ → Option (List ℕ)
reply_due None ticks = None
reply_due (Some reply) ticks = if nat_le reply.wait ticks then Some reply.items else None

-- the same, by how the request stands
abbrev pub due : Standing → Option (List ℕ)
due Free = None
due (Asking reply ticks) = reply_due reply ticks

-- what stands on the pins; items stand there in the tick of their acknowledgement alone
abbrev pub driven : List Word → List Agent → Inputs
driven row agents = record {
  row = row;
  acks = map (λ a. is_some (due a.standing)) agents;
  items = map (λ a. unwrap_or (due a.standing) []) agents;
}

-- ---- after a tick

-- a request that was acknowledged is free again, and any other that is up has been so for a tick more
abbrev pub passed : Standing → Standing
passed Free = Free
passed (Asking reply ticks) = if is_some (reply_due reply ticks) then Free else Asking reply (ticks + 1)

-- and so for a process
abbrev pub pass : Agent → Agent
pass a = record a { standing = passed a.standing }
