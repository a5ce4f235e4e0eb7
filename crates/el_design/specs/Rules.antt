-- The rules that a flat design keeps, each with the place of a break. All of it is this project's own.
use Rattle.std.specs.Prelude.{◌≡◌, ◌≢◌, ◌+◌, ◌*◌, ◌<◌, ℕ, suc, true, List, [], Some, Contains, map, sum, length, slice_get}
use Rattle.xt_base.specs.declared.refusals.Place.{Place}
use Rattle.xt_base.specs.declared.refusals.Refusal.{Refusal}
use Rattle.el_design.specs.declared.designs.Var.{Var}
use Rattle.el_design.specs.Plain.{Expr, Statement, FlatNet, FlatProc, Flat}
use Rattle.el_design.specs.Names.{calls_in, place_of_statement}
use Rattle.el_design.specs.InPlace.{LoopAt}
use Rattle.el_design.specs.Turns.{HasBound, HasTurns, IsEndlessFor, body_of}
use Rattle.el_design.specs.Walk.{HasWalk}
use Rattle.el_design.specs.Touches.{WritesBlocking, WritesNonblocking, Writes, Reads, ReadsNet, Reaches, DependsOn}
use Rattle.el_design.specs.Sizes.{once, CountsTurns, CountsStops, u_of, s_of, nets_size}
use Rattle.el_design.specs.Calls.{IsImpure, IsRecursive, HasMisfit, DisablesWrongly, CallsHostInside, Chain, FunctionOf, BodyIs}

-- ---- limits: of a process's U and S, of the sums over processes and over nets, of the turns of an unrolled loop, and of enables and calls in one another

abbrev pub max_u : ℕ
max_u = 20000

abbrev pub max_s : ℕ
max_s = 512

abbrev pub max_products : ℕ
max_products = 500000

abbrev pub max_nets_size : ℕ
max_nets_size = 500000

abbrev pub max_turns : ℕ
max_turns = 1024

-- each loop counted as often as an unrolled one may count
abbrev pub most_turns : List ℕ → Statement → ℕ
most_turns marks s = suc max_turns

abbrev pub max_nesting : ℕ
max_nesting = 64

-- ---- nesting and sizes in place, each loop's body counted once (rule 82)

pub data NestsTooDeep (d : Flat) : Place → Type 0 where
  process_nests : {process : FlatProc} → Contains d.procs process → Chain d (max_nesting + 1) process.body → NestsTooDeep d process.place
  net_nests : {f : ℕ} {net : FlatNet} {e : Expr} {body : Statement} →
      Contains d.nets net → net.value ≡ Some e → Contains (calls_in e) f → BodyIs d (FunctionOf f) body → Chain d max_nesting body → NestsTooDeep d net.place
  process_large : {process : FlatProc} → Contains d.procs process → max_u < u_of d once process → NestsTooDeep d process.place

-- ---- walks (rules 61 and 83)

-- a loop that isn't of constant bound has a walk from its body's start to its end without a clock wait; an `always` is such a loop
pub data SpinsAt (d : Flat) : Place → Type 0 where
  loop_spins : {marks : List ℕ} {x body : Statement} →
      LoopAt d marks x → body_of x ≡ Some body → (HasBound d x → ⊥) → HasWalk d marks body → SpinsAt d (place_of_statement x)
  always_spins : {process : FlatProc} →
      Contains d.procs process → process.always ≡ true → HasWalk d [] process.body → SpinsAt d process.place

-- a loop of constant bound has such a walk and takes too many turns
pub data TurnsTooOften (d : Flat) : Place → Type 0 where
  too_many : {marks : List ℕ} {x body : Statement} {n : ℕ} →
      LoopAt d marks x → body_of x ≡ Some body → HasTurns d x n → max_turns < n → HasWalk d marks body → TurnsTooOften d (place_of_statement x)
  without_end : {marks : List ℕ} {x body : Statement} →
      LoopAt d marks x → body_of x ≡ Some body → IsEndlessFor d x → HasWalk d marks body → TurnsTooOften d (place_of_statement x)

-- ---- sizes (rule 84)

abbrev pub products : Flat → (List ℕ → Statement → ℕ) → (List ℕ → Statement → ℕ) → ℕ
products d times often = sum (map (λ p. s_of d often p * u_of d times p) d.procs)

pub data IsTooLarge (d : Flat) : Place → Type 0 where
  large_u : {process : FlatProc} (times : List ℕ → Statement → ℕ) →
      CountsTurns d times → Contains d.procs process → max_u < u_of d times process → IsTooLarge d process.place
  large_s : {process : FlatProc} (often : List ℕ → Statement → ℕ) →
      CountsStops d often → Contains d.procs process → max_s < s_of d often process → IsTooLarge d process.place
  large_products : (times often : List ℕ → Statement → ℕ) →
      CountsTurns d times → CountsStops d often → max_products < products d times often → IsTooLarge d d.head
  large_nets : (times : List ℕ → Statement → ℕ) → CountsTurns d times → max_nets_size < nets_size d times → IsTooLarge d d.head

-- ---- races (rules 70, 71 and 72) and loops of nets (rule 73)

pub data TwoWriters (d : Flat) : Place → Type 0 where
  two_write : {p q v : ℕ} {var : Var} → slice_get d.vars v ≡ Some var → p ≢ q → Writes d p v → Writes d q v → TwoWriters d var.place

pub data WrittenBothWays (d : Flat) : Place → Type 0 where
  both_ways : {p v : ℕ} {var : Var} → slice_get d.vars v ≡ Some var → WritesBlocking d p v → WritesNonblocking d p v → WrittenBothWays d var.place

pub data ReadAcross (d : Flat) : Place → Type 0 where
  variable_across : {p q v : ℕ} {var : Var} → slice_get d.vars v ≡ Some var → WritesBlocking d p v → q ≢ p → Reads d q v → ReadAcross d var.place
  net_across : {p q v n : ℕ} {net : FlatNet} → slice_get d.nets n ≡ Some net → WritesBlocking d p v → Reaches d n v → ReadsNet d q n → ReadAcross d net.place

pub data NetsInCircle (d : Flat) : Place → Type 0 where
  circle : {n : ℕ} {net : FlatNet} → slice_get d.nets n ≡ Some net → DependsOn d n n → NetsInCircle d net.place

-- ---- all of them, by pass and number

abbrev pub IsFinite : Flat → Type 0
IsFinite d = (at : Place) → IsRecursive d at → ⊥

pub data Breaks (d : Flat) : ℕ → ℕ → Place → Type 0 where
  impure : {at : Place} → IsImpure d at → Breaks d 11 50 at
  recursive : {at : Place} → IsRecursive d at → Breaks d 11 51 at
  misfit : {at : Place} → HasMisfit d at → Breaks d 11 52 at
  -- what is in place is asked only where it is finite
  disables : {at : Place} → IsFinite d → DisablesWrongly d at → Breaks d 11 53 at
  host_inside : {at : Place} → IsFinite d → CallsHostInside d at → Breaks d 11 62 at
  nested : {at : Place} → IsFinite d → NestsTooDeep d at → Breaks d 11 82 at
  spins : {at : Place} → SpinsAt d at → Breaks d 12 61 at
  turns : {at : Place} → TurnsTooOften d at → Breaks d 12 83 at
  too_large : {at : Place} → IsTooLarge d at → Breaks d 13 84 at
  two_writers : {at : Place} → TwoWriters d at → Breaks d 14 70 at
  both_kinds : {at : Place} → WrittenBothWays d at → Breaks d 14 71 at
  across : {at : Place} → ReadAcross d at → Breaks d 14 72 at
  nets_circle : {at : Place} → NetsInCircle d at → Breaks d 15 73 at

-- a break of a pass, as it is named: the order of breaks is that of all passes
abbrev pub IsBroken : Flat → ℕ → Refusal → Type 0
IsBroken d pass r = Breaks d pass r.rule.0 r.place

-- no rule of an earlier pass is broken
abbrev pub IsCleanBefore : Flat → ℕ → Type 0
IsCleanBefore d pass = (other rule : ℕ) (at : Place) → other < pass → Breaks d other rule at → ⊥

-- no rule of these passes is broken
abbrev pub IsClean : Flat → Type 0
IsClean d = (pass rule : ℕ) (at : Place) → Breaks d pass rule at → ⊥

-- the order of nets: each once, after the nets that its expression names
pub record IsOrder (d : Flat) (order : List ℕ) : Type 0 where
  pub each : (n : ℕ) → n < length d.nets → Contains order n
  pub size : length order ≡ length d.nets
  pub after : (i n m : ℕ) → slice_get order i ≡ Some n → DependsOn d n m → (j : ℕ) × (j < i) × (slice_get order j ≡ Some m)
