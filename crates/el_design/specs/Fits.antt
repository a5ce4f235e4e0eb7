-- What fits a design: stores, values of nets, and the states of a run. What fits a sound design goes on to fit it. All of it is this project's own.
use Rattle.std.specs.Prelude.{◌≡◌, ◌^◌, ◌<◌, ℕ, max, List, ◌++◌, Some, All, length, slice_get}
use Rattle.xt_bits.specs.Word.{Word}
use Rattle.el_design.specs.declared.designs.Var.{Var}
use Rattle.el_design.specs.Plain.{Expr, Lvalue, Statement, FlatNet, Flat}
use Rattle.el_design.specs.Store.{Store, Spot, Whole, Within, Write, spot_width}
use Rattle.el_design.specs.Value.{Scene}
use Rattle.el_design.specs.Names.{nodes_of, target_indexes, listed}
use Rattle.el_design.specs.InPlace.{Holds}
use Rattle.el_design.specs.Sound.{IsNode, IsPlainVariable, IsOutput, IsStatement}
use Rattle.el_design.specs.Stack.{Work, Do, End, Return, Test, Step, Turns, Await}
use Rattle.el_design.specs.Act.{Process}
use Rattle.el_design.specs.Queue.{Config}
use Rattle.el_design.specs.Run.{IsRow}

-- ---- values

-- a word of so many bits
abbrev pub IsWordOf : ℕ → Word → Type 0
IsWordOf w x = (x.width ≡ w) × (x.value < 2 ^ w)

-- a memory has all its words, any other variable one, and each has the variable's width
pub record FitsVariable (var : Var) (words : List Word) : Type 0 where
  pub size : length words ≡ max 1 var.words
  pub wide : All (IsWordOf var.width) words

-- each variable of the design stands in the store
abbrev pub FitsStore : Flat → Store → Type 0
FitsStore d store = (v : ℕ) (var : Var) → slice_get d.vars v ≡ Some var → (words : List Word) × (slice_get store v ≡ Some words) × FitsVariable var words

-- each value of a net that there is has the net's width
abbrev pub FitNets : Flat → List Word → Type 0
FitNets d nets = (n : ℕ) (net : FlatNet) (x : Word) → slice_get d.nets n ≡ Some net → slice_get nets n ≡ Some x → IsWordOf net.width x

-- what expressions are evaluated in
abbrev pub FitsScene : Flat → Scene → Type 0
FitsScene d s = FitsStore d s.store × FitNets d s.nets

-- the nodes of an expression are well made
abbrev pub IsWellMade : Flat → Expr → Type 0
IsWellMade d e = All (IsNode d) (nodes_of e)

-- ---- writes

abbrev pub IsDeclared : Flat → ℕ → Type 0
IsDeclared d v = (var : Var) × (slice_get d.vars v ≡ Some var)

-- a variable that there is, and where a whole word is meant, its width
abbrev pub FitsSpot : Flat → Spot → Type 0
FitsSpot d (Whole v place w) = (var : Var) × (slice_get d.vars v ≡ Some var) × (var.width ≡ w)
FitsSpot d (Within v place low w) = IsDeclared d v

abbrev pub FitsWrite : Flat → Write → Type 0
FitsWrite d x = FitsSpot d x.spot × IsWordOf (spot_width x.spot) x.bits

-- ---- work and processes

-- a statement is sound, with all that stand in it
abbrev pub IsSoundText : Flat → Statement → Type 0
IsSoundText d s = (x : Statement) → Holds s x → IsStatement d x

-- a target of a width in range, or what stands for an output argument that can't be stored to, with well made indexes
abbrev pub FitsOutput : Flat → Lvalue → Type 0
FitsOutput d t = IsOutput d t × All (IsWellMade d) (target_indexes t)

-- the rest of a `for`: its variable is no memory, its test and its step are well made, and its body is sound
abbrev pub FitsLoop : Flat → ℕ → Expr → Expr → Statement → Type 0
FitsLoop d v test next body = ((w : ℕ) × IsPlainVariable d v w) × IsWellMade d test × IsWellMade d next × IsSoundText d body

-- work that is left of sound statements, with the targets that are still to be stored to
abbrev pub FitsWork : Flat → Work → Type 0
FitsWork d (Do s) = IsSoundText d s
FitsWork d (End m) = Unit {0}
FitsWork d (Return at m outs) = All (λ x. IsDeclared d x.0 × FitsOutput d x.1) outs
FitsWork d (Test at v test next body) = FitsLoop d v test next body
FitsWork d (Step at v test next body) = FitsLoop d v test next body
FitsWork d (Turns at left body) = IsSoundText d body
FitsWork d (Await at f result outs) = All (FitsOutput d) (listed result ++ outs)

-- its work and its updates fit
pub record FitsProcess (d : Flat) (p : Process) : Type 0 where
  pub work : All (FitsWork d) p.stack
  pub updates : All (All (FitsWrite d)) p.updates

-- ---- states of a run

pub record FitsConfig (d : Flat) (c : Config) : Type 0 where
  pub row : IsRow d c.row
  pub store : FitsStore d c.store
  pub variables : length c.store ≡ length d.vars
  pub nets : FitNets d c.nets
  pub size : length c.nets ≡ length d.nets
  pub procs : All (FitsProcess d) c.procs
  pub each : length c.procs ≡ length d.procs
