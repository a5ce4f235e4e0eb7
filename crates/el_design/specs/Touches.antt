-- What a process reads and writes in place. All of it is this project's own.
use Rattle.std.specs.Prelude.{◌≡◌, ℕ, true, List, [], ◌++◌, Some, Contains, flat_map, slice_get}
use Rattle.el_design.specs.Plain.{Expr, Statement, Assign, FlatNet, Flat}
use Rattle.el_design.specs.Names.{variables_in, nets_in, own_targets, own_expressions, target_variables}
use Rattle.el_design.specs.InPlace.{HasInPlace}
use Rattle.el_design.specs.Turns.{formals_in, outputs_in}

-- the variables that a statement itself writes by blocking assignment: results and outputs, input formals at the enable and output arguments at the return are written so
abbrev pub blocking_writes : Flat → Statement → List ℕ
blocking_writes d (Assign at to e true) = []
blocking_writes d x = formals_in d x ++ flat_map target_variables (own_targets x)

-- and by nonblocking assignment
abbrev pub nonblocking_writes : Statement → List ℕ
nonblocking_writes (Assign at to e true) = target_variables to
nonblocking_writes x = []

-- a process writes a variable by blocking assignment, in place
pub data WritesBlocking (d : Flat) (p v : ℕ) : Type 0 where
  writes_blocking : {x : Statement} → HasInPlace d p x → Contains (blocking_writes d x) v → WritesBlocking d p v

pub data WritesNonblocking (d : Flat) (p v : ℕ) : Type 0 where
  writes_nonblocking : {x : Statement} → HasInPlace d p x → Contains (nonblocking_writes x) v → WritesNonblocking d p v

pub data Writes (d : Flat) (p v : ℕ) : Type 0 where
  by_blocking : WritesBlocking d p v → Writes d p v
  by_nonblocking : WritesNonblocking d p v → Writes d p v

-- the variables that a statement itself reads: its expressions and indexes name them, and output formals are read at the return
abbrev pub read_by : Flat → Statement → List ℕ
read_by d x = flat_map variables_in (own_expressions x) ++ outputs_in d x

-- a process reads a variable in place. A function's formals and locals count for nobody.
pub data Reads (d : Flat) (p v : ℕ) : Type 0 where
  reads : {x : Statement} → HasInPlace d p x → Contains (read_by d x) v → Reads d p v

pub data ReadsNet (d : Flat) (p n : ℕ) : Type 0 where
  reads_net : {x : Statement} → HasInPlace d p x → Contains (flat_map nets_in (own_expressions x)) n → ReadsNet d p n

-- a net's expression is this
pub record NetIs (d : Flat) (n : ℕ) (e : Expr) : Type 0 where
  pub net : FlatNet
  pub is : slice_get d.nets n ≡ Some net
  pub value : net.value ≡ Some e

-- a net reaches a variable: its expression names it, or a net that reaches it
pub data Reaches (d : Flat) : ℕ → ℕ → Type 0 where
  names_it : {n v : ℕ} {e : Expr} → NetIs d n e → Contains (variables_in e) v → Reaches d n v
  through : {n m v : ℕ} {e : Expr} → NetIs d n e → Contains (nets_in e) m → Reaches d m v → Reaches d n v

-- a net's value depends on another's through nets
pub data DependsOn (d : Flat) : ℕ → ℕ → Type 0 where
  depends : {n m : ℕ} {e : Expr} → NetIs d n e → Contains (nets_in e) m → DependsOn d n m
  depends_through : {n m k : ℕ} {e : Expr} → NetIs d n e → Contains (nets_in e) m → DependsOn d m k → DependsOn d n k
