-- What the compiler takes today: a flat design of one process of waits and of nonblocking assignments of sums. All of it is this project's own.
use Rattle.std.specs.Prelude.{◌≡◌, ◌≢◌, ◌<◌, ◌^◌, ℕ, true, false, List, [], ◌∷◌, ◌++◌, map, length, slice_get, Some, None, IsSomeAnd, All, AllPairs}
use Rattle.el_design.specs.declared.designs.Design.{Design}
use Rattle.el_design.specs.declared.designs.Net.{Net}
use Rattle.el_design.specs.declared.designs.Proc.{Proc}
use Rattle.el_design.specs.declared.designs.Source.{Source}
use Rattle.el_design.specs.declared.designs.Source.TheVariants as sources
use Rattle.el_design.specs.declared.designs.Var.{Var}
use Rattle.el_design.specs.declared.expressions.BinOp.TheVariants as binary
use Rattle.el_design.specs.Plain.{Expr, Number, NetValue, Variable, Binary, ToVariable, Statement, Skip, Seq, Block, Wait, Assign}
use Rattle.el_design.specs.View.{statement_of}
use Rattle.nt_core.specs.Forms.{IsWidth}
use Rattle.nt_core.specs.Conditions.{IsPin}
use Rattle.xt_compile.specs.Hardware.{input_pins, output_pins}

-- the widths of the variables and of the nets, in bits
abbrev pub var_widths : Design → List ℕ
var_widths d = map (λ v. v.width) d.vars

abbrev pub net_widths : Design → List ℕ
net_widths d = map (λ n. n.width) d.nets

-- ---- the pins

-- what an output pin shows is there
abbrev pub IsThere : Design → Source → Type 0
IsThere d (sources.Var v) = v < length d.vars
IsThere d (sources.Net n) = n < length d.nets

-- ---- the process

-- all of an expression is a sum of one width, over variables and nets of these widths
abbrev pub IsSumOf : List ℕ → List ℕ → ℕ → Expr → Type 0
IsSumOf vars nets w (Number s k) = (k.width ≡ w) × (k.value < 2 ^ w)
IsSumOf vars nets w (NetValue s n) = slice_get nets n ≡ Some w
IsSumOf vars nets w (Variable s v) = slice_get vars v ≡ Some w
IsSumOf vars nets w (Binary s binary.Add a b) = IsSumOf vars nets w a × IsSumOf vars nets w b
IsSumOf vars nets w e = ⊥

-- a statement is a wait for the rising edge, or a nonblocking assignment of such a sum to a variable of its width
abbrev pub IsStatement : List ℕ → List ℕ → Statement → Type 0
IsStatement vars nets (Wait at false) = Unit {0}
IsStatement vars nets (Assign at (ToVariable v) e true) = IsSomeAnd (slice_get vars v) (λ w. IsSumOf vars nets w e)
IsStatement vars nets s = ⊥

-- a list of such statements
abbrev pub AreStatements : List ℕ → List ℕ → Statement → Type 0
AreStatements vars nets Skip = Unit {0}
AreStatements vars nets (Seq a b) = IsStatement vars nets a × AreStatements vars nets b
AreStatements vars nets s = ⊥

-- an unnamed block of such statements
abbrev pub IsBody : List ℕ → List ℕ → Statement → Type 0
IsBody vars nets (Block at None s) = AreStatements vars nets s
IsBody vars nets s = ⊥

-- an `always` with such a body
pub record IsProcess (vars nets : List ℕ) (p : Proc) : Type 0 where
  pub always : p.always ≡ true
  pub body : IsBody vars nets (statement_of p.body)

-- a variable is no memory, and its start value fits it
pub record IsVariable (v : Var) : Type 0 where
  pub width : IsWidth v.width
  pub words : v.words ≡ 0
  pub start : v.start.width ≡ v.width
  pub fits : v.start.value < 2 ^ v.width

-- a net has no expression
pub record IsInput (n : Net) : Type 0 where
  pub width : IsWidth n.width
  pub value : n.value ≡ None

-- ---- all of it

pub record IsOfForm (d : Design) : Type 0 where
  pub vars : All IsVariable d.vars
  pub nets : All IsInput d.nets
  pub process : Proc
  pub one : d.procs ≡ process ∷ []
  pub steps : IsProcess (var_widths d) (net_widths d) process
  pub inputs : All (λ n. n < length d.nets) d.inputs
  pub outputs : All (λ p. IsThere d p.from) d.outputs
  pub named_inputs : All IsPin (input_pins d)
  pub named_outputs : All IsPin (output_pins d)
  pub distinct : AllPairs (λ a b. a.name ≢ b.name) (input_pins d ++ output_pins d)
