-- The flat design as plain data: what the definitions of this crate recurse on. `View` says how a design stands for it. This form is this project's own.
use Rattle.std.specs.Prelude.{ℕ, Bool, List, Option}
use Rattle.xt_base.specs.declared.refusals.Place.{Place}
use Rattle.xt_bits.specs.Word.{Word}
use Rattle.el_design.specs.declared.expressions.UnOp.{UnOp}
use Rattle.el_design.specs.declared.expressions.BinOp.{BinOp}
use Rattle.el_design.specs.declared.designs.Var.{Var}
use Rattle.el_design.specs.declared.designs.Import.{Import}
use Rattle.el_design.specs.declared.designs.Pin.{Pin}

-- the width in bits and the sign of an expression
pub record Shape : Type 0 where
  pub width : ℕ
  pub signed : Bool

mutual
  -- an expression (IEEE 1364-2005, clause 5); things are named by their numbers. A `Select` ends with the number of the lowest bit of what it is taken of, as declared.
  pub data Expr : Type 0 where
    Number : Shape → Word → Expr
    NetValue : Shape → ℕ → Expr
    Variable : Shape → ℕ → Expr
    MemoryWord : Shape → ℕ → Expr → Expr
    Select : Shape → Expr → Range → ℕ → Expr
    Unary : Shape → UnOp → Expr → Expr
    Binary : Shape → BinOp → Expr → Expr → Expr
    Choice : Shape → Expr → Expr → Expr → Expr
    Concat : Shape → Exprs → Expr
    Copies : Shape → ℕ → Expr → Expr
    Sign : Shape → Expr → Expr
    Resize : Shape → Expr → Expr
    Call : Shape → ℕ → Exprs → Expr

  pub data Exprs : Type 0 where
    NoExpr : Exprs
    More : Expr → Exprs → Exprs

  -- the bits that a select takes: `[e]`, `[high:low]`, `[e +: width]`, `[e -: width]` (IEEE 1364-2005, 5.2.1)
  pub data Range : Type 0 where
    Bit : Expr → Range
    Part : ℕ → ℕ → Range
    Up : Expr → ℕ → Range
    Down : Expr → ℕ → Range

-- where a value is stored: a concatenation is `Both` of its first part and the others, and `Nowhere` ends it
pub data Lvalue : Type 0 where
  ToVariable : ℕ → Lvalue
  ToPart : ℕ → Range → Lvalue
  ToWord : ℕ → Expr → Lvalue
  ToWordPart : ℕ → Expr → Range → Lvalue
  Both : Lvalue → Lvalue → Lvalue
  Nowhere : Lvalue

-- a statement (IEEE 1364-2005, clauses 9 and 10; a host call is this project's own). A list of statements is `Seq` of its first and the others, and `Skip` ends it.
-- The arms of a `case` are `Arm on labels body others`, and the default ends them; `on` is the expression of the `case` again.
pub data Statement : Type 0 where
  Null : Statement
  Skip : Statement
  Seq : Statement → Statement → Statement
  Block : Place → Option ℕ → Statement → Statement
  Assign : Place → Lvalue → Expr → Bool → Statement
  If : Place → Expr → Statement → Statement → Statement
  Case : Place → Expr → Statement → Statement
  Arm : Expr → List Expr → Statement → Statement → Statement
  For : Place → ℕ → Expr → Expr → Expr → Statement → Statement
  While : Place → Expr → Statement → Statement
  Repeat : Place → Expr → Statement → Statement
  Forever : Place → Statement → Statement
  Wait : Place → Bool → Statement
  Enable : Place → ℕ → List Expr → List Lvalue → Statement
  Disable : Place → ℕ → Statement
  Host : Place → ℕ → List Expr → Option Lvalue → List Lvalue → Statement

pub record FlatNet : Type 0 where
  pub width : ℕ
  pub signed : Bool
  pub lsb : ℕ
  pub value : Option Expr
  pub place : Place

pub record FlatTask : Type 0 where
  pub mark : ℕ
  pub ins : List ℕ
  pub outs : List ℕ
  pub body : Statement

pub record FlatFunc : Type 0 where
  pub ins : List ℕ
  pub locals : List ℕ
  pub result : ℕ
  pub body : Statement

pub record FlatProc : Type 0 where
  pub always : Bool
  pub body : Statement
  pub place : Place

pub record Flat : Type 0 where
  pub vars : List Var
  pub nets : List FlatNet
  pub tasks : List FlatTask
  pub funcs : List FlatFunc
  pub imports : List Import
  pub procs : List FlatProc
  pub marks : ℕ
  pub inputs : List ℕ
  pub outputs : List Pin
  pub head : Place
