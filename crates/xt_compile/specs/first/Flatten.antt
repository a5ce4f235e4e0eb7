-- The flat design of a source of the form that is read today (IEEE 1364-2005, 12.1 and 12.3: a module with its ports). Numbers of things are this project's own.
use Rattle.std.specs.Prelude.{ℕ, suc, List, [], ◌∷◌, map, fold, length, None, false, true}
use Rattle.std.specs.List.{enumerate_from}
use Rattle.xt_base.specs.declared.refusals.Place.{Place}
use Rattle.xt_bits.specs.Word.{word}
use Rattle.el_design.specs.declared.designs.Design.{Design}
use Rattle.el_design.specs.declared.designs.Net.{Net}
use Rattle.el_design.specs.declared.designs.Pin.{Pin}
use Rattle.el_design.specs.declared.designs.Proc.{Proc}
use Rattle.el_design.specs.declared.designs.Var.{Var}
use Rattle.el_design.specs.declared.designs.Source.TheVariants as pins
use Rattle.el_design.specs.declared.expressions.BinOp.TheVariants as binary
use Rattle.el_design.specs.declared.expressions.Kind.{Kind}
use Rattle.el_design.specs.declared.expressions.Kind as kinds
use Rattle.el_design.specs.declared.expressions.TExpr.{TExpr}
use Rattle.el_design.specs.declared.expressions.Target as targets
use Rattle.el_design.specs.declared.statements.Stmt.{Stmt}
use Rattle.el_design.specs.declared.statements.Stmt as stmts
use Rattle.el_design.specs.Queue.{numbers_from}
use Rattle.xt_compile.specs.declared.first.source.Source.{Source}
use Rattle.xt_compile.specs.declared.first.source.Port.{Port}
use Rattle.xt_compile.specs.declared.first.source.Sum.{Sum}
use Rattle.xt_compile.specs.declared.first.source.Term.{Term}
use Rattle.xt_compile.specs.declared.first.source.Term.TheVariants.{Input, Output, Number}
use Rattle.xt_compile.specs.declared.first.source.Step.{Step}
use Rattle.xt_compile.specs.declared.first.source.Step.TheVariants.{Wait, Assign}

-- an output is a variable that starts at 0
abbrev pub var_of : Port → Var
var_of p = record { name = p.name; width = p.width; signed = false; lsb = 0; words = 0; low = 0; start = word p.width 0; place = p.place }

-- an input is a net without an expression
abbrev pub net_of : List ℕ → ℕ → Place → Net
net_of name width place = record { name = name; width = width; signed = false; lsb = 0; value = None; place = place }

abbrev pub input_of : Port → Net
input_of p = net_of p.name p.width p.place

-- an output pin shows a variable
abbrev pub pin_of : ℕ × Port → Pin
pin_of p = record { name = p.1.name; from = pins.Var p.0 }

-- net 0 is the clock, and the other inputs are behind it
abbrev pub kind_of : Term → Kind
kind_of (Input i) = kinds.Net (suc i)
kind_of (Output i) = kinds.Var i
kind_of (Number k) = kinds.Num k

abbrev pub typed : ℕ → Kind → TExpr
typed width kind = record { width = width; signed = false; kind = kind }

abbrev pub added : ℕ → TExpr → Term → TExpr
added width left term = typed width (kinds.Binary binary.Add left (typed width (kind_of term)))

abbrev pub sum_of : Sum → TExpr
sum_of s = fold (added s.width) (typed s.width (kind_of s.first)) s.more

abbrev pub statement_of : Step → Stmt
statement_of (Wait at) = stmts.Wait at false
statement_of (Assign at i s) = stmts.Assign at (targets.Var i) (sum_of s) true

abbrev pub process_of : Source → Proc
process_of s = record { always = true; body = stmts.Block s.block None (map statement_of s.steps); place = s.process }

abbrev pub design_of : Source → Design
design_of s = record {
  vars = map var_of s.outputs;
  nets = net_of s.clock 1 s.clock_place ∷ map input_of s.inputs;
  tasks = [];
  funcs = [];
  imports = [];
  procs = process_of s ∷ [];
  marks = 0;
  inputs = numbers_from 1 (length s.inputs);
  outputs = map pin_of (enumerate_from 0 s.outputs);
  head = s.head;
}
