-- The flat design of a source of the form, as plain data.
use Rattle.std.proofs.Common.{◌≡◌, ℕ, suc, true, false, List, [], ◌∷◌, None, length, map, fold, refl, ap, ◌∙◌}
use Rattle.std.specs.List.{enumerate_from}
use Rattle.el_design.specs.declared.expressions.BinOp.TheVariants as binary
use Rattle.el_design.specs.declared.expressions.Kind as kinds
use Rattle.el_design.specs.declared.expressions.TExpr.{TExpr}
use Rattle.el_design.specs.declared.expressions.Target as targets
use Rattle.el_design.specs.Plain as plain
use Rattle.el_design.specs.Plain.{Shape, Expr, NetValue, Variable, Binary, ToVariable, Statement, Skip, Seq, Block, FlatProc, Flat}
use Rattle.el_design.specs.Queue.{numbers_from}
use Rattle.el_design.specs.View as view
use Rattle.el_design.specs.View.{expr_of, seq_of, flat_of}
use Rattle.el_design.proofs.Equations as equations
use Rattle.xt_compile.specs.declared.first.source.Source.{Source}
use Rattle.xt_compile.specs.declared.first.source.Step.{Step}
use Rattle.xt_compile.specs.declared.first.source.Step.TheVariants.{Wait, Assign}
use Rattle.xt_compile.specs.declared.first.source.Sum.{Sum}
use Rattle.xt_compile.specs.declared.first.source.Term.{Term}
use Rattle.xt_compile.specs.declared.first.source.Term.TheVariants.{Input, Output, Number}
use Rattle.xt_compile.specs.first.Flatten.{var_of, net_of, input_of, pin_of, kind_of, typed, added, sum_of, statement_of, process_of, design_of}

-- so many bits without a sign
abbrev pub shape : ℕ → Shape
shape w = record { width = w; signed = false }

abbrev pub term : ℕ → Term → Expr
term w (Input i) = NetValue (shape w) (suc i)
term w (Output i) = Variable (shape w) i
term w (Number k) = plain.Number (shape w) k

abbrev pub plus : ℕ → Expr → Term → Expr
plus w left t = Binary (shape w) binary.Add left (term w t)

abbrev pub total : Sum → Expr
total s = fold (plus s.width) (term s.width s.first) s.more

abbrev pub step : Step → Statement
step (Wait at) = plain.Wait at false
step (Assign at i s) = plain.Assign at (ToVariable i) (total s) true

abbrev pub steps : List Step → Statement
steps [] = Skip
steps (x ∷ xs) = Seq (step x) (steps xs)

abbrev pub process : Source → FlatProc
process s = record { always = true; body = Block s.block None (steps s.steps); place = s.process }

abbrev pub flat : Source → Flat
flat s = record {
  vars = map var_of s.outputs;
  nets = map view.net_of (net_of s.clock 1 s.clock_place ∷ map input_of s.inputs);
  tasks = [];
  funcs = [];
  imports = [];
  procs = process s ∷ [];
  marks = 0;
  inputs = numbers_from 1 (length s.inputs);
  outputs = map pin_of (enumerate_from 0 s.outputs);
  head = s.head;
}

-- ---- it is that of the source

term_is : (w : ℕ) (t : Term) → expr_of (typed w (kind_of t)) ≡ term w t
term_is w (Input i) = equations.expr_is (typed w (kinds.Net (suc i))) ∙ equations.net_is (suc i) (shape w)
term_is w (Output i) = equations.expr_is (typed w (kinds.Var i)) ∙ equations.var_is i (shape w)
term_is w (Number k) = equations.expr_is (typed w (kinds.Num k)) ∙ equations.num_is k (shape w)

plus_is : (w : ℕ) (left : TExpr) (e : Expr) (t : Term) → expr_of left ≡ e → expr_of (added w left t) ≡ plus w e t
plus_is w left e t same =
    equations.expr_is (added w left t)
    ∙ equations.binary_is binary.Add left (typed w (kind_of t)) (shape w)
    ∙ ap (λ (x : Expr). Binary (shape w) binary.Add x (expr_of (typed w (kind_of t)))) same
    ∙ ap (Binary (shape w) binary.Add e) (term_is w t)

more_is : (w : ℕ) (ts : List Term) (left : TExpr) (e : Expr) → expr_of left ≡ e → expr_of (fold (added w) left ts) ≡ fold (plus w) e ts
more_is w [] left e same = same
more_is w (t ∷ ts) left e same = more_is w ts (added w left t) (plus w e t) (plus_is w left e t same)

total_is : (s : Sum) → expr_of (sum_of s) ≡ total s
total_is s = more_is s.width s.more (typed s.width (kind_of s.first)) (term s.width s.first) (term_is s.width s.first)

step_is : (x : Step) → view.statement_of (statement_of x) ≡ step x
step_is (Wait at) = equations.wait_statement at false
step_is (Assign at i s) =
    equations.assign_statement at (targets.Var i) (sum_of s) true
    ∙ ap (λ (t : plain.Lvalue). plain.Assign at t (expr_of (sum_of s)) true) (equations.target_var_is i)
    ∙ ap (λ (e : Expr). plain.Assign at (ToVariable i) e true) (total_is s)

steps_are : (xs : List Step) → map view.statement_of (map statement_of xs) ≡ map step xs
steps_are [] = refl
steps_are (x ∷ xs) = ap (λ (y : Statement). y ∷ map view.statement_of (map statement_of xs)) (step_is x) ∙ ap (λ (ys : List Statement). step x ∷ ys) (steps_are xs)

pub list_is : (xs : List Step) → seq_of (map step xs) ≡ steps xs
list_is [] = refl
list_is (x ∷ xs) = ap (Seq (step x)) (list_is xs)

pub body_is : (s : Source) → view.statement_of (process_of s).body ≡ (process s).body
body_is s =
    equations.block_statement s.block None (map statement_of s.steps)
    ∙ ap (λ (ss : List Statement). Block s.block None (seq_of ss)) (steps_are s.steps)
    ∙ ap (Block s.block None) (list_is s.steps)

pub flat_is : (s : Source) → flat_of (design_of s) ≡ flat s
flat_is s = ap (λ (b : Statement). record (flat s) { procs = record { always = true; body = b; place = s.process } ∷ [] }) (body_is s)
