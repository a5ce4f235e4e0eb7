-- Targets and bodies of the form by what they are.
use Rattle.std.proofs.Common.{◌≡◌, ℕ, List, [], ◌∷◌, Bool, true, Option, Some, None, map, refl, sym, ap, ◌∙◌, subst}
use Rattle.std.specs.Prelude.{slice_get}
use Rattle.std.proofs.lemmas.Option.{same_Some}
use Rattle.xt_base.specs.declared.refusals.Place.{Place}
use Rattle.el_design.specs.declared.expressions.Target as target
use Rattle.el_design.specs.declared.expressions.Target.{Target}
use Rattle.el_design.specs.declared.expressions.Target.TheVariants as targets
use Rattle.el_design.specs.declared.expressions.Target.TheOpen.{Target-F}
use Rattle.el_design.specs.declared.expressions.Target.TheViews.{roll-Target, out-Target, roll-out-Target}
use Rattle.el_design.specs.declared.expressions.Target.TheFolds.{fold-roll-Target}
use Rattle.el_design.specs.declared.designs.Design.{Design}
use Rattle.el_design.specs.declared.designs.Proc.{Proc}
use Rattle.el_design.specs.declared.statements.Stmt as stmt
use Rattle.el_design.specs.declared.statements.Stmt.{Stmt}
use Rattle.el_design.specs.Plain as plain
use Rattle.el_design.specs.Plain.{Expr, Lvalue, Statement, FlatProc}
use Rattle.el_design.specs.View.{lvalue_of, target_step, parts_of, seq_of, statement_of, proc_of, flat_of}
use Rattle.el_design.proofs.Equations.{block_statement}
use Rattle.xt_compile.specs.first.Form.{IsStatement, IsBody, IsProcess, IsOfForm, var_widths, net_widths}
use Rattle.xt_compile.specs.first.Machine.{HasBody, statements_of}

-- ---- targets

abbrev pub IsVariableTarget : Target → Type 0
IsVariableTarget t = (v : ℕ) × (t ≡ target.Var v)

parts_are_none : (ls : List Lvalue) (v : ℕ) → parts_of ls ≡ plain.ToVariable v → ⊥
parts_are_none [] v h = cc
parts_are_none (l ∷ ls) v h = cc

-- a target that stands for a variable is one
variable_layer : (x : Target-F Target) (v : ℕ) → lvalue_of (roll-Target x) ≡ plain.ToVariable v → IsVariableTarget (roll-Target x)
variable_layer (Target-F.Var k) v h = (k, targets.rolls-Var k)
variable_layer (Target-F.Part k p) v h = let e = fold-roll-Target Lvalue target_step (Target-F.Part k p) in cc
variable_layer (Target-F.Word k i) v h = let e = fold-roll-Target Lvalue target_step (Target-F.Word k i) in cc
variable_layer (Target-F.WordPart k i p) v h = let e = fold-roll-Target Lvalue target_step (Target-F.WordPart k i p) in cc
variable_layer (Target-F.Concat ts) v h = absurd (parts_are_none _ v (sym (fold-roll-Target Lvalue target_step (Target-F.Concat ts)) ∙ h))

pub variable_target : (t : Target) (v : ℕ) → lvalue_of t ≡ plain.ToVariable v → IsVariableTarget t
variable_target t v h = subst IsVariableTarget (roll-out-Target t) (variable_layer (out-Target t) v (ap lvalue_of (roll-out-Target t) ∙ h))

-- the target of an assignment of the form is a variable
pub formal_target : (vars nets : List ℕ) (at : Place) (to : Target) (e : Expr) (held : Bool) (t : Lvalue) → lvalue_of to ≡ t → IsStatement vars nets (plain.Assign at t e held) → IsVariableTarget to
formal_target vars nets at to e held (plain.ToVariable v) is h = variable_target to v is
formal_target vars nets at to e held t is h = absurd h

-- ---- bodies

-- a body of the form has no name
unnamed_block : (vars nets : List ℕ) (at : Place) (mark : Option ℕ) (s : Statement) → IsBody vars nets (plain.Block at mark s) → mark ≡ None
unnamed_block vars nets at None s h = refl
unnamed_block vars nets at (Some m) s h = absurd h

process_is : (p : Proc) (s : Statement) → p.always ≡ true → statement_of p.body ≡ s → proc_of p ≡ record { always = true; body = s; place = p.place }
process_is p s a b =
    ap (λ (x : Bool). record { always = x; body = statement_of p.body; place = p.place }) a
    ∙ ap (λ (x : Statement). record { always = true; body = x; place = p.place }) b

-- the statements of the one process are its body
pub has_body : (d : Design) (form : IsOfForm d) (p : Proc) → slice_get d.procs 0 ≡ Some p → (at : Place) (mark : Option ℕ) (items : List Stmt) → p.body ≡ stmt.Block at mark items → HasBody (flat_of d) (statements_of items)
has_body d form p first at mark items block =
    let same : form.process ≡ p = same_Some form.process p (ap (λ (ps : List Proc). slice_get ps 0) (sym form.one) ∙ first) in
    let steps : IsProcess (var_widths d) (net_widths d) p = subst (IsProcess (var_widths d) (net_widths d)) same form.steps in
    let is : statement_of p.body ≡ plain.Block at mark (seq_of (statements_of items)) = ap statement_of block ∙ block_statement at mark items in
    let none : mark ≡ None = unnamed_block (var_widths d) (net_widths d) at mark (seq_of (statements_of items)) (subst (IsBody (var_widths d) (net_widths d)) is steps.body) in
    record {
      at = at;
      place = p.place;
      is =
          ap (map proc_of) (form.one ∙ ap (λ (q : Proc). q ∷ []) same)
          ∙ ap (λ (x : FlatProc). x ∷ []) (process_is p _ steps.always (is ∙ ap (λ (k : Option ℕ). plain.Block at k (seq_of (statements_of items))) none));
    }
