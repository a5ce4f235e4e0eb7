-- What is reported one after the other is reported in one list.
use Rattle.std.proofs.Common.{◌≡◌, ℕ, Bool, List, ◌++◌, Option, length, slice_get, sym, ◌∙◌, ap, ap₂}
use Rattle.std.specs.Prelude.{fold}
use Rattle.std.proofs.lemmas.List.{length-map}
use Rattle.std.proofs.lemmas.List.Sums.{fold-append}
use Rattle.xt_base.specs.First.{sooner}
use Rattle.xt_base.specs.declared.refusals.Refusal.{Refusal}
use Rattle.el_design.specs.declared.designs.Design.{Design}
use Rattle.el_design.specs.declared.designs.Func.{Func}
use Rattle.el_design.specs.Purity.{variables_of}
use Rattle.el_design.specs.View.{flat_of, func_of}
use Rattle.ck_call.specs.declared.lines.Line.{Line}
use Rattle.ck_call.specs.inner.Lines.{lines}
use Rattle.ck_call.specs.inner.Breaks.{breaks_by, is_impure, result_breaks, fails, function_breaks}

pub two_reports : (o f g : Option Refusal) (xs ys : List Refusal) → f ≡ fold sooner o xs → g ≡ fold sooner f ys → g ≡ fold sooner o (xs ++ ys)
two_reports o f g xs ys e h = h ∙ ap (λ z. fold sooner z ys) e ∙ sym (fold-append sooner o xs ys)

pub function_reported : (d : Design) (func : Func) (o f g : Option Refusal) (own : List ℕ) (text : List Line) (n : ℕ) (broken : Bool) → own ≡ variables_of (func_of func) → text ≡ lines (func_of func).body → n ≡ length d.funcs →
    f ≡ fold sooner o (breaks_by (is_impure own n) 50 text) → broken ≡ fails (func_of func) → g ≡ fold sooner f (result_breaks broken (slice_get (flat_of d).vars func.result)) →
    g ≡ fold sooner o (function_breaks (flat_of d) (func_of func))
function_reported d func o f g own text n broken e t l i b h =
    two_reports o f g (breaks_by (is_impure (variables_of (func_of func)) (length (flat_of d).funcs)) 50 (lines (func_of func).body)) (result_breaks (fails (func_of func)) (slice_get (flat_of d).vars func.result))
    (i ∙ ap (λ z. fold sooner o (breaks_by (is_impure z n) 50 text)) e ∙ ap₂ (λ z y. fold sooner o (breaks_by (is_impure (variables_of (func_of func)) z) 50 y)) (l ∙ sym (length-map d.funcs func_of)) t)
    (h ∙ ap (λ z. fold sooner f (result_breaks z (slice_get (flat_of d).vars func.result))) b)
