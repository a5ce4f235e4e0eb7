-- The theorem of the compiler, for a source of the form.
use Rattle.std.proofs.Common.{◌≡◌, ◌≤◌, true, List, [], ◌∷◌, None, length, map, refl, sym, ap, ◌∙◌, subst, arith}
use Rattle.std.specs.List.{list_any}
use Rattle.xt_bits.specs.Trace.{Trace}
use Rattle.nt_core.specs.Conditions.{IsNetlist}
use Rattle.nt_core.specs.Parts.{Parts}
use Rattle.nt_core.specs.Text.{text_of}
use Rattle.el_design.specs.Queue.{numbers}
use Rattle.el_design.specs.declared.designs.Design.{Design}
use Rattle.el_design.specs.Plain as plain
use Rattle.el_design.specs.Plain.{Statement, FlatProc}
use Rattle.el_design.specs.View.{seq_of, statement_of, proc_of, flat_of}
use Rattle.xt_compile.specs.declared.first.source.Source.{Source}
use Rattle.xt_compile.specs.declared.first.source.Step.{Step}
use Rattle.xt_compile.specs.declared.first.source.Step.TheVariants.{Wait, Assign}
use Rattle.xt_compile.specs.Hardware.{HasOutside, IsHardwareOf}
use Rattle.xt_compile.specs.first.Compiled.{HasPins, Ticks}
use Rattle.xt_compile.specs.first.Flatten.{process_of, design_of}
use Rattle.xt_compile.specs.first.Form.{IsOfForm, IsBody, var_widths, net_widths}
use Rattle.xt_compile.specs.first.Machine.{HasBody, start_point, trace_of}
use Rattle.xt_compile.specs.first.Nodes as nodes
use Rattle.xt_compile.specs.first.Source as source
use Rattle.xt_compile.specs.first.Source.{IsSource, waits}
use Rattle.xt_compile.proofs.first_form.CheckedSource.{no_value_of, design_checked, design_has_no_hosts}
use Rattle.xt_compile.proofs.first_form.OfForm.{of_form}
use Rattle.xt_compile.proofs.first_form.OneRun.{NoValues, one_run}
use Rattle.xt_compile.proofs.first_form.PlainSource.{step, body_is, list_is}
use Rattle.xt_compile.proofs.Shows.{shows}
use Rattle.xt_compile.proofs.first_form.Stores.{AreFormal}
use Rattle.xt_compile.proofs.first_form.Traces.{follows}

-- ---- a design of the form

body_of : List FlatProc → Statement
body_of [] = plain.Skip
body_of (p ∷ ps) = p.body

-- the statements of its process are those of the form
formal_body : (d : Design) (form : IsOfForm d) (body : List Statement) → HasBody (flat_of d) body → AreFormal (var_widths d) (net_widths d) body
unfolding body_of
formal_body d form body has =
    let is : statement_of form.process.body ≡ plain.Block has.at None (seq_of body) = ap body_of (sym (ap (map proc_of) form.one) ∙ has.is) in
    subst (IsBody (var_widths d) (net_widths d)) is form.steps.body

-- ---- the design of a source

same_list : (xs ys : List Statement) → seq_of xs ≡ seq_of ys → xs ≡ ys
same_list [] [] e = refl
same_list [] (y ∷ ys) e = cc
same_list (x ∷ xs) [] e = cc
same_list (x ∷ xs) (y ∷ ys) e = let tail = same_list xs ys (cc) in cc

source_body : (s : Source) (body : List Statement) → HasBody (flat_of (design_of s)) body → body ≡ map step s.steps
unfolding body_of
source_body s body has =
    let is : plain.Block has.at None (seq_of body) ≡ statement_of (process_of s).body = sym (ap body_of has.is) in
    let block = body_is s in
    let list = list_is s.steps in
    same_list body (map step s.steps) (cc)

-- it waits where the source's process does
source_waits : (xs : List Step) → list_any source.is_wait xs ≡ true → 1 ≤ nodes.waits (map step xs)
source_waits [] h = cc
source_waits (Wait at ∷ xs) h = omega arith
source_waits (Assign at i x ∷ xs) h = source_waits xs h

-- ---- the outside

outside_is : (s : Source) (n : Parts) → HasPins (design_of s) n → HasOutside (design_of s) n
outside_is s n pins = record { inputs = pins.inputs; outputs = pins.outputs; functions = pins.functions; processes = pins.processes; hosts = pins.hosts ∙ sym (design_has_no_hosts s) }

-- ---- the theorem

pub hardware : (s : Source) → IsSource s → (d : Design) → d ≡ design_of s → (n : Parts) → IsNetlist n → HasPins d n × (body : List Statement) × HasBody (flat_of d) body × Ticks d n body → waits s ≡ true → IsHardwareOf (design_of s) (text_of n)
hardware s is d d_is n netlist made waiting =
    subst (λ (x : Design). HasPins x n × (body : List Statement) × HasBody (flat_of x) body × Ticks x n body → IsHardwareOf (design_of s) (text_of n)) (sym d_is)
    (λ built. hardware_at built.0 built.1 built.2 built.3) made
  where
    hardware_at : HasPins (design_of s) n → (body : List Statement) → HasBody (flat_of (design_of s)) body → Ticks (design_of s) n body → IsHardwareOf (design_of s) (text_of n)
    hardware_at pins body has ticks =
        let d : Design = design_of s in
        let form = of_form s is in
        let formal = formal_body d form body has in
        let some : 1 ≤ nodes.waits body = subst (λ (ss : List Statement). 1 ≤ nodes.waits ss) (sym (source_body s body has)) (source_waits s.steps waiting) in
        let none : NoValues (flat_of d) = no_value_of d.nets (λ k e lt. (form.nets k e lt).value) in
        record {
          netlist = n;
          is_netlist = netlist;
          text = refl;
          outside = outside_is s n pins;
          same_trace = λ x fits.
              let run = one_run (flat_of d) none (var_widths d) (net_widths d) body has formal some x fits in
              let t : Trace = trace_of (flat_of d) body x.rows (start_point (flat_of d) body) in
              (t, follows d form n body has ticks formal some x fits, shows (flat_of d) (numbers (length d.nets)) (design_checked s is waiting) x t run.0 run.1);
        }
