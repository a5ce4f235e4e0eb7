-- The flat design of a source of the form is what the compiler takes.
use Rattle.std.proofs.Common.{◌≡◌, ◌≢◌, ◌<◌, ◌≤◌, ◌+◌, ◌^◌, ◌++◌, ℕ, zero, suc, List, [], ◌∷◌, Option, Some, None, length, map, get_or, fold, refl, sym, ap, ◌∙◌, subst, arith}
use Rattle.std.specs.Prelude.{slice_get, option_map, All, AllPairs, IsSomeAnd}
use Rattle.std.specs.List.{enumerate_from}
use Rattle.std.proofs.lemmas.List.{length-map, map-append, get_or-map}
use Rattle.std.proofs.lemmas.List.Elements.{All-cons}
use Rattle.std.proofs.lemmas.Option.{same_Some, slice_get-map}
use Rattle.std.proofs.lemmas.Nat.{mod_below, pow_pos}
use Rattle.el_design.specs.declared.designs.Design.{Design}
use Rattle.el_design.specs.declared.designs.Proc.{Proc}
use Rattle.xt_base.specs.declared.refusals.Place.{Place}
use Rattle.el_design.specs.declared.statements.Stmt.{Stmt}
use Rattle.el_design.specs.declared.statements.Stmt as stmts
use Rattle.el_design.specs.Plain as plain
use Rattle.el_design.specs.Queue.{numbers_from}
use Rattle.el_design.specs.View as view
use Rattle.el_design.specs.Run.{net_width}
use Rattle.el_design.specs.View.{seq_of, flat_of}
use Rattle.el_design.proofs.Equations as equations
use Rattle.nt_core.specs.declared.netlist.Wire.{Wire}
use Rattle.nt_core.specs.Conditions.{IsPin}
use Rattle.xt_compile.specs.declared.first.source.Port.{Port}
use Rattle.xt_compile.specs.declared.first.source.Source.{Source}
use Rattle.xt_compile.specs.declared.first.source.Step.{Step}
use Rattle.xt_compile.specs.declared.first.source.Step.TheVariants.{Wait, Assign}
use Rattle.xt_compile.specs.declared.first.source.Term.{Term}
use Rattle.xt_compile.specs.declared.first.source.Term.TheVariants.{Input, Output, Number}
use Rattle.xt_compile.specs.Hardware.{pin, net_name, shown_width, input_pins, output_pins}
use Rattle.xt_compile.specs.first.Source as source
use Rattle.xt_compile.specs.first.Source.{IsPort, IsTerm, IsStep, IsSource}
use Rattle.xt_compile.specs.first.Flatten.{var_of, net_of, input_of, pin_of, process_of, design_of}
use Rattle.xt_compile.specs.first.Form.{var_widths, net_widths, IsThere, IsSumOf, IsStatement, AreStatements, IsBody, IsVariable, IsInput, IsOfForm}
use Rattle.xt_compile.specs.first.Tree.{whole_file}
use Rattle.xt_compile.proofs.first_form.Lists.{all_mapped}
use Rattle.xt_compile.proofs.first_form.Outside.{net_pin, var_there}
use Rattle.xt_compile.proofs.first_form.PlainSource.{term, plus, total, step, steps, body_is}

-- ---- the process

module _ (inputs outputs : List Port) (vars nets : List ℕ) (are_vars : vars ≡ source.widths outputs) (are_nets : (i : ℕ) → slice_get nets (suc i) ≡ slice_get (source.widths inputs) i) where
  term_is : (w : ℕ) (t : Term) → IsTerm inputs outputs w t → IsSumOf vars nets w (term w t)
  term_is w (Input i) h = are_nets i ∙ h
  term_is w (Output i) h = ap (λ (ws : List ℕ). slice_get ws i) are_vars ∙ h
  term_is w (Number k) h = h

  more_is : (w : ℕ) (ts : List Term) (left : plain.Expr) → All (IsTerm inputs outputs w) ts → IsSumOf vars nets w left → IsSumOf vars nets w (fold (plus w) left ts)
  more_is w [] left h g = g
  more_is w (t ∷ ts) left h g = more_is w ts (plus w left t) (λ k e lt. h (suc k) e (omega arith)) (g, term_is w t (h 0 t (omega arith)))

  some_and : (i w : ℕ) (e : plain.Expr) → slice_get vars i ≡ Some w → IsSumOf vars nets w e → IsSomeAnd (slice_get vars i) (λ v. IsSumOf vars nets v e)
  some_and i w e h g = subst (λ (o : Option ℕ). IsSomeAnd o (λ v. IsSumOf vars nets v e)) (sym h) g

  step_is : (x : Step) → IsStep inputs outputs x → IsStatement vars nets (step x)
  step_is (Wait at) h = tt
  step_is (Assign at i s) h =
      some_and i s.width (total s) (ap (λ (ws : List ℕ). slice_get ws i) are_vars ∙ h.0) (more_is s.width s.more (term s.width s.first) h.1.more (term_is s.width s.first h.1.first))

  steps_are : (xs : List Step) → All (IsStep inputs outputs) xs → AreStatements vars nets (steps xs)
  steps_are [] h = tt
  steps_are (x ∷ xs) h = (step_is x (h 0 x (omega arith)), steps_are xs (λ k e lt. h (suc k) e (omega arith)))

-- ---- ports

var_widths_are : (ps : List Port) → map (λ v. v.width) (map var_of ps) ≡ source.widths ps
var_widths_are [] = refl
var_widths_are (p ∷ ps) = ap (λ (ws : List ℕ). p.width ∷ ws) (var_widths_are ps)

net_widths_are : (ps : List Port) → map (λ n. n.width) (map input_of ps) ≡ source.widths ps
net_widths_are [] = refl
net_widths_are (p ∷ ps) = ap (λ (ws : List ℕ). p.width ∷ ws) (net_widths_are ps)

numbers_below : (a n m : ℕ) → a + n ≤ m → (k d : ℕ) → k < length (numbers_from a n) → get_or (numbers_from a n) k d < m
numbers_below a zero m h k d lt = absurd (omega arith)
numbers_below a (suc n) m h zero d lt = omega arith
numbers_below a (suc n) m h (suc k) d lt = numbers_below (suc a) n m (omega arith) k d (omega arith)

enumerated_below : (n : ℕ) (ps : List Port) (m : ℕ) → n + length ps ≤ m → (k : ℕ) (d : ℕ × Port) → k < length (enumerate_from n ps) → (get_or (enumerate_from n ps) k d).0 < m
enumerated_below n [] m h k d lt = absurd (omega arith)
enumerated_below n (p ∷ ps) m h zero d lt = omega arith
enumerated_below n (p ∷ ps) m h (suc k) d lt = enumerated_below (n + 1) ps m (omega arith) k d (omega arith)

-- the pins of ports
abbrev port_pin : Port → Wire
port_pin p = pin p.name p.width

-- the pins of inputs that stand among the nets from a on
inputs_are : (d : Design) (a : ℕ) (ps : List Port) → ((k : ℕ) (p : Port) → slice_get ps k ≡ Some p → slice_get d.nets (a + k) ≡ Some (input_of p))
    → map (λ n. pin (net_name d n) (net_width (flat_of d) n)) (numbers_from a (length ps)) ≡ map port_pin ps
inputs_are d a [] h = refl
inputs_are d a (p ∷ ps) h =
    let e : a + 0 ≡ a = omega arith in
    let head = net_pin d a (input_of p) (subst (λ (k : ℕ). slice_get d.nets k ≡ Some (input_of p)) e (h 0 p refl)) in
    let tail = inputs_are d (suc a) ps (λ k q there. let f : a + suc k ≡ suc a + k = omega arith in subst (λ (j : ℕ). slice_get d.nets j ≡ Some (input_of q)) f (h (suc k) q there)) in
    ap (λ (w : Wire). w ∷ map (λ n. pin (net_name d n) (net_width (flat_of d) n)) (numbers_from (suc a) (length ps))) (sym head)
    ∙ ap (λ (ws : List Wire). port_pin p ∷ ws) tail

-- the pins of outputs that stand among the variables from n on
outputs_are : (d : Design) (n : ℕ) (ps : List Port) → ((k : ℕ) (p : Port) → slice_get ps k ≡ Some p → slice_get d.vars (n + k) ≡ Some (var_of p))
    → map (λ p. pin p.name (shown_width (flat_of d) p.from)) (map pin_of (enumerate_from n ps)) ≡ map port_pin ps
outputs_are d n [] h = refl
outputs_are d n (p ∷ ps) h =
    let e : n + 0 ≡ n = omega arith in
    let head = var_there d n (var_of p) (subst (λ (k : ℕ). slice_get d.vars k ≡ Some (var_of p)) e (h 0 p refl)) in
    let tail = outputs_are d (n + 1) ps (λ k q there. let f : n + suc k ≡ n + 1 + k = omega arith in subst (λ (j : ℕ). slice_get d.vars j ≡ Some (var_of q)) f (h (suc k) q there)) in
    ap (λ (w : ℕ). pin p.name w ∷ map (λ p. pin p.name (shown_width (flat_of d) p.from)) (map pin_of (enumerate_from (n + 1) ps))) (sym head)
    ∙ ap (λ (ws : List Wire). port_pin p ∷ ws) tail

-- ---- pairs

all_append : {X : Type 0} (P : X → Type 0) (xs ys : List X) → All P xs → All P ys → (k : ℕ) (d : X) → k < length (xs ++ ys) → P (get_or (xs ++ ys) k d)
all_append P [] ys h g k d lt = g k d lt
all_append P (x ∷ xs) ys h g zero d lt = h 0 x (omega arith)
all_append P (x ∷ xs) ys h g (suc k) d lt = all_append P xs ys (λ j e l. h (suc j) e (omega arith)) g k d (omega arith)

pairs_append : {X : Type 0} (R : X → X → Type 0) (xs ys : List X) → AllPairs R xs → AllPairs R ys → All (λ a. All (λ b. R a b) ys) xs
    → (i j : ℕ) (d : X) → i < j → j < length (xs ++ ys) → R (get_or (xs ++ ys) i d) (get_or (xs ++ ys) j d)
pairs_append R [] ys p q c i j d lt b = q i j d lt b
pairs_append R (x ∷ xs) ys p q c zero zero d lt b = absurd (omega arith)
pairs_append R (x ∷ xs) ys p q c zero (suc j) d lt b = all_append (λ z. R x z) xs ys (λ k e l. p 0 (suc k) e (omega arith) (omega arith)) (c 0 x (omega arith)) j d (omega arith)
pairs_append R (x ∷ xs) ys p q c (suc i) zero d lt b = absurd (omega arith)
pairs_append R (x ∷ xs) ys p q c (suc i) (suc j) d lt b =
    pairs_append R xs ys (λ i' j' e l m. p (suc i') (suc j') e (omega arith) (omega arith)) q (λ k e l. c (suc k) e (omega arith)) i j d (omega arith) (omega arith)

wires_apart : (ps : List Port) → AllPairs (λ a b. a.name ≢ b.name) ps → (i j : ℕ) (d : Wire) → i < j → j < length (map port_pin ps)
    → (get_or (map port_pin ps) i d).name ≢ (get_or (map port_pin ps) j d).name
wires_apart ps h i j d lt b e =
    let e0 : Port = record { name = d.name; width = d.width; place = whole_file } in
    let size = length-map ps port_pin in
    let left = get_or-map port_pin ps i e0 d (omega arith) in
    let right = get_or-map port_pin ps j e0 d (omega arith) in
    h i j e0 lt (omega arith) (ap (λ (w : Wire). w.name) (sym left) ∙ e ∙ ap (λ (w : Wire). w.name) right)

-- ---- all of it

pub of_form : (s : Source) → IsSource s → IsOfForm (design_of s)
of_form s is =
    let d : Design = design_of s in
    let ins : input_pins d ≡ map port_pin s.inputs =
    inputs_are d 1 s.inputs (λ k p there. let e : suc k ≡ 1 + k = omega arith in subst (λ (j : ℕ). slice_get d.nets j ≡ Some (input_of p)) e (slice_get-map input_of s.inputs k ∙ ap (option_map input_of) there)) in
    let outs : output_pins d ≡ map port_pin s.outputs =
    outputs_are d 0 s.outputs (λ k p there. let e : k ≡ 0 + k = omega arith in subst (λ (j : ℕ). slice_get d.vars j ≡ Some (var_of p)) e (slice_get-map var_of s.outputs k ∙ ap (option_map var_of) there)) in
    let ports = is.ports in
    record {
      vars = all_mapped IsVariable var_of s.outputs (λ k e lt. let p = ports.outputs k e lt in record { width = (p.positive, p.within); words = refl; start = refl; fits = mod_below 0 (2 ^ (get_or s.outputs k e).width) (pow_pos (get_or s.outputs k e).width) });
      nets = All-cons IsInput (net_of s.clock 1 s.clock_place) _ (record { width = (omega arith, omega arith); value = refl })
          (all_mapped IsInput input_of s.inputs (λ k e lt. let p = ports.inputs k e lt in record { width = (p.positive, p.within); value = refl }));
      process = process_of s;
      one = refl;
      steps = record {
        always = refl;
        body = subst (IsBody (var_widths d) (net_widths d)) (sym (body_is s))
            (steps_are s.inputs s.outputs (var_widths d) (net_widths d) (var_widths_are s.outputs) (λ i. ap (λ (ws : List ℕ). slice_get ws i) (net_widths_are s.inputs)) s.steps is.steps);
      };
      inputs = numbers_below 1 (length s.inputs) (length d.nets) (omega (arith, length-map s.inputs input_of));
      outputs = all_mapped (λ p. IsThere d p.from) pin_of (enumerate_from 0 s.outputs) (λ k e lt. enumerated_below 0 s.outputs (length d.vars) (omega (arith, length-map s.outputs var_of)) k e lt);
      named_inputs = subst (All IsPin) (sym ins) (all_mapped IsPin port_pin s.inputs (λ k e lt. let p = ports.inputs k e lt in record { name = p.name; width = (p.positive, p.within) }));
      named_outputs = subst (All IsPin) (sym outs) (all_mapped IsPin port_pin s.outputs (λ k e lt. let p = ports.outputs k e lt in record { name = p.name; width = (p.positive, p.within) }));
      distinct = subst (AllPairs (λ a b. a.name ≢ b.name)) (map-append port_pin s.inputs s.outputs ∙ ap (λ (ws : List Wire). ws ++ map port_pin s.outputs) (sym ins) ∙ ap (λ (ws : List Wire). input_pins d ++ ws) (sym outs))
          (wires_apart (s.inputs ++ s.outputs) (pairs_append (λ a b. a.name ≢ b.name) s.inputs s.outputs ports.distinct.inputs ports.distinct.outputs ports.distinct.across));
    }

-- ---- back from a body to its statements

all_statements : (vars nets : List ℕ) (items : List Stmt) → AreStatements vars nets (seq_of (map view.statement_of items)) → (k : ℕ) (d : Stmt) → k < length items → IsStatement vars nets (view.statement_of (get_or items k d))
all_statements vars nets [] h k d lt = absurd (omega arith)
all_statements vars nets (x ∷ items) h zero d lt = h.0
all_statements vars nets (x ∷ items) h (suc k) d lt = all_statements vars nets items h.1 k d (omega arith)

unnamed : (vars nets : List ℕ) (at : Place) (mark : Option ℕ) (s : plain.Statement) → IsBody vars nets (plain.Block at mark s) → AreStatements vars nets s
unnamed vars nets at None s h = h
unnamed vars nets at (Some m) s h = absurd h

-- the statements of the one process
pub body_statements : (d : Design) → IsOfForm d → (p : Proc) → slice_get d.procs 0 ≡ Some p → (at : Place) (mark : Option ℕ) (items : List Stmt) → p.body ≡ stmts.Block at mark items
    → All (λ s. IsStatement (var_widths d) (net_widths d) (view.statement_of s)) items
body_statements d form p first at mark items block =
    let same : form.process ≡ p = same_Some form.process p (ap (λ (ps : List Proc). slice_get ps 0) (sym form.one) ∙ first) in
    let is : view.statement_of form.process.body ≡ plain.Block at mark (seq_of (map view.statement_of items)) = ap (λ (q : Proc). view.statement_of q.body) same ∙ ap view.statement_of block ∙ equations.block_statement at mark items in
    all_statements (var_widths d) (net_widths d) items (unnamed _ _ at mark _ (subst (IsBody (var_widths d) (net_widths d)) is form.steps.body))
