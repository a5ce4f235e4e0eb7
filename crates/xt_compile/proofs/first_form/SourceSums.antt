-- The sums of a source in its flat design: they are well made, call nothing, and are as large as they have terms.
use Rattle.std.proofs.Common.{◌≡◌, ◌<◌, ◌≤◌, ◌+◌, ◌^◌, ◌++◌, ℕ, zero, suc, List, [], ◌∷◌, Option, Some, None, length, map, fold, get_or, slice_get, refl, sym, ap, ◌∙◌, subst, arith}
use Rattle.std.specs.Prelude.{All, option_map}
use Rattle.std.proofs.Math.Nat.{max-le}
use Rattle.std.proofs.lemmas.List.Elements.{All-nil, All-cons, All-append, filter_map-append}
use Rattle.std.proofs.lemmas.List.Sums.{sum_by-cons, sum_by-append}
use Rattle.std.proofs.lemmas.Option.{slice_get-map}
use Rattle.xt_bits.specs.Word.{Word}
use Rattle.el_design.specs.Plain as plain
use Rattle.el_design.specs.Plain.{Expr, Binary, FlatNet, Flat}
use Rattle.el_design.specs.Names.{nodes_of, called, calls_in}
use Rattle.el_design.specs.Sizes.{node_size, expr_size}
use Rattle.el_design.specs.Sound.{IsWidth, IsPlainVariable, IsNet, IsNode, width, depth}
use Rattle.el_design.specs.View as view
use Rattle.xt_compile.specs.declared.first.source.Source.{Source}
use Rattle.xt_compile.specs.declared.first.source.Port.{Port}
use Rattle.xt_compile.specs.declared.first.source.Sum.{Sum}
use Rattle.xt_compile.specs.declared.first.source.Term.{Term}
use Rattle.xt_compile.specs.declared.first.source.Term.TheVariants.{Input, Output, Number}
use Rattle.xt_compile.specs.first.Flatten.{var_of, input_of}
use Rattle.xt_compile.specs.first.Source.{IsPort, IsTerm, IsSum, widths}
use Rattle.xt_compile.proofs.first_form.PlainSource.{shape, term, plus, total, flat}

-- an expression of so many terms of one width
pub record IsSummed (d : Flat) (w n : ℕ) (e : Expr) : Type 0 where
  pub wide : width e ≡ w
  pub nodes : All (IsNode d) (nodes_of e)
  pub some : 1 ≤ n
  pub deep : depth e ≤ n
  pub size : (calls : ℕ → ℕ) → suc (expr_size calls e) ≡ n + n
  pub free : calls_in e ≡ []

module _ (d : Flat) (w : ℕ) (fits : IsWidth w) where
  -- one term more
  plus_is : (n : ℕ) (e : Expr) (t : Term) → IsSummed d w n e → IsSummed d w 1 (term w t) → IsSummed d w (suc n) (plus w e t)
  plus_is n e t a b = record {
    wide = refl;
    nodes = All-cons (IsNode d) (plus w e t) (nodes_of e ++ nodes_of (term w t)) (fits, ((a.wide, b.wide), tt)) (All-append (IsNode d) (nodes_of e) (nodes_of (term w t)) a.nodes b.nodes);
    some = omega arith;
    deep = let some = a.some in let right = b.deep in let both = max-le {a = depth e} {b = depth (term w t)} {k = n} a.deep (omega (arith, some, right)) in omega (arith, both);
    size = λ calls.
        let first = sum_by-cons (node_size calls) (plus w e t) (nodes_of e ++ nodes_of (term w t)) in
        let both = sum_by-append (node_size calls) (nodes_of e) (nodes_of (term w t)) in
        let left = a.size calls in
        let right = b.size calls in
        omega (arith, first, both, left, right);
    free =
        filter_map-append called (nodes_of e) (nodes_of (term w t))
        ∙ ap (λ (ms : List ℕ). ms ++ calls_in (term w t)) a.free
        ∙ b.free;
  }

  -- a term of a source
  abbrev pub IsThere : Term → Type 0
  IsThere t = IsSummed d w 1 (term w t)

  input_there : (i : ℕ) → IsNet d (suc i) w → IsThere (Input i)
  input_there i is = record { wide = refl; nodes = All-cons (IsNode d) (plain.NetValue (shape w) (suc i)) [] (fits, is) (All-nil (IsNode d)); some = omega arith; deep = omega arith; size = λ calls. refl; free = refl }

  output_there : (i : ℕ) → IsPlainVariable d i w → IsThere (Output i)
  output_there i is = record { wide = refl; nodes = All-cons (IsNode d) (plain.Variable (shape w) i) [] (fits, is) (All-nil (IsNode d)); some = omega arith; deep = omega arith; size = λ calls. refl; free = refl }

  number_there : (k : Word) → k.width ≡ w → k.value < 2 ^ w → IsThere (Number k)
  number_there k wide below = record {
    wide = refl;
    nodes = All-cons (IsNode d) (plain.Number (shape w) k) [] (fits, (wide, subst (λ (v : ℕ). k.value < 2 ^ v) (sym wide) below)) (All-nil (IsNode d));
    some = omega arith;
    deep = omega arith;
    size = λ calls. refl;
    free = refl;
  }

  -- terms one after another
  more_are : (n : ℕ) (e : Expr) (ts : List Term) → IsSummed d w n e → All IsThere ts → IsSummed d w (length ts + n) (fold (plus w) e ts)
  more_are n e [] a all = let same : n ≡ 0 + n = omega arith in subst (λ (m : ℕ). IsSummed d w m e) same a
  more_are n e (t ∷ ts) a all =
      let same : length ts + suc n ≡ suc (length ts) + n = omega arith in
      subst (λ (m : ℕ). IsSummed d w m (fold (plus w) (plus w e t) ts)) same
      (more_are (suc n) (plus w e t) ts (plus_is n e t a (all 0 t (omega arith))) (λ k z lt. all (suc k) z (omega arith)))

-- ---- of a source

port_there : (ps : List Port) (i w : ℕ) → slice_get (widths ps) i ≡ Some w → (p : Port) × (slice_get ps i ≡ Some p) × (p.width ≡ w)
port_there [] i w e = absurd (let f : None ≡ Some w = e in cc)
port_there (p ∷ ps) zero w e = (p, refl, (let f : Some p.width ≡ Some w = e in cc))
port_there (p ∷ ps) (suc i) w e = port_there ps i w e

pub input_at : (s : Source) (i : ℕ) (p : Port) → slice_get s.inputs i ≡ Some p → slice_get (flat s).nets (suc i) ≡ Some (view.net_of (input_of p))
input_at s i p there =
    slice_get-map view.net_of (map input_of s.inputs) i
    ∙ ap (option_map view.net_of) (slice_get-map input_of s.inputs i)
    ∙ ap (λ (o : Option Port). option_map view.net_of (option_map input_of o)) there

pub output_at : (s : Source) (i : ℕ) (p : Port) → slice_get s.outputs i ≡ Some p → IsPlainVariable (flat s) i p.width
output_at s i p there = record { var = var_of p; is = slice_get-map var_of s.outputs i ∙ ap (option_map var_of) there; plain = refl; wide = refl }

pub variable_of : (s : Source) (i w : ℕ) → slice_get (widths s.outputs) i ≡ Some w → IsPlainVariable (flat s) i w
variable_of s i w e = let p = port_there s.outputs i w e in subst (IsPlainVariable (flat s) i) p.2 (output_at s i p.0 p.1)

term_there : (s : Source) (w : ℕ) (fits : IsWidth w) (t : Term) → IsTerm s.inputs s.outputs w t → IsThere (flat s) w fits t
term_there s w fits (Input i) is = let p = port_there s.inputs i w is in input_there (flat s) w fits i (record { net = view.net_of (input_of p.0); is = input_at s i p.0 p.1; wide = p.2 })
term_there s w fits (Output i) is = output_there (flat s) w fits i (variable_of s i w is)
term_there s w fits (Number k) is = number_there (flat s) w fits k is.0 is.1

pub total_is : (s : Source) (x : Sum) → IsWidth x.width → IsSum s.inputs s.outputs x → IsSummed (flat s) x.width (length x.more + 1) (total x)
total_is s x fits is =
    more_are (flat s) x.width fits 1 (term x.width x.first) x.more (term_there s x.width fits x.first is.first)
    (λ k t lt. term_there s x.width fits (get_or x.more k t) (is.more k t lt))

-- an output's width is in range
pub wide_output : (s : Source) → All IsPort s.outputs → (i w : ℕ) → slice_get (widths s.outputs) i ≡ Some w → IsWidth w
wide_output s ports i w e = let p = port_there s.outputs i w e in go s.outputs ports i p.0 p.1 p.2
  where
    go : (ps : List Port) → All IsPort ps → (i : ℕ) (p : Port) → slice_get ps i ≡ Some p → p.width ≡ w → IsWidth w
    go [] all i p there same = absurd (let f : None ≡ Some p = there in cc)
    go (q ∷ ps) all zero p there same =
        let is = all 0 q (omega arith) in
        let e : q ≡ p = (let f : Some q ≡ Some p = there in cc) in
        subst IsWidth (ap (λ (x : Port). x.width) e ∙ same) (is.positive, is.within)
    go (q ∷ ps) all (suc i) p there same = go ps (λ k x lt. all (suc k) x (omega arith)) i p there same
