-- The values on the pins of a stimulus fit the nets.
use Rattle.std.proofs.Common.{◌≡◌, ◌<◌, ◌+◌, ◌^◌, ℕ, suc, List, [], ◌∷◌, Option, Some, None, length, map, get_or, refl, sym, ap, ◌∙◌, subst, arith}
use Rattle.std.specs.Prelude.{slice_get, position, ◌==◌}
use Rattle.std.specs.List.{enumerate_from}
use Rattle.std.proofs.lemmas.List.{length-map, get_or-map}
use Rattle.std.proofs.lemmas.List.Quantifiers.{position-Some}
use Rattle.xt_bits.specs.Word.{Word, word}
use Rattle.el_design.specs.declared.designs.Design.{Design}
use Rattle.el_design.specs.Plain.{Flat}
use Rattle.el_design.specs.Queue.{pin_value}
use Rattle.el_design.specs.Run.{IsRow, net_width}
use Rattle.el_design.specs.View.{flat_of}
use Rattle.xt_compile.specs.first.Form.{net_widths}
use Rattle.xt_compile.specs.first.Machine.{nets_of}
use Rattle.xt_compile.proofs.first_form.Fits.{HasFit, Fit, fit_none, fit_more, word_fits}
use Rattle.xt_compile.proofs.first_form.NumberTests.{number_is}
use Rattle.xt_compile.proofs.first_form.Outside.{net_width_is}
use Rattle.xt_compile.proofs.first_form.Ticking.{nets_are}

-- a value on a pin
on_pin : (d : Flat) (row : List Word) → IsRow d row → (i : ℕ) (w : Word) → i < length d.inputs → HasFit (net_width d (get_or d.inputs i 0)) (get_or row i w)
on_pin d row is i w h =
    let size : length row ≡ length d.inputs = sym (length-map row (λ (x : Word). x.width)) ∙ ap (λ (ws : List ℕ). length ws) is.0 ∙ length-map d.inputs (net_width d) in
    let within : i < length row = omega arith in
    let width : (get_or row i w).width ≡ net_width d (get_or d.inputs i 0) =
    sym (get_or-map (λ (x : Word). x.width) row i w 0 within) ∙ ap (λ (ws : List ℕ). get_or ws i 0) is.0 ∙ get_or-map (net_width d) d.inputs i 0 0 h in
    record { width = width; below = subst (λ (k : ℕ). (get_or row i w).value < 2 ^ k) width (is.1 i w within) }

pin_fits : (d : Design) (row : List Word) → IsRow (flat_of d) row → (n w : ℕ) → slice_get (net_widths d) n ≡ Some w → HasFit w (pin_value (flat_of d) row n w)
pin_fits d row is n w there = go (position (λ k. k == n) d.inputs) refl
  where
    go : (o : Option ℕ) → position (λ k. k == n) d.inputs ≡ o → HasFit w (elim o as (λ _. Word) [ None ↦ word w 0 | Some i ↦ get_or row i (word w 0) ])
    go None e = word_fits w 0
    go (Some i) e =
        let at = position-Some (λ k. k == n) d.inputs i 0 e in
        subst (λ (k : ℕ). HasFit k (get_or row i (word w 0))) (ap (net_width (flat_of d)) (number_is (get_or d.inputs i 0) n at.1) ∙ net_width_is d n w there) (on_pin (flat_of d) row is i (word w 0) at.0)

each_fits : (ws : List ℕ) (n : ℕ) (f : ℕ × ℕ → Word) → ((i w : ℕ) → slice_get ws i ≡ Some w → HasFit w (f (n + i, w))) → Fit ws (map f (enumerate_from n ws))
each_fits [] n f h = fit_none
each_fits (w ∷ ws) n f h =
    let e : n + 0 ≡ n = omega arith in
    fit_more (subst (λ (k : ℕ). HasFit w (f (k, w))) e (h 0 w refl))
    (each_fits ws (n + 1) f (λ i u there. let e : n + suc i ≡ n + 1 + i = omega arith in subst (λ (k : ℕ). HasFit u (f (k, u))) e (h (suc i) u there)))

pub nets_fit : (d : Design) (row : List Word) → IsRow (flat_of d) row → Fit (net_widths d) (nets_of (flat_of d) row)
nets_fit d row is =
    subst (Fit (net_widths d)) (nets_are d row)
    (each_fits (net_widths d) 0 (λ x. pin_value (flat_of d) row x.0 x.1) (λ i w there. let e : i ≡ 0 + i = omega arith in subst (λ (k : ℕ). HasFit w (pin_value (flat_of d) row k w)) e (pin_fits d row is i w there)))
