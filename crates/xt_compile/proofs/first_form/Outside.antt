-- The pins of a design, by its variables and nets.
use Rattle.std.proofs.Common.{◌≡◌, ◌<◌, ℕ, List, [], ◌∷◌, Option, Some, map, get_or, refl, sym, ap, ◌∙◌}
use Rattle.std.specs.Prelude.{slice_get, option_map, unwrap_or, length}
use Rattle.std.proofs.lemmas.Option.{slice_get-map, slice_get-get_or}
use Rattle.el_design.specs.declared.designs.Design.{Design}
use Rattle.el_design.specs.declared.designs.Net.{Net}
use Rattle.el_design.specs.declared.designs.Var.{Var}
use Rattle.el_design.specs.Plain.{FlatNet}
use Rattle.el_design.specs.Run.{net_width}
use Rattle.el_design.specs.Store.{width_of}
use Rattle.el_design.specs.View.{flat_of, net_of}
use Rattle.xt_compile.specs.Hardware.{pin, net_name}
use Rattle.xt_compile.specs.first.Form.{var_widths, net_widths}

pub flat_widths : (nets : List Net) → map (λ n. n.width) (map net_of nets) ≡ map (λ n. n.width) nets
flat_widths [] = refl
flat_widths (n ∷ nets) = ap (λ (ws : List ℕ). n.width ∷ ws) (flat_widths nets)

-- the width of a net, as its declaration has it
pub net_width_is : (d : Design) (n w : ℕ) → slice_get (net_widths d) n ≡ Some w → net_width (flat_of d) n ≡ w
net_width_is d n w there =
    ap (λ (o : Option ℕ). unwrap_or o 0) (sym (slice_get-map (λ (x : FlatNet). x.width) (map net_of d.nets) n) ∙ ap (λ (ws : List ℕ). slice_get ws n) (flat_widths d.nets) ∙ there)

-- a thing's width stands among the widths
width_among : {X : Type 0} (f : X → ℕ) (xs : List X) (i : ℕ) (x : X) → slice_get xs i ≡ Some x → slice_get (map f xs) i ≡ Some (f x)
width_among f xs i x there = slice_get-map f xs i ∙ ap (option_map f) there

pub net_there : (d : Design) (n : ℕ) (net : Net) → slice_get d.nets n ≡ Some net → net.width ≡ net_width (flat_of d) n
net_there d n net there = sym (net_width_is d n net.width (width_among (λ (x : Net). x.width) d.nets n net there))

pub var_there : (d : Design) (v : ℕ) (x : Var) → slice_get d.vars v ≡ Some x → x.width ≡ width_of (flat_of d) v
var_there d v x there = sym (ap (λ (o : Option Var). unwrap_or (option_map (λ (y : Var). y.width) o) 0) there)

-- the pin of a net
pub net_pin : (d : Design) (n : ℕ) (net : Net) → slice_get d.nets n ≡ Some net → pin net.name net.width ≡ pin (net_name d n) (net_width (flat_of d) n)
net_pin d n net there =
    ap (λ (name : List ℕ). pin name net.width) (sym (ap (λ (o : Option Net). unwrap_or (option_map (λ (x : Net). x.name) o) []) there))
    ∙ ap (pin (net_name d n)) (net_there d n net there)

-- the widths of a net and of a variable that are there
pub net_width_at : (d : Design) (n : ℕ) (e : Net) → n < length d.nets → slice_get (net_widths d) n ≡ Some (net_width (flat_of d) n)
net_width_at d n e h =
    let there = slice_get-get_or d.nets n e h in
    width_among (λ (x : Net). x.width) d.nets n (get_or d.nets n e) there ∙ ap (λ (w : ℕ). Some w) (net_there d n (get_or d.nets n e) there)

pub var_width_at : (d : Design) (v : ℕ) (e : Var) → v < length d.vars → slice_get (var_widths d) v ≡ Some (width_of (flat_of d) v)
var_width_at d v e h =
    let there = slice_get-get_or d.vars v e h in
    width_among (λ (x : Var). x.width) d.vars v (get_or d.vars v e) there ∙ ap (λ (w : ℕ). Some w) (var_there d v (get_or d.vars v e) there)
