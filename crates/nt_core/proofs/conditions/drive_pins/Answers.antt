-- The loop's facts are those of the lists.
use Rattle.std.proofs.Common.{ℕ, map, Some, refl, sym, ap, ◌∙◌, arith}
use Rattle.std.proofs.lemmas.List.{length-map, get_or-map}
use Rattle.nt_core.specs.declared.netlist.Wire.{Wire}
use Rattle.nt_core.proofs.Drives.{drive_each, drive_all}
use Rattle.nt_core.proofs.conditions.drive_pins.Goals as goal

pub returns-then-not-is_driven : goal.returns-then-not-is_driven
returns-then-not-is_driven c = (
  λ h. cc,
  λ d.
      let width : Wire → ℕ = λ x. x.width in
      let here = get_or-map width c.args.outputs.now c.loop-i.i c.index-outputs-i.result 0 (omega arith) in
      sym c.if-not-is_driven.true
      ∙ c.is_driven.ensures.1 (drive_each c.args.nodes.now c.args.drives.now (map width c.args.outputs.now) c.loop-i.i d (omega arith)
      ∙ ap (λ w. Some w) here),
)

pub returns : goal.returns
returns c = (
  λ h.
      let width : Wire → ℕ = λ x. x.width in
      drive_all c.args.nodes.now c.args.drives.now (map width c.args.outputs.now) (omega (arith, length-map c.args.outputs.now width))
      (λ k l. c.loop-i.invariant k (omega arith)),
  λ d. refl,
)
