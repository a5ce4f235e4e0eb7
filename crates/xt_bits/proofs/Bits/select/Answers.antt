use Rattle.std.proofs.Common.{◌∙◌}
use Rattle.std.proofs.lemmas.Int.{to_z-of_z}
use Rattle.xt_bits.proofs.Vectors.{selected}
use Rattle.xt_bits.proofs.Bits.select.Goals as goal

pub returns : goal.returns
returns c =
    let fits = c.ranges.low in
    let bits = simp to_z-of_z at c.lowered.ensures in
    c.new.ensures ∙ selected c.args.self c.args.low c.args.width c.lowered.result c.requires.within bits
