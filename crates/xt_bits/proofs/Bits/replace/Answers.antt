use Rattle.std.proofs.Common.{◌-◌, ◌^◌, ◌∙◌, ap, rules}
use Rattle.std.proofs.lemmas.Int.{to_z-of_z}
use Rattle.xt_base.specs.declared.TheConstants.{MAX_WIDTH}
use Rattle.xt_bits.specs.Word.{Word, word}
use Rattle.xt_bits.specs.Operators.{replace_of}
use Rattle.xt_bits.proofs.Vectors.{replaced}
use Rattle.xt_bits.proofs.Bits.replace.Goals as goal

pub returns : goal.returns
returns c =
    let fits = c.ranges.low in
    let ones = simp to_z-of_z at c.raised-ones.ensures in
    let bits = simp to_z-of_z at c.raised.ensures in
    let old : Word = record { width = c.self.inside.width; value = c.self.inside.value } in
    let full = c.new.ensures ∙ ap (λ (p : Word). word p.width (2 ^ MAX_WIDTH - 1)) c.part.view_is in
    c.new-2.ensures
    ∙ replaced old c.args.part c.new.result c.args.low c.raised-ones.result c.raised.result
    (c.self.invariant) (search rules) full (search rules) ones bits
    ∙ ap (λ a. replace_of a c.args.low c.args.part) c.self.view_is
