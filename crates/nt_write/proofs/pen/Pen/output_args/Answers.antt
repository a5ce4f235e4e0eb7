use Rattle.std.proofs.Common.{ap}
use Rattle.std.proofs.lemmas.List.{take_all}
use Rattle.nt_core.specs.Text.{output_line, arg_name, numbered}
use Rattle.nt_write.specs.Lines.{following, followings}
use Rattle.nt_write.proofs.LineLists.{each_numbered_number}
use Rattle.nt_write.proofs.Taking.{takes_is, pieces2}
use Rattle.nt_write.proofs.pen.Pen.output_args.Goals as goal

pub loop-place-preserved : goal.loop-place-preserved
loop-place-preserved g c = takes_is _ _ _ _ (pieces2 c.loop-place.invariant c.output_arg.ensures) (each_numbered_number following (λ i w. output_line w (arg_name c.args.process i)) _ _ c.loop-place-test.true)

pub returns : goal.returns
returns g c = takes_is _ _ _ _ c.loop-place.invariant (ap (λ xs. followings (numbered (λ i w. output_line w (arg_name c.args.process i)) xs)) (take_all _ _ c.loop-place-test.false))
