use Rattle.xt_compile.specs.first.Nodes.{state_width}
use Rattle.xt_compile.proofs.first_form.Growing.{width_grows}
use Rattle.xt_compile.proofs.first_form.Sums.{if_ok}
use Rattle.xt_compile.proofs.first_form.Walks.{means_next}
use Rattle.xt_compile.proofs.first.compile.process.next_point.Goals as goal

pub plus-requires-clause-left : goal.plus-requires-clause-left
plus-requires-clause-left c = width_grows _ _ _ _ c.in_ok-one.ensures.extends.grows c.requires.state

pub choice-requires-clause-test : goal.choice-requires-clause-test
choice-requires-clause-test c = width_grows _ _ _ _ c.in_ok-further.ensures.extends.grows (width_grows _ _ _ _ c.in_ok-one.ensures.extends.grows c.requires.last)

pub choice-requires-clause-alike : goal.choice-requires-clause-alike
choice-requires-clause-alike c = (state_width, width_grows _ _ _ _ c.in_ok-further.ensures.extends.grows c.in_ok-one.ensures.width, c.in_ok-further.ensures.width)

pub returns : goal.returns
returns c =
    if_ok _ _ _ (λ i is.
    means_next c.args.design.now c.args.builder.now c.constant.new.builder c.plus.new.builder _ c.args.state c.args.last c.in_ok-one.one c.in_ok-further.further i
    c.requires.state c.requires.last c.in_ok-one.ensures c.in_ok-further.ensures is)
    (c.choice.ensures state_width (width_grows _ _ _ _ c.in_ok-further.ensures.extends.grows c.in_ok-one.ensures.width))
