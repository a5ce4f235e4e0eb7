use Rattle.el_width.specs.inner.Operands.{operand_of}
use Rattle.el_width.proofs.read.+read.Goals as goal
use Rattle.el_width.proofs.Layers.{choice_operand, choice_broken, binary_broken, name_broken, call_operand, concat_broken, replicate_operand}

pub read-returns-in_ok-a-in-Choice-clause-operand : goal.read-returns-in_ok-a-in-Choice-clause-operand
read-returns-in_ok-a-in-Choice-clause-operand t c =
    choice_operand c.args.env.now c.args.expr.now c.choice.result c.in-Choice.at c.in_ok-test-in-Choice-2.test c.in_ok-test-in-Choice.test c.in_ok-a-in-Choice.a c.in_ok-test-in-Choice-2.a c.in_ok-a-in-Choice.b
    c.in-Choice.test c.in-Choice.first c.in-Choice.second c.get.result.now c.get-in-Choice.result.now c.get-in-Choice-2.result.now
    c.choice.ensures c.in-Choice.is c.get.ensures c.get-in-Choice.ensures c.get-in-Choice-2.ensures c.in_ok-test-in-Choice-2.ensures.first c.in_ok-a-in-Choice.ensures.first
    c.in_ok-test-in-Choice.ensures.alone c.in_ok-test-in-Choice-2.ensures.operand c.in_ok-a-in-Choice.ensures.operand

pub read-returns-in_ok-a-in-Choice-clause-breaks : goal.read-returns-in_ok-a-in-Choice-clause-breaks
read-returns-in_ok-a-in-Choice-clause-breaks t c =
    choice_broken c.args.env.now c.args.expr.now c.args.must c.args.finder.now.first c.choice.result _ _ c.behind.new.finder.first c.in-Choice.at
    c.in-Choice.test c.in-Choice.first c.in-Choice.second c.get.result.now c.get-in-Choice.result.now c.get-in-Choice-2.result.now
    c.in-Choice.is c.get.ensures c.get-in-Choice.ensures c.get-in-Choice-2.ensures c.in_ok-test-in-Choice.ensures.breaks c.in_ok-test-in-Choice-2.ensures.breaks c.in_ok-a-in-Choice.ensures.breaks

pub read-returns-in_ok-b-in-Binary-clause-breaks : goal.read-returns-in_ok-b-in-Binary-clause-breaks
read-returns-in_ok-b-in-Binary-clause-breaks t c =
    binary_broken c.args.env.now c.args.expr.now c.args.must c.args.finder.now.first c.binary.result _ _ c.binary.new.finder.first c.in-Binary.at c.in-Binary.op
    (operand_of c.in_ok-a-in-Binary.a) (operand_of c.in_ok-b-in-Binary.b) c.in-Binary.left c.in-Binary.right c.get-in-Binary.result.now c.get-in-Binary-2.result.now
    c.binary.ensures.breaks c.in-Binary.is c.get-in-Binary.ensures c.get-in-Binary-2.ensures c.in_ok-a-in-Binary.ensures.operand c.in_ok-b-in-Binary.ensures.operand
    c.in_ok-a-in-Binary.ensures.breaks c.in_ok-b-in-Binary.ensures.breaks

pub read-returns-in_ok-taken-in-Name-clause-breaks : goal.read-returns-in_ok-taken-in-Name-clause-breaks
read-returns-in_ok-taken-in-Name-clause-breaks t c =
    name_broken c.args.env.now c.args.expr.now c.args.must c.args.finder.now.first c.name.result _ c.selects.new.finder.first c.in-Name.at c.in-Name.word c.in-Name.list c.as_slice.result.now
    c.in-Name.is c.as_slice.ensures c.report_name.ensures c.in_ok-taken-in-Name.ensures.breaks

pub read-returns-in_ok-args-in-Call-clause-operand : goal.read-returns-in_ok-args-in-Call-clause-operand
read-returns-in_ok-args-in-Call-clause-operand t c =
    call_operand c.args.env.now c.args.expr.now (operand_of c.call.result) c.in-Call.at c.in-Call.word c.in_ok-args-in-Call.args c.formals.result.now c.in-Call.args c.as_slice-in-Call.result.now
    c.call.ensures c.in-Call.is c.as_slice-in-Call.ensures c.in_ok-args-in-Call.ensures.forms c.formals.ensures

pub read-returns-in_ok-all-in-Concat-clause-breaks : goal.read-returns-in_ok-all-in-Concat-clause-breaks
read-returns-in_ok-all-in-Concat-clause-breaks t c =
    concat_broken c.args.env.now c.args.expr.now c.args.must c.args.finder.now.first _ c.concat.new.finder.first c.in-Concat.at c.in_ok-all-in-Concat.all c.in-Concat.list c.as_slice-in-Concat.result.now
    c.concat.ensures.breaks c.in-Concat.is c.as_slice-in-Concat.ensures c.in_ok-all-in-Concat.ensures.parts c.in_ok-all-in-Concat.ensures.breaks

pub read-returns-in_ok-all-in-Replicate-clause-operand : goal.read-returns-in_ok-all-in-Replicate-clause-operand
read-returns-in_ok-all-in-Replicate-clause-operand t c =
    replicate_operand c.args.env.now c.args.expr.now c.replicate.result c.in-Replicate.at c.in_ok-n-in-Replicate.n c.in_ok-all-in-Replicate.all c.in-Replicate.count c.get-in-Replicate.result.now
    c.in-Replicate.list c.as_slice-in-Replicate.result.now c.replicate.ensures.operand c.in-Replicate.is c.get-in-Replicate.ensures c.as_slice-in-Replicate.ensures
    c.in_ok-n-in-Replicate.ensures.alone c.in_ok-all-in-Replicate.ensures.parts
