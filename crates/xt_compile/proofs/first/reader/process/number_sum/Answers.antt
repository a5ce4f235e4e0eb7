use Rattle.xt_compile.proofs.first_form.FormNumbers.{number_read}
use Rattle.xt_compile.proofs.first.reader.process.number_sum.Goals as goal

pub returns : goal.returns
returns c =
    number_read c.args.lexed.now.names c.args.bits c.args.digits _ _ _ c.in-Some.value c.based_value.result c.new.result c.alone.result
    c.in_ok-bits.ensures c.in_ok-digits.ensures c.in_ok-width.ensures c.based_value.ensures c.in-Some.is c.new.ensures c.alone.ensures
