use Rattle.std.proofs.Common.{◌≡◌, false, rules}
use Rattle.vl_pre.specs.Cursors.{seen}
use Rattle.vl_pre.specs.Directives.{is_stray}
use Rattle.vl_pre.proofs.ArgumentLemmas.{passed_is, closes_is, ends_is, belongs_is}
use Rattle.vl_pre.proofs.arguments.arguments_turn.Goals as goal

pub returns-in-Passed : goal.returns-in-Passed
returns-in-Passed c = λ text before given at is.
    let stray : is_stray (seen c.args.piece.now) ≡ false = search rules in
    rw c.begin.ensures (passed_is c.args.context text before c.args.place c.args.reader.now given (seen c.args.piece.now) at is stray c.in-Passed.ensures)

pub returns-in_ok-close-in-Closes : goal.returns-in_ok-close-in-Closes
returns-in_ok-close-in-Closes c = λ text before given at is.
    let stray : is_stray (seen c.args.piece.now) ≡ false = search rules in
    closes_is c.args.context text before c.args.place c.args.reader.now _ given (seen c.args.piece.now) at is stray c.in-Closes.ensures c.in_ok-close-in-Closes.ensures.came c.in_ok-close-in-Closes.ensures.rest.0 c.in_ok-close-in-Closes.ensures.rest.1 c.in_ok-close-in-Closes.ensures.rest.2

pub returns-in_ok-close-in-Ends : goal.returns-in_ok-close-in-Ends
returns-in_ok-close-in-Ends c = λ text before given at is.
    let stray : is_stray (seen c.args.piece.now) ≡ false = search rules in
    ends_is c.args.context text before c.args.place c.args.reader.now _ given (seen c.args.piece.now) at is stray c.in-Ends.ensures c.in_ok-close-in-Ends.ensures.came c.in_ok-close-in-Ends.ensures.rest.0 c.in_ok-close-in-Ends.ensures.rest.1 c.in_ok-close-in-Ends.ensures.rest.2

pub returns-in-Belongs : goal.returns-in-Belongs
returns-in-Belongs c = λ text before given at is.
    let stray : is_stray (seen c.args.piece.now) ≡ false = search rules in
    rw c.add.ensures (belongs_is c.args.context text before c.args.place c.args.reader.now given (seen c.args.piece.now) at is stray c.in-Belongs.ensures)
