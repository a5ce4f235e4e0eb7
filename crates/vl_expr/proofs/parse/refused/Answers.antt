-- The token is one of the text's, so its first byte is too.
use Rattle.std.proofs.Common.{◌≡◌, ◌<◌, ◌-◌, min, length, ap, arith}
use Rattle.vl_expr.proofs.Spans.{start_within, refused_at}
use Rattle.vl_expr.proofs.parse.refused.Goals as goal

pub place-requires : goal.place-requires
place-requires c =
    let len : length c.list-list.result.now ≡ length c.args.tokens.now = ap length c.list-list.ensures in
    let here : c.min.result < length c.args.tokens.now = omega arith in
    rw c.list-list.ensures (start_within c.args.text.now.bytes c.args.tokens.now c.min.result _ c.requires.tokens here)

pub returns : goal.returns
returns c =
    let len : length c.list-list.result.now ≡ length c.args.tokens.now = ap length c.list-list.ensures in
    let here : c.min.result < length c.args.tokens.now = omega arith in
    let at_stop : c.min.result ≡ min c.args.at (length c.args.tokens.now - 1) = omega arith in
    refused_at c.args.text.now c.args.tokens.now c.list-list.result.now c.args.at c.min.result _ c.place.result c.list-list.ensures at_stop here
    c.place.ensures.place c.place.ensures.named
