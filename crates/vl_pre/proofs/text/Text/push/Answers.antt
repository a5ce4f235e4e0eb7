use Rattle.std.proofs.Common.{rules, ◌≡◌, ◌<◌, ◌-◌, length, arith, ap, [], ◌∷◌, ◌++◌, map, string_bytes}
use Rattle.std.proofs.lemmas.List.{length-map}
use Rattle.std.proofs.lemmas.Result.{err_from_is_err_and}
use Rattle.vl_pre.specs.Runs.{most}
use Rattle.vl_pre.proofs.PushLemmas.{push-are, push-places, begun-keeps, begun-places}
use Rattle.vl_pre.proofs.text.Text.push.Goals as goal

pub invariant_of-self-in_err-push : goal.invariant_of-self-in_err-push
invariant_of-self-in_err-push c =
    rw c.in_err-push.ensures.items (begun-keeps c.self.inside.runs.items _ c.self.inside.next (record { start = c.len.result; file = c.len-2.result - 1; line = c.args.line }) _ _ c.self.invariant c.in_ok-begin_run.ensures.ok (search rules)
    (omega (arith, c.self.invariant.some)) c.requires.line)

pub returns-in_err-push-clause-err : goal.returns-in_err-push-clause-err
returns-in_err-push-clause-err c =
    let places = begun-places c.self.inside.runs.items _ c.self.inside.next (record { start = c.len.result; file = c.len-2.result - 1; line = c.args.line }) c.self.inside.bytes.items c.in_ok-begin_run.ensures.ok (search rules) in
    let p = err_from_is_err_and c.from_residual-in_err-push.result c.from_residual-in_err-push.ensures.1 in
    rw (p.1, ← c.self.view_is, c.in_err-push.ensures.items) (λ i. record { bytes = c.self.inside.bytes.items; places = places i; names = map string_bytes c.self.inside.names.items })

pub invariant_of-self-2 : goal.invariant_of-self-2
invariant_of-self-2 c =
    let room : length c.self.inside.bytes.items < most = rw (ap (λ t. length t.bytes) c.self.view_is) c.requires.room in
    rw (c.in_ok-push.ensures.items, c.next_line-self-inside.ensures) (push-are c.self.inside.runs.items _ c.self.inside.next (record { start = c.len.result; file = c.len-2.result - 1; line = c.args.line }) _ _ _ c.self.invariant c.in_ok-begin_run.ensures.ok (search rules)
    (omega (arith, c.self.invariant.some)) c.requires.line room)

pub returns-clause-ok : goal.returns-clause-ok
returns-clause-ok c =
    let places = push-places c.self.inside.runs.items _ c.self.inside.next (record { start = c.len.result; file = c.len-2.result - 1; line = c.args.line }) _ _ c.args.byte c.self.invariant c.in_ok-begin_run.ensures.ok (search rules) in
    let file : c.len-2.result - 1 ≡ length (map string_bytes c.self.inside.names.items) - 1 = omega (arith, length-map c.self.inside.names.items string_bytes) in
    rw (← c.self.view_is, c.in_ok-push.ensures.items, ← file) (λ i. record { bytes = c.self.inside.bytes.items ++ c.args.byte ∷ []; places = places i; names = map string_bytes c.self.inside.names.items })
