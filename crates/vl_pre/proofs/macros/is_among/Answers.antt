use Rattle.std.proofs.Common.{◌≡◌, ◌∙◌, sym, rules, true, false, drop, refl, ◌+◌}
use Rattle.std.specs.Prelude.{bytes_eq}
use Rattle.std.specs.List.{list_any}
use Rattle.std.proofs.lemmas.List.{at_drop_more, at_drop_all}
use Rattle.vl_pre.proofs.NameLemmas.{among_seen}
use Rattle.vl_pre.proofs.macros.is_among.Goals as goal

pub returns-then-eq : goal.returns-then-eq
returns-then-eq c =
    let equal : bytes_eq c.other-item.result.items c.args.name.now ≡ true = search rules in
    let step = at_drop_more (list_any (λ n. bytes_eq n.items c.args.name.now)) c.args.names.now c.loop-other.other-index c.other-item.result c.loop-other-test.true in
    sym (sym (among_seen c.args.names.now c.args.name.now) ∙ sym c.loop-other.invariant ∙ step ∙ rw (← c.other-item.is, equal) refl)

pub loop-other-preserved : goal.loop-other-preserved
loop-other-preserved c =
    let equal : bytes_eq c.other-item.result.items c.args.name.now ≡ false = search rules in
    let step = at_drop_more (list_any (λ n. bytes_eq n.items c.args.name.now)) c.args.names.now c.loop-other.other-index c.other-item.result c.loop-other-test.true in
    let now : list_any (λ n. bytes_eq n.items c.args.name.now) (drop c.loop-other.other-index c.args.names.now) ≡ list_any (λ n. bytes_eq n.items c.args.name.now) (drop (c.loop-other.other-index + 1) c.args.names.now) = step ∙ rw (← c.other-item.is, equal) refl in
    sym now ∙ c.loop-other.invariant

pub returns : goal.returns
returns c =
    let none = at_drop_all (list_any (λ n. bytes_eq n.items c.args.name.now)) c.args.names.now c.loop-other.other-index c.loop-other-test.false in
    sym (sym (among_seen c.args.names.now c.args.name.now) ∙ sym c.loop-other.invariant ∙ none)
