-- The memory that is written is one of those that are seen.
use Rattle.std.proofs.Common.{◌≡◌, true, sym, ap, ◌∙◌, set}
use Rattle.xt_bits.specs.Operators.{any_of}
use Rattle.nt_core.specs.NodeValue.{value_at}
use Rattle.nt_core.proofs.Writes.{map-set_word}
use Rattle.nt_core.proofs.evaluation.write.Goals as goal

pub returns-then-any : goal.returns-then-any
returns-then-any c =
    let vs = c.args.values.now in
    let w = c.args.entry.now in
    let up : any_of (value_at vs w.when) ≡ true = ap any_of (sym c.value.ensures.value) ∙ sym c.any.ensures ∙ c.if-any.true in
    let place : c.value-then-any-2.result ≡ (value_at vs w.index).value = c.value-then-any-2.ensures.value ∙ ap (λ v. v.value) c.value-then-any.ensures.value in
    let new : c.set_word.new.words.items ≡ set c.index_mut.result.now.items (value_at vs w.index).value (value_at vs w.value) =
    c.set_word.ensures ∙ ap (λ p. set c.index_mut.result.now.items p c.value-word.result) place
    ∙ ap (set c.index_mut.result.now.items (value_at vs w.index).value) c.value-word.ensures.value in
    rw up (map-set_word (λ v. v.items) c.args.memories.now.items w.memory c.index_mut.result.now c.set_word.new.words _ _ c.requires.memory c.index_mut.ensures.value new)
