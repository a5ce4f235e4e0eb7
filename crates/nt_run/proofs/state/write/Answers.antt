-- The memory that is written is one of those that are seen.
use Rattle.std.proofs.Common.{◌≡◌, true, sym, ap, ◌∙◌, set, get_or, length}
use Rattle.std.proofs.lemmas.List.{with_items_is, get_or_read, length-set}
use Rattle.xt_bits.specs.Word.{word}
use Rattle.xt_bits.specs.Operators.{any_of}
use Rattle.nt_core.specs.NodeValue.{value_at}
use Rattle.nt_core.proofs.Writes.{map-set_word}
use Rattle.nt_run.proofs.state.write.Goals as goal

pub returns-then-any : goal.returns-then-any
returns-then-any c =
    let vs = c.args.values.now in
    let w = c.args.entry.now in
    let when = get_or_read vs w.when c.index-values-entry.result c.requires.when c.index-values-entry.is (word 1 0) in
    let value = get_or_read vs w.value c.index-values-entry-then-any.result c.requires.value c.index-values-entry-then-any.is (word 1 0) in
    let index = get_or_read vs w.index c.index-values-entry-then-any-2.result c.requires.index c.index-values-entry-then-any-2.is (word 1 0) in
    let up : any_of (value_at vs w.when) ≡ true = ap any_of (sym when) ∙ sym c.any.ensures ∙ c.if-any.true in
    let place : c.value-place.result ≡ (value_at vs w.index).value = c.value-place.ensures.value ∙ ap (λ v. v.value) index in
    let old = get_or c.args.memories.now w.memory c.index-memories-entry.result in
    let new : c.set_word.new.words ≡ set old.items (value_at vs w.index).value (value_at vs w.value) =
    c.set_word.ensures ∙ ap (λ l. set l c.value-place.result c.index-values-entry-then-any.result) c.deref_mut.ensures.value
    ∙ ap (λ p. set old.items p c.index-values-entry-then-any.result) place
    ∙ ap (set old.items (value_at vs w.index).value) value in
    let size : length c.set_word.new.words ≡ old.len = ap length c.set_word.ensures ∙ length-set _ _ _ ∙ c.deref_mut.ensures.len in
    rw up (map-set_word (λ v. v.items) c.args.memories.now w.memory old _ _ _ c.requires.memory
    (ap (get_or c.args.memories.now w.memory) c.index-memories-entry.is) (with_items_is old c.set_word.new.words size ∙ new))
