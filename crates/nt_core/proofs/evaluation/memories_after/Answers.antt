-- The netlist's conditions say that what is written is there.
use Rattle.std.proofs.Common.{◌≡◌, ◌∙◌, subst, ap, arith, length, get_or, map, take}
use Rattle.std.proofs.lemmas.List.{length-map}
use Rattle.nt_core.specs.Conditions.{IsNetlist, IsWrite}
use Rattle.nt_core.proofs.Writes.{write_at, write_below, length-writes}
use Rattle.nt_core.proofs.evaluation.memories_after.Goals as goal

-- the write that the loop has reached
is_write : (c : goal.After-memories-1) → IsWrite c.args.netlist.now (get_or c.as_slice-entry-items.result.now c.loop-entry.entry-index (record { memory = 0; when = 0; index = 0; value = 0 }))
is_write c =
    write_at c.args.netlist.now _ _ _ (subst IsNetlist c.netlist.view_is c.netlist.invariant) (c.as_slice-entry-items.ensures.value ∙ ap (λ p. p.writes) c.netlist.view_is) c.loop-entry-test.true

pub write-requires-clause-memory : goal.write-requires-clause-memory
write-requires-clause-memory c =
    let now : length (map (λ v. v.items) c.loop-entry.memories.items) ≡ length (map (λ v. v.items) c.args.memories.items) =
    ap length c.loop-entry.invariant
    ∙ length-writes c.args.values.now (map (λ v. v.items) c.args.memories.items) (take c.loop-entry.entry-index c.as_slice-entry-items.result.now) in
    omega (arith, (is_write c).memory, c.requires.memories, now, length-map c.args.memories.items (λ v. v.items), length-map c.loop-entry.memories.items (λ v. v.items))

pub write-requires-clause-when : goal.write-requires-clause-when
write-requires-clause-when c = omega (arith, c.requires.values, (write_below c.args.netlist.now _ (is_write c)).when)

pub write-requires-clause-value : goal.write-requires-clause-value
write-requires-clause-value c = omega (arith, c.requires.values, (write_below c.args.netlist.now _ (is_write c)).value)
