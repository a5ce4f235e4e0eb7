-- The new node fits those that the builder has.
use Rattle.std.proofs.Common.{rules, arith, ◌≡◌, ◌++◌, ◌∷◌, [], List, Contains, Bool, length, subst, sym, ap, ◌∙◌}
use Rattle.std.specs.Prelude.{if◌then◌else◌}
use Rattle.nt_core.specs.declared.netlist.Node.{Node}
use Rattle.nt_core.specs.Conditions.{AreNodes}
use Rattle.nt_core.specs.Forms.{widths, form_width}
use Rattle.nt_core.specs.Growth.{IsIncluded}
use Rattle.nt_core.proofs.Grown.{included, included_below, distinct-push}
use Rattle.nt_core.proofs.NodeLists.{AreNodes-push}
use Rattle.nt_core.proofs.builder.Builder.node.Goals as goal
use Rattle.nt_core.proofs.builder.Builder.node.Goals.{then-is_new, else-is_new}

pub invariant_of-self-then-is_new : goal.invariant_of-self-then-is_new
invariant_of-self-then-is_new c =
    let nodes : List Node = c.self.inside.nodes.items in
    let m : Node = record { width = c.form_width-width.result; op = c.args.op } in
    let same : c.add.new.nodes.items ≡ nodes ++ m ∷ [] = c.add.ensures ∙ ap (λ l. l ++ m ∷ []) c.in_ok-reserve.ensures.items in
    let keys : c.include.new.known.keys ≡ nodes ++ m ∷ [] =
    c.in_ok-number.ensures.keys ∙ ap (λ b. if b then c.self.inside.known.keys ++ m ∷ [] else c.self.inside.known.keys) c.if-is_new.true ∙ ap (λ l. l ++ m ∷ []) c.self.invariant.2 in
    let new : ¬ Contains nodes m = subst (λ l. ¬ Contains l m) c.self.invariant.2 (c.in_ok-number.ensures.new c.if-is_new.true) in
    rw same (
      AreNodes-push nodes m c.self.invariant.0 (omega (arith, c.in_ok-check_room.ensures, c.len.ensures)) (record {
        operands = rw c.self.view_is c.requires;
        width = search rules;
        constant = c.is_constant_in_range.ensures.kept;
      }),
      distinct-push nodes m c.self.invariant.1 new,
      keys,
    )

pub overflow_cast-result : goal.overflow_cast-result
overflow_cast-result c =
    omega (
      arith,
      included_below c.self.inside.known.keys c.include.new.known.keys _ c.in_ok-number.number c.in_ok-number.is_new c.in_ok-number.ensures.there c.in_ok-number.ensures.keys,
      ap length c.self.invariant.2,
      c.len.ensures,
      c.in_ok-check_room.ensures,
    )

pub returns-clause-ok : goal.returns-clause-ok
returns-clause-ok c =
    let old : List Node = c.args.self.now in
    let keys : List Node = c.self.inside.known.keys in
    let m : Node = record { width = c.form_width-width.result; op = c.args.op } in
    let new : List Node = c.include.new.known.keys in
    let new_keys : Bool → List Node = λ is_new. if is_new then keys ++ m ∷ [] else keys in
    let nodes : c.if-is_new.self ≡ new = elim c.if-is_new.branch [
      | then-is_new w ↦ w.self-is ∙ w.add.ensures ∙ ap (λ l. l ++ m ∷ []) (c.in_ok-reserve.ensures.items ∙ sym c.self.invariant.2) ∙ sym (c.in_ok-number.ensures.keys ∙ ap new_keys w.if-is_new.true)
      | else-is_new w ↦ w.self-is ∙ c.in_ok-reserve.ensures.items ∙ sym c.self.invariant.2 ∙ sym (c.in_ok-number.ensures.keys ∙ ap new_keys w.if-is_new.false)
    ] in
    let width : c.form_width-width.result ≡ form_width (widths old) c.args.op =
    c.form_width-width.ensures ∙ ap (λ ns. form_width (widths ns) c.args.op) (c.as_slice.ensures.value ∙ c.self.view_is) in
    subst (λ ns. IsIncluded old c.args.op ns c.in_ok-number.number) (sym nodes)
    (included old c.args.op keys m new c.in_ok-number.number c.in_ok-number.is_new (subst AreNodes c.self.view_is c.self.invariant.0) (c.self.invariant.2 ∙ c.self.view_is)
    (ap (λ w. record { width = w; op = c.args.op }) width) c.in_ok-number.ensures.there c.in_ok-number.ensures.keys c.in_ok-number.ensures.new)
