-- The process of the one module of a tree stands within its tokens.
use Rattle.std.proofs.Common.{◌≡◌, ◌≤◌, ◌+◌, ℕ, List, Option, Some, None, refl, ap, subst, ◌∙◌, arith}
use Rattle.std.specs.Prelude.{option_map}
use Rattle.xt_base.specs.declared.refusals.Place.{Place}
use Rattle.vl_tree.specs.declared.terminals.Terminal.{Terminal}
use Rattle.vl_tree.specs.declared.modules.Module.{Module}
use Rattle.vl_tree.specs.declared.modules.Item.{Item}
use Rattle.vl_tree.specs.declared.statements.Stmt.{Stmt, out-Stmt}
use Rattle.vl_tree.specs.declared.statements.Citem.{Citem}
use Rattle.vl_tree.specs.declared.statements.Citem.TheOpen as layer
use Rattle.vl_tree.specs.Lists.{Many, end, next}
use Rattle.vl_tree.specs.Modules as modules
use Rattle.vl_tree.specs.Modules.{IsItem, IsModule}
use Rattle.vl_tree.specs.Statements.{IsStmts}
use Rattle.xt_compile.specs.first.Tree.{Process, only, place_at, block_layer, block_of, always_of, process_of}
use Rattle.xt_compile.proofs.first_form.Somes.{some_one, none_some}
use Rattle.xt_compile.proofs.first_form.FormSteps.{Spans, spans}

module _ (ls : List Terminal) (names : List (List ℕ)) where
  -- statements stand before a place
  pub record StandBefore (ss : List Stmt) (j : ℕ) : Type 0 where
    pub depth : ℕ
    pub from : ℕ
    pub to : ℕ
    pub stand : IsStmts ls names depth from to ss
    pub before : to ≤ j

  block_stands : (x : layer.Stmt-F Citem Stmt) (i j : ℕ) (b : ℕ × List Stmt) → block_layer x ≡ Some b → Spans ls names i j x → StandBefore b.1 j
  block_stands (layer.Block at None body) i j b e s =
      let same : (at, body) ≡ b = some_one e in
      let last = s.4 in
      subst (λ (c : ℕ × List Stmt). StandBefore c.1 j) same (record { depth = s.0; from = s.1; to = s.2; stand = s.3; before = omega (arith, last) })
  block_stands x i j b e s = absurd (none_some e)

  module _ (places : List Place) where
    mapped : (at : ℕ) (o : Option (ℕ × List Stmt)) (p : Process) → option_map (λ block. (place_at places at, place_at places block.0, block.1)) o ≡ Some p → (b : ℕ × List Stmt) × (o ≡ Some b) × (b.1 ≡ p.2)
    mapped at None p e = absurd (none_some e)
    mapped at (Some b) p e = (b, refl, ap (λ (q : Process). q.2) (some_one e))

    item_stands : {n i j : ℕ} {x : Item} → IsItem ls names n i j x → (p : Process) → always_of places (Some x) ≡ Some p → StandBefore p.2 j
    item_stands {i = i} {j = j} (modules.always {s = s} at h) p e =
        let b = mapped i (block_of s) p e in
        subst (λ (ss : List Stmt). StandBefore ss j) b.2 (block_stands (out-Stmt s) (i + 1) j b.0 b.1 (spans ls names h))
    item_stands h p e = absurd (none_some e)

    items_stand : {n i j : ℕ} {xs : List Item} → Many (IsItem ls names n) i j xs → (p : Process) → always_of places (only xs) ≡ Some p → StandBefore p.2 j
    items_stand end p e = absurd (none_some e)
    items_stand (next h end) p e = item_stands h p e
    items_stand (next h (next g more)) p e = absurd (none_some e)

    module_stands : {n i j : ℕ} {m : Module} → IsModule ls names n i j m → (p : Process) → process_of places m ≡ Some p → StandBefore p.2 j
    module_stands (modules.«module» a b c d k items z) p e =
        let s = items_stand items p e in
        let within = s.before in
        record { depth = s.depth; from = s.from; to = s.to; stand = s.stand; before = omega (arith, within) }

    pub process_stands : {n i j : ℕ} {ms : List Module} → Many (IsModule ls names n) i j ms → (m : Module) (p : Process) → only ms ≡ Some m → process_of places m ≡ Some p → StandBefore p.2 j
    process_stands end m p one e = absurd (none_some one)
    process_stands (next h end) m p one e = module_stands h p (ap (process_of places) (some_one one) ∙ e)
    process_stands (next h (next g more)) m p one e = absurd (none_some one)
