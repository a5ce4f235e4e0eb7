-- Nodes that are driven, and writes to memories.
use Rattle.std.proofs.Common.{◌≡◌, ℕ, zero, suc, ◌<◌, List, [], ◌∷◌, length, map, set, get_or, arith, refl, subst, sym, ap, ◌∙◌, Bool, true, false, Some}
use Rattle.std.specs.Prelude.{slice_get, fold, if◌then◌else◌, All}
use Rattle.std.proofs.lemmas.Option.{slice_get_within, slice_get-get_or}
use Rattle.std.proofs.lemmas.List.{length-map, length-set, map-set, get_or-map}
use Rattle.xt_bits.specs.Word.{Word}
use Rattle.xt_bits.specs.Operators.{any_of}
use Rattle.nt_core.specs.declared.netlist.Node.{Node}
use Rattle.nt_core.specs.declared.netlist.Memory.{Memory}
use Rattle.nt_core.specs.declared.netlist.MemWrite.{MemWrite}
use Rattle.nt_core.specs.Parts.{Parts}
use Rattle.nt_core.specs.Forms.{widths}
use Rattle.nt_core.specs.Conditions.{Drive, IsWrite, IsNetlist}
use Rattle.nt_core.specs.NodeValue.{value_at}
use Rattle.nt_core.specs.Tick.{written}

-- each node that drives is there
driven_at : (ws drives wanted : List ℕ) → map (slice_get ws) drives ≡ map Some wanted → (k d : ℕ) → k < length drives → (w : ℕ) × (slice_get ws (get_or drives k d) ≡ Some w)
driven_at ws [] wanted e k d h = absurd (omega arith)
driven_at ws (a ∷ drives) [] e k d h = cc
driven_at ws (a ∷ drives) (w ∷ wanted) e zero d h = (w, cc)
driven_at ws (a ∷ drives) (w ∷ wanted) e (suc k) d h = driven_at ws drives wanted (cc) k d (omega arith)

pub driven_below : (nodes : List Node) (drives wanted : List ℕ) → Drive nodes drives wanted → All (λ a. a < length nodes) drives
driven_below nodes drives wanted e k d h =
    let at = driven_at (widths nodes) drives wanted e k d h in
    omega (arith, slice_get_within (widths nodes) (get_or drives k d) at.0 at.1, length-map nodes (λ (m : Node). m.width))

-- each write is one of the netlist's
pub write_at : (n : Parts) (writes : List MemWrite) (i : ℕ) (d : MemWrite) → IsNetlist n → writes ≡ n.writes → i < length writes → IsWrite n (get_or writes i d)
write_at n writes i d is same within = subst (λ l. All (IsWrite n) l) (sym same) is.shell.connected.writes i d within

-- the nodes of a write are there
pub record AreBelow (n : Parts) (w : MemWrite) : Type 0 where
  pub when : w.when < length n.nodes
  pub value : w.value < length n.nodes

pub write_below : (n : Parts) (w : MemWrite) → IsWrite n w → AreBelow n w
write_below n w is =
    let size = length-map n.nodes (λ (m : Node). m.width) in
    let width : Memory → ℕ = λ m. m.width in
    let there = slice_get-get_or (map width n.memories) w.memory 0 (omega (arith, is.memory, length-map n.memories width)) in
    record {
      when = omega (arith, size, slice_get_within (widths n.nodes) w.when 1 is.when);
      value = omega (arith, size, slice_get_within (widths n.nodes) w.value _ (is.value ∙ there));
    }

-- a write leaves the number of memories
length-if : (b : Bool) (xs ys : List (List Word)) (n : ℕ) → length xs ≡ n → length ys ≡ n → length (if b then xs else ys) ≡ n
length-if true xs ys n p q = p
length-if false xs ys n p q = q

pub length-written : (vs : List Word) (memories : List (List Word)) (w : MemWrite) → length (written vs memories w) ≡ length memories
length-written vs memories w = length-if (any_of (value_at vs w.when)) _ memories (length memories) (length-set memories w.memory _) refl

pub length-writes : (vs : List Word) (memories : List (List Word)) (ws : List MemWrite) → length (fold (written vs) memories ws) ≡ length memories
length-writes vs memories [] = refl
length-writes vs memories (w ∷ ws) = length-writes vs (written vs memories w) ws ∙ length-written vs memories w

-- a list whose item at i is changed at one place, seen through its items' lists
pub map-set_word : {V : Type 0} (f : V → List Word) (xs : List V) (i : ℕ) (old new : V) (p : ℕ) (w : Word) → i < length xs → old ≡ get_or xs i old → f new ≡ set (f old) p w
    → map f (set xs i new) ≡ set (map f xs) i (set (get_or (map f xs) i []) p w)
map-set_word f xs i old new p w h is e =
    map-set f xs i new ∙ ap (set (map f xs) i) (e ∙ ap (λ l. set l p w) (ap f is ∙ sym (get_or-map f xs i old [] h)))
