-- What a node means that a builder includes in its nodes.
use Rattle.std.proofs.Common.{◌≡◌, ◌≢◌, ℕ, List, [], ◌∷◌, ◌++◌, Contains, Some, Bool, true, false, inl, inr, length, length-append, refl, arith, sym, ap, ◌∙◌, subst}
use Rattle.std.specs.Prelude.{slice_get, AllPairs, ◌≤◌, if◌then◌else◌}
use Rattle.std.proofs.lemmas.List.{get_or_at}
use Rattle.std.proofs.lemmas.List.Elements.{Contains-get_or}
use Rattle.std.proofs.lemmas.List.Quantifiers.{all_pairs_push}
use Rattle.std.proofs.lemmas.Option.{slice_get_within}
use Rattle.xt_bits.specs.Word.{word}
use Rattle.nt_core.specs.declared.netlist.Node.{Node}
use Rattle.nt_core.specs.declared.netlist.Op.{Op}
use Rattle.nt_core.specs.Conditions.{AreNodes}
use Rattle.nt_core.specs.Growth.{made, IsIncluded, Grows}
use Rattle.nt_core.specs.NodeValue.{value_at, value_of, values, node_value}
use Rattle.nt_core.specs.Sources.{Sources}
use Rattle.nt_core.proofs.FormValues.{value_among_all}
use Rattle.nt_core.proofs.NodeLists.{slice_get-push}
use Rattle.nt_core.proofs.Values.{node_value-append, values-push, length-values, Grows-refl}

-- an old node or a new one at the end has its form's value over the old nodes
value-pushed : (old : List Node) (m : Node) (i : ℕ) (s : Sources) → AreNodes old → slice_get (old ++ m ∷ []) i ≡ Some m
    → node_value (old ++ m ∷ []) s i ≡ value_of s (values old s) m.op
value-pushed old m i s are there = elim (slice_get-push old m i m there) [
  | inl p ↦ node_value-append old (m ∷ []) s i p.0 ∙ value_among_all old s i m p.1 are
  | inr p ↦ ap (λ vs. value_at vs i) (values-push old m s)
      ∙ get_or_at (values old s) (value_of s (values old s) m.op) [] (word 1 0) i (length-values old s ∙ sym p.0)
]

included_at : (old : List Node) (op : Op) (new : List Node) (i : ℕ) (is_new : Bool) → AreNodes old → slice_get new i ≡ Some (made old op)
    → new ≡ (if is_new then old ++ made old op ∷ [] else old) → (is_new ≡ true → ¬ Contains old (made old op)) → IsIncluded old op new i
included_at old op new i false are there same fresh = record {
  there = there;
  nodes = inl same;
  value = λ s. ap (λ ns. node_value ns s i) same ∙ value_among_all old s i (made old op) (ap (λ ns. slice_get ns i) (sym same) ∙ there) are;
}
included_at old op new i true are there added fresh = record {
  there = there;
  nodes = inr (added, fresh refl);
  value = λ s. ap (λ ns. node_value ns s i) added ∙ value-pushed old (made old op) i s are (ap (λ ns. slice_get ns i) (sym added) ∙ there);
}

-- what a set of the old nodes answers for the form's node
pub included : (old : List Node) (op : Op) (keys : List Node) (m : Node) (new : List Node) (i : ℕ) (is_new : Bool) → AreNodes old → keys ≡ old → m ≡ made old op
    → slice_get new i ≡ Some m → new ≡ (if is_new then keys ++ m ∷ [] else keys) → (is_new ≡ true → ¬ Contains keys m) → IsIncluded old op new i
included old op keys m new i is_new are keys_are m_is =
    subst (λ ks. slice_get new i ≡ Some m → new ≡ (if is_new then ks ++ m ∷ [] else ks) → (is_new ≡ true → ¬ Contains ks m) → IsIncluded old op new i) (sym keys_are)
    (subst (λ n. slice_get new i ≡ Some n → new ≡ (if is_new then old ++ n ∷ [] else old) → (is_new ≡ true → ¬ Contains old n) → IsIncluded old op new i) (sym m_is)
    (included_at old op new i is_new are))

-- its number is that of an old node or of the place behind them
pub included_below : (keys new : List Node) (m : Node) (i : ℕ) (is_new : Bool) → slice_get new i ≡ Some m → new ≡ (if is_new then keys ++ m ∷ [] else keys) → i ≤ length keys
included_below keys new m i true there added = omega (arith, slice_get_within new i m there, ap length added, length-append keys (m ∷ []))
included_below keys new m i false there same = omega (arith, slice_get_within new i m there, ap length same)

pub included-grows : (old : List Node) (op : Op) (new : List Node) (i : ℕ) → IsIncluded old op new i → Grows old new
included-grows old op new i is = elim is.nodes [
  | inl same ↦ subst (Grows old) (sym same) (Grows-refl old)
  | inr added ↦ record { more = made old op ∷ []; is = added.0 }
]

-- a node that isn't among others that are distinct
pub distinct-push : (ns : List Node) (m : Node) → AllPairs (λ a b. a ≢ b) ns → (¬ Contains ns m) → AllPairs (λ a b. a ≢ b) (ns ++ m ∷ [])
distinct-push ns m apart new = all_pairs_push (λ a b. a ≢ b) ns m apart (λ k d h e. new (subst (Contains ns) e (Contains-get_or ns k d h)))
