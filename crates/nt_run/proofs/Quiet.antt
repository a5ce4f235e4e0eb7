-- Where nothing is acknowledged the values of a tick are those of a settling.
use Rattle.std.proofs.Common.{◌≡◌, ℕ, zero, suc, List, [], ◌∷◌, ◌++◌, map, get_or, true, false, not, Option, Some, None, refl, ap, sym, ◌∙◌}
use Rattle.std.specs.Prelude.{is_some, unwrap_or, slice_index, fold}
use Rattle.std.specs.List.{list_any}
use Rattle.xt_bits.specs.Word as bits
use Rattle.xt_bits.specs.Word.{word, truth}
use Rattle.nt_core.specs.declared.netlist.Node.{Node}
use Rattle.nt_core.specs.declared.netlist.Op.{Op}
use Rattle.nt_core.specs.declared.netlist.Op.TheVariants.{Pin, Ack, Ret, Reg, Const, Word, Not, And, Or, Xor, Add, Sub, Mul, Div, Rem, SDiv, SRem, Shl, Shr, Sar, Eq, Lt, SLt, Parity, Choice, Concat, Slice, Copies}
use Rattle.nt_core.specs.Parts.{Parts}
use Rattle.nt_core.specs.Sources.{State, Sources, silent}
use Rattle.nt_core.specs.NodeValue.{value_of}
use Rattle.nt_core.specs.Tick.{tick_values, settled}
use Rattle.nt_run.specs.Acknowledged.{Acknowledged, is_quiet, driven_by}

-- no process is acknowledged
no_ack : (rs : List (Option (List ℕ))) (p : ℕ) → not (list_any is_some rs) ≡ true → get_or (map is_some rs) p false ≡ false
no_ack [] p e = refl
no_ack (None ∷ rs) zero e = refl
no_ack (None ∷ rs) (suc p) e = no_ack rs p e
no_ack (Some r ∷ rs) p e = cc

-- no process has items
no_items : (rs : List (Option (List ℕ))) (p : ℕ) → not (list_any is_some rs) ≡ true → get_or (map (λ r. unwrap_or r []) rs) p [] ≡ []
no_items [] p e = refl
no_items (None ∷ rs) zero e = refl
no_items (None ∷ rs) (suc p) e = no_items rs p e
no_items (Some r ∷ rs) p e = cc

module _ (row : List bits.Word) (a : Acknowledged) (s : State) (quiet : is_quiet a ≡ true) where
  abbrev in_tick : Sources
  in_tick = record { inputs = driven_by row a; state = s }

  abbrev at_rest : Sources
  at_rest = record { inputs = silent row; state = s }

  form : (vs : List bits.Word) (op : Op) → value_of in_tick vs op ≡ value_of at_rest vs op
  form vs (Pin p w) = refl
  form vs (Ack p) = ap truth (no_ack a.replies p quiet)
  form vs (Ret p i w) = ap (λ is. word w (slice_index is i)) (no_items a.replies p quiet)
  form vs (Reg r w) = refl
  form vs (Const k) = refl
  form vs (Word m x w) = refl
  form vs (Not x) = refl
  form vs (And x y) = refl
  form vs (Or x y) = refl
  form vs (Xor x y) = refl
  form vs (Add x y) = refl
  form vs (Sub x y) = refl
  form vs (Mul x y) = refl
  form vs (Div x k) = refl
  form vs (Rem x k) = refl
  form vs (SDiv x k) = refl
  form vs (SRem x k) = refl
  form vs (Shl x y) = refl
  form vs (Shr x y) = refl
  form vs (Sar x y) = refl
  form vs (Eq x y) = refl
  form vs (Lt x y) = refl
  form vs (SLt x y) = refl
  form vs (Parity x) = refl
  form vs (Choice x y z) = refl
  form vs (Concat x y) = refl
  form vs (Slice x high low) = refl
  form vs (Copies x times) = refl

  onwards : (vs : List bits.Word) (ns : List Node)
      → fold (λ us n. us ++ value_of in_tick us n.op ∷ []) vs ns ≡ fold (λ us n. us ++ value_of at_rest us n.op ∷ []) vs ns
  onwards vs [] = refl
  onwards vs (n ∷ ns) =
      ap (λ v. fold (λ us n. us ++ value_of in_tick us n.op ∷ []) (vs ++ v ∷ []) ns) (form vs n.op)
      ∙ onwards (vs ++ value_of at_rest vs n.op ∷ []) ns

  pub quiet-values : (n : Parts) → settled n row s ≡ tick_values n (driven_by row a) s
  quiet-values n = sym (onwards [] n.nodes)
