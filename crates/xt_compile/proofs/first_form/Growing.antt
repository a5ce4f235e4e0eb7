-- Nodes that are added keep the widths and the values of those that were there.
use Rattle.std.proofs.Common.{◌≡◌, ◌<◌, ◌++◌, ℕ, zero, suc, List, [], ◌∷◌, Some, length, map, get_or, refl, sym, ap, ◌∙◌, subst, inl, inr, arith}
use Rattle.std.specs.Prelude.{slice_get, slice_index, All}
use Rattle.std.proofs.lemmas.List.{map-append, length-map}
use Rattle.std.proofs.lemmas.List.Elements.{All-push}
use Rattle.std.proofs.lemmas.Option.{same_Some, none-some, slice_get_within, slice_get-get_or}
use Rattle.nt_core.specs.declared.netlist.Node.{Node}
use Rattle.nt_core.specs.declared.netlist.Op.{Op}
use Rattle.nt_core.specs.Conditions.{Drive}
use Rattle.nt_core.specs.Forms.{widths, form_width, AreAlike}
use Rattle.nt_core.specs.Growth.{made, IsIncluded, Grows}
use Rattle.nt_core.specs.NodeValue.{values, value_of, node_value}
use Rattle.nt_core.specs.Sources.{Sources}
use Rattle.nt_core.proofs.Grown.{included-grows}
use Rattle.nt_core.proofs.Values.{node_value-grows, Grows-refl, Grows-trans}
use Rattle.xt_bits.specs.Word as bits
use Rattle.el_design.specs.Queue.{scene_of}
use Rattle.el_design.specs.View.{flat_of}
use Rattle.el_design.specs.declared.designs.Design.{Design}
use Rattle.xt_compile.specs.declared.first.compile.expression.ValueMap.{ValueMap}
use Rattle.xt_compile.specs.first.Nodes.{IsSourced, Extends, HasWidth, Means, IsMap, values_at, words_of, scene_at}

-- ---- what stays

pub extends_refl : (d : Design) (ns : List Node) → Extends d ns ns
extends_refl d ns = record { grows = Grows-refl ns; sourced = λ s. s }

pub extends_trans : (d : Design) (a b c : List Node) → Extends d a b → Extends d b c → Extends d a c
extends_trans d a b c e f = record { grows = Grows-trans a b c e.grows f.grows; sourced = λ s. f.sourced (e.sourced s) }

pub get_front : {X : Type 0} (xs ys : List X) (i : ℕ) (x : X) → slice_get xs i ≡ Some x → slice_get (xs ++ ys) i ≡ Some x
get_front [] ys i x e = absurd (none-some x e)
get_front (z ∷ xs) ys zero x e = e
get_front (z ∷ xs) ys (suc i) x e = get_front xs ys i x e

pub width_grows : (old new : List Node) (i w : ℕ) → Grows old new → HasWidth old i w → HasWidth new i w
width_grows old new i w g h =
    ap (λ ns. slice_get (widths ns) i) g.is ∙ ap (λ ws. slice_get ws i) (map-append (λ (n : Node). n.width) old g.more)
    ∙ get_front (widths old) (widths g.more) i w h

drive_grown : (old new is ws : List ℕ) → ((i w : ℕ) → slice_get old i ≡ Some w → slice_get new i ≡ Some w) → map (slice_get old) is ≡ map Some ws → map (slice_get new) is ≡ map Some ws
drive_grown old new [] [] keep e = refl
drive_grown old new [] (w ∷ ws) keep e = cc
drive_grown old new (i ∷ is) [] keep e = cc
drive_grown old new (i ∷ is) (w ∷ ws) keep e = let head = keep i w (cc) in let tail = drive_grown old new is ws keep (cc) in cc

pub drive_grows : (old new : List Node) (is ws : List ℕ) → Grows old new → Drive old is ws → Drive new is ws
drive_grows old new is ws g h = drive_grown (widths old) (widths new) is ws (λ i w e. width_grows old new i w g e) h

pub map_grows : (d : Design) (old new : List Node) (m : ValueMap) → Extends d old new → IsMap d old m → IsMap d new m
map_grows d old new m e is = record { vars = drive_grows old new _ _ e.grows is.vars; nets = drive_grows old new _ _ e.grows is.nets }

-- ---- one more node

pub added_extends : (d : Design) (old : List Node) (op : Op) (new : List Node) (i : ℕ) → IsIncluded old op new i → IsSourced d op → Extends d old new
added_extends d old op new i is there = record {
  grows = included-grows old op new i is;
  sourced = λ s. record {
    each = elim is.nodes [
      | inl same ↦ subst (λ ns. All (λ m. IsSourced d m.op) ns) (sym same) s.each
      | inr added ↦ subst (λ ns. All (λ m. IsSourced d m.op) ns) (sym added.0) (All-push (λ m. IsSourced d m.op) old (made old op) s.each there)
    ];
  };
}

pub get_at_end : {X : Type 0} (xs : List X) (x : X) (i : ℕ) → i ≡ length xs → slice_get (xs ++ x ∷ []) i ≡ Some x
get_at_end [] x i e = ap (λ k. slice_get (x ∷ []) k) e
get_at_end (z ∷ xs) x zero e = absurd (omega arith)
get_at_end (z ∷ xs) x (suc i) e = get_at_end xs x i (omega arith)

pub get_width : (ns : List Node) (i : ℕ) (m : Node) → slice_get ns i ≡ Some m → HasWidth ns i m.width
get_width [] i m e = absurd (none-some m e)
get_width (n ∷ ns) zero m e = ap (λ (k : Node). Some k.width) (same_Some n m e)
get_width (n ∷ ns) (suc i) m e = get_width ns i m e

pub added_width : (old : List Node) (op : Op) (new : List Node) (i : ℕ) → IsIncluded old op new i → HasWidth new i (form_width (widths old) op)
added_width old op new i is = get_width new i (made old op) is.there

-- a node that is included has its form's width, and its form's value over the others
pub added_means : (d : Design) (old : List Node) (op : Op) (new : List Node) (i w : ℕ) (v : Sources → bits.Word) → IsIncluded old op new i → IsSourced d op → form_width (widths old) op ≡ w
    → ((s : Sources) → value_of s (values old s) op ≡ v s) → Means d old new i w v
added_means d old op new i w v is there e means = record {
  extends = added_extends d old op new i is there;
  width = added_width old op new i is ∙ ap (λ (k : ℕ). Some k) e;
  value = λ s. is.value s ∙ means s;
}

-- ---- values

pub width_below : (ns : List Node) (i w : ℕ) → HasWidth ns i w → i < length ns
width_below ns i w h = let there = slice_get_within (widths ns) i w h in omega (arith, there, length-map ns (λ (n : Node). n.width))

pub value_grows : (old new : List Node) (i w : ℕ) → Grows old new → HasWidth old i w → (s : Sources) → node_value new s i ≡ node_value old s i
value_grows old new i w g h s = node_value-grows old new g s i (width_below old i w h)

values_grown : (old new : List Node) (s : Sources) → Grows old new → (is ws : List ℕ) → Drive old is ws → values_at new s is ≡ values_at old s is
values_grown old new s g [] ws e = refl
values_grown old new s g (i ∷ is) [] e = cc
values_grown old new s g (i ∷ is) (w ∷ ws) e = let head = value_grows old new i w g (cc) s in let tail = values_grown old new s g is ws (cc) in cc

pub values_grow : (old new : List Node) (is ws : List ℕ) → Grows old new → Drive old is ws → (s : Sources) → values_at new s is ≡ values_at old s is
values_grow old new is ws g e s = values_grown old new s g is ws e

pub scene_grows : (d : Design) (old new : List Node) (m : ValueMap) → Grows old new → IsMap d old m → (s : Sources) → scene_at d new m s ≡ scene_at d old m s
scene_grows d old new m g is s =
    ap (λ (vs : List bits.Word). scene_of (flat_of d) (words_of vs) (values_at new s m.nets.items)) (values_grow old new m.vars.items _ g is.vars s)
    ∙ ap (λ (vs : List bits.Word). scene_of (flat_of d) (words_of (values_at old s m.vars.items)) vs) (values_grow old new m.nets.items _ g is.nets s)

-- the same, with other nodes added before
pub means_later : (d : Design) (a b c : List Node) (i w : ℕ) (v : Sources → bits.Word) → Extends d a b → Means d b c i w v → Means d a c i w v
means_later d a b c i w v e g = record { extends = extends_trans d a b c e g.extends; width = g.width; value = g.value }

-- the same, with other nodes added behind
pub means_still : (d : Design) (a b c : List Node) (i w : ℕ) (v : Sources → bits.Word) → Means d a b i w v → Extends d b c → Means d a c i w v
means_still d a b c i w v g e = record {
  extends = extends_trans d a b c g.extends e;
  width = width_grows b c i w e.grows g.width;
  value = λ s. value_grows b c i w e.grows g.width s ∙ g.value s;
}

-- the same value in other words
pub means_as : (d : Design) (a b : List Node) (i w : ℕ) (v u : Sources → bits.Word) → Means d a b i w v → ((s : Sources) → v s ≡ u s) → Means d a b i w u
means_as d a b i w v u g same = record { extends = g.extends; width = g.width; value = λ s. g.value s ∙ same s }

-- ---- nodes by their widths

pub width_within : (ns : List Node) (i w : ℕ) → HasWidth ns i w → (i < length (widths ns)) × (slice_index (widths ns) i ≡ w)
width_within ns i w h = let there = slice_get_within (widths ns) i w h in (there, same_Some _ _ (sym (slice_get-get_or (widths ns) i 0 there) ∙ h))

pub alike : (ns : List Node) (a b w : ℕ) → HasWidth ns a w → HasWidth ns b w → AreAlike (widths ns) a b
alike ns a b w h k = let x = width_within ns a w h in let y = width_within ns b w k in (x.0, y.0, x.1 ∙ sym y.1)

driven : (ws is wanted : List ℕ) (i w : ℕ) → map (slice_get ws) is ≡ map Some wanted → slice_get wanted i ≡ Some w → (i < length is) × (slice_get ws (get_or is i 0) ≡ Some w)
driven ws [] [] i w e h = absurd (none-some w h)
driven ws [] (v ∷ wanted) i w e h = cc
driven ws (k ∷ is) [] i w e h = absurd (none-some w h)
driven ws (k ∷ is) (v ∷ wanted) zero w e h = (omega arith, cc)
driven ws (k ∷ is) (v ∷ wanted) (suc i) w e h = let more = driven ws is wanted i w (cc) h in (omega (arith, more.0), more.1)

-- the node of a thing, by its number
pub node_there : (ns : List Node) (is ws : List ℕ) (i w : ℕ) → Drive ns is ws → slice_get ws i ≡ Some w → i < length is
node_there ns is ws i w e h = (driven (widths ns) is ws i w e h).0

pub node_width : (ns : List Node) (is ws : List ℕ) (i w : ℕ) → Drive ns is ws → slice_get ws i ≡ Some w → HasWidth ns (slice_index is i) w
node_width ns is ws i w e h = (driven (widths ns) is ws i w e h).1
