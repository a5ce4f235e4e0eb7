-- The nodes of a netlist have widths in range, and so have their values.
use Rattle.std.proofs.Common.{◌≡◌, ℕ, zero, suc, ◌<◌, ◌≤◌, List, [], ◌∷◌, ◌++◌, length, take, arith, refl, subst, sym, ap, ◌∙◌, Some, lit≤}
use Rattle.std.specs.Prelude.{slice_get, slice_index, All, IfSome}
use Rattle.std.proofs.lemmas.Option.{same_Some, none-some, get_or_from_slice_get, slice_get_within}
use Rattle.std.proofs.lemmas.List.{length-map, get_or-take, length-take-le, map-append, take_all, take-map}
use Rattle.xt_bits.specs.Word as bits
use Rattle.xt_bits.specs.Word.{IsKept}
use Rattle.nt_core.specs.declared.netlist.Node.{Node}
use Rattle.nt_core.specs.declared.netlist.Op.{Op}
use Rattle.nt_core.specs.declared.netlist.Op.TheVariants.{Pin, Ack, Ret, Reg, Const, Word, Not, And, Or, Xor, Add, Sub, Mul, Div, Rem, SDiv, SRem, Shl, Shr, Sar, Eq, Lt, SLt, Parity, Choice, Concat, Slice, Copies}
use Rattle.nt_core.specs.Parts.{Parts}
use Rattle.nt_core.specs.Sources.{Sources}
use Rattle.nt_core.specs.Forms.{IsWidth, widths, form_width, HasOperands, constant_of, IsNode}
use Rattle.nt_core.specs.Conditions.{HasSource, AreNodes, IsNetlist}
use Rattle.nt_core.specs.NodeValue.{value_of, values}
use Rattle.nt_core.specs.Fitting.{value_widths, SourcesFit}
use Rattle.nt_core.proofs.Values.{values-push, value_of-width}

-- all of these widths are in range
abbrev pub AreInRange : List ℕ → Type 0
AreInRange ws = (a : ℕ) → a < length ws → IsWidth (slice_index ws a)

-- a form over nodes in range gives a width in range
pub form_width-range : (ws : List ℕ) → AreInRange ws → (op : Op) → HasOperands ws op → IfSome (constant_of op) (λ k. IsKept k.width k.value) → IsWidth (form_width ws op)
form_width-range ws r (Pin p w) ok k = ok
form_width-range ws r (Ack p) ok k = (lit≤ tt, lit≤ tt)
form_width-range ws r (Ret p i w) ok k = ok
form_width-range ws r (Reg g w) ok k = ok
form_width-range ws r (Const c) ok k = (k.0, k.1)
form_width-range ws r (Word m a w) ok k = ok.1
form_width-range ws r (Not a) ok k = r a ok
form_width-range ws r (And a b) ok k = r a ok.0
form_width-range ws r (Or a b) ok k = r a ok.0
form_width-range ws r (Xor a b) ok k = r a ok.0
form_width-range ws r (Add a b) ok k = r a ok.0
form_width-range ws r (Sub a b) ok k = r a ok.0
form_width-range ws r (Mul a b) ok k = r a ok.0
form_width-range ws r (Div a c) ok k = r a ok.0
form_width-range ws r (Rem a c) ok k = r a ok.0
form_width-range ws r (SDiv a c) ok k = r a ok.0
form_width-range ws r (SRem a c) ok k = r a ok.0
form_width-range ws r (Shl a b) ok k = r a ok.0
form_width-range ws r (Shr a b) ok k = r a ok.0
form_width-range ws r (Sar a b) ok k = r a ok.0
form_width-range ws r (Eq a b) ok k = (lit≤ tt, lit≤ tt)
form_width-range ws r (Lt a b) ok k = (lit≤ tt, lit≤ tt)
form_width-range ws r (SLt a b) ok k = (lit≤ tt, lit≤ tt)
form_width-range ws r (Parity a) ok k = (lit≤ tt, lit≤ tt)
form_width-range ws r (Choice a b c) ok k = r b ok.2.0
form_width-range ws r (Concat a b) ok k = (omega (arith, (r a ok.0).0), ok.2)
form_width-range ws r (Slice a high low) ok k = (omega arith, omega (arith, ok.3, (r a ok.0).1))
form_width-range ws r (Copies a times) ok k = ok.2

-- the node at a place, and its width
node_at : (ns : List Node) (i : ℕ) → i < length ns → (m : Node) × (slice_get ns i ≡ Some m) × (slice_index (widths ns) i ≡ m.width)
node_at [] i h = absurd (omega arith)
node_at (m ∷ ns) zero h = (m, refl, refl)
node_at (m ∷ ns) (suc i) h = node_at ns i (omega arith)

-- by the places below one
in_range_below : (ns : List Node) → AreNodes ns → (k i : ℕ) → i < k → i < length ns → IsWidth (slice_index (widths ns) i)
in_range_below ns are zero i h l = absurd (omega arith)
in_range_below ns are (suc k) i h l =
    let size : length (widths ns) ≡ length ns = length-map ns (λ (m : Node). m.width) in
    let front : length (take i (widths ns)) ≡ i = length-take-le i (widths ns) (omega arith) in
    let m = node_at ns i l in
    let is : IsNode (take i (widths ns)) m.0 = are.each i m.0 m.1 in
    let before : AreInRange (take i (widths ns)) = λ a g.
    let below : a < i = omega arith in
    subst IsWidth (sym (get_or-take i (widths ns) a 0 below)) (in_range_below ns are k a (omega arith) (omega arith)) in
    subst IsWidth (sym (m.2 ∙ is.width)) (form_width-range (take i (widths ns)) before m.0.op is.operands is.constant)

-- every node's width is in range
pub nodes-in_range : (ns : List Node) → AreNodes ns → AreInRange (widths ns)
nodes-in_range ns are i h = in_range_below ns are (suc i) i (omega arith) (omega (arith, h, length-map ns (λ (m : Node). m.width)))

-- ---- values

-- the first elements with one more
pub take-suc_at : {X : Type 0} (xs : List X) (i : ℕ) (x : X) → slice_get xs i ≡ Some x → take (suc i) xs ≡ take i xs ++ x ∷ []
take-suc_at [] i x e = absurd (none-some x e)
take-suc_at (y ∷ xs) zero x e = ap (λ z. z ∷ []) (same_Some y x e)
take-suc_at (y ∷ xs) (suc i) x e = ap (λ z. y ∷ z) (take-suc_at xs i x e)

-- one more node has a value of its width
values-widths_more : (n : Parts) (s : Sources) → SourcesFit n s → (i : ℕ) (m : Node) → slice_get n.nodes i ≡ Some m → HasSource n m.op → IsNode (take i (widths n.nodes)) m
    → value_widths (values (take i n.nodes) s) ≡ take i (widths n.nodes)
    → value_widths (values (take (suc i) n.nodes) s) ≡ take (suc i) (widths n.nodes)
values-widths_more n s fits i m e src is before =
    let f : Node → ℕ = λ n. n.width in
    let vs = values (take i n.nodes) s in
    let v = value_of s vs m.op in
    let whole : value_widths (values (take (suc i) n.nodes) s) ≡ value_widths vs ++ v.width ∷ [] =
    ap (λ ns. value_widths (values ns s)) (take-suc_at n.nodes i m e)
    ∙ ap value_widths (values-push (take i n.nodes) m s) ∙ map-append (λ (v : bits.Word). v.width) vs (v ∷ []) in
    let width : v.width ≡ m.width =
    value_of-width n s fits vs m.op src (subst (λ ws. HasOperands ws m.op) (sym before) is.operands)
    ∙ ap (λ ws. form_width ws m.op) before ∙ sym is.width in
    let ends : take (suc i) (widths n.nodes) ≡ take i (widths n.nodes) ++ m.width ∷ [] =
    take-map f (suc i) n.nodes ∙ ap widths (take-suc_at n.nodes i m e) ∙ map-append f (take i n.nodes) (m ∷ [])
    ∙ ap (λ ws. ws ++ m.width ∷ []) (sym (take-map f i n.nodes)) in
    whole ∙ ap (λ ws. ws ++ v.width ∷ []) before ∙ ap (λ w. take i (widths n.nodes) ++ w ∷ []) width ∙ sym ends

-- the values of the first nodes have those nodes' widths
pub values-widths_to : (n : Parts) (s : Sources) → SourcesFit n s → AreNodes n.nodes → All (λ m. HasSource n m.op) n.nodes → (i : ℕ) → i ≤ length n.nodes
    → value_widths (values (take i n.nodes) s) ≡ take i (widths n.nodes)
values-widths_to n s fits are src zero h = refl
values-widths_to n s fits are src (suc i) h =
    let l : i < length n.nodes = omega arith in
    let m = node_at n.nodes i l in
    values-widths_more n s fits i m.0 m.1
    (subst (λ k. HasSource n k.op) (get_or_from_slice_get n.nodes i m.0 m.0 m.1) (src i m.0 l)) (are.each i m.0 m.1)
    (values-widths_to n s fits are src i (omega arith))

pub values-widths : (n : Parts) (s : Sources) → SourcesFit n s → AreNodes n.nodes → All (λ m. HasSource n m.op) n.nodes → value_widths (values n.nodes s) ≡ widths n.nodes
values-widths n s fits are src =
    ap (λ ns. value_widths (values ns s)) (sym (take_all (length n.nodes) n.nodes (omega arith)))
    ∙ values-widths_to n s fits are src (length n.nodes) (omega arith)
    ∙ take_all (length n.nodes) (widths n.nodes) (omega (arith, length-map n.nodes (λ (m : Node). m.width)))

-- a node's operands are among the values of the nodes before it
pub values-operands : (n : Parts) (s : Sources) → SourcesFit n s → IsNetlist n → (i : ℕ) (m : Node) → slice_get n.nodes i ≡ Some m
    → HasOperands (value_widths (values (take i n.nodes) s)) m.op
values-operands n s fits is i m e =
    subst (λ ws. HasOperands ws m.op)
    (sym (values-widths_to n s fits is.nodes is.shell.connected.sources i (omega (arith, slice_get_within n.nodes i m e))))
    (is.nodes.each i m e).operands
