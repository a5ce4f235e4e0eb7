-- The values of a list of nodes, as the list grows, and their widths.
use Rattle.std.proofs.Common.{◌≡◌, ℕ, zero, suc, ◌<◌, List, [], ◌∷◌, ◌++◌, length, map, get_or, replicate, arith, refl, subst, sym, ap, ◌∙◌, Some, Bool, true, false}
use Rattle.std.specs.Prelude.{slice_get, slice_index, fold, if◌then◌else◌}
use Rattle.std.proofs.lemmas.Option.{same_Some, none-some}
use Rattle.std.proofs.lemmas.List.{length-map, get_or-map, get_or_append_left, append_assoc, append-nil}
use Rattle.std.proofs.lemmas.List.Sums.{fold-append}
use Rattle.xt_bits.specs.Word as bits
use Rattle.xt_bits.specs.Word.{word}
use Rattle.xt_bits.specs.Operators.{any_of}
use Rattle.nt_core.specs.declared.netlist.Node.{Node}
use Rattle.nt_core.specs.declared.netlist.Memory.{Memory}
use Rattle.nt_core.specs.declared.netlist.Op.{Op}
use Rattle.nt_core.specs.declared.netlist.Op.TheVariants.{Pin, Ack, Ret, Reg, Const, Word, Not, And, Or, Xor, Add, Sub, Mul, Div, Rem, SDiv, SRem, Shl, Shr, Sar, Eq, Lt, SLt, Parity, Choice, Concat, Slice, Copies}
use Rattle.nt_core.specs.Parts.{Parts}
use Rattle.nt_core.specs.Sources.{Sources}
use Rattle.nt_core.specs.Forms.{form_width, HasOperands}
use Rattle.nt_core.specs.Conditions.{HasSource}
use Rattle.nt_core.specs.NodeValue.{value_at, value_of, values, node_value}
use Rattle.nt_core.specs.Growth.{Grows}
use Rattle.nt_core.specs.Fitting.{value_widths, SourcesFit}

-- ---- growth

-- the values of more nodes begin with those of the first
pub values-append : (xs ys : List Node) (s : Sources) → values (xs ++ ys) s ≡ fold (λ vs n. vs ++ value_of s vs n.op ∷ []) (values xs s) ys
values-append xs ys s = fold-append (λ vs n. vs ++ value_of s vs n.op ∷ []) [] xs ys

-- one more node has one more value
pub values-push : (xs : List Node) (m : Node) (s : Sources) → values (xs ++ m ∷ []) s ≡ values xs s ++ value_of s (values xs s) m.op ∷ []
values-push xs m s = values-append xs (m ∷ []) s

-- each node adds one value at the end
pub folds_on : (vs : List bits.Word) (ys : List Node) (s : Sources) → (more : List bits.Word) × (fold (λ vs n. vs ++ value_of s vs n.op ∷ []) vs ys ≡ vs ++ more) × (length more ≡ length ys)
folds_on vs [] s = ([], sym (append-nil vs), refl)
folds_on vs (m ∷ ys) s =
    let v : bits.Word = value_of s vs m.op in
    let rest = folds_on (vs ++ v ∷ []) ys s in
    (v ∷ rest.0, rest.1 ∙ append_assoc vs (v ∷ []) rest.0, ap suc rest.2)

-- as many values as nodes
pub length-values : (xs : List Node) (s : Sources) → length (values xs s) ≡ length xs
length-values xs s = let p = folds_on [] xs s in ap length p.1 ∙ p.2

-- a node keeps its value as more nodes follow
pub node_value-append : (xs ys : List Node) (s : Sources) (a : ℕ) → a < length xs → node_value (xs ++ ys) s a ≡ node_value xs s a
node_value-append xs ys s a h =
    let p = folds_on (values xs s) ys s in
    ap (λ vs. get_or vs a (word 1 0)) (values-append xs ys s ∙ p.1)
    ∙ get_or_append_left (values xs s) p.0 (word 1 0) a (omega (arith, length-values xs s, h))

pub node_value-grows : (old new : List Node) → Grows old new → (s : Sources) (a : ℕ) → a < length old → node_value new s a ≡ node_value old s a
node_value-grows old new g s a h = ap (λ ns. node_value ns s a) g.is ∙ node_value-append old g.more s a h

pub Grows-refl : (ns : List Node) → Grows ns ns
Grows-refl ns = record { more = []; is = sym (append-nil ns) }

pub Grows-trans : (a b c : List Node) → Grows a b → Grows b c → Grows a c
Grows-trans a b c g h = record { more = g.more ++ h.more; is = h.is ∙ ap (λ k. k ++ h.more) g.is ∙ append_assoc a g.more h.more }

-- ---- widths

-- a value whose width is told
pub get-width : (xs : List bits.Word) (i w : ℕ) (d : bits.Word) → slice_get (value_widths xs) i ≡ Some w → (get_or xs i d).width ≡ w
get-width [] i w d e = absurd (none-some w e)
get-width (x ∷ xs) zero w d e = same_Some x.width w e
get-width (x ∷ xs) (suc i) w d e = get-width xs i w d e

-- an operand has its node's width
pub operand-width : (vs : List bits.Word) (a : ℕ) → a < length (value_widths vs) → (value_at vs a).width ≡ slice_index (value_widths vs) a
operand-width vs a h = sym (get_or-map (λ (v : bits.Word). v.width) vs a (word 1 0) 0 (omega (arith, h, length-map vs (λ (v : bits.Word). v.width))))

-- a word of a memory whose words all have one width
words-width : (xs : List bits.Word) (k w i : ℕ) → value_widths xs ≡ replicate k w → (get_or xs i (word w 0)).width ≡ w
words-width [] k w i e = refl
words-width (x ∷ xs) zero w i e = cc
words-width (x ∷ xs) (suc k) w zero e = cc
words-width (x ∷ xs) (suc k) w (suc i) e = words-width xs k w i (cc)

pub memory-width : (mems : List (List bits.Word)) (ms : List Memory) (m w i : ℕ)
    → map value_widths mems ≡ map (λ k. replicate k.words k.width) ms → slice_get (map (λ k. k.width) ms) m ≡ Some w
    → (get_or (get_or mems m []) i (word w 0)).width ≡ w
memory-width [] ms m w i e f = refl
memory-width (x ∷ mems) [] m w i e f = absurd (none-some w f)
memory-width (x ∷ mems) (k ∷ ms) zero w i e f =
    let here : k.width ≡ w = same_Some k.width w f in
    words-width x k.words w i (subst (λ u. value_widths x ≡ replicate k.words u) here (cc))
memory-width (x ∷ mems) (k ∷ ms) (suc m) w i e f = memory-width mems ms m w i (cc) f

-- a choice of two values of one width
chosen-width : (b : Bool) (x y : bits.Word) (w : ℕ) → x.width ≡ w → y.width ≡ w → (if b then x else y).width ≡ w
chosen-width true x y w p q = p
chosen-width false x y w p q = q

-- a form's value has the form's width
pub value_of-width : (n : Parts) (s : Sources) → SourcesFit n s → (vs : List bits.Word) (op : Op) → HasSource n op → HasOperands (value_widths vs) op
    → (value_of s vs op).width ≡ form_width (value_widths vs) op
value_of-width n s fits vs (Pin p w) src ok = get-width s.inputs.row p w (word w 0) (subst (λ l. slice_get l p ≡ Some w) (sym fits.row) src)
value_of-width n s fits vs (Ack p) src ok = refl
value_of-width n s fits vs (Ret p i w) src ok = refl
value_of-width n s fits vs (Reg r w) src ok = get-width s.state.registers r w (word w 0) (subst (λ l. slice_get l r ≡ Some w) (sym fits.state.registers) src)
value_of-width n s fits vs (Const k) src ok = refl
value_of-width n s fits vs (Word m a w) src ok = memory-width s.state.memories n.memories m w (value_at vs a).value fits.state.memories src
value_of-width n s fits vs (Not a) src ok = operand-width vs a ok
value_of-width n s fits vs (And a b) src ok = operand-width vs a ok.0
value_of-width n s fits vs (Or a b) src ok = operand-width vs a ok.0
value_of-width n s fits vs (Xor a b) src ok = operand-width vs a ok.0
value_of-width n s fits vs (Add a b) src ok = operand-width vs a ok.0
value_of-width n s fits vs (Sub a b) src ok = operand-width vs a ok.0
value_of-width n s fits vs (Mul a b) src ok = operand-width vs a ok.0
value_of-width n s fits vs (Div a k) src ok = operand-width vs a ok.0
value_of-width n s fits vs (Rem a k) src ok = operand-width vs a ok.0
value_of-width n s fits vs (SDiv a k) src ok = operand-width vs a ok.0
value_of-width n s fits vs (SRem a k) src ok = operand-width vs a ok.0
value_of-width n s fits vs (Shl a b) src ok = operand-width vs a ok.0
value_of-width n s fits vs (Shr a b) src ok = operand-width vs a ok.0
value_of-width n s fits vs (Sar a b) src ok = operand-width vs a ok.0
value_of-width n s fits vs (Eq a b) src ok = refl
value_of-width n s fits vs (Lt a b) src ok = refl
value_of-width n s fits vs (SLt a b) src ok = refl
value_of-width n s fits vs (Parity a) src ok = refl
value_of-width n s fits vs (Choice a b c) src ok =
    chosen-width (any_of (value_at vs a)) (value_at vs b) (value_at vs c) (slice_index (value_widths vs) b)
    (operand-width vs b ok.2.0) (operand-width vs c ok.2.1 ∙ sym ok.2.2)
value_of-width n s fits vs (Concat a b) src ok = omega (arith, operand-width vs a ok.0, operand-width vs b ok.1)
value_of-width n s fits vs (Slice a high low) src ok = refl
value_of-width n s fits vs (Copies a times) src ok = refl
