-- A node's value is its form's, over the values of the nodes before it or over those of all, and has the node's width.
use Rattle.std.proofs.Common.{◌≡◌, ℕ, zero, suc, ◌<◌, ◌≤◌, List, [], ◌∷◌, ◌++◌, length, take, drop, get_or, arith, refl, sym, ap, ◌∙◌, Some}
use Rattle.std.specs.Prelude.{slice_get, slice_index, if◌then◌else◌, pos, ◌-◌, ◌+◌, true, false, All}
use Rattle.std.proofs.lemmas.Option.{same_Some, slice_get_within}
use Rattle.std.proofs.lemmas.List.{length-map, length-take-le, get_or-take, get_or_at, take-append-drop}
use Rattle.std.proofs.Math.Seq.{take-append_seam}
use Rattle.xt_bits.specs.Word as bits
use Rattle.xt_bits.specs.Word.{word, truth}
use Rattle.xt_bits.specs.Operators.{add_of, sub_of, mul_of, div_of, rem_of, eq_of, lt_of, and_of, or_of, xor_of, not_of, any_of, odd_of, shl_of, shr_of, sar_of, concat_of, select_of}
use Rattle.nt_core.specs.declared.netlist.Node.{Node}
use Rattle.nt_core.specs.declared.netlist.Op.{Op}
use Rattle.nt_core.specs.declared.netlist.Op.TheVariants.{Pin, Ack, Ret, Reg, Const, Word, Not, And, Or, Xor, Add, Sub, Mul, Div, Rem, SDiv, SRem, Shl, Shr, Sar, Eq, Lt, SLt, Parity, Choice, Concat, Slice, Copies}
use Rattle.nt_core.specs.Parts.{Parts}
use Rattle.nt_core.specs.Sources.{Sources}
use Rattle.nt_core.specs.Forms.{widths, operands, HasOperands}
use Rattle.nt_core.specs.Conditions.{AreNodes, IsNetlist}
use Rattle.nt_core.specs.NodeValue.{value_at, value_of, copies_of, values, node_value}
use Rattle.nt_core.specs.Fitting.{value_widths, SourcesFit}
use Rattle.nt_core.proofs.Values.{folds_on, values-append, values-push, length-values, node_value-append, operand-width}
use Rattle.nt_core.proofs.Ranges.{take-suc_at, values-widths}

-- ---- a form reads its operands alone

both : (f : bits.Word → bits.Word → bits.Word) {x y z t : bits.Word} → x ≡ y → z ≡ t → f x z ≡ f y t
both f {x} {y} {z} {t} p q = ap (λ v. f v z) p ∙ ap (f y) q

three : (f : bits.Word → bits.Word → bits.Word → bits.Word) {x y z t u v : bits.Word} → x ≡ y → z ≡ t → u ≡ v → f x z u ≡ f y t v
three f {x} {y} {z} {t} {u} {v} p q r = ap (λ w. f w z u) p ∙ ap (λ w. f y w u) q ∙ ap (f y t) r

module _ (s : Sources) (vs us : List bits.Word) where
  first : (a : ℕ) (more : List ℕ) → All (λ n. value_at vs n ≡ value_at us n) (a ∷ more) → value_at vs a ≡ value_at us a
  first a more h = h 0 a (omega arith)

  second : (a b : ℕ) (more : List ℕ) → All (λ n. value_at vs n ≡ value_at us n) (a ∷ b ∷ more) → value_at vs b ≡ value_at us b
  second a b more h = h 1 a (omega arith)

  third : (a b c : ℕ) → All (λ n. value_at vs n ≡ value_at us n) (a ∷ b ∷ c ∷ []) → value_at vs c ≡ value_at us c
  third a b c h = h 2 a (omega arith)

  two : (f : bits.Word → bits.Word → bits.Word) (a b : ℕ) → All (λ n. value_at vs n ≡ value_at us n) (a ∷ b ∷ [])
      → f (value_at vs a) (value_at vs b) ≡ f (value_at us a) (value_at us b)
  two f a b h = both f (first a (b ∷ []) h) (second a b [] h)

  -- where two lists of values agree at the operands, so does the form's value
  pub same_form : (op : Op) → All (λ n. value_at vs n ≡ value_at us n) (operands op) → value_of s vs op ≡ value_of s us op
  same_form (Pin p w) h = refl
  same_form (Ack p) h = refl
  same_form (Ret p i w) h = refl
  same_form (Reg r w) h = refl
  same_form (Const k) h = refl
  same_form (Word m a w) h = ap (λ (v : bits.Word). get_or (get_or s.state.memories m []) v.value (word w 0)) (first a [] h)
  same_form (Not a) h = ap not_of (first a [] h)
  same_form (And a b) h = two and_of a b h
  same_form (Or a b) h = two or_of a b h
  same_form (Xor a b) h = two xor_of a b h
  same_form (Add a b) h = two add_of a b h
  same_form (Sub a b) h = two sub_of a b h
  same_form (Mul a b) h = two mul_of a b h
  same_form (Div a k) h = ap (λ v. div_of v k false) (first a [] h)
  same_form (Rem a k) h = ap (λ v. rem_of v k false) (first a [] h)
  same_form (SDiv a k) h = ap (λ v. div_of v k true) (first a [] h)
  same_form (SRem a k) h = ap (λ v. rem_of v k true) (first a [] h)
  same_form (Shl a b) h = two (λ x (y : bits.Word). shl_of x y.value) a b h
  same_form (Shr a b) h = two (λ x (y : bits.Word). shr_of x y.value) a b h
  same_form (Sar a b) h = two (λ x (y : bits.Word). sar_of x y.value) a b h
  same_form (Eq a b) h = two (λ x y. truth (eq_of x y)) a b h
  same_form (Lt a b) h = two (λ x y. truth (lt_of x y false)) a b h
  same_form (SLt a b) h = two (λ x y. truth (lt_of x y true)) a b h
  same_form (Parity a) h = ap (λ v. truth (odd_of v)) (first a [] h)
  same_form (Choice a b c) h = three (λ x y z. if any_of x then y else z) (first a (b ∷ c ∷ []) h) (second a b (c ∷ []) h) (third a b c h)
  same_form (Concat a b) h = two concat_of a b h
  same_form (Slice a high low) h = ap (λ v. select_of v (pos low) (high - low + 1)) (first a [] h)
  same_form (Copies a times) h = ap (λ v. copies_of v times) (first a [] h)

-- operands that fit are among nodes of these widths
module _ (count : ℕ) where
  below_one : (a : ℕ) → a < count → All (λ n. n < count) (a ∷ [])
  below_one a p zero d h = p
  below_one a p (suc k) d h = absurd (omega arith)

  below_two : (a b : ℕ) → a < count → b < count → All (λ n. n < count) (a ∷ b ∷ [])
  below_two a b p q zero d h = p
  below_two a b p q (suc k) d h = below_one b q k d (omega arith)

  below_three : (a b c : ℕ) → a < count → b < count → c < count → All (λ n. n < count) (a ∷ b ∷ c ∷ [])
  below_three a b c p q r zero d h = p
  below_three a b c p q r (suc k) d h = below_two b c q r k d (omega arith)

pub operands_below : (ws : List ℕ) (op : Op) → HasOperands ws op → All (λ a. a < length ws) (operands op)
operands_below ws (Pin p w) ok = λ k d h. absurd (omega arith)
operands_below ws (Ack p) ok = λ k d h. absurd (omega arith)
operands_below ws (Ret p i w) ok = λ k d h. absurd (omega arith)
operands_below ws (Reg r w) ok = λ k d h. absurd (omega arith)
operands_below ws (Const k) ok = λ k d h. absurd (omega arith)
operands_below ws (Word m a w) ok = below_one (length ws) a ok.0
operands_below ws (Not a) ok = below_one (length ws) a ok
operands_below ws (And a b) ok = below_two (length ws) a b ok.0 ok.1
operands_below ws (Or a b) ok = below_two (length ws) a b ok.0 ok.1
operands_below ws (Xor a b) ok = below_two (length ws) a b ok.0 ok.1
operands_below ws (Add a b) ok = below_two (length ws) a b ok.0 ok.1
operands_below ws (Sub a b) ok = below_two (length ws) a b ok.0 ok.1
operands_below ws (Mul a b) ok = below_two (length ws) a b ok.0 ok.1
operands_below ws (Div a k) ok = below_one (length ws) a ok.0
operands_below ws (Rem a k) ok = below_one (length ws) a ok.0
operands_below ws (SDiv a k) ok = below_one (length ws) a ok.0
operands_below ws (SRem a k) ok = below_one (length ws) a ok.0
operands_below ws (Shl a b) ok = below_two (length ws) a b ok.0 ok.1
operands_below ws (Shr a b) ok = below_two (length ws) a b ok.0 ok.1
operands_below ws (Sar a b) ok = below_two (length ws) a b ok.0 ok.1
operands_below ws (Eq a b) ok = below_two (length ws) a b ok.0 ok.1
operands_below ws (Lt a b) ok = below_two (length ws) a b ok.0 ok.1
operands_below ws (SLt a b) ok = below_two (length ws) a b ok.0 ok.1
operands_below ws (Parity a) ok = below_one (length ws) a ok
operands_below ws (Choice a b c) ok = below_three (length ws) a b c ok.0 ok.2.0 ok.2.1
operands_below ws (Concat a b) ok = below_two (length ws) a b ok.0 ok.1
operands_below ws (Slice a high low) ok = below_one (length ws) a ok.0
operands_below ws (Copies a times) ok = below_one (length ws) a ok.0

-- ---- the node at a place

-- the values of the first nodes are the first values
pub values-take : (nodes : List Node) (s : Sources) (i : ℕ) → i ≤ length nodes → take i (values nodes s) ≡ values (take i nodes) s
values-take nodes s i h =
    let first = values (take i nodes) s in
    let more = folds_on first (drop i nodes) s in
    let whole : values nodes s ≡ first ++ more.0 =
    ap (λ ns. values ns s) (sym (take-append-drop i nodes)) ∙ values-append (take i nodes) (drop i nodes) s ∙ more.1 in
    let size : length first ≡ i = length-values (take i nodes) s ∙ length-take-le i nodes h in
    ap (take i) whole ∙ ap (λ k. take k (first ++ more.0)) (sym size) ∙ take-append_seam first more.0

width_at : (ns : List Node) (i : ℕ) (m : Node) → slice_get ns i ≡ Some m → slice_index (widths ns) i ≡ m.width
width_at [] i m e = cc
width_at (n ∷ ns) zero m e = ap (λ (k : Node). k.width) (same_Some n m e)
width_at (n ∷ ns) (suc i) m e = width_at ns i m e

-- the nodes that a node's form reads stand before it
pub operands_before : (nodes : List Node) → AreNodes nodes → (i : ℕ) (m : Node) → slice_get nodes i ≡ Some m → All (λ a. a < i) (operands m.op)
operands_before nodes are i m at k d h =
    let front : length (take i (widths nodes)) ≡ i =
    length-take-le i (widths nodes) (omega (arith, slice_get_within nodes i m at, length-map nodes (λ (n : Node). n.width))) in
    omega (arith, front, operands_below (take i (widths nodes)) m.op (are.each i m at).operands k d h)

module _ (nodes : List Node) (s : Sources) (i : ℕ) (m : Node) (at : slice_get nodes i ≡ Some m) where
  pub value_before : node_value nodes s i ≡ value_of s (take i (values nodes s)) m.op
  value_before =
      let within : i < length nodes = slice_get_within nodes i m at in
      let front : length (take i nodes) ≡ i = length-take-le i nodes (omega (arith, within)) in
      ap (λ ns. node_value ns s i) (sym (take-append-drop (suc i) nodes))
      ∙ node_value-append (take (suc i) nodes) (drop (suc i) nodes) s i (omega (arith, within, length-take-le (suc i) nodes (omega (arith, within))))
      ∙ ap (λ ns. node_value ns s i) (take-suc_at nodes i m at)
      ∙ ap (λ vs. value_at vs i) (values-push (take i nodes) m s)
      ∙ get_or_at (values (take i nodes) s) (value_of s (values (take i nodes) s) m.op) [] (word 1 0) i (length-values (take i nodes) s ∙ front)
      ∙ ap (λ vs. value_of s vs m.op) (sym (values-take nodes s i (omega (arith, within))))

  pub value_among_all : AreNodes nodes → node_value nodes s i ≡ value_of s (values nodes s) m.op
  value_among_all are =
      value_before
      ∙ same_form s (take i (values nodes s)) (values nodes s) m.op (λ k d h.
      get_or-take i (values nodes s) (get_or (operands m.op) k d) (word 1 0) (operands_before nodes are i m at k d h))

pub value_width : (n : Parts) (s : Sources) → IsNetlist n → SourcesFit n s → (i : ℕ) (m : Node) → slice_get n.nodes i ≡ Some m → (node_value n.nodes s i).width ≡ m.width
value_width n s is fits i m at =
    let wide : value_widths (values n.nodes s) ≡ widths n.nodes = values-widths n s fits is.nodes is.shell.connected.sources in
    operand-width (values n.nodes s) i (omega (arith, ap length wide, length-map n.nodes (λ (k : Node). k.width), slice_get_within n.nodes i m at))
    ∙ ap (λ ws. slice_index ws i) wide ∙ width_at n.nodes i m at
