-- No line of a design's text has a line feed in it.
use Rattle.std.proofs.Common.{◌≡◌, ℕ, ◌+◌, ◌-◌, ◌^◌, ◌≤◌, ◌<◌, true, List, [], ◌∷◌, ◌++◌, length, map, get_or, refl, subst, arith, codes, decimal, slice_index}
use Rattle.std.specs.Prelude.{IfSome}
use Rattle.std.specs.List.{list_all, enumerate_from, AllByRecursion}
use Rattle.std.proofs.lemmas.Option.{slice_get_within}
use Rattle.std.proofs.lemmas.List.{length-map}
use Rattle.xt_bits.specs.Word.{IsKept}
use Rattle.xt_bits.specs.Word as bits
use Rattle.nt_core.specs.declared.netlist.Wire.{Wire}
use Rattle.nt_core.specs.declared.netlist.Memory.{Memory}
use Rattle.nt_core.specs.declared.netlist.Node.{Node}
use Rattle.nt_core.specs.declared.netlist.MemWrite.{MemWrite}
use Rattle.nt_core.specs.declared.netlist.Op.{Op}
use Rattle.nt_core.specs.declared.netlist.Op.TheVariants.{Pin, Ack, Ret, Reg, Const, Word, Not, And, Or, Xor, Add, Sub, Mul, Div, Rem, SDiv, SRem, Shl, Shr, Sar, Eq, Lt, SLt, Parity, Choice, Concat, Slice, Copies}
use Rattle.nt_core.specs.FunctionLine.{FunctionLine}
use Rattle.nt_core.specs.Parts.{Parts}
use Rattle.xt_base.specs.Identifiers.{is_in_word, is_word}
use Rattle.nt_core.specs.Forms.{HasOperands, constant_of, IsWidth}
use Rattle.nt_core.specs.Conditions.{HasSource}
use Rattle.nt_core.specs.Text.{range_text, constant_text, signed_constant_text, node_name, register_name, memory_name, infix_text, signed_text, form_text, width_texts, function_line, input_line, output_line, with_commas, register_line, memory_line, node_line, assign_line, next_line, write_line}
use Rattle.nt_read.proofs.FormTexts.{Fits}
use Rattle.nt_read.proofs.Pieces.{word_bytes}
use Rattle.nt_read.proofs.PinNames.{pin_word}
use Rattle.nt_read.proofs.Plain.{Plain, piece, pieces, joined, number_plain, name_plain, range_plain, constant_plain, signed_constant_plain, widths_plain, node_plain, register_plain, memory_plain, ack_plain, ret_plain, infix_plain, signed_plain}

module _ (most : ℕ) (wide : most < 2 ^ 64) (room : 65536 ≤ most) (n : Parts) (fits : Fits most n) (ws : List ℕ) (few : length ws ≤ most) (narrow : (a : ℕ) → a < length ws → slice_index ws a ≤ most) where
  node : (a : ℕ) → a < length ws → Plain (node_name a)
  node a h = node_plain a (omega (arith, h, few, wide))

  two : (operator : List ℕ) (a b : ℕ) → Plain operator → a < length ws → b < length ws → Plain (infix_text operator a b)
  two operator a b plain h k = infix_plain operator a b plain (omega (arith, h, few, wide)) (omega (arith, k, few, wide))

  signed : (a : ℕ) → a < length ws → Plain (signed_text a)
  signed a h = signed_plain a (omega (arith, h, few, wide))

  constant : (k : bits.Word) → IsKept k.width k.value → Plain (constant_text k)
  constant k kept = constant_plain k (omega (arith, kept.1))

  signed_constant : (k : bits.Word) → IsKept k.width k.value → Plain (signed_constant_text k)
  signed_constant k kept = signed_constant_plain k (omega (arith, kept.1))

  pub form_plain : (op : Op) → HasOperands ws op → HasSource n op → IfSome (constant_of op) (λ k. IsKept k.width k.value) → Plain (form_text n op)
  form_plain (Pin p v) operands source kept =
      let within : p < length n.inputs = subst (λ l. p < l) (length-map n.inputs (λ (i : Wire). i.width)) (slice_get_within (map (λ i. i.width) n.inputs) p v source) in
      let name : List ℕ = get_or (map (λ i. i.name) n.inputs) p [] in
      name_plain name (word_bytes name (pin_word name (fits.pins p within).0))
  form_plain (Ack p) operands source kept = ack_plain p (omega (arith, fits.acks p source, wide))
  form_plain (Ret p i v) operands source kept = ret_plain p i (omega (arith, (fits.rets p i v source).0, wide)) (omega (arith, (fits.rets p i v source).1, wide))
  form_plain (Reg r v) operands source kept = register_plain r (omega (arith, wide, fits.registers, slice_get_within (map (λ k. k.width) n.registers) r v source, length-map n.registers (λ (k : bits.Word). k.width)))
  form_plain (Const k) operands source kept = constant k kept
  form_plain (Word m a v) operands source kept = pieces (memory_name m) (codes "[" ∷ node_name a ∷ codes "]" ∷ [])
      (memory_plain m (omega (arith, wide, fits.memories, slice_get_within (map (λ k. k.width) n.memories) m v source, length-map n.memories (λ (k : Memory). k.width))))
      (piece refl, (node a operands.0, (piece refl, tt)))
  form_plain (Not a) operands source kept = joined (codes "~") (node_name a) (piece refl) (node a operands)
  form_plain (And a b) operands source kept = two (codes " & ") a b (piece refl) operands.0 operands.1
  form_plain (Or a b) operands source kept = two (codes " | ") a b (piece refl) operands.0 operands.1
  form_plain (Xor a b) operands source kept = two (codes " ^ ") a b (piece refl) operands.0 operands.1
  form_plain (Add a b) operands source kept = two (codes " + ") a b (piece refl) operands.0 operands.1
  form_plain (Sub a b) operands source kept = two (codes " - ") a b (piece refl) operands.0 operands.1
  form_plain (Mul a b) operands source kept = two (codes " * ") a b (piece refl) operands.0 operands.1
  form_plain (Div a k) operands source kept = pieces (node_name a) (codes " / " ∷ constant_text k ∷ []) (node a operands.0) (piece refl, (constant k kept, tt))
  form_plain (Rem a k) operands source kept = pieces (node_name a) (codes " % " ∷ constant_text k ∷ []) (node a operands.0) (piece refl, (constant k kept, tt))
  form_plain (SDiv a k) operands source kept = pieces (signed_text a) (codes " / " ∷ signed_constant_text k ∷ []) (signed a operands.0) (piece refl, (signed_constant k kept, tt))
  form_plain (SRem a k) operands source kept = pieces (signed_text a) (codes " % " ∷ signed_constant_text k ∷ []) (signed a operands.0) (piece refl, (signed_constant k kept, tt))
  form_plain (Shl a b) operands source kept = two (codes " << ") a b (piece refl) operands.0 operands.1
  form_plain (Shr a b) operands source kept = two (codes " >> ") a b (piece refl) operands.0 operands.1
  form_plain (Sar a b) operands source kept = pieces (signed_text a) (codes " >>> " ∷ node_name b ∷ []) (signed a operands.0) (piece refl, (node b operands.1, tt))
  form_plain (Eq a b) operands source kept = two (codes " == ") a b (piece refl) operands.0 operands.1
  form_plain (Lt a b) operands source kept = two (codes " < ") a b (piece refl) operands.0 operands.1
  form_plain (SLt a b) operands source kept = pieces (signed_text a) (codes " < " ∷ signed_text b ∷ []) (signed a operands.0) (piece refl, (signed b operands.1, tt))
  form_plain (Parity a) operands source kept = joined (codes "^") (node_name a) (piece refl) (node a operands)
  form_plain (Choice a b c) operands source kept = pieces (node_name a) (codes " ? " ∷ node_name b ∷ codes " : " ∷ node_name c ∷ []) (node a operands.0) (piece refl, (node b operands.2.0, (piece refl, (node c operands.2.1, tt))))
  form_plain (Concat a b) operands source kept = pieces (codes "{") (node_name a ∷ codes ", " ∷ node_name b ∷ codes "}" ∷ []) (piece refl) (node a operands.0, (piece refl, (node b operands.1, (piece refl, tt))))
  form_plain (Slice a high low) operands source kept =
      let below : high ≤ most = omega (arith, operands.3, narrow a operands.0) in
      pieces (node_name a) (codes "[" ∷ decimal high ∷ codes ":" ∷ decimal low ∷ codes "]" ∷ []) (node a operands.0)
      (piece refl, (number_plain high (omega (arith, below, wide)), (piece refl, (number_plain low (omega (arith, operands.2, below, wide)), (piece refl, tt)))))
  form_plain (Copies a times) operands source kept = pieces (codes "{") (decimal times ∷ codes "{" ∷ node_name a ∷ codes "}}" ∷ []) (piece refl) (number_plain times (omega (arith, operands.2)), (piece refl, (node a operands.0, (piece refl, tt))))

-- ---- lines

module _ (most : ℕ) (wide : most < 2 ^ 64) where
  pub function_plain : (f : FunctionLine) → is_word f.name ≡ true → AllByRecursion (λ w. w < 2 ^ 64) f.ins → AllByRecursion (λ w. w < 2 ^ 64) f.rets → Plain (function_line f)
  function_plain f word ins rets = pieces (codes "// function ") (f.name ∷ codes " in" ∷ width_texts f.ins ∷ codes " out" ∷ width_texts f.rets ∷ []) (piece refl) (name_plain f.name (word_bytes f.name word), (piece refl, (widths_plain f.ins ins, (piece refl, (widths_plain f.rets rets, tt)))))

  pub input_plain : (w : ℕ) (name : List ℕ) → w < 2 ^ 64 → Plain name → Plain (input_line w name)
  input_plain w name h plain = pieces (codes "  input wire ") (range_text w ∷ name ∷ codes "," ∷ []) (piece refl) (range_plain w h, (plain, (piece refl, tt)))

  pub output_plain : (w : ℕ) (name : List ℕ) → w < 2 ^ 64 → Plain name → Plain (output_line w name)
  output_plain w name h plain = pieces (codes "  output wire ") (range_text w ∷ name ∷ []) (piece refl) (range_plain w h, (plain, tt))

  pub register_line_plain : (i : ℕ) (k : bits.Word) → i ≤ most → IsKept k.width k.value → Plain (register_line i k)
  register_line_plain i k small kept = pieces (codes "  reg ") (range_text k.width ∷ register_name i ∷ codes " = " ∷ constant_text k ∷ codes ";" ∷ []) (piece refl)
      (range_plain k.width (omega (arith, kept.1)), (register_plain i (omega (arith, small, wide)), (piece refl, (constant_plain k (omega (arith, kept.1)), (piece refl, tt)))))

  pub memory_line_plain : (i : ℕ) (m : Memory) → i ≤ most → IsWidth m.width → m.words ≤ 65536 → Plain (memory_line i m)
  memory_line_plain i m small width words = pieces (codes "  reg ") (range_text m.width ∷ memory_name i ∷ codes " [0:" ∷ decimal (m.words - 1) ∷ codes "];" ∷ []) (piece refl)
      (range_plain m.width (omega (arith, width.1)), (memory_plain i (omega (arith, small, wide)), (piece refl, (number_plain (m.words - 1) (omega (arith, words)), (piece refl, tt)))))

  pub node_line_plain : (n : Parts) (i : ℕ) (m : Node) → i ≤ most → m.width < 2 ^ 64 → Plain (form_text n m.op) → Plain (node_line n i m)
  node_line_plain n i m small width plain = pieces (codes "  wire ") (range_text m.width ∷ node_name i ∷ codes " = " ∷ form_text n m.op ∷ codes ";" ∷ []) (piece refl)
      (range_plain m.width width, (node_plain i (omega (arith, small, wide)), (piece refl, (plain, (piece refl, tt)))))

  pub assign_plain : (name : List ℕ) (a : ℕ) → list_all is_in_word name ≡ true → a ≤ most → Plain (assign_line name a)
  assign_plain name a word small = pieces (codes "  assign ") (name ∷ codes " = " ∷ node_name a ∷ codes ";" ∷ []) (piece refl) (name_plain name word, (piece refl, (node_plain a (omega (arith, small, wide)), (piece refl, tt))))

  pub next_plain : (i a : ℕ) → i ≤ most → a ≤ most → Plain (next_line i a)
  next_plain i a small_i small = pieces (codes "    ") (register_name i ∷ codes " <= " ∷ node_name a ∷ codes ";" ∷ []) (piece refl) (register_plain i (omega (arith, small_i, wide)), (piece refl, (node_plain a (omega (arith, small, wide)), (piece refl, tt))))

  pub write_plain : (w : MemWrite) → w.when ≤ most → w.memory ≤ most → w.index ≤ most → w.value ≤ most → Plain (write_line w)
  write_plain w small_when small_memory small_index small_value =
      pieces (codes "    if (") (node_name w.when ∷ codes ") " ∷ memory_name w.memory ∷ codes "[" ∷ node_name w.index ∷ codes "] <= " ∷ node_name w.value ∷ codes ";" ∷ []) (piece refl)
      (node_plain w.when (omega (arith, small_when, wide)), (piece refl, (memory_plain w.memory (omega (arith, small_memory, wide)), (piece refl, (node_plain w.index (omega (arith, small_index, wide)), (piece refl, (node_plain w.value (omega (arith, small_value, wide)), (piece refl, tt))))))))

-- ---- lists of lines

pub all_append : {X : Type 0} (P : X → Type 0) (xs ys : List X) → AllByRecursion P xs → AllByRecursion P ys → AllByRecursion P (xs ++ ys)
all_append P [] ys good more = more
all_append P (x ∷ xs) ys good more = (good.0, all_append P xs ys good.1 more)

pub all_lines : {X : Type 0} (line : X → List ℕ) (Good : X → Type 0) → ((x : X) → Good x → Plain (line x)) → (xs : List X) → AllByRecursion Good xs → AllByRecursion Plain (map line xs)
all_lines line Good plain [] good = tt
all_lines line Good plain (x ∷ xs) good = (plain x good.0, all_lines line Good plain xs good.1)

pub all_numbered : {X : Type 0} (most : ℕ) (line : ℕ → X → List ℕ) (Good : X → Type 0) → ((k : ℕ) (x : X) → k ≤ most → Good x → Plain (line k x)) → (k : ℕ) (xs : List X) → k + length xs ≤ most → AllByRecursion Good xs → AllByRecursion Plain (map (λ i. line i.0 i.1) (enumerate_from k xs))
all_numbered most line Good plain k [] few good = tt
all_numbered most line Good plain k (x ∷ xs) few good = (plain k x (omega (arith, few)) good.0, all_numbered most line Good plain (k + 1) xs (omega (arith, few)) good.1)

pub with_commas_plain : (lines : List (List ℕ)) → AllByRecursion Plain lines → AllByRecursion Plain (with_commas lines)
with_commas_plain [] plain = tt
with_commas_plain (x ∷ []) plain = (plain.0, tt)
with_commas_plain (x ∷ y ∷ rest) plain = (joined x (codes ",") plain.0 (piece refl), with_commas_plain (y ∷ rest) plain.1)
