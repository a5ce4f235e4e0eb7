-- Forms that are read as they are written.
use Rattle.std.proofs.Common.{◌≡◌, ℕ, ◌^◌, ◌≤◌, ◌<◌, ◌==◌, min, true, false, List, [], ◌++◌, drop, length, map, get_or, cond, nat_eq, refl, ap, ◌∙◌, subst, arith, append_assoc, codes, decimal, IsTrue, Some, slice_get, slice_index}
use Rattle.std.specs.Prelude.{IfSome, IsSome}
use Rattle.std.specs.List.{prefix_len, starts_with}
use Rattle.std.proofs.lemmas.Option.{slice_get_within}
use Rattle.std.proofs.lemmas.List.{length-map}
use Rattle.xt_bits.specs.Word.{IsKept}
use Rattle.xt_bits.specs.Word as bits
use Rattle.nt_core.specs.declared.netlist.Memory.{Memory}
use Rattle.nt_core.specs.declared.netlist.Wire.{Wire}
use Rattle.nt_core.specs.declared.netlist.Op.{Op}
use Rattle.nt_core.specs.declared.netlist.Op.TheVariants.{Pin, Ack, Ret, Reg, Const, Word, Not, And, Or, Xor, Add, Sub, Mul, Div, Rem, SDiv, SRem, Shl, Shr, Sar, Eq, Lt, SLt, Parity, Choice, Concat, Slice, Copies}
use Rattle.nt_core.specs.Parts.{Parts}
use Rattle.xt_base.specs.Identifiers.{begins_word}
use Rattle.nt_core.specs.Names.{is_pin_name}
use Rattle.nt_core.specs.Forms.{HasOperands, form_width, constant_of}
use Rattle.nt_core.specs.Conditions.{HasSource, host_of, reply_widths}
use Rattle.nt_core.specs.Text.{hex_text, constant_text, signed_constant_text, node_name, register_name, memory_name, ack_name, ret_name, infix_text, signed_text, form_text}
use Rattle.nt_read.specs.Words.{is_digit, number, after_number, word_of, constant}
use Rattle.nt_read.specs.Names.{names_of}
use Rattle.nt_read.specs.Forms.{own, after_own, place_of, infix_form, signed_form, host_form, own_form, braced_form, marked_form, form}
use Rattle.nt_read.proofs.Numbers.{number_at, after_at}
use Rattle.nt_read.proofs.Pieces.{flat4, constant_at, signed_constant_at, head_digit, word_at}
use Rattle.nt_read.proofs.PinNames.{pin_word, pin_not_own, word_first}

pub flat5 : (a b c d e : List ℕ) → a ++ b ++ c ++ d ++ e ≡ a ++ (b ++ (c ++ (d ++ e)))
flat5 a b c d e = append_assoc (a ++ b ++ c) d e ∙ flat4 a b c (d ++ e)

pub flat6 : (a b c d e f : List ℕ) → a ++ b ++ c ++ d ++ e ++ f ≡ a ++ (b ++ (c ++ (d ++ (e ++ f))))
flat6 a b c d e f = append_assoc (a ++ b ++ c ++ d) e f ∙ flat5 a b c d (e ++ f)

pub flat7 : (a b c d e f g : List ℕ) → a ++ b ++ c ++ d ++ e ++ f ++ g ≡ a ++ (b ++ (c ++ (d ++ (e ++ (f ++ g)))))
flat7 a b c d e f g = append_assoc (a ++ b ++ c ++ d ++ e) f g ∙ flat6 a b c d e (f ++ g)

module _ (most : ℕ) (wide : most < 2 ^ 64) (room : 65536 ≤ most) (names : List (List ℕ)) (w : ℕ) where
  -- what begins with a node
  begin_at : (a : ℕ) (rest : List ℕ) → a ≤ most → prefix_len is_digit rest ≡ 0 → form most names w (node_name a ++ rest) ≡ infix_form most a rest
  begin_at a rest small stop =
      ap (λ k. infix_form most k (after_number (decimal a ++ rest))) (number_at most wide a rest small stop)
      ∙ ap (infix_form most a) (after_at most wide a rest small stop)

  -- an operator between two nodes
  two_at : (make : ℕ → ℕ → Op) (operator : List ℕ) (a b : ℕ) → a ≤ most → b ≤ most → prefix_len is_digit (operator ++ (node_name b ++ codes ";")) ≡ 0
      → infix_form most a (operator ++ (node_name b ++ codes ";")) ≡ make a (number most (decimal b ++ codes ";"))
      → form most names w (infix_text operator a b ++ codes ";") ≡ make a b
  two_at make operator a b small_a small_b stop is =
      ap (form most names w) (flat4 (node_name a) operator (node_name b) (codes ";"))
      ∙ begin_at a (operator ++ (node_name b ++ codes ";")) small_a stop ∙ is
      ∙ ap (make a) (number_at most wide b (codes ";") small_b refl)

  -- what begins with a node as signed
  signed_at : (a : ℕ) (rest : List ℕ) → a ≤ most → form most names w (signed_text a ++ rest) ≡ signed_form most a rest
  signed_at a rest small =
      ap (λ t. signed_form most (number most t) (drop 1 (after_number t))) (append_assoc (decimal a) (codes ")") rest)
      ∙ ap (λ k. signed_form most k (drop 1 (after_number (decimal a ++ (codes ")" ++ rest))))) (number_at most wide a (codes ")" ++ rest) small refl)
      ∙ ap (λ t. signed_form most a (drop 1 t)) (after_at most wide a (codes ")" ++ rest) small refl)

  choice_at : (a b c : ℕ) → a ≤ most → b ≤ most → c ≤ most → form most names w (node_name a ++ codes " ? " ++ node_name b ++ codes " : " ++ node_name c ++ codes ";") ≡ Choice a b c
  choice_at a b c small_a small_b small_c =
      let last : List ℕ = codes " : " ++ (node_name c ++ codes ";") in
      ap (form most names w) (flat6 (node_name a) (codes " ? ") (node_name b) (codes " : ") (node_name c) (codes ";"))
      ∙ begin_at a (codes " ? " ++ (node_name b ++ last)) small_a refl
      ∙ ap (λ k. Choice a k (own most (drop 3 (after_number (decimal b ++ last))))) (number_at most wide b last small_b refl)
      ∙ ap (λ t. Choice a b (own most (drop 3 t))) (after_at most wide b last small_b refl)
      ∙ ap (Choice a b) (number_at most wide c (codes ";") small_c refl)

  concat_at : (a b : ℕ) → a ≤ most → b ≤ most → form most names w (codes "{" ++ node_name a ++ codes ", " ++ node_name b ++ codes "}" ++ codes ";") ≡ Concat a b
  concat_at a b small_a small_b =
      let last : List ℕ = codes ", " ++ (node_name b ++ (codes "}" ++ codes ";")) in
      ap (λ t. braced_form most (codes "{xtc_n" ++ t)) (flat5 (decimal a) (codes ", ") (node_name b) (codes "}") (codes ";"))
      ∙ ap (λ k. Concat k (own most (drop 2 (after_number (decimal a ++ last))))) (number_at most wide a last small_a refl)
      ∙ ap (λ t. Concat a (own most (drop 2 t))) (after_at most wide a last small_a refl)
      ∙ ap (Concat a) (number_at most wide b (codes "}" ++ codes ";") small_b refl)

  slice_at : (a high low : ℕ) → a ≤ most → high ≤ most → low ≤ most → form most names w (node_name a ++ codes "[" ++ decimal high ++ codes ":" ++ decimal low ++ codes "]" ++ codes ";") ≡ Slice a high low
  slice_at a high low small_a small_h small_l =
      let last : List ℕ = codes ":" ++ (decimal low ++ (codes "]" ++ codes ";")) in
      ap (form most names w) (flat7 (node_name a) (codes "[") (decimal high) (codes ":") (decimal low) (codes "]") (codes ";"))
      ∙ begin_at a (codes "[" ++ (decimal high ++ last)) small_a refl
      ∙ ap (λ k. Slice a k (number most (drop 1 (after_number (decimal high ++ last))))) (number_at most wide high last small_h refl)
      ∙ ap (λ t. Slice a high (number most (drop 1 t))) (after_at most wide high last small_h refl)
      ∙ ap (Slice a high) (number_at most wide low (codes "]" ++ codes ";") small_l refl)

  copies_at : (a times : ℕ) → a ≤ most → times ≤ most → form most names w (codes "{" ++ decimal times ++ codes "{" ++ node_name a ++ codes "}}" ++ codes ";") ≡ Copies a times
  copies_at a times small_a small_t =
      let last : List ℕ = codes "{" ++ (node_name a ++ (codes "}}" ++ codes ";")) in
      let text : List ℕ = decimal times ++ last in
      ap (λ t. braced_form most (codes "{" ++ t)) (flat5 (decimal times) (codes "{") (node_name a) (codes "}}") (codes ";"))
      ∙ ap (λ b. cond b (Copies (own most (drop 1 (after_number text))) (number most text)) (Concat (own most text) (own most (drop 2 (after_own text))))) (head_digit times last (omega (arith, small_t, wide)))
      ∙ ap (λ t. Copies (own most (drop 1 t)) (number most text)) (after_at most wide times last small_t refl)
      ∙ ap (Copies (own most (node_name a ++ (codes "}}" ++ codes ";")))) (number_at most wide times last small_t refl)
      ∙ ap (λ k. Copies k times) (number_at most wide a (codes "}}" ++ codes ";") small_a refl)

  word_form_at : (m a : ℕ) → m ≤ most → a ≤ most → form most names w (memory_name m ++ codes "[" ++ node_name a ++ codes "]" ++ codes ";") ≡ Word m a w
  word_form_at m a small_m small_a =
      let last : List ℕ = codes "[" ++ (node_name a ++ (codes "]" ++ codes ";")) in
      ap (λ t. own_form most w (codes "xtc_m" ++ t)) (flat5 (decimal m) (codes "[") (node_name a) (codes "]") (codes ";"))
      ∙ ap (λ k. Word k (own most (drop 1 (after_number (decimal m ++ last)))) w) (number_at most wide m last small_m refl)
      ∙ ap (λ t. Word m (own most (drop 1 t)) w) (after_at most wide m last small_m refl)
      ∙ ap (λ k. Word m k w) (number_at most wide a (codes "]" ++ codes ";") small_a refl)

  ack_at : (p : ℕ) → p ≤ most → form most names w (ack_name p ++ codes ";") ≡ Ack p
  ack_at p small =
      ap (λ t. host_form most w (number most t) (after_number t)) (append_assoc (decimal p) (codes "_ack") (codes ";"))
      ∙ ap (λ k. host_form most w k (after_number (decimal p ++ (codes "_ack" ++ codes ";")))) (number_at most wide p (codes "_ack" ++ codes ";") small refl)
      ∙ ap (host_form most w p) (after_at most wide p (codes "_ack" ++ codes ";") small refl)

  ret_at : (p i : ℕ) → p ≤ most → i ≤ most → form most names w (ret_name p i ++ codes ";") ≡ Ret p i w
  ret_at p i small_p small_i =
      let last : List ℕ = codes "_ret" ++ (decimal i ++ codes ";") in
      ap (λ t. host_form most w (number most t) (after_number t)) (flat4 (decimal p) (codes "_ret") (decimal i) (codes ";"))
      ∙ ap (λ k. host_form most w k (after_number (decimal p ++ last))) (number_at most wide p last small_p refl)
      ∙ ap (host_form most w p) (after_at most wide p last small_p refl)
      ∙ ap (λ k. Ret p k w) (number_at most wide i (codes ";") small_i refl)

-- the numbers in a design's text are no greater than this, and the names of its pins tell where they stand
pub record Fits (most : ℕ) (n : Parts) : Type 0 where
  pub inputs : length n.inputs ≤ most
  pub registers : length n.registers ≤ most
  pub memories : length n.memories ≤ most
  pub nodes : length n.nodes ≤ most
  pub acks : (p : ℕ) → IsSome (host_of n.hosts p) → p ≤ most
  pub rets : (p i w : ℕ) → slice_get (reply_widths (host_of n.hosts p)) i ≡ Some w → (p ≤ most) × (i ≤ most)
  pub pins : (p : ℕ) → p < length n.inputs → IsTrue (is_pin_name (get_or (map (λ i. i.name) n.inputs) p [])) × (place_of (names_of (n.inputs ++ n.outputs)) (get_or (map (λ i. i.name) n.inputs) p []) ≡ p)

module _ (most : ℕ) (wide : most < 2 ^ 64) (room : 65536 ≤ most) (n : Parts) (fits : Fits most n) (ws : List ℕ) (few : length ws ≤ most) (narrow : (a : ℕ) → a < length ws → slice_index ws a ≤ most) where
  abbrev names : List (List ℕ)
  names = names_of (n.inputs ++ n.outputs)

  pin_at : (p w : ℕ) → p < length n.inputs → form most names w (form_text n (Pin p w) ++ codes ";") ≡ Pin p w
  pin_at p w within =
      let name : List ℕ = get_or (map (λ i. i.name) n.inputs) p [] in
      let is_pin : IsTrue (is_pin_name name) = (fits.pins p within).0 in
      let first : (begins_word (get_or (name ++ codes ";") 0 0) ≡ true) × (is_digit (get_or (name ++ codes ";") 0 0) ≡ false) × ((get_or (name ++ codes ";") 0 0 == 91) ≡ false) = word_first name (codes ";") (pin_word name is_pin) in
      ap (λ b. cond b (Const (constant most 2 (name ++ codes ";"))) (cond (starts_with nat_eq (name ++ codes ";") (codes "xtc_")) (own_form most w (name ++ codes ";")) (cond (begins_word (get_or (name ++ codes ";") 0 0)) (Pin (min (place_of names (word_of (name ++ codes ";"))) most) w) (marked_form most (name ++ codes ";"))))) first.1
      ∙ ap (λ b. cond b (own_form most w (name ++ codes ";")) (cond (begins_word (get_or (name ++ codes ";") 0 0)) (Pin (min (place_of names (word_of (name ++ codes ";"))) most) w) (marked_form most (name ++ codes ";")))) (pin_not_own name (codes ";") is_pin refl)
      ∙ ap (λ b. cond b (Pin (min (place_of names (word_of (name ++ codes ";"))) most) w) (marked_form most (name ++ codes ";"))) first.0
      ∙ ap (λ t. Pin (min (place_of names t) most) w) (word_at name (codes ";") (pin_word name is_pin) refl).0
      ∙ ap (λ k. Pin (min k most) w) (fits.pins p within).1
      ∙ ap (λ k. Pin k w) (grind (arith, within, fits.inputs))

  const_at : (w : ℕ) (k : bits.Word) → IsKept k.width k.value → k.width ≤ most → form most names w (constant_text k ++ codes ";") ≡ Const k
  const_at w k kept small =
      let text : List ℕ = constant_text k ++ codes ";" in
      ap (λ b. cond b (Const (constant most 2 text)) (cond (starts_with nat_eq text (codes "xtc_")) (own_form most w text) (cond (begins_word (get_or text 0 0)) (Pin (min (place_of names (word_of text)) most) w) (marked_form most text))))
      (ap (λ t. is_digit (get_or t 0 0)) (flat4 (decimal k.width) (codes "'h") (hex_text k) (codes ";")) ∙ head_digit k.width (codes "'h" ++ (hex_text k ++ codes ";")) (omega (arith, small, wide)))
      ∙ ap (λ c. Const c) (constant_at most wide room k (codes ";") kept refl)

  pub form_at : (op : Op) (w : ℕ) → HasOperands ws op → HasSource n op → IfSome (constant_of op) (λ k. IsKept k.width k.value) → w ≡ form_width ws op → form most names w (form_text n op ++ codes ";") ≡ op
  form_at (Pin p v) w operands source kept is = ap (λ u. form most names u (form_text n (Pin p v) ++ codes ";")) is ∙ pin_at p v (subst (λ l. p < l) (length-map n.inputs (λ (i : Wire). i.width)) (slice_get_within (map (λ i. i.width) n.inputs) p v source))
  form_at (Ack p) w operands source kept is = ack_at most wide room names w p (fits.acks p source)
  form_at (Ret p i v) w operands source kept is = ap (λ u. form most names u (ret_name p i ++ codes ";")) is ∙ ret_at most wide room names v p i (fits.rets p i v source).0 (fits.rets p i v source).1
  form_at (Reg r v) w operands source kept is = ap (λ u. form most names u (register_name r ++ codes ";")) is ∙ ap (λ k. Reg k v) (number_at most wide r (codes ";") (omega (arith, fits.registers, slice_get_within (map (λ k. k.width) n.registers) r v source, length-map n.registers (λ (k : bits.Word). k.width))) refl)
  form_at (Const k) w operands source kept is = const_at w k kept (omega (arith, kept.1, room))
  form_at (Word m a v) w operands source kept is = ap (λ u. form most names u (form_text n (Word m a v) ++ codes ";")) is ∙ word_form_at most wide room names v m a (omega (arith, fits.memories, slice_get_within (map (λ k. k.width) n.memories) m v source, length-map n.memories (λ (k : Memory). k.width))) (omega (arith, operands.0, few))
  form_at (Not a) w operands source kept is = ap (λ k. Not k) (number_at most wide a (codes ";") (omega (arith, operands, few)) refl)
  form_at (And a b) w operands source kept is = two_at most wide room names w And (codes " & ") a b (omega (arith, operands.0, few)) (omega (arith, operands.1, few)) refl refl
  form_at (Or a b) w operands source kept is = two_at most wide room names w Or (codes " | ") a b (omega (arith, operands.0, few)) (omega (arith, operands.1, few)) refl refl
  form_at (Xor a b) w operands source kept is = two_at most wide room names w Xor (codes " ^ ") a b (omega (arith, operands.0, few)) (omega (arith, operands.1, few)) refl refl
  form_at (Add a b) w operands source kept is = two_at most wide room names w Add (codes " + ") a b (omega (arith, operands.0, few)) (omega (arith, operands.1, few)) refl refl
  form_at (Sub a b) w operands source kept is = two_at most wide room names w Sub (codes " - ") a b (omega (arith, operands.0, few)) (omega (arith, operands.1, few)) refl refl
  form_at (Mul a b) w operands source kept is = two_at most wide room names w Mul (codes " * ") a b (omega (arith, operands.0, few)) (omega (arith, operands.1, few)) refl refl
  form_at (Div a k) w operands source kept is =
      ap (form most names w) (flat4 (node_name a) (codes " / ") (constant_text k) (codes ";"))
      ∙ begin_at most wide room names w a (codes " / " ++ (constant_text k ++ codes ";")) (omega (arith, operands.0, few)) refl
      ∙ ap (Div a) (constant_at most wide room k (codes ";") kept refl)
  form_at (Rem a k) w operands source kept is =
      ap (form most names w) (flat4 (node_name a) (codes " % ") (constant_text k) (codes ";"))
      ∙ begin_at most wide room names w a (codes " % " ++ (constant_text k ++ codes ";")) (omega (arith, operands.0, few)) refl
      ∙ ap (Rem a) (constant_at most wide room k (codes ";") kept refl)
  form_at (SDiv a k) w operands source kept is =
      ap (form most names w) (flat4 (signed_text a) (codes " / ") (signed_constant_text k) (codes ";"))
      ∙ signed_at most wide room names w a (codes " / " ++ (signed_constant_text k ++ codes ";")) (omega (arith, operands.0, few))
      ∙ ap (SDiv a) (signed_constant_at most wide room k (codes ";") kept refl)
  form_at (SRem a k) w operands source kept is =
      ap (form most names w) (flat4 (signed_text a) (codes " % ") (signed_constant_text k) (codes ";"))
      ∙ signed_at most wide room names w a (codes " % " ++ (signed_constant_text k ++ codes ";")) (omega (arith, operands.0, few))
      ∙ ap (SRem a) (signed_constant_at most wide room k (codes ";") kept refl)
  form_at (Shl a b) w operands source kept is = two_at most wide room names w Shl (codes " << ") a b (omega (arith, operands.0, few)) (omega (arith, operands.1, few)) refl refl
  form_at (Shr a b) w operands source kept is = two_at most wide room names w Shr (codes " >> ") a b (omega (arith, operands.0, few)) (omega (arith, operands.1, few)) refl refl
  form_at (Sar a b) w operands source kept is =
      ap (form most names w) (flat4 (signed_text a) (codes " >>> ") (node_name b) (codes ";"))
      ∙ signed_at most wide room names w a (codes " >>> " ++ (node_name b ++ codes ";")) (omega (arith, operands.0, few))
      ∙ ap (Sar a) (number_at most wide b (codes ";") (omega (arith, operands.1, few)) refl)
  form_at (Eq a b) w operands source kept is = two_at most wide room names w Eq (codes " == ") a b (omega (arith, operands.0, few)) (omega (arith, operands.1, few)) refl refl
  form_at (Lt a b) w operands source kept is = two_at most wide room names w Lt (codes " < ") a b (omega (arith, operands.0, few)) (omega (arith, operands.1, few)) refl refl
  form_at (SLt a b) w operands source kept is =
      ap (form most names w) (flat4 (signed_text a) (codes " < ") (signed_text b) (codes ";"))
      ∙ signed_at most wide room names w a (codes " < " ++ (signed_text b ++ codes ";")) (omega (arith, operands.0, few))
      ∙ ap (λ t. SLt a (number most t)) (append_assoc (decimal b) (codes ")") (codes ";"))
      ∙ ap (SLt a) (number_at most wide b (codes ")" ++ codes ";") (omega (arith, operands.1, few)) refl)
  form_at (Parity a) w operands source kept is = ap (λ k. Parity k) (number_at most wide a (codes ";") (omega (arith, operands, few)) refl)
  form_at (Choice a b c) w operands source kept is = choice_at most wide room names w a b c (omega (arith, operands.0, few)) (omega (arith, operands.2.0, few)) (omega (arith, operands.2.1, few))
  form_at (Concat a b) w operands source kept is = concat_at most wide room names w a b (omega (arith, operands.0, few)) (omega (arith, operands.1, few))
  form_at (Slice a high low) w operands source kept is =
      let below : high ≤ most = omega (arith, operands.3, narrow a operands.0) in
      slice_at most wide room names w a high low (omega (arith, operands.0, few)) below (omega (arith, operands.2, below))
  form_at (Copies a times) w operands source kept is = copies_at most wide room names w a times (omega (arith, operands.0, few)) (omega (arith, operands.2, room))
