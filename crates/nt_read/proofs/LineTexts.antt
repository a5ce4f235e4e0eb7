-- Lines that are read as they are written.
use Rattle.std.proofs.Common.{◌≡◌, ℕ, ◌+◌, ◌-◌, ◌^◌, ◌≤◌, ◌<◌, ◌==◌, min, true, false, List, [], ◌∷◌, ◌++◌, drop, length, get_or, cond, nat_eq, refl, sym, ap, ◌∙◌, arith, append_assoc, append-nil, codes, decimal, IsTrue}
use Rattle.std.specs.List.{prefix_len, list_all, starts_with, AllByRecursion}
use Rattle.xt_bits.specs.Word.{IsKept}
use Rattle.xt_bits.specs.Word as bits
use Rattle.nt_core.specs.declared.netlist.Wire.{Wire}
use Rattle.nt_core.specs.declared.netlist.Memory.{Memory}
use Rattle.nt_core.specs.declared.netlist.MemWrite.{MemWrite}
use Rattle.nt_core.specs.FunctionLine.{FunctionLine}
use Rattle.nt_core.specs.Parts.{ShellParts}
use Rattle.xt_base.specs.Identifiers.{is_in_word, is_word}
use Rattle.nt_core.specs.Names.{is_pin_name}
use Rattle.nt_core.specs.Forms.{IsWidth}
use Rattle.nt_core.specs.Text.{range_text, constant_text, node_name, register_name, memory_name, host_name, ack_name, ret_name, arg_name, width_texts, function_line, input_line, output_line, register_line, memory_line, assign_line, next_line, write_line}
use Rattle.nt_read.specs.declared.sketch.Told.{Told}
use Rattle.nt_read.specs.Words.{number, after_number, range, after_range, word_of, after_word, constant, widths, after_widths}
use Rattle.nt_read.specs.Forms.{own, after_own}
use Rattle.nt_read.specs.Sketch.{with_ret, with_arg, changed, function_told, host_input_told, host_output_told, memory_told, declaration_told, write_told, told}
use Rattle.nt_read.proofs.Numbers.{number_at, after_at, dropped}
use Rattle.nt_read.proofs.Pieces.{flat4, range_at, after_range_at, constant_at, widths_at, word_at}
use Rattle.nt_read.proofs.PinNames.{pin_word, pin_not_own, word_first}
use Rattle.nt_read.proofs.FormTexts.{flat5, flat7}

flat8 : (a b c d e f g h : List ℕ) → a ++ b ++ c ++ d ++ e ++ f ++ g ++ h ≡ a ++ (b ++ (c ++ (d ++ (e ++ (f ++ (g ++ h))))))
flat8 a b c d e f g h = append_assoc (a ++ b ++ c ++ d ++ e ++ f) g h ∙ flat7 a b c d e f (g ++ h)

-- what of the parts a line changes
abbrev pub at_shell : Told → (ShellParts → ShellParts) → Told
at_shell s change = record s { shell = change s.shell }

module _ (most : ℕ) (wide : most < 2 ^ 64) (room : 65536 ≤ most) where
  number_end : (v : ℕ) → v ≤ most → number most (decimal v) ≡ v
  number_end v small = ap (number most) (sym (append-nil (decimal v))) ∙ number_at most wide v [] small refl

  pub version_told : (s : Told) (v : ℕ) → v ≤ most → told most s (codes "// xtc design " ++ decimal v) ≡ at_shell s (λ p. record p { version = v })
  version_told s v small = ap (λ k. at_shell s (λ p. record p { version = k })) (number_end v small)

  pub processes_told : (s : Told) (v : ℕ) → v ≤ most → told most s (codes "// processes " ++ decimal v) ≡ at_shell s (λ p. record p { processes = v })
  processes_told s v small = ap (λ k. at_shell s (λ p. record p { processes = k })) (number_end v small)

  -- a function
  function_at : (f : FunctionLine) → is_word f.name ≡ true → length f.ins ≤ 16 → AllByRecursion IsWidth f.ins → length f.rets ≤ 16 → AllByRecursion IsWidth f.rets
      → function_told most (f.name ++ (codes " in" ++ (width_texts f.ins ++ (codes " out" ++ width_texts f.rets)))) ≡ f
  unfolding function_told
  function_at f word few_ins ins few_rets rets =
      let last : List ℕ = codes " out" ++ width_texts f.rets in
      let text : List ℕ = f.name ++ (codes " in" ++ (width_texts f.ins ++ last)) in
      let name_is : (word_of text ≡ f.name) × (after_word text ≡ codes " in" ++ (width_texts f.ins ++ last)) = word_at f.name (codes " in" ++ (width_texts f.ins ++ last)) word refl in
      let ins_is : (widths most 16 (width_texts f.ins ++ last) ≡ f.ins) × (after_widths 16 (width_texts f.ins ++ last) ≡ last) = widths_at most wide room 16 f.ins last few_ins ins refl refl in
      let rets_is : (widths most 16 (width_texts f.rets ++ []) ≡ f.rets) × (after_widths 16 (width_texts f.rets ++ []) ≡ []) = widths_at most wide room 16 f.rets [] few_rets rets refl refl in
      ap (λ t. record { name = t; ins = widths most 16 (drop 3 (after_word text)); rets = widths most 16 (drop 4 (after_widths 16 (drop 3 (after_word text)))) }) name_is.0
      ∙ ap (λ t. record { name = f.name; ins = widths most 16 (drop 3 t); rets = widths most 16 (drop 4 (after_widths 16 (drop 3 t))) }) name_is.1
      ∙ ap (λ l. record { name = f.name; ins = l; rets = widths most 16 (drop 4 (after_widths 16 (width_texts f.ins ++ last))) }) ins_is.0
      ∙ ap (λ t. record { name = f.name; ins = f.ins; rets = widths most 16 (drop 4 t) }) ins_is.1
      ∙ ap (λ l. record { name = f.name; ins = f.ins; rets = l }) (ap (widths most 16) (sym (append-nil (width_texts f.rets))) ∙ rets_is.0)

  pub function_line_told : (s : Told) (f : FunctionLine) → is_word f.name ≡ true → length f.ins ≤ 16 → AllByRecursion IsWidth f.ins → length f.rets ≤ 16 → AllByRecursion IsWidth f.rets
      → told most s (function_line f) ≡ at_shell s (λ p. record p { functions = p.functions ++ f ∷ [] })
  function_line_told s f word few_ins ins few_rets rets =
      ap (λ t. at_shell s (λ p. record p { functions = p.functions ++ function_told most t ∷ [] })) (flat5 f.name (codes " in") (width_texts f.ins) (codes " out") (width_texts f.rets))
      ∙ ap (λ x. at_shell s (λ p. record p { functions = p.functions ++ x ∷ [] })) (function_at f word few_ins ins few_rets rets)

  -- ---- ports, behind their ranges

  abbrev input_rest : ShellParts → ℕ → List ℕ → ShellParts
  input_rest p w t = cond (starts_with nat_eq t (codes "xtc_")) (cond (get_or t 4 0 == 112) (record p { hosts = host_input_told most w t p.hosts }) p) (record p { inputs = p.inputs ++ record { name = word_of t; width = w } ∷ [] })

  abbrev output_rest : Told → ℕ → List ℕ → Told
  output_rest s w t = cond (starts_with nat_eq t (codes "xtc_")) (cond (get_or t 4 0 == 112) (host_output_told most w t s) s) (at_shell s (λ p. record p { outputs = p.outputs ++ record { name = word_of t; width = w } ∷ [] }))

  input_off : (s : Told) (w : ℕ) (name : List ℕ) → IsWidth w → (get_or (name ++ codes ",") 0 0 == 91) ≡ false → told most s (input_line w name) ≡ at_shell s (λ p. input_rest p w (name ++ codes ","))
  input_off s w name width other =
      ap (λ t. at_shell s (λ p. input_rest p (range most t) (after_range t))) (append_assoc (range_text w) name (codes ","))
      ∙ ap (λ t. at_shell s (λ p. input_rest p (range most (range_text w ++ (name ++ codes ","))) t)) (after_range_at most wide room w (name ++ codes ",") width other)
      ∙ ap (λ v. at_shell s (λ p. input_rest p v (name ++ codes ","))) (range_at most wide room w (name ++ codes ",") width other)

  output_off : (s : Told) (w : ℕ) (name end : List ℕ) → IsWidth w → (get_or (name ++ end) 0 0 == 91) ≡ false → told most s (output_line w name ++ end) ≡ output_rest s w (name ++ end)
  output_off s w name end width other =
      ap (λ t. output_rest s (range most t) (after_range t)) (append_assoc (range_text w) name end)
      ∙ ap (λ t. output_rest s (range most (range_text w ++ (name ++ end))) t) (after_range_at most wide room w (name ++ end) width other)
      ∙ ap (λ v. output_rest s v (name ++ end)) (range_at most wide room w (name ++ end) width other)

  pub input_pin_told : (s : Told) (i : Wire) → IsTrue (is_pin_name i.name) → IsWidth i.width → told most s (input_line i.width i.name) ≡ at_shell s (λ p. record p { inputs = p.inputs ++ i ∷ [] })
  input_pin_told s i is_pin width =
      input_off s i.width i.name width (word_first i.name (codes ",") (pin_word i.name is_pin)).2
      ∙ ap (λ b. at_shell s (λ p. cond b (cond (get_or (i.name ++ codes ",") 4 0 == 112) (record p { hosts = host_input_told most i.width (i.name ++ codes ",") p.hosts }) p) (record p { inputs = p.inputs ++ record { name = word_of (i.name ++ codes ","); width = i.width } ∷ [] }))) (pin_not_own i.name (codes ",") is_pin refl)
      ∙ ap (λ t. at_shell s (λ p. record p { inputs = p.inputs ++ record { name = t; width = i.width } ∷ [] })) (word_at i.name (codes ",") (pin_word i.name is_pin) refl).0

  pub output_pin_told : (s : Told) (o : Wire) (end : List ℕ) → IsTrue (is_pin_name o.name) → IsWidth o.width → prefix_len is_in_word end ≡ 0 → told most s (output_line o.width o.name ++ end) ≡ at_shell s (λ p. record p { outputs = p.outputs ++ o ∷ [] })
  output_pin_told s o end is_pin width stop =
      output_off s o.width o.name end width (word_first o.name end (pin_word o.name is_pin)).2
      ∙ ap (λ b. cond b (cond (get_or (o.name ++ end) 4 0 == 112) (host_output_told most o.width (o.name ++ end) s) s) (at_shell s (λ p. record p { outputs = p.outputs ++ record { name = word_of (o.name ++ end); width = o.width } ∷ [] }))) (pin_not_own o.name end is_pin stop)
      ∙ ap (λ t. at_shell s (λ p. record p { outputs = p.outputs ++ record { name = t; width = o.width } ∷ [] })) (word_at o.name end (pin_word o.name is_pin) stop).0

  pub ack_told : (s : Told) (q : ℕ) → q ≤ most → told most s (input_line 1 (ack_name q)) ≡ at_shell s (λ p. record p { hosts = p.hosts ++ record { process = q; rets = []; args = [] } ∷ [] })
  ack_told s q small =
      let last : List ℕ = codes "_ack" ++ codes "," in
      ap (λ t. at_shell s (λ p. record p { hosts = cond (get_or (after_number t) 1 0 == 97) (p.hosts ++ record { process = number most t; rets = []; args = [] } ∷ []) (changed (with_ret 1) p.hosts (length p.hosts - 1)) })) (append_assoc (decimal q) (codes "_ack") (codes ","))
      ∙ ap (λ a. at_shell s (λ p. record p { hosts = cond (get_or a 1 0 == 97) (p.hosts ++ record { process = number most (decimal q ++ last); rets = []; args = [] } ∷ []) (changed (with_ret 1) p.hosts (length p.hosts - 1)) })) (after_at most wide q last small refl)
      ∙ ap (λ k. at_shell s (λ p. record p { hosts = p.hosts ++ record { process = k; rets = []; args = [] } ∷ [] })) (number_at most wide q last small refl)

  pub ret_told : (s : Told) (q i w : ℕ) → q ≤ most → i ≤ most → IsWidth w → told most s (input_line w (ret_name q i)) ≡ at_shell s (λ p. record p { hosts = changed (with_ret w) p.hosts (length p.hosts - 1) })
  ret_told s q i w small_q small_i width =
      let last : List ℕ = codes "_ret" ++ (decimal i ++ codes ",") in
      input_off s w (ret_name q i) width refl
      ∙ ap (λ t. at_shell s (λ p. record p { hosts = cond (get_or (after_number t) 1 0 == 97) (p.hosts ++ record { process = number most t; rets = []; args = [] } ∷ []) (changed (with_ret w) p.hosts (length p.hosts - 1)) })) (flat4 (decimal q) (codes "_ret") (decimal i) (codes ","))
      ∙ ap (λ a. at_shell s (λ p. record p { hosts = cond (get_or a 1 0 == 97) (p.hosts ++ record { process = number most (decimal q ++ last); rets = []; args = [] } ∷ []) (changed (with_ret w) p.hosts (length p.hosts - 1)) })) (after_at most wide q last small_q refl)

  -- an output of a process, by what follows its number
  abbrev output_host : Told → ℕ → List ℕ → Told
  output_host s w a = cond (get_or a 1 0 == 114) (record s { asked = min (2 ^ 64 - 1) (s.asked + 1) }) (cond (get_or a 1 0 == 97) (at_shell s (λ p. record p { hosts = changed (with_arg w) p.hosts (s.asked - 1) })) s)

  pub request_told : (s : Told) (q : ℕ) (end : List ℕ) → q ≤ most → told most s (output_line 1 (host_name q ++ codes "_req") ++ end) ≡ record s { asked = min (2 ^ 64 - 1) (s.asked + 1) }
  request_told s q end small =
      ap (λ t. output_host s 1 (after_number t)) (append_assoc (decimal q) (codes "_req") end)
      ∙ ap (output_host s 1) (after_at most wide q (codes "_req" ++ end) small refl)

  pub function_port_told : (s : Told) (q : ℕ) (end : List ℕ) → q ≤ most → told most s (output_line 8 (host_name q ++ codes "_fn") ++ end) ≡ s
  function_port_told s q end small =
      output_off s 8 (host_name q ++ codes "_fn") end (omega arith, omega arith) refl
      ∙ ap (λ t. output_host s 8 (after_number t)) (append_assoc (decimal q) (codes "_fn") end)
      ∙ ap (output_host s 8) (after_at most wide q (codes "_fn" ++ end) small refl)

  pub argument_told : (s : Told) (q i w : ℕ) (end : List ℕ) → q ≤ most → IsWidth w → told most s (output_line w (arg_name q i) ++ end) ≡ at_shell s (λ p. record p { hosts = changed (with_arg w) p.hosts (s.asked - 1) })
  argument_told s q i w end small width =
      output_off s w (arg_name q i) end width refl
      ∙ ap (λ t. output_host s w (after_number t)) (flat4 (decimal q) (codes "_arg") (decimal i) end)
      ∙ ap (output_host s w) (after_at most wide q (codes "_arg" ++ (decimal i ++ end)) small refl)

  -- ---- declarations

  pub register_told : (s : Told) (i : ℕ) (k : bits.Word) → i ≤ most → IsKept k.width k.value → told most s (register_line i k) ≡ at_shell s (λ p. record p { registers = p.registers ++ k ∷ [] })
  register_told s i k small kept =
      let last : List ℕ = codes " = " ++ (constant_text k ++ codes ";") in
      let text : List ℕ = range_text k.width ++ (register_name i ++ last) in
      ap (λ t. at_shell s (λ p. declaration_told most t p)) (flat5 (range_text k.width) (register_name i) (codes " = ") (constant_text k) (codes ";"))
      ∙ ap (λ t. at_shell s (λ p. cond (get_or t 4 0 == 109) (record p { memories = p.memories ++ memory_told most text ∷ [] }) (record p { registers = p.registers ++ constant most 2 (drop 3 (after_own t)) ∷ [] }))) (after_range_at most wide room k.width (register_name i ++ last) (kept.0, kept.1) refl)
      ∙ ap (λ t. at_shell s (λ p. record p { registers = p.registers ++ constant most 2 (drop 3 t) ∷ [] })) (after_at most wide i last small refl)
      ∙ ap (λ x. at_shell s (λ p. record p { registers = p.registers ++ x ∷ [] })) (constant_at most wide room k (codes ";") kept refl)

  pub memory_line_told : (s : Told) (i : ℕ) (m : Memory) → i ≤ most → IsWidth m.width → 1 ≤ m.words → m.words ≤ 65536 → told most s (memory_line i m) ≡ at_shell s (λ p. record p { memories = p.memories ++ m ∷ [] })
  memory_line_told s i m small width some words =
      let last : List ℕ = codes " [0:" ++ (decimal (m.words - 1) ++ codes "];") in
      let text : List ℕ = range_text m.width ++ (memory_name i ++ last) in
      ap (λ t. at_shell s (λ p. declaration_told most t p)) (flat5 (range_text m.width) (memory_name i) (codes " [0:") (decimal (m.words - 1)) (codes "];"))
      ∙ ap (λ t. at_shell s (λ p. cond (get_or t 4 0 == 109) (record p { memories = p.memories ++ record { width = range most text; words = min most (number most (drop 4 (after_own t)) + 1) } ∷ [] }) (record p { registers = p.registers ++ constant most 2 (drop 3 (after_own t)) ∷ [] }))) (after_range_at most wide room m.width (memory_name i ++ last) width refl)
      ∙ ap (λ w. at_shell s (λ p. record p { memories = p.memories ++ record { width = w; words = min most (number most (drop 4 (after_number (decimal i ++ last))) + 1) } ∷ [] })) (range_at most wide room m.width (memory_name i ++ last) width refl)
      ∙ ap (λ t. at_shell s (λ p. record p { memories = p.memories ++ record { width = m.width; words = min most (number most (drop 4 t) + 1) } ∷ [] })) (after_at most wide i last small refl)
      ∙ ap (λ k. at_shell s (λ p. record p { memories = p.memories ++ record { width = m.width; words = min most (k + 1) } ∷ [] })) (number_at most wide (m.words - 1) (codes "];") (omega (arith, words, room)) refl)
      ∙ ap (λ k. at_shell s (λ p. record p { memories = p.memories ++ record { width = m.width; words = k } ∷ [] })) (grind (arith, some, words, room))

  -- ---- what drives, and what a tick does

  pub assign_told : (s : Told) (name : List ℕ) (a : ℕ) → list_all is_in_word name ≡ true → a ≤ most → told most s (assign_line name a) ≡ at_shell s (λ p. record p { drives = p.drives ++ a ∷ [] })
  assign_told s name a word small =
      let last : List ℕ = codes " = " ++ (node_name a ++ codes ";") in
      ap (λ t. at_shell s (λ p. record p { drives = p.drives ++ own most (drop 3 (after_word t)) ∷ [] })) (flat4 name (codes " = ") (node_name a) (codes ";"))
      ∙ ap (λ t. at_shell s (λ p. record p { drives = p.drives ++ own most (drop 3 t) ∷ [] })) (dropped is_in_word name last word refl)
      ∙ ap (λ k. at_shell s (λ p. record p { drives = p.drives ++ k ∷ [] })) (number_at most wide a (codes ";") small refl)

  pub next_told : (s : Told) (i a : ℕ) → i ≤ most → a ≤ most → told most s (next_line i a) ≡ at_shell s (λ p. record p { nexts = p.nexts ++ a ∷ [] })
  next_told s i a small_i small =
      let last : List ℕ = codes " <= " ++ (node_name a ++ codes ";") in
      ap (λ t. at_shell s (λ p. record p { nexts = p.nexts ++ own most (drop 4 (after_number t)) ∷ [] })) (flat4 (decimal i) (codes " <= ") (node_name a) (codes ";"))
      ∙ ap (λ t. at_shell s (λ p. record p { nexts = p.nexts ++ own most (drop 4 t) ∷ [] })) (after_at most wide i last small_i refl)
      ∙ ap (λ k. at_shell s (λ p. record p { nexts = p.nexts ++ k ∷ [] })) (number_at most wide a (codes ";") small refl)

  write_at : (w : MemWrite) → w.when ≤ most → w.memory ≤ most → w.index ≤ most → w.value ≤ most
      → write_told most (node_name w.when ++ (codes ") " ++ (memory_name w.memory ++ (codes "[" ++ (node_name w.index ++ (codes "] <= " ++ (node_name w.value ++ codes ";"))))))) ≡ w
  write_at w small_when small_memory small_index small_value =
      let last3 : List ℕ = codes "] <= " ++ (node_name w.value ++ codes ";") in
      let last2 : List ℕ = codes "[" ++ (node_name w.index ++ last3) in
      let last1 : List ℕ = codes ") " ++ (memory_name w.memory ++ last2) in
      ap (λ k. record { memory = own most (drop 2 (after_number (decimal w.when ++ last1))); when = k; index = own most (drop 1 (after_own (drop 2 (after_number (decimal w.when ++ last1))))); value = own most (drop 5 (after_own (drop 1 (after_own (drop 2 (after_number (decimal w.when ++ last1))))))) }) (number_at most wide w.when last1 small_when refl)
      ∙ ap (λ t. record { memory = own most (drop 2 t); when = w.when; index = own most (drop 1 (after_own (drop 2 t))); value = own most (drop 5 (after_own (drop 1 (after_own (drop 2 t))))) }) (after_at most wide w.when last1 small_when refl)
      ∙ ap (λ k. record { memory = k; when = w.when; index = own most (drop 1 (after_number (decimal w.memory ++ last2))); value = own most (drop 5 (after_own (drop 1 (after_number (decimal w.memory ++ last2))))) }) (number_at most wide w.memory last2 small_memory refl)
      ∙ ap (λ t. record { memory = w.memory; when = w.when; index = own most (drop 1 t); value = own most (drop 5 (after_own (drop 1 t))) }) (after_at most wide w.memory last2 small_memory refl)
      ∙ ap (λ k. record { memory = w.memory; when = w.when; index = k; value = own most (drop 5 (after_number (decimal w.index ++ last3))) }) (number_at most wide w.index last3 small_index refl)
      ∙ ap (λ t. record { memory = w.memory; when = w.when; index = w.index; value = own most (drop 5 t) }) (after_at most wide w.index last3 small_index refl)
      ∙ ap (λ k. record { memory = w.memory; when = w.when; index = w.index; value = k }) (number_at most wide w.value (codes ";") small_value refl)

  pub write_line_told : (s : Told) (w : MemWrite) → w.when ≤ most → w.memory ≤ most → w.index ≤ most → w.value ≤ most → told most s (write_line w) ≡ at_shell s (λ p. record p { writes = p.writes ++ w ∷ [] })
  write_line_told s w small_when small_memory small_index small_value =
      ap (λ t. at_shell s (λ p. record p { writes = p.writes ++ write_told most t ∷ [] })) (flat8 (node_name w.when) (codes ") ") (memory_name w.memory) (codes "[") (node_name w.index) (codes "] <= ") (node_name w.value) (codes ";"))
      ∙ ap (λ x. at_shell s (λ p. record p { writes = p.writes ++ x ∷ [] })) (write_at w small_when small_memory small_index small_value)
