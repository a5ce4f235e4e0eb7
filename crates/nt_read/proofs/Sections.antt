-- Lines of one kind, read one after another.
use Rattle.std.proofs.Common.{◌≡◌, ℕ, ◌+◌, ◌-◌, ◌^◌, ◌≤◌, ◌<◌, min, true, List, [], ◌∷◌, ◌++◌, length, map, flat_map, fold, zip, get_or, refl, sym, ap, ◌∙◌, subst, arith, append_assoc, append-nil, codes, IsTrue}
use Rattle.std.specs.List.{prefix_len, list_all, enumerate_from, AllByRecursion}
use Rattle.std.proofs.lemmas.List.{length-append}
use Rattle.std.proofs.lemmas.List.Sums.{fold-append}
use Rattle.std.proofs.lemmas.Option.{slice_get_read}
use Rattle.std.proofs.Math.Seq.{set-append_seam}
use Rattle.nt_core.specs.declared.netlist.Wire.{Wire}
use Rattle.nt_core.specs.HostLine.{HostLine}
use Rattle.nt_core.specs.Parts.{Parts}
use Rattle.xt_base.specs.Identifiers.{is_in_word}
use Rattle.nt_core.specs.Names.{is_pin_name}
use Rattle.nt_core.specs.Forms.{IsWidth}
use Rattle.nt_core.specs.Conditions.{port_widths}
use Rattle.nt_core.specs.Text.{host_name, ret_name, arg_name, port_names, numbered, input_line, host_input_lines, output_line, output_lines, with_commas, assign_line}
use Rattle.nt_write.specs.Lines.{host_output_lines}
use Rattle.nt_write.proofs.PortLists.{arg_lines, other_lines}
use Rattle.nt_read.specs.declared.sketch.Told.{Told}
use Rattle.nt_read.specs.Sketch.{with_ret, with_arg, changed, changed_at, told}
use Rattle.nt_read.proofs.LineTexts.{at_shell, ack_told, ret_told, output_pin_told, request_told, function_port_told, argument_told, assign_told}

-- ---- one of the hosts

at_seam : (done : List HostLine) (h : HostLine) (rest : List HostLine) → get_or (done ++ h ∷ rest) (length done) h ≡ h
at_seam [] h rest = refl
at_seam (d ∷ done) h rest = at_seam done h rest

pub changed_seam : (change : HostLine → HostLine) (done : List HostLine) (h : HostLine) (rest : List HostLine) → changed change (done ++ h ∷ rest) (length done) ≡ done ++ change h ∷ rest
changed_seam change done h rest =
    ap (changed_at change (done ++ h ∷ rest) (length done)) (slice_get_read (done ++ h ∷ rest) (length (done ++ h ∷ rest)) (length done) h refl (omega (arith, length-append done (h ∷ rest))) (sym (at_seam done h rest)))
    ∙ set-append_seam done h rest (change h)

changed_last : (change : HostLine → HostLine) (done : List HostLine) (h : HostLine) → changed change (done ++ h ∷ []) (length (done ++ h ∷ []) - 1) ≡ done ++ change h ∷ []
changed_last change done h =
    let place : length (done ++ h ∷ []) - 1 ≡ length done = omega (arith, length-append done (h ∷ [])) in
    ap (changed change (done ++ h ∷ [])) place ∙ changed_seam change done h []

-- a host before its arguments were told
abbrev pub bare : HostLine → HostLine
bare h = record h { args = [] }

abbrev pub with_hosts : Told → List HostLine → Told
with_hosts s hosts = at_shell s (λ p. record p { hosts = hosts })

-- what is asked of a host to be read
pub record GoodHost (most : ℕ) (h : HostLine) : Type 0 where
  pub process : h.process ≤ most
  pub rets : AllByRecursion IsWidth h.rets
  pub rets_few : length h.rets ≤ most
  pub args : AllByRecursion IsWidth h.args
  pub args_few : length h.args ≤ most

pub record GoodPin (p : Wire) : Type 0 where
  pub name : IsTrue (is_pin_name p.name)
  pub width : IsWidth p.width

module _ (most : ℕ) (wide : most < 2 ^ 64) (room : 65536 ≤ most) where
  -- ---- lines for the items of a list

  pub section : {X : Type 0} (line : X → List ℕ) (Good : X → Type 0) (grow : List X → Told) → ((done : List X) (x : X) → Good x → told most (grow done) (line x) ≡ grow (done ++ x ∷ []))
      → (xs done : List X) → AllByRecursion Good xs → fold (told most) (grow done) (map line xs) ≡ grow (done ++ xs)
  section line Good grow step [] done good = ap grow (sym (append-nil done))
  section line Good grow step (x ∷ xs) done good =
      ap (λ s. fold (told most) s (map line xs)) (step done x good.0)
      ∙ section line Good grow step xs (done ++ x ∷ []) good.1
      ∙ ap grow (append_assoc done (x ∷ []) xs)

  pub section_from : {X : Type 0} (line : ℕ → X → List ℕ) (Good : X → Type 0) (grow : List X → Told) → ((k : ℕ) (done : List X) (x : X) → k ≤ most → Good x → told most (grow done) (line k x) ≡ grow (done ++ x ∷ []))
      → (k : ℕ) (xs done : List X) → k + length xs ≤ most → AllByRecursion Good xs → fold (told most) (grow done) (map (λ i. line i.0 i.1) (enumerate_from k xs)) ≡ grow (done ++ xs)
  section_from line Good grow step k [] done few good = ap grow (sym (append-nil done))
  section_from line Good grow step k (x ∷ xs) done few good =
      ap (λ s. fold (told most) s (map (λ i. line i.0 i.1) (enumerate_from (k + 1) xs))) (step k done x (omega (arith, few)) good.0)
      ∙ section_from line Good grow step (k + 1) xs (done ++ x ∷ []) (omega (arith, few)) good.1
      ∙ ap grow (append_assoc done (x ∷ []) xs)

  -- ---- hosts' inputs

  one_host_inputs : (s : Told) (done : List HostLine) (h : HostLine) → GoodHost most h → fold (told most) (with_hosts s done) (host_input_lines h) ≡ with_hosts s (done ++ bare h ∷ [])
  one_host_inputs s done h good =
      ap (λ t. fold (told most) t (numbered (λ i w. input_line w (ret_name h.process i)) h.rets)) (ack_told most wide room (with_hosts s done) h.process good.process)
      ∙ section_from (λ i w. input_line w (ret_name h.process i)) IsWidth (λ rs. with_hosts s (done ++ record { process = h.process; rets = rs; args = [] } ∷ []))
      (λ k rs w small width. ret_told most wide room _ h.process k w good.process small width ∙ ap (with_hosts s) (changed_last (with_ret w) done (record { process = h.process; rets = rs; args = [] })))
      0 h.rets [] (omega (arith, good.rets_few)) good.rets

  pub host_inputs : (s : Told) (hs done : List HostLine) → AllByRecursion (GoodHost most) hs → fold (told most) (with_hosts s done) (flat_map host_input_lines hs) ≡ with_hosts s (done ++ map bare hs)
  host_inputs s [] done good = ap (with_hosts s) (sym (append-nil done))
  host_inputs s (h ∷ hs) done good =
      fold-append (told most) (with_hosts s done) (host_input_lines h) (flat_map host_input_lines hs)
      ∙ ap (λ t. fold (told most) t (flat_map host_input_lines hs)) (one_host_inputs s done h good.0)
      ∙ host_inputs s hs (done ++ bare h ∷ []) good.1
      ∙ ap (with_hosts s) (append_assoc done (bare h ∷ []) (map bare hs))

  -- ---- commas

  -- a comma at the end of a line changes nothing
  abbrev Same : List ℕ → Type 0
  Same line = (s : Told) → told most s (line ++ codes ",") ≡ told most s line

  without_commas : (lines : List (List ℕ)) → AllByRecursion Same lines → (s : Told) → fold (told most) s (with_commas lines) ≡ fold (told most) s lines
  without_commas [] same s = refl
  without_commas (x ∷ []) same s = refl
  without_commas (x ∷ y ∷ rest) same s =
      ap (λ t. fold (told most) t (with_commas (y ∷ rest))) (same.0 s) ∙ without_commas (y ∷ rest) same.1 (told most s x)

  without_end : (line : List ℕ) (becomes : Told → Told) → ((s : Told) (end : List ℕ) → prefix_len is_in_word end ≡ 0 → told most s (line ++ end) ≡ becomes s) → (s : Told) → told most s line ≡ becomes s
  without_end line becomes is s = ap (told most s) (sym (append-nil line)) ∙ is s [] refl

  same_of : (line : List ℕ) (becomes : Told → Told) → ((s : Told) (end : List ℕ) → prefix_len is_in_word end ≡ 0 → told most s (line ++ end) ≡ becomes s) → Same line
  same_of line becomes is s = is s (codes ",") refl ∙ sym (without_end line becomes is s)

  -- ---- outputs

  pins_same : (outs : List Wire) → AllByRecursion GoodPin outs → AllByRecursion Same (map (λ o. output_line o.width o.name) outs)
  pins_same [] good = tt
  pins_same (o ∷ outs) good = (same_of (output_line o.width o.name) (λ s. at_shell s (λ p. record p { outputs = p.outputs ++ o ∷ [] })) (λ s end stop. output_pin_told most wide room s o end good.0.name good.0.width stop), pins_same outs good.1)

  -- the hosts and of how many the requests were told
  abbrev pub asking : Told → List HostLine → ℕ → Told
  asking s hosts k = record { shell = record s.shell { hosts = hosts }; asked = k }

  arguments : (s : Told) (done : List HostLine) (h : HostLine) (rest : List HostLine) → GoodHost most h → fold (told most) (asking s (done ++ bare h ∷ rest) (length done + 1)) (numbered (λ i w. output_line w (arg_name h.process i)) h.args) ≡ asking s (done ++ h ∷ rest) (length done + 1)
  arguments s done h rest good =
      let place : length done + 1 - 1 ≡ length done = omega arith in
      section_from (λ i w. output_line w (arg_name h.process i)) IsWidth (λ ws. asking s (done ++ record { process = h.process; rets = h.rets; args = ws } ∷ rest) (length done + 1))
      (λ k ws w small width.
      without_end (output_line w (arg_name h.process k)) (λ t. at_shell t (λ p. record p { hosts = changed (with_arg w) p.hosts (t.asked - 1) })) (λ t end stop. argument_told most wide room t h.process k w end good.process width) _
      ∙ ap (λ i. asking s (changed (with_arg w) (done ++ record { process = h.process; rets = h.rets; args = ws } ∷ rest) i) (length done + 1)) place
      ∙ ap (λ hs. asking s hs (length done + 1)) (changed_seam (with_arg w) done (record { process = h.process; rets = h.rets; args = ws }) rest))
      0 h.args [] (omega (arith, good.args_few)) good.args

  one_host_outputs : (s : Told) (done : List HostLine) (h : HostLine) (rest : List HostLine) → GoodHost most h → length done + 1 ≤ 2 ^ 64 - 1 → fold (told most) (asking s (done ++ bare h ∷ rest) (length done)) (host_output_lines h) ≡ asking s (done ++ h ∷ rest) (length done + 1)
  one_host_outputs s done h rest good few =
      let args : List (List ℕ) = map (λ q. output_line q.0 q.1) (zip h.args (map (λ i. arg_name h.process i.0) (enumerate_from 0 h.args))) in
      ap (λ t. fold (told most) (told most t (output_line 8 (host_name h.process ++ codes "_fn"))) args)
      (without_end (output_line 1 (host_name h.process ++ codes "_req")) (λ t. record t { asked = min (2 ^ 64 - 1) (t.asked + 1) }) (λ t end stop. request_told most wide room t h.process end good.process) (asking s (done ++ bare h ∷ rest) (length done))
      ∙ ap (asking s (done ++ bare h ∷ rest)) (grind (arith, few)))
      ∙ ap (λ t. fold (told most) t args) (without_end (output_line 8 (host_name h.process ++ codes "_fn")) (λ t. t) (λ t end stop. function_port_told most wide room t h.process end good.process) (asking s (done ++ bare h ∷ rest) (length done + 1)))
      ∙ ap (fold (told most) (asking s (done ++ bare h ∷ rest) (length done + 1))) (sym (arg_lines h.process h.args))
      ∙ arguments s done h rest good

  host_outputs : (s : Told) (hs done : List HostLine) → AllByRecursion (GoodHost most) hs → length done + length hs ≤ 2 ^ 64 - 1 → fold (told most) (asking s (done ++ map bare hs) (length done)) (flat_map host_output_lines hs) ≡ asking s (done ++ hs) (length done + length hs)
  host_outputs s [] done good few = ap (asking s (done ++ [])) (omega arith)
  host_outputs s (h ∷ hs) done good few =
      let next : List HostLine = done ++ h ∷ [] in
      let longer : length next ≡ length done + 1 = omega (arith, length-append done (h ∷ [])) in
      fold-append (told most) (asking s (done ++ map bare (h ∷ hs)) (length done)) (host_output_lines h) (flat_map host_output_lines hs)
      ∙ ap (λ t. fold (told most) t (flat_map host_output_lines hs)) (one_host_outputs s done h (map bare hs) good.0 (omega (arith, few)))
      ∙ ap (λ l. fold (told most) (asking s l (length done + 1)) (flat_map host_output_lines hs)) (sym (append_assoc done (h ∷ []) (map bare hs)))
      ∙ ap (λ k. fold (told most) (asking s (next ++ map bare hs) k) (flat_map host_output_lines hs)) (sym longer)
      ∙ host_outputs s hs next good.1 (omega (arith, few, longer))
      ∙ ap (λ l. asking s l (length next + length hs)) (append_assoc done (h ∷ []) hs)
      ∙ ap (asking s (done ++ h ∷ hs)) (omega (arith, longer))

  args_same : (q : ℕ) → q ≤ most → (k : ℕ) (args : List ℕ) → AllByRecursion IsWidth args → AllByRecursion Same (map (λ i. output_line i.1 (arg_name q i.0)) (enumerate_from k args))
  args_same q small k [] good = tt
  args_same q small k (w ∷ args) good = (same_of (output_line w (arg_name q k)) (λ t. at_shell t (λ p. record p { hosts = changed (with_arg w) p.hosts (t.asked - 1) })) (λ t end stop. argument_told most wide room t q k w end small good.0), args_same q small (k + 1) args good.1)

  one_host_same : (h : HostLine) → GoodHost most h → AllByRecursion Same (host_output_lines h)
  one_host_same h good = (
    same_of (output_line 1 (host_name h.process ++ codes "_req")) (λ t. record t { asked = min (2 ^ 64 - 1) (t.asked + 1) }) (λ t end stop. request_told most wide room t h.process end good.process),
    (
      same_of (output_line 8 (host_name h.process ++ codes "_fn")) (λ t. t) (λ t end stop. function_port_told most wide room t h.process end good.process),
      subst (AllByRecursion Same) (arg_lines h.process h.args) (args_same h.process good.process 0 h.args good.args),
    ),
  )

  all_append : {X : Type 0} (P : X → Type 0) (xs ys : List X) → AllByRecursion P xs → AllByRecursion P ys → AllByRecursion P (xs ++ ys)
  all_append P [] ys good more = more
  all_append P (x ∷ xs) ys good more = (good.0, all_append P xs ys good.1 more)

  hosts_same : (hs : List HostLine) → AllByRecursion (GoodHost most) hs → AllByRecursion Same (flat_map host_output_lines hs)
  hosts_same [] good = tt
  hosts_same (h ∷ hs) good = all_append Same (host_output_lines h) (flat_map host_output_lines hs) (one_host_same h good.0) (hosts_same hs good.1)

  edge_same : Same (output_line 1 (codes "xtc_edge"))
  edge_same s = refl

  -- all output ports
  pub outputs_told : (s : Told) (n : Parts) → AllByRecursion GoodPin n.outputs → AllByRecursion (GoodHost most) n.hosts → length n.hosts ≤ 2 ^ 64 - 1
      → fold (told most) (asking (at_shell s (λ p. record p { outputs = [] })) (map bare n.hosts) 0) (output_lines n) ≡ asking (at_shell s (λ p. record p { outputs = n.outputs })) n.hosts (length n.hosts)
  outputs_told s n outs hosts few =
      let start : Told = asking (at_shell s (λ p. record p { outputs = [] })) (map bare n.hosts) 0 in
      let pins : List (List ℕ) = map (λ o. output_line o.width o.name) n.outputs in
      let others : List (List ℕ) = flat_map host_output_lines n.hosts in
      let lines : List (List ℕ) = map (λ p. output_line p.0 p.1) (zip (port_widths n) (port_names n)) in
      let split : lines ≡ output_line 1 (codes "xtc_edge") ∷ (pins ++ others) = ap (λ t. output_line 1 (codes "xtc_edge") ∷ t) (other_lines n.outputs n.hosts) in
      fold-append (told most) start (with_commas lines) (codes ");" ∷ [])
      ∙ ap (λ l. fold (told most) start (with_commas l)) split
      ∙ without_commas (output_line 1 (codes "xtc_edge") ∷ (pins ++ others)) (edge_same, all_append Same pins others (pins_same n.outputs outs) (hosts_same n.hosts hosts)) start
      ∙ fold-append (told most) start pins others
      ∙ ap (λ t. fold (told most) t others) (section (λ o. output_line o.width o.name) GoodPin (λ os. asking (at_shell s (λ p. record p { outputs = os })) (map bare n.hosts) 0)
      (λ os o good. without_end (output_line o.width o.name) (λ t. at_shell t (λ p. record p { outputs = p.outputs ++ o ∷ [] })) (λ t end stop. output_pin_told most wide room t o end good.name good.width stop) _)
      n.outputs [] outs)
      ∙ host_outputs (at_shell s (λ p. record p { outputs = n.outputs })) n.hosts [] hosts (omega (arith, few))
      ∙ ap (asking (at_shell s (λ p. record p { outputs = n.outputs })) n.hosts) (omega arith)

  -- ---- what drives the ports

  pub assigns_told : (s : Told) (names : List (List ℕ)) (drives done : List ℕ) → length names ≡ length drives → AllByRecursion (λ name. list_all is_in_word name ≡ true) names → AllByRecursion (λ a. a ≤ most) drives
      → fold (told most) (at_shell s (λ p. record p { drives = done })) (map (λ p. assign_line p.0 p.1) (zip names drives)) ≡ at_shell s (λ p. record p { drives = done ++ drives })
  assigns_told s [] [] done same words small = ap (λ ds. at_shell s (λ p. record p { drives = ds })) (sym (append-nil done))
  assigns_told s [] (d ∷ ds) done same words small = absurd (omega (arith, same))
  assigns_told s (x ∷ xs) [] done same words small = absurd (omega (arith, same))
  assigns_told s (x ∷ xs) (d ∷ ds) done same words small =
      ap (λ t. fold (told most) t (map (λ p. assign_line p.0 p.1) (zip xs ds))) (assign_told most wide room (at_shell s (λ p. record p { drives = done })) x d words.0 small.0)
      ∙ assigns_told s xs ds (done ++ d ∷ []) (omega (arith, same)) words.1 small.1
      ∙ ap (λ l. at_shell s (λ p. record p { drives = l })) (append_assoc done (d ∷ []) ds)
