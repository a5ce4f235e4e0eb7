-- The answers of a run and their causes, row by row, as they follow from its contract.
use Rattle.std.proofs.Common.{◌≡◌, ◌≢◌, ◌⊎◌, inl, inr, ◌<◌, refl, sym, subst, ap, ◌∙◌, ◌++◌, append-nil, arith, ℕ, List, [], ◌∷◌, Option, Some, None}
use Rattle.std.specs.Prelude.{Result, Ok, Err, IfSome, IsSomeAnd, IsTrue, codes, replicate}
use Rattle.xt_base.specs.Outside.{Held, HasFault}
use Rattle.xt_bits.specs.Stimulus.{Stimulus}
use Rattle.xt_bits.specs.Trace.{Trace}
use Rattle.xt_base.specs.declared.refusals.Refusal.{Refusal}
use Rattle.vl_pre.specs.Directives as directives
use Rattle.vl_pre.specs.Faults as pre
use Rattle.vl_pre.specs.Faults.{AskedInOrder}
use Rattle.vl_pre.specs.Files.{Reading, Stop}
use Rattle.vl_pre.specs.Text.{Expanded}
use Rattle.vl_lex.specs.Refusals.{no_token}
use Rattle.vl_lex.specs.Tokens.{AreTokens, FailsAt}
use Rattle.vl_lex.specs.declared.kinds.Token.{Token}
use Rattle.vl_tree.specs.declared.modules.Tree.{Tree}
use Rattle.vl_expr.specs.Refusals.{IsNoTree}
use Rattle.nt_core.specs.Conditions.{IsNetlist}
use Rattle.nt_core.specs.DesignRun.{IsDesignTrace}
use Rattle.nt_core.specs.Parts.{Parts}
use Rattle.nt_core.specs.Text.{text_of}
use Rattle.el_design.specs.declared.designs.Design.{Design}
use Rattle.el_design.specs.Run.{IsStimulus}
use Rattle.el_design.specs.View.{flat_of}
use Rattle.xt_compile.specs.Hardware.{HasOutside, AlwaysShows}
use Rattle.xt_compile.specs.declared.first.source.Source.{Source}
use Rattle.xt_compile.proofs.first_form.Somes.{none_some}
use Rattle.xt_top.specs.declared.status.Status.{Status}
use Rattle.xt_top.specs.declared.status.Status.TheVariants.{Done, Memory, Usage, Refused, BadDesign, BadRecord, Differs, ReadFault, WriteFault}
use Rattle.xt_top.specs.Answer.{Answers, IsDone, IsReady, MayLeave, no_command, not_held, refused, done}
use Rattle.xt_top.specs.Breaks.{FirstBreak, at_byte, at_token, out_of_form, not_of_form, IsBroken, in_expansion}
use Rattle.xt_top.specs.Command.{Request, SourceWords, compile, request_of, source_words}
use Rattle.xt_top.specs.Ends.{Outside, Took, Failed, Writes, whole, text_cut, note_cut, Ends, answered, file_fault, no_memory, NoFault, IsWhole, IsRun}
use Rattle.xt_top.specs.Loads.{AreHeld, IsMissing, LoadsFiles, takes_files, loads_after, loads_of, of_source}
use Rattle.xt_top.specs.Note.{refused_line}
use Rattle.xt_top.specs.Sources.{HasTree, IsFormOf, IsSourceOf, IsTreeOf, expanded, read_from}
use Rattle.xt_top.specs.Status.{number_of}
use Rattle.xt_top.proofs.Judgement.{one_break}
use Rattle.xt_top.proofs.Verdict.{broken_missing, one_answer, one_broken, ready_done}
use Rattle.xt_top.proofs.Whole.{whole_answer}

none_asked : (names rest : List (List ℕ)) → [] ≡ names ++ rest → names ≡ []
none_asked [] rest is = refl
none_asked (name ∷ names) rest is = cc

module _ (words : List (List ℕ)) (old new : Outside) where
  abbrev Ended : Status → Type 0
  Ended = Ends (Answers words old.files.held) (LoadsFiles (request_of words)) (MayLeave (request_of words)) old new

  -- the answer stands whole on the streams
  abbrev Stands : Status → Type 0
  Stands status = (note : List ℕ) × (text : List ℕ) × Answers words old.files.held status note text × Took old.out new.out text × Took old.notes new.notes note

  -- the note of an answer, or that of a fault of the files which was counted
  abbrev IsNote : List ℕ → Type 0
  IsNote note = ((status : Status) × Answers words old.files.held status note []) ⊎ ((note ≡ codes "read fault\n") × HasFault old.files.faults new.files.faults)

  -- a stream took a prefix of what is its, with a fault, and the other is as it was: the output of the text that is the answer, or the notes of a note
  abbrev Cut : Type 0
  Cut =
      ((text : List ℕ) × Answers words old.files.held Done [] text × Failed old.out new.out text × (new.notes ≡ old.notes))
      ⊎ ((note : List ℕ) × IsNote note × Failed old.notes new.notes note × (new.out ≡ old.out))

  text_is_done : (due : Status) (note text : List ℕ) → Answers words old.files.held due note text → text ≢ [] → Answers words old.files.held Done [] text
  text_is_done due note text (no_command none) some = absurd (some refl)
  text_is_done due note text (not_held r asked missing) some = absurd (some refl)
  text_is_done due note text (refused r asked refusal file broken) some = absurd (some refl)
  text_is_done due note text (done r asked bytes is) some = done r asked bytes is

  note_alone : (due : Status) (note text : List ℕ) → Answers words old.files.held due note text → note ≢ [] → Answers words old.files.held due note []
  note_alone due note text (no_command none) some = no_command none
  note_alone due note text (not_held r asked missing) some = not_held r asked missing
  note_alone due note text (refused r asked refusal file broken) some = refused r asked refusal file broken
  note_alone due note text (done r asked bytes is) some = absurd (some refl)

  -- the output is as it was, and the notes have one line more
  abbrev Notes : List ℕ → Type 0
  Notes line = Took old.out new.out [] × Took old.notes new.notes line

  -- ---- the ways to end

  abbrev Ways : Status → Type 0
  Ways status = Stands status ⊎ ((status ≡ ReadFault) × HasFault old.files.faults new.files.faults × Notes (codes "read fault\n")) ⊎ ((status ≡ WriteFault) × Cut) ⊎ ((status ≡ Memory) × Took old.out new.out [] × (new.notes ≡ old.notes))

  leaves_nothing : (asked : Option Request) (left : List ℕ) → MayLeave asked left → left ≡ []
  leaves_nothing None left is = is
  leaves_nothing (Some (compile s)) left is = is

  ways : (status : Status) → Ended status → Ways status
  ways status (answered due note text answers same ending (whole out notes)) = inl (note, text, answers, out, notes)
  ways status (answered due note text answers same ending (text_cut some failed kept)) = inr (inr (inl (refl, inl (text, text_is_done due note text answers some, failed, kept))))
  ways status (answered due note text answers same ending (note_cut some failed kept)) = inr (inr (inl (refl, inr (note, inl (due, note_alone due note text answers some), failed, kept))))
  ways status (file_fault loads fault ending (whole out notes)) = inr (inl (refl, fault, (out, notes)))
  ways status (file_fault loads fault ending (text_cut some failed kept)) = absurd (some refl)
  ways status (file_fault loads fault ending (note_cut some failed kept)) = inr (inr (inl (refl, inr (codes "read fault\n", inr (refl, fault), failed, kept))))
  ways status (no_memory left leaves out notes) = inr (inr (inr (refl, subst (Took old.out new.out) (leaves_nothing (request_of words) left leaves) out, notes)))

  stands : (status : Status) → status ≢ ReadFault → status ≢ WriteFault → status ≢ Memory → Ended status → Stands status
  stands status unread unwritten remembers run = by (ways status run) where
    by : Ways status → Stands status
    by (inl is) = is
    by (inr (inl (is, fault, notes))) = absurd (unread is)
    by (inr (inr (inl (is, cut)))) = absurd (unwritten is)
    by (inr (inr (inr (is, out, notes)))) = absurd (remembers is)

  -- ---- what each status says

  -- Done: the command's text stands whole on the output, and nothing on the notes
  done_row : Ended Done → (r : Request) × (text : List ℕ) × (request_of words ≡ Some r) × IfSome old.files.held (λ h. AreHeld h r × IsDone h r text) × Took old.out new.out text × Took old.notes new.notes []
  done_row run = by (stands Done (λ e. cc) (λ e. cc) (λ e. cc) run) where
    by : Stands Done → (r : Request) × (text : List ℕ) × (request_of words ≡ Some r) × IfSome old.files.held (λ h. AreHeld h r × IsDone h r text) × Took old.out new.out text × Took old.notes new.notes []
    by (note, text, done r asked bytes is, out, notes) = (r, text, asked, is, out, notes)

  -- and the text is a netlist's, with the outside of the one design of the source, and with the trace that the event queue always shows
  hardware_row : (h : Held) → old.files.held ≡ Some h → Ended Done → (s : SourceWords) × (d : Design) × (text : List ℕ) × (n : Parts) × (request_of words ≡ Some (compile s)) × IsSourceOf h s d
      × IsNetlist n × (text ≡ text_of n) × HasOutside d n × ((x : Stimulus) → IsStimulus (flat_of d) x → (t : Trace) × IsDesignTrace n x t × AlwaysShows (flat_of d) x t)
      × Took old.out new.out text × Took old.notes new.notes []
  hardware_row h told run = by (done_row run) where
    of_done : (r : Request) (text : List ℕ) → request_of words ≡ Some r → IsDone h r text → Took old.out new.out text × Took old.notes new.notes [] → (s : SourceWords) × (d : Design) × (text : List ℕ) × (n : Parts) × (request_of words ≡ Some (compile s)) × IsSourceOf h s d
        × IsNetlist n × (text ≡ text_of n) × HasOutside d n × ((x : Stimulus) → IsStimulus (flat_of d) x → (t : Trace) × IsDesignTrace n x t × AlwaysShows (flat_of d) x t)
        × Took old.out new.out text × Took old.notes new.notes []
    of_done (compile s) text asked (d, is, hardware) (out, notes) = (s, d, text, hardware.netlist, asked, is, hardware.is_netlist, hardware.text, hardware.outside, hardware.same_trace, out, notes)

    by : (r : Request) × (text : List ℕ) × (request_of words ≡ Some r) × IfSome old.files.held (λ h. AreHeld h r × IsDone h r text) × Took old.out new.out text × Took old.notes new.notes [] → (s : SourceWords) × (d : Design) × (text : List ℕ) × (n : Parts) × (request_of words ≡ Some (compile s)) × IsSourceOf h s d
        × IsNetlist n × (text ≡ text_of n) × HasOutside d n × ((x : Stimulus) → IsStimulus (flat_of d) x → (t : Trace) × IsDesignTrace n x t × AlwaysShows (flat_of d) x t)
        × Took old.out new.out text × Took old.notes new.notes []
    by (r, text, asked, is, out, notes) = let both : AreHeld h r × IsDone h r text = subst (λ o. IfSome o (λ h. AreHeld h r × IsDone h r text)) told is in of_done r text asked both.1 (out, notes)

  -- Usage: the words are no command
  usage_row : Ended Usage → (request_of words ≡ None) × Notes (codes "usage\n")
  usage_row run = by (stands Usage (λ e. cc) (λ e. cc) (λ e. cc) run) where
    by : Stands Usage → (request_of words ≡ None) × Notes (codes "usage\n")
    by (note, text, no_command is, out, notes) = (is, (out, notes))

  -- Refused: the line names the first rule that the source breaks
  refused_row : Ended Refused → (r : Request) × (refusal : Refusal) × (file : List ℕ) × (request_of words ≡ Some r) × IfSome old.files.held (λ h. IsBroken h r refusal file) × Notes (refused_line refusal.rule.0 file refusal.place.line)
  refused_row run = by (stands Refused (λ e. cc) (λ e. cc) (λ e. cc) run) where
    by : Stands Refused → (r : Request) × (refusal : Refusal) × (file : List ℕ) × (request_of words ≡ Some r) × IfSome old.files.held (λ h. IsBroken h r refusal file) × Notes (refused_line refusal.rule.0 file refusal.place.line)
    by (note, text, refused r asked refusal file broken, out, notes) = (r, refusal, file, asked, broken, (out, notes))

  -- BadDesign, BadRecord and Differs: no command has them
  bad_design_row : Ended BadDesign → ⊥
  bad_design_row run = by (stands BadDesign (λ e. cc) (λ e. cc) (λ e. cc) run) where
    by : Stands BadDesign → ⊥
    by (note, text, answers, out, notes) = elim answers [ ]

  bad_record_row : Ended BadRecord → ⊥
  bad_record_row run = by (stands BadRecord (λ e. cc) (λ e. cc) (λ e. cc) run) where
    by : Stands BadRecord → ⊥
    by (note, text, answers, out, notes) = elim answers [ ]

  differs_row : Ended Differs → ⊥
  differs_row run = by (stands Differs (λ e. cc) (λ e. cc) (λ e. cc) run) where
    by : Stands Differs → ⊥
    by (note, text, answers, out, notes) = elim answers [ ]

  -- ReadFault: a file that the command takes isn't held, or a fault of the files was counted
  read_fault_row : Ended ReadFault → (((r : Request) × (request_of words ≡ Some r) × IsSomeAnd old.files.held (λ h. IsMissing h r)) ⊎ HasFault old.files.faults new.files.faults) × Notes (codes "read fault\n")
  read_fault_row run = by (ways ReadFault run) where
    by : Ways ReadFault → (((r : Request) × (request_of words ≡ Some r) × IsSomeAnd old.files.held (λ h. IsMissing h r)) ⊎ HasFault old.files.faults new.files.faults) × Notes (codes "read fault\n")
    by (inl (note, text, not_held r asked missing, out, notes)) = (inl (r, asked, missing), (out, notes))
    by (inr (inl (is, fault, notes))) = (inr fault, notes)
    by (inr (inr (inl (is, cut)))) = cc
    by (inr (inr (inr (is, out, notes)))) = cc

  -- WriteFault: a fault of a stream was counted, and that stream took a prefix of what is its: the answer's text or note, or the note of a fault of the files
  write_fault_row : Ended WriteFault → Cut
  write_fault_row run = by (ways WriteFault run) where
    by : Ways WriteFault → Cut
    by (inl (note, text, answers, out, notes)) = elim answers [ ]
    by (inr (inl (is, fault, notes))) = cc
    by (inr (inr (inl (is, cut)))) = cut
    by (inr (inr (inr (is, out, notes)))) = cc

  -- Memory: nothing is written
  memory_row : Ended Memory → Took old.out new.out [] × (new.notes ≡ old.notes)
  memory_row run = by (ways Memory run) where
    by : Ways Memory → Took old.out new.out [] × (new.notes ≡ old.notes)
    by (inl (note, text, answers, out, notes)) = elim answers [ ]
    by (inr (inl (is, fault, notes))) = cc
    by (inr (inr (inl (is, cut)))) = cc
    by (inr (inr (inr (is, out, notes)))) = (out, notes)

  -- ---- what each cause comes to

  -- the status that is due, but for a fault that was counted and want of memory
  abbrev Comes : Status → Status → Type 0
  Comes due status = (status ≡ due) ⊎ ((status ≡ ReadFault) × HasFault old.files.faults new.files.faults) ⊎ (status ≡ WriteFault) ⊎ (status ≡ Memory)

  due_or_cut : (due status : Status) (note text : List ℕ) → Writes due note text old.out new.out old.notes new.notes status → (status ≡ due) ⊎ (status ≡ WriteFault)
  due_or_cut due status note text (whole out notes) = inl refl
  due_or_cut due status note text (text_cut some failed same) = inr refl
  due_or_cut due status note text (note_cut some failed same) = inr refl

  comes : (due : Status) → ((s : Status) (note text : List ℕ) → Answers words old.files.held s note text → s ≡ due) → (status : Status) → Ended status → Comes due status
  comes due sole status (answered given note text answers same ending writes) = by (due_or_cut given status note text writes) where
    by : (status ≡ given) ⊎ (status ≡ WriteFault) → Comes due status
    by (inl is) = inl (is ∙ sole given note text answers)
    by (inr is) = inr (inr (inl is))
  comes due sole status (file_fault loads fault ending writes) = by (due_or_cut ReadFault status (codes "read fault\n") [] writes) where
    by : (status ≡ ReadFault) ⊎ (status ≡ WriteFault) → Comes due status
    by (inl is) = inr (inl (is, fault))
    by (inr is) = inr (inr (inl is))
  comes due sole status (no_memory left leaves out notes) = inr (inr (inr refl))

  module _ (h : Held) (told : old.files.held ≡ Some h) where
    told_sole : (due : Status) (note : List ℕ) → Answers words (Some h) due note [] → (status : Status) (line text : List ℕ) → Answers words old.files.held status line text → status ≡ due
    told_sole due note answers status line text other = (one_answer words h status due line note text [] (subst (λ o. Answers words o status line text) told other) answers).0

    -- a command that misses a file
    missing_row : (r : Request) → request_of words ≡ Some r → IsMissing h r → (status : Status) → Ended status → Comes ReadFault status
    missing_row r asked missing = comes ReadFault (told_sole ReadFault (codes "read fault\n") (not_held r asked missing))

    -- a source that breaks a rule: the line names this break
    broken_line : (r : Request) → request_of words ≡ Some r → (refusal : Refusal) (file : List ℕ) → IsBroken h r refusal file → Ended Refused → Notes (refused_line refusal.rule.0 file refusal.place.line)
    broken_line r asked refusal file broken run = by (refused_row run) where
      by : (q : Request) × (other : Refusal) × (name : List ℕ) × (request_of words ≡ Some q) × IfSome old.files.held (λ h. IsBroken h q other name) × Notes (refused_line other.rule.0 name other.place.line) → Notes (refused_line refusal.rule.0 file refusal.place.line)
      by (q, other, name, asked', broken', notes) =
          let there : IsBroken h q other name = subst (λ o. IfSome o (λ h. IsBroken h q other name)) told broken' in
          subst Notes (one_answer words h Refused Refused (refused_line other.rule.0 name other.place.line) (refused_line refusal.rule.0 file refusal.place.line) [] [] (refused q asked' other name there) (refused r asked refusal file broken)).1 notes

    broken_row : (r : Request) → request_of words ≡ Some r → (refusal : Refusal) (file : List ℕ) → IsBroken h r refusal file → (status : Status) → Ended status →
        Comes Refused status × (status ≡ Refused → Notes (refused_line refusal.rule.0 file refusal.place.line))
    broken_row r asked refusal file broken status run = (
      comes Refused (told_sole Refused (refused_line refusal.rule.0 file refusal.place.line) (refused r asked refusal file broken)) status run,
      λ is. broken_line r asked refusal file broken (subst Ended is run),
    )

    -- where no fault is counted, the answer that is due stands whole, or memory ran out
    complete_row : NoFault old new → (due : Status) (note text : List ℕ) → Answers words (Some h) due note text → (status : Status) → IsRun words old new status →
        (status ≡ Memory) ⊎ ((status ≡ due) × IsWhole words old new status × Took old.notes new.notes note)
    complete_row calm due note text answers status run = by (whole_answer words old new status run calm) where
      by : (status ≡ Memory) ⊎ IsWhole words old new status → (status ≡ Memory) ⊎ ((status ≡ due) × IsWhole words old new status × Took old.notes new.notes note)
      by (inl memory) = inl memory
      by (inr is) =
          let one = one_answer words h status due is.note note is.text text (subst (λ o. Answers words o status is.note is.text) told is.answers) answers in
          inr (one.0, is, subst (Took old.notes new.notes) one.1 is.notes)

    -- what was asked for: the first of the loads of the source's expansion, in order
    loads_row : (s : SourceWords) → request_of words ≡ Some (compile s) → (status : Status) → IsRun words old new status → AskedInOrder old.files.asked new.files.asked (pre.loads_of (expanded h s))
    loads_row s asked status run = subst (AskedInOrder old.files.asked new.files.asked) (expansion_loads (expanded h s)) (subst (λ o. AskedInOrder old.files.asked new.files.asked (loads_of o h)) asked (run.loads.asked h told)) where
      expansion_loads : (read : Result Reading Stop) → loads_after h [] read ≡ pre.loads_of read
      expansion_loads (Ok reading) = append-nil reading.loads
      expansion_loads (Err stop) = refl

    -- a source that breaks none
    ready_row : (r : Request) → request_of words ≡ Some r → IsReady h r → (status : Status) → Ended status → Comes Done status
    ready_row r asked ready = comes Done (λ s note text answers. ready_done words h r asked ready s note text (subst (λ o. Answers words o s note text) told answers))

  -- words that are no command: no fault of the files counts
  module _ (none : request_of words ≡ None) where
    usage_sole : (s : Status) (note text : List ℕ) → Answers words old.files.held s note text → s ≡ Usage
    usage_sole s note text (no_command is) = refl
    usage_sole s note text (not_held r asked missing) = absurd (none_some (sym none ∙ asked))
    usage_sole s note text (refused r asked refusal file broken) = absurd (none_some (sym none ∙ asked))
    usage_sole s note text (done r asked bytes is) = absurd (none_some (sym none ∙ asked))

    no_command_row : (status : Status) → Ended status → (status ≡ Usage) ⊎ (status ≡ WriteFault) ⊎ (status ≡ Memory)
    no_command_row status (answered given note text answers same ending writes) = by (due_or_cut given status note text writes) where
      by : (status ≡ given) ⊎ (status ≡ WriteFault) → (status ≡ Usage) ⊎ (status ≡ WriteFault) ⊎ (status ≡ Memory)
      by (inl is) = inl (is ∙ usage_sole given note text answers)
      by (inr is) = inr (inl is)
    no_command_row status (file_fault loads fault ending writes) = absurd (subst (λ o. IsSomeAnd o (λ r. IsTrue (takes_files r))) none loads)
    no_command_row status (no_memory left leaves out notes) = inr (inr refl)

    no_command_loads : (h : Held) (status : Status) → old.files.held ≡ Some h → IsRun words old new status → new.files.asked ≡ old.files.asked
    no_command_loads h status told run = nothing (run.loads.asked h told) where
      nothing : AskedInOrder old.files.asked new.files.asked (loads_of (request_of words) h) → new.files.asked ≡ old.files.asked
      nothing a = a.asked ∙ ap (λ (names : List (List ℕ)). old.files.asked ++ names) (none_asked a.names a.rest (subst (λ asked. loads_of asked h ≡ a.names ++ a.rest) none a.order)) ∙ append-nil old.files.asked

  -- ---- what each count that rises comes to

  files_rose_row : old.files.faults < new.files.faults → (status : Status) → Ended status → (status ≡ ReadFault) ⊎ (status ≡ WriteFault) ⊎ (status ≡ Memory)
  files_rose_row rose status (answered given note text answers same ending writes) = absurd (omega (arith, same))
  files_rose_row rose status (file_fault loads fault ending writes) = by (due_or_cut ReadFault status (codes "read fault\n") [] writes) where
    by : (status ≡ ReadFault) ⊎ (status ≡ WriteFault) → (status ≡ ReadFault) ⊎ (status ≡ WriteFault) ⊎ (status ≡ Memory)
    by (inl is) = inl is
    by (inr is) = inr (inl is)
  files_rose_row rose status (no_memory left leaves out notes) = inr (inr refl)

  stream_rose : (due status : Status) (note text : List ℕ) → (old.out.faults < new.out.faults) ⊎ (old.notes.faults < new.notes.faults) → Writes due note text old.out new.out old.notes new.notes status → status ≡ WriteFault
  stream_rose due status note text (inl rose) (whole out notes) = absurd (omega (arith, out.calm))
  stream_rose due status note text (inr rose) (whole out notes) = absurd (omega (arith, notes.calm))
  stream_rose due status note text rose (text_cut some failed same) = refl
  stream_rose due status note text rose (note_cut some failed same) = refl

  streams_rose_row : (old.out.faults < new.out.faults) ⊎ (old.notes.faults < new.notes.faults) → (status : Status) → Ended status → status ≡ WriteFault
  streams_rose_row rose status (answered given note text answers same ending writes) = stream_rose given status note text rose writes
  streams_rose_row rose status (file_fault loads fault ending writes) = stream_rose ReadFault status (codes "read fault\n") [] rose writes
  streams_rose_row (inl rose) status (no_memory left leaves out notes) = absurd (omega (arith, out.calm))
  streams_rose_row (inr rose) status (no_memory left leaves out notes) = let same : new.notes.faults ≡ old.notes.faults = ap (λ x. x.faults) notes in absurd (omega (arith, same))

-- ---- the order of rules

module _ (h : Held) (s : SourceWords) (other : Refusal) (name : List ℕ) where
  -- what the expansion comes to stands first: a file that isn't held, or a rule that is broken there
  miss_first_row : pre.IsMiss (expanded h s) → IsBroken h (compile s) other name → ⊥
  miss_first_row miss broken = broken_missing h (compile s) other name broken (of_source s refl miss)

  expansion_first_row : (refusal : Refusal) (file : List ℕ) → pre.IsRefused refusal file (expanded h s) → IsBroken h (compile s) other name → (other ≡ refusal) × (name ≡ file)
  expansion_first_row refusal file broken is = one_broken h (compile s) other refusal name file is (in_expansion s refl refusal file broken)

  module _ (text : Expanded) where
    -- then a byte at which no token begins, whatever stands behind it
    byte_first_row : (at : ℕ) → FailsAt text.bytes at → FirstBreak text s other → other ≡ no_token text at
    byte_first_row at fails is = one_break text s other (no_token text at) is (at_byte at fails)

    -- then tokens without a tree
    token_next_row : (ts : List Token) → AreTokens text.bytes ts → ((tree : Tree) → IsTreeOf text ts tree → ⊥) → (stop : ℕ) → read_from text ts ≡ Err stop →
        (refusal : Refusal) → IsNoTree text ts stop refusal → FirstBreak text s other → other ≡ refusal
    token_next_row ts are none stop reads refusal names is = one_break text s other refusal is (at_token ts are none stop reads refusal names)

    -- then a tree that is no source of the form; so a process without a wait is the last
    form_next_row : (ts : List Token) (tree : Tree) → HasTree text ts tree → ((source : Source) → IsFormOf text s ts tree source → ⊥) → FirstBreak text s other → other ≡ not_of_form
    form_next_row ts tree has none is = one_break text s other not_of_form is (out_of_form ts tree has none)

-- ---- the numbers of the statuses

done_number : number_of Done ≡ 0
done_number = refl

memory_number : number_of Memory ≡ 1
memory_number = refl

usage_number : number_of Usage ≡ 2
usage_number = refl

refused_number : number_of Refused ≡ 3
refused_number = refl

read_fault_number : number_of ReadFault ≡ 7
read_fault_number = refl

write_fault_number : number_of WriteFault ≡ 8
write_fault_number = refl

-- ---- what words ask for

asked_row : request_of (codes "compile" ∷ codes "top.v" ∷ codes "top" ∷ codes "clk" ∷ []) ≡ Some (compile (source_words (codes "top.v") (codes "top") (codes "clk") []))
asked_row = refl

-- no words, a command that isn't known, and a macro without `=`
no_words_row : (h : Held) → Answers [] (Some h) Usage (codes "usage\n") []
no_words_row h = no_command refl

unknown_command_row : (h : Held) → Answers (codes "compiles" ∷ codes "top.v" ∷ codes "top" ∷ codes "clk" ∷ []) (Some h) Usage (codes "usage\n") []
unknown_command_row h = no_command refl

no_equals_row : (h : Held) → Answers (codes "compile" ∷ codes "top.v" ∷ codes "top" ∷ codes "clk" ∷ codes "WIDTH" ∷ []) (Some h) Usage (codes "usage\n") []
no_equals_row h = no_command refl

-- words with one macro, and with two
with_defines : List (List ℕ) → List (List ℕ)
with_defines defines = codes "compile" ∷ codes "top.v" ∷ codes "top" ∷ codes "clk" ∷ defines

two_defines_row : request_of (with_defines (codes "A=1" ∷ codes "B=x=y" ∷ [])) ≡ Some (compile (source_words (codes "top.v") (codes "top") (codes "clk") ((codes "A", codes "1") ∷ (codes "B", codes "x=y") ∷ [])))
unfolding directives.directive_of directives.directive_names with_defines
two_defines_row = refl

-- a reserved word is a macro's name, and a directive's isn't
reserved_name_row : request_of (with_defines (codes "wire=1" ∷ [])) ≡ Some (compile (source_words (codes "top.v") (codes "top") (codes "clk") ((codes "wire", codes "1") ∷ [])))
unfolding directives.directive_of directives.directive_names with_defines
reserved_name_row = refl

directive_name_row : request_of (with_defines (codes "define=1" ∷ [])) ≡ None
unfolding directives.directive_of directives.directive_names with_defines
directive_name_row = refl

-- a comment in the text
comment_row : request_of (with_defines (codes "A=1//2" ∷ [])) ≡ None
unfolding directives.directive_of directives.directive_names with_defines
comment_row = refl

-- a text of 257 bytes, and one of 256
long_text_row : request_of (with_defines ((codes "A=" ++ replicate 257 49) ∷ [])) ≡ None
unfolding directives.directive_of directives.directive_names with_defines
long_text_row = refl

longest_text_row : request_of (with_defines ((codes "A=" ++ replicate 256 49) ∷ [])) ≡ Some (compile (source_words (codes "top.v") (codes "top") (codes "clk") ((codes "A", replicate 256 49) ∷ [])))
unfolding directives.directive_of directives.directive_names with_defines
longest_text_row = refl
