-- Where no fault is counted the answer stands whole on the streams, or memory ran out.
use Rattle.std.proofs.Common.{◌≡◌, ◌⊎◌, inl, inr, refl, arith, ℕ, List}
use Rattle.xt_base.specs.Outside.{HasFault, HasNoFault}
use Rattle.xt_top.specs.declared.status.Status.{Status}
use Rattle.xt_top.specs.declared.status.Status.TheVariants.{Memory}
use Rattle.xt_top.specs.Answer.{Answers, MayLeave}
use Rattle.xt_top.specs.Command.{request_of}
use Rattle.xt_top.specs.Loads.{LoadsFiles}
use Rattle.xt_top.specs.Ends.{Outside, Writes, whole, text_cut, note_cut, Ends, answered, file_fault, no_memory, IsRun, IsWhole, NoFault}

never_both : (old new : ℕ) → HasNoFault old new → HasFault old new → ⊥
never_both old new (same, below) (inl rose) = omega (arith, same)
never_both old new (same, below) (inr last) = omega (arith, last)

module _ (words : List (List ℕ)) (old new : Outside) (calm : NoFault old new) where
  abbrev Whole : Status → Type 0
  Whole status = (status ≡ Memory) ⊎ IsWhole words old new status

  written : (due status : Status) (note text : List ℕ) → Answers words old.files.held due note text → Writes due note text old.out new.out old.notes new.notes status → Whole status
  written due status note text answers (whole out notes) = inr (record { note = note; text = text; answers = answers; out = out; notes = notes })
  written due status note text answers (text_cut some failed same) = absurd (never_both old.out.faults new.out.faults calm.out failed.fault)
  written due status note text answers (note_cut some failed same) = absurd (never_both old.notes.faults new.notes.faults calm.notes failed.fault)

  ended : (status : Status) → Ends (Answers words old.files.held) (LoadsFiles (request_of words)) (MayLeave (request_of words)) old new status → Whole status
  ended status (answered due note text answers same ending writes) = written due status note text answers writes
  ended status (file_fault loads fault ending writes) = absurd (never_both old.files.faults new.files.faults calm.files fault)
  ended status (no_memory left leaves out notes) = inl refl

pub whole_answer : (words : List (List ℕ)) (old new : Outside) (status : Status) → IsRun words old new status → NoFault old new → (status ≡ Memory) ⊎ IsWhole words old new status
whole_answer words old new status run calm = ended words old new calm status run.ends
