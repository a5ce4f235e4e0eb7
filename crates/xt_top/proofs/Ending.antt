-- How a run ends, from what was found and what was written of it.
use Rattle.std.proofs.Common.{◌≡◌, ◌≢◌, ◌⊎◌, inl, inr, refl, subst, sym, ap, ◌∙◌, ℕ, List, [], Option, Some, None, append-nil}
use Rattle.std.specs.Prelude.{Result, Ok, Err}
use Rattle.xt_base.specs.Outside.{appended}
use Rattle.nt_core.specs.Parts.{Parts}
use Rattle.nt_core.specs.Text.{text_of}
use Rattle.xt_top.specs.declared.answer.Answer.{Answer}
use Rattle.xt_top.specs.declared.answer.Answer.TheVariants.{Design}
use Rattle.xt_top.specs.declared.answer.Stop.{Stop}
use Rattle.xt_top.specs.declared.answer.Stop.TheVariants as stops
use Rattle.xt_top.specs.declared.note.Note.{Note}
use Rattle.xt_top.specs.declared.note.Note.TheVariants as notes
use Rattle.xt_top.specs.declared.status.Status.{Status}
use Rattle.xt_top.specs.declared.status.Status.TheVariants.{Done}
use Rattle.xt_top.specs.Answer.{Answers, MayLeave}
use Rattle.xt_top.specs.Command.{Request, request_of, compile}
use Rattle.xt_top.specs.Ends.{Stream, Outside, Took, Writes, whole, text_cut, note_cut, Ends, answered, file_fault, no_memory}
use Rattle.xt_top.specs.Loads.{LoadsFiles}
use Rattle.xt_top.specs.Note.{line_of, status_of}
use Rattle.xt_top.specs.inner.Works.{Finds, NothingWritten, Puts, PutsText, Stops, Tells, text_in}

-- ---- nothing more

pub appended_nothing : (o : Option (List ℕ)) → o ≡ appended o []
appended_nothing None = refl
appended_nothing (Some bytes) = ap (λ (x : List ℕ). Some x) (sym (append-nil bytes))

pub took_nothing : (s t : Stream) → t ≡ s → Took s t []
took_nothing s t same = record { written = ap (λ x. x.written) same ∙ appended_nothing s.written; calm = ap (λ x. x.faults) same }

-- a note has a line, and a design has a text
line_some : (note : Note) → line_of note ≢ []
line_some notes.Usage is = cc
line_some (notes.Refused rule file line) is = cc
line_some notes.BadDesign is = cc
line_some notes.BadRecord is = cc
line_some (notes.Differs line) is = cc
line_some notes.ReadFault is = cc

text_some : (n : Parts) → text_of n ≢ []
text_some n is = cc

-- ---- what was written

writes_design : (n : Parts) (out out' notes : Stream) (status : Status) → PutsText (text_of n) out out' status → Writes Done [] (text_of n) out out' notes notes status ⊎ NothingWritten out out' notes notes status
writes_design n out out' notes status (inl (inl (is, took))) = inl (subst (Writes Done [] (text_of n) out out' notes notes) (sym is) (whole took (took_nothing notes notes refl)))
writes_design n out out' notes status (inl (inr (is, failed))) = inl (subst (Writes Done [] (text_of n) out out' notes notes) (sym is) (text_cut (text_some n) failed refl))
writes_design n out out' notes status (inr (is, same)) = inr (is, same, refl)

writes_note : (note : Note) (out notes notes' : Stream) (status : Status) → Tells (status_of note) (line_of note) notes notes' status → Writes (status_of note) (line_of note) [] out out notes notes' status
writes_note note out notes notes' status (inl (is, took)) = subst (Writes (status_of note) (line_of note) [] out out notes notes') (sym is) (whole (took_nothing out out refl) took)
writes_note note out notes notes' status (inr (is, failed)) = subst (Writes (status_of note) (line_of note) [] out out notes notes') (sym is) (note_cut (line_some note) failed refl)

pub puts_text : (answer : Answer) (out out' notes : Stream) (status : Status) → PutsText (text_in answer) out out' status → Puts (Ok answer) out out' notes notes status
puts_text (Design n) out out' notes status puts = writes_design n out out' notes status puts

pub puts_note : (stop : Stop) (note : Note) → stop ≡ stops.Note note → (out notes notes' : Stream) (status : Status) → Tells (status_of note) (line_of note) notes notes' status → Puts (Err stop) out out notes notes' status
puts_note stop note is out notes notes' status told = subst (λ s. Puts (Err s) out out notes notes' status) (sym is) (writes_note note out notes notes' status told)

-- ---- the end

may_leave_nothing : (asked : Option Request) → MayLeave asked []
may_leave_nothing None = refl
may_leave_nothing (Some (compile s)) = refl

module _ (words : List (List ℕ)) (old new : Outside) (status : Status) where
  abbrev Ended : Type 0
  Ended = Ends (Answers words old.files.held) (LoadsFiles (request_of words)) (MayLeave (request_of words)) old new status

  without_memory : NothingWritten old.out new.out old.notes new.notes status → Ended
  without_memory (is, same_out, same_notes) =
      subst (Ends (Answers words old.files.held) (LoadsFiles (request_of words)) (MayLeave (request_of words)) old new) (sym is)
      (no_memory [] (may_leave_nothing (request_of words)) (took_nothing old.out new.out same_out) same_notes)

  noted : (note : Note) → Stops words old.files.held old.files.faults new.files.faults (stops.Note note) → Writes (status_of note) (line_of note) [] old.out new.out old.notes new.notes status → Ended
  noted note (inl (answers, calm)) writes = answered (status_of note) (line_of note) [] answers calm status writes
  noted note (inr (loads, is, fault)) writes = file_fault loads fault status (subst (λ n. Writes (status_of n) (line_of n) [] old.out new.out old.notes new.notes status) is writes)

  pub ended : (answer : Result Answer Stop) → Finds words old.files.held old.files.faults new.files.faults answer → Puts answer old.out new.out old.notes new.notes status → Ended
  ended (Ok answer) (answers, calm) (inl writes) = answered Done [] (text_in answer) answers calm status writes
  ended (Ok answer) found (inr nothing) = without_memory nothing
  ended (Err (stops.Note note)) found writes = noted note found writes
  ended (Err stops.Memory) found nothing = without_memory nothing
