-- What the parts of a run give each other: the refusal of a text, what is to be written, and what of it was. No public contract cites these. This project's own.
use Rattle.std.specs.Prelude.{◌≡◌, ◌⊎◌, ◌<◌, ℕ, List, [], Option, Result, Ok, Err, length, string_bytes}
use Rattle.xt_base.specs.Outside.{Held, HasFault}
use Rattle.xt_base.specs.declared.refusals.Fail.{Fail}
use Rattle.xt_base.specs.declared.refusals.Refusal.{Refusal}
use Rattle.xt_base.specs.declared.refusals.Fail.TheVariants as fails
use Rattle.vl_pre.specs.Text.{Expanded}
use Rattle.vl_pre.specs.declared.faults.PreFault.{PreFault}
use Rattle.vl_pre.specs.declared.faults.PreFault.TheVariants as faults
use Rattle.nt_core.specs.Text.{text_of}
use Rattle.xt_top.specs.declared.answer.Answer.{Answer}
use Rattle.xt_top.specs.declared.answer.Answer.TheVariants.{Design}
use Rattle.xt_top.specs.declared.answer.Stop.{Stop}
use Rattle.xt_top.specs.declared.answer.Stop.TheVariants as stops
use Rattle.xt_top.specs.declared.note.Note.{Note}
use Rattle.xt_top.specs.declared.note.Note.TheVariants as notes
use Rattle.xt_top.specs.declared.status.Status.{Status}
use Rattle.xt_top.specs.declared.status.Status.TheVariants.{Done, Memory, WriteFault}
use Rattle.xt_top.specs.Answer.{Answers}
use Rattle.xt_top.specs.Breaks.{FirstBreak}
use Rattle.xt_top.specs.Command.{SourceWords, request_of}
use Rattle.xt_top.specs.Ends.{Stream, Took, Failed, Writes}
use Rattle.xt_top.specs.Loads.{LoadsFiles}
use Rattle.xt_top.specs.Note.{line_of, status_of}

-- ---- the work

-- the first rule that a text breaks, at a place in one of its files; or memory ran out
abbrev pub IsRefusal : Expanded → SourceWords → Fail → Type 0
IsRefusal text s (fails.Refused refusal) = FirstBreak text s refusal × (refusal.place.file < length text.names)
IsRefusal text s fails.Memory = Unit {0}

-- what stops a run where a source has no text
abbrev pub IsStopOf : PreFault → Stop → Type 0
IsStopOf (faults.Refused refusal file) stop = stop ≡ stops.Note (notes.Refused refusal.rule file refusal.place.line)
IsStopOf faults.ReadFault stop = stop ≡ stops.Note notes.ReadFault
IsStopOf faults.Memory stop = stop ≡ stops.Memory

-- a note tells of a rule that is broken, with the name of its file
abbrev pub Names : Refusal → List ℕ → Note → Type 0
Names refusal name (notes.Refused rule file line) = (rule ≡ refusal.rule) × (string_bytes file ≡ name) × (line ≡ refusal.place.line)
Names refusal name _ = ⊥

-- such a note; or memory ran out
abbrev pub IsNamed : Refusal → List ℕ → Stop → Type 0
IsNamed refusal name (stops.Note note) = Names refusal name note
IsNamed refusal name stops.Memory = Unit {0}

-- the text of an answer
abbrev pub text_in : Answer → List ℕ
text_in (Design netlist) = text_of netlist

-- a note is the answer to words, and no fault of the files was counted; or it tells of such a fault, where files were loaded; or memory ran out
abbrev pub Stops : List (List ℕ) → Option Held → ℕ → ℕ → Stop → Type 0
Stops words held faults faults' (stops.Note note) = (Answers words held (status_of note) (line_of note) [] × (faults' ≡ faults)) ⊎ (LoadsFiles (request_of words) × (note ≡ notes.ReadFault) × HasFault faults faults')
Stops words held faults faults' stops.Memory = Unit {0}

-- what is to be written is the answer to words, and no fault of the files was counted; or why there is none
abbrev pub Finds : List (List ℕ) → Option Held → ℕ → ℕ → Result Answer Stop → Type 0
Finds words held faults faults' (Ok answer) = Answers words held Done [] (text_in answer) × (faults' ≡ faults)
Finds words held faults faults' (Err stop) = Stops words held faults faults' stop

-- ---- the writing

-- a text was put on a stream: with the status that is due the stream took it whole, and else the write failed
abbrev pub Tells : Status → List ℕ → Stream → Stream → Status → Type 0
Tells due text old new status = ((status ≡ due) × Took old new text) ⊎ ((status ≡ WriteFault) × Failed old new text)

-- a text was put on the output, or its write failed, or memory ran out before
abbrev pub PutsText : List ℕ → Stream → Stream → Status → Type 0
PutsText text old new status = Tells Done text old new status ⊎ ((status ≡ Memory) × (new ≡ old))

-- memory ran out, and the streams are as before
abbrev pub NothingWritten : Stream → Stream → Stream → Stream → Status → Type 0
NothingWritten out out' notes notes' status = (status ≡ Memory) × (out' ≡ out) × (notes' ≡ notes)

-- what is to be written was written, or memory ran out before
abbrev pub Puts : Result Answer Stop → Stream → Stream → Stream → Stream → Status → Type 0
Puts (Ok answer) out out' notes notes' status = Writes Done [] (text_in answer) out out' notes notes' status ⊎ NothingWritten out out' notes notes' status
Puts (Err (stops.Note note)) out out' notes notes' status = Writes (status_of note) (line_of note) [] out out' notes notes' status
Puts (Err stops.Memory) out out' notes notes' status = NothingWritten out out' notes notes' status
