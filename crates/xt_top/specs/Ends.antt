-- How a call ends that answers: what its files and its two streams are afterwards. All of it is this project's own.
use Rattle.std.specs.Prelude.{◌≡◌, ◌≢◌, ◌≤◌, ℕ, List, [], Option, Some, codes}
use Rattle.xt_base.specs.Outside.{Held, appended, AppendsPrefix, HasFault, HasNoFault}
use Rattle.vl_pre.specs.Faults.{AskedInOrder}
use Rattle.xt_top.specs.declared.status.Status.{Status}
use Rattle.xt_top.specs.declared.status.Status.TheVariants.{Memory, ReadFault, WriteFault}
use Rattle.xt_top.specs.Answer.{Answers, MayLeave}
use Rattle.xt_top.specs.Command.{request_of}
use Rattle.xt_top.specs.Loads.{LoadsFiles, loads_of}

-- ---- the outside

-- files: what they hold, where told, which names were asked for, and how many faults were counted
pub record FileState : Type 0 where
  pub held : Option Held
  pub asked : List (List ℕ)
  pub faults : ℕ

-- a stream: what stands on it, where told, and how many faults were counted
pub record Stream : Type 0 where
  pub written : Option (List ℕ)
  pub faults : ℕ

-- the files, the output and the notes
pub record Outside : Type 0 where
  pub files : FileState
  pub out : Stream
  pub notes : Stream

abbrev pub file_state : Option Held → List (List ℕ) → ℕ → FileState
file_state held asked faults = record { held = held; asked = asked; faults = faults }

abbrev pub stream : Option (List ℕ) → ℕ → Stream
stream written faults = record { written = written; faults = faults }

abbrev pub outside : FileState → Stream → Stream → Outside
outside files out notes = record { files = files; out = out; notes = notes }

-- ---- what was written

-- a stream took a text whole, and its count of faults is as before
pub record Took (old new : Stream) (text : List ℕ) : Type 0 where
  pub written : new.written ≡ appended old.written text
  pub calm : new.faults ≡ old.faults

-- a stream took a prefix of a text, and counted a fault
pub record Failed (old new : Stream) (text : List ℕ) : Type 0 where
  pub cut : AppendsPrefix old.written text new.written
  pub fault : HasFault old.faults new.faults

-- A note and a text were written. With the status that is due both streams took what is theirs; with WriteFault one that had something to take failed, and the other is as before.
pub data Writes (due : Status) (note text : List ℕ) (out out' notes notes' : Stream) : Status → Type 0 where
  whole : Took out out' text → Took notes notes' note → Writes due note text out out' notes notes' due
  text_cut : text ≢ [] → Failed out out' text → notes' ≡ notes → Writes due note text out out' notes notes' WriteFault
  note_cut : note ≢ [] → Failed notes notes' note → out' ≡ out → Writes due note text out out' notes notes' WriteFault

-- ---- the end

-- A call ends with its answer written, while the count of the files' faults stays; or, where it loads files, with a fault of these and the note of one; or without memory,
-- with what it may leave. A count at its last value stays there after a fault too, so that then both of the first two may come.
pub data Ends (Answer : Status → List ℕ → List ℕ → Type 0) (Loads : Type 0) (Leaves : List ℕ → Type 0) (old new : Outside) : Status → Type 0 where
  answered : (due : Status) (note text : List ℕ) → Answer due note text → new.files.faults ≡ old.files.faults → (status : Status) → Writes due note text old.out new.out old.notes new.notes status → Ends Answer Loads Leaves old new status
  file_fault : Loads → HasFault old.files.faults new.files.faults → (status : Status) → Writes ReadFault (codes "read fault\n") [] old.out new.out old.notes new.notes status → Ends Answer Loads Leaves old new status
  no_memory : (left : List ℕ) → Leaves left → Took old.out new.out left → new.notes ≡ old.notes → Ends Answer Loads Leaves old new Memory

-- The names that were asked for are the first of the loads, in order; and what is held stays.
pub record LoadsInOrder (loads : Held → List (List ℕ)) (old new : FileState) : Type 0 where
  pub asked : (h : Held) → old.held ≡ Some h → AskedInOrder old.asked new.asked (loads h)
  pub held : new.held ≡ old.held

-- no count of faults falls
pub record NeverFall (old new : Outside) : Type 0 where
  pub files : old.files.faults ≤ new.files.faults
  pub out : old.out.faults ≤ new.out.faults
  pub notes : old.notes.faults ≤ new.notes.faults

-- no fault was counted
pub record NoFault (old new : Outside) : Type 0 where
  pub files : HasNoFault old.files.faults new.files.faults
  pub out : HasNoFault old.out.faults new.out.faults
  pub notes : HasNoFault old.notes.faults new.notes.faults

-- the answer to words stands whole on the streams
pub record IsWhole (words : List (List ℕ)) (old new : Outside) (status : Status) : Type 0 where
  pub note : List ℕ
  pub text : List ℕ
  pub answers : Answers words old.files.held status note text
  pub out : Took old.out new.out text
  pub notes : Took old.notes new.notes note

-- THE CONTRACT. A run for words ends with their answer, loads what they load, and lowers no count.
pub record IsRun (words : List (List ℕ)) (old new : Outside) (status : Status) : Type 0 where
  pub ends : Ends (Answers words old.files.held) (LoadsFiles (request_of words)) (MayLeave (request_of words)) old new status
  pub loads : LoadsInOrder (loads_of (request_of words)) old.files new.files
  pub counts : NeverFall old new
