-- What a buffer and the stream behind it have taken. All of it is this project's own.
use Rattle.std.specs.Prelude.{◌≡◌, ◌≤◌, ℕ, List, [], ◌++◌, Option, Bool, true, false}
use Rattle.nt_write.specs.declared.pen.Pen.{Pen}
use Rattle.xt_base.specs.Outside.{appended, AppendsPrefix, HasFault}

-- a stream with a buffer before it: what stands on it, how many faults it counted, what is held back, and whether a write failed
pub record Stand : Type 0 where
  pub written : Option (List ℕ)
  pub faults : ℕ
  pub buffer : List ℕ
  pub failed : Bool

-- how a pen stands
abbrev pub stand : {S : Type 0} → (S → Option (List ℕ)) → (S → ℕ) → Pen S → Stand
stand written faults p = record { written = written p.out.now; faults = faults p.out.now; buffer = p.buffer.now.items; failed = p.failed }

-- nothing is held back, and no write failed
abbrev pub fresh : Option (List ℕ) → ℕ → Stand
fresh written faults = record { written = written; faults = faults; buffer = []; failed = false }

-- a stream with these bytes and this count has taken the text since: a prefix is on it, the rest is held back, or a write failed
pub record HasTaken (written : Option (List ℕ)) (faults : ℕ) (text : List ℕ) (s : Stand) : Type 0 where
  pub cut : AppendsPrefix written text s.written
  pub kept : s.failed ≡ false → appended s.written s.buffer ≡ appended written text
  pub risen : faults ≤ s.faults
  pub calm : s.failed ≡ false → s.faults ≡ faults
  pub fault : s.failed ≡ true → HasFault faults s.faults

-- whatever had been taken before, the piece was taken after it
pub record Puts (old new : Stand) (piece : List ℕ) : Type 0 where
  pub takes : (written : Option (List ℕ)) (faults : ℕ) (text : List ℕ) → HasTaken written faults text old → HasTaken written faults (text ++ piece) new

-- a pen took the piece, for the same stream
pub record Takes {S : Type 0} (written : S → Option (List ℕ)) (faults : S → ℕ) (old new : Pen S) (piece : List ℕ) : Type 0 where
  pub same : new.out.ghost_name ≡ old.out.ghost_name
  pub puts : Puts (stand written faults old) (stand written faults new) piece
