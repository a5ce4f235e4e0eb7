-- What words are answered over the files that are held: a status, with the line on the notes that explains it and the text on the output. All of it is this project's own.
use Rattle.std.specs.Prelude.{◌≡◌, ℕ, List, [], Option, Some, None, IfSome, IsSomeAnd, codes}
use Rattle.xt_base.specs.Outside.{Held}
use Rattle.xt_base.specs.declared.refusals.Refusal.{Refusal}
use Rattle.el_design.specs.declared.designs.Design.{Design}
use Rattle.xt_compile.specs.Hardware.{IsHardwareOf}
use Rattle.xt_top.specs.declared.status.Status.{Status}
use Rattle.xt_top.specs.declared.status.Status.TheVariants.{Done, Usage, Refused, ReadFault}
use Rattle.xt_top.specs.Breaks.{IsBroken}
use Rattle.xt_top.specs.Command.{Request, compile, request_of}
use Rattle.xt_top.specs.Loads.{AreHeld, IsMissing}
use Rattle.xt_top.specs.Note.{refused_line}
use Rattle.xt_top.specs.Sources.{IsSourceOf}

-- what a command writes where it is done; each command has its line here, and that of `compile` is the headline: the hardware of the source's flat design
abbrev pub IsDone : Held → Request → List ℕ → Type 0
IsDone h (compile s) text = (d : Design) × IsSourceOf h s d × IsHardwareOf d text

-- what it takes to be done: the source breaks no rule; each command has its line here
abbrev pub IsReady : Held → Request → Type 0
IsReady h (compile s) = (d : Design) × IsSourceOf h s d

-- The answers to words, one line for each cause. What is said of the files holds where they tell what they hold.
pub data Answers (words : List (List ℕ)) (held : Option Held) : Status → (note text : List ℕ) → Type 0 where
  -- the words are no command
  no_command : request_of words ≡ None → Answers words held Usage (codes "usage\n") []
  -- a file that the command takes isn't held
  not_held : (r : Request) → request_of words ≡ Some r → IsSomeAnd held (λ h. IsMissing h r) → Answers words held ReadFault (codes "read fault\n") []
  -- the source of the command breaks a rule, and this is the first
  refused : (r : Request) → request_of words ≡ Some r → (refusal : Refusal) (file : List ℕ) → IfSome held (λ h. IsBroken h r refusal file) →
      Answers words held Refused (refused_line refusal.rule.0 file refusal.place.line) []
  -- Here BadDesign, BadRecord and Differs will have their lines, in this order, each with `AreHeld` and with a source that breaks no rule.
  -- none of these
  done : (r : Request) → request_of words ≡ Some r → (text : List ℕ) → IfSome held (λ h. AreHeld h r × IsDone h r text) → Answers words held Done [] text

-- What may stand on the output where memory runs out: nothing, for a design is written when all memory for it was taken. A command that writes as it goes has its line here.
abbrev pub MayLeave : Option Request → List ℕ → Type 0
MayLeave None text = text ≡ []
MayLeave (Some (compile s)) text = text ≡ []
