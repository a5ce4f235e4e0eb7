-- The numbers with which the program ends. They are this project's own.
use Rattle.std.specs.Prelude.{ℕ}
use Rattle.xt_top.specs.declared.status.Status.{Status}
use Rattle.xt_top.specs.declared.status.Status.TheVariants.{Done, Memory, Usage, Refused, BadDesign, BadRecord, Differs, ReadFault, WriteFault}

-- the number of a status
abbrev pub number_of : Status → ℕ
number_of Done = 0
number_of Memory = 1
number_of Usage = 2
number_of Refused = 3
number_of BadDesign = 4
number_of BadRecord = 5
number_of Differs = 6
number_of ReadFault = 7
number_of WriteFault = 8
