-- Serves the proofs alone: the number of each status, and when each comes.
use Rattle.std.specs.Prelude.{ℕ}
use Rattle.cyk_io.specs.declared.fault.IoFault.{IoFault}
use Rattle.cyk_io.specs.declared.fault.IoFault.TheVariants.{Read, Write, Memory}
use Rattle.chart_service.specs.declared.status.Status.{Status}
use Rattle.chart_service.specs.declared.status.Status.TheVariants.{Ended, BadGrammar}
use Rattle.chart_service.specs.declared.status.Status.TheVariants.{BadScript, ReadFault, WriteFault}
use Rattle.chart_service.specs.declared.status.Status.TheVariants.{OutOfMemory}
use Rattle.chart_service.specs.Serving.{IsFaultStatus}

-- the exit status
abbrev pub number_of : Status → ℕ
number_of Ended = 0
number_of BadGrammar = 2
number_of BadScript = 3
number_of ReadFault = 4
number_of WriteFault = 5
number_of OutOfMemory = 6

-- the status with which a session ends at a fault
abbrev pub status_at : IoFault → Status
status_at Read = ReadFault
status_at Write = WriteFault
status_at Memory = OutOfMemory

-- the status is that of a fault
abbrev pub EndsAtFault : Status → Type 0
EndsAtFault status = IsFaultStatus (number_of status)
