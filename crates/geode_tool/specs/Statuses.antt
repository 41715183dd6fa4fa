-- The exit status of each fault.
use Rattle.std.specs.Prelude.{ℕ, Result, Ok, Err}
use Rattle.geode_tool.specs.declared.faults.Done.{Done}
use Rattle.geode_tool.specs.declared.faults.Fault.{Fault}
use Rattle.geode_tool.specs.declared.faults.Fault.TheVariants.{Usage, NoSource, ReadFault, TooLong, BadObj, TooMany}
use Rattle.geode_tool.specs.declared.faults.Fault.TheVariants.{Empty, BadJournal, Pages, PageFault, Unsound, Illegal}
use Rattle.geode_tool.specs.declared.faults.Fault.TheVariants.{WriteFault, Memory}

-- the status of a fault; 0 is the status of success
abbrev pub status_of : Fault → ℕ
status_of Memory = 2
status_of (Usage kind) = 3
status_of ReadFault = 4
status_of WriteFault = 5
status_of (BadObj line why) = 6
status_of Empty = 7
status_of TooMany = 8
status_of TooLong = 9
status_of (BadJournal line) = 11
status_of (NoSource need have) = 12
status_of (Pages why) = 13
status_of PageFault = 14
status_of (Unsound rule index) = 16
status_of (Illegal entry) = 17

-- the exit status of a program that ends with this answer
abbrev pub exit_status_of : Result Done Fault → ℕ
exit_status_of (Ok done) = 0
exit_status_of (Err fault) = status_of fault
