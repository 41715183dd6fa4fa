-- The one table of faults: which of them are failures of the outside, and which may come in which command.
use Rattle.std.specs.Prelude.{◌≡◌, ◌⊎◌, Bool, true, false, List, [], ◌∷◌}
use Rattle.geode_tool.specs.declared.commands.Command.{Command}
use Rattle.geode_tool.specs.declared.commands.Command.TheVariants.{Draw, Audit, Make, Build, Verify}
use Rattle.geode_tool.specs.declared.faults.Fault.{Fault}
use Rattle.geode_tool.specs.declared.faults.Fault.TheVariants.{Usage, NoSource, ReadFault, TooLong, BadObj, TooMany}
use Rattle.geode_tool.specs.declared.faults.Fault.TheVariants.{Empty, BadJournal, Pages, PageFault, Unsound, Illegal}
use Rattle.geode_tool.specs.declared.faults.Fault.TheVariants.{WriteFault, Memory}

-- what a fault is a fault of
pub data FaultKind : Type 0 where
  -- the words, which ask for no command
  Words : FaultKind
  -- the number of page sources
  Sources : FaultKind
  -- the outside: a read of the input or a write failed, or memory ran out
  Outside : FaultKind
  -- the outside too: a read of the first page source failed
  PageRead : FaultKind
  -- the bytes of the first page source as a page file
  PageFile : FaultKind
  -- the number of bytes of the input
  Length : FaultKind
  -- the input as an OBJ text
  Mesh : FaultKind
  -- the input as a journal
  Journal : FaultKind

-- a line for each fault
abbrev pub kind_of : Fault → FaultKind
kind_of (Usage kind) = Words
kind_of (NoSource need have) = Sources
kind_of ReadFault = Outside
kind_of TooLong = Length
kind_of (BadObj line why) = Mesh
kind_of TooMany = Mesh
kind_of Empty = Mesh
kind_of (BadJournal line) = Journal
kind_of (Pages why) = PageFile
kind_of PageFault = PageRead
kind_of (Unsound rule index) = PageFile
kind_of (Illegal entry) = Journal
kind_of WriteFault = Outside
kind_of Memory = Outside

-- a line for each command: the kinds of its faults
abbrev pub kinds_in : Command → List FaultKind
kinds_in (Draw request) = Outside ∷ Length ∷ Mesh ∷ []
kinds_in Audit = Outside ∷ Length ∷ Journal ∷ []
kinds_in (Make request) = Outside ∷ []
kinds_in Build = Outside ∷ Length ∷ Mesh ∷ []
kinds_in Verify = Outside ∷ Sources ∷ PageRead ∷ PageFile ∷ []

abbrev pub IsOneOf : FaultKind → List FaultKind → Type 0
IsOneOf kind [] = ⊥
IsOneOf kind (first ∷ rest) = (kind ≡ first) ⊎ IsOneOf kind rest

-- the command may return the fault
abbrev pub MayReturn : Command → Fault → Type 0
MayReturn command fault = IsOneOf (kind_of fault) (kinds_in command)

-- the kinds of failures of the outside
abbrev pub is_outside : FaultKind → Bool
is_outside Words = false
is_outside Sources = false
is_outside Outside = true
is_outside PageRead = true
is_outside PageFile = false
is_outside Length = false
is_outside Mesh = false
is_outside Journal = false

-- the fault is a failure of the outside
abbrev pub IsOutside : Fault → Type 0
IsOutside fault = is_outside (kind_of fault) ≡ true

abbrev pub IsMemory : Fault → Type 0
IsMemory fault = fault ≡ Memory
