-- The fault of the tool that a fault of another crate becomes.
use Rattle.obj_source.specs.declared.faults.ObjFault.{ObjFault}
use Rattle.obj_source.specs.declared.faults.ObjFault.TheVariants as obj
use Rattle.journal.specs.declared.journals.JournalFault.{JournalFault}
use Rattle.journal.specs.declared.journals.JournalFault.TheVariants as journal
use Rattle.residency.specs.declared.faults.ReplayFault.{ReplayFault}
use Rattle.residency.specs.declared.faults.ReplayFault.TheVariants as replay
use Rattle.page_file.specs.declared.open_faults.OpenFault.{OpenFault}
use Rattle.page_file.specs.declared.open_faults.OpenFault.TheVariants as opened
use Rattle.page_file.specs.declared.verify_faults.VerifyFault.{VerifyFault}
use Rattle.page_file.specs.declared.verify_faults.VerifyFault.TheVariants as verified
use Rattle.page_file.specs.declared.page_writes.PageWrite.{PageWrite}
use Rattle.page_file.specs.declared.page_writes.PageWrite.TheVariants as pages
use Rattle.span_io.specs.declared.texts.TextFault.{TextFault}
use Rattle.span_io.specs.declared.texts.TextFault.TheVariants as text
use Rattle.geode_tool.specs.declared.faults.Fault.{Fault}
use Rattle.geode_tool.specs.declared.faults.Fault.TheVariants.{ReadFault, TooLong, BadObj, TooMany, Empty, BadJournal}
use Rattle.geode_tool.specs.declared.faults.Fault.TheVariants.{Pages, PageFault, Unsound, Illegal, WriteFault, Memory}

-- from reading a mesh
abbrev pub fault_of_obj : ObjFault → Fault
fault_of_obj (obj.Line line why) = BadObj line why
fault_of_obj obj.TooMany = TooMany
fault_of_obj obj.TooLong = TooLong
fault_of_obj obj.Empty = Empty
fault_of_obj obj.Read = ReadFault
fault_of_obj obj.Memory = Memory

-- from reading a whole text
abbrev pub fault_of_text : TextFault → Fault
fault_of_text text.Read = ReadFault
fault_of_text text.TooLong = TooLong
fault_of_text text.Memory = Memory

-- from reading a journal
abbrev pub fault_of_journal : JournalFault → Fault
fault_of_journal (journal.Line line) = BadJournal line
fault_of_journal journal.Memory = Memory

-- from replaying a journal
abbrev pub fault_of_replay : ReplayFault → Fault
fault_of_replay (replay.Illegal entry) = Illegal entry
fault_of_replay replay.Memory = Memory

-- from writing a page file
abbrev pub fault_of_pages : PageWrite → Fault
fault_of_pages pages.Memory = Memory
fault_of_pages pages.Write = WriteFault

-- from opening a page file: a failed read and want of memory are faults of their own
abbrev pub fault_of_open : OpenFault → Fault
fault_of_open opened.PageFault = PageFault
fault_of_open opened.Memory = Memory
fault_of_open fault = Pages fault

-- from verifying a page file
abbrev pub fault_of_verify : VerifyFault → Fault
fault_of_verify (verified.Open fault) = fault_of_open fault
fault_of_verify (verified.Broken rule index) = Unsound rule index
