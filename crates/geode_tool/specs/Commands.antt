-- Each command: the words that ask for it, what it works on, its verdict, what a success is and has read, and how far
-- it
-- reads before a refusal.
use Rattle.std.specs.Prelude.{◌≡◌, ◌<◌, ℕ, Bool, true, false, List, map, Option}
use Rattle.std.specs.Borrow.{Bor}
use Rattle.span_io.specs.Reads.{ReadToEnd}
use Rattle.geode_tool.specs.declared.commands.Command.{Command}
use Rattle.geode_tool.specs.declared.commands.Command.TheVariants.{Draw, Audit, Make, Build, Verify}
use Rattle.geode_tool.specs.declared.faults.Done.{Done}
use Rattle.geode_tool.specs.declared.faults.Fault.{Fault}
use Rattle.geode_tool.specs.Audit.{audit_verdict, DoesAudit, AuditReadsUpTo}
use Rattle.geode_tool.specs.Build.{build_verdict, BuildReadsUpTo, DoesBuild}
use Rattle.geode_tool.specs.Draw.{draw_verdict, DoesDraw, DrawReadsUpTo}
use Rattle.geode_tool.specs.Inputs.{Inputs}
use Rattle.geode_tool.specs.Make.{make_verdict, DoesMake, ReadsNothing}
use Rattle.geode_tool.specs.Verdicts.{Verdict}
use Rattle.geode_tool.specs.Verify.{verify_verdict, DoesVerify, KeepsInputs}
use Rattle.geode_tool.specs.Words.{command_words}

-- the command that the words ask for, if they ask for one
abbrev pub asked : List (Bor (List ℕ)) → Option Command
asked words = command_words (map (λ w. w.now) words)

-- the command takes input
abbrev pub takes_input : Command → Bool
takes_input (Draw request) = true
takes_input Audit = true
takes_input (Make request) = false
takes_input Build = true
takes_input Verify = false

-- the number of page sources that a command needs; 0 if it names no file
abbrev pub sources_needed : Command → ℕ
sources_needed (Draw request) = 0
sources_needed Audit = 0
sources_needed (Make request) = 0
sources_needed Build = 0
sources_needed Verify = 1

-- the command needs `need` page sources, and `have` of them were handed in, which are fewer
pub record LacksSources (command : Command) (count need have : ℕ) : Type 0 where
  pub needed : need ≡ sources_needed command
  pub given : have ≡ count
  pub fewer : have < need

-- the first refusal of a command, or that it is accepted, as far as the known inputs decide it
abbrev pub verdict_of : Command → Inputs → Verdict
verdict_of (Draw request) inputs = draw_verdict inputs
verdict_of Audit inputs = audit_verdict inputs
verdict_of (Make request) inputs = make_verdict inputs
verdict_of Build inputs = build_verdict inputs
verdict_of Verify inputs = verify_verdict inputs

-- what a success of a command is, and the text that it writes; of what is not known, for some text
abbrev pub Does : Command → Inputs → Done → List ℕ → Type 0
Does (Draw request) inputs done text = DoesDraw request inputs done text
Does Audit inputs done text = DoesAudit inputs done text
Does (Make request) inputs done text = DoesMake request done text
Does Build inputs done text = DoesBuild inputs done text
Does Verify inputs done text = DoesVerify inputs done text

-- what a success of a command has read: all input, or, if the command takes no input, none of it
abbrev pub HasRead : Command → Inputs → Inputs → Type 0
HasRead (Draw request) before after = ReadToEnd before.text after.text
HasRead Audit before after = ReadToEnd before.text after.text
HasRead (Make request) before after = ReadsNothing before after
HasRead Build before after = ReadToEnd before.text after.text
HasRead Verify before after = KeepsInputs before after

-- how far a command read its input before it was refused
abbrev pub ReadsUpTo : Command → Inputs → Inputs → Fault → Type 0
ReadsUpTo (Draw request) before after fault = DrawReadsUpTo before.text after.text fault
ReadsUpTo Audit before after fault = AuditReadsUpTo before.text after.text fault
ReadsUpTo (Make request) before after fault = ReadsNothing before after
ReadsUpTo Build before after fault = BuildReadsUpTo before.text after.text fault
ReadsUpTo Verify before after fault = KeepsInputs before after

-- the command takes all its memory before it writes
abbrev pub TakesMemoryFirst : Command → Type 0
TakesMemoryFirst (Draw request) = Unit {0}
TakesMemoryFirst Audit = Unit {0}
TakesMemoryFirst (Make request) = Unit {0}
TakesMemoryFirst Build = Unit {0}
TakesMemoryFirst Verify = Unit {0}
