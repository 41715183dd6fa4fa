-- `audit`: its verdict on the input, what a success is, and how far it reads before a refusal.
use Rattle.std.specs.Prelude.{◌≡◌, ◌+◌, ◌≤◌, nat_le, ℕ, List, [], ◌∷◌, ◌++◌, length, drop, codes, Option, Some, None}
use Rattle.std.specs.Prelude.{option_map, Result, Ok, Err, if◌then◌else◌}
use Rattle.std.specs.Fmt.{decimal}
use Rattle.geom_core.specs.declared.limits.TheConstants.{MAX_JOURNAL_BYTES}
use Rattle.journal.specs.Grammar.{journal_of}
use Rattle.pool_rules.specs.Rules.{first_refused}
use Rattle.journal.specs.declared.journals.Journal.{Journal}
use Rattle.span_io.specs.Reads.{Consumed, ReadToEnd}
use Rattle.span_io.specs.Texts.{IsText}
use Rattle.geode_tool.specs.declared.faults.Done.{Done}
use Rattle.geode_tool.specs.declared.faults.Done.TheVariants.{Audited}
use Rattle.geode_tool.specs.declared.faults.Fault.{Fault}
use Rattle.geode_tool.specs.declared.faults.Fault.TheVariants.{ReadFault, TooLong, BadJournal, Illegal, WriteFault}
use Rattle.geode_tool.specs.Inputs.{Inputs}
use Rattle.geode_tool.specs.Verdicts.{Verdict, verdict_from, verdict_on}

-- the number of entries if none is refused, else the index of the first refused entry
abbrev pub counted : Option ℕ → ℕ → Result ℕ Fault
counted None entries = Ok entries
counted (Some entry) entries = Err (Illegal entry)

-- the number of a journal's allowed entries, or the first line outside the grammar
abbrev pub judged : Result Journal ℕ → Result ℕ Fault
judged (Ok journal) = counted (first_refused journal.layout journal.entries) (length journal.entries)
judged (Err line) = Err (BadJournal line)

-- the number of entries of a legal journal, or the fault: more than MAX_JOURNAL_BYTES are too long, whatever they are
unfoldable pub audit_answer : List ℕ → Result ℕ Fault
audit_answer text = if nat_le (length text) MAX_JOURNAL_BYTES then judged (journal_of text) else Err TooLong

-- the text of a legal journal is accepted
abbrev pub audit_verdict : Inputs → Verdict
audit_verdict inputs = verdict_on (λ text. verdict_from (audit_answer text)) inputs.text

-- what `audit` writes for a legal journal: `legal`, a space, the number of entries, and a line feed
unfoldable pub verdict_text : ℕ → List ℕ
verdict_text entries = codes "legal " ++ decimal entries ++ 10 ∷ []

-- The input's bytes are the text of a legal journal with this number of entries. If the bytes are not known,
-- some text is.
pub record IsAudited (input : Option (List ℕ)) (entries : ℕ) : Type 0 where
  pub text : List ℕ
  pub is_text : IsText input text
  pub legal : audit_answer text ≡ Ok entries

-- what a success is, and the text that it writes
pub record DoesAudit (inputs : Inputs) (done : Done) (text : List ℕ) : Type 0 where
  pub entries : ℕ
  pub audited : IsAudited inputs.text entries
  pub told : done ≡ Audited entries
  pub shown : text ≡ verdict_text entries

-- the bytes that were read are at most MAX_JOURNAL_BYTES
pub record ReadsWithin (left new_left : Option (List ℕ)) : Type 0 where
  pub bytes : List ℕ
  pub consumed : Consumed left new_left bytes
  pub limited : length bytes ≤ MAX_JOURNAL_BYTES

-- How far the input was read before a refusal: a read fails only within the limit, a text that is too long is read to
-- the first byte too many, and a journal is judged, and anything written, once all of it was read.
pub record AuditReadsUpTo (left new_left : Option (List ℕ)) (fault : Fault) : Type 0 where
  pub failed : fault ≡ ReadFault → ReadsWithin left new_left
  pub too_long : fault ≡ TooLong → new_left ≡ option_map (drop (MAX_JOURNAL_BYTES + 1)) left
  pub bad_journal : (line : ℕ) → fault ≡ BadJournal line → ReadToEnd left new_left
  pub illegal : (entry : ℕ) → fault ≡ Illegal entry → ReadToEnd left new_left
  pub writing : fault ≡ WriteFault → ReadToEnd left new_left
