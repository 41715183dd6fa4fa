-- What an audit answers, by what the reading and the replay of a journal gave.
use Rattle.std.proofs.Common.{◌≡◌, ◌≤◌, ◌<◌, ◌^◌, ℕ, List, length, Option, Some, None, Result, Ok, Err, true, false}
use Rattle.std.proofs.Common.{inl, inr, ap, sym, subst, refl, ◌∙◌, arith}
use Rattle.std.specs.Prelude.{nat_le, IsErr, IfErr, IfSome}
use Rattle.std.specs.Result.{IsErrAnd}
use Rattle.journal.specs.Grammar.{journal_of}
use Rattle.pool_rules.specs.Rules.{first_refused, IsLegal}
use Rattle.residency.specs.History.{History, replayed}
use Rattle.journal.specs.declared.entries.Entry.{Entry}
use Rattle.journal.specs.declared.journals.Journal as journals
use Rattle.journal.specs.declared.journals.JournalFault.{JournalFault}
use Rattle.journal.specs.declared.journals.JournalFault.TheVariants as journal
use Rattle.residency.specs.declared.faults.ReplayFault.{ReplayFault}
use Rattle.residency.specs.declared.faults.ReplayFault.TheVariants as replay
use Rattle.span_io.specs.declared.texts.TextFault.{TextFault}
use Rattle.span_io.specs.declared.texts.TextFault.TheVariants as text
use Rattle.geode_tool.specs.declared.commands.Command.TheVariants.{Audit}
use Rattle.geode_tool.specs.declared.faults.Done.TheVariants.{Audited}
use Rattle.geode_tool.specs.declared.faults.Fault.{Fault}
use Rattle.geode_tool.specs.declared.faults.Fault.TheVariants.{ReadFault, TooLong, Illegal, Memory}
use Rattle.geode_tool.specs.Audit.{audit_answer, counted, judged, verdict_text, IsAudited}
use Rattle.geode_tool.specs.Commands.{verdict_of}
use Rattle.geode_tool.specs.FaultTable.{kind_of, IsOutside}
use Rattle.geode_tool.specs.FaultTable.FaultKind.{Journal, Length, Outside}
use Rattle.geode_tool.specs.Faults.{fault_of_journal, fault_of_replay, fault_of_text}
use Rattle.geode_tool.specs.Inputs.{inputs_of}
use Rattle.geode_tool.specs.Internal.Unwritten.{JudgeRefuses, StopsUnwritten}
use Rattle.geode_tool.specs.Verdicts.{Answers}
use Rattle.geode_tool.proofs.Promise.{accepted-answers, outside-answers, refused-answers, IsMade}
use Rattle.span_io.specs.Reads.{ReadToEnd}
use Rattle.span_io.specs.Texts.{IsText, TextRefused}

is_short : (n : ℕ) → n ≤ 2 ^ 26 → nat_le n (2 ^ 26) ≡ true
is_short n le = grind arith

is_long : (n : ℕ) → 2 ^ 26 < n → nat_le n (2 ^ 26) ≡ false
is_long n lt = grind arith

audit_answer-short : (text : List ℕ) → length text ≤ 2 ^ 26 → audit_answer text ≡ judged (journal_of text)
unfolding audit_answer
audit_answer-short text le = rw (is_short (length text) le)

pub audit_answer-long : (text : List ℕ) → 2 ^ 26 < length text → audit_answer text ≡ Err TooLong
unfolding audit_answer
audit_answer-long text lt = rw (is_long (length text) lt)

-- a line outside the grammar, or want of memory
pub journal_refused : (r : Result ℕ Fault) (text : List ℕ) (fault : JournalFault) → IsErr r ×
    IsErrAnd r (λ e. e ≡ fault_of_journal fault) → length text ≤ 2 ^ 26 →
    ((line : ℕ) → ◌≡◌ {A = Result journals.Journal JournalFault} (Err fault) (Err (journal.Line line)) →
    journal_of text ≡ Err line) → IfErr r (JudgeRefuses text)
journal_refused (Ok entries) text fault becomes le outside = absurd becomes.1
journal_refused (Err e) text (journal.Line line) becomes le outside =
    subst (JudgeRefuses text) (sym becomes.1) (inr (refl, audit_answer-short text le ∙ ap judged (outside line refl)))
journal_refused (Err e) text journal.Memory becomes le outside = subst (JudgeRefuses text) (sym becomes.1) (inl refl)

-- the journal that a text spells
audit_answer-read : (text : List ℕ) (read : journals.Journal) → length text ≤ 2 ^ 26 → journal_of text ≡ Ok read →
    audit_answer text ≡ counted (first_refused read.layout read.entries) (length read.entries)
audit_answer-read text read le e = audit_answer-short text le ∙ ap judged e

pub audit_answer-legal : (text : List ℕ) (read : journals.Journal) → length text ≤ 2 ^ 26 → journal_of text ≡ Ok read →
    first_refused read.layout read.entries ≡ None → audit_answer text ≡ Ok (length read.entries)
audit_answer-legal text read le e legal =
    audit_answer-read text read le e ∙ ap (λ (refused : Option ℕ). counted refused (length read.entries)) legal

pub audit_answer-illegal : (text : List ℕ) (read : journals.Journal) (place : ℕ) → length text ≤ 2 ^ 26 →
    journal_of text ≡ Ok read → first_refused read.layout read.entries ≡ Some place →
    audit_answer text ≡ Err (Illegal place)
audit_answer-illegal text read place le e refused =
    audit_answer-read text read le e ∙ ap (λ (refused : Option ℕ). counted refused (length read.entries)) refused

-- a journal whose entries are all allowed, and the pool after them
pub audit_answer-replayed : (text : List ℕ) (read : journals.Journal) (pool : History) (entries journal : List Entry) →
    length text ≤ 2 ^ 26 → journal_of text ≡ Ok read → entries ≡ read.entries → IsLegal read.layout entries →
    pool ≡ replayed read.layout entries → journal ≡ pool.journal → audit_answer text ≡ Ok (length journal)
audit_answer-replayed text read pool entries journal le spelt same legal is kept =
    let all : journal ≡ read.entries = kept ∙ ap (λ (h : History). h.journal) is ∙ same in
    audit_answer-legal text read le spelt (rw same at legal)
    ∙ ap (λ (l : List Entry). Ok (length l)) (sym all)

-- an entry that isn't allowed, or want of memory
pub replay_refused : (r : Result ℕ Fault) (text : List ℕ) (read : journals.Journal) (entries : List Entry)
    (fault : ReplayFault) → IsErr r × IsErrAnd r (λ e. e ≡ fault_of_replay fault) → length text ≤ 2 ^ 26 →
    journal_of text ≡ Ok read → entries ≡ read.entries →
    ((place : ℕ) → ◌≡◌ {A = Result History ReplayFault} (Err fault) (Err (replay.Illegal place)) →
    first_refused read.layout entries ≡ Some place) → IfErr r (JudgeRefuses text)
replay_refused (Ok count) text read entries fault becomes le spelt same illegal = absurd becomes.1
replay_refused (Err e) text read entries (replay.Illegal place) becomes le spelt same illegal =
    subst (JudgeRefuses text) (sym becomes.1)
    (inr (refl, audit_answer-illegal text read place le spelt (rw same at illegal place refl)))
replay_refused (Err e) text read entries replay.Memory becomes le spelt same illegal =
    subst (JudgeRefuses text) (sym becomes.1) (inl refl)

-- a text that is too long is refused as such
long-answers : (left : Option (List ℕ)) → IfSome left (λ text. 2 ^ 26 < length text) →
    Answers IsOutside (verdict_of Audit (inputs_of left)) (Err TooLong)
long-answers None long = tt
long-answers (Some text) long = refused-answers (audit_answer text) TooLong (audit_answer-long text long)

-- no refusal lets the count of faults fall
pub text_count : (left new_left : Option (List ℕ)) (faults new_faults : ℕ) (why : TextFault) →
    TextRefused (2 ^ 26) left new_left faults new_faults why → faults ≤ new_faults
text_count left new_left faults new_faults text.Read refused = refused.rose.never_falls
text_count left new_left faults new_faults text.TooLong refused = omega (arith, refused.no_fault)
text_count left new_left faults new_faults text.Memory refused = omega (arith, refused)

-- want of memory, at any place
pub memory-stops : (left new_left : Option (List ℕ)) (faults new_faults : ℕ) →
    StopsUnwritten Audit (inputs_of left) (inputs_of new_left) faults new_faults Memory
memory-stops left new_left faults new_faults = record {
  answered = outside-answers (verdict_of Audit (inputs_of left)) Memory refl;
  may_return = inl refl;
  cause = λ e. cc;
  reads = record {
    failed = λ e. cc;
    too_long = λ e. cc;
    bad_journal = λ line e. cc;
    illegal = λ entry e. cc;
    writing = λ e. cc;
  };
  no_write = λ e. cc;
}

text-stops : (left new_left : Option (List ℕ)) (faults new_faults : ℕ) (why : TextFault) →
    TextRefused (2 ^ 26) left new_left faults new_faults why →
    StopsUnwritten Audit (inputs_of left) (inputs_of new_left) faults new_faults (fault_of_text why)
text-stops left new_left faults new_faults text.Read refused = record {
  answered = outside-answers (verdict_of Audit (inputs_of left)) ReadFault refl;
  may_return = inl refl;
  cause = λ e. refused.rose;
  reads = record {
    failed = λ e. record { bytes = refused.bytes; consumed = refused.consumed; limited = refused.limited };
    too_long = λ e. cc;
    bad_journal = λ line e. cc;
    illegal = λ entry e. cc;
    writing = λ e. cc;
  };
  no_write = λ e. cc;
}
text-stops left new_left faults new_faults text.TooLong refused = record {
  answered = long-answers left refused.longer;
  may_return = inr (inl refl);
  cause = λ e. cc;
  reads = record {
    failed = λ e. cc;
    too_long = λ e. refused.read;
    bad_journal = λ line e. cc;
    illegal = λ entry e. cc;
    writing = λ e. cc;
  };
  no_write = λ e. cc;
}
text-stops left new_left faults new_faults text.Memory refused = memory-stops left new_left faults new_faults

-- a text that couldn't be read, or is too long, or want of memory
pub text_refused : {T : Type 0} (r : Result T Fault) (left new_left : Option (List ℕ)) (faults new_faults : ℕ)
    (why : TextFault) → IsErr r × IsErrAnd r (λ e. e ≡ fault_of_text why) →
    TextRefused (2 ^ 26) left new_left faults new_faults why →
    IfErr r (StopsUnwritten Audit (inputs_of left) (inputs_of new_left) faults new_faults)
text_refused (Ok found) left new_left faults new_faults why becomes refused = tt
text_refused (Err e) left new_left faults new_faults why becomes refused =
    subst (λ (f : Fault). StopsUnwritten Audit (inputs_of left) (inputs_of new_left) faults new_faults f)
    (sym becomes.1) (text-stops left new_left faults new_faults why refused)

known : (left : Option (List ℕ)) (text : List ℕ) (fault : Fault) → IsText left text → audit_answer text ≡ Err fault →
    Answers IsOutside (verdict_of Audit (inputs_of left)) (Err fault)
known None text fault is refused = tt
known (Some bytes) text fault is refused = refused-answers (audit_answer bytes) fault (rw is at refused)

-- a fault of the journal is none of another kind
no_outside : (fault : Fault) → kind_of fault ≡ Journal → kind_of fault ≡ Outside → ⊥
no_outside fault one other = cc

no_length : (fault : Fault) → kind_of fault ≡ Journal → kind_of fault ≡ Length → ⊥
no_length fault one other = cc

journal-stops : (left new_left : Option (List ℕ)) (text : List ℕ) (faults new_faults : ℕ) (fault : Fault) →
    IsText left text → ReadToEnd left new_left → kind_of fault ≡ Journal → audit_answer text ≡ Err fault →
    StopsUnwritten Audit (inputs_of left) (inputs_of new_left) faults new_faults fault
journal-stops left new_left text faults new_faults fault is ended kind refused = record {
  answered = known left text fault is refused;
  may_return = inr (inr (inl kind));
  cause = λ e. absurd (no_outside fault kind (ap kind_of e));
  reads = record {
    failed = λ e. absurd (no_outside fault kind (ap kind_of e));
    too_long = λ e. absurd (no_length fault kind (ap kind_of e));
    bad_journal = λ line e. ended;
    illegal = λ entry e. ended;
    writing = λ e. absurd (no_outside fault kind (ap kind_of e));
  };
  no_write = λ e. no_outside fault kind (ap kind_of e);
}

-- a text that is no legal journal, or want of memory
pub judge_refused : (r : Result ℕ Fault) (left new_left : Option (List ℕ)) (text : List ℕ) (faults new_faults : ℕ) →
    IsText left text → ReadToEnd left new_left → IfErr r (JudgeRefuses text) →
    IfErr r (StopsUnwritten Audit (inputs_of left) (inputs_of new_left) faults new_faults)
judge_refused (Ok count) left new_left text faults new_faults is ended refused = tt
judge_refused (Err fault) left new_left text faults new_faults is ended refused = elim refused [
  | inl memory ↦ subst (λ (f : Fault). StopsUnwritten Audit (inputs_of left) (inputs_of new_left) faults new_faults f)
      (sym memory) (memory-stops left new_left faults new_faults)
  | inr journal ↦ journal-stops left new_left text faults new_faults fault is ended journal.0 journal.1
]

accepted : (left : Option (List ℕ)) (entries : ℕ) → IsAudited left entries →
    Answers IsOutside (verdict_of Audit (inputs_of left)) (Ok (Audited entries))
accepted None entries audited = tt
accepted (Some bytes) entries audited =
    accepted-answers (audit_answer bytes) entries (Audited entries) (rw audited.is_text at audited.legal)

-- the verdict on a legal journal
pub verdict_made : (left new_left : Option (List ℕ)) (faults new_faults entries : ℕ) (text : List ℕ) →
    IsAudited left entries → text ≡ verdict_text entries → ReadToEnd left new_left → new_faults ≡ faults →
    IsMade Audit left new_left faults new_faults (Audited entries) text
verdict_made left new_left faults new_faults entries text audited shown ended no_fault = record {
  does = record { entries = entries; audited = audited; told = refl; shown = shown };
  accepted = accepted left entries audited;
  input_read = ended;
  reads = record {
    failed = λ e. cc;
    too_long = λ e. cc;
    bad_journal = λ line e. cc;
    illegal = λ entry e. cc;
    writing = λ e. ended;
  };
  may_fail = inl refl;
  no_fault = no_fault;
}
