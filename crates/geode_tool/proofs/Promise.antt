-- What the promise of a command says, for each way that its call ends.
use Rattle.std.proofs.Common.{◌≡◌, ◌≢◌, ◌≤◌, ℕ, List, [], ◌∷◌, Bool, true, false, length, take, Option, Some, Result}
use Rattle.std.proofs.Common.{Ok, Err, inl, inr, ap, sym, subst, refl, ◌∙◌, arith}
use Rattle.std.specs.Prelude.{IsErr, IfErr, IfOk, IfSome}
use Rattle.std.specs.Result.{IsErrAnd}
use Rattle.std.proofs.lemmas.Result.{on_ok_weaker, IfErr-weaker, IfOk-weaker}
use Rattle.span_io.specs.Faults.{Rose}
use Rattle.span_io.specs.Puts.{Appended}
use Rattle.geode_tool.specs.declared.commands.BoxRequest.{BoxRequest}
use Rattle.geode_tool.specs.declared.commands.Command.{Command}
use Rattle.geode_tool.specs.declared.commands.Command.TheVariants.{Draw, Audit, Make, Build, Verify}
use Rattle.geode_tool.specs.declared.commands.DrawRequest.{DrawRequest}
use Rattle.dag_core.specs.declared.counts.Counts.{Counts}
use Rattle.geode_tool.specs.declared.faults.Done.{Done}
use Rattle.geode_tool.specs.declared.faults.Done.TheVariants.{Built, Verified}
use Rattle.geode_tool.specs.Build.{DoesBuild}
use Rattle.geode_tool.specs.Verify.{DoesVerify, IsVerified, sound_text}
use Rattle.page_file.specs.SoundFiles.{HoldsSound}
use Rattle.geode_tool.specs.declared.faults.Fault.{Fault}
use Rattle.geode_tool.specs.declared.faults.Fault.TheVariants.{Usage, NoSource, ReadFault, TooLong, BadObj, TooMany}
use Rattle.geode_tool.specs.declared.faults.Fault.TheVariants.{Empty, BadJournal, Pages, PageFault, Unsound, Illegal}
use Rattle.geode_tool.specs.declared.faults.Fault.TheVariants.{WriteFault, Memory}
use Rattle.geode_tool.specs.declared.faults.UsageKind.{UsageKind}
use Rattle.geode_tool.specs.Commands.{sources_needed, verdict_of, Does, HasRead, ReadsUpTo}
use Rattle.geode_tool.specs.FaultTable.{kind_of, kinds_in, FaultKind, IsMemory, IsOneOf, IsOutside, MayReturn}
use Rattle.geode_tool.specs.FaultTable.FaultKind.{Words, Sources as Lack, Outside, PageRead, PageFile, Length, Mesh}
use Rattle.geode_tool.specs.FaultTable.FaultKind.{Journal}
use Rattle.geode_tool.specs.Outputs.{WritesAll, WritesPrefix}
use Rattle.geode_tool.specs.Headline.{Holds, HasCause, IsOutput, InputFailed, OutputFailed, PagesFailed}
use Rattle.geode_tool.specs.Inputs.{Inputs, inputs_of, inputs_with, no_sources, Sources, Streams, streams, with_sources}
use Rattle.geode_tool.specs.Internal.Unwritten.{SourcesCause, StopsUnwritten}
use Rattle.geode_tool.specs.Verdicts.{Verdict, Answers, verdict_from}
use Rattle.geode_tool.specs.Verdicts.Verdict.{Refuses, Accepts, Undecided}
use Rattle.geode_tool.proofs.SoundBuilds.{built_sound}

-- a failure of the outside may be the answer, whatever the verdict
pub outside-answers : (verdict : Verdict) (fault : Fault) → IsOutside fault → Answers IsOutside verdict (Err fault)
outside-answers (Refuses first) fault outside = inr outside
outside-answers Accepts fault outside = outside
outside-answers Undecided fault outside = tt

pub refused-answers : {A : Type 0} (found : Result A Fault) (fault : Fault) → found ≡ Err fault →
    Answers IsOutside (verdict_from found) (Err fault)
refused-answers found fault e = rw e (inl refl)

pub accepted-answers : {A : Type 0} (found : Result A Fault) (a : A) (done : Done) → found ≡ Ok a →
    Answers IsOutside (verdict_from found) (Ok done)
accepted-answers found a done e = rw e tt

success-answers : (verdict : Verdict) (done : Done) → Answers IsOutside verdict (Ok done) →
    Answers IsMemory verdict (Ok done)
success-answers (Refuses first) done answers = absurd answers
success-answers Accepts done answers = tt
success-answers Undecided done answers = tt

-- of the failures of the outside only one is no failed call
memory-else : (fault : Fault) → fault ≢ ReadFault → fault ≢ PageFault → fault ≢ WriteFault → IsOutside fault →
    IsMemory fault
memory-else (Usage kind) no_read no_page no_write outside = cc
memory-else (NoSource need have) no_read no_page no_write outside = cc
memory-else ReadFault no_read no_page no_write outside = absurd (no_read refl)
memory-else TooLong no_read no_page no_write outside = cc
memory-else (BadObj line why) no_read no_page no_write outside = cc
memory-else TooMany no_read no_page no_write outside = cc
memory-else Empty no_read no_page no_write outside = cc
memory-else (BadJournal line) no_read no_page no_write outside = cc
memory-else (Pages why) no_read no_page no_write outside = cc
memory-else PageFault no_read no_page no_write outside = absurd (no_page refl)
memory-else (Unsound rule index) no_read no_page no_write outside = cc
memory-else (Illegal entry) no_read no_page no_write outside = cc
memory-else WriteFault no_read no_page no_write outside = absurd (no_write refl)
memory-else Memory no_read no_page no_write outside = refl

complete-answers : (verdict : Verdict) (fault : Fault) → fault ≢ ReadFault → fault ≢ PageFault → fault ≢ WriteFault →
    Answers IsOutside verdict (Err fault) → Answers IsMemory verdict (Err fault)
complete-answers (Refuses first) fault no_read no_page no_write answers = elim answers [
  | inl same ↦ inl same
  | inr outside ↦ inr (memory-else fault no_read no_page no_write outside)
]
complete-answers Accepts fault no_read no_page no_write answers = memory-else fault no_read no_page no_write answers
complete-answers Undecided fault no_read no_page no_write answers = tt

-- if no call failed, the answer is the verdict's or want of memory
completed : {K : Type 0} (command : Command) (before after : Streams K) (r : Result Done Fault) →
    Answers IsOutside (verdict_of command before.inputs) r → IfErr r (HasCause command before after) →
    ¬ (InputFailed before after) → ¬ (PagesFailed before after) → ¬ (OutputFailed before after) →
    Answers IsMemory (verdict_of command before.inputs) r
completed command before after (Ok done) answers causes no_read no_page no_write =
    success-answers (verdict_of command before.inputs) done answers
completed command before after (Err fault) answers causes no_read no_page no_write =
    complete-answers (verdict_of command before.inputs) fault (λ is. no_read (causes.read_fault is))
    (λ is. no_page (causes.page_fault is)) (λ is. no_write (causes.write_fault is)) answers

-- ---- which faults a command returns

-- no kind of the list passes the test
abbrev none_of : (FaultKind → Bool) → List FaultKind → Type 0
none_of test [] = Unit {0}
none_of test (first ∷ rest) = (test first ≡ false) × none_of test rest

no_member : (test : FaultKind → Bool) (kind : FaultKind) (list : List FaultKind) → test kind ≡ true →
    none_of test list → IsOneOf kind list → ⊥
no_member test kind [] passes none member = member
no_member test kind (first ∷ rest) passes none member = elim member [
  | inl same ↦ differ (sym passes ∙ ap test same ∙ none.0)
  | inr more ↦ no_member test kind rest passes none.1 more
]
  where
    differ : true ≡ false → ⊥
    differ e = cc

-- a fault of the words
abbrev is_of_words : FaultKind → Bool
is_of_words Words = true
is_of_words Lack = false
is_of_words Outside = false
is_of_words PageRead = false
is_of_words PageFile = false
is_of_words Length = false
is_of_words Mesh = false
is_of_words Journal = false

-- a fault of the page sources or of what they hold
abbrev is_of_pages : FaultKind → Bool
is_of_pages Words = false
is_of_pages Lack = true
is_of_pages Outside = false
is_of_pages PageRead = true
is_of_pages PageFile = true
is_of_pages Length = false
is_of_pages Mesh = false
is_of_pages Journal = false

no_words : (command : Command) → none_of is_of_words (kinds_in command)
no_words (Draw request) = (refl, (refl, (refl, tt)))
no_words Audit = (refl, (refl, (refl, tt)))
no_words (Make request) = (refl, tt)
no_words Build = (refl, (refl, (refl, tt)))
no_words Verify = (refl, (refl, (refl, (refl, tt))))

no_pages : (command : Command) → sources_needed command ≡ 0 → none_of is_of_pages (kinds_in command)
no_pages (Draw request) none = (refl, (refl, (refl, tt)))
no_pages Audit none = (refl, (refl, (refl, tt)))
no_pages (Make request) none = (refl, tt)
no_pages Build none = (refl, (refl, (refl, tt)))
no_pages Verify none = cc

-- a command that names no file has no fault of page sources
unused : (command : Command) (sources : Sources) (fault : Fault) → sources_needed command ≡ 0 →
    MayReturn command fault → SourcesCause command sources sources fault
unused command sources fault none may = record {
  never_falls = omega arith;
  no_source = λ need have is. absurd (foreign (NoSource need have) refl is);
  page_fault = λ is. absurd (foreign PageFault refl is);
  pages = λ why is. absurd (foreign (Pages why) refl is);
}
  where
    foreign : (other : Fault) → is_of_pages (kind_of other) ≡ true → fault ≡ other → ⊥
    foreign other passes is =
        no_member is_of_pages (kind_of other) (kinds_in command) passes (no_pages command none)
        (subst (λ (f : Fault). MayReturn command f) is may)

-- ---- a command over its input, its page sources and its output

-- a success with counts is one of `build`
built_does : (command : Command) (inputs : Inputs) (done : Done) (text : List ℕ) (counts : Counts) →
    Does command inputs done text → done ≡ Built counts → DoesBuild inputs (Built counts) text
built_does (Draw request) inputs done text counts does is = cc (sym does.0 ∙ is)
built_does Audit inputs done text counts does is = cc (sym does.told ∙ is)
built_does (Make request) inputs done text counts does is = cc (sym does.0 ∙ is)
built_does Build inputs done text counts does is = subst (λ (d : Done). DoesBuild inputs d text) is does
built_does Verify inputs done text counts does is = cc (sym does.told ∙ is)

same_done : (done other : Done) → ◌≡◌ {A = Result Done Fault} (Ok done) (Ok other) → done ≡ other
same_done done other is = cc is

same_counts : (counts other : Counts) → Built counts ≡ Built other → counts ≡ other
same_counts counts other is = cc is

no_counts : (fault : Fault) (counts : Counts) → ◌≡◌ {A = Result Done Fault} (Err fault) (Ok (Built counts)) → ⊥
no_counts fault counts is = cc is

-- a success that says sound is one of `verify`
verified_does : (command : Command) (inputs : Inputs) (done : Done) (text : List ℕ) (counts : Counts) →
    Does command inputs done text → done ≡ Verified counts → DoesVerify inputs (Verified counts) text
verified_does (Draw request) inputs done text counts does is = cc (sym does.0 ∙ is)
verified_does Audit inputs done text counts does is = cc (sym does.told ∙ is)
verified_does (Make request) inputs done text counts does is = cc (sym does.0 ∙ is)
verified_does Build inputs done text counts does is = cc (sym does.told ∙ is)
verified_does Verify inputs done text counts does is = subst (λ (d : Done). DoesVerify inputs d text) is does

same_verified : (counts other : Counts) → Verified counts ≡ Verified other → counts ≡ other
same_verified counts other is = cc is

not_verified : (fault : Fault) (counts : Counts) → ◌≡◌ {A = Result Done Fault} (Err fault) (Ok (Verified counts)) → ⊥
not_verified fault counts is = cc is

-- no other command says it
no_verified : (command : Command) (inputs : Inputs) (counts : Counts) (text : List ℕ) → sources_needed command ≡ 0 →
    Does command inputs (Verified counts) text → ⊥
no_verified (Draw request) inputs counts text none does = cc does.0
no_verified Audit inputs counts text none does = cc does.told
no_verified (Make request) inputs counts text none does = cc does.0
no_verified Build inputs counts text none does = cc does.told
no_verified Verify inputs counts text none does = absurd (omega (arith, none))

is_verified : {K : Type 0} (counts : Counts) (before after : Streams K) (text : List ℕ) →
    DoesVerify before.inputs (Verified counts) text → Appended before.written after.written text →
    after.flushed ≡ true → IsVerified counts before after
is_verified counts before after text does appended flushed =
    let same = sym (same_verified counts does.counts does.told) in record {
      sound = subst (λ (c : Counts). HoldsSound before.inputs.pages c) same does.sound;
      line = subst (λ (c : Counts). Appended before.written after.written (sound_text c)) same
          (subst (λ (t : List ℕ). Appended before.written after.written t) does.shown appended);
      flushed = flushed;
    }

-- a fault before the first write
pub refused_with : {K : Type 0} (command : Command) (sources new_sources : Sources) (left new_left : Option (List ℕ))
    (faults new_faults : ℕ) (written : Option (List ℕ)) (flushed : Bool) (output_faults : ℕ) (output : K)
    (r : Result Done Fault) (fault : Fault) →
    IsErr r × IsErrAnd r (λ e. e ≡ fault) →
    StopsUnwritten command (inputs_with sources (inputs_of left)) (inputs_with new_sources (inputs_of new_left))
    faults new_faults fault →
    SourcesCause command sources new_sources fault → faults ≤ new_faults →
    Holds command (with_sources sources (streams left faults written flushed output_faults output))
    (with_sources new_sources (streams new_left new_faults written flushed output_faults output)) r
refused_with command sources new_sources left new_left faults new_faults written flushed output_faults output
    (Ok done) fault becomes given cause count = absurd becomes.1
refused_with command sources new_sources left new_left faults new_faults written flushed output_faults output
    (Err e) fault becomes given cause count =
    let stops =
    subst (λ (f : Fault). StopsUnwritten command (inputs_with sources (inputs_of left))
    (inputs_with new_sources (inputs_of new_left)) faults new_faults f) (sym becomes.1) given in
    let of_sources = subst (λ (f : Fault). SourcesCause command sources new_sources f) (sym becomes.1) cause in record {
      answered = stops.answered;
      complete =
          λ no_read no_page no_write. complete-answers (verdict_of command (inputs_with sources (inputs_of left))) e
          (λ is. no_read (stops.cause is)) (λ is. no_page (of_sources.page_fault is)) stops.no_write stops.answered;
      written = tt;
      built = λ counts is. absurd (no_counts e counts is);
      sound = λ counts is. absurd (no_counts e counts is);
      counted = λ counts is. absurd (no_counts e counts is);
      verified = λ counts is. absurd (not_verified e counts is);
      flushed = tt;
      input_read = tt;
      refusals = stops.may_return;
      causes = record {
        no_source = of_sources.no_source;
        read_fault = stops.cause;
        page_fault = of_sources.page_fault;
        pages = of_sources.pages;
        write_fault = λ is. absurd (stops.no_write is);
      };
      reads = stops.reads;
      prefix = record { write_fault = λ is. absurd (stops.no_write is); memory = λ is. inl refl };
      output_unchanged = λ no_write no_memory. refl;
      memory = λ first is. refl;
      counts = record {
        input = count;
        sources = of_sources.never_falls;
        output = omega arith;
        none_in_success = tt;
      };
    }

-- what a success of the command is, and how far it reads, for a failed write
pub record IsMadeWith (command : Command) (sources new_sources : Sources) (left new_left : Option (List ℕ))
    (faults new_faults : ℕ) (done : Done) (text : List ℕ) : Type 0 where
  pub does : Does command (inputs_with sources (inputs_of left)) done text
  pub accepted : Answers IsOutside (verdict_of command (inputs_with sources (inputs_of left))) (Ok done)
  pub input_read :
      HasRead command (inputs_with sources (inputs_of left)) (inputs_with new_sources (inputs_of new_left))
  pub reads : ReadsUpTo command (inputs_with sources (inputs_of left)) (inputs_with new_sources (inputs_of new_left))
      WriteFault
  pub may_fail : MayReturn command WriteFault
  pub no_fault : new_faults ≡ faults
  pub never_falls : sources.faults ≤ new_sources.faults

-- a failed write or flush
pub unwritten_with : {K : Type 0} (command : Command) (sources new_sources : Sources)
    (left new_left : Option (List ℕ)) (faults new_faults : ℕ)
    (written new_written : Option (List ℕ)) (flushed new_flushed : Bool) (output_faults new_output_faults : ℕ)
    (output new_output : K) (r : Result Done Fault) (fault : Fault) (done : Done) (text : List ℕ) →
    IsErr r × IsErrAnd r (λ e. e ≡ fault) → fault ≡ WriteFault →
    IsMadeWith command sources new_sources left new_left faults new_faults done text →
    Rose output_faults new_output_faults → ((count : ℕ) × (count ≤ length text) ×
    Appended written new_written (take count text)) →
    Holds command (with_sources sources (streams left faults written flushed output_faults output))
    (with_sources new_sources
    (streams new_left new_faults new_written new_flushed new_output_faults new_output)) r
unwritten_with command sources new_sources left new_left faults new_faults written new_written flushed new_flushed
    output_faults new_output_faults output new_output (Ok done') fault done text becomes is made rose prefix =
    absurd becomes.1
unwritten_with command sources new_sources left new_left faults new_faults written new_written flushed new_flushed
    output_faults new_output_faults output new_output (Err e) fault done text becomes is made rose prefix =
    let same : WriteFault ≡ e = sym (becomes.1 ∙ is) in
    subst (λ (f : Fault). Holds command
    (with_sources sources (streams left faults written flushed output_faults output))
    (with_sources new_sources (streams new_left new_faults new_written new_flushed new_output_faults new_output))
    (Err f)) same (record {
      answered = outside-answers (verdict_of command (inputs_with sources (inputs_of left))) WriteFault refl;
      complete = λ no_read no_page no_write. absurd (no_write rose);
      written = tt;
      built = λ counts is. absurd (no_counts WriteFault counts is);
      sound = λ counts is. absurd (no_counts WriteFault counts is);
      counted = λ counts is. absurd (no_counts WriteFault counts is);
      verified = λ counts is. absurd (not_verified WriteFault counts is);
      flushed = tt;
      input_read = tt;
      refusals = made.may_fail;
      causes = record {
        no_source = λ need have other. cc;
        read_fault = λ other. cc;
        page_fault = λ other. cc;
        pages = λ why other. cc;
        write_fault = λ same. rose;
      };
      reads = made.reads;
      prefix = record {
        write_fault =
            λ same. record {
              text = text;
              is_output = (done, made.does);
              count = prefix.0;
              within = prefix.1;
              appended =
                  prefix.2;
            };
        memory = λ other. cc;
      };
      output_unchanged = λ no_write no_memory. absurd (no_write refl);
      memory = λ first other. cc;
      counts = record {
        input = omega (arith, made.no_fault);
        sources = made.never_falls;
        output = rose.never_falls;
        none_in_success = tt;
      };
    })

-- a success
pub done_with : {K : Type 0} (command : Command) (sources new_sources : Sources) (left new_left : Option (List ℕ))
    (faults new_faults : ℕ)
    (written new_written : Option (List ℕ)) (flushed new_flushed : Bool) (output_faults new_output_faults : ℕ)
    (output new_output : K) (done : Done) (text : List ℕ) →
    IsMadeWith command sources new_sources left new_left faults new_faults done text →
    Appended written new_written text → new_flushed ≡ true → new_output_faults ≡ output_faults →
    Holds command (with_sources sources (streams left faults written flushed output_faults output))
    (with_sources new_sources
    (streams new_left new_faults new_written new_flushed new_output_faults new_output)) (Ok done)
done_with command sources new_sources left new_left faults new_faults written new_written flushed new_flushed
    output_faults new_output_faults output new_output done text made appended is_flushed no_fault = record {
      answered = made.accepted;
      complete =
          λ no_read no_page no_write. success-answers (verdict_of command (inputs_with sources (inputs_of left))) done
          made.accepted;
      written = record { text = text; is_output = made.does; appended = appended };
      built = λ counts is. record {
        text = text;
        is_output = built_does command (inputs_with sources (inputs_of left)) done text counts made.does
            (same_done done _ is);
        appended = appended;
      };
      sound = λ counts is.
          let does =
          built_does command (inputs_with sources (inputs_of left)) done text counts made.does (same_done done _ is) in
          built_sound left does.laid does.built;
      counted = λ counts is.
          let does =
          built_does command (inputs_with sources (inputs_of left)) done text counts made.does (same_done done _ is) in
          same_counts counts _ does.told;
      verified = λ counts is. is_verified counts
          (with_sources sources (streams left faults written flushed output_faults output))
          (with_sources new_sources (streams new_left new_faults new_written new_flushed new_output_faults new_output))
          text (verified_does command (inputs_with sources (inputs_of left)) done text counts made.does
          (same_done done _ is)) appended is_flushed;
      flushed = is_flushed;
      input_read = made.input_read;
      refusals = tt;
      causes = tt;
      reads = tt;
      prefix = tt;
      output_unchanged = tt;
      memory = λ first. tt;
      counts = record {
        input = omega (arith, made.no_fault);
        sources = made.never_falls;
        output = omega (arith, no_fault);
        none_in_success = (made.no_fault, no_fault);
      };
    }

-- ---- a command that names no file, over its input and its output

-- a fault before the first write
pub promise-refused : {K : Type 0} (command : Command) (left new_left : Option (List ℕ)) (faults new_faults : ℕ)
    (written : Option (List ℕ)) (flushed : Bool) (output_faults : ℕ) (output : K) (r : Result Done Fault)
    (fault : Fault) → sources_needed command ≡ 0 →
    IsErr r × IsErrAnd r (λ e. e ≡ fault) → StopsUnwritten command (inputs_of left)
    (inputs_of new_left) faults new_faults fault → faults ≤ new_faults →
    Holds command (streams left faults written flushed output_faults output)
    (streams new_left new_faults written flushed output_faults output) r
promise-refused command left new_left faults new_faults written flushed output_faults output r fault none becomes given
    count =
    refused_with command no_sources no_sources left new_left faults new_faults written flushed output_faults output r
    fault becomes given (unused command no_sources fault none given.may_return) count

-- what a success of the command is, and how far it reads, for a failed write
pub record IsMade (command : Command) (left new_left : Option (List ℕ)) (faults new_faults : ℕ) (done : Done)
    (text : List ℕ) : Type 0 where
  pub does : Does command (inputs_of left) done text
  pub accepted : Answers IsOutside (verdict_of command (inputs_of left)) (Ok done)
  pub input_read : HasRead command (inputs_of left) (inputs_of new_left)
  pub reads : ReadsUpTo command (inputs_of left) (inputs_of new_left) WriteFault
  pub may_fail : MayReturn command WriteFault
  pub no_fault : new_faults ≡ faults

made_with : (command : Command) (left new_left : Option (List ℕ)) (faults new_faults : ℕ) (done : Done)
    (text : List ℕ) → IsMade command left new_left faults new_faults done text →
    IsMadeWith command no_sources no_sources left new_left faults new_faults done text
made_with command left new_left faults new_faults done text made = record {
  does = made.does;
  accepted = made.accepted;
  input_read = made.input_read;
  reads = made.reads;
  may_fail = made.may_fail;
  no_fault = made.no_fault;
  never_falls = omega arith;
}

-- a failed write or flush
pub promise-unwritten : {K : Type 0} (command : Command) (left new_left : Option (List ℕ)) (faults new_faults : ℕ)
    (written new_written : Option (List ℕ)) (flushed new_flushed : Bool) (output_faults new_output_faults : ℕ)
    (output new_output : K) (r : Result Done Fault) (fault : Fault) (done : Done) (text : List ℕ) →
    IsErr r × IsErrAnd r (λ e. e ≡ fault) → fault ≡ WriteFault →
    IsMade command left new_left faults new_faults done text →
    Rose output_faults new_output_faults → ((count : ℕ) × (count ≤ length text) ×
    Appended written new_written (take count text)) →
    Holds command (streams left faults written flushed output_faults output)
    (streams new_left new_faults new_written new_flushed new_output_faults new_output) r
promise-unwritten command left new_left faults new_faults written new_written flushed new_flushed output_faults
    new_output_faults output new_output r fault done text becomes is made rose prefix =
    unwritten_with command no_sources no_sources left new_left faults new_faults written new_written flushed new_flushed
    output_faults new_output_faults output new_output r fault done text becomes is
    (made_with command left new_left faults new_faults done text made) rose prefix

-- a success
pub promise-done : {K : Type 0} (command : Command) (left new_left : Option (List ℕ)) (faults new_faults : ℕ)
    (written new_written : Option (List ℕ)) (flushed new_flushed : Bool) (output_faults new_output_faults : ℕ)
    (output new_output : K) (done : Done) (text : List ℕ) →
    IsMade command left new_left faults new_faults done text → Appended written new_written text → new_flushed ≡ true →
    new_output_faults ≡ output_faults →
    Holds command (streams left faults written flushed output_faults output)
    (streams new_left new_faults new_written new_flushed new_output_faults new_output) (Ok done)
promise-done command left new_left faults new_faults written new_written flushed new_flushed output_faults
    new_output_faults output new_output done text made appended is_flushed no_fault =
    done_with command no_sources no_sources left new_left faults new_faults written new_written flushed new_flushed
    output_faults new_output_faults output new_output done text
    (made_with command left new_left faults new_faults done text made) appended is_flushed no_fault

-- ---- the promise of such a command, with page sources that it leaves as they were

-- a refusal keeps its cause
causes_with : {K : Type 0} (command : Command) (sources : Sources) (before after : Streams K) (r : Result Done Fault) →
    sources_needed command ≡ 0 → IfErr r (MayReturn command) → IfErr r (HasCause command before after) →
    IfErr r (HasCause command (with_sources sources before) (with_sources sources after))
causes_with command sources before after (Ok done) none may causes = tt
causes_with command sources before after (Err fault) none may causes =
    let of_sources = unused command sources fault none may in record {
      no_source = of_sources.no_source;
      read_fault = causes.read_fault;
      page_fault = of_sources.page_fault;
      pages = of_sources.pages;
      write_fault = causes.write_fault;
    }

-- nothing that such a command promises depends on the page sources
record SameOfInputs (command : Command) (before after inputs new_inputs : Inputs) : Type 0 where
  verdict : verdict_of command inputs ≡ verdict_of command before
  does : (done : Done) (text : List ℕ) → Does command before done text → Does command inputs done text
  has_read : HasRead command before after → HasRead command inputs new_inputs
  reads : (fault : Fault) → ReadsUpTo command before after fault → ReadsUpTo command inputs new_inputs fault

same_drawn : (request : DrawRequest) (sources : Sources) (before after : Inputs) →
    SameOfInputs (Draw request) before after (inputs_with sources before) (inputs_with sources after)
same_drawn request sources before after =
    record { verdict = refl; does = λ done text does. does; has_read = λ read. read; reads = λ fault reads. reads }

same_audited : (sources : Sources) (before after : Inputs) →
    SameOfInputs Audit before after (inputs_with sources before) (inputs_with sources after)
same_audited sources before after = record {
  verdict = refl;
  does = λ done text does.
      record { entries = does.entries; audited = does.audited; told = does.told; shown = does.shown };
  has_read = λ read. read;
  reads = λ fault reads. reads;
}

same_made : (request : BoxRequest) (sources : Sources) (before after : Inputs) →
    SameOfInputs (Make request) before after (inputs_with sources before) (inputs_with sources after)
same_made request sources before after = record {
  verdict = refl;
  does = λ done text does. does;
  has_read = λ read. ap (inputs_with sources) read;
  reads = λ fault reads. ap (inputs_with sources) reads;
}

build_does : (sources : Sources) (inputs : Inputs) (done : Done) (text : List ℕ) →
    Does Build inputs done text → Does Build (inputs_with sources inputs) done text
build_does sources inputs done text does =
    record { laid = does.laid; built = does.built; told = does.told; file = does.file }

same_built : (sources : Sources) (before after : Inputs) →
    SameOfInputs Build before after (inputs_with sources before) (inputs_with sources after)
same_built sources before after = record {
  verdict = refl;
  does = build_does sources before;
  has_read = λ read. read;
  reads = λ fault reads. reads;
}

same_of_inputs : (command : Command) (sources : Sources) (before after : Inputs) → sources_needed command ≡ 0 →
    SameOfInputs command before after (inputs_with sources before) (inputs_with sources after)
same_of_inputs (Draw request) sources before after none = same_drawn request sources before after
same_of_inputs Audit sources before after none = same_audited sources before after
same_of_inputs (Make request) sources before after none = same_made request sources before after
same_of_inputs Build sources before after none = same_built sources before after
same_of_inputs Verify sources before after none = absurd (omega (arith, none))

abbrev build_kept : (sources : Sources) (inputs : Inputs) (counts : Counts) (written new_written : Option (List ℕ)) →
    WritesAll (DoesBuild inputs (Built counts)) written new_written →
    WritesAll (DoesBuild (inputs_with sources inputs) (Built counts)) written new_written
build_kept sources inputs counts written new_written writes = record {
  text = writes.text;
  is_output = record {
    laid = writes.is_output.laid;
    built = writes.is_output.built;
    told = writes.is_output.told;
    file = writes.is_output.file;
  };
  appended = writes.appended;
}

pub untouched : {K : Type 0} (command : Command) (sources : Sources) (before after : Streams K)
    (r : Result Done Fault) → sources_needed command ≡ 0 → Holds command before after r →
    Holds command (with_sources sources before) (with_sources sources after) r
untouched command sources before after r none holds =
    let same = same_of_inputs command sources before.inputs after.inputs none in
    let answered = subst (λ verdict. Answers IsOutside verdict r) (sym same.verdict) holds.answered in
    let causes = causes_with command sources before after r none holds.refusals holds.causes in record {
      answered = answered;
      complete = completed command (with_sources sources before) (with_sources sources after) r answered causes;
      written = IfOk-weaker r _ _
          (λ done writes. record {
            text = writes.text;
            is_output = same.does done writes.text writes.is_output;
            appended = writes.appended;
          }) holds.written;
      built = λ counts is.
          build_kept sources before.inputs counts before.written after.written (holds.built counts is);
      sound = λ counts is. holds.sound counts is;
      counted = λ counts is. holds.counted counts is;
      verified = λ counts is.
          let writes =
          subst (λ (r : Result Done Fault). IfOk r (λ done. WritesAll (Does command before.inputs done)
          before.written after.written)) is holds.written in
          absurd (no_verified command before.inputs counts writes.text none writes.is_output);
      flushed = holds.flushed;
      input_read = on_ok_weaker r same.has_read holds.input_read;
      refusals = holds.refusals;
      causes = causes;
      reads = IfErr-weaker r _ _ same.reads holds.reads;
      prefix = IfErr-weaker r _ _ (λ fault leaves. record {
        write_fault = λ is. kept same (leaves.write_fault is);
        memory = λ is. elim (leaves.memory is) [ inl unwritten ↦ inl unwritten | inr some ↦ inr (kept same some) ];
      }) holds.prefix;
      output_unchanged = holds.output_unchanged;
      memory = holds.memory;
      counts = record {
        input = holds.counts.input;
        sources = omega arith;
        output = holds.counts.output;
        none_in_success = holds.counts.none_in_success;
      };
    }
  where
    kept : SameOfInputs command before.inputs after.inputs (inputs_with sources before.inputs)
        (inputs_with sources after.inputs) →
        WritesPrefix (IsOutput command before.inputs) before.written after.written →
        WritesPrefix (IsOutput command (inputs_with sources before.inputs)) before.written after.written
    kept same part = record {
      text = part.text;
      is_output = (part.is_output.0, same.does part.is_output.0 part.text part.is_output.1);
      count = part.count;
      within = part.within;
      appended = part.appended;
    }

-- ---- the words

-- what holds of the command that the words ask for
pub if_some : {A : Type 0} (asked : Option A) (command : A) (Q : A → Type 0) → asked ≡ Some command → Q command →
    IfSome asked Q
if_some {A = A} asked command Q is holds = subst (λ (found : Option A). IfSome found Q) (sym is) holds

-- no command returns a fault of the words
pub no_usage : {K : Type 0} (command : Command) (before after : Streams K) (r : Result Done Fault) (kind : UsageKind) →
    Holds command before after r → r ≡ Err (Usage kind) → ⊥
no_usage command before after r kind holds e =
    no_member is_of_words Words (kinds_in command) refl (no_words command)
    (subst (λ (x : Result Done Fault). IfErr x (MayReturn command)) e holds.refusals)
