-- What verifying the first page source says of the promise of `verify`.
use Rattle.std.proofs.Common.{◌≡◌, ◌==◌, ◌≤◌, ◌<◌, ℕ, zero, suc, List, [], ◌∷◌, length, Bool, true, false, Option, Some}
use Rattle.std.proofs.Common.{None, Result, Ok, Err, get_or, inl, inr, ap, sym, subst, refl, ◌∙◌, arith}
use Rattle.std.specs.Prelude.{IsErr, IfErr}
use Rattle.std.specs.Result.{IsErrAnd}
use Rattle.std.proofs.Math.ListN.{set}
use Rattle.dag_core.specs.declared.counts.Counts.{Counts}
use Rattle.page_file.specs.declared.open_faults.OpenFault.{OpenFault}
use Rattle.page_file.specs.declared.open_faults.OpenFault.TheVariants as opens
use Rattle.page_file.specs.declared.verify_faults.VerifyFault.{VerifyFault}
use Rattle.page_file.specs.declared.verify_faults.VerifyFault.TheVariants.{Open, Broken}
use Rattle.page_file.specs.Opening.{opening}
use Rattle.page_file.specs.Refusals.{Opens}
use Rattle.page_file.specs.VerifyAnswers.{Verifies, VerifyDigestsDiffer, VerifyRefuses}
use Rattle.page_file.specs.Verifying.{all_pages, opened_verified, verifying}
use Rattle.span_io.specs.Faults.{Rose}
use Rattle.geode_tool.specs.declared.commands.Command.TheVariants.{Verify}
use Rattle.geode_tool.specs.declared.faults.Done.{Done}
use Rattle.geode_tool.specs.declared.faults.Done.TheVariants.{Verified}
use Rattle.geode_tool.specs.declared.faults.Fault.{Fault}
use Rattle.geode_tool.specs.declared.faults.Fault.TheVariants.{Memory, NoSource, Pages, PageFault, Unsound}
use Rattle.geode_tool.specs.FaultTable.{IsOutside}
use Rattle.geode_tool.specs.Faults.{fault_of_open, fault_of_verify}
use Rattle.geode_tool.specs.Inputs.{inputs_of, inputs_with, sources_of, Sources}
use Rattle.geode_tool.specs.Internal.Unwritten.{SourcesCause, StopsUnwritten}
use Rattle.geode_tool.specs.Internal.Verifying.{AcceptsPages, KeepsSources, RefusesPages}
use Rattle.geode_tool.specs.Verdicts.{Answers}
use Rattle.geode_tool.specs.Verify.{counts_or_fault, sound_text, verdict_on_first, verify_answer, IsOfBytes}
use Rattle.geode_tool.proofs.Promise.{accepted-answers, outside-answers, refused-answers, IsMadeWith}

-- ---- what the bytes answer

verify_answer-from : (bytes : List ℕ) (found : Result Counts VerifyFault) → verifying bytes ≡ found →
    verify_answer bytes ≡ counts_or_fault found
unfolding verify_answer
verify_answer-from bytes found e = ap counts_or_fault e

verifying-open : (bytes : List ℕ) (fault : OpenFault) → opening all_pages bytes ≡ Err fault →
    verifying bytes ≡ Err (Open fault)
unfolding verifying
verifying-open bytes fault e = ap opened_verified e

as_verified : (known : Option (List ℕ)) (fault : OpenFault) → Opens all_pages known (Err fault) →
    Verifies known (Err (Open fault))
as_verified known fault opened = record {
  bytes = opened.bytes;
  told = opened.told;
  answer = verifying-open opened.bytes fault opened.answer;
}

-- a refusal of the bytes is the verdict, if they are known
refused_bytes : (more : ℕ) (known : Option (List ℕ)) (fault : VerifyFault) → Verifies known (Err fault) →
    Answers IsOutside (verdict_on_first (suc more) known) (Err (fault_of_verify fault))
refused_bytes more None fault verifies = tt
refused_bytes more (Some bytes) fault verifies =
    refused-answers (verify_answer bytes) (fault_of_verify fault) (verify_answer-from bytes (Err fault)
    (subst (λ (b : List ℕ). verifying b ≡ Err fault) (sym verifies.told) verifies.answer))

accepted_bytes : (count : ℕ) (known : Option (List ℕ)) (counts : Counts) → 0 < count → Verifies known (Ok counts) →
    Answers IsOutside (verdict_on_first count known) (Ok (Verified counts))
accepted_bytes zero known counts given verifies = absurd (omega (arith, given))
accepted_bytes (suc more) None counts given verifies = tt
accepted_bytes (suc more) (Some bytes) counts given verifies =
    accepted-answers (verify_answer bytes) counts (Verified counts) (verify_answer-from bytes (Ok counts)
    (subst (λ (b : List ℕ). verifying b ≡ Ok counts) (sym verifies.told) verifies.answer))

-- ---- the inputs are as they were

kept_inputs : (left : Option (List ℕ)) (sources new_sources : Sources) → KeepsSources sources new_sources →
    inputs_with new_sources (inputs_of left) ≡ inputs_with sources (inputs_of left)
kept_inputs left sources new_sources kept = rw (kept.bytes, kept.count) refl

-- ---- a refusal

-- no memory, at any place
pub memory_stops : (left : Option (List ℕ)) (faults : ℕ) (sources new_sources : Sources) →
    KeepsSources sources new_sources → RefusesPages left faults sources new_sources Memory
memory_stops left faults sources new_sources kept = record {
  stops = record {
    answered = outside-answers (verdict_on_first sources.count sources.bytes) Memory refl;
    may_return = inl refl;
    cause = λ is. cc;
    reads = kept_inputs left sources new_sources kept;
    no_write = λ is. cc;
  };
  cause = record {
    never_falls = kept.never_falls;
    no_source = λ need have is. cc;
    page_fault = λ is. cc;
    pages = λ why is. cc;
  };
}

read_stops : (left : Option (List ℕ)) (faults : ℕ) (sources new_sources : Sources) →
    KeepsSources sources new_sources → Rose sources.faults new_sources.faults →
    RefusesPages left faults sources new_sources PageFault
read_stops left faults sources new_sources kept rose = record {
  stops = record {
    answered = outside-answers (verdict_on_first sources.count sources.bytes) PageFault refl;
    may_return = inr (inr (inl refl));
    cause = λ is. cc;
    reads = kept_inputs left sources new_sources kept;
    no_write = λ is. cc;
  };
  cause = record {
    never_falls = kept.never_falls;
    no_source = λ need have is. cc;
    page_fault = λ is. rose;
    pages = λ why is. cc;
  };
}

-- one page source or more, by what contracts see of the first
abbrev first_of : Option (List ℕ) → ℕ → ℕ → Sources
first_of bytes more faults = record { bytes = bytes; count = suc more; faults = faults }

-- the bytes are no page file
bytes_stop : (left : Option (List ℕ)) (faults more old_faults new_faults : ℕ) (bytes new_bytes : Option (List ℕ))
    (fault : OpenFault) → KeepsSources (first_of bytes more old_faults) (first_of new_bytes more new_faults) →
    fault_of_open fault ≡ Pages fault → IsOfBytes fault → Opens all_pages bytes (Err fault) →
    RefusesPages left faults (first_of bytes more old_faults) (first_of new_bytes more new_faults) (Pages fault)
bytes_stop left faults more old_faults new_faults bytes new_bytes fault kept is_pages of_bytes opened = record {
  stops = record {
    answered = subst (λ (f : Fault). Answers IsOutside (verdict_on_first (suc more) bytes) (Err f)) is_pages
        (refused_bytes more bytes (Open fault) (as_verified bytes fault opened));
    may_return = inr (inr (inr (inl refl)));
    cause = λ is. cc;
    reads = kept_inputs left (first_of bytes more old_faults) (first_of new_bytes more new_faults) kept;
    no_write = λ is. cc;
  };
  cause = record {
    never_falls = kept.never_falls;
    no_source = λ need have is. cc;
    page_fault = λ is. cc;
    pages = λ why is. subst IsOfBytes (same_fault why is) of_bytes;
  };
}
  where
    same_fault : (why : OpenFault) → Pages fault ≡ Pages why → fault ≡ why
    same_fault why e = cc

-- a rule of the DAG is broken
broken_stop : (left : Option (List ℕ)) (faults more old_faults new_faults : ℕ) (bytes new_bytes : Option (List ℕ))
    (rule index : ℕ) → KeepsSources (first_of bytes more old_faults) (first_of new_bytes more new_faults) →
    Verifies bytes (Err (Broken rule index)) →
    RefusesPages left faults (first_of bytes more old_faults) (first_of new_bytes more new_faults) (Unsound rule index)
broken_stop left faults more old_faults new_faults bytes new_bytes rule index kept verifies = record {
  stops = record {
    answered = refused_bytes more bytes (Broken rule index) verifies;
    may_return = inr (inr (inr (inl refl)));
    cause = λ is. cc;
    reads = kept_inputs left (first_of bytes more old_faults) (first_of new_bytes more new_faults) kept;
    no_write = λ is. cc;
  };
  cause = record {
    never_falls = kept.never_falls;
    no_source = λ need have is. cc;
    page_fault = λ is. cc;
    pages = λ why is. cc;
  };
}

any_stop : (left : Option (List ℕ)) (faults more old_faults new_faults : ℕ) (bytes new_bytes : Option (List ℕ))
    (why : VerifyFault) → KeepsSources (first_of bytes more old_faults) (first_of new_bytes more new_faults) →
    VerifyRefuses bytes old_faults new_faults why → VerifyDigestsDiffer why →
    RefusesPages left faults (first_of bytes more old_faults) (first_of new_bytes more new_faults) (fault_of_verify why)
any_stop left faults more old new bytes new_bytes (Open (opens.Magic found)) kept refused differ =
    bytes_stop left faults more old new bytes new_bytes (opens.Magic found) kept refl differ refused
any_stop left faults more old new bytes new_bytes (Open (opens.Version found)) kept refused differ =
    bytes_stop left faults more old new bytes new_bytes (opens.Version found) kept refl differ refused
any_stop left faults more old new bytes new_bytes (Open (opens.Truncated at)) kept refused differ =
    bytes_stop left faults more old new bytes new_bytes (opens.Truncated at) kept refl differ refused
any_stop left faults more old new bytes new_bytes (Open (opens.DirectoryDigest stated found)) kept refused differ =
    bytes_stop left faults more old new bytes new_bytes (opens.DirectoryDigest stated found) kept refl differ refused
any_stop left faults more old new bytes new_bytes (Open (opens.DirectoryBad rule offset)) kept refused differ =
    bytes_stop left faults more old new bytes new_bytes (opens.DirectoryBad rule offset) kept refl differ refused
any_stop left faults more old new bytes new_bytes (Open (opens.Rule number index)) kept refused differ =
    bytes_stop left faults more old new bytes new_bytes (opens.Rule number index) kept refl differ refused
any_stop left faults more old new bytes new_bytes (Open (opens.PageDigest page stated found)) kept refused differ =
    bytes_stop left faults more old new bytes new_bytes (opens.PageDigest page stated found) kept refl differ refused
any_stop left faults more old new bytes new_bytes (Open (opens.PageBad page rule offset)) kept refused differ =
    bytes_stop left faults more old new bytes new_bytes (opens.PageBad page rule offset) kept refl differ refused
any_stop left faults more old new bytes new_bytes (Open opens.PageFault) kept refused differ =
    read_stops left faults (first_of bytes more old) (first_of new_bytes more new) kept refused
any_stop left faults more old new bytes new_bytes (Open opens.Memory) kept refused differ =
    memory_stops left faults (first_of bytes more old) (first_of new_bytes more new) kept
any_stop left faults more old new bytes new_bytes (Broken rule index) kept refused differ =
    broken_stop left faults more old new bytes new_bytes rule index kept refused

-- the first source of some was verified, and refused
pub refused_pages : {P T : Type 0} (holds : P → Option (List ℕ)) (count : P → ℕ) (items view : List P)
    (old new : P) (is_empty : Bool) (r : Result T Fault) (why : VerifyFault) → view ≡ items →
    is_empty ≡ (length view == 0) → is_empty ≡ false →
    old ≡ get_or items 0 old → IsErr r × IsErrAnd r (λ e. e ≡ fault_of_verify why) →
    VerifyRefuses (holds old) (count old) (count new) why → VerifyDigestsDiffer why → holds new ≡ holds old →
    count old ≤ count new → (left : Option (List ℕ)) (faults : ℕ) →
    IfErr r (RefusesPages left faults (sources_of holds count items) (sources_of holds count (set items 0 new)))
refused_pages holds count items view old new is_empty
    (Ok found) why all e not_empty at becomes refused differ kept le left
    faults =
    absurd becomes.1
refused_pages {P = P} holds count [] view old new is_empty
    (Err fault) why all e not_empty at becomes refused differ kept le left faults =
    absurd (differ_bits (sym not_empty ∙ e ∙ ap (λ (l : List P). length l == 0) all))
  where
    differ_bits : false ≡ true → ⊥
    differ_bits is = cc
refused_pages {P = P} holds count (first ∷ rest) view old new is_empty
    (Err fault) why all e not_empty at becomes refused differ
    kept le left faults =
    let same : old ≡ first = at in
    let stop = any_stop left faults (length rest) (count first) (count new) (holds first) (holds new) why
    (record {
      bytes = kept ∙ ap holds same;
      count = refl;
      never_falls =
          subst (λ (p : P). count p ≤ count new) same le;
    })
    (subst (λ (p : P). VerifyRefuses (holds p) (count p) (count new) why) same refused) differ in
    subst (λ (f : Fault). RefusesPages left faults (sources_of holds count (first ∷ rest))
    (sources_of holds count (new ∷ rest)) f) (sym becomes.1) stop

-- ---- a success

pub pages_made : (left : Option (List ℕ)) (faults : ℕ) (sources new_sources : Sources) (counts : Counts)
    (text : List ℕ) → AcceptsPages sources counts → KeepsSources sources new_sources → text ≡ sound_text counts →
    IsMadeWith Verify sources new_sources left left faults faults (Verified counts) text
pages_made left faults sources new_sources counts text accepts kept shown = record {
  does = record { counts = counts; sound = accepts.sound; told = refl; shown = shown };
  accepted = accepted_bytes sources.count sources.bytes counts accepts.given accepts.verified;
  input_read = kept_inputs left sources new_sources kept;
  reads = kept_inputs left sources new_sources kept;
  may_fail = inl refl;
  no_fault = refl;
  never_falls = kept.never_falls;
}

-- ---- a lack of sources

pub lacking : {P : Type 0} (items : List P) → length items < 1 → items ≡ []
lacking [] lack = refl
lacking (first ∷ rest) lack = absurd (omega (arith, lack))

pub lacking-refused : {P : Type 0} (items : List P) (r : Result Done Fault) → length items < 1 →
    r ≡ Err (NoSource 1 0) → r ≡ Err (NoSource 1 (length items))
lacking-refused [] r lack refused = refused
lacking-refused (first ∷ rest) r lack refused = absurd (omega (arith, lack))
