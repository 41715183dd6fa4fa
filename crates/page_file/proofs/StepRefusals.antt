-- Refusals of the steps, by their kind: a failed read and want of memory are handed on, and any other has its reason.
use Rattle.std.proofs.Common.{◌≡◌, ℕ, ◌+◌, ◌≤◌, List, ◌++◌, length, drop, Option, IfSome, Result, Err, subst, arith}
use Rattle.std.proofs.Common.{length-append}
use Rattle.geom_core.specs.declared.limits.TheConstants.{PAGE_BYTES}
use Rattle.dag_core.specs.declared.counts.Counts.{Counts}
use Rattle.page_file.specs.declared.open_faults.OpenFault.{OpenFault}
use Rattle.page_file.specs.declared.open_faults.OpenFault.TheVariants.{Magic, Version, Truncated, DirectoryDigest}
use Rattle.page_file.specs.declared.open_faults.OpenFault.TheVariants.{DirectoryBad, Rule, PageDigest, PageBad}
use Rattle.page_file.specs.declared.open_faults.OpenFault.TheVariants.{PageFault, Memory}
use Rattle.page_file.specs.Internal.Seen.{StandsAt, EndsWithin, ReadRefused, JudgedTo, PageRefused, Answers}
use Rattle.page_file.specs.Internal.Seen.{StepRefused}
use Rattle.page_file.specs.Refusals.{Opens, Refuses}
use Rattle.page_file.proofs.Texts.{if_both, rest-join}

-- a read of what follows was refused
pub read-more : (known : Option (List ℕ)) (at more len : ℕ) (text : List ℕ) (faults new_faults : ℕ)
    (fault : OpenFault) → IfSome known (StandsAt at text) → length text + more ≤ len
    → ReadRefused known (at + length text) more faults new_faults fault →
    ReadRefused known at len faults new_faults fault
read-more known at more len text faults new_faults (Magic found) told room refused = refused
read-more known at more len text faults new_faults (Version found) told room refused = refused
read-more known at more len text faults new_faults (Truncated count) told room refused = record {
  rest = text ++ refused.rest;
  fewer = omega (arith, length-append text refused.rest, refused.fewer, room);
  count_is = omega (arith, length-append text refused.rest, refused.count_is);
  bytes =
      if_both known (StandsAt at text) (λ bytes. drop (at + length text) bytes ≡ refused.rest)
      (λ bytes. drop at bytes ≡ text ++ refused.rest)
      (λ bytes stands is. rest-join at text refused.rest bytes stands is) told refused.bytes;
}
read-more known at more len text faults new_faults (DirectoryDigest stated found) told room refused = refused
read-more known at more len text faults new_faults (DirectoryBad rule offset) told room refused = refused
read-more known at more len text faults new_faults (Rule number index) told room refused = refused
read-more known at more len text faults new_faults (PageDigest page stated found) told room refused = refused
read-more known at more len text faults new_faults (PageBad page rule offset) told room refused = refused
read-more known at more len text faults new_faults PageFault told room refused = refused
read-more known at more len text faults new_faults Memory told room refused = refused

pub read-same : (known other : Option (List ℕ)) (at place len size faults before new_faults : ℕ) (fault : OpenFault) →
    other ≡ known → place ≡ at → size ≡ len → before ≡ faults
    → ReadRefused other place size before new_faults fault → ReadRefused known at len faults new_faults fault
read-same known other at place len size faults before new_faults fault same_known same_place same_size same_faults
    refused =
    subst (λ (known : Option (List ℕ)). ReadRefused known at len faults new_faults fault) same_known
    (subst (λ (at : ℕ). ReadRefused other at len faults new_faults fault) same_place
    (subst (λ (len : ℕ). ReadRefused other place len faults new_faults fault) same_size
    (subst (λ (faults : ℕ). ReadRefused other place size faults new_faults fault) same_faults refused)))

-- a read of a step was refused
pub step-read : {X : Type 0} (known : Option (List ℕ)) (place at len : ℕ) (step : List ℕ → Result X OpenFault)
    (faults new_faults : ℕ) (fault : OpenFault)
    → ((count : ℕ) → EndsWithin known at len count → Answers known place step (Err (Truncated count)))
    → ReadRefused known at len faults new_faults fault → StepRefused known place step faults new_faults fault
step-read known place at len step faults new_faults (Magic found) short refused = absurd refused
step-read known place at len step faults new_faults (Version found) short refused = absurd refused
step-read known place at len step faults new_faults (Truncated count) short refused = short count refused
step-read known place at len step faults new_faults (DirectoryDigest stated found) short refused = absurd refused
step-read known place at len step faults new_faults (DirectoryBad rule offset) short refused = absurd refused
step-read known place at len step faults new_faults (Rule number index) short refused = absurd refused
step-read known place at len step faults new_faults (PageDigest page stated found) short refused = absurd refused
step-read known place at len step faults new_faults (PageBad page rule offset) short refused = absurd refused
step-read known place at len step faults new_faults PageFault short refused = refused
step-read known place at len step faults new_faults Memory short refused = refused

-- what a step read was refused
pub step-judged : {X Y : Type 0} (known : Option (List ℕ)) (place : ℕ) (step : List ℕ → Result X OpenFault)
    (faults new_faults : ℕ) (judged : Result Y OpenFault) (fault : OpenFault)
    → (judged ≡ Err fault → Answers known place step (Err fault)) → JudgedTo judged fault →
    StepRefused known place step faults new_faults fault
step-judged known place step faults new_faults judged (Magic found) answer refused = answer refused
step-judged known place step faults new_faults judged (Version found) answer refused = answer refused
step-judged known place step faults new_faults judged (Truncated count) answer refused = absurd refused
step-judged known place step faults new_faults judged (DirectoryDigest stated found) answer refused = answer refused
step-judged known place step faults new_faults judged (DirectoryBad rule offset) answer refused = answer refused
step-judged known place step faults new_faults judged (Rule number index) answer refused = answer refused
step-judged known place step faults new_faults judged (PageDigest page stated found) answer refused = answer refused
step-judged known place step faults new_faults judged (PageBad page rule offset) answer refused = answer refused
step-judged known place step faults new_faults judged PageFault answer refused = absurd refused
step-judged known place step faults new_faults judged Memory answer refused = refused

pub step-same : {X : Type 0} (known other : Option (List ℕ)) (place : ℕ) (step : List ℕ → Result X OpenFault)
    (faults before new_faults : ℕ) (fault : OpenFault) → other ≡ known → before ≡ faults
    → StepRefused other place step before new_faults fault → StepRefused known place step faults new_faults fault
step-same known other place step faults before new_faults fault same_known same_faults refused =
    subst (λ (known : Option (List ℕ)). StepRefused known place step faults new_faults fault) same_known
    (subst (λ (faults : ℕ). StepRefused other place step faults new_faults fault) same_faults refused)

-- a page was refused
pub step-page : {X Y : Type 0} (known : Option (List ℕ)) (place at : ℕ) (step : List ℕ → Result X OpenFault)
    (judge : List ℕ → Result Y OpenFault) (text : List ℕ) (faults new_faults : ℕ) (fault : OpenFault)
    → ((count : ℕ) → EndsWithin known at PAGE_BYTES count → Answers known place step (Err (Truncated count)))
    → (IfSome known (StandsAt at text) → judge text ≡ Err fault → Answers known place step (Err fault))
    → PageRefused known at judge text faults new_faults fault → StepRefused known place step faults new_faults fault
step-page known place at step judge text faults new_faults (Magic found) short answer refused =
    answer refused.0 refused.1
step-page known place at step judge text faults new_faults (Version found) short answer refused =
    answer refused.0 refused.1
step-page known place at step judge text faults new_faults (Truncated count) short answer refused = short count refused
step-page known place at step judge text faults new_faults (DirectoryDigest stated found) short answer refused =
    answer refused.0 refused.1
step-page known place at step judge text faults new_faults (DirectoryBad rule offset) short answer refused =
    answer refused.0 refused.1
step-page known place at step judge text faults new_faults (Rule number index) short answer refused =
    answer refused.0 refused.1
step-page known place at step judge text faults new_faults (PageDigest page stated found) short answer refused =
    answer refused.0 refused.1
step-page known place at step judge text faults new_faults (PageBad page rule offset) short answer refused =
    answer refused.0 refused.1
step-page known place at step judge text faults new_faults PageFault short answer refused = refused
step-page known place at step judge text faults new_faults Memory short answer refused = refused

-- a step of the opening was refused
pub step-opening : {X : Type 0} (known : Option (List ℕ)) (place : ℕ) (step : List ℕ → Result X OpenFault)
    (which : Counts → ℕ) (faults new_faults : ℕ) (fault : OpenFault)
    → (Answers known place step (Err fault) → Opens which known (Err fault)) →
    StepRefused known place step faults new_faults fault → Refuses which known faults new_faults fault
step-opening known place step which faults new_faults (Magic found) answer refused = answer refused
step-opening known place step which faults new_faults (Version found) answer refused = answer refused
step-opening known place step which faults new_faults (Truncated count) answer refused = answer refused
step-opening known place step which faults new_faults (DirectoryDigest stated found) answer refused = answer refused
step-opening known place step which faults new_faults (DirectoryBad rule offset) answer refused = answer refused
step-opening known place step which faults new_faults (Rule number index) answer refused = answer refused
step-opening known place step which faults new_faults (PageDigest page stated found) answer refused = answer refused
step-opening known place step which faults new_faults (PageBad page rule offset) answer refused = answer refused
step-opening known place step which faults new_faults PageFault answer refused = refused
step-opening known place step which faults new_faults Memory answer refused = refused
