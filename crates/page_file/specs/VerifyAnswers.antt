-- What verifying over a source answers, and why.
use Rattle.std.specs.Prelude.{◌≡◌, ℕ, List, Option, IfSome, Result, Err}
use Rattle.dag_core.specs.declared.counts.Counts.{Counts}
use Rattle.page_file.specs.declared.verify_faults.VerifyFault.{VerifyFault}
use Rattle.page_file.specs.declared.verify_faults.VerifyFault.TheVariants.{Open, Broken}
use Rattle.page_file.specs.Refusals.{DigestsDiffer, Refuses}
use Rattle.page_file.specs.Verifying.{all_pages, verifying}

-- the answer is that of the bytes that the source tells; of some bytes, if it tells none
pub record Verifies (known : Option (List ℕ)) (found : Result Counts VerifyFault) : Type 0 where
  pub bytes : List ℕ
  pub told : IfSome known (λ told. told ≡ bytes)
  pub answer : verifying bytes ≡ found

-- an opening of all pages refuses as any opening does; a broken rule is that of the bytes
abbrev pub VerifyRefuses : Option (List ℕ) → ℕ → ℕ → VerifyFault → Type 0
VerifyRefuses known faults new_faults (Open fault) = Refuses all_pages known faults new_faults fault
VerifyRefuses known faults new_faults (Broken rule index) = Verifies known (Err (Broken rule index))

-- a digest is refused only if the one that was found differs from the stated one
abbrev pub VerifyDigestsDiffer : VerifyFault → Type 0
VerifyDigestsDiffer (Open fault) = DigestsDiffer fault
VerifyDigestsDiffer (Broken rule index) = Unit {0}
