-- What an opening over a source answers, and why.
use Rattle.std.specs.Prelude.{◌≡◌, ◌≢◌, ℕ, List, Option, IfSome, Result, Err}
use Rattle.dag_core.specs.declared.counts.Counts.{Counts}
use Rattle.span_io.specs.Faults.{Rose}
use Rattle.page_file.specs.declared.open_faults.OpenFault.{OpenFault}
use Rattle.page_file.specs.declared.open_faults.OpenFault.TheVariants.{DirectoryDigest, PageDigest, PageFault, Memory}
use Rattle.page_file.specs.declared.opened.Opened.{Opened}
use Rattle.page_file.specs.Opening.{opening}

-- the answer is the opening of the bytes that the source tells; of some bytes, if it tells none
pub record Opens (which : Counts → ℕ) (known : Option (List ℕ)) (found : Result Opened OpenFault) : Type 0 where
  pub bytes : List ℕ
  pub told : IfSome known (λ told. told ≡ bytes)
  pub answer : opening which bytes ≡ found

-- `PageFault` only if a fault was counted, `Memory` at any time; any other refusal is that of the bytes
abbrev pub Refuses : (Counts → ℕ) → Option (List ℕ) → ℕ → ℕ → OpenFault → Type 0
Refuses which told faults new_faults PageFault = Rose faults new_faults
Refuses which told faults new_faults Memory = Unit {0}
Refuses which told faults new_faults fault = Opens which told (Err fault)

-- a digest is refused only if the one that was found differs from the stated one
abbrev pub DigestsDiffer : OpenFault → Type 0
DigestsDiffer (DirectoryDigest stated found) = stated ≢ found
DigestsDiffer (PageDigest page stated found) = stated ≢ found
DigestsDiffer fault = Unit {0}
