-- Refusals: a rule that is kept refuses nothing.
use Rattle.std.proofs.Common.{◌≡◌, ℕ, Bool, false, Option, None, Some, Result, Err, IfErr, sym, subst}
use Rattle.std.proofs.lemmas.Bool.{both_ways}
use Rattle.dag_core.specs.declared.faults.CheckFault.{CheckFault}
use Rattle.dag_core.specs.declared.faults.CheckFault.TheVariants.{Memory}
use Rattle.dag_core.specs.Internal.FirstPlaces.{IsFirstPlace, refusal_of}

pub no_refusal : (rule : ℕ) (test : ℕ → Bool) (place : Option ℕ) (fault : CheckFault) → IsFirstPlace test place →
    ((index : ℕ) → test index ≡ false) → refusal_of rule place ≡ Err fault → ⊥
no_refusal rule test None fault first kept told = cc
no_refusal rule test (Some place) fault first kept told = both_ways (test place) (kept place) first.0

pub none_refused : (rule : ℕ) (test : ℕ → Bool) (place : Option ℕ) (result : Result (Unit {0}) CheckFault) →
    IsFirstPlace test place →
    ((index : ℕ) → test index ≡ false) → result ≡ refusal_of rule place → IfErr result (λ fault. fault ≡ Memory)
none_refused rule test None result first kept told =
    subst (λ (r : Result (Unit {0}) CheckFault). IfErr r (λ fault. fault ≡ Memory)) (sym told) tt
none_refused rule test (Some place) result first kept told = absurd (both_ways (test place) (kept place) first.0)
