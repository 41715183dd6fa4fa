use Rattle.std.proofs.Common.{BTreeSet, List, Result, Ok, ℕ, ◌≡◌, ◌∙◌, sym}
use Rattle.std.proofs.lemmas.Iterator.Adapters.{YieldsList-from_vec, fact_from_collect}
use Rattle.geom_core.specs.declared.points.Pt.{Pt}
use Rattle.rim_collapse.specs.Legal.{is_among}
use Rattle.rim_collapse.proofs.StepLaws.{among-is}
use Rattle.dag_build.proofs.outcomes.set_of.Goals as goal

pub returns : goal.returns
returns c =
    let h = c.in_ok-from_iter.ensures.ran in
    let set = c.in_ok-from_iter.field-0 in
    let road = YieldsList-from_vec {s = h.0} c.args.points.items h.2.0 (h.2.1 ∙ c.args.points.ok.0) in
    let Q : List Pt → BTreeSet Pt → Type 0 = λ xs v. (p : Pt) → is_among v.keys p ≡ is_among xs p in
    let r : Result (BTreeSet Pt) ℕ = Ok set in
    record {
      points = fact_from_collect Q r (h.1, h.3, λ p. sym (among-is p set.keys) ∙ (h.4.0 p ∙ among-is p h.1)) road;
    }
