-- The place that a refused replay tells.
use Rattle.std.proofs.Common.{◌≡◌, ℕ, List, [], Some, ap, ◌∙◌, Result, Err}
use Rattle.journal.specs.declared.entries.Entry.{Entry}
use Rattle.journal.specs.declared.layouts.Layout.{Layout}
use Rattle.pool_rules.specs.Rules.{first_refused_after}
use Rattle.residency.specs.declared.faults.ReplayFault.{ReplayFault}
use Rattle.residency.specs.declared.faults.ReplayFault.TheVariants.{Illegal}

pub told-place : {A : Type 0} (layout : Layout) (entries : List Entry) (i place n : ℕ) → first_refused_after layout
    [] entries ≡ Some n → n ≡ i → ◌≡◌ {A = Result A ReplayFault} (Err (Illegal i)) (Err (Illegal place)) →
    first_refused_after layout [] entries ≡ Some place
told-place layout entries i place n refused is told =
    let same : i ≡ place = cc in refused ∙ ap Some (is ∙ same)
