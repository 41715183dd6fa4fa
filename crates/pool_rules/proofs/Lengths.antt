-- The lists by page have an item for each page, after any journal.
use Rattle.std.proofs.Common.{◌≡◌, ℕ, List, [], ◌∷◌, Bool, true, false, Option, Some, None, length, fold, refl, ◌∙◌}
use Rattle.std.proofs.Common.{length-set}
use Rattle.std.proofs.lemmas.List.{length-replicate}
use Rattle.std.proofs.lemmas.List.FromFn.{length-map-range_with_len}
use Rattle.std.specs.Prelude.{nat_lt}
use Rattle.journal.specs.declared.entries.Entry.{Entry}
use Rattle.journal.specs.declared.entries.What.{What}
use Rattle.journal.specs.declared.entries.What.TheVariants.{Pin, Settle, Ask, Narrow, Unpin, Take, Install, Fail, Spoil}
use Rattle.journal.specs.declared.entries.What.TheVariants.{Starve, Full, Stop}
use Rattle.journal.specs.declared.layouts.Layout.{Layout}
use Rattle.pool_rules.specs.State.{State, initial_state, resident_after, loading_after, state_after, state_of}

-- one item for each page
pub record HasItemAPage (layout : Layout) (s : State) : Type 0 where
  pub flag_a_page : length s.resident ≡ layout.pages
  pub maker_a_page : length s.loading ≡ layout.pages

length-resident_after : (what : What) (resident : List Bool) → length (resident_after what resident) ≡ length resident
length-resident_after (Pin frame) resident = refl
length-resident_after (Settle frame pages missing) resident = refl
length-resident_after (Ask frame pages) resident = refl
length-resident_after (Narrow frame pages) resident = refl
length-resident_after (Unpin frame) resident = refl
length-resident_after (Take frame page None) resident = refl
length-resident_after (Take frame page (Some victim)) resident = length-set resident victim false
length-resident_after (Install page digest) resident = length-set resident page true
length-resident_after (Fail page before after) resident = refl
length-resident_after (Spoil page why) resident = refl
length-resident_after (Starve page) resident = refl
length-resident_after (Full frame) resident = refl
length-resident_after Stop resident = refl

length-loading_after : (by : ℕ) (what : What) (loading : List (Option ℕ)) →
    length (loading_after by what loading) ≡ length loading
length-loading_after by (Pin frame) loading = refl
length-loading_after by (Settle frame pages missing) loading = refl
length-loading_after by (Ask frame pages) loading = refl
length-loading_after by (Narrow frame pages) loading = refl
length-loading_after by (Unpin frame) loading = refl
length-loading_after by (Take frame page victim) loading = length-set loading page (Some by)
length-loading_after by (Install page digest) loading = length-set loading page None
length-loading_after by (Fail page before after) loading = length-set loading page None
length-loading_after by (Spoil page why) loading = length-set loading page None
length-loading_after by (Starve page) loading = length-set loading page None
length-loading_after by (Full frame) loading = refl
length-loading_after by Stop loading = refl

pub HasItemAPage-opening : (layout : Layout) → HasItemAPage layout (initial_state layout)
HasItemAPage-opening layout = record {
  flag_a_page = length-map-range_with_len (λ p. nat_lt p layout.roots) 0 layout.pages;
  maker_a_page = length-replicate layout.pages None;
}

pub HasItemAPage-after : (layout : Layout) (s : State) (e : Entry) → HasItemAPage layout s →
    HasItemAPage layout (state_after s e)
HasItemAPage-after layout s e lists = record {
  flag_a_page = length-resident_after e.what s.resident ∙ lists.flag_a_page;
  maker_a_page = length-loading_after e.by e.what s.loading ∙ lists.maker_a_page;
}

through : (layout : Layout) (journal : List Entry) (s : State) → HasItemAPage layout s →
    HasItemAPage layout (fold state_after s journal)
through layout [] s lists = lists
through layout (e ∷ journal) s lists = through layout journal (state_after s e) (HasItemAPage-after layout s e lists)

pub HasItemAPage-state_of : (layout : Layout) (journal : List Entry) → HasItemAPage layout (state_of layout journal)
HasItemAPage-state_of layout journal = through layout journal (initial_state layout) (HasItemAPage-opening layout)
