-- What the table of entries asks of a Settle, an Ask and a Narrow, part by part.
use Rattle.std.proofs.Common.{◌≡◌, ℕ, List, true, false, not, ◌&&◌}
use Rattle.std.specs.List.{list_all}
use Rattle.journal.specs.declared.entries.Entry.{Entry}
use Rattle.journal.specs.declared.entries.What.TheVariants.{Settle, Ask, Narrow}
use Rattle.journal.specs.declared.layouts.Layout.{Layout}
use Rattle.journal.specs.Layout.{ascends, all_below}
use Rattle.pool_rules.specs.Rules.{allows, owns, pins, is_page_list, all_resident, any_resident}
use Rattle.pool_rules.specs.State.{State}
use Rattle.pool_rules.proofs.Tests.{and-both, not-false}

-- pages that ascend, and are of the layout
pub record IsPageList (layout : Layout) (pages : List ℕ) : Type 0 where
  pub ascending : ascends pages ≡ true
  pub below : all_below layout.pages pages ≡ true

pub IsPageList-parts : (layout : Layout) (pages : List ℕ) → is_page_list layout pages ≡ true → IsPageList layout pages
IsPageList-parts layout pages h =
    let parts = and-both (ascends pages) (all_below layout.pages pages) h in
    record { ascending = parts.0; below = parts.1 }

pub record IsAllowedSettle (layout : Layout) (s : State) (by frame : ℕ) (pages missing : List ℕ) : Type 0 where
  pub owned : owns s by frame ≡ true
  pub page_list : IsPageList layout pages
  pub missing_list : IsPageList layout missing
  pub resident : all_resident s pages ≡ true
  pub absent : any_resident s missing ≡ false

pub settle-parts : (layout : Layout) (s : State) (journal : List Entry) (by frame : ℕ) (pages missing : List ℕ) →
    allows layout s journal by (Settle frame pages missing) ≡ true → IsAllowedSettle layout s by frame pages missing
settle-parts layout s journal by frame pages missing h =
    let last = all_resident s pages && not (any_resident s missing) in
    let a = and-both (owns s by frame) (is_page_list layout pages && (is_page_list layout missing && last)) h in
    let b = and-both (is_page_list layout pages) (is_page_list layout missing && last) a.1 in
    let c = and-both (is_page_list layout missing) last b.1 in
    let d = and-both (all_resident s pages) (not (any_resident s missing)) c.1 in
    record {
      owned = a.0;
      page_list = IsPageList-parts layout pages b.0;
      missing_list = IsPageList-parts layout missing c.0;
      resident = d.0;
      absent = not-false (any_resident s missing) d.1;
    }

pub record IsAllowedAsk (layout : Layout) (s : State) (by frame : ℕ) (pages : List ℕ) : Type 0 where
  pub owned : owns s by frame ≡ true
  pub page_list : IsPageList layout pages
  pub absent : any_resident s pages ≡ false

pub ask-parts : (layout : Layout) (s : State) (journal : List Entry) (by frame : ℕ) (pages : List ℕ) →
    allows layout s journal by (Ask frame pages) ≡ true → IsAllowedAsk layout s by frame pages
ask-parts layout s journal by frame pages h =
    let a = and-both (owns s by frame) (is_page_list layout pages && not (any_resident s pages)) h in
    let b = and-both (is_page_list layout pages) (not (any_resident s pages)) a.1 in
    record {
      owned = a.0;
      page_list = IsPageList-parts layout pages b.0;
      absent = not-false (any_resident s pages) b.1;
    }

-- the pages of a Narrow are pinned
pub narrow-pinned : (layout : Layout) (s : State) (journal : List Entry) (by frame : ℕ) (pages : List ℕ) →
    allows layout s journal by (Narrow frame pages) ≡ true → list_all (pins s frame) pages ≡ true
narrow-pinned layout s journal by frame pages h =
    let a = and-both (owns s by frame) (ascends pages && list_all (pins s frame) pages) h in
    (and-both (ascends pages) (list_all (pins s frame) pages) a.1).1
