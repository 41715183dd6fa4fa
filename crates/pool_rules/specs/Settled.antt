-- Frames that have settled: the pages for which a frame waits, and those for which it waits in vain.
use Rattle.std.specs.Prelude.{◌≡◌, ◌==◌, ◌-◌, ◌&&◌, ◌||◌, ℕ, zero, suc, Bool, false, not, IsTrue, List, [], ◌∷◌}
use Rattle.std.specs.Prelude.{if◌then◌else◌, Option, None, Some, is_some, take, drop}
use Rattle.std.specs.List.{list_all, list_any}
use Rattle.std.specs.Option.{option_map_or, option_or}
use Rattle.journal.specs.declared.entries.Entry.{Entry}
use Rattle.journal.specs.declared.entries.What.{What}
use Rattle.journal.specs.declared.entries.What.TheVariants.{Settle}
use Rattle.journal.specs.declared.layouts.Layout.{Layout}
use Rattle.journal.specs.Layout.{InBounds, uppers_of}
use Rattle.pool_rules.specs.Events.{changes_frame, has_failed, has_full}
use Rattle.pool_rules.specs.Numbers.{is_among}
use Rattle.pool_rules.specs.Rules.{IsLegal}

-- the last Settle of a frame: its pages, those that it misses, and the entries after it
pub record LastSettle : Type 0 where
  pub pages : List ℕ
  pub missing : List ℕ
  pub after : List Entry

-- the event as a Settle of the frame before these entries; none if it is no Settle of the frame
abbrev pub settle_before : ℕ → What → List Entry → Option LastSettle
settle_before f (Settle frame pages missing) after =
    if frame == f then Some (record { pages = pages; missing = missing; after = after }) else None
settle_before f _ after = None

abbrev pub last_settle : ℕ → List Entry → Option LastSettle
last_settle frame [] = None
last_settle frame (entry ∷ entries) = option_or (last_settle frame entries) (settle_before frame entry.what entries)

-- whether none of the entries is a Pin, Settle, Ask, Narrow or Unpin of the frame
abbrev pub is_left_alone : ℕ → List Entry → Bool
is_left_alone frame entries = not (list_any (λ e. changes_frame e.what frame) entries)

-- a frame that settled in a legal journal, and is left alone since
pub record HasSettled (layout : Layout) (journal : List Entry) (frame : ℕ) (settle : LastSettle) : Type 0 where
  pub in_bounds : InBounds layout
  pub legal : IsLegal layout journal
  pub last : last_settle frame journal ≡ Some settle
  pub left_alone : IsTrue (is_left_alone frame settle.after)

-- whether each upper of a missing page is one of the pages, or missing too
abbrev pub lists_uppers : Layout → List ℕ → List ℕ → Bool
lists_uppers layout pages missing =
    list_all (λ page.
    list_all (λ upper. is_among pages upper || is_among missing upper) (uppers_of layout page)) missing

-- whether q is the page, or is reached from it by at most so many steps from a page to one of its uppers
abbrev pub needs_within : Layout → ℕ → ℕ → ℕ → Bool
needs_within layout zero page q = page == q
needs_within layout (suc steps) page q =
    (page == q) || list_any (λ upper. needs_within layout steps upper q) (uppers_of layout page)

-- whether q is the page, or a page that it stands on, directly or through others. Each step from a page to an
-- upper goes to a smaller number, so there are no more steps than the page's number
abbrev pub needs : Layout → ℕ → ℕ → Bool
needs layout page q = needs_within layout page page q

-- whether, in these entries, a load failed of a missing page that this page needs
abbrev pub has_failed_need : Layout → List ℕ → List Entry → ℕ → Bool
has_failed_need layout missing entries page = list_any (λ q. needs layout page q && has_failed q entries) missing

-- whether, in the entries after the Settle, the frame found the pool full, or a load failed for each of
-- these pages
abbrev pub is_answered : Layout → ℕ → List ℕ → LastSettle → Bool
is_answered layout frame missing settle =
    has_full frame settle.after || list_all (has_failed_need layout settle.missing settle.after) missing

-- whether a frame's record of the pages that it misses is settled: `at` is the number of entries up to and
-- including the Pin of the record, the last Settle of the frame is before that Pin, and it is answered by
-- the entries between them
abbrev pub is_settled : Layout → List Entry → ℕ → ℕ → List ℕ → Bool
is_settled layout journal frame at missing =
    not (is_some (last_settle frame (drop (at - 1) journal)))
    && option_map_or (is_answered layout frame missing) (last_settle frame (take (at - 1) journal)) false

abbrev pub IsSettled : Layout → List Entry → ℕ → ℕ → List ℕ → Type 0
IsSettled layout journal frame at missing = IsTrue (is_settled layout journal frame at missing)
