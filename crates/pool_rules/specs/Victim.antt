-- Which page is evicted for a page that is to be loaded.
use Rattle.std.specs.Prelude.{◌≡◌, ◌<◌, ◌≤◌, ◌⊎◌, IsTrue, ◌&&◌, ℕ, List, Bool, false, not, fold, filter, nat_lt}
use Rattle.std.specs.Prelude.{if◌then◌else◌, Option, None, Some, slice_index_or}
use Rattle.std.specs.List.{list_any}
use Rattle.journal.specs.declared.entries.Entry.{Entry}
use Rattle.journal.specs.declared.layouts.Layout.{Layout}
use Rattle.journal.specs.Layout.{page_numbers, is_upper}
use Rattle.pool_rules.specs.State.{State, is_resident, is_held, state_of}

-- whether some live frame pins the page
abbrev pub is_pinned : State → ℕ → Bool
is_pinned s page = list_any (λ f. slice_index_or f.pins page false) s.frames

-- whether some resident or loading page depends on this one
abbrev pub is_stood_on : Layout → State → ℕ → Bool
is_stood_on layout s page = list_any (λ q. is_held s q && is_upper layout page q) (page_numbers layout)

-- whether the candidate may be evicted for the page: it is resident and no root page, no live frame
-- pins it, and neither a resident or loading page nor the page itself depends on it
abbrev pub is_evictable : Layout → State → ℕ → ℕ → Bool
is_evictable layout s page candidate =
    is_resident s candidate
    && (not (nat_lt candidate layout.roots)
    && (not (is_pinned s candidate)
    && (not (is_stood_on layout s candidate) && not (is_upper layout candidate page))))

-- when the page was last used, as the number of entries up to and including that use; 0 if it never was
abbrev pub last_used_of : State → ℕ → ℕ
last_used_of s page = slice_index_or s.last_used page 0

-- of two candidates the one that was used less recently, of equals the second
abbrev pub less_recently_used : State → Option ℕ → ℕ → Option ℕ
less_recently_used s None candidate = Some candidate
less_recently_used s (Some best) candidate =
    if nat_lt (last_used_of s best) (last_used_of s candidate) then Some best else Some candidate

-- the victim: the least recently used of the evictable pages, of equals the greatest number
abbrev pub victim_for : Layout → State → ℕ → Option ℕ
victim_for layout s page = fold (less_recently_used s) None (filter (is_evictable layout s page) (page_numbers layout))

-- the victim for the page after a journal
abbrev pub victim_after : Layout → List Entry → ℕ → Option ℕ
victim_after layout journal page = victim_for layout (state_of layout journal) page

-- whether p was used less recently than q, or as recently and has no smaller number
abbrev pub IsLessRecent : State → ℕ → ℕ → Type 0
IsLessRecent s p q = (last_used_of s p < last_used_of s q) ⊎ ((last_used_of s p ≡ last_used_of s q) × (q ≤ p))

-- what a victim is: it is evictable, and the least recently used of all evictable pages
pub record IsVictim (layout : Layout) (s : State) (page victim : ℕ) : Type 0 where
  pub evictable : IsTrue (is_evictable layout s page victim)
  pub first : (q : ℕ) → q < layout.pages → IsTrue (is_evictable layout s page q) → IsLessRecent s victim q

-- no page is evictable
abbrev pub HasNoVictim : Layout → State → ℕ → Type 0
HasNoVictim layout s page = (q : ℕ) → q < layout.pages → IsTrue (is_evictable layout s page q) → ⊥
