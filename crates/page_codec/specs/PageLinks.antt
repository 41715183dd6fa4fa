-- The groups on a page, one after the other, and an index of them.
use Rattle.std.specs.Prelude.{◌≡◌, ◌==◌, ℕ, ◌+◌, ◌<◌, List, [], ◌∷◌, length, drop, slice_index, if◌then◌else◌}
use Rattle.dag_core.specs.declared.groups.Group.{Group}
use Rattle.dag_core.specs.declared.heads.Heads.{Heads}
use Rattle.dag_core.specs.Members.{group_at}

-- the first of these groups on page p, where they are numbered from g on; the number after them if there is none
abbrev pub next_in : ℕ → ℕ → List Group → ℕ
next_in p g [] = g
next_in p g (group ∷ groups) = if group.page == p then g else next_in p (g + 1) groups

-- the first group on page p from group g on, or the number of groups
unfoldable pub next_on : List Group → ℕ → ℕ → ℕ
next_on groups p g = next_in p g (drop g groups)

-- the first group on each page, and for each group the next one on its page
pub record PageLinks : Type 0 where
  pub firsts : List ℕ
  pub nexts : List ℕ

-- the index of the pages of these heads
pub record IsIndexOf (heads : Heads) (links : PageLinks) : Type 0 where
  pub first_count : length links.firsts ≡ heads.pages
  pub next_count : length links.nexts ≡ length heads.groups
  pub firsts : (p : ℕ) → p < heads.pages → slice_index links.firsts p ≡ next_on heads.groups p 0
  pub nexts : (g : ℕ) → g < length heads.groups →
      slice_index links.nexts g ≡ next_on heads.groups (group_at heads g).page (g + 1)
