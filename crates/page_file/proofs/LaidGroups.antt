-- The groups on their pages, one more after the other.
use Rattle.std.proofs.Common.{◌≡◌, ℕ, ◌+◌, ◌-◌, true, false, List, [], ◌∷◌, ◌++◌, get_or, map, sym, zero-add}
use Rattle.std.specs.List.{range_with_len}
use Rattle.std.proofs.lemmas.List.FromFn.{map-range_with_len_more}
use Rattle.dag_core.specs.declared.groups.Group.{Group}
use Rattle.dag_core.specs.declared.heads.Heads.{Heads}
use Rattle.dag_core.specs.Members.{no_group}
use Rattle.page_file.specs.declared.fillings.Filling.{Filling}
use Rattle.page_file.specs.PagesRule.{is_terminal, root_filling, other_filling, page_of_group, laid_group}

pub page-root : (heads : Heads) (g page : ℕ) (placed : Filling) → is_terminal heads g ≡ true →
    placed ≡ root_filling heads (g + 1) → page ≡ placed.begun - 1 → page ≡ page_of_group heads g
unfolding page_of_group
page-root heads g page placed terminal is last = rw (terminal, ← is) last

pub page-other : (heads : Heads) (g page : ℕ) (placed : Filling) → is_terminal heads g ≡ false →
    placed ≡ other_filling heads (g + 1) → page ≡ placed.begun - 1 → page ≡ page_of_group heads g
unfolding page_of_group
page-other heads g page placed terminal is last = rw (terminal, ← is) last

pub laid-more : (heads : Heads) (groups items new : List Group) (g page : ℕ) → groups ≡ heads.groups →
    page ≡ page_of_group heads g →
    items ≡ map (laid_group heads) (range_with_len 0 g) →
    new ≡ items ++ record (get_or groups g no_group) { page = page } ∷ [] →
    new ≡ map (laid_group heads) (range_with_len 0 (g + 1))
laid-more heads groups items new g page same is before push =
    rw (push, same, is, before) (sym (map-range_with_len_more (laid_group heads) 0 g g (zero-add g)))
