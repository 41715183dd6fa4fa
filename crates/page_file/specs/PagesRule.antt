-- The pages rule: which page has each group, how many pages there are, and how many of them are root pages.
use Rattle.std.specs.Prelude.{Bool, not, nat_le, ℕ, ◌+◌, ◌-◌, List, [], ◌∷◌, length, map, filter, sum_by, if◌then◌else◌}
use Rattle.std.specs.List.{range_with_len}
use Rattle.geom_core.specs.declared.limits.TheConstants.{PAGE_TRIANGLES}
use Rattle.dag_core.specs.declared.groups.Group.{Group}
use Rattle.dag_core.specs.declared.heads.Heads.{Heads}
use Rattle.dag_core.specs.declared.dags.Dag.{Dag}
use Rattle.dag_core.specs.Members.{cluster_at, group_at, members}
use Rattle.page_file.specs.declared.fillings.Filling.{Filling}

-- ---- next fit

-- a group of this size is placed: on the last page begun if it fits there, else on a new page
unfoldable pub place : Filling → ℕ → Filling
place filling size =
    if nat_le size filling.room then record { begun = filling.begun; room = filling.room - size }
    else record { begun = filling.begun + 1; room = PAGE_TRIANGLES - size }

-- groups of these sizes are placed, in order
abbrev pub fill : Filling → List ℕ → Filling
fill filling [] = filling
fill filling (size ∷ sizes) = fill (place filling size) sizes

-- this many pages are begun, and no group is placed on the last of them: the next group begins a page
abbrev pub closed_at : ℕ → Filling
closed_at begun = record { begun = begun; room = 0 }

-- ---- the two parts

-- the number of a group's triangles
unfoldable pub group_size : Heads → ℕ → ℕ
group_size heads g = sum_by (λ c. (cluster_at heads c).tris) (members heads g)

abbrev pub is_terminal : Heads → ℕ → Bool
is_terminal heads g = (group_at heads g).terminal

-- the sizes of those of the first n groups that pass the test, ascending by number
abbrev pub sizes_of : (ℕ → Bool) → Heads → ℕ → List ℕ
sizes_of test heads n = map (group_size heads) (filter test (range_with_len 0 n))

-- the first part, once those of the first n groups that are terminal are placed: it begins with page 0
unfoldable pub root_filling : Heads → ℕ → Filling
root_filling heads n = fill (closed_at 0) (sizes_of (is_terminal heads) heads n)

-- the root pages are the pages of the first part
unfoldable pub root_count : Heads → ℕ
root_count heads = (root_filling heads (length heads.groups)).begun

-- the second part, once those of the first n groups that are not terminal are placed: it begins with a new page
unfoldable pub other_filling : Heads → ℕ → Filling
other_filling heads n = fill (closed_at (root_count heads)) (sizes_of (λ g. not (is_terminal heads g)) heads n)

-- the pages of both parts
unfoldable pub page_count : Heads → ℕ
page_count heads = (other_filling heads (length heads.groups)).begun

-- ---- the laid-out DAG

-- the part that has a group, once the group is placed
abbrev pub filling_with : Heads → ℕ → Filling
filling_with heads g = if is_terminal heads g then root_filling heads (g + 1) else other_filling heads (g + 1)

-- the page of a group: the last one begun once it is placed
unfoldable pub page_of_group : Heads → ℕ → ℕ
page_of_group heads g = (filling_with heads g).begun - 1

-- a group on its page; nothing else of it changes
abbrev pub laid_group : Heads → ℕ → Group
laid_group heads g = record (group_at heads g) { page = page_of_group heads g }

-- the heads with each group on its page, and the numbers of pages
unfoldable pub laid_heads : Heads → Heads
laid_heads heads = record {
  groups = map (laid_group heads) (range_with_len 0 (length heads.groups));
  clusters = heads.clusters;
  pages = page_count heads;
  roots = root_count heads;
  sources = heads.sources;
}

-- the DAG with its groups on pages
abbrev pub laid_out : Dag → Dag
laid_out dag = record { heads = laid_heads dag.heads; tris = dag.tris }
