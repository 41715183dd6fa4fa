-- Worked examples of the pages rule, computed.
use Rattle.std.proofs.Common.{◌≡◌, ℕ, Bool, true, false, ◌+◌, List, [], ◌∷◌, None, map, refl}
use Rattle.dag_core.specs.declared.groups.Group.{Group}
use Rattle.dag_core.specs.declared.heads.Heads.{Heads}
use Rattle.dag_core.specs.Members.{no_group}
use Rattle.dag_core.proofs.TwoSquares.{two_squares_heads}
use Rattle.page_file.specs.PagesRule.{place, fill, closed_at, group_size, root_filling, other_filling, root_count}
use Rattle.page_file.specs.PagesRule.{page_count, page_of_group, laid_heads}

-- ---- next fit: 1,024 and 614 triangles fill a page, and one more begins the next

abbrev after_sizes : List ℕ → ℕ
after_sizes sizes = (fill (closed_at 1) sizes).begun

full_page : fill (closed_at 1) (1024 ∷ 614 ∷ []) ≡ record { begun = 2; room = 0 }
unfolding place
full_page = refl

one_more : fill (closed_at 1) (1024 ∷ 614 ∷ 1 ∷ []) ≡ record { begun = 3; room = 1637 }
unfolding place
one_more = refl

-- a page of 1,639 triangles is not filled
one_too_many : fill (closed_at 1) (1024 ∷ 615 ∷ []) ≡ record { begun = 3; room = 1023 }
unfolding place
one_too_many = refl

-- ---- heads of groups with one cluster each, of these sizes; the mark says whether the group is terminal

record Sized : Type 0 where
  terminal : Bool
  size : ℕ

abbrev root : ℕ → Sized
root size = record { terminal = true; size = size }

abbrev other : ℕ → Sized
other size = record { terminal = false; size = size }

abbrev groups_from : ℕ → List Sized → List Group
groups_from first [] = []
groups_from first (group ∷ groups) =
    record no_group { terminal = group.terminal; first = first; count = 1 } ∷ groups_from (first + 1) groups

abbrev heads_of : List Sized → Heads
heads_of groups = record {
  groups = groups_from 0 groups;
  clusters = map (λ group. record { made = None; tris = group.size }) groups;
  pages = 1;
  roots = 1;
  sources = 1;
}

abbrev pages_of : Heads → List ℕ
pages_of heads = map (λ group. group.page) (laid_heads heads).groups

abbrev one_root : Heads
one_root = heads_of (root 2 ∷ other 1024 ∷ other 614 ∷ other 1 ∷ other 1024 ∷ other 600 ∷ [])

pages_of_one_root : pages_of one_root ≡ 0 ∷ 1 ∷ 1 ∷ 2 ∷ 2 ∷ 2 ∷ []
unfolding place group_size root_filling other_filling root_count page_of_group laid_heads
pages_of_one_root = refl

counts_of_one_root : (laid_heads one_root).pages ≡ 3
unfolding place group_size root_filling other_filling root_count page_count laid_heads
counts_of_one_root = refl

roots_of_one_root : (laid_heads one_root).roots ≡ 1
unfolding place group_size root_filling root_count laid_heads
roots_of_one_root = refl

-- a terminal group of a greater number is placed before the others, on a root page; the others begin a new page
-- though the root pages have room
abbrev late_root : Heads
late_root = heads_of (root 1000 ∷ other 5 ∷ root 700 ∷ other 6 ∷ [])

pages_of_late_root : pages_of late_root ≡ 0 ∷ 2 ∷ 1 ∷ 2 ∷ []
unfolding place group_size root_filling other_filling root_count page_of_group laid_heads
pages_of_late_root = refl

-- next fit, and not best fit: the group of 600 would have fitted on the page before
abbrev gap : Heads
gap = heads_of (root 2 ∷ other 1000 ∷ other 1000 ∷ other 600 ∷ other 600 ∷ [])

pages_of_gap : pages_of gap ≡ 0 ∷ 1 ∷ 2 ∷ 2 ∷ 3 ∷ []
unfolding place group_size root_filling other_filling root_count page_of_group laid_heads
pages_of_gap = refl

-- ---- the two squares have two pages

pages_of_two_squares : pages_of two_squares_heads ≡ 0 ∷ 1 ∷ 1 ∷ []
unfolding place group_size root_filling other_filling root_count page_of_group laid_heads
pages_of_two_squares = refl

count_of_two_squares : (laid_heads two_squares_heads).pages ≡ 2
unfolding place group_size root_filling other_filling root_count page_count laid_heads
count_of_two_squares = refl
