-- Shared edges in a flat list: how many there are, and where each is.
use Rattle.std.proofs.Common.{◌≡◌, ◌<◌, ◌≤◌, ◌+◌, ◌-◌, ℕ, zero, suc, List, [], length, get_or, refl, sym, ap, ◌∙◌}
use Rattle.std.proofs.Common.{arith}
use Rattle.std.specs.List.{range_with_len}
use Rattle.std.proofs.lemmas.List.{length-map, get_or-map, get_or_read}
use Rattle.partition.specs.Internal.SharedEdges.{AreStarts, shared_edge_at, shared_edges_of}

pub length-range : (a n : ℕ) → length (range_with_len a n) ≡ n
length-range a zero = refl
length-range a (suc n) = ap suc (length-range (a + 1) n)

pub get_or-range : (a n k d : ℕ) → k < n → get_or (range_with_len a n) k d ≡ a + k
get_or-range a zero k d h = absurd (omega arith)
get_or-range a (suc n) zero d h = omega arith
get_or-range a (suc n) (suc k) d h = get_or-range (a + 1) n k d (omega arith) ∙ omega arith

-- how many shared edges there are
pub length-shared_edges_of : (items starts : List ℕ) → length (shared_edges_of items starts) ≡ length starts - 1
length-shared_edges_of items starts =
    length-map (range_with_len 0 (length starts - 1)) (shared_edge_at items starts) ∙ length-range 0 (length starts - 1)

-- one of them
pub get_or-shared_edges_of : (items starts : List ℕ) (r : ℕ) → r + 1 < length starts →
    get_or (shared_edges_of items starts) r [] ≡ shared_edge_at items starts r
get_or-shared_edges_of items starts r h =
    let within : r < length starts - 1 = omega arith in
    get_or-map (shared_edge_at items starts) (range_with_len 0 (length starts - 1)) r 0 []
    (omega (arith, length-range 0 (length starts - 1)))
    ∙ ap (shared_edge_at items starts) (get_or-range 0 (length starts - 1) r 0 within ∙ omega arith)

-- a shared edge lies within the items
pub record IsSharedEdgeAt (items starts : List ℕ) (shared : List (List ℕ)) (r : ℕ) : Type 0 where
  pub inside : r + 1 < length starts
  pub ordered : get_or starts r 0 ≤ get_or starts (r + 1) 0
  pub within : get_or starts (r + 1) 0 ≤ length items
  pub is : get_or shared r [] ≡ shared_edge_at items starts r

pub edge_is_at : (items starts : List ℕ) (shared : List (List ℕ)) (r : ℕ) → AreStarts items starts →
    shared_edges_of items starts ≡ shared →
    r < length shared → IsSharedEdgeAt items starts shared r
edge_is_at items starts shared r are e h =
    let inside : r + 1 < length starts = omega (arith, length-shared_edges_of items starts, ap length e) in
    record {
      inside = inside;
      ordered = are.ascend r (r + 1) 0 (omega arith) inside;
      within = are.within (r + 1) 0 inside;
      is = ap (λ shared. get_or shared r []) (sym e) ∙ get_or-shared_edges_of items starts r inside;
    }

-- what an index gives, at the default 0
pub read_is : (xs : List ℕ) (i x y : ℕ) → i < length xs → x ≡ get_or xs i x → get_or xs i 0 ≡ y → x ≡ y
read_is xs i x y h read e = get_or_read xs i x h read 0 ∙ e
