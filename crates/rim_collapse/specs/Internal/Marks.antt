-- Points that are marked by their numbers.
use Rattle.std.specs.Prelude.{◌≡◌, ◌==◌, Bool, true, false, ℕ, List, length, All, slice_index_or}
use Rattle.std.specs.List.{list_any}
use Rattle.rim_collapse.specs.declared.faces.Face.{Face}
use Rattle.rim_collapse.specs.declared.number_sets.NumberSet.{NumberSet}
use Rattle.rim_collapse.specs.Internal.Faces.{has_number}

-- the point with this number is marked
abbrev pub is_marked : List Bool → ℕ → Bool
is_marked marks n = slice_index_or marks n false

-- the set of numbers below the limit has these marks, and lists those that are marked
pub record IsSetBelow (limit : ℕ) (set : NumberSet) : Type 0 where
  pub size : length set.marks.items ≡ limit
  pub listed : (k : ℕ) → is_marked set.marks.items k ≡ true → list_any (λ m. m == k) set.members.items ≡ true
  pub marked : All (λ m. is_marked set.marks.items m ≡ true) set.members.items

-- all corners of the face are marked
pub record HasMarkedCorners (marks : List Bool) (f : Face) : Type 0 where
  pub a : is_marked marks f.a ≡ true
  pub b : is_marked marks f.b ≡ true
  pub c : is_marked marks f.c ≡ true

-- all corners of the faces with corner a are marked
abbrev pub AreMarkedRound : ℕ → List Bool → List Face → Type 0
AreMarkedRound a marks faces = All (λ f. has_number a f ≡ true → HasMarkedCorners marks f) faces
