-- The corners of faces, linked for each point.
use Rattle.std.specs.Prelude.{◌≡◌, ◌<◌, ◌+◌, ◌/◌, ◌==◌, ℕ, List, [], ◌∷◌, length, map, flat_map, sum_by, slice_index_or}
use Rattle.std.specs.Prelude.{if◌then◌else◌}
use Prim.Native.Nat.{zero, suc}
use Rattle.rim_collapse.specs.declared.chains.Chains.{Chains}
use Rattle.rim_collapse.specs.declared.faces.Face.{Face}
use Rattle.rim_collapse.specs.Internal.Faces.{left}

-- what a number past the end of the faces stands for
abbrev pub no_face : Face
no_face = record { a = 0; b = 0; c = 0; was = 0 }

-- the face that has the corner with this index
abbrev pub face_at : List Face → ℕ → Face
face_at faces c = slice_index_or faces (c / 3) no_face

-- the faces that are left and have one of the corners
abbrev pub faces_at : List Face → List ℕ → List Face
faces_at faces corners = left (map (face_at faces) corners)

-- the numbers of the face's corners
abbrev pub numbers_at : Face → List ℕ
numbers_at f = f.a ∷ f.b ∷ f.c ∷ []

-- the numbers of the faces' corners
abbrev pub numbers_in : List Face → List ℕ
numbers_in faces = flat_map numbers_at faces

-- n corners from c on, each linked to the next one
abbrev pub walk : List ℕ → ℕ → ℕ → List ℕ
walk nexts zero c = []
walk nexts (suc n) c = c ∷ walk nexts n (slice_index_or nexts c 0)

-- the corners on the chain of point p
abbrev pub chain : Chains → ℕ → List ℕ
chain chains p =
    walk chains.nexts.items (slice_index_or chains.counts.items p 0) (slice_index_or chains.firsts.items p 0)

-- the sum of f over the indices of p, where the first of the numbers has the index i
abbrev pub sum_at : (ℕ → ℕ) → ℕ → ℕ → List ℕ → ℕ
sum_at f p i [] = 0
sum_at f p i (n ∷ numbers) = (if n == p then f i else 0) + sum_at f p (i + 1) numbers

-- each corner of a point is once on the point's chain, and no other is on it: all sums over both are equal
abbrev pub AreLinked : List ℕ → Chains → Type 0
AreLinked numbers chains =
    (p : ℕ) → p < length chains.firsts.items → (f : ℕ → ℕ) → sum_by f (chain chains p) ≡ sum_at f p 0 numbers

-- the corners of these faces are linked, for so many points
pub record AreChained (points : ℕ) (faces : List Face) (chains : Chains) : Type 0 where
  pub firsts : length chains.firsts.items ≡ points
  pub counts : length chains.counts.items ≡ points
  pub nexts : length chains.nexts.items ≡ length (numbers_in faces)
  pub linked : AreLinked (numbers_in faces) chains
