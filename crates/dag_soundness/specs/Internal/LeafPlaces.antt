-- Where the leaf triangles of each source are.
use Rattle.std.specs.Prelude.{◌≡◌, ◌==◌, ◌≤◌, ◌<◌, ℕ, List, [], ◌∷◌, length, filter, slice_index_or}
use Rattle.geom_core.specs.declared.triangles.Tagged.{Tagged}
use Rattle.dag_core.specs.declared.dags.Dag.{Dag}
use Rattle.dag_core.specs.Triangles.{leaf_tris_from, tris_at}
use Rattle.dag_soundness.specs.declared.leaf_places.LeafPlace.{LeafPlace}
use Rattle.dag_soundness.specs.declared.leaf_places.LeafPlace.TheVariants.{Missing, At, Repeated}

-- the one triangle of the list is that of this cluster, at this place in it
pub record IsAlone (dag : Dag) (found : List Tagged) (cluster triangle : ℕ) : Type 0 where
  pub cluster_range : cluster < length dag.tris
  pub triangle_range : triangle < length (tris_at dag cluster)
  pub alone : (none : Tagged) → found ≡ slice_index_or (tris_at dag cluster) triangle none ∷ []

-- the place says how many triangles the list has, and where it is if there is one
abbrev pub IsPlaceOf : Dag → List Tagged → LeafPlace → Type 0
IsPlaceOf dag found Missing = found ≡ []
IsPlaceOf dag found (At cluster triangle) = IsAlone dag found cluster triangle
IsPlaceOf dag found Repeated = 2 ≤ length found

-- the place once another triangle was found, here
abbrev pub place_with : LeafPlace → ℕ → ℕ → LeafPlace
place_with Missing cluster triangle = At cluster triangle
place_with (At other before) cluster triangle = Repeated
place_with Repeated cluster triangle = Repeated

-- those of some triangles that have a source
abbrev pub from_source : List Tagged → ℕ → List Tagged
from_source tris source = filter (λ t. t.source == source) tris

-- by source, the place of the triangle that was found for it
pub record ArePlacesFor (dag : Dag) (found : ℕ → List Tagged) (places : List LeafPlace) : Type 0 where
  pub count : length places ≡ dag.heads.sources
  pub each : (source : ℕ) (none : LeafPlace) → source < dag.heads.sources →
      IsPlaceOf dag (found source) (slice_index_or places source none)

-- by source, the place of its leaf triangle
abbrev pub ArePlacesIn : Dag → List LeafPlace → Type 0
ArePlacesIn dag places = ArePlacesFor dag (leaf_tris_from dag) places
