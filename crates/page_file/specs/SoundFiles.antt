-- Which bytes are the file of a sound DAG, and what a source that holds such bytes is known to hold.
use Rattle.std.specs.Prelude.{◌≡◌, ℕ, List, ◌++◌, Option, IfSome}
use Rattle.dag_core.specs.declared.counts.Counts.{Counts}
use Rattle.dag_core.specs.declared.dags.Dag.{Dag}
use Rattle.dag_core.specs.Ranges.{counts_of}
use Rattle.dag_core.specs.TriangleRules.{Sound}
use Rattle.page_codec.specs.Spelling.{file_bytes}

-- the bytes of a sound DAG with these counts, and perhaps others after them
pub record IsSoundFile (counts : Counts) (bytes : List ℕ) : Type 0 where
  pub dag : Dag
  pub sound : Sound dag
  pub counted : counts_of dag.heads ≡ counts
  pub more : List ℕ
  pub spelt : bytes ≡ file_bytes dag ++ more

-- the bytes that the source tells are such ones; some bytes, if it tells none
pub record HoldsSound (known : Option (List ℕ)) (counts : Counts) : Type 0 where
  pub bytes : List ℕ
  pub told : IfSome known (λ told. told ≡ bytes)
  pub file : IsSoundFile counts bytes
