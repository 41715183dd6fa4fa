-- The pages of a DAG's file as one text.
use Rattle.std.specs.Prelude.{ℕ, List}
use Rattle.std.specs.List.{flat_map, range_with_len}
use Rattle.dag_core.specs.declared.dags.Dag.{Dag}
use Rattle.page_codec.specs.Spelling.{page_bytes, page_in}

-- the first n pages in order
abbrev pub pages_bytes : Dag → ℕ → List ℕ
pages_bytes dag n = flat_map (λ p. page_bytes (page_in dag p)) (range_with_len 0 n)
