use Rattle.std.proofs.Common.{◌≡◌, drop}
use Rattle.page_codec.specs.Lookups.{tris_with}
use Rattle.page_codec.proofs.pages.Page.cluster.Given as goal

-- the cluster is not among those before
abbrev pub invariant-loop-cluster : goal.invariant-loop-cluster
invariant-loop-cluster l =
    tris_with l.number (drop l.cluster-index l.cluster-items) ≡ tris_with l.number l.self.clusters
