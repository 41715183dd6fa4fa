-- One cluster more of a page is read.
use Rattle.std.proofs.Common.{◌≡◌, ℕ, ◌+◌, ◌*◌, ◌<◌, List, [], ◌∷◌, ◌++◌, length, get_or, drop, refl, sym, ap, ◌∙◌}
use Rattle.std.proofs.lemmas.List.{append_assoc, drop_more}
use Rattle.geom_core.specs.declared.limits.TheConstants.{TRIANGLE_BYTES}
use Rattle.dag_core.specs.declared.heads.Heads.{Heads}
use Rattle.dag_core.specs.Members.{cluster_at}
use Rattle.page_codec.specs.declared.pages.PageCluster.{PageCluster}
use Rattle.page_codec.specs.Reading.{clusters_of, triangles_of}

pub clusters_of-step : (heads : Heads) (clusters : List ℕ) (i c n : ℕ) (rest back : List ℕ)
    (items pushed whole : List PageCluster) (x : PageCluster)
    → i < length clusters → c ≡ get_or clusters i 0 → n ≡ (cluster_at heads c).tris
    → x ≡ record { number = c; tris = triangles_of n rest } → back ≡ drop (TRIANGLE_BYTES * n) rest →
    pushed ≡ items ++ (x ∷ [])
    → items ++ clusters_of heads (drop i clusters) rest ≡ whole
    → pushed ++ clusters_of heads (drop (i + 1) clusters) back ≡ whole
clusters_of-step heads clusters i c n rest back items pushed whole x below at size is behind push all =
    let next : clusters_of heads (drop i clusters) rest ≡ x ∷ clusters_of heads (drop (i + 1) clusters) back =
    ap (λ cs. clusters_of heads cs rest) (drop_more clusters i 0 below) ∙ rw (← at, ← size, behind, is) refl in
    ap (λ xs. xs ++ clusters_of heads (drop (i + 1) clusters) back) push
    ∙ append_assoc items (x ∷ []) (clusters_of heads (drop (i + 1) clusters) back)
    ∙ ap (λ xs. items ++ xs) (sym next) ∙ all
