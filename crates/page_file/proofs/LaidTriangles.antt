-- Laying out changes no triangle: each rule of the triangles holds as before, and the source mesh stays.
use Rattle.std.proofs.Common.{◌≡◌, ◌==◌, ℕ, Bool, true, false, not, ◌&&◌, length, Option, None, Some, cond, refl, ap}
use Rattle.std.proofs.Common.{◌∙◌, nat_lt}
use Rattle.std.specs.List.{list_all, range_with_len}
use Rattle.dag_core.specs.declared.groups.Group.{Group}
use Rattle.dag_core.specs.declared.heads.Heads.{Heads}
use Rattle.dag_core.specs.declared.dags.Dag.{Dag}
use Rattle.dag_core.specs.Members.{group_at, cluster_at, made_by}
use Rattle.dag_core.specs.Triangles.{source_of, tris_at, tris_in}
use Rattle.dag_core.specs.TriangleRules.{CanBeLaidOut, Sound, breaks_corners, breaks_source, breaks_sums, dag_breaks}
use Rattle.dag_core.specs.TriangleRules.{error_of, error_of_maker, have_same_sums, is_near_source}
use Rattle.geom_core.specs.TaggedLists.{tris_of}
use Rattle.page_file.specs.PagesRule.{laid_heads, laid_out}
use Rattle.page_file.proofs.LaidHeads.{laid_count, moved, same_count, same_first, same_terminal}
use Rattle.page_file.proofs.LaidRules.{laid_dag}

pub same_source : (dag : Dag) → source_of (laid_out dag) ≡ source_of dag
unfolding laid_heads
same_source dag = refl

-- rule 6 at a group, by what it says of the group
abbrev sums_at : Dag → ℕ → ℕ → Bool → ℕ → ℕ → Bool
sums_at dag g groups terminal first count =
    nat_lt g groups && (not terminal && not (have_same_sums (tris_of (tris_in dag (range_with_len first count)))
    (tris_of (tris_in dag (made_by dag.heads g)))))

same_sums : (dag : Dag) (g : ℕ) → breaks_sums (laid_out dag) g ≡ breaks_sums dag g
unfolding breaks_sums laid_heads
same_sums dag g =
    let laid = group_at (laid_heads dag.heads) g in
    ap (λ n. sums_at dag g n laid.terminal laid.first laid.count) (laid_count dag.heads)
    ∙ ap (λ b. sums_at dag g (length dag.heads.groups) b laid.first laid.count) (same_terminal dag.heads g)
    ∙ ap (λ n. sums_at dag g (length dag.heads.groups) (group_at dag.heads g).terminal n laid.count)
    (same_first dag.heads g)
    ∙ ap (λ n. sums_at dag g (length dag.heads.groups) (group_at dag.heads g).terminal (group_at dag.heads g).first n)
    (same_count dag.heads g)

same_sources : (dag : Dag) (k : ℕ) → breaks_source (laid_out dag) k ≡ breaks_source dag k
unfolding breaks_source laid_heads
same_sources dag k = refl

same_error : (heads : Heads) (made : Option ℕ) → error_of_maker (laid_heads heads) made ≡ error_of_maker heads made
same_error heads None = refl
same_error heads (Some m) = let known = moved heads m in ap (λ (group : Group). group.error) known.same

same_near : (dag : Dag) (most : ℕ) → is_near_source (laid_out dag) most ≡ is_near_source dag most
unfolding is_near_source laid_heads
same_near dag most = refl

same_corners : (dag : Dag) (c : ℕ) → breaks_corners (laid_out dag) c ≡ breaks_corners dag c
unfolding breaks_corners laid_heads
same_corners dag c =
    ap (λ test. nat_lt c (length dag.heads.clusters) && not (list_all test (tris_at dag c)))
    (same_near dag (error_of (laid_heads dag.heads) c))
    ∙ ap (λ most. nat_lt c (length dag.heads.clusters) && not (list_all (is_near_source dag most) (tris_at dag c)))
    (same_error dag.heads (cluster_at dag.heads c).made)

by_rule : (b c d : Bool) (x x' y y' z z' : Bool) → x ≡ x' → y ≡ y' → z ≡ z' →
    cond b x (cond c y (cond d z false)) ≡ cond b x' (cond c y' (cond d z' false))
by_rule true c d x x' y y' z z' first second third = first
by_rule false true d x x' y y' z z' first second third = second
by_rule false false true x x' y y' z z' first second third = third
by_rule false false false x x' y y' z z' first second third = refl

pub same_rules : (dag : Dag) (rule index : ℕ) → dag_breaks rule (laid_out dag) index ≡ dag_breaks rule dag index
same_rules dag rule index =
    by_rule (rule == 6) (rule == 7) (rule == 8) _ _ _ _ _ _ (same_sums dag index) (same_sources dag index)
    (same_corners dag index)

pub stays_sound : (dag : Dag) → CanBeLaidOut dag → ((rule index : ℕ) → dag_breaks rule dag index ≡ false) →
    Sound (laid_out dag)
stays_sound dag can kept =
    record { laid_out = laid_dag dag can; rules = λ rule index. same_rules dag rule index ∙ kept rule index }
