use Rattle.std.proofs.Common.{rules, ◌≡◌, ◌∷◌, [], true, false, map, ap, sym, subst, ◌∙◌}
use Rattle.std.proofs.lemmas.List.{map-append}
use Rattle.dag_build.proofs.LeadLaws.{BuiltTo, are_none, are_some, built-done, built-more, built-none, built-smaller}
use Rattle.dag_build.proofs.building.build_levels.Goals as goal

pub levels-init : goal.levels-init
levels-init c =
    subst (λ done. BuiltTo c.args.leaves.items done c.args.leaves.items) (sym (ap (map (λ level. level.items))
    c.new-levels.ensures.items))
    (built-none c.args.leaves.items c.requires.clusters)

pub levels-smaller : goal.levels-smaller
levels-smaller c =
    let off : c.is_empty.result ≡ false = search rules in
    let some = are_some c.levels.clusters.items _ c.is_empty.result c.is_empty.ensures off c.levels.clusters.ok.0 in
    let h = c.in_ok-level.ensures.level in
    built-smaller c.args.leaves.items (map (λ level. level.items) c.levels.levels.items) c.levels.clusters.items
    c.in_ok-level.level.made.items h.0 c.levels.invariant c.requires.triangle_limit some h.1 h.3

pub levels-preserved : goal.levels-preserved
levels-preserved c =
    let off : c.is_empty.result ≡ false = search rules in
    let some = are_some c.levels.clusters.items _ c.is_empty.result c.is_empty.ensures off c.levels.clusters.ok.0 in
    let h = c.in_ok-level.ensures.level in
    let grown = ap (map (λ level. level.items)) c.in_ok-push.ensures.items ∙
    map-append (λ level. level.items) c.levels.levels.items (c.in_ok-level.level.groups ∷ []) in
    subst (λ done. BuiltTo c.args.leaves.items done c.in_ok-level.level.made.items) (sym grown)
    (built-more c.args.leaves.items (map (λ level. level.items) c.levels.levels.items) c.levels.clusters.items
    c.in_ok-level.level.made.items h.0 c.in_ok-level.level.groups.items c.levels.invariant c.requires.triangle_limit
    some h.1 h.2 h.3)

pub returns : goal.returns
returns c =
    let on : c.is_empty.result ≡ true = search rules in
    let none = are_none c.levels.clusters.items _ c.is_empty.result c.is_empty.ensures on c.levels.clusters.ok.0 in
    record {
      levels = built-done c.args.leaves.items (map (λ level. level.items) c.levels.levels.items) c.levels.clusters.items
          c.levels.invariant c.requires.triangle_limit none;
    }
