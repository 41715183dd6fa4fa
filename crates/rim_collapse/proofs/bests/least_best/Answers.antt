use Rattle.std.proofs.Common.{◌≡◌, ◌<◌, ◌+◌, ℕ, List, Option, None, length, take, get_or, sym, subst, ◌∙◌}
use Rattle.std.proofs.Common.{arith}
use Rattle.std.proofs.lemmas.Bool.{eqb-false}
use Rattle.std.proofs.lemmas.List.{take_all}
use Rattle.std.proofs.lemmas.List.Elements.{All-nil}
use Rattle.geom_core.specs.declared.points.Pt.{Pt}
use Rattle.geom_core.specs.declared.triangles.Tri.{Tri}
use Rattle.rim_collapse.specs.declared.keys.Key.{Key}
use Rattle.rim_collapse.specs.Internal.Bests.{AreRight, IsBestAmong, lesser_of}
use Rattle.rim_collapse.proofs.StepLaws.{least-more}
use Rattle.rim_collapse.proofs.bests.least_best.Goals as goal
use Rattle.rim_collapse.proofs.bests.least_best.Goals.{then-goes_before, else-goes_before}

-- of the collapses of the first k points this is the least
abbrev IsLeastBefore : ℕ → List (Option Key) → Option Key → Type 0
IsLeastBefore k bests best = (tris : List Tri) (locked points : List Pt) → length bests ≡ length points →
    AreRight tris locked points bests → IsBestAmong tris locked (take k points) best

pub bests-init : goal.bests-init
bests-init c =
    let bests = c.args.bests.now in
    let some : 0 < length bests =
    omega (arith, eqb-false (length bests) 0 (sym c.is_empty.ensures ∙ c.if-is_empty.false)) in
    record {
      index = some;
      best = λ tris locked points same right.
          least-more tris locked points bests 0 None None some same right (All-nil _);
    }

-- the collapse of one point more is compared with the least one so far, and this is the lesser
more : (bests : List (Option Key)) (k before least chosen : ℕ) → k < length bests → least ≡ chosen →
    lesser_of (get_or bests before None) (get_or bests k None) ≡ get_or bests chosen None →
    IsLeastBefore k bests (get_or bests before None) → IsLeastBefore (k + 1) bests (get_or bests least None)
more bests k before least chosen within at is so_far = λ tris locked points same right.
    subst (λ (i : ℕ). IsBestAmong tris locked (take (k + 1) points) (get_or bests i None)) (sym at)
    (subst (IsBestAmong tris locked (take (k + 1) points)) is
    (least-more tris locked points bests k None (get_or bests before None) within same right
    (so_far tris locked points same right)))

pub bests-preserved : goal.bests-preserved
bests-preserved c =
    let bests = c.args.bests.now in
    let k = c.bests.k in
    let least = c.if-goes_before.least in
    elim c.if-goes_before.branch [
      | then-goes_before w ↦ record {
        index = omega (arith, w.least-is, c.bests-test.true);
        best = more bests k c.bests.least least k c.bests-test.true w.least-is w.if-goes_before.ensures
            c.bests.invariant.best;
      }
      | else-goes_before w ↦ record {
        index = omega (arith, w.least-is, c.bests.invariant.index);
        best = more bests k c.bests.least least c.bests.least c.bests-test.true w.least-is
            w.if-goes_before.ensures c.bests.invariant.best;
      }
    ]

pub returns : goal.returns
returns c = λ tris locked points same right.
    let best = get_or c.args.bests.now c.bests.least None in
    subst (λ (l : List Pt). IsBestAmong tris locked l best)
    (take_all c.bests.k points (omega (arith, c.bests-test.false, same)))
    (c.bests.invariant.best tris locked points same right)
