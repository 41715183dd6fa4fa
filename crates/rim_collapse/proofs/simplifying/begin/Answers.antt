use Rattle.std.proofs.Common.{length, refl, sym, ap, ◌∙◌, subst}
use Rattle.rim_collapse.specs.Internal.Chains.{AreChained}
use Rattle.rim_collapse.specs.Internal.Faces.{state_of}
use Rattle.rim_collapse.proofs.BegunMeshes.{count-begun, left-begun, mesh-begun}
use Rattle.rim_collapse.proofs.simplifying.begin.Goals as goal

pub first_bests-requires-clause-mesh : goal.first_bests-requires-clause-mesh
first_bests-requires-clause-mesh c =
    mesh-begun c.args.tris.now c.args.points.now c.in_ok-faces.faces.items c.deref-2.result.now c.in_ok-chains.chains
    c.deref-2.ensures.value c.requires.triangle_limit c.requires.ascending c.in_ok-faces.ensures.numbers
    c.requires.triangles c.in_ok-faces.ensures.triangles
    (subst (λ l. AreChained (length c.args.points.now) l c.in_ok-chains.chains)
    (c.deref.ensures.value ∙ sym c.deref-2.ensures.value) c.in_ok-chains.ensures)

pub returns-clause-progress : goal.returns-clause-progress
returns-clause-progress c =
    let tris = c.args.tris.now in
    let points = c.args.points.now in
    let faces = c.in_ok-faces.faces.items in
    record {
      mesh = mesh-begun tris points faces faces c.in_ok-chains.chains refl c.requires.triangle_limit
          c.requires.ascending
          c.in_ok-faces.ensures.numbers c.requires.triangles c.in_ok-faces.ensures.triangles
          (subst (λ l. AreChained (length points) l c.in_ok-chains.chains) c.deref.ensures.value
          c.in_ok-chains.ensures);
      left = sym (ap length (left-begun tris points faces c.requires.ascending c.in_ok-faces.ensures.numbers
          c.requires.triangles c.in_ok-faces.ensures.triangles) ∙
          count-begun tris points faces c.in_ok-faces.ensures.triangles);
      bests = c.in_ok-bests.ensures.count;
      asked = c.in_ok-asked.ensures;
      targets = c.in_ok-bests.ensures.members;
    }

pub returns-clause-state : goal.returns-clause-state
returns-clause-state c =
    ap (state_of c.args.tris.now c.args.points.now) (left-begun c.args.tris.now c.args.points.now
    c.in_ok-faces.faces.items c.requires.ascending c.in_ok-faces.ensures.numbers c.requires.triangles
    c.in_ok-faces.ensures.triangles) ∙ c.in_ok-faces.ensures.triangles
