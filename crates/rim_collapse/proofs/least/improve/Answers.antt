use Rattle.std.proofs.Common.{◌≡◌, ◌<◌, ℕ, List, Option, Some, All, inl, inr, sum_by, refl, sym, ap, subst, ◌∙◌}
use Rattle.std.specs.Prelude.{IfSome}
use Rattle.std.proofs.lemmas.Bool.{and_from}
use Rattle.rim_collapse.specs.declared.keys.Key.{Key}
use Rattle.rim_collapse.specs.declared.facets.Facet.{Facet}
use Rattle.rim_collapse.specs.declared.vectors.Vector.{Vector}
use Rattle.geom_core.specs.declared.points.Pt.{Pt}
use Rattle.geom_core.specs.declared.triangles.Tri.{Tri}
use Rattle.rim_collapse.specs.Cost.{cost, key_of}
use Rattle.rim_collapse.specs.Normals.{minus}
use Rattle.rim_collapse.specs.Internal.Bests.{beats}
use Rattle.rim_collapse.specs.Internal.Facets.{IsFacet, facet_cost, tris_in}
use Rattle.rim_collapse.proofs.BestLaws.{best-kept, best-taken, cost-facets, edge-facets, legal-facets, source-grid}
use Rattle.rim_collapse.proofs.BestLaws.{target-grid}
use Rattle.rim_collapse.proofs.Listed.{closed-illegal, closed-itself, key-is}
use Rattle.rim_collapse.proofs.least.improve.Goals as goal
use Rattle.rim_collapse.proofs.least.improve.Goals.{else-beats-via-then-beats+else-is_legal, else-beats-via-else-beats}

pub returns-then-is_same : goal.returns-then-is_same
returns-then-is_same c = λ tried was.
    let tris = tris_in c.args.facets.now in
    best-kept tris c.args.a c.args.b tried c.args.best.now
    (inl (closed-itself tris c.args.a c.args.b (sym c.is_same.ensures ∙ c.if-is_same.true))) was

pub minus-requires-clause-p : goal.minus-requires-clause-p
minus-requires-clause-p c = target-grid c.args.facets.now c.args.a c.args.b c.requires.facets c.requires.corner

pub minus-requires-clause-q : goal.minus-requires-clause-q
minus-requires-clause-q c = source-grid c.args.facets.now c.args.a c.args.b c.requires.facets c.requires.corner

pub is_legal-requires-clause-target : goal.is_legal-requires-clause-target
is_legal-requires-clause-target c =
    target-grid c.args.facets.now c.args.a c.args.b c.requires.facets c.requires.corner

key-cost : (tris : List Tri) (a b : Pt) → (key_of tris a b).cost ≡ cost tris a b
unfolding key_of
key-cost tris a b = refl

pub returns-in_default : goal.returns-in_default
returns-in_default c = λ tried was.
    let facets = c.args.facets.now in
    let a = c.args.a in
    let b = c.args.b in
    let k = key_of (tris_in facets) a b in
    let above = c.cost_within.ensures.above c.in_default.is in
    let is : sum_by (facet_cost c.minus.result) facets ≡ k.cost =
    ap (λ v. sum_by (facet_cost v) facets) c.minus.ensures.difference ∙ cost-facets facets a b c.requires.facets ∙
    sym (key-cost (tris_in facets) a b) in
    best-kept (tris_in facets) a b tried c.args.best.now
    (inr (c.cost_limit.ensures k (subst (λ (n : ℕ). c.cost_limit.result < n) is above.0) above.1)) was

-- the cost of the collapse is that of its key
cost_found : (facets : List Facet) (a b : Pt) (offset : Vector) (found : Option ℕ) (n : ℕ) →
    All (IsFacet a) facets → offset ≡ minus b a → IfSome found (λ cost. cost ≡ sum_by (facet_cost offset) facets) →
    found ≡ Some n → n ≡ cost (tris_in facets) a b
cost_found facets a b offset found n all is some at =
    subst (λ r. IfSome r (λ cost. cost ≡ sum_by (facet_cost offset) facets)) at some ∙
    ap (λ v. sum_by (facet_cost v) facets) is ∙ cost-facets facets a b all

pub returns-then-is_legal : goal.returns-then-is_legal
returns-then-is_legal c = λ tried was.
    let facets = c.args.facets.now in
    let a = c.args.a in
    let b = c.args.b in
    let k : Key = record { cost = c.in-Some.cost; distance = c.cheb.result; from = a; to = b } in
    let is : k ≡ key_of (tris_in facets) a b = key-is (tris_in facets) a b c.in-Some.cost c.cheb.result
    (cost_found facets a b c.minus.result c.cost_within.result c.in-Some.cost c.requires.facets
    c.minus.ensures.difference c.cost_within.ensures.cost c.in-Some.is) c.cheb.ensures.distance in
    best-taken (tris_in facets) a b tried c.args.best.now k is (sym c.beats.ensures ∙ c.if-beats.true)
    (and_from _ _ (edge-facets facets a b c.requires.facets
    (sym c.is_same.ensures ∙ c.if-is_same.false) c.requires.corner)
    (sym (c.is_legal.ensures ∙ legal-facets facets a b) ∙ c.if-is_legal.true)) was

pub returns-else-beats : goal.returns-else-beats
returns-else-beats c = λ tried was.
    let facets = c.args.facets.now in
    let a = c.args.a in
    let b = c.args.b in
    let k : Key = record { cost = c.in-Some.cost; distance = c.cheb.result; from = a; to = b } in
    let is : k ≡ key_of (tris_in facets) a b = key-is (tris_in facets) a b c.in-Some.cost c.cheb.result
    (cost_found facets a b c.minus.result c.cost_within.result c.in-Some.cost c.requires.facets
    c.minus.ensures.difference c.cost_within.ensures.cost c.in-Some.is) c.cheb.ensures.distance in
    best-kept (tris_in facets) a b tried c.args.best.now (elim c.else-beats.branch [
      | else-beats-via-then-beats+else-is_legal w ↦ inl (closed-illegal (tris_in facets) a b
          (sym (w.is_legal.ensures ∙ legal-facets facets a b) ∙ w.if-is_legal.false))
      | else-beats-via-else-beats w ↦ inr (ap (λ l. beats l c.args.best.now) (sym is) ∙ sym c.beats.ensures ∙
          w.if-beats.false)
    ]) was
