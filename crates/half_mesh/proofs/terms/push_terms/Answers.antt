use Rattle.std.proofs.Common.{◌≡◌, List, [], ◌++◌, ◌∙◌, ap}
use Rattle.std.proofs.lemmas.List.{append_assoc, append-nil}
use Rattle.geom_core.specs.EdgeSum.{edges_of}
use Rattle.half_mesh.specs.Terms.{term_of, terms_of}
use Rattle.half_mesh.proofs.ListLaws.{added_three}
use Rattle.half_mesh.proofs.terms.push_terms.Goals as goal

regrouped : {A : Type 0} (a b c : List A) → a ++ b ++ c ≡ a ++ (b ++ (c ++ []))
regrouped a b c = simp (append_assoc, append-nil)

pub returns : goal.returns
unfolding terms_of edges_of
returns c =
    let ab = term_of (c.args.tri.a, c.args.tri.b) in
    let bc = term_of (c.args.tri.b, c.args.tri.c) in
    let ca = term_of (c.args.tri.c, c.args.tri.a) in
    added_three c.args.terms.now.items ab bc ca
    c.in_ok-push_term.ensures c.in_ok-push_term-2.ensures c.in_ok-push_term-3.ensures ∙
    ap (λ l. c.args.terms.now.items ++ l) (regrouped ab bc ca)
