use Rattle.std.proofs.Common.{◌<◌, ◌/◌, All, length, sym, subst, ◌∙◌}
use Rattle.rim_collapse.proofs.FaceChains.{chain-nexts, chain-slots}
use Rattle.rim_collapse.proofs.rounds.list_round.Goals as goal

pub list_corners-requires-clause-corners : goal.list_corners-requires-clause-corners
list_corners-requires-clause-corners c =
    chain-nexts (length c.args.points.now) c.args.faces.now c.args.chains.now c.args.n c.requires.chains
    c.requires.number

pub list_facets-requires-clause-corners : goal.list_facets-requires-clause-corners
list_facets-requires-clause-corners c =
    subst (All (λ d. d / 3 < length c.args.faces.now)) (sym (c.deref.ensures.value ∙ c.in_ok-list_corners.ensures))
    (chain-slots (length c.args.points.now) c.args.faces.now c.args.chains.now c.args.n c.requires.chains
    c.requires.number)

pub put_round-requires-clause-corners : goal.put_round-requires-clause-corners
put_round-requires-clause-corners c =
    subst (All (λ d. d / 3 < length c.args.faces.now)) (sym (c.deref-2.ensures.value ∙ c.in_ok-list_corners.ensures))
    (chain-slots (length c.args.points.now) c.args.faces.now c.args.chains.now c.args.n c.requires.chains
    c.requires.number)
