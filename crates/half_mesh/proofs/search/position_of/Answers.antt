use Rattle.std.proofs.lemmas.List.Sorted.{searchable_from_sorted}
use Rattle.half_mesh.proofs.TableLaws.{searched_none}
use Rattle.half_mesh.proofs.search.position_of.Goals as goal

pub returns-clause-absent : goal.returns-clause-absent
returns-clause-absent g c =
    rw c.ok.ensures.value
    (searched_none (λ (x : g.row.T.Denot). g.T.Ord.cmp x c.args.item.now) c.args.items.now c.binary_search.result
    c.binary_search.ensures.position
    (searchable_from_sorted g.met.T.Ord.total
    (λ (x : g.row.T.Denot). x) c.args.items.now c.args.item.now c.requires.sorted))
