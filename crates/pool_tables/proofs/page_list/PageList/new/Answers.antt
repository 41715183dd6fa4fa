use Rattle.std.proofs.Common.{[], ap}
use Rattle.pool_tables.proofs.Links.{IsRing-none, IsRing-found, pages_after-ring}
use Rattle.pool_tables.proofs.page_list.PageList.new.Goals as goal

pub invariant_of-result : goal.invariant_of-result
invariant_of-result c =
    let next = c.in_ok-vec.ensures.items_if_clones_equal (λ y e. e) in
    let previous = c.in_ok-vec-2.ensures.items_if_clones_equal (λ y e. e) in
    IsRing-found _ _ c.args.capacity [] (IsRing-none c.in_ok-vec.field-0.items c.in_ok-vec-2.field-0.items
    c.args.capacity next previous)

pub returns : goal.returns
returns c =
    let next = c.in_ok-vec.ensures.items_if_clones_equal (λ y e. e) in
    let previous = c.in_ok-vec-2.ensures.items_if_clones_equal (λ y e. e) in
    ap (λ pages. record { capacity = c.args.capacity; pages = pages })
    (pages_after-ring _ _ c.args.capacity []
    (IsRing-none c.in_ok-vec.field-0.items c.in_ok-vec-2.field-0.items c.args.capacity next previous))
