use Rattle.std.proofs.Common.{◌≡◌, true, set, ap, ◌∙◌, refl, arith}
use Rattle.std.proofs.lemmas.List.{get_or_read}
use Rattle.pool_rules.specs.Numbers.{is_among}
use Rattle.pool_tables.specs.ListedPages.{ListedPages, without}
use Rattle.pool_tables.specs.Internal.Links.{pages_after, IsRing}
use Rattle.pool_tables.proofs.Links.{IsRing-found, IsRing-remove, pages_after-ring, neighbours-below, page-below}
use Rattle.pool_tables.proofs.page_list.PageList.remove.Goals as goal

pub index-before-requires : goal.index-before-requires
index-before-requires c =
    let list = c.self.inside in
    let present : is_among (pages_after list.next.items list.end list.end list.end) c.args.page ≡ true =
    rw (← c.self.view_is) at c.requires.present in
    omega (
      arith,
      page-below list.next.items list.previous.items list.end c.args.page _ c.self.invariant present,
      list.previous.ok.0,
      c.self.invariant.previous_len,
    )

pub index-after-requires : goal.index-after-requires
index-after-requires c =
    let list = c.self.inside in
    let present : is_among (pages_after list.next.items list.end list.end list.end) c.args.page ≡ true =
    rw (← c.self.view_is) at c.requires.present in
    omega (
      arith,
      page-below list.next.items list.previous.items list.end c.args.page _ c.self.invariant present,
      list.next.ok.0,
      c.self.invariant.next_len,
    )

pub index_mut-requires : goal.index_mut-requires
index_mut-requires c =
    let list = c.self.inside in
    let present : is_among (pages_after list.next.items list.end list.end list.end) c.args.page ≡ true =
    rw (← c.self.view_is) at c.requires.present in
    let lt = page-below list.next.items list.previous.items list.end c.args.page _ c.self.invariant present in
    let before = get_or_read list.previous.items _ _ (omega (arith, lt, c.self.invariant.previous_len))
    c.index-before.ensures 0 in
    omega (
      arith,
      before,
      neighbours-below list.next.items list.previous.items list.end c.args.page _ c.self.invariant
          present,
      list.next.ok.0,
      c.self.invariant.next_len,
    )

pub index_mut-requires-2 : goal.index_mut-requires-2
index_mut-requires-2 c =
    let list = c.self.inside in
    let present : is_among (pages_after list.next.items list.end list.end list.end) c.args.page ≡ true =
    rw (← c.self.view_is) at c.requires.present in
    let lt = page-below list.next.items list.previous.items list.end c.args.page _ c.self.invariant present in
    let after = get_or_read list.next.items _ _ (omega (arith, lt, c.self.invariant.next_len)) c.index-after.ensures
    0 in
    omega (
      arith,
      after,
      neighbours-below list.next.items list.previous.items list.end c.args.page _ c.self.invariant
          present,
      list.previous.ok.0,
      c.self.invariant.previous_len,
    )

pub invariant_of-self : goal.invariant_of-self
invariant_of-self c =
    let list = c.self.inside in
    let present : is_among (pages_after list.next.items list.end list.end list.end) c.args.page ≡ true =
    rw (← c.self.view_is) at c.requires.present in
    let lt = page-below list.next.items list.previous.items list.end c.args.page _ c.self.invariant present in
    let before = get_or_read list.previous.items _ _ (omega (arith, lt, c.self.invariant.previous_len))
    c.index-before.ensures 0 in
    let after = get_or_read list.next.items _ _ (omega (arith, lt, c.self.invariant.next_len)) c.index-after.ensures
    0 in
    let next = set list.next.items c.index-before.result.now c.index-after.result.now in
    let previous = set list.previous.items c.index-after.result.now c.index-before.result.now in
    let left = without c.args.page (pages_after list.next.items list.end list.end list.end) in
    let ring : IsRing next previous list.end left =
    rw (before, after) (IsRing-remove list.next.items list.previous.items list.end c.args.page _ c.self.invariant
    present) in
    IsRing-found next previous list.end left ring

pub returns-clause-left : goal.returns-clause-left
returns-clause-left c =
    let list = c.self.inside in
    let present : is_among (pages_after list.next.items list.end list.end list.end) c.args.page ≡ true =
    rw (← c.self.view_is) at c.requires.present in
    let lt = page-below list.next.items list.previous.items list.end c.args.page _ c.self.invariant present in
    let before = get_or_read list.previous.items _ _ (omega (arith, lt, c.self.invariant.previous_len))
    c.index-before.ensures 0 in
    let after = get_or_read list.next.items _ _ (omega (arith, lt, c.self.invariant.next_len)) c.index-after.ensures
    0 in
    let ring = IsRing-remove list.next.items list.previous.items list.end c.args.page _ c.self.invariant present in
    let found : pages_after (set list.next.items c.index-before.result.now c.index-after.result.now) list.end list.end
    list.end ≡ without c.args.page (pages_after list.next.items list.end list.end list.end) =
    rw (before, after) (pages_after-ring _ _ list.end _ ring) in
    let whole : ListedPages = record {
      capacity = list.end;
      pages = without c.args.page (pages_after list.next.items list.end list.end list.end);
    } in
    let at_view : whole ≡ record {
      capacity = c.args.self.now.capacity;
      pages = without c.args.page c.args.self.now.pages;
    } = rw (← c.self.view_is) refl in
    let new : ListedPages = record {
      capacity = list.end;
      pages =
          pages_after (set list.next.items c.index-before.result.now c.index-after.result.now) list.end list.end
          list.end;
    } in
    let spelt : new ≡ whole = ap (λ pages. record { capacity = list.end; pages = pages }) found in
    spelt ∙ at_view

pub returns-clause-page_range : goal.returns-clause-page_range
returns-clause-page_range c =
    let list = c.self.inside in
    let present : is_among (pages_after list.next.items list.end list.end list.end) c.args.page ≡ true =
    rw (← c.self.view_is) at c.requires.present in
    rw (← c.self.view_is) (page-below list.next.items list.previous.items list.end c.args.page _ c.self.invariant
    present)
