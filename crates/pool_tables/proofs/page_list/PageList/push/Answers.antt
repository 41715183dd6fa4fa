use Rattle.std.proofs.Common.{◌≡◌, ◌<◌, false, [], ◌∷◌, ◌++◌, set, sym, ap, ◌∙◌, refl, arith}
use Rattle.std.proofs.lemmas.List.{get_or_read}
use Rattle.pool_rules.specs.Numbers.{is_among}
use Rattle.pool_tables.specs.ListedPages.{ListedPages}
use Rattle.pool_tables.specs.Internal.Links.{pages_after}
use Rattle.pool_tables.proofs.Links.{IsRing-found, IsRing-push, pages_after-ring, last-below}
use Rattle.pool_tables.proofs.page_list.PageList.push.Goals as goal

pub index_mut-requires : goal.index_mut-requires
index_mut-requires c =
    let list = c.self.inside in
    let last = get_or_read list.previous.items _ _ (omega (arith, c.self.invariant.previous_len)) c.index-last.ensures
    0 in
    omega (
      arith,
      last,
      last-below list.next.items list.previous.items list.end _ c.self.invariant,
      list.next.ok.0,
      c.self.invariant.next_len,
    )

pub invariant_of-self : goal.invariant_of-self
invariant_of-self c =
    let list = c.self.inside in
    let before = pages_after list.next.items list.end list.end list.end in
    let absent : is_among before c.args.page ≡ false = rw (← c.self.view_is) at c.requires.absent in
    let below : c.args.page < list.end = rw (← c.self.view_is) at c.requires.page_range in
    let last = get_or_read list.previous.items _ _ (omega (arith, c.self.invariant.previous_len)) c.index-last.ensures
    0 in
    IsRing-found _ _ list.end (before ++ c.args.page ∷ [])
    (IsRing-push list.next.items list.previous.items list.end c.args.page before c.self.invariant below absent
    c.index-last.result.now (sym last))

pub returns : goal.returns
returns c =
    let list = c.self.inside in
    let before = pages_after list.next.items list.end list.end list.end in
    let absent : is_among before c.args.page ≡ false = rw (← c.self.view_is) at c.requires.absent in
    let below : c.args.page < list.end = rw (← c.self.view_is) at c.requires.page_range in
    let last = get_or_read list.previous.items _ _ (omega (arith, c.self.invariant.previous_len)) c.index-last.ensures
    0 in
    let found = pages_after-ring _ _ list.end (before ++ c.args.page ∷ [])
    (IsRing-push list.next.items list.previous.items list.end c.args.page before c.self.invariant below absent
    c.index-last.result.now (sym last)) in
    let whole : ListedPages = record { capacity = list.end; pages = before ++ c.args.page ∷ [] } in
    let at_view : whole ≡ record {
      capacity = c.args.self.now.capacity;
      pages =
          c.args.self.now.pages ++ c.args.page ∷ [];
    } = rw (← c.self.view_is) refl in
    let next = set (set list.next.items c.index-last.result.now c.args.page) c.args.page list.end in
    let new : ListedPages = record { capacity = list.end; pages = pages_after next list.end list.end list.end } in
    let spelt : new ≡ whole = ap (λ pages. record { capacity = list.end; pages = pages }) found in
    spelt ∙ at_view
