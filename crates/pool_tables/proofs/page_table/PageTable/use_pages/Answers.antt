use Rattle.std.proofs.Common.{◌≡◌, ◌<◌, ◌+◌, ◌-◌, length, drop, refl, subst, arith}
use Rattle.pool_tables.specs.Changes.{AreUsed}
use Rattle.pool_tables.proofs.Changes.{before-step}
use Rattle.pool_tables.proofs.page_table.PageTable.use_pages.Goals as goal

pub use_page-requires-clause-later : goal.use_page-requires-clause-later
use_page-requires-clause-later c =
    let k = c.loop-left.left - 1 in
    let pages = c.args.pages.now in
    let again : c.loop-left.left ≡ k + 1 = omega (arith, c.loop-left-test.true) in
    let within : k < length pages = omega (arith, c.loop-left-test.true, c.loop-left.invariant.within) in
    let used : AreUsed c.args.count (drop (k + 1) pages) c.args.self.now c.loop-left.self =
    subst (λ n. AreUsed c.args.count (drop n pages) c.args.self.now c.loop-left.self) again
    c.loop-left.invariant.used in
    λ p ne. before-step c.args.count k _ pages c.args.self.now c.loop-left.self within refl c.requires.ascending
    c.requires.later used p
