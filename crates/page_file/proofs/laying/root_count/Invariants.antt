use Rattle.std.proofs.Common.{◌≡◌}
use Rattle.page_file.specs.PagesRule.{root_filling}
use Rattle.page_file.proofs.laying.root_count.Given as goal

abbrev pub invariant-groups : goal.invariant-groups
invariant-groups l = l.filling ≡ root_filling l.heads l.g
