use Rattle.std.proofs.Common.{◌≡◌, drop}
use Rattle.page_codec.specs.PageLinks.{next_in}
use Rattle.page_codec.proofs.walk.scan.Given as goal

-- no group from `from` on and below g is on the page
abbrev pub invariant-groups : goal.invariant-groups
invariant-groups l = next_in l.page l.g (drop l.g l.groups) ≡ next_in l.page l.from (drop l.from l.groups)
