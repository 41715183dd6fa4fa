use Rattle.std.proofs.Common.{◌≡◌, ◌<◌, ℕ, length, take, get_or}
use Rattle.rim_collapse.specs.Internal.Chains.{walk}
use Rattle.rim_collapse.proofs.ChainLaws.{IsLinkedAt}
use Rattle.rim_collapse.proofs.chains.chains_of.Given as goal

-- the corners so far are linked
abbrev pub invariant-loop-corner : goal.invariant-loop-corner
invariant-loop-corner l = record {
  firsts : length l.chains.firsts.items ≡ l.count;
  counts : length l.chains.counts.items ≡ l.count;
  nexts : length l.chains.nexts.items ≡ length l.numbers.items;
  linked : (p : ℕ) → p < l.count → IsLinkedAt p (take l.corner l.numbers.items)
      (walk l.chains.nexts.items (get_or l.chains.counts.items p 0) (get_or l.chains.firsts.items p 0));
}
