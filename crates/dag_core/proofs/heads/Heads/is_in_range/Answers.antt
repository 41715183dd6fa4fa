use Rattle.std.proofs.Common.{◌≡◌, ◌∙◌, true, false, sym, arith}
use Rattle.std.proofs.lemmas.Bool.{false≢true}
use Rattle.std.proofs.lemmas.Bool.Decides.{nat_tests}
use Rattle.dag_core.proofs.RangeTestLaws.{all_in_range, not_counted, not_grouped}
use Rattle.dag_core.proofs.heads.Heads.is_in_range.Goals as goal

pub returns-then-not-are_counts_in_range : goal.returns-then-not-are_counts_in_range
returns-then-not-are_counts_in_range c =
    let fails : c.are_counts_in_range.result ≡ false = grind (arith, nat_tests) in
    record {
      range = (
        λ is. absurd (false≢true is),
        λ range. absurd (not_counted c.args.self.now c.counts-counts.result c.counts-counts.ensures.counts
            (sym fails ∙ c.are_counts_in_range.ensures.counts) range),
      );
    }

pub returns-then-not-are_groups_in_range : goal.returns-then-not-are_groups_in_range
returns-then-not-are_groups_in_range c =
    let fails : c.are_groups_in_range.result ≡ false = grind (arith, nat_tests) in
    record {
      range = (
        λ is. absurd (false≢true is),
        λ range. absurd (not_grouped c.args.self.now c.counts-counts.result c.as_slice-groups.result.now
            c.counts-counts.ensures.counts c.as_slice-groups.ensures
            (sym fails ∙ c.are_groups_in_range.ensures.groups) range),
      );
    }

pub returns : goal.returns
returns c =
    let counted : c.are_counts_in_range.result ≡ true = grind (arith, nat_tests) in
    let grouped : c.are_groups_in_range.result ≡ true = grind (arith, nat_tests) in
    record {
      range =
          all_in_range c.args.self.now c.counts-counts.result c.as_slice-groups.result.now
          c.as_slice-clusters.result.now c.are_clusters_in_range.result
          c.counts-counts.ensures.counts c.as_slice-groups.ensures c.as_slice-clusters.ensures
          (sym counted ∙ c.are_counts_in_range.ensures.counts)
          (sym grouped ∙ c.are_groups_in_range.ensures.groups) c.are_clusters_in_range.ensures.clusters;
    }
