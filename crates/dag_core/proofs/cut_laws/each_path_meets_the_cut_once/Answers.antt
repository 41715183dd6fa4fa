use Rattle.dag_core.proofs.CutLawExamples.{chain, chain_checked, chain_is_path, chain_lens, chain_path, chain_range}
use Rattle.dag_core.proofs.CutLawExamples.{gap, meets_twice}
use Rattle.dag_core.proofs.PathLaws.{meets_once}
use Rattle.dag_core.proofs.cut_laws.each_path_meets_the_cut_once.Goals as goal

pub returns : goal.returns
returns c = record {
  once = meets_once;
  false_without = (chain, chain_lens, gap, chain_path, chain_range, chain_checked, chain_is_path, meets_twice);
}
