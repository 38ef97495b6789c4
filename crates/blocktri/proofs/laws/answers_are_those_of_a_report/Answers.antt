use Rattle.bip_defs.proofs.Uniqueness.{same_decomposition, same_rank}
use Rattle.blocktri.proofs.ReportLaws.{told_least, told_listed}
use Rattle.blocktri.proofs.laws.answers_are_those_of_a_report.Goals as goal

pub returns : goal.returns
returns c = record {
  rank = λ a version order pairs least text t k is. same_rank a k t.decomposition.rank is t.is_decomposition.rank;
  decomposition = λ a version order pairs least text t k old new told. same_decomposition a told.decomposition t.decomposition told.is_decomposition t.is_decomposition;
  components = λ a version order pairs least text t. told_listed a version t.components t.of_version;
  least = λ a version order pairs text t. told_least a pairs t.matching t.are_pairs;
}
