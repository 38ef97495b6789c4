-- What `bottleneck` answers.
use Rattle.std.specs.Prelude.{◌≡◌, List, ℕ}
use Rattle.bip_defs.specs.Matrix.{Matrix}
use Rattle.bip_graph.specs.declared.answers.Bottleneck.{Bottleneck}
use Rattle.bip_graph.specs.declared.answers.Bottleneck.TheVariants.{Best, Rectangular, Singular}
use Rattle.bottleneck.specs.Answers.{IsBottleneck}
use Rattle.btf_text.specs.Bottlenecks.{bottleneck_text}
use Rattle.btf_tool.specs.declared.answers.Answer.{Answer}
use Rattle.btf_tool.specs.declared.answers.Answer.TheVariants.{Negative, Positive}
use Rattle.sp_ids.specs.Entries.{Entries}
use Rattle.sp_pattern.specs.Weights.{AreWeightsOf, Weighing}

abbrev pub answer_on : Bottleneck → Answer
answer_on Rectangular = Negative
answer_on (Singular rank hall) = Negative
answer_on (Best pairs least hall) = Positive

-- the text of a perfect matching of a matrix whose least weight is greatest, by the weights that its integer file gives, or of
-- why there is none
pub record IsBottleneckText (t : Entries) (a : Matrix) (answer : Answer)
    (text : List ℕ) : Type 0 where
  pub weighing : Weighing
  pub are_weights : AreWeightsOf t a weighing
  pub bottleneck : Bottleneck
  pub is_bottleneck : IsBottleneck weighing bottleneck
  pub answer_is : answer ≡ answer_on bottleneck
  pub spelled : text ≡ bottleneck_text weighing bottleneck
