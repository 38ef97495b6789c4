-- What `diagonal` answers.
use Rattle.std.specs.Prelude.{◌≡◌, List, ℕ}
use Rattle.bip_graph.specs.declared.answers.Heaviest.{Heaviest}
use Rattle.bip_graph.specs.declared.answers.Heaviest.TheVariants.{Diagonal, Rectangular, Singular}
use Rattle.bip_defs.specs.Matrix.{Matrix}
use Rattle.btf_text.specs.Diagonals.{diagonal_text}
use Rattle.btf_tool.specs.declared.answers.Answer.{Answer}
use Rattle.btf_tool.specs.declared.answers.Answer.TheVariants.{Negative, Positive}
use Rattle.integer_diagonal.specs.Heaviest.{IsHeaviest}
use Rattle.sp_ids.specs.Entries.{Entries}
use Rattle.sp_pattern.specs.Weights.{AreWeightsOf, Weighing}

abbrev pub answer_on : Heaviest → Answer
answer_on Rectangular = Negative
answer_on (Singular rank hall) = Negative
answer_on (Diagonal pairs u v sum) = Positive

-- the text of a heaviest diagonal of a matrix, by the weights that its integer file gives, or of why there is none
pub record IsDiagonalText (t : Entries) (a : Matrix) (answer : Answer)
    (text : List ℕ) : Type 0 where
  pub weighing : Weighing
  pub are_weights : AreWeightsOf t a weighing
  pub heaviest : Heaviest
  pub is_heaviest : IsHeaviest weighing heaviest
  pub answer_is : answer ≡ answer_on heaviest
  pub spelled : text ≡ diagonal_text weighing heaviest
