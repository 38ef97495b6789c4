-- How `bottleneck` ends, from what it answers.
use Rattle.std.proofs.Common.{◌≡◌, ℕ, Bool, List, refl, subst, sym}
use Rattle.bip_defs.specs.Matrix.{AreEntries, Matrix}
use Rattle.bip_graph.specs.declared.answers.Bottleneck.{Bottleneck}
use Rattle.bip_graph.specs.declared.answers.Bottleneck.TheVariants.{Best, Rectangular, Singular}
use Rattle.bottleneck.specs.Answers.{IsBottleneck}
use Rattle.btf_text.specs.Bottlenecks.{BestPairsAreEntries, bottleneck_text}
use Rattle.btf_tool.specs.declared.answers.Answer.{Answer}
use Rattle.btf_tool.specs.Bottlenecks.{IsBottleneckText, answer_on}
use Rattle.btf_tool.specs.Jobs.{IsMatrixOf}
use Rattle.btf_tool.specs.Refusals.{status_of_answer}
use Rattle.btf_tool.specs.Runs.{ComesToDiagonal, IsOrNoMemory}
use Rattle.btf_tool.proofs.FullMatchings.{FullHasRank, TellsFull, comes_to, tells_full, tells_rectangular, tells_singular}
use Rattle.sp_ids.specs.Entries.{Entries}
use Rattle.sp_ids.specs.declared.outcomes.Status.{Status}
use Rattle.sp_pattern.specs.Weights.{AreWeightsOf, Weighing}

-- the answer tells whether the matrix has a full matching
bottleneck_tells : FullHasRank → (w : Weighing) (b : Bottleneck) → IsBottleneck w b → TellsFull w.matrix (answer_on b)
bottleneck_tells full_rank w Rectangular is = tells_rectangular w.matrix is
bottleneck_tells full_rank w (Singular rank hall) is = tells_singular w.matrix rank hall.items is
bottleneck_tells full_rank w (Best pairs least hall) is = tells_full full_rank w.matrix pairs.items is.square is.full

-- the answer over the entries comes to whether there is such a matching
pub comes_to_bottleneck : FullHasRank → (drop_zeros : Bool) (t : Entries) (a : Matrix) (answer : Answer) (text : List ℕ) (status : Status) → IsMatrixOf drop_zeros t a → IsBottleneckText t a answer text
    → IsOrNoMemory status (status_of_answer answer) → ComesToDiagonal drop_zeros t status
comes_to_bottleneck full_rank drop_zeros t a answer text status of h ends =
    comes_to drop_zeros t a answer status of
    (subst (λ (x : Answer). TellsFull a x) (sym h.answer_is)
    (subst (λ (x : Matrix). TellsFull x (answer_on h.bottleneck)) h.are_weights.matrix_is (bottleneck_tells full_rank h.weighing h.bottleneck h.is_bottleneck)))
    ends

-- the pairs are entries
pub best_entries : (w : Weighing) (a : Matrix) (b : Bottleneck) → w.matrix ≡ a → IsBottleneck w b → BestPairsAreEntries a b
best_entries w a Rectangular of is = tt
best_entries w a (Singular rank hall) of is = tt
best_entries w a (Best pairs least hall) of is = subst (λ (x : Matrix). AreEntries x pairs.items) of is.full.matching.entries

-- the text is that of the answer
pub bottleneck_answers : (t : Entries) (a : Matrix) (w : Weighing) (b : Bottleneck) → AreWeightsOf t a w → IsBottleneck w b → IsBottleneckText t a (answer_on b) (bottleneck_text w b)
bottleneck_answers t a w b weights is = record { weighing = w; are_weights = weights; bottleneck = b; is_bottleneck = is; answer_is = refl; spelled = refl }
