use Rattle.std.proofs.Common.{◌∙◌}
use Rattle.batch_core.proofs.SlotLemmas.{full_next}
use Rattle.batch_core.proofs.answers.Answers.fill_rest.Goals as goal

pub loop-file-preserved : goal.loop-file-preserved
loop-file-preserved g c =
    let step = c.in_ok-fill.ensures in (
      step.files ∙ c.loop-file.invariant.0,
      (λ i answer h. step.kept i answer (c.loop-file.invariant.1 i answer h)),
      full_next _ _ c.loop-file.file step.kept c.loop-file.invariant.2 step.full,
    )
