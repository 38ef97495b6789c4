use Rattle.std.proofs.Common.{subst, sym}
use Rattle.batch_core.specs.Shares.{IsAnswerAt, Slots}
use Rattle.batch_core.proofs.SlotLemmas.{filled}
use Rattle.batch_core.proofs.answers.Answers.put.Goals as goal

pub invariant_of-self-2 : goal.invariant_of-self-2
invariant_of-self-2 c = (
  c.self.invariant.0,
  filled _ _ _ _ c.self.invariant.1 (subst (λ (s : Slots). IsAnswerAt s.files c.args.file c.args.answer) (sym c.self.view_is) c.requires.answer),
)
