use Rattle.std.proofs.Common.{refl}
use Rattle.blocktri_c.proofs.edits.proved_edits.Goals as goal

pub returns-in-Ok-clause-answers : goal.returns-in-Ok-clause-answers
returns-in-Ok-clause-answers c = record {
  found = λ ok. rw c.narrow-matrix.ensures at c.in-Ok.ensures.ranks;
  fit = λ ok. c.in-Ok.ensures.refused.fit;
  within = λ ok. rw c.narrow-matrix.ensures at c.in-Ok.ensures.refused.within;
  kept = λ bad. absurd (bad refl);
}
