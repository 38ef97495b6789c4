use Rattle.std.proofs.Common.{◌∙◌, ℕ, List, subst, sym}
use Rattle.std.proofs.lemmas.Option.{slice_get_within}
use Rattle.batch_core.specs.Shares.{AreAnswers}
use Rattle.batch_core.proofs.SlotLemmas.{last_answer, other_answers}
use Rattle.batch_core.proofs.workers.put_all.Goals as goal

pub put-requires-clause-file : goal.put-requires-clause-file
put-requires-clause-file c =
    let is = last_answer c.loop-file.answers.files c.loop-file.found.items c.pop.new.self.items c.in-Some.file c.in-Some.answer c.in-Some.ensures.items c.loop-file.invariant.1 in
    slice_get_within c.loop-file.answers.files c.in-Some.file is.file is.at

pub put-requires-clause-answer : goal.put-requires-clause-answer
put-requires-clause-answer c = last_answer c.loop-file.answers.files c.loop-file.found.items c.pop.new.self.items c.in-Some.file c.in-Some.answer c.in-Some.ensures.items c.loop-file.invariant.1

pub loop-file-preserved : goal.loop-file-preserved
loop-file-preserved c =
    let files = c.put.ensures.files in (
      files ∙ c.loop-file.invariant.0,
      subst (λ (fs : List (List ℕ)). AreAnswers fs c.pop.new.self.items) (sym files)
          (other_answers c.loop-file.answers.files c.loop-file.found.items c.pop.new.self.items c.in-Some.file c.in-Some.answer c.in-Some.ensures.items c.loop-file.invariant.1),
    )
