use Rattle.std.proofs.Common.{◌<◌, length, subst, sym}
use Rattle.batch_core.specs.Shares.{IsAnswerAt, Slots}
use Rattle.batch_core.proofs.SlotLemmas.{answer_at, file_small, file_within, put_fills}
use Rattle.batch_core.proofs.answers.Answers.fill.Goals as goal

pub answer_bytes-requires-after_bounds : goal.answer_bytes-requires-after_bounds
answer_bytes-requires-after_bounds g c κs within =
    let lt = file_within c.self.inside.files.now c.args.file (subst (λ (s : Slots). c.args.file < length s.files) (sym c.self.view_is) c.requires) in
    file_small c.self.inside.files.now c.args.file c.index-self-file.result _ c.self.invariant.0 lt c.as_slice.ensures.value

pub put-requires-clause-answer : goal.put-requires-clause-answer
put-requires-clause-answer g c =
    let lt = file_within c.self.inside.files.now c.args.file (subst (λ (s : Slots). c.args.file < length s.files) (sym c.self.view_is) c.requires) in
    subst (λ (s : Slots). IsAnswerAt s.files c.args.file c.in_ok-answer.answer) c.self.view_is
    (answer_at c.self.inside.files.now c.args.file c.index-self-file.result _ _ lt c.as_slice.ensures.value c.in_ok-answer.ensures)

pub returns-clause-kept : goal.returns-clause-kept
returns-clause-kept g c = put_fills _ _ c.args.file c.in_ok-answer.answer c.put.result c.put.ensures.held c.put.ensures.unchanged c.put.ensures.stored
