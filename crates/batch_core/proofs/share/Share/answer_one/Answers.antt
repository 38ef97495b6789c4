use Rattle.std.proofs.Common.{rules, ◌≡◌, ◌∙◌, ◌<◌, ◌++◌, ℕ, List, [], ◌∷◌, length, Some, None, ap, sym, subst, refl}
use Rattle.std.proofs.lemmas.List.{append-nil}
use Rattle.std.proofs.lemmas.List.Elements.{All-push}
use Rattle.btf_tool.specs.declared.file_answer.FileAnswer.{FileAnswer}
use Rattle.claim_words.specs.Seat.{Seat}
use Rattle.mm_frames.specs.Batches.{files_of}
use Rattle.batch_core.specs.Shares.{AreAnswers, IsAnswerAt, IsKnown, Share}
use Rattle.batch_core.proofs.ShareLemmas.{claim_continues, claim_known, held_answered, own_answered}
use Rattle.batch_core.proofs.SlotLemmas.{answer_at, file_fits, file_small, file_within}
use Rattle.batch_core.proofs.share.Share.answer_one.Goals as goal

pub overflow_cast-number : goal.overflow_cast-number
overflow_cast-number g c =
    let small = file_fits c.self.inside.files.now c.args.file c.self.invariant.0 (subst (λ (s : Share). c.args.file < length s.files) (sym c.self.view_is) c.requires.file) in
    search rules

pub answer_bytes-requires-after_bounds : goal.answer_bytes-requires-after_bounds
answer_bytes-requires-after_bounds g c κs within =
    let lt = file_within c.self.inside.files.now c.args.file (subst (λ (s : Share). c.args.file < length s.files) (sym c.self.view_is) c.requires.file) in
    file_small c.self.inside.files.now c.args.file c.index-files-file.result _ c.self.invariant.0 lt (c.as_slice.ensures.value ∙ ap (λ file. file.items) c.index-files-file.is)

pub returns-in_err-answer-in-Mine-clause-always : goal.returns-in_err-answer-in-Mine-clause-always
returns-in_err-answer-in-Mine-clause-always g c = claim_continues _ _ _ c.args.file c.args.worker None [] c.self.view_is refl c.in-Mine.ensures.seat (sym (append-nil _))

pub returns-in_err-answer-in-Mine-clause-known : goal.returns-in_err-answer-in-Mine-clause-known
returns-in_err-answer-in-Mine-clause-known g c = subst (λ (s : Seat). IsKnown s c.args.file) (sym c.in-Mine.ensures.seat) (claim_known c.self.inside.seat c.args.file c.args.worker None)

pub returns-in_err-push-in-Mine-clause-always : goal.returns-in_err-push-in-Mine-clause-always
returns-in_err-push-in-Mine-clause-always g c =
    let same : c.push.new.self.items ≡ c.self.inside.answers.items = search rules in
    claim_continues _ _ _ c.args.file c.args.worker None [] c.self.view_is refl c.in-Mine.ensures.seat (same ∙ sym (append-nil _))

pub returns-in_err-push-in-Mine-clause-known : goal.returns-in_err-push-in-Mine-clause-known
returns-in_err-push-in-Mine-clause-known g c = subst (λ (s : Seat). IsKnown s c.args.file) (sym c.in-Mine.ensures.seat) (claim_known c.self.inside.seat c.args.file c.args.worker None)

pub invariant_of-self-in-Mine : goal.invariant_of-self-in-Mine
invariant_of-self-in-Mine g c =
    let files = c.self.inside.files.now in
    let lt = file_within files c.args.file (subst (λ (s : Share). c.args.file < length s.files) (sym c.self.view_is) c.requires.file) in
    let more : c.push.new.self.items ≡ c.self.inside.answers.items ++ (c.args.file, c.in_ok-answer-in-Mine.answer) ∷ [] = search rules in
    let one : IsAnswerAt (files_of files) c.args.file c.in_ok-answer-in-Mine.answer = answer_at files c.args.file c.index-files-file.result _ _ lt (c.as_slice.ensures.value ∙ ap (λ file. file.items) c.index-files-file.is) c.in_ok-answer-in-Mine.ensures in (
      c.self.invariant.0,
      subst (λ (xs : List (ℕ × FileAnswer)). AreAnswers (files_of files) xs) (sym more)
          (All-push (λ (p : ℕ × FileAnswer). IsAnswerAt (files_of files) p.0 p.1) c.self.inside.answers.items (c.args.file, c.in_ok-answer-in-Mine.answer) c.self.invariant.1 one),
    )

pub returns-in-Held-clause-always : goal.returns-in-Held-clause-always
returns-in-Held-clause-always g c = claim_continues _ _ _ c.args.file c.args.worker (Some c.in-Held.field-0) [] c.self.view_is refl c.in-Held.ensures.seat (sym (append-nil _))

pub returns-in-Held-clause-known : goal.returns-in-Held-clause-known
returns-in-Held-clause-known g c = subst (λ (s : Seat). IsKnown s c.args.file) (sym c.in-Held.ensures.seat) (claim_known c.self.inside.seat c.args.file c.args.worker (Some c.in-Held.field-0))

pub returns-in-Held-clause-own : goal.returns-in-Held-clause-own
returns-in-Held-clause-own g c = held_answered _ _ _ c.args.file c.args.worker c.in-Held.field-0 c.self.view_is refl c.in-Held.ensures.seat refl

pub returns-in_ok-push-in-Mine-clause-always : goal.returns-in_ok-push-in-Mine-clause-always
returns-in_ok-push-in-Mine-clause-always g c =
    let more : c.push.new.self.items ≡ c.self.inside.answers.items ++ (c.args.file, c.in_ok-answer-in-Mine.answer) ∷ [] = search rules in
    claim_continues _ _ _ c.args.file c.args.worker None ((c.args.file, c.in_ok-answer-in-Mine.answer) ∷ []) c.self.view_is refl c.in-Mine.ensures.seat more

pub returns-in_ok-push-in-Mine-clause-known : goal.returns-in_ok-push-in-Mine-clause-known
returns-in_ok-push-in-Mine-clause-known g c = subst (λ (s : Seat). IsKnown s c.args.file) (sym c.in-Mine.ensures.seat) (claim_known c.self.inside.seat c.args.file c.args.worker None)

pub returns-in_ok-push-in-Mine-clause-own : goal.returns-in_ok-push-in-Mine-clause-own
returns-in_ok-push-in-Mine-clause-own g c =
    let more : c.push.new.self.items ≡ c.self.inside.answers.items ++ (c.args.file, c.in_ok-answer-in-Mine.answer) ∷ [] = search rules in
    own_answered _ _ _ c.args.file c.args.worker c.in_ok-answer-in-Mine.answer c.self.view_is refl c.in-Mine.ensures.seat more
