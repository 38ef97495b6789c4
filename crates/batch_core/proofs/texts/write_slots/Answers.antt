use Rattle.std.proofs.Common.{◌+◌, ◌++◌, ◌∙◌, ap, refl, sym, subst, take, List, ℕ}
use Rattle.sp_ports.specs.Device.{Took, TookPrefix, seen}
use Rattle.batch_core.specs.BatchText.{text_of_answer, texts_of_slots}
use Rattle.batch_core.proofs.BatchTexts.{texts_begin, texts_past_none, texts_past_some}
use Rattle.batch_core.proofs.Writing.{as_failure, prefix_more}
use Rattle.batch_core.proofs.texts.write_slots.Goals as goal
use Rattle.batch_core.proofs.texts.write_slots.Goals.{in-Some+in_ok-write_answer, in_default}

pub returns-in_err-write_answer : goal.returns-in_err-write_answer
returns-in_err-write_answer g c =
    let slots = c.args.slots.now in
    let i = c.loop-i.i in
    let out = seen g.K.Sink.taken g.K.Sink.faults c.args.out.now c.write_answer.new.out in
    let done = texts_of_slots 1 (take i slots) ++ text_of_answer (i + 1) c.in-Some.answer in
    let more = texts_begin slots (i + 1) in
    let begins = more.1 ∙ ap (λ (t : List ℕ). t ++ more.0) (sym (texts_past_some slots i c.index-slots-i.result c.in-Some.answer c.loop-i-test.true c.index-slots-i.is c.in-Some.is)) in
    as_failure out _ _ c.from_residual.ensures.0
    (subst (λ (t : List ℕ). TookPrefix out t) (sym begins)
    (prefix_more out done more.0 (c.taken_in_turn.ensures.prefix _ _ _ _ (refl, refl) c.loop-i.invariant c.in_err-write_answer.ensures)))

pub loop-i-preserved : goal.loop-i-preserved
loop-i-preserved g c =
    let slots = c.args.slots.now in
    elim c.match-slot.branch [
      | in-Some+in_ok-write_answer w ↦
          rw w.out-is
          (subst (λ (t : List ℕ). Took (seen g.K.Sink.taken g.K.Sink.faults c.args.out.now w.write_answer.new.out) t)
          (texts_past_some slots c.loop-i.i c.index-slots-i.result w.in-Some.answer c.loop-i-test.true c.index-slots-i.is w.in-Some.is)
          (c.taken_in_turn.ensures.both _ _ _ _ (refl, refl) c.loop-i.invariant w.in_ok-write_answer.ensures))
      | in_default w ↦
          rw w.out-is
          (subst (λ (t : List ℕ). Took (seen g.K.Sink.taken g.K.Sink.faults c.args.out.now c.loop-i.out) t)
          (texts_past_none slots c.loop-i.i c.index-slots-i.result c.loop-i-test.true c.index-slots-i.is w.in_default.not-Some) c.loop-i.invariant)
    ]
