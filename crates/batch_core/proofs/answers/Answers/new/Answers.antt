use Rattle.std.proofs.Common.{◌≡◌, ◌∙◌, ◌++◌, None, List, Option, [], ◌∷◌, ap, arith, length, subst, sym}
use Rattle.std.proofs.lemmas.List.{length-map}
use Rattle.btf_tool.specs.declared.file_answer.FileAnswer.{FileAnswer}
use Rattle.mm_frames.specs.Batches.{files_of}
use Rattle.batch_core.specs.Shares.{AreSlotsOf, empty_slots}
use Rattle.batch_core.proofs.SlotLemmas.{empty_are, empty_more}
use Rattle.batch_core.proofs.answers.Answers.new.Goals as goal

pub loop-preserved : goal.loop-preserved
loop-preserved c = c.in_ok-push.ensures.items ∙ ap (λ (xs : List (Option FileAnswer)). xs ++ None ∷ []) c.loop.invariant ∙ empty_more c.loop.counter

pub invariant_of-result : goal.invariant_of-result
invariant_of-result c =
    let all : c.loop.counter ≡ length (files_of c.args.files.now) = let k = c.loop.auto.counter-end in let t = c.loop-test.false in simp (length-map) (omega (arith, k, t)) in
    (c.requires, subst (λ (slots : List (Option FileAnswer)). AreSlotsOf (files_of c.args.files.now) slots) (sym (c.loop.invariant ∙ ap empty_slots all)) (empty_are (files_of c.args.files.now)))
