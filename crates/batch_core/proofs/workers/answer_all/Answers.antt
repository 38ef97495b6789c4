use Rattle.std.proofs.Common.{◌∙◌, ℕ, List, subst, sym}
use Rattle.mm_frames.specs.Batches.{files_of}
use Rattle.batch_core.specs.Shares.{AreAnswers}
use Rattle.batch_core.proofs.WorkerLemmas.{last_files, other_files}
use Rattle.batch_core.proofs.workers.answer_all.Goals as goal

pub put_all-requires : goal.put_all-requires
put_all-requires g c =
    let same = last_files (files_of c.args.files.now) c.loop-share.shares.items c.pop.new.self.items c.in-Some.share c.in-Some.ensures.items c.loop-share.invariant.1 in
    subst (λ (fs : List (List ℕ)). AreAnswers fs c.into_parts-seat.result.1.items) (same ∙ sym c.loop-share.invariant.0) c.into_parts-seat.ensures.right

pub loop-share-preserved : goal.loop-share-preserved
loop-share-preserved g c = (
  c.put_all.ensures ∙ c.loop-share.invariant.0,
  other_files (files_of c.args.files.now) c.loop-share.shares.items c.pop.new.self.items c.in-Some.share c.in-Some.ensures.items c.loop-share.invariant.1,
)
