use Rattle.std.proofs.Common.{subst, take_all}
use Rattle.sp_pattern.specs.Mirror.{AreSymmetric}
use Rattle.sp_pattern.proofs.MirrorLemmas.{behind_within, symmetric_more}
use Rattle.sp_pattern.proofs.mirror.are_mirrored.Goals as goal

pub loop-k-preserved : goal.loop-k-preserved
loop-k-preserved c =
    let ps = c.args.places.now in
    let more = c.loop-k-test.true in
    record {
      within = (behind_within ps c.loop-k.k c.in-Some.next more c.in-Some.ensures).1;
      symmetric = symmetric_more ps c.loop-k.k c.in-Some.next more c.in-Some.ensures c.loop-k.invariant.symmetric;
    }

pub returns : goal.returns
returns c = λ h. subst AreSymmetric (take_all c.loop-k.k c.args.places.now c.loop-k-test.false) c.loop-k.invariant.symmetric
