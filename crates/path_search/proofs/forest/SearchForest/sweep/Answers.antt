use Rattle.std.proofs.Common.{arith}
use Rattle.bip_defs.proofs.Covers.{covers_more}
use Rattle.path_search.proofs.HorizontalLemmas.{grown_marks}
use Rattle.path_search.proofs.SweepLemmas.{forest_short, grown_end, grown_more}
use Rattle.path_search.proofs.forest.SearchForest.sweep.Goals as goal

pub loop-place-smaller : goal.loop-place-smaller
loop-place-smaller g c = let short = forest_short _ _ _ c.batch-place.ensures.grown.growing.forest in let later = c.batch-place.ensures.end in omega arith

pub loop-place-preserved : goal.loop-place-preserved
loop-place-preserved g c =
    let k = c.loop-place.invariant in
    let e = c.batch-place.ensures in
    record {
      growing = e.grown.growing;
      within = e.end.1;
      covered = covers_more k.covered e.grown.covered;
      grown = grown_more _ _ _ _ _ _ _ _ k.grown e.progresses;
    }

pub returns-clause-maximum : goal.returns-clause-maximum
returns-clause-maximum g c = grown_end _ _ _ _ _ c.loop-place.invariant.grown c.loop-place.invariant.growing.matching.matching (omega arith)

pub returns-clause-marks : goal.returns-clause-marks
returns-clause-marks g c same = grown_marks _ _ _ _ _ c.loop-place.invariant.grown c.loop-place.invariant.growing.forest c.loop-place.invariant.growing.matching.matching (omega arith) same
