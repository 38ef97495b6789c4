use Rattle.bip_defs.proofs.Covers.{covers_more}
use Rattle.breadth_first_match.proofs.PhaseLemmas.{last_phase, on_false, phases_fall}
use Rattle.breadth_first_match.proofs.shortest.complete_by_shortest.Goals as goal

pub loop-grows-smaller : goal.loop-grows-smaller
loop-grows-smaller g c =
    let e = c.in_ok-grows.ensures in
    rw c.loop-grows-test.true (phases_fall _ _ _ _ e.phase.grown e.phase.maximum e.ready.forest.matching.matching)

pub loop-grows-preserved : goal.loop-grows-preserved
loop-grows-preserved g c =
    let e = c.in_ok-grows.ensures in
    let k = c.loop-grows.invariant in
    record {
      ready = e.ready;
      last = last_phase _ _ _ _ e.phase.grown e.phase.maximum;
      marks = λ none. on_false c.in_ok-grows.grows none e.phase.marks;
      covered = covers_more k.covered e.covered;
    }
