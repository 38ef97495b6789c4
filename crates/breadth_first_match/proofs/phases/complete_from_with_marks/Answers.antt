use Rattle.std.proofs.Common.{◌∙◌}
use Rattle.std.proofs.lemmas.Result.{IfOk-weaker}
use Rattle.bip_defs.proofs.Covers.{covers_more, covers_none}
use Rattle.breadth_first_match.proofs.phases.complete_from_with_marks.Goals as goal

pub loop-phase-init : goal.loop-phase-init
loop-phase-init g c = record {
  ready = record {
    rows = c.in_ok-forest.ensures.rows ∙ c.rows.ensures;
    cols = c.in_ok-forest.ensures.cols ∙ c.cols.ensures;
    matching = c.requires.matching;
  };
  covered = covers_none _;
}

pub loop-phase-preserved : goal.loop-phase-preserved
loop-phase-preserved g c =
    let e = c.grow.ensures in
    let k = c.loop-phase.invariant in
    record {
      ready = e.ready;
      covered = covers_more k.covered e.covered;
    }

pub returns-clause-covered : goal.returns-clause-covered
returns-clause-covered g c = IfOk-weaker c.complete_by_shortest.result _ _ (λ m k. covers_more c.loop-phase.invariant.covered k) c.complete_by_shortest.ensures.covered
