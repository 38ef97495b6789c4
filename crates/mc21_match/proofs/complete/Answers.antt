use Rattle.std.proofs.Common.{◌∙◌, arith}
use Rattle.bip_defs.proofs.Covers.{covers_more, covers_none}
use Rattle.bip_defs.proofs.Closed.{closed_maximum}
use Rattle.mc21_match.proofs.complete.Goals as goal

pub loop-number-init : goal.loop-number-init
loop-number-init c = record {
  matching = c.requires.matching;
  searched = record {
    rows = c.in_ok-search.ensures.rows ∙ c.rows.ensures;
    cols = c.in_ok-search.ensures.cols ∙ c.cols.ensures;
    closed = λ r h. absurd (c.in_ok-search.ensures.marks r h);
    searched = λ x lt. absurd (omega arith);
  };
  covered = covers_none _;
}

pub loop-number-preserved : goal.loop-number-preserved
loop-number-preserved c = record {
  matching = c.extend.ensures.matching;
  searched = c.extend.ensures.searched;
  covered = covers_more c.loop-number.invariant.covered c.extend.ensures.covered;
}

pub returns-clause-maximum : goal.returns-clause-maximum
returns-clause-maximum c =
    let k = c.loop-number.invariant in
    record {
      matching = k.matching;
      maximum = closed_maximum _ _ _ k.matching.matching k.searched.closed (λ x lt free. k.searched.searched x (omega arith) free);
    }
