use Rattle.std.proofs.Common.{◌∙◌, arith}
use Rattle.bip_defs.proofs.Covers.{covers_more, covers_none}
use Rattle.bip_defs.proofs.Full.{matching_few}
use Rattle.pothen_fan.proofs.Phases.{roots_still}
use Rattle.pothen_fan.proofs.Roots.{roots_hold}
use Rattle.pothen_fan.proofs.longer.lengthen_from.Goals as goal

pub loop-longer-init : goal.loop-longer-init
loop-longer-init g c = record {
  ready = record {
    rows = c.in_ok-search.ensures.rows ∙ c.rows.ensures;
    cols = c.in_ok-search.ensures.cols ∙ c.cols.ensures;
    matching = c.requires.matching;
  };
  roots = roots_hold _ _ _ c.in_ok-roots.ensures;
  covered = covers_none _;
  grown = omega arith;
}

pub loop-longer-smaller : goal.loop-longer-smaller
loop-longer-smaller g c =
    let e = c.grow-growth.ensures in
    let few = matching_few (g.S.Side.matrix c.args.side.now) (g.F.Opposite.seen c.grow-growth.new.matching).pairs e.ready.matching.matching in
    let more = e.growth in
    omega (arith, c.if-growth-eq0.false)

pub loop-longer-preserved : goal.loop-longer-preserved
loop-longer-preserved g c =
    let e = c.grow-growth.ensures in
    let k = c.loop-longer.invariant in
    let longer = e.growth in
    record {
      ready = e.ready;
      roots = roots_still _ _ _ _ e.covered k.roots;
      covered = covers_more k.covered e.covered;
      grown = let le = k.grown in omega (arith, le, longer);
    }

pub returns-then-not-pays-clause-covered : goal.returns-then-not-pays-clause-covered
returns-then-not-pays-clause-covered g c = covers_more c.loop-longer.invariant.covered c.grow-growth.ensures.covered
