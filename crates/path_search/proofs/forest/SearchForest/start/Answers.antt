use Rattle.std.proofs.Common.{◌≡◌, arith}
use Rattle.bip_defs.specs.Matrix.{cols}
use Rattle.bip_defs.proofs.Sets.{col_among}
use Rattle.path_search.proofs.StartLemmas.{started_forest, started_no_path, started_matched, started_more, started_room}
use Rattle.path_search.proofs.forest.SearchForest.start.Goals.{in-Some, in-None}
use Rattle.path_search.proofs.forest.SearchForest.start.Goals as goal

pub reach-requires : goal.reach-requires
reach-requires g c = started_room _ _ _ _ c.loop-number.invariant (let end = c.cols-number-end.ensures in let below = c.loop-number-test.true in omega arith)

pub loop-number-preserved : goal.loop-number-preserved
loop-number-preserved g c = elim c.match-row_of.branch [
  | in-Some w ↦ rw w.self-is (started_matched _ _ _ _ c.loop-number.invariant (col_among _ c.loop-number.number (g.F.Opposite.seen c.args.matching.now).pairs w.in-Some.ensures.found))
  | in-None w ↦ rw (w.self-is, w.reach.ensures) (started_more _ _ _ _ c.loop-number.invariant w.in-None.ensures.none)
]

pub returns-clause-forest : goal.returns-clause-forest
returns-clause-forest g c =
    let end : c.loop-number.number ≡ cols (g.S.Side.matrix c.args.side.now) = omega (arith, c.cols-number-end.ensures, c.loop-number-test.false, c.loop-number.auto.number-end) in
    started_forest _ _ _ _ end c.loop-number.invariant

pub returns-clause-no_path : goal.returns-clause-no_path
returns-clause-no_path g c =
    let end : c.loop-number.number ≡ cols (g.S.Side.matrix c.args.side.now) = omega (arith, c.cols-number-end.ensures, c.loop-number-test.false, c.loop-number.auto.number-end) in
    started_no_path _ _ _ _ end c.loop-number.invariant
