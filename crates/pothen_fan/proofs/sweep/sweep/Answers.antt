use Rattle.std.proofs.Common.{◌≡◌, length, take, arith, ap, ◌∙◌, subst}
use Rattle.std.proofs.Math.Seq.{take-length}
use Rattle.std.proofs.lemmas.List.{take_more}
use Rattle.bip_defs.proofs.Covers.{covers_more}
use Rattle.pothen_fan.proofs.Phases.{Progress, progress_ends, progress_marks, progress_more}
use Rattle.bip_defs.proofs.Slices.{read_among, read_at}
use Rattle.pothen_fan.proofs.sweep.sweep.Goals as goal

pub extend-requires-clause-root : goal.extend-requires-clause-root
extend-requires-clause-root g c = c.requires.roots.in_range _ (read_among _ c.args.roots.now _ c.loop-root-test.true c.root-item.is)

pub loop-root-preserved : goal.loop-root-preserved
loop-root-preserved g c =
    let roots = c.args.roots.now in
    let at = read_at _ 0 roots _ c.loop-root-test.true c.root-item.is in
    record {
      ready = c.extend.ensures.ready;
      progress = rw (take_more roots c.loop-root.root-index 0 c.loop-root-test.true, ← at) (progress_more _ _ _ _ _ _ _ _ c.loop-root.invariant.progress c.extend.ensures.extends);
      covered = covers_more c.loop-root.invariant.covered c.extend.ensures.covered;
    }

pub returns-clause-maximum : goal.returns-clause-maximum
returns-clause-maximum g c =
    let roots = c.args.roots.now in
    let all : take c.loop-root.root-index roots ≡ roots = (let e : c.loop-root.root-index ≡ length roots = (let to = c.loop-root.auto.root-index-end in let past = c.loop-root-test.false in omega arith) in ap (λ k. take k roots) e ∙ take-length roots) in
    progress_ends _ _ _ _ roots (subst (λ xs. Progress (g.S.Side.matrix c.args.side.now) (g.F.Opposite.seen c.args.matching.now) (g.F.Opposite.seen c.loop-root.matching) c.loop-root.search.marks xs) all c.loop-root.invariant.progress) c.requires.roots c.loop-root.invariant.ready.matching.matching

pub returns-clause-marks : goal.returns-clause-marks
returns-clause-marks g c same =
    let roots = c.args.roots.now in
    let all : take c.loop-root.root-index roots ≡ roots = (let e : c.loop-root.root-index ≡ length roots = (let to = c.loop-root.auto.root-index-end in let past = c.loop-root-test.false in omega arith) in ap (λ k. take k roots) e ∙ take-length roots) in
    progress_marks _ _ _ _ roots (c.marked_rows_are_horizontal.ensures _ _ _) (subst (λ xs. Progress (g.S.Side.matrix c.args.side.now) (g.F.Opposite.seen c.args.matching.now) (g.F.Opposite.seen c.loop-root.matching) c.loop-root.search.marks xs) all c.loop-root.invariant.progress) c.requires.roots c.loop-root.invariant.ready.matching.matching c.loop-root.invariant.ready.rows same
