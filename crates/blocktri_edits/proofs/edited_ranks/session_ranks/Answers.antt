use Rattle.std.proofs.Common.{◌≡◌, ◌∙◌, ◌+◌, ◌<◌, ap, arith, length, subst, sym}
use Rattle.bip_defs.specs.Matrix.{Matrix, cols}
use Rattle.blocktri_edits.specs.Edits.{edit_at, edit_list}
use Rattle.blocktri_edits.proofs.EditSteps.{HaveRanks, all_ranked, cols_after, matrix_after, rank_more, rows_after}
use Rattle.blocktri_edits.proofs.edited_ranks.session_ranks.Goals as goal

pub rank_after-requires-clause-within : goal.rank_after-requires-clause-within
rank_after-requires-clause-within g c =
    let listed : c.loop-at.at < length c.args.places.now.sets = omega (arith, c.loop-at-test.true, c.count-count.ensures) in
    let within = c.requires.within c.loop-at.at listed in
    (rw c.loop-at.invariant.rows within.0, rw c.loop-at.invariant.cols_are within.1)

pub loop-at-preserved : goal.loop-at-preserved
loop-at-preserved g c =
    let a = c.args.session.matrix in
    let b = c.loop-at.session.matrix in
    let e = c.args.places.now in
    let i = c.loop-at.at in
    let told = c.in_ok-rank_after.ensures in
    let listed : i < length e.sets = omega (arith, c.loop-at-test.true, c.count-count.ensures) in
    let is = told.matrix ∙ matrix_after a b e i listed c.loop-at.invariant.matrix in
    record {
      ranks = subst (HaveRanks a (edit_list e) (i + 1)) (sym c.in_ok-push.ensures.items) (rank_more a c.rank_after.new.session.matrix (edit_list e) i c.in_ok-rank_after.field-0 c.loop-at.ranks.items c.loop-at.invariant.ranks is told.rank);
      matrix = is;
      rows = ap (λ (m : Matrix). m.rows) told.matrix ∙ rows_after b (edit_at e i) ∙ c.loop-at.invariant.rows;
      cols_are = ap cols told.matrix ∙ cols_after b (edit_at e i) ∙ c.loop-at.invariant.cols_are;
    }

pub returns-clause-ranks : goal.returns-clause-ranks
returns-clause-ranks g c =
    let all : c.loop-at.at ≡ length c.args.places.now.sets = omega (arith, c.loop-at.auto.at-end, c.loop-at-test.false, c.count-count.ensures) in
    all_ranked c.args.session.matrix c.args.places.now c.loop-at.at c.loop-at.ranks.items all c.loop-at.invariant.ranks
