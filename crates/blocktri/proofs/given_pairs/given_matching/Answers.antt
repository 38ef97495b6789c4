use Rattle.std.proofs.Common.{◌≡◌, ◌≢◌, ◌∙◌, arith, length, refl, slice_index, sym}
use Rattle.bip_graph.specs.Matching.{none}
use Rattle.blocktri.specs.Compressed.{matrix_given}
use Rattle.blocktri.proofs.CompressedLemmas.{given_cols, given_rows}
use Rattle.blocktri.proofs.PairLemmas.{pair_allowed, paired_all, paired_more, paired_none}
use Rattle.blocktri.proofs.given_pairs.given_matching.Goals as goal
use Rattle.blocktri.proofs.given_pairs.given_matching.Goals.{then-row+else-not-can_pair, else-row}

pub returns-then-not-can_pair-clause-refused : goal.returns-then-not-can_pair-clause-refused
returns-then-not-can_pair-clause-refused g c =
    let l = c.args.matrix.now in
    let xs = c.args.row_of_column.now in
    let at = c.loop-at.at in
    let test = c.if-row.true in
    let some : slice_index xs at ≢ none = λ e. absurd (test e) in
    let inside = c.loop-at-test.true in
    let room = c.requires.room in
    let columns = given_cols l in (
      tt,
      record {
        compressed = c.requires.compressed;
        holds = record {
          within = omega (arith, inside, room, columns);
          before = c.loop-at.invariant.paired.right;
          wrong = λ right.
              let yes = c.can_pair.ensures.1 (pair_allowed (matrix_given l) xs at (slice_index xs at) c.loop-at.matching.pairs refl some c.loop-at.invariant.paired right) in
              let no = c.if-not-can_pair.true in
              absurd (cc);
        };
      },
    )

pub pair-requires-clause-row_in_range : goal.pair-requires-clause-row_in_range
pair-requires-clause-row_in_range g c =
    let lt = (c.if-not-can_pair.ensures.0 refl).1.0 in
    let rows = given_rows c.args.matrix.now in
    let count = c.loop-at.invariant.rows in
    omega (arith, lt, rows, count)

pub pair-requires-clause-col_free : goal.pair-requires-clause-col_free
pair-requires-clause-col_free g c = λ on. let lt = c.loop-at.invariant.paired.before c.loop-at.at on in omega (arith, lt)

pub loop-at-preserved : goal.loop-at-preserved
loop-at-preserved g c =
    let a = matrix_given c.args.matrix.now in
    let xs = c.args.row_of_column.now in
    let at = c.loop-at.at in
    let inv = c.loop-at.invariant in
    elim c.if-row.branch [
      | then-row+else-not-can_pair w ↦
          let test = w.if-row.true in
          let some : slice_index xs at ≢ none = λ e. absurd (test e) in
          rw w.matching-is (record {
            rows = w.pair.ensures.sizes.0 ∙ inv.rows;
            cols = w.pair.ensures.sizes.1 ∙ inv.cols;
            pairing = w.pair.ensures.pairing;
            paired = paired_more a xs at (slice_index xs at) c.loop-at.matching.pairs w.pair.new.self.pairs refl some (w.if-not-can_pair.ensures.0 refl) w.pair.ensures.added inv.paired;
          })
      | else-row w ↦
          let empty : slice_index xs at ≡ none = w.if-row.false in
          rw w.matching-is (record {
            rows = inv.rows;
            cols = inv.cols;
            pairing = inv.pairing;
            paired = paired_none a xs at c.loop-at.matching.pairs empty inv.paired;
          })
    ]

pub returns-clause-given : goal.returns-clause-given
returns-clause-given g c =
    let l = c.args.matrix.now in
    let xs = c.args.row_of_column.now in
    let stop = c.loop-at-test.false in
    let until = c.loop-at.auto.at-end in
    paired_all (matrix_given l) xs c.loop-at.matching c.loop-at.at (c.loop-at.invariant.rows ∙ sym (given_rows l)) (c.loop-at.invariant.cols ∙ sym (given_cols l)) (c.requires.room ∙ sym (given_cols l)) (omega (arith, stop, until)) c.loop-at.invariant.pairing c.loop-at.invariant.paired
