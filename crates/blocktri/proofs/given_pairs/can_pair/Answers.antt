use Rattle.std.proofs.Common.{arith}
use Rattle.bip_defs.proofs.Sets.{row_among}
use Rattle.blocktri.proofs.CompressedLemmas.{given_rows}
use Rattle.blocktri.proofs.given_pairs.can_pair.Goals as goal

pub returns-then-row-rows : goal.returns-then-row-rows
returns-then-row-rows g c = (
  λ yes. absurd (cc),
  λ told.
      let lt = told.1.0 in
      let rows = given_rows c.args.matrix.now in
      let count = c.rows.ensures in
      let test = c.if-row-rows.true in
      absurd (omega (arith, lt, rows, count, test)),
)

pub returns-in-Some : goal.returns-in-Some
returns-in-Some g c = (λ yes. absurd (cc), λ told. absurd (told.0 (row_among c.args.row c.in-Some.field-0 c.args.matching.now.pairs c.in-Some.ensures.found)))
