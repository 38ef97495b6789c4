use Rattle.std.proofs.Common.{◌<◌, subst, sym}
use Rattle.bip_defs.proofs.Slices.{read_among}
use Rattle.edit_session.proofs.patterns.push_column.Goals as goal

pub push-requires-clause-row : goal.push-requires-clause-row
push-requires-clause-row c = subst (λ n. c.row-item.result < n) (sym c.loop-row.invariant.rows) (c.requires.rows c.row-item.result (read_among c.row-item.result c.args.rows.now c.loop-row.row-index c.loop-row-test.true c.row-item.is))
