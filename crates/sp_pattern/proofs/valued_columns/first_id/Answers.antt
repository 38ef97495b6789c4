use Rattle.std.proofs.Common.{◌≡◌, ◌+◌, arith, get_or}
use Rattle.sp_pattern.proofs.ColumnLemmas.{part_place}
use Rattle.sp_pattern.proofs.valued_columns.first_id.Goals as goal

pub unreachable-requires : goal.unreachable-requires
unreachable-requires g c =
    let ids = g.N.NumberList.numbers c.args.ids in
    let starts = g.N.NumberList.numbers c.args.starts in
    let from : c.at-from.result ≡ get_or starts c.args.col 0 = rw c.col.view_is at c.at-from.ensures in
    let to : c.at-to.result ≡ get_or starts (c.args.col + 1) 0 = rw c.col.view_is at c.at-to.ensures in
    let (k, low, high, is) = part_place ids (get_or starts c.args.col 0) (get_or starts (c.args.col + 1) 0) c.args.row c.requires.within c.requires.given in
    let end = c.loop-k-test.false in
    c.loop-k.invariant k (omega (arith, from, low)) (omega (arith, to, high, end)) is
