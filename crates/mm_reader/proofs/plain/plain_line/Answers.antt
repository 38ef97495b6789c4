use Rattle.mm_reader.proofs.PlainLaws.{plain_found}
use Rattle.mm_reader.proofs.plain.plain_line.Goals as goal

pub returns : goal.returns
returns c =
    let p = c.in-Some.ensures in
    plain_found c.args.field c.args.bytes.now c.args.from p.row_end p.col_start c.in-Some.place.end c.in_ok-value.value_end c.in_ok-next.next c.in-Some.place.row c.in-Some.place.col c.in_ok-value.value
    p.row_digits p.row_some p.blanks p.apart p.col_digits p.col_some c.in_ok-value.ensures c.in_ok-next.ensures
