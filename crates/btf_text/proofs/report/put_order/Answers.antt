use Rattle.btf_text.proofs.Orders.{three_ends}
use Rattle.btf_text.proofs.Puts.{bytes_as, bytes_then, line_of}
use Rattle.btf_text.proofs.report.put_order.Goals as goal

pub returns : goal.returns
returns g c =
    line_of _
    (bytes_as (three_ends g.N.Id.number _ _ _ _)
    (bytes_then (bytes_then (bytes_then (bytes_then c.put_piece.ensures c.put_ids.ensures) c.put_ids-2.ensures) c.put_ids-3.ensures) c.put_piece-2.ensures))
