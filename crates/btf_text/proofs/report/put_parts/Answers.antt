use Rattle.std.proofs.Common.{codes}
use Rattle.btf_text.proofs.Parts.{same_part}
use Rattle.btf_text.proofs.Puts.{puts_as, puts_then}
use Rattle.btf_text.proofs.report.put_parts.Goals as goal

pub returns : goal.returns
returns g c =
    puts_then
    (puts_then
    (puts_then
    (puts_then (puts_as (same_part (codes "horizontal") c.as_slice.ensures.value c.as_slice-2.ensures.value) c.put_part.ensures) c.put_horizontal.ensures)
    (puts_then c.put_square.ensures c.put_blocks.ensures))
    (puts_as (same_part (codes "vertical") c.as_slice-3.ensures.value c.as_slice-4.ensures.value) c.put_part-2.ensures))
    c.put_vertical.ensures
