use Rattle.std.proofs.Common.{codes}
use Rattle.btf_text.proofs.Parts.{same_number, same_numbers}
use Rattle.btf_text.proofs.Puts.{puts_as, puts_then}
use Rattle.btf_text.proofs.load.put_head.Goals as goal

pub returns : goal.returns
returns g c =
    puts_then (puts_as (same_numbers (codes "matrix") c.from.ensures c.from-2.ensures c.from-3.ensures) c.put_line.ensures)
    (puts_as (same_number (codes "rank") c.from-4.ensures) c.put_line-2.ensures)
