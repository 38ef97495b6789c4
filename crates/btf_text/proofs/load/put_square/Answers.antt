use Rattle.btf_text.proofs.Parts.{same_square}
use Rattle.btf_text.proofs.Puts.{puts_as}
use Rattle.btf_text.proofs.load.put_square.Goals as goal

pub returns : goal.returns
returns g c = puts_as (same_square _ c.all_rows-rows.ensures c.len.ensures) c.put_line.ensures
