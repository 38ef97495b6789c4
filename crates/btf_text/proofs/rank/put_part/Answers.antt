use Rattle.btf_text.proofs.Parts.{part-empty, part-lists}
use Rattle.btf_text.proofs.Puts.{puts_as, puts_then}
use Rattle.btf_text.proofs.rank.put_part.Goals as goal

pub returns-then-rows-cols-eq0 : goal.returns-then-rows-cols-eq0
returns-then-rows-cols-eq0 g c = puts_as (part-empty _ _ _ c.if-rows-cols-eq0.true) c.put_line.ensures

pub returns : goal.returns
returns g c = puts_as (part-lists _ _ _ c.if-rows-cols-eq0.false) (puts_then c.put_line.ensures (puts_then c.put_list.ensures c.put_list-2.ensures))
