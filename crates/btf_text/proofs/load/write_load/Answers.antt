use Rattle.std.proofs.Common.{codes, rules}
use Rattle.btf_text.proofs.Parts.{same_lengths}
use Rattle.btf_text.proofs.Puts.{puts_as, puts_then, written}
use Rattle.btf_text.proofs.load.write_load.Goals as goal

pub returns : goal.returns
returns g c =
    written _ c.start-text.ensures
    (puts_then c.put_head.ensures
    (puts_then (puts_as (same_lengths (codes "horizontal") c.as_slice.ensures.value c.as_slice-2.ensures.value) c.put_lengths.ensures)
    (puts_then c.put_square.ensures
    (puts_as (same_lengths (codes "vertical") c.as_slice-3.ensures.value c.as_slice-4.ensures.value) c.put_lengths-2.ensures))))
    c.finish.ensures (search rules)
