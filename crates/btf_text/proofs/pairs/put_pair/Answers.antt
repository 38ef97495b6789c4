use Rattle.std.proofs.Common.{◌∙◌}
use Rattle.btf_text.proofs.Mates.{same_pair}
use Rattle.btf_text.proofs.Puts.{puts_as}
use Rattle.btf_text.proofs.pairs.put_pair.Goals as goal

pub returns : goal.returns
returns g c = puts_as (same_pair (c.as_bytes-word.ensures.value ∙ c.format.ensures.text) (c.from.ensures ∙ c.row.view_is) (c.from-2.ensures ∙ c.col.view_is)) c.put_line.ensures
