use Rattle.std.proofs.Common.{◌∙◌}
use Rattle.btf_text.proofs.Weighed.{same_entry}
use Rattle.btf_text.proofs.Puts.{puts_as}
use Rattle.btf_text.proofs.diagonal.put_entry.Goals as goal

pub returns : goal.returns
returns g c =
    puts_as (same_entry c.args.weights.now (c.as_bytes-word.ensures.value ∙ c.format.ensures.text) (c.from.ensures ∙ c.row.view_is) (c.from-2.ensures ∙ c.col.view_is) c.weight-weight.ensures) c.put_line.ensures
