use Rattle.btf_text.proofs.Puts.{puts_none, puts_then}
use Rattle.btf_text.proofs.report.put_without_options.Goals as goal

pub returns : goal.returns
returns g c =
    puts_then c.put_version.ensures (puts_then c.put_head.ensures (puts_then (puts_then (puts_then c.put_parts.ensures (puts_none _)) (puts_none _)) c.put_line.ensures))
