use Rattle.std.proofs.Common.{ap, rules}
use Rattle.std.specs.Option.{option_copied}
use Rattle.bip_graph.specs.Answers.{where_asked}
use Rattle.bip_graph.specs.Texts.{report_text}
use Rattle.btf_text.specs.Reports.{components_in}
use Rattle.btf_text.proofs.Puts.{puts_then, written, written_as}
use Rattle.btf_text.proofs.Whole.{same_report}
use Rattle.btf_text.proofs.report.write_report.Goals as goal

pub returns-clause-written : goal.returns-clause-written
returns-clause-written g c =
    written _ c.start-text.ensures
    (puts_then c.put_version.ensures (puts_then c.put_head.ensures (puts_then (puts_then (puts_then c.put_parts.ensures c.put_orders.ensures) c.put_pairs.ensures) c.put_line.ensures)))
    c.finish.ensures (search rules)

pub returns-clause-of_matrix : goal.returns-clause-of_matrix
returns-clause-of_matrix g c a is =
    written_as _ c.finish.result
    (ap report_text (same_report a c.args.dec.now (components_in (option_copied c.args.components)) c.args.order (where_asked c.args.pairs c.args.matching.now.pairs) is)) (returns-clause-written g c)
