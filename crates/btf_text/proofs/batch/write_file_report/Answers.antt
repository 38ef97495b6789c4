use Rattle.std.proofs.Common.{None, Some, ap, false, rules}
use Rattle.bip_graph.specs.Decompositions.{components_of}
use Rattle.btf_text.specs.Batches.{file_report}
use Rattle.btf_text.proofs.Puts.{bytes_of, bytes_then, written_as, written_bytes}
use Rattle.btf_text.proofs.Whole.{same_report}
use Rattle.btf_text.proofs.batch.write_file_report.Goals as goal

pub returns-clause-written : goal.returns-clause-written
returns-clause-written g c =
    written_bytes _ c.start-text.ensures (bytes_then (bytes_of c.put_line.ensures) (bytes_of c.put_without_options.ensures)) c.finish.ensures (search rules)

pub returns-clause-of_matrix : goal.returns-clause-of_matrix
returns-clause-of_matrix g c a is =
    written_as _ c.finish.result (ap (file_report c.args.number) (same_report a c.args.dec.now (Some (components_of c.args.components.now)) false None is)) (returns-clause-written g c)
