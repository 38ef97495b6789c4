use Rattle.std.proofs.Common.{rules}
use Rattle.btf_text.proofs.Puts.{bytes_of, bytes_then, written_bytes}
use Rattle.btf_text.proofs.batch.write_file_fault.Goals as goal

pub returns : goal.returns
returns g c = written_bytes _ c.start-text.ensures (bytes_then (bytes_of c.put_line.ensures) c.put_piece.ensures) c.finish.ensures (search rules)
