use Rattle.std.proofs.Common.{refl}
use Rattle.btf_text.proofs.BufferLaws.{appends_as, appends_then}
use Rattle.btf_text.proofs.Lines.{line_alone, line_ends}
use Rattle.btf_text.proofs.buffer.TextBuf.put_list.Goals as goal

pub returns : goal.returns
returns g c = record { appends = line_alone _ (appends_as _ _ (line_ends _ _ _ refl) (appends_then _ _ (appends_then _ _ c.put_piece.ensures c.put_ids.ensures) c.put_piece-2.ensures)) }
