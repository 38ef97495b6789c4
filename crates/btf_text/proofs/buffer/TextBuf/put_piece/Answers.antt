use Rattle.btf_text.proofs.BufferLaws.{appends_kept}
use Rattle.btf_text.proofs.buffer.TextBuf.put_piece.Goals as goal

pub returns : goal.returns
returns g c = appends_kept _ _ _ c.make_room.ensures.same c.add.ensures.bytes c.add.ensures.failed
