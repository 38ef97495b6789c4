use Rattle.std.proofs.Common.{append-nil, sym}
use Rattle.std.proofs.lemmas.List.{take_all}
use Rattle.btf_text.proofs.BufferLaws.{appends_as, appends_then}
use Rattle.btf_text.proofs.Lines.{line_alone, numbers_go_on, line_ends}
use Rattle.btf_text.proofs.buffer.TextBuf.put_line.Goals as goal

pub loop-number-init : goal.loop-number-init
loop-number-init g c = appends_as _ _ (sym (append-nil _)) c.put_piece.ensures

pub loop-number-preserved : goal.loop-number-preserved
loop-number-preserved g c = appends_as _ _ (numbers_go_on _ _ _ _ c.loop-number-test.true) (appends_then _ _ c.loop-number.invariant c.put_number.ensures)

pub returns : goal.returns
returns g c = record { appends = line_alone _ (appends_as _ _ (line_ends _ _ _ (take_all _ _ c.loop-number-test.false)) (appends_then _ _ c.loop-number.invariant c.put_piece-2.ensures)) }
