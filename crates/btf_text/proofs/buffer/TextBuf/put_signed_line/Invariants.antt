use Rattle.std.proofs.Common.{◌++◌, take}
use Rattle.btf_text.specs.Diagonals.{signed_spaced}
use Rattle.sp_ports.specs.Device.{seen}
use Rattle.btf_text.specs.Buffered.{Appends}
use Rattle.btf_text.proofs.buffer.TextBuf.put_signed_line.Given as goal

abbrev pub invariant-loop-number : goal.invariant-loop-number
invariant-loop-number g l =
    Appends (seen g.K.Sink.taken g.K.Sink.faults l.fn.out l.out) l.fn.self l.self (l.word ++ signed_spaced (take l.number-index l.numbers))
