use Rattle.std.proofs.Common.{take, map}
use Rattle.bip_graph.specs.Texts.{counted, spaced}
use Rattle.sp_ports.specs.Device.{seen}
use Rattle.btf_text.specs.Buffered.{Appends}
use Rattle.btf_text.proofs.buffer.TextBuf.put_ids.Given as goal

abbrev pub invariant-loop-id : goal.invariant-loop-id
invariant-loop-id g l =
    Appends (seen g.K.Sink.taken g.K.Sink.faults l.fn.out l.out) l.fn.self l.self (spaced (counted (map g.N.Id.number (take l.id-index l.list))))
