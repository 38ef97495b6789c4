use Rattle.std.proofs.Common.{map, take}
use Rattle.btf_text.specs.Diagonals.{entry_line}
use Rattle.btf_text.specs.Texts.{Puts}
use Rattle.btf_text.proofs.diagonal.put_entries.Given as goal

abbrev pub invariant-loop-pair : goal.invariant-loop-pair
invariant-loop-pair g l =
    Puts g.K.Sink.taken g.K.Sink.faults l.fn.text l.text (map (entry_line l.weights) (take l.pair-index l.pairs))
