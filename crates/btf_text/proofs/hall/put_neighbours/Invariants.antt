use Rattle.std.proofs.Common.{◌++◌, filter}
use Rattle.bip_defs.specs.Matrix.{touches, upto}
use Rattle.bip_graph.specs.Texts.{counted, spaced}
use Rattle.btf_text.specs.Texts.{PutsBytes}
use Rattle.btf_text.proofs.hall.put_neighbours.Given as goal

abbrev pub invariant-loop-row : goal.invariant-loop-row
invariant-loop-row g l =
    PutsBytes g.K.Sink.taken g.K.Sink.faults l.fn.text l.text
    (l.word ++ spaced (counted (filter (touches (g.M.RowLookup.matrix l.matrix) l.hall) (upto l.row))))
