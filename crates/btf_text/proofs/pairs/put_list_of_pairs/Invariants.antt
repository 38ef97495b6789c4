use Rattle.std.proofs.Common.{codes, length, map, ◌∷◌, []}
use Rattle.bip_graph.specs.Texts.{line, pair_line}
use Rattle.btf_text.specs.Columns.{pairs_before}
use Rattle.btf_text.specs.Texts.{Puts}
use Rattle.btf_text.proofs.pairs.put_list_of_pairs.Given as goal

abbrev pub invariant-loop-col : goal.invariant-loop-col
invariant-loop-col g l =
    Puts g.K.Sink.taken g.K.Sink.faults l.fn.text l.text
    (line (codes "pairs") (length l.matching.pairs ∷ []) ∷ map pair_line (pairs_before l.col l.matching.pairs))
