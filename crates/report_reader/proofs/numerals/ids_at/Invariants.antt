use Rattle.std.proofs.Common.{suc, length, map}
use Rattle.report_reader.specs.ReportGrammar.{ids_at}
use Rattle.report_reader.proofs.IdLists.{GoesOn}
use Rattle.report_reader.proofs.numerals.ids_at.Given as goal

abbrev pub invariant-loop-rest : goal.invariant-loop-rest
invariant-loop-rest g l = GoesOn (map g.N.Id.number l.ids.items) l.rest (ids_at (suc (length l.bytes)) l.bytes)

abbrev pub decreases-loop-rest : goal.decreases-loop-rest
decreases-loop-rest g l = length l.rest
