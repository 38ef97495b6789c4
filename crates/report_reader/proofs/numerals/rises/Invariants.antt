use Rattle.std.proofs.Common.{◌≡◌, drop, map}
use Rattle.report_reader.specs.ReportGrammar.{rises, rises_from}
use Rattle.report_reader.proofs.numerals.rises.Given as goal

abbrev pub invariant-loop-id : goal.invariant-loop-id
invariant-loop-id g l = rises_from l.least (map g.N.Id.number (drop l.id-index l.list)) ≡ rises (map g.N.Id.number l.list)
