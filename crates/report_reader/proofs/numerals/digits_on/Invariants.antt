use Rattle.std.proofs.Common.{◌≡◌, ◌<◌, ◌^◌, drop}
use Rattle.report_reader.specs.ReportGrammar.{digits_on}
use Rattle.report_reader.proofs.numerals.digits_on.Given as goal

abbrev pub invariant-loop-at : goal.invariant-loop-at
invariant-loop-at l = record { fits : l.value < 2 ^ 32; same : digits_on l.value (drop l.at l.bytes) ≡ digits_on l.first l.bytes }
