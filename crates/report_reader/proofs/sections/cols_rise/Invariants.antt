use Rattle.std.proofs.Common.{◌≡◌, drop}
use Rattle.bip_defs.specs.Matching.{cols_of}
use Rattle.report_reader.specs.ReportGrammar.{rises, rises_from}
use Rattle.report_reader.proofs.sections.cols_rise.Given as goal

abbrev pub invariant-loop-pair : goal.invariant-loop-pair
invariant-loop-pair l = rises_from l.least (cols_of (drop l.pair-index l.pairs)) ≡ rises (cols_of l.pairs)
