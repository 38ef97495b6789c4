use Rattle.std.proofs.Common.{take}
use Rattle.bip_defs.specs.Matrix.{AreEntries}
use Rattle.analysis_tests.proofs.diagonal_texts.are_entries.Given as goal

abbrev pub invariant-loop-pair : goal.invariant-loop-pair
invariant-loop-pair l = AreEntries l.pattern (take l.pair-index l.pairs)
