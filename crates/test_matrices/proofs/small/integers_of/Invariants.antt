use Rattle.std.proofs.Common.{◌≡◌}
use Rattle.sp_ids.specs.declared.triples.Field.TheVariants.{Integer}
use Rattle.test_matrices.proofs.small.integers_of.Given as goal

abbrev pub invariant-loop-row : goal.invariant-loop-row
invariant-loop-row l = l.triples.field ≡ Integer
