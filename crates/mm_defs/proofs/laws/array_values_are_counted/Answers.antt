use Rattle.mm_defs.proofs.ArrayLemmas.{general_count, square_count}
use Rattle.mm_defs.proofs.laws.array_values_are_counted.Goals as goal

pub returns : goal.returns
returns c = record { general = general_count; square = square_count }
