-- States of a board's table.
use Rattle.std.proofs.Common.{ℕ, List}
use Rattle.atomic_table.specs.Table.{State}

-- the same slots, with other words and views
abbrev pub with_words : {S V : Type 0} → State S V → List ℕ → List V → State S V
with_words s words views = record { words = words; homes = s.homes; views = views }
