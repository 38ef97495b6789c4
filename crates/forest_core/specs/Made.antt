-- The events of a list that were made one after the other: the forest that they leave, and how many
-- they are.
use Rattle.std.specs.Prelude.{◌≡◌, ℕ, ◌+◌, ◌<◌, ◌≤◌, List, length, slice_index_or, take}
use Rattle.bip_defs.specs.Forest.{State}
use Rattle.bip_defs.specs.Matching.{IsMatching}
use Rattle.bip_defs.specs.Matrix.{Matrix, Place}
use Rattle.forest_core.specs.Current.{IsCurrent}
use Rattle.forest_core.specs.Events.{IsLegal, Runs, flips}
use Rattle.sp_ids.specs.declared.events.Event.{Event}
use Rattle.sp_ids.specs.declared.events.Event.TheVariants.{Done}

-- the first so many events lead from this forest to that one
abbrev pub AreMade : State → List Event → State × ℕ → Type 0
AreMade s events made = Runs s (take made.1 events) made.0

-- the event behind them, if there is one, is not legal
abbrev pub IsLongest : List Event → State × ℕ → Type 0
IsLongest events made = (made.1 ≤ length events)
    × (made.1 < length events → ¬ IsLegal made.0 (slice_index_or events made.1 Done))

-- the forest has a current matching, a matching of the matrix that is larger than the first by the
-- number of flips
abbrev pub IsGrownBy : Matrix → List Place → List Event → State × ℕ → Type 0
IsGrownBy a first events made = (m : List Place) × IsCurrent made.0 m × IsMatching a m
    × (length m ≡ length first + flips (take made.1 events))
