-- What the workers' fresh lists do to a forest.
use Rattle.std.specs.Prelude.{◌⊎◌, ℕ, List}
use Rattle.bip_defs.specs.Forest.{HasWon, InForest, IsUsedUp, State, grown_by}
use Rattle.bip_defs.specs.Lists.{Among}
use Rattle.bip_defs.specs.Matching.{rows_of}
use Rattle.bip_defs.specs.Matrix.{IsEntry}
use Rattle.claim_words.specs.Board.{Board}
use Rattle.claim_words.specs.WorkerState.{WorkerState, fresh_claims_of, fresh_wins_of}
use Rattle.level_sharing.specs.Agreement.{Shows}
use Rattle.sp_ids.specs.Events.{claims_then_wins}
use Rattle.sp_ids.specs.declared.events.Event.{Event}

-- the workers' fresh claims in the order of workers, and then their fresh wins
abbrev pub fresh_events : List WorkerState → List Event
fresh_events ws = claims_then_wins (fresh_claims_of ws) (fresh_wins_of ws)

-- the forest with all these
abbrev pub grown : State → List WorkerState → State
grown s ws = grown_by s (fresh_claims_of ws) (fresh_wins_of ws)

-- board and workers show the forest with all these
abbrev pub ShowsGrown : Board → State → List WorkerState → Type 0
ShowsGrown b s ws = Shows b ws (grown s ws).claims (grown s ws).leaves

-- in the forest with all these, each of the columns has a root with a leaf, or all its rows are
-- claimed
abbrev pub AreSearched : State → List WorkerState → List ℕ → Type 0
AreSearched s ws columns = (c : ℕ) → Among c columns
    → HasWon (grown s ws) c ⊎ IsUsedUp (grown s ws) c

-- in the forest with all these, each of the rows is claimed, or the root of each column with an
-- entry in it that was in the forest before has a leaf
abbrev pub AreAttached : State → List WorkerState → List ℕ → Type 0
AreAttached s ws rows = (r c : ℕ) → Among r rows → IsEntry s.matrix r c → InForest s c
    → Among r (rows_of (grown s ws).claims) ⊎ HasWon (grown s ws) c
