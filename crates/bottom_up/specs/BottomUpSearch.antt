-- What a search from free rows stands on, and what a worker has gathered in it.
use Rattle.std.specs.Prelude.{ℕ, ◌<◌, List}
use Rattle.bip_defs.specs.Forest.{State}
use Rattle.claim_words.specs.Board.{Board}
use Rattle.level_sharing.specs.Candidates.{IsSearch}

-- the board has a word for each row and each root, and these are rows of the matrix
abbrev pub IsRowSearch : State → Board → List ℕ → Type 0
IsRowSearch s b free = IsSearch s b (λ (r : ℕ). r < s.matrix.rows) free
