-- A level: each worker has made some progress, and then their seats were gathered.
use Rattle.std.specs.Prelude.{◌≡◌, ℕ, List, length}
use Rattle.bip_defs.specs.Forest.{State}
use Rattle.claim_words.specs.Board.{Board, Words}
use Rattle.claim_words.specs.Settles.{KnowWords, SettlesAll}
use Rattle.claim_words.specs.WorkerState.{AreAllWorkers, WorkerState, fresh_claims_of, fresh_lists, fresh_wins_of, seats_of}
use Rattle.level_sharing.specs.Agreement.{Agree, HaveFresh}
use Rattle.level_sharing.specs.Each.{EachPairFrom}
use Rattle.level_sharing.specs.Growth.{grown}
use Rattle.level_sharing.specs.Progress.{IsThroughColumns, IsThroughRows, Progress}
use Rattle.level_sharing.specs.Shares.{Share, share_of}

-- each worker, by its number, has made progress with its own
abbrev pub HaveProgressed : State → (ℕ → Share) → List WorkerState → List WorkerState → Type 0
HaveProgressed s own before after = EachPairFrom
    (λ (i : ℕ). λ (v w : WorkerState). Progress s (own i) v w) 0 before after

-- Board and workers agreed with the forest. Then the workers went through the level, each with its
-- own share, and at last their seats were gathered. This left the fresh lists, and told the words
-- that the lists account for
pub record Level : Type 0 where
  pub board : Board
  pub forest : State
  pub own : ℕ → Share
  pub before : List WorkerState
  pub after : List WorkerState
  pub gathered : List WorkerState
  pub agree : Agree board before forest.claims forest.leaves
  pub progress : HaveProgressed forest own before after
  pub all_workers : AreAllWorkers board gathered
  pub fresh : fresh_lists gathered ≡ fresh_lists after
  pub words : Words
  pub settles : SettlesAll board words (seats_of after)
  pub settles_gathered : SettlesAll board words (seats_of gathered)

-- what `gather` tells of workers, and the words that it found
abbrev pub AreGathered : Board → List WorkerState → List WorkerState → Type 0
AreGathered b after gathered = AreAllWorkers b gathered × (fresh_lists gathered ≡ fresh_lists after)
    × ((words : Words) × SettlesAll b words (seats_of after) × SettlesAll b words (seats_of gathered))

-- the level of workers that went through it and were gathered
abbrev pub level_of : (b : Board) (s : State) (own : ℕ → Share)
    (before after gathered : List WorkerState) → Agree b before s.claims s.leaves
    → HaveProgressed s own before after → AreGathered b after gathered → Level
level_of b s own before after gathered agree progress (all_workers, fresh, (words, settles, again)) =
    record {
      board = b;
      forest = s;
      own = own;
      before = before;
      after = after;
      gathered = gathered;
      agree = agree;
      progress = progress;
      all_workers = all_workers;
      fresh = fresh;
      words = words;
      settles = settles;
      settles_gathered = again;
    }

-- What the words tell of a level. The fresh lists are of new words, the words hold the old claims
-- and leaves with the fresh ones, and what a worker knew stands
pub record WordsTell (l : Level) : Type 0 where
  pub all : AreAllWorkers l.board l.after
  pub same_claims : fresh_claims_of l.gathered ≡ fresh_claims_of l.after
  pub same_wins : fresh_wins_of l.gathered ≡ fresh_wins_of l.after
  pub fresh : HaveFresh l.words l.after l.forest.claims l.forest.leaves
  pub known : KnowWords l.board l.words (seats_of l.after)

-- the forest that the level leaves
abbrev pub forest_after : Level → State
forest_after l = grown l.forest l.gathered

-- each worker is through with its share of these columns, or of these rows
abbrev pub AreThroughColumns : Level → List ℕ → Type 0
AreThroughColumns l cols = EachPairFrom (λ (i : ℕ). λ (v w : WorkerState).
    IsThroughColumns l.forest (share_of cols (length l.before) i) w) 0 l.before l.after

abbrev pub AreThroughRows : Level → List ℕ → Type 0
AreThroughRows l rows = EachPairFrom (λ (i : ℕ). λ (v w : WorkerState).
    IsThroughRows l.forest (share_of rows (length l.before) i) w) 0 l.before l.after
