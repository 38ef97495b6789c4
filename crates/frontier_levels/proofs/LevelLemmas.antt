-- A level that workers share, down from the frontier.
use Rattle.std.proofs.Common.{◌≡◌, ℕ, List, length, subst, sym}
use Rattle.bip_defs.specs.Forest.{State}
use Rattle.claim_words.specs.Board.{Board}
use Rattle.claim_words.specs.WorkerState.{WorkerState}
use Rattle.frontier_levels.specs.TopDownSearch.{IsColumnSearch}
use Rattle.frontier_levels.specs.declared.levels.TopDown.{TopDown}
use Rattle.level_sharing.specs.Agreement.{Agree}
use Rattle.level_sharing.specs.LevelWork.{IsLevel}
use Rattle.level_sharing.specs.Progress.{GoesOn, IsAtStart, IsThroughColumns}
use Rattle.level_sharing.specs.Shares.{share_of, shares_by_columns}

-- the workers' part is a level on this forest, and a worker that has done it is through with its
-- share
pub record IsDown (s : State) (b : Board) (cols : List ℕ) (ws : List WorkerState) (t : TopDown) : Type 0 where
  pub level : IsLevel s (shares_by_columns cols (length ws)) b (λ i w. IsColumnSearch t.forest.now t.board.now t.frontier.now × IsAtStart t.forest.now t.board.now t.workers i w) (λ i v w. GoesOn t.forest.now (shares_by_columns t.frontier.now t.workers i) v w) ws
  pub through : (i : ℕ) (w : WorkerState) → IsThroughColumns t.forest.now (share_of t.frontier.now t.workers i) w → IsThroughColumns s (share_of cols (length ws) i) w

is_down : (t : TopDown) (ws : List WorkerState) → t.workers ≡ length ws → Agree t.board.now ws t.forest.now.claims t.forest.now.leaves → IsColumnSearch t.forest.now t.board.now t.frontier.now → IsDown t.forest.now t.board.now t.frontier.now ws t
is_down t ws many agree search_over = record {
  level = record {
    agree = agree;
    begins = λ i w h. (search_over, subst (λ n. IsAtStart t.forest.now t.board.now n i w) (sym many) h);
    advances = λ i v w h. subst (λ n. GoesOn t.forest.now (shares_by_columns t.frontier.now n i) v w) many h;
  };
  through = λ i w h. subst (λ n. IsThroughColumns t.forest.now (share_of t.frontier.now n i) w) many h;
}

pub down_same : (u t : TopDown) (ws : List WorkerState) → t ≡ u → u.workers ≡ length ws → Agree u.board.now ws u.forest.now.claims u.forest.now.leaves → IsColumnSearch u.forest.now u.board.now u.frontier.now → IsDown u.forest.now u.board.now u.frontier.now ws t
down_same u t ws e many agree search_over = subst (IsDown u.forest.now u.board.now u.frontier.now ws) (sym e) (is_down u ws many agree search_over)
