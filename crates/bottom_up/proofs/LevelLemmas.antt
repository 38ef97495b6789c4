-- A level that workers share, up from free rows.
use Rattle.std.proofs.Common.{◌≡◌, ℕ, List, length, subst, sym}
use Rattle.bip_defs.specs.Forest.{State}
use Rattle.bottom_up.specs.declared.search.BottomUpSearch.{BottomUpSearch}
use Rattle.claim_words.specs.Board.{Board}
use Rattle.claim_words.specs.WorkerState.{WorkerState}
use Rattle.level_sharing.specs.Agreement.{Agree}
use Rattle.level_sharing.specs.LevelWork.{IsLevel}
use Rattle.level_sharing.specs.Progress.{GoesOn, IsAtStart, IsThroughRows}
use Rattle.level_sharing.specs.Shares.{share_of, shares_of_rows}

-- the workers' part is a level on this forest, and a worker that has done it is through with its
-- share
pub record IsUp (s : State) (b : Board) (free : List ℕ) (ws : List WorkerState) (t : BottomUpSearch) : Type 0 where
  pub level : IsLevel s (shares_of_rows free (length ws)) b (λ i w. IsAtStart t.forest.now t.board.now t.workers i w) (λ i v w. GoesOn t.forest.now (shares_of_rows t.free.now t.workers i) v w) ws
  pub through : (i : ℕ) (w : WorkerState) → IsThroughRows t.forest.now (share_of t.free.now t.workers i) w → IsThroughRows s (share_of free (length ws) i) w

is_up : (t : BottomUpSearch) (ws : List WorkerState) → t.workers ≡ length ws → Agree t.board.now ws t.forest.now.claims t.forest.now.leaves → IsUp t.forest.now t.board.now t.free.now ws t
is_up t ws many agree = record {
  level = record {
    agree = agree;
    begins = λ i w h. subst (λ n. IsAtStart t.forest.now t.board.now n i w) (sym many) h;
    advances = λ i v w h. subst (λ n. GoesOn t.forest.now (shares_of_rows t.free.now n i) v w) many h;
  };
  through = λ i w h. subst (λ n. IsThroughRows t.forest.now (share_of t.free.now n i) w) many h;
}

pub up_same : (t : BottomUpSearch) (s : State) (b : Board) (free : List ℕ) (ws : List WorkerState) → t.forest.now ≡ s → t.board.now ≡ b → t.free.now ≡ free → t.workers ≡ length ws → Agree b ws s.claims s.leaves → IsUp s b free ws t
up_same t s b free ws e f g many agree =
    let here = is_up t ws many (subst (λ (z : Board). Agree z ws t.forest.now.claims t.forest.now.leaves) (sym f) (subst (λ (z : State). Agree b ws z.claims z.leaves) (sym e) agree)) in
    subst (λ z. IsUp s b z ws t) g (subst (λ z. IsUp s z t.free.now ws t) f (subst (λ z. IsUp z t.board.now t.free.now ws t) e here))
