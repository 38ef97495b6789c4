-- The work of a level, from what each worker leaves.
use Rattle.std.proofs.Common.{◌≡◌, ◌∙◌, ℕ, suc, List, [], ◌∷◌, length, refl, ap}
use Rattle.bip_defs.specs.Forest.{State}
use Rattle.claim_words.specs.Board.{Board}
use Rattle.claim_words.specs.WorkerState.{WorkerState}
use Rattle.level_sharing.specs.Each.{EachFrom, EachPairFrom}
use Rattle.level_sharing.specs.Level.{HaveProgressed, Level, WordsTell}
use Rattle.level_sharing.specs.LevelWork.{GoesThrough, IsLevel, LeavesLevel}
use Rattle.level_sharing.specs.Progress.{GoesOn}
use Rattle.level_sharing.specs.Shares.{Share}
use Rattle.level_sharing.proofs.GrownForests.{columns_after, leaves, new_claims_of, new_wins_of, places, rows_after, settled_after, shown}
use Rattle.level_sharing.proofs.LevelLemmas.{all_began, all_keep, as_many, at_start, keep_same}
use Rattle.level_sharing.proofs.ProgressLemmas.{progress_here}

each_weaker : {X : Type 0} (P Q : ℕ → X → Type 0) → ((i : ℕ) (x : X) → P i x → Q i x) → (n : ℕ) (xs : List X) → EachFrom P n xs → EachFrom Q n xs
each_weaker P Q f n [] h = tt
each_weaker P Q f n (x ∷ xs) (p, h) = (f n x p, each_weaker P Q f (suc n) xs h)

each_pair_weaker : {X : Type 0} (P Q : ℕ → X → X → Type 0) → ((i : ℕ) (x y : X) → P i x y → Q i x y) → (n : ℕ) (xs ys : List X) → EachPairFrom P n xs ys → EachPairFrom Q n xs ys
each_pair_weaker P Q f n [] [] h = tt
each_pair_weaker P Q f n [] (y ∷ ys) h = absurd h
each_pair_weaker P Q f n (x ∷ xs) [] h = absurd h
each_pair_weaker P Q f n (x ∷ xs) (y ∷ ys) (p, h) = (f n x y p, each_pair_weaker P Q f (suc n) xs ys h)

each_pair_many : {X : Type 0} (P : ℕ → X → X → Type 0) (n : ℕ) (xs ys : List X) → EachPairFrom P n xs ys → length ys ≡ length xs
each_pair_many P n [] [] h = refl
each_pair_many P n [] (y ∷ ys) h = absurd h
each_pair_many P n (x ∷ xs) [] h = absurd h
each_pair_many P n (x ∷ xs) (y ∷ ys) (p, h) = ap suc (each_pair_many P (suc n) xs ys h)

-- Before the level, and when each worker has done its part.

pub may_begin : (s : State) (own : ℕ → Share) (b : Board) (can_begin : ℕ → WorkerState → Type 0) (leaves : ℕ → WorkerState → WorkerState → Type 0) (ws : List WorkerState) → IsLevel s own b can_begin leaves ws → EachFrom can_begin 0 ws
may_begin s own b can_begin leaves ws is = each_weaker _ can_begin is.begins 0 ws (at_start s b ws is.agree.listed.all_workers is.agree.no_claims)

pub progressed : (s : State) (own : ℕ → Share) (leaves : ℕ → WorkerState → WorkerState → Type 0) (vs ws : List WorkerState) → ((i : ℕ) (v w : WorkerState) → leaves i v w → GoesOn s (own i) v w) → EachPairFrom leaves 0 vs ws → HaveProgressed s own vs ws
progressed s own leaves vs ws advances = each_pair_weaker leaves _ (λ i v w h. advances i v w h v (progress_here s (own i) v)) 0 vs ws

-- After the level.

pub leaves_level : (l : Level) → WordsTell l → LeavesLevel l.forest l.own l.board l.before l.gathered
leaves_level l t = record {
  legal = record { claims = new_claims_of l t; places = places l t; wins = new_wins_of l t; leaves = leaves l t };
  words = shown l t;
  shares = keep_same l.own 0 l.after l.gathered l.fresh (all_keep l.forest l.own 0 l.before l.after (all_began l.forest l.own 0 l.before l.after l.progress l.agree.no_claims l.agree.no_wins));
  many = as_many l.after l.gathered l.fresh ∙ each_pair_many _ 0 l.before l.after l.progress;
}

pub goes_through : (l : Level) (completes : ℕ → WorkerState → WorkerState → Type 0) → WordsTell l → EachPairFrom completes 0 l.before l.after → GoesThrough l.forest completes (length l.before) l.gathered
goes_through l completes t each = record {
  settled = λ has. settled_after l completes has t each;
  columns = λ cols through c. columns_after l cols c t (each_pair_weaker completes _ through 0 l.before l.after each);
  rows = λ rows through r c. rows_after l rows r c t (each_pair_weaker completes _ through 0 l.before l.after each);
}
