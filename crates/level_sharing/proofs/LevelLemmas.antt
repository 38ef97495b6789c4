-- What a level does to the forest, from what each worker has done.
use Rattle.std.proofs.Common.{◌≡◌, ◌∙◌, ℕ, suc, ◌+◌, List, [], ◌∷◌, ◌++◌, length, refl, sym, ap, subst, arith}
use Rattle.bip_defs.specs.Forest.{State}
use Rattle.bip_defs.specs.Lists.{Among, numbers_of}
use Rattle.bip_defs.specs.Matrix.{Place}
use Rattle.bip_defs.proofs.Sets.{row_among}
use Rattle.claim_words.specs.Board.{Board}
use Rattle.claim_words.specs.Seat.{AreNumbered}
use Rattle.claim_words.specs.WorkerState.{AreAllWorkers, seats_of, HaveGrown, WorkerState, fresh_claims_of, fresh_lists, fresh_wins_of}
use Rattle.level_sharing.specs.Each.{EachFrom, EachPairFrom}
use Rattle.level_sharing.specs.Progress.{IsAtStart, Progress}
use Rattle.level_sharing.proofs.ProgressLemmas.{fresh_claims_grow, fresh_wins_grow}
use Rattle.level_sharing.specs.Shares.{KeepsTo, Share}

-- the workers have grown
pub lists_grow : (s : State) (own : ℕ → Share) (i : ℕ) (vs ws : List WorkerState) → EachPairFrom (λ (j : ℕ). λ (v w : WorkerState). Progress s (own j) v w) i vs ws → HaveGrown vs ws
lists_grow s own i [] [] p = tt
lists_grow s own i [] (w ∷ ws) p = absurd p
lists_grow s own i (v ∷ vs) [] p = absurd p
lists_grow s own i (v ∷ vs) (w ∷ ws) (p, ps) = ((p.more, p.grown), lists_grow s own (suc i) vs ws ps)

-- The lists of a worker that began with empty fresh lists.

pub record Began (s : State) (own : Share) (v w : WorkerState) : Type 0 where
  pub progress : Progress s own v w
  pub no_claims : v.fresh_claims ≡ []
  pub no_wins : v.fresh_wins ≡ []

none_left : {X : Type 0} (xs ys : List X) → xs ++ ys ≡ [] → xs ≡ []
none_left [] ys e = refl
none_left (x ∷ xs) ys e = cc

none_right : {X : Type 0} (xs ys : List X) → xs ++ ys ≡ [] → ys ≡ []
none_right [] ys e = e
none_right (x ∷ xs) ys e = cc

pub all_began : (s : State) (own : ℕ → Share) (i : ℕ) (vs ws : List WorkerState) → EachPairFrom (λ (j : ℕ). λ (v w : WorkerState). Progress s (own j) v w) i vs ws
    → fresh_claims_of vs ≡ [] → fresh_wins_of vs ≡ [] → EachPairFrom (λ (j : ℕ). λ (v w : WorkerState). Began s (own j) v w) i vs ws
all_began s own i [] [] p c x = tt
all_began s own i [] (w ∷ ws) p c x = absurd p
all_began s own i (v ∷ vs) [] p c x = absurd p
all_began s own i (v ∷ vs) (w ∷ ws) (p, ps) c x = (
  record { progress = p; no_claims = none_left v.fresh_claims (fresh_claims_of vs) c; no_wins = none_left v.fresh_wins (fresh_wins_of vs) x },
  all_began s own (suc i) vs ws ps (none_right v.fresh_claims (fresh_claims_of vs) c) (none_right v.fresh_wins (fresh_wins_of vs) x),
)

pub fresh_claims_are : (s : State) (own : Share) (v w : WorkerState) (b : Began s own v w) → w.fresh_claims ≡ b.progress.more.claims
fresh_claims_are s own v w b = fresh_claims_grow s own v w b.progress ∙ ap (λ l. l ++ b.progress.more.claims) b.no_claims

pub fresh_wins_are : (s : State) (own : Share) (v w : WorkerState) (b : Began s own v w) → w.fresh_wins ≡ b.progress.more.wins
fresh_wins_are s own v w b = fresh_wins_grow s own v w b.progress ∙ ap (λ l. l ++ b.progress.more.wins) b.no_wins

keeps : (s : State) (own : Share) (v w : WorkerState) → Began s own v w → KeepsTo own w
keeps s own v w b = record {
  claims = λ p m. b.progress.own_claims p (subst (λ (l : List Place). Among p l) (fresh_claims_are s own v w b) m);
  wins = λ p m. let leaf = b.progress.leaves p.0 p.1 (subst (λ (l : List (ℕ × ℕ)). Among p l) (fresh_wins_are s own v w b) m) in
      row_among p.1 leaf.1.0 w.fresh_claims leaf.1.1;
}

pub all_keep : (s : State) (own : ℕ → Share) (i : ℕ) (vs ws : List WorkerState) → EachPairFrom (λ (j : ℕ). λ (v w : WorkerState). Began s (own j) v w) i vs ws → EachFrom (λ (j : ℕ). λ (w : WorkerState). KeepsTo (own j) w) i ws
all_keep s own i [] [] p = tt
all_keep s own i [] (w ∷ ws) p = absurd p
all_keep s own i (v ∷ vs) [] p = absurd p
all_keep s own i (v ∷ vs) (w ∷ ws) (p, ps) = (keeps s (own i) v w p, all_keep s own (suc i) vs ws ps)

-- Workers with the same fresh lists.

head_same : {X : Type 0} (x y : X) (xs ys : List X) → x ∷ xs ≡ y ∷ ys → x ≡ y
head_same x y xs ys e = cc

tail_same : {X : Type 0} (x y : X) (xs ys : List X) → x ∷ xs ≡ y ∷ ys → xs ≡ ys
tail_same x y xs ys e = cc

claims_of_one : (w u : WorkerState) → ◌≡◌ {A = List (ℕ × ℕ) × List (ℕ × ℕ)} (u.fresh_claims, u.fresh_wins) (w.fresh_claims, w.fresh_wins) → u.fresh_claims ≡ w.fresh_claims
claims_of_one w u e = ap (λ (p : List (ℕ × ℕ) × List (ℕ × ℕ)). p.0) e

wins_of_one : (w u : WorkerState) → ◌≡◌ {A = List (ℕ × ℕ) × List (ℕ × ℕ)} (u.fresh_claims, u.fresh_wins) (w.fresh_claims, w.fresh_wins) → u.fresh_wins ≡ w.fresh_wins
wins_of_one w u e = ap (λ (p : List (ℕ × ℕ) × List (ℕ × ℕ)). p.1) e

keeps_same : (own : Share) (w u : WorkerState) → u.fresh_claims ≡ w.fresh_claims → u.fresh_wins ≡ w.fresh_wins → KeepsTo own w → KeepsTo own u
keeps_same own w u c x k = record {
  claims = λ p m. k.claims p (subst (λ (l : List Place). Among p l) c m);
  wins = λ p m. subst (λ (l : List Place). Among p.1 (numbers_of l)) (sym c) (k.wins p (subst (λ (l : List (ℕ × ℕ)). Among p l) x m));
}

pub keep_same : (own : ℕ → Share) (i : ℕ) (ws us : List WorkerState) → fresh_lists us ≡ fresh_lists ws → EachFrom (λ (j : ℕ). λ (w : WorkerState). KeepsTo (own j) w) i ws → EachFrom (λ (j : ℕ). λ (w : WorkerState). KeepsTo (own j) w) i us
keep_same own i [] [] e h = tt
keep_same own i [] (u ∷ us) e h = absurd cc
keep_same own i (w ∷ ws) [] e h = absurd cc
keep_same own i (w ∷ ws) (u ∷ us) e (h, hs) = let one = head_same _ _ _ _ e in (keeps_same (own i) w u (claims_of_one w u one) (wins_of_one w u one) h, keep_same own (suc i) ws us (tail_same _ _ _ _ e) hs)

pub as_many : (ws us : List WorkerState) → fresh_lists us ≡ fresh_lists ws → length us ≡ length ws
as_many [] [] e = refl
as_many [] (u ∷ us) e = absurd cc
as_many (w ∷ ws) [] e = absurd cc
as_many (w ∷ ws) (u ∷ us) e = ap suc (as_many ws us (tail_same _ _ _ _ e))

-- Workers at the start of a level.

start_from : (s : State) (b : Board) (many number : ℕ) (ws : List WorkerState) → number + length ws ≡ many → AreNumbered b number (seats_of ws) → fresh_claims_of ws ≡ [] → EachFrom (λ (i : ℕ). λ (w : WorkerState). IsAtStart s b many i w) number ws
start_from s b many number [] e h none = tt
start_from s b many number (w ∷ ws) e (board, is_number, h) none = (
  record {
    few = omega (arith, e);
    seat = board;
    settled = λ r c m. absurd (subst (λ (l : List Place). Among (r, c) l) (none_left w.fresh_claims (fresh_claims_of ws) none) m);
  },
  start_from s b many (suc number) ws (omega (arith, e)) (let same : 1 + number ≡ suc number = omega arith in subst (λ n. AreNumbered b n (seats_of ws)) same h) (none_right w.fresh_claims (fresh_claims_of ws) none),
)

pub at_start : (s : State) (b : Board) (ws : List WorkerState) → AreAllWorkers b ws → fresh_claims_of ws ≡ [] → EachFrom (λ (i : ℕ). λ (w : WorkerState). IsAtStart s b (length ws) i w) 0 ws
at_start s b [] h none = absurd h
at_start s b (w ∷ ws) (board, zero_is, count, h) none = (
  record {
    few = omega arith;
    seat = board;
    settled = λ r c m. absurd (subst (λ (l : List Place). Among (r, c) l) (none_left w.fresh_claims (fresh_claims_of ws) none) m);
  },
  start_from s b (length (w ∷ ws)) 1 ws (omega arith) h (none_right w.fresh_claims (fresh_claims_of ws) none),
)
