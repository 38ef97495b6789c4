-- What a worker has gathered from free rows, and what is covered by it.
use Rattle.std.proofs.Common.{◌≡◌, ℕ, List, [], ◌∷◌, ◌++◌, refl, sym, subst, inl, inr, ⊎_elim}
use Rattle.bip_defs.specs.Forest.{State}
use Rattle.bip_defs.specs.Lists.{Among}
use Rattle.bip_defs.proofs.Sets.{among_last, among_left, among_right}
use Rattle.claim_words.specs.Board.{Board}
use Rattle.claim_words.specs.WorkerState.{WorkerState}
use Rattle.bottom_up.specs.Candidates.{FitsRows, IsCandidate, IsCoveredRow, RowsStayCovered}
use Rattle.level_sharing.specs.Candidates.{HasGathered}
use Rattle.level_sharing.specs.Progress.{CanClaim, HasSettled, IsThroughRow}
use Rattle.level_sharing.specs.Shares.{IsOwn, Share}
use Rattle.level_sharing.specs.declared.candidate.Candidate.{Candidate}

-- Candidates.

pub may_claim : (s : State) (own : Share) (x : Candidate) → IsOwn own (x.row, x.col) → IsCandidate s x → CanClaim s own x.row x.col x.root x.free
may_claim s own x mine k = record { is_own = mine; entry = k.entry; inside = k.inside; rooted = k.rooted; mated = k.mated; is_free = k.is_free }

-- another state of the worker
pub gathered_on : (s : State) (b : Board) (IsSo : Candidate → Type 0) (v w : WorkerState) (xs : List Candidate) → w.seat.board ≡ b → HasSettled s w → HasGathered s b IsSo v xs → HasGathered s b IsSo w xs
gathered_on s b IsSo v w xs seat settled g = record { seat = seat; settled = settled; each = g.each }

-- one candidate more
pub gathered_more : (s : State) (b : Board) (rows : List ℕ) (w : WorkerState) (xs : List Candidate) (x : Candidate) → Among x.row rows → IsCandidate s x → HasGathered s b (FitsRows s rows) w xs → HasGathered s b (FitsRows s rows) w (xs ++ x ∷ [])
gathered_more s b rows w xs x own can g = record {
  seat = g.seat;
  settled = g.settled;
  each = λ y m. ⊎_elim (λ k. g.each y k) (λ (e : y ≡ x). subst (FitsRows s rows) (sym e) (own, can)) (among_last y x xs m);
}

-- What is covered.

pub stays_through : (s : State) (v w : WorkerState) (xs : List Candidate) → ((r : ℕ) → IsThroughRow s v r → IsThroughRow s w r) → RowsStayCovered s v xs w xs
stays_through s v w xs on r (inl t) = inl (on r t)
stays_through s v w xs on r (inr c) = inr c

pub stays_more : (s : State) (w : WorkerState) (xs : List Candidate) (x : Candidate) → RowsStayCovered s w xs w (xs ++ x ∷ [])
stays_more s w xs x r (inl t) = inl t
stays_more s w xs x r (inr (y, m, e)) = inr (y, among_left y xs (x ∷ []) m, e)

pub covered_last : (s : State) (w : WorkerState) (xs : List Candidate) (x : Candidate) → IsCoveredRow s w (xs ++ x ∷ []) x.row
covered_last s w xs x = inr (x, among_right x xs (x ∷ []) (inl refl), refl)

-- each candidate is through, and so is what was covered
pub covered_through : (s : State) (v w : WorkerState) (xs : List Candidate) → ((r : ℕ) → IsThroughRow s v r → IsThroughRow s w r) → ((x : Candidate) → Among x xs → IsThroughRow s w x.row) → (r : ℕ) → IsCoveredRow s v xs r → IsThroughRow s w r
covered_through s v w xs on all r (inl t) = on r t
covered_through s v w xs on all r (inr (x, m, e)) = subst (IsThroughRow s w) e (all x m)
