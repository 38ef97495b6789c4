-- What a search from the frontier down has gathered and claimed so far.
use Rattle.std.proofs.Common.{◌≡◌, ◌∙◌, ◌⊎◌, ℕ, ◌<◌, List, [], ◌∷◌, ◌++◌, length, refl, sym, subst, inl, inr, ⊎_elim}
use Rattle.bip_defs.specs.Forest.{State}
use Rattle.bip_defs.specs.Lists.{Among}
use Rattle.bip_defs.specs.Matrix.{column}
use Rattle.bip_defs.proofs.Sets.{among_last, among_left, among_right}
use Rattle.claim_words.specs.Board.{Board}
use Rattle.claim_words.specs.WorkerState.{WorkerState}
use Rattle.frontier_levels.specs.TopDownSearch.{FitsColumns, IsCoveredColumn, StaysCovered}
use Rattle.level_sharing.specs.Candidates.{HasGathered, IsCovered, IsDecided, Remembers}
use Rattle.level_sharing.specs.Progress.{CanClaim, HasSettled, IsThroughColumn, KnowsHolder, KnowsLeaf}
use Rattle.level_sharing.specs.Shares.{by_columns}
use Rattle.level_sharing.specs.declared.candidate.Candidate.{Candidate}

-- Candidates.

-- another state of the worker
pub gathered_on : (s : State) (b : Board) (IsSo : Candidate → Type 0) (v w : WorkerState) (xs : List Candidate) → w.seat.board ≡ v.seat.board → (HasSettled s v → HasSettled s w) → HasGathered s b IsSo v xs → HasGathered s b IsSo w xs
gathered_on s b IsSo v w xs seat settled g = record { seat = seat ∙ g.seat; settled = settled g.settled; each = g.each }

-- one candidate more
pub gathered_more : (s : State) (b : Board) (columns : List ℕ) (w : WorkerState) (xs : List Candidate) (x : Candidate) → CanClaim s (by_columns columns) x.row x.col x.root x.free → (x.row < length b.rows) × (x.root < length b.roots) → HasGathered s b (FitsColumns s b columns) w xs → HasGathered s b (FitsColumns s b columns) w (xs ++ x ∷ [])
gathered_more s b columns w xs x can on_board g = record {
  seat = g.seat;
  settled = g.settled;
  each = λ y m. ⊎_elim (λ k. g.each y k) (λ (e : y ≡ x). subst (FitsColumns s b columns) (sym e) (can, on_board)) (among_last y x xs m);
}

-- What is covered.

pub stays_on : (u : WorkerState) (xs : List Candidate) (v : WorkerState) (ys : List Candidate) (w : WorkerState) (zs : List Candidate) → StaysCovered u xs v ys → StaysCovered v ys w zs → StaysCovered u xs w zs
stays_on u xs v ys w zs p q = record { leaf = λ root k. q.leaf root (p.leaf root k); covered = λ row root k. q.covered row root (p.covered row root k) }

pub stays_known : (s : State) (v w : WorkerState) (xs : List Candidate) → Remembers s v w → StaysCovered v xs w xs
stays_known s v w xs r = record { leaf = r.leaf; covered = r.covered xs }

pub stays_more : (w : WorkerState) (xs : List Candidate) (x : Candidate) → StaysCovered w xs w (xs ++ x ∷ [])
stays_more w xs x = record { leaf = λ root k. k; covered = covered }
  where
    covered : (row root : ℕ) → IsCovered w xs row root → IsCovered w (xs ++ x ∷ []) row root
    covered row root (inl d) = inl d
    covered row root (inr (y, m, e, f)) = inr (y, among_left y xs (x ∷ []) m, e, f)

pub covered_last : (w : WorkerState) (xs : List Candidate) (x : Candidate) → IsCovered w (xs ++ x ∷ []) x.row x.root
covered_last w xs x = inr (x, among_right x xs (x ∷ []) (inl refl), refl, refl)

pub column_stays : (s : State) (v w : WorkerState) (xs ys : List Candidate) (c : ℕ) → StaysCovered v xs w ys → IsCoveredColumn s v xs c → IsCoveredColumn s w ys c
column_stays s v w xs ys c stays (x, root, inl k) = (x, root, inl (stays.leaf x k))
column_stays s v w xs ys c stays (x, root, inr all) = (x, root, inr (λ r m. stays.covered r x (all r m)))

-- each row of a list is held or the root has a leaf: the root has a leaf, or all rows are held
all_or_leaf : (w : WorkerState) (x : ℕ) (rows : List ℕ) → ((r : ℕ) → Among r rows → IsDecided w r x) → KnowsLeaf w x ⊎ ((r : ℕ) → Among r rows → KnowsHolder w r)
all_or_leaf w x [] f = inr (λ r m. absurd m)
all_or_leaf w x (r ∷ rows) f = ⊎_elim
    (λ (held_by : KnowsHolder w r). ⊎_elim
    (λ (leaf : KnowsLeaf w x). inl leaf)
    (λ (all : (q : ℕ) → Among q rows → KnowsHolder w q). inr (λ q m. ⊎_elim (λ (e : q ≡ r). subst (λ z. KnowsHolder w z) (sym e) held_by) (λ k. all q k) m))
    (all_or_leaf w x rows (λ q m. f q (inr m))))
    (λ (leaf : KnowsLeaf w x). inl leaf)
    (f r (inl refl))

-- once the candidates are claimed
pub through_column : (s : State) (v w : WorkerState) (xs : List Candidate) (c : ℕ) → ((x : ℕ) → KnowsLeaf v x → KnowsLeaf w x) → ((r x : ℕ) → IsCovered v xs r x → IsDecided w r x) → IsCoveredColumn s v xs c → IsThroughColumn s w c
through_column s v w xs c leaf decided (x, root, inl k) = inl (x, root, leaf x k)
through_column s v w xs c leaf decided (x, root, inr all) = ⊎_elim
    (λ (k : KnowsLeaf w x). inl (x, root, k))
    (λ (held_by : (r : ℕ) → Among r (column s.matrix c) → KnowsHolder w r). inr (λ r e. held_by r e.1))
    (all_or_leaf w x (column s.matrix c) (λ r m. decided r x (all r m)))
