-- The progress of one worker, step by step.
use Rattle.std.proofs.Common.{◌≡◌, ◌∙◌, ℕ, List, [], ◌∷◌, ◌++◌, Bool, Option, None, Some, is_some, false, true, true≢false, refl, sym, ap, subst, ⊎_elim, inl, inr, append_assoc, append-nil}
use Rattle.bip_defs.specs.Forest.{InForest, State}
use Rattle.bip_defs.specs.Lists.{Among}
use Rattle.bip_defs.specs.Matching.{rows_of}
use Rattle.bip_defs.specs.Matrix.{IsEntry, Place}
use Rattle.bip_defs.proofs.Sets.{among_either, among_left, among_right}
use Rattle.claim_words.specs.Listed.{Listed, Sight, claimed, followed_by, looked, nothing, root_word, row_word, won}
use Rattle.claim_words.specs.Seat.{with_listed}
use Rattle.claim_words.specs.WorkerState.{WorkerState, with_more, work_after_claim, work_after_look, work_after_win}
use Rattle.level_sharing.specs.Candidates.{HasAdvanced, IsDecided}
use Rattle.level_sharing.specs.Progress.{CanClaim, HasSettled, IsLeafFor, IsThroughRow, KnowsHolder, KnowsLeaf, KnowsWon, Progress}
use Rattle.level_sharing.specs.Shares.{IsOwn, Share, of_rows}

one : {X : Type 0} (P : X → Type 0) (x : X) → P x → (y : X) → Among y (x ∷ []) → P y
one P x p y (inl e) = subst P (sym e) p
one P x p y (inr h) = absurd h

pub if_found : {Q : Type 0} (o : Option ℕ) → is_some o ≡ true → ((x : ℕ) → o ≡ Some x → Q) → Q
if_found None e f = absurd (true≢false (sym e))
if_found (Some x) e f = f x refl

pub fresh_claims_grow : (s : State) (own : Share) (v w : WorkerState) (p : Progress s own v w) → w.fresh_claims ≡ v.fresh_claims ++ p.more.claims
fresh_claims_grow s own v w p = ap (λ (u : WorkerState). u.fresh_claims) p.grown

pub fresh_wins_grow : (s : State) (own : Share) (v w : WorkerState) (p : Progress s own v w) → w.fresh_wins ≡ v.fresh_wins ++ p.more.wins
fresh_wins_grow s own v w p = ap (λ (u : WorkerState). u.fresh_wins) p.grown

leaf_stays : (s : State) (own : Share) (v w : WorkerState) (x r : ℕ) → Progress s own v w → IsLeafFor s v x r → IsLeafFor s w x r
leaf_stays s own v w x r p (free, (c, claimed, root)) = (free, (c, subst (λ (l : List Place). Among (r, c) l) (sym (fresh_claims_grow s own v w p)) (among_left (r, c) v.fresh_claims p.more.claims claimed), root))

-- Steps.

-- a worker that has listed no claim and no win
progress_without : (s : State) (own : Share) (v w : WorkerState) (more : Listed) → w ≡ with_more v more → more.claims ≡ [] → more.wins ≡ [] → Progress s own v w
progress_without s own v w more e no_claims no_wins = record {
  more = more;
  grown = e;
  own_claims = λ p m. absurd (subst (λ (l : List Place). Among p l) no_claims m);
  entries = λ r c m. absurd (subst (λ (l : List Place). Among (r, c) l) no_claims m);
  leaves = λ x r m. absurd (subst (λ (l : List (ℕ × ℕ)). Among (x, r) l) no_wins m);
}

pub progress_here : (s : State) (own : Share) (w : WorkerState) → Progress s own w w
progress_here s own w = progress_without s own w w nothing (sym same) refl refl
  where
    same : with_more w nothing ≡ w
    same = λ i. record {
      seat = with_listed w.seat (record { claims = append-nil w.seat.listed.claims i; wins = append-nil w.seat.listed.wins i; seen = append-nil w.seat.listed.seen i });
      fresh_claims = append-nil w.fresh_claims i;
      fresh_wins = append-nil w.fresh_wins i;
    }

pub progress_look : (s : State) (own : Share) (w : WorkerState) (sight : Sight) → Progress s own w (work_after_look w sight)
progress_look s own w sight = progress_without s own w (work_after_look w sight) (looked nothing sight) (sym adds) refl refl
  where
    adds : with_more w (looked nothing sight) ≡ work_after_look w sight
    adds = λ i. record {
      seat = with_listed w.seat (record { claims = append-nil w.seat.listed.claims i; wins = append-nil w.seat.listed.wins i; seen = w.seat.listed.seen ++ sight ∷ [] });
      fresh_claims = append-nil w.fresh_claims i;
      fresh_wins = append-nil w.fresh_wins i;
    }

-- a claim that found the row held is a look at it
pub progress_claim : (s : State) (own : Share) (w : WorkerState) (r c : ℕ) (found : Option ℕ) → IsOwn own (r, c) → IsEntry s.matrix r c → InForest s c → Progress s own w (work_after_claim w r c found)
progress_claim s own w r c (Some d) mine entry inside = progress_look s own w (row_word r (Some d))
progress_claim s own w r c None mine entry inside = record {
  more = claimed nothing r c None;
  grown = sym adds;
  own_claims = one (IsOwn own) (r, c) mine;
  entries = λ q d m. one (λ (p : ℕ × ℕ). IsEntry s.matrix p.0 p.1 × InForest s p.1) (r, c) (entry, inside) (q, d) m;
  leaves = λ x q m. absurd m;
}
  where
    adds : with_more w (claimed nothing r c None) ≡ work_after_claim w r c None
    adds = λ i. record {
      seat = with_listed w.seat (record { claims = w.seat.listed.claims ++ (r, c) ∷ []; wins = append-nil w.seat.listed.wins i; seen = append-nil w.seat.listed.seen i });
      fresh_claims = w.fresh_claims ++ (r, c) ∷ [];
      fresh_wins = append-nil w.fresh_wins i;
    }

-- a win that found a leaf is a look at it
pub progress_win : (s : State) (own : Share) (w : WorkerState) (x r : ℕ) (found : Option ℕ) → IsLeafFor s w x r → Progress s own w (work_after_win w x r found)
progress_win s own w x r (Some q) leaf = progress_look s own w (root_word x (Some q))
progress_win s own w x r None leaf = record {
  more = won nothing x r None;
  grown = sym adds;
  own_claims = λ p m. absurd m;
  entries = λ q c m. absurd m;
  leaves = λ y q m. one (λ (p : ℕ × ℕ). IsLeafFor s w p.0 p.1) (x, r) leaf (y, q) m;
}
  where
    adds : with_more w (won nothing x r None) ≡ work_after_win w x r None
    adds = λ i. record {
      seat = with_listed w.seat (record { claims = append-nil w.seat.listed.claims i; wins = w.seat.listed.wins ++ (x, r) ∷ []; seen = append-nil w.seat.listed.seen i });
      fresh_claims = append-nil w.fresh_claims i;
      fresh_wins = w.fresh_wins ++ (x, r) ∷ [];
    }

pub progress_on : (s : State) (own : Share) (v w u : WorkerState) → Progress s own v w → Progress s own w u → Progress s own v u
progress_on s own v w u p q = record {
  more = followed_by p.more q.more;
  grown = q.grown ∙ (ap (λ (z : WorkerState). with_more z q.more) p.grown ∙ both p.more q.more);
  own_claims = λ z m. ⊎_elim (λ k. p.own_claims z k) (λ k. q.own_claims z k) (among_either z p.more.claims q.more.claims m);
  entries = λ r c m. ⊎_elim (λ k. p.entries r c k) (λ k. q.entries r c k) (among_either (r, c) p.more.claims q.more.claims m);
  leaves = λ x r m. ⊎_elim (λ k. leaf_stays s own w u x r q (p.leaves x r k)) (λ k. q.leaves x r k) (among_either (x, r) p.more.wins q.more.wins m);
}
  where
    both : (l m : Listed) → with_more (with_more v l) m ≡ with_more v (followed_by l m)
    both l m = λ i. record {
      seat = with_listed v.seat (record { claims = append_assoc v.seat.listed.claims l.claims m.claims i; wins = append_assoc v.seat.listed.wins l.wins m.wins i; seen = append_assoc v.seat.listed.seen l.seen m.seen i });
      fresh_claims = append_assoc v.fresh_claims l.claims m.claims i;
      fresh_wins = append_assoc v.fresh_wins l.wins m.wins i;
    }

-- What a worker knows.

holder_more : (w : WorkerState) (l : Listed) (r : ℕ) → KnowsHolder w r → KnowsHolder (with_more w l) r
holder_more w l r (c, inl opened) = (c, inl opened)
holder_more w l r (c, inr (inl listed)) = (c, inr (inl (among_left (r, c) w.seat.listed.claims l.claims listed)))
holder_more w l r (c, inr (inr seen)) = (c, inr (inr (among_left (row_word r (Some c)) w.seat.listed.seen l.seen seen)))

leaf_more : (w : WorkerState) (l : Listed) (x : ℕ) → KnowsLeaf w x → KnowsLeaf (with_more w l) x
leaf_more w l x (r, inl opened) = (r, inl opened)
leaf_more w l x (r, inr (inl listed)) = (r, inr (inl (among_left (x, r) w.seat.listed.wins l.wins listed)))
leaf_more w l x (r, inr (inr seen)) = (r, inr (inr (among_left (root_word x (Some r)) w.seat.listed.seen l.seen seen)))

holder_known : (s : State) (own : Share) (v w : WorkerState) (r : ℕ) → Progress s own v w → KnowsHolder v r → KnowsHolder w r
holder_known s own v w r p k = subst (λ (u : WorkerState). KnowsHolder u r) (sym p.grown) (holder_more v p.more r k)

leaf_known : (s : State) (own : Share) (v w : WorkerState) (x : ℕ) → Progress s own v w → KnowsLeaf v x → KnowsLeaf w x
leaf_known s own v w x p k = subst (λ (u : WorkerState). KnowsLeaf u x) (sym p.grown) (leaf_more v p.more x k)

won_known : (s : State) (own : Share) (v w : WorkerState) (c : ℕ) → Progress s own v w → KnowsWon s v c → KnowsWon s w c
won_known s own v w c p (x, root, k) = (x, root, leaf_known s own v w x p k)

pub decided_known : (s : State) (own : Share) (v w : WorkerState) (r x : ℕ) → Progress s own v w → IsDecided v r x → IsDecided w r x
decided_known s own v w r x p = ⊎_elim (λ k. inl (holder_known s own v w r p k)) (λ k. inr (leaf_known s own v w x p k))

through_known : (s : State) (own : Share) (v w : WorkerState) (r : ℕ) → Progress s own v w → IsThroughRow s v r → IsThroughRow s w r
through_known s own v w r p = ⊎_elim (λ k. inl (holder_known s own v w r p k)) (λ all_won. inr (λ c entry inside. won_known s own v w c p (all_won c entry inside)))

pub advanced : (s : State) (own : Share) (v w : WorkerState) → Progress s own v w → HasAdvanced s own v w
advanced s own v w p = record {
  progress = p;
  goes_on = λ u q. progress_on s own u v w q p;
  remembers = record {
    holder = λ r. holder_known s own v w r p;
    leaf = λ x. leaf_known s own v w x p;
    won = λ c. won_known s own v w c p;
    through_row = λ r. through_known s own v w r p;
    decided = λ r x. decided_known s own v w r x p;
    covered = λ xs r x. ⊎_elim (λ d. inl (decided_known s own v w r x p d)) (λ m. inr m);
  };
}

pub holder_claimed : (w : WorkerState) (r c : ℕ) (found : Option ℕ) → KnowsHolder (work_after_claim w r c found) r
holder_claimed w r c None = (c, inr (inl (among_right (r, c) w.seat.listed.claims _ (inl refl))))
holder_claimed w r c (Some d) = (d, inr (inr (among_right (row_word r (Some d)) w.seat.listed.seen _ (inl refl))))

pub leaf_won : (w : WorkerState) (x r : ℕ) (found : Option ℕ) → KnowsLeaf (work_after_win w x r found) x
leaf_won w x r None = (r, inr (inl (among_right (x, r) w.seat.listed.wins _ (inl refl))))
leaf_won w x r (Some q) = (q, inr (inr (among_right (root_word x (Some q)) w.seat.listed.seen _ (inl refl))))

pub holder_seen : (w : WorkerState) (r c : ℕ) → KnowsHolder (work_after_look w (row_word r (Some c))) r
holder_seen w r c = (c, inr (inr (among_right (row_word r (Some c)) w.seat.listed.seen _ (inl refl))))

pub leaf_seen : (w : WorkerState) (x r : ℕ) → KnowsLeaf (work_after_look w (root_word x (Some r))) x
leaf_seen w x r = (r, inr (inr (among_right (root_word x (Some r)) w.seat.listed.seen _ (inl refl))))

-- a win changes nothing of what a worker knows of rows
pub holder_over_win : (w : WorkerState) (x r q : ℕ) (found : Option ℕ) → KnowsHolder w q → KnowsHolder (work_after_win w x r found) q
holder_over_win w x r q None k = k
holder_over_win w x r q (Some d) (c, inl opened) = (c, inl opened)
holder_over_win w x r q (Some d) (c, inr (inl listed)) = (c, inr (inl listed))
holder_over_win w x r q (Some d) (c, inr (inr seen)) = (c, inr (inr (among_left _ w.seat.listed.seen _ seen)))

-- What a worker has claimed is settled.

settled_on : (s : State) (own : Share) (v w : WorkerState) → Progress s own v w → HasSettled s v → (r c : ℕ) → Among (r, c) v.fresh_claims → ¬ Among r (rows_of s.base) → KnowsWon s w c
settled_on s own v w p h r c m free = won_known s own v w c p (h r c m free)

-- no claim more
pub settled_same : (s : State) (own : Share) (v w : WorkerState) → Progress s own v w → w.fresh_claims ≡ v.fresh_claims → HasSettled s v → HasSettled s w
settled_same s own v w p e h r c m = settled_on s own v w p h r c (subst (λ (l : List Place). Among (r, c) l) e m)

pub settled_look : (s : State) (w : WorkerState) (sight : Sight) → HasSettled s w → HasSettled s (work_after_look w sight)
settled_look s w sight = settled_same s (of_rows []) w (work_after_look w sight) (progress_look s (of_rows []) w sight) refl

-- one claim more
pub settled_one : (s : State) (own : Share) (v w : WorkerState) (r c : ℕ) → Progress s own v w → w.fresh_claims ≡ v.fresh_claims ++ (r, c) ∷ [] → (¬ Among r (rows_of s.base) → KnowsWon s w c) → HasSettled s v → HasSettled s w
settled_one s own v w r c p e new h q d m free = ⊎_elim
    (λ k. settled_on s own v w p h q d k free)
    (λ k. one (λ (p : ℕ × ℕ). (¬ Among p.0 (rows_of s.base)) → KnowsWon s w p.1) (r, c) new (q, d) k free)
    (among_either (q, d) v.fresh_claims ((r, c) ∷ []) (subst (λ (l : List Place). Among (q, d) l) e m))

-- A claim, and the win of its root.

pub claim_settles : (s : State) (own : Share) (w : WorkerState) (r c x : ℕ) (free : Bool) → CanClaim s own r c x free → free ≡ false → HasSettled s w → HasSettled s (work_after_claim w r c None)
claim_settles s own w r c x free can is = settled_one s own w (work_after_claim w r c None) r c (progress_claim s own w r c None can.is_own can.entry can.inside) refl (λ no_mate. absurd (no_mate (can.mated is)))

pub progress_both : (s : State) (own : Share) (w : WorkerState) (r c x : ℕ) (free : Bool) (found : Option ℕ) → CanClaim s own r c x free → free ≡ true → Progress s own w (work_after_win (work_after_claim w r c None) x r found)
progress_both s own w r c x free found can is =
    let after = work_after_claim w r c None in
    progress_on s own w after (work_after_win after x r found) (progress_claim s own w r c None can.is_own can.entry can.inside) (progress_win s own after x r found (can.is_free is, (c, among_right (r, c) w.fresh_claims _ (inl refl), can.rooted)))

pub both_settle : (s : State) (own : Share) (w : WorkerState) (r c x : ℕ) (free : Bool) (found : Option ℕ) → CanClaim s own r c x free → free ≡ true → HasSettled s w → HasSettled s (work_after_win (work_after_claim w r c None) x r found)
both_settle s own w r c x free found can is =
    let after = work_after_claim w r c None in
    settled_one s own w (work_after_win after x r found) r c (progress_both s own w r c x free found can is) refl (λ no_mate. (x, can.rooted, leaf_won after x r found))
