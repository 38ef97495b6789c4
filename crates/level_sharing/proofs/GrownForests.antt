-- The forest that a level leaves, and what the workers know of it.
use Rattle.std.proofs.Common.{◌≡◌, ◌⊎◌, ℕ, zero, suc, ◌+◌, ◌<◌, List, [], ◌∷◌, ◌++◌, length, refl, sym, subst, inl, inr, ⊎_elim, arith}
use Rattle.bip_defs.specs.Forest.{HasWon, InForest, IsRootOfRow, IsSettled, IsUsedUp, IsWon, RootOf, above, itself, roots_of}
use Rattle.bip_defs.specs.Lists.{Among, AreNew}
use Rattle.bip_defs.specs.Matching.{cols_of, rows_of}
use Rattle.bip_defs.specs.Matrix.{IsEntry, Place}
use Rattle.bip_defs.proofs.Sets.{among_either, among_left, among_map, among_right, row_among, row_pair}
use Rattle.claim_words.specs.Board.{Board}
use Rattle.claim_words.specs.Seat.{AreNumbered, KnowsRoot}
use Rattle.claim_words.specs.WorkerState.{AreAllWorkers, WorkerState, fresh_claims_of, fresh_wins_of, seats_of}
use Rattle.level_sharing.specs.Agreement.{HoldThese, Shows}
use Rattle.level_sharing.specs.Each.{EachPairFrom}
use Rattle.level_sharing.specs.Level.{AreThroughColumns, AreThroughRows, Level, WordsTell, forest_after}
use Rattle.level_sharing.specs.Progress.{HasSettled, IsLeafFor, IsThroughColumns, IsThroughRows, KnowsHolder, KnowsWon}
use Rattle.level_sharing.specs.Shares.{share_of}
use Rattle.level_sharing.proofs.LevelLemmas.{Began, all_began, fresh_claims_are, fresh_wins_are}
use Rattle.level_sharing.proofs.ShareLemmas.{shares_cover_list}

-- Trees grow.

root_grows : (base claims more : List Place) (x c : ℕ) → RootOf base claims x c → RootOf base (claims ++ more) x c
root_grows base claims more x c (itself free) = itself free
root_grows base claims more x c (above {d = d} r mate claimed up) = above r mate (among_left (r, d) claims more claimed) (root_grows base claims more x d up)

root_unmatched : (base claims : List Place) (x c : ℕ) → RootOf base claims x c → ¬ Among x (cols_of base)
root_unmatched base claims x c (itself free) = free
root_unmatched base claims x c (above {d = d} r mate claimed up) = root_unmatched base claims x d up

-- Of which worker an entry of the fresh lists is.

pub record ByWorker (P : ℕ → WorkerState → WorkerState → Type 0) (ws : List WorkerState) (Q : WorkerState → Type 0) : Type 0 where
  pub number : ℕ
  pub was : WorkerState
  pub worker : WorkerState
  pub one_of : Among worker ws
  pub has : P number was worker
  pub lists : Q worker

further : (P : ℕ → WorkerState → WorkerState → Type 0) (w : WorkerState) (ws : List WorkerState) (Q : WorkerState → Type 0) → ByWorker P ws Q → ByWorker P (w ∷ ws) Q
further P w ws Q b = record { number = b.number; was = b.was; worker = b.worker; one_of = inr b.one_of; has = b.has; lists = b.lists }

pub claim_by : (P : ℕ → WorkerState → WorkerState → Type 0) (i : ℕ) (vs ws : List WorkerState) (p : Place) → EachPairFrom P i vs ws → Among p (fresh_claims_of ws) → ByWorker P ws (λ w. Among p w.fresh_claims)
claim_by P i [] [] p h m = absurd m
claim_by P i [] (w ∷ ws) p h m = absurd h
claim_by P i (v ∷ vs) [] p h m = absurd h
claim_by P i (v ∷ vs) (w ∷ ws) p (h, hs) m = ⊎_elim
    (λ k. record { number = i; was = v; worker = w; one_of = inl refl; has = h; lists = k })
    (λ k. further P w ws _ (claim_by P (suc i) vs ws p hs k))
    (among_either p w.fresh_claims (fresh_claims_of ws) m)

pub win_by : (P : ℕ → WorkerState → WorkerState → Type 0) (i : ℕ) (vs ws : List WorkerState) (p : ℕ × ℕ) → EachPairFrom P i vs ws → Among p (fresh_wins_of ws) → ByWorker P ws (λ w. Among p w.fresh_wins)
win_by P i [] [] p h m = absurd m
win_by P i [] (w ∷ ws) p h m = absurd h
win_by P i (v ∷ vs) [] p h m = absurd h
win_by P i (v ∷ vs) (w ∷ ws) p (h, hs) m = ⊎_elim
    (λ k. record { number = i; was = v; worker = w; one_of = inl refl; has = h; lists = k })
    (λ k. further P w ws _ (win_by P (suc i) vs ws p hs k))
    (among_either p w.fresh_wins (fresh_wins_of ws) m)

fresh_of_all : (w : WorkerState) (ws : List WorkerState) (p : Place) → Among w ws → Among p w.fresh_claims → Among p (fresh_claims_of ws)
fresh_of_all w [] p one m = absurd one
fresh_of_all w (u ∷ ws) p (inl e) m = among_left p u.fresh_claims (fresh_claims_of ws) (subst (λ (z : WorkerState). Among p z.fresh_claims) e m)
fresh_of_all w (u ∷ ws) p (inr one) m = among_right p u.fresh_claims (fresh_claims_of ws) (fresh_of_all w ws p one m)

numbered_board : (b : Board) (n : ℕ) (w : WorkerState) (ws : List WorkerState) → AreNumbered b n (seats_of ws) → Among w ws → w.seat.board ≡ b
numbered_board b n w [] h m = absurd m
numbered_board b n w (u ∷ ws) (board, number, h) (inl e) = subst (λ (z : WorkerState). z.seat.board ≡ b) (sym e) board
numbered_board b n w (u ∷ ws) (board, number, h) (inr m) = numbered_board b (1 + n) w ws h m

board_of : (b : Board) (w : WorkerState) (ws : List WorkerState) → AreAllWorkers b ws → Among w ws → w.seat.board ≡ b
board_of b w [] h m = absurd h
board_of b w (u ∷ ws) (board, number, count, h) (inl e) = subst (λ (z : WorkerState). z.seat.board ≡ b) (sym e) board
board_of b w (u ∷ ws) (board, number, count, h) (inr m) = numbered_board b 1 w ws h m

began : (l : Level) → EachPairFrom (λ (j : ℕ). λ (v w : WorkerState). Began l.forest (l.own j) v w) 0 l.before l.after
began l = all_began l.forest l.own 0 l.before l.after l.progress l.agree.no_claims l.agree.no_wins

pub places : (l : Level) → WordsTell l → (r c : ℕ) → Among (r, c) (fresh_claims_of l.gathered) → IsEntry l.forest.matrix r c × InForest l.forest c
places l t r c m =
    let by = claim_by _ 0 l.before l.after (r, c) (began l) (subst (λ (ps : List Place). Among (r, c) ps) t.same_claims m) in
    by.has.progress.entries r c (subst (λ (ps : List Place). Among (r, c) ps) (fresh_claims_are l.forest (l.own by.number) by.was by.worker by.has) by.lists)

leaf_for : (l : Level) (x r : ℕ) (w : WorkerState) → WordsTell l → Among w l.after → IsLeafFor l.forest w x r
    → (¬ Among x (cols_of l.forest.base)) × (¬ Among r (rows_of l.forest.base)) × IsRootOfRow l.forest.base (l.forest.claims ++ fresh_claims_of l.gathered) x r
leaf_for l x r w t m (free, (c, claimed, root)) = (
  root_unmatched l.forest.base l.forest.claims x c root,
  free,
  (
    c,
    among_right (r, c) l.forest.claims (fresh_claims_of l.gathered) (subst (λ (ps : List Place). Among (r, c) ps) (sym t.same_claims) (fresh_of_all w l.after (r, c) m claimed)),
    root_grows l.forest.base l.forest.claims (fresh_claims_of l.gathered) x c root,
  ),
)

pub leaves : (l : Level) → WordsTell l → (x r : ℕ) → Among (x, r) (fresh_wins_of l.gathered)
    → (¬ Among x (cols_of l.forest.base)) × (¬ Among r (rows_of l.forest.base)) × IsRootOfRow l.forest.base (l.forest.claims ++ fresh_claims_of l.gathered) x r
leaves l t x r m =
    let by = win_by _ 0 l.before l.after (x, r) (began l) (subst (λ (ps : List (ℕ × ℕ)). Among (x, r) ps) t.same_wins m) in
    leaf_for l x r by.worker t by.one_of (by.has.progress.leaves x r (subst (λ (ps : List (ℕ × ℕ)). Among (x, r) ps) (fresh_wins_are l.forest (l.own by.number) by.was by.worker by.has) by.lists))

pub new_claims_of : (l : Level) → WordsTell l → AreNew l.forest.claims (fresh_claims_of l.gathered)
new_claims_of l t = subst (λ (ps : List Place). AreNew l.forest.claims ps) (sym t.same_claims) t.fresh.new_claims

pub new_wins_of : (l : Level) → WordsTell l → AreNew l.forest.leaves (fresh_wins_of l.gathered)
new_wins_of l t = subst (λ (ps : List (ℕ × ℕ)). AreNew l.forest.leaves ps) (sym t.same_wins) t.fresh.new_wins

pub shown : (l : Level) → WordsTell l → Shows l.board l.gathered (forest_after l).claims (forest_after l).leaves
shown l t = record {
  all_workers = l.all_workers;
  words = l.words;
  listed = l.settles_gathered;
  rows = subst (λ (ps : List Place). HoldThese (l.forest.claims ++ ps) l.words.rows) (sym t.same_claims) t.fresh.rows;
  roots = subst (λ (ps : List (ℕ × ℕ)). HoldThese (l.forest.leaves ++ ps) l.words.roots) (sym t.same_wins) t.fresh.roots;
}

-- What a worker knows is so after the level.

seat_among : (w : WorkerState) (ws : List WorkerState) → Among w ws → Among w.seat (seats_of ws)
seat_among w ws m = among_map (λ (z : WorkerState). z.seat) w ws m

holder_stands : (l : Level) (w : WorkerState) (r : ℕ) → WordsTell l → Among w l.after → KnowsHolder w r → Among r (rows_of (forest_after l).claims)
holder_stands l w r t m (c, k) =
    let held_by = t.known.rows w.seat r c (seat_among w l.after m) (board_of l.board w l.after t.all m) k in
    subst (λ (ps : List Place). Among r (rows_of (l.forest.claims ++ ps))) (sym t.same_claims) (row_among r c (l.forest.claims ++ fresh_claims_of l.after) ((t.fresh.rows r c).0 held_by))

leaf_stands : (l : Level) (w : WorkerState) (x r : ℕ) → WordsTell l → Among w l.after → KnowsRoot w.seat x r → Among x (roots_of (forest_after l).leaves)
leaf_stands l w x r t m k =
    let won_by = t.known.roots w.seat x r (seat_among w l.after m) (board_of l.board w l.after t.all m) k in
    subst (λ (ps : List (ℕ × ℕ)). Among x (roots_of (l.forest.leaves ++ ps))) (sym t.same_wins) (among_map (λ (p : ℕ × ℕ). p.0) (x, r) (l.forest.leaves ++ fresh_wins_of l.after) ((t.fresh.roots x r).0 won_by))

won_stands : (l : Level) (w : WorkerState) (c : ℕ) → WordsTell l → Among w l.after → KnowsWon l.forest w c → HasWon (forest_after l) c
won_stands l w c t m (x, root, (r, k)) = (x, root_grows l.forest.base l.forest.claims (fresh_claims_of l.gathered) x c root, leaf_stands l w x r t m k)

-- Settled.

pub settled_after : (l : Level) (P : ℕ → WorkerState → WorkerState → Type 0) → ((i : ℕ) (v w : WorkerState) → P i v w → HasSettled l.forest w)
    → WordsTell l → EachPairFrom P 0 l.before l.after → IsSettled l.forest → IsSettled (forest_after l)
settled_after l P has t each old r m free =
    let (c, k) = row_pair r (l.forest.claims ++ fresh_claims_of l.gathered) m in
    ⊎_elim (was c) (is_new c) (among_either (r, c) l.forest.claims (fresh_claims_of l.gathered) k)
  where
    was : (c : ℕ) → Among (r, c) l.forest.claims → IsWon (forest_after l) r
    was c k =
        let (x, up, leaf) = old r (row_among r c l.forest.claims k) free in
        let (d, claimed, root) = up in (
          x,
          (d, among_left (r, d) l.forest.claims (fresh_claims_of l.gathered) claimed, root_grows l.forest.base l.forest.claims (fresh_claims_of l.gathered) x d root),
          (let (q, pair) = row_pair x l.forest.leaves leaf in row_among x q (l.forest.leaves ++ fresh_wins_of l.gathered) (among_left (x, q) l.forest.leaves (fresh_wins_of l.gathered) pair)),
        )

    is_new : (c : ℕ) → Among (r, c) (fresh_claims_of l.gathered) → IsWon (forest_after l) r
    is_new c k =
        let by = claim_by P 0 l.before l.after (r, c) each (subst (λ (ps : List Place). Among (r, c) ps) t.same_claims k) in
        let (x, root, leaf) = won_stands l by.worker c t by.one_of (has by.number by.was by.worker by.has r c by.lists free) in
        (x, (c, among_right (r, c) l.forest.claims (fresh_claims_of l.gathered) k, root), leaf)

-- The shares cover what the level went through.

numbered : (P : ℕ → WorkerState → WorkerState → Type 0) (n i : ℕ) (vs ws : List WorkerState) → EachPairFrom P n vs ws → i < length vs → (v : WorkerState) × (w : WorkerState) × Among w ws × P (n + i) v w
numbered P n i [] [] h lt = absurd (omega (arith, lt))
numbered P n i [] (w ∷ ws) h lt = absurd h
numbered P n i (v ∷ vs) [] h lt = absurd h
numbered P n zero (v ∷ vs) (w ∷ ws) (h, hs) lt = (v, w, inl refl, subst (λ k. P k v w) (let e : n ≡ n + zero = omega arith in e) h)
numbered P n (suc i) (v ∷ vs) (w ∷ ws) (h, hs) lt =
    let (u, z, m, p) = numbered P (suc n) i vs ws hs (omega (arith, lt)) in
    (u, z, inr m, subst (λ k. P k u z) (let e : suc n + i ≡ n + suc i = omega arith in e) p)

some_worker : (b : Board) (ws : List WorkerState) → AreAllWorkers b ws → 0 < length ws
some_worker b [] h = absurd h
some_worker b (w ∷ ws) h = omega arith

in_a_share : (l : Level) (xs : List ℕ) (x : ℕ) (Q : List ℕ → WorkerState → Type 0) → Among x xs
    → EachPairFrom (λ (i : ℕ). λ (v w : WorkerState). Q (share_of xs (length l.before) i) w) 0 l.before l.after → (share : List ℕ) × (w : WorkerState) × Among x share × Among w l.after × Q share w
in_a_share l xs x Q m each =
    let (i, few, mine) = shares_cover_list xs (length l.before) x (some_worker l.board l.before l.agree.listed.all_workers) m in
    let (v, w, one, q) = numbered _ 0 i l.before l.after each few in
    (share_of xs (length l.before) i, w, mine, one, subst (λ k. Q (share_of xs (length l.before) k) w) (let e : 0 + i ≡ i = omega arith in e) q)

pub columns_after : (l : Level) (cols : List ℕ) (c : ℕ) → WordsTell l → AreThroughColumns l cols → Among c cols
    → HasWon (forest_after l) c ⊎ IsUsedUp (forest_after l) c
columns_after l cols c t through m =
    let (share, w, mine, one, q) = in_a_share l cols c (λ ss u. IsThroughColumns l.forest ss u) m through in
    ⊎_elim
    (λ won. inl (won_stands l w c t one won))
    (λ all_held. inr (λ r entry. holder_stands l w r t one (all_held r entry)))
    (q.columns c mine)

pub rows_after : (l : Level) (rows : List ℕ) (r c : ℕ) → WordsTell l → AreThroughRows l rows → Among r rows
    → IsEntry l.forest.matrix r c → InForest l.forest c → Among r (rows_of (forest_after l).claims) ⊎ HasWon (forest_after l) c
rows_after l rows r c t through m entry inside =
    let (share, w, mine, one, q) = in_a_share l rows r (λ ss u. IsThroughRows l.forest ss u) m through in
    ⊎_elim
    (λ held_by. inl (holder_stands l w r t one held_by))
    (λ all_won. inr (won_stands l w c t one (all_won c entry inside)))
    (q.rows r mine)
