-- All workers at once.
use Rattle.std.proofs.Common.{◌≡◌, ℕ, suc, ◌+◌, ◌*◌, ◌/◌, ◌≤◌, List, [], ◌∷◌, length, refl, sym, subst, inl, inr, arith}
use Rattle.std.specs.List.{AllZip}
use Rattle.std.proofs.lemmas.Slice.Zip.{AllZip-long}
use Rattle.bip_defs.specs.Forest.{State, roots_of}
use Rattle.bip_defs.specs.Lists.{Among}
use Rattle.bip_graph.specs.Mates.{Mated}
use Rattle.flip_words.specs.ClosedBoards.{AreMatesAfter, HaveOneTakerEach, SettlesAll}
use Rattle.flip_words.specs.Board.{Board, col_vertex}
use Rattle.flip_words.specs.Seat.{HasSetTo, HoldsAllSeats, IsRightful, IsSameSeat, Seat, Took}
use Rattle.level_sharing.specs.Each.{EachFrom, EachPairFrom}
use Rattle.tree_augment.specs.Augmented.{ExchangesItsPaths, HasAsked, HasMet, HaveAugmented, HaveTakenNone, IsOnTakenPath, once_round}
use Rattle.tree_augment.specs.ForestBoards.{IsSoundBoardOf}
use Rattle.tree_augment.specs.Rounds.{CanGoRound, HasGoneRound, HaveGoneRound}
use Rattle.tree_augment.proofs.ClosedBoards.{exchanged_mates}
use Rattle.tree_augment.proofs.RoundLemmas.{asked_met, has_asked, round_has}

-- Seats that have taken nothing.

module _ {t : Seat} (own : IsRightful t) (none : t.listed.taken ≡ []) where
  took_none : (x : ℕ) → ¬ Took t x
  took_none x h = subst (Among (x, t.number)) none h

  set_none : (v mate : ℕ) → ¬ HasSetTo t v mate
  set_none v mate h = let (x, tree, took) = own.sets v mate h in took_none x took

  pub no_paths : (s : State) (b : Board) → ExchangesItsPaths s b t
  no_paths s b = record {
    taken = λ x h. absurd (took_none x h);
    rows = λ r c lt. (λ h. absurd (set_none r c h), λ (h : IsOnTakenPath s t (r, c)). absurd (took_none h.0 h.1));
    cols = λ r c. (λ h. absurd (set_none (col_vertex b c) r h), λ (h : IsOnTakenPath s t (r, c)). absurd (took_none h.0 h.1));
  }

ready_from : {s : State} {b : Board} (workers n : ℕ) (ts : List Seat) → IsSoundBoardOf s b → n + length ts ≤ workers → ((t : Seat) → Among t ts → (t.board ≡ b) × (t.listed.taken ≡ [])) → EachFrom (λ k t. CanGoRound s b workers k t) n ts
ready_from workers n [] of few each = tt
ready_from workers n (t ∷ ts) of few each = (
  record { board = of; few = omega (arith, few); seat = (each t (inl refl)).0; none_taken = (each t (inl refl)).1 },
  ready_from workers (suc n) ts of (omega (arith, few)) (λ u h. each u (inr h)),
)

pub ready : {s : State} {b : Board} (ts : List Seat) → IsSoundBoardOf s b → HoldsAllSeats b ts → HaveTakenNone ts → EachFrom (λ k t. CanGoRound s b (length ts) k t) 0 ts
ready ts of all none = ready_from (length ts) 0 ts of (omega arith) (λ t h. (all.boards t h, none t h))

-- Seats after their rounds.

module _ (s : State) (b : Board) (workers : ℕ) where
  same_seats : (n : ℕ) (ts us : List Seat) → EachPairFrom (λ k t u. HasGoneRound s b workers k t u) n ts us → AllZip IsSameSeat ts us
  same_seats n [] [] h = tt
  same_seats n [] (u ∷ us) h = h
  same_seats n (t ∷ ts) [] h = h
  same_seats n (t ∷ ts) (u ∷ us) h = (h.0.asked.same, same_seats (suc n) ts us h.1)

  gone : (n : ℕ) (ts us : List Seat) → EachPairFrom (λ k t u. HasGoneRound s b workers k t u) n ts us → (u : Seat) → Among u us → (k : ℕ) × (t : Seat) × HasGoneRound s b workers k t u
  gone n [] [] h u i = absurd i
  gone n [] (v ∷ us) h u i = absurd h
  gone n (t ∷ ts) [] h u i = absurd h
  gone n (t ∷ ts) (v ∷ us) h u (inl e) = (n, t, subst (HasGoneRound s b workers n t) (sym e) h.0)
  gone n (t ∷ ts) (v ∷ us) h u (inr i) = gone (suc n) ts us h.1 u i

  rounds : (n : ℕ) (ts us : List Seat) → EachPairFrom (λ k t u. HasGoneRound s b workers k t u) n ts us → HaveTakenNone ts → EachFrom (λ (k : ℕ). HasAsked (roots_of (once_round s.leaves workers k))) n us
  rounds n [] [] h none = tt
  rounds n [] (u ∷ us) h none = absurd h
  rounds n (t ∷ ts) [] h none = absurd h
  rounds n (t ∷ ts) (u ∷ us) h none = (has_asked (none t (inl refl)) h.0.asked, rounds (suc n) ts us h.1 (λ v i. none v (inr i)))

pub augmented : {s : State} {b : Board} (ts us : List Seat) → IsSoundBoardOf s b → HaveTakenNone ts → HaveGoneRound s b ts us → (AllZip IsSameSeat ts us → HoldsAllSeats b us) → ((m : Mated) → HoldsAllSeats b us → SettlesAll b m us → HaveOneTakerEach us) → ((m : Mated) → SettlesAll b m us → AreMatesAfter b us m) → HaveAugmented s b us
augmented {s = s} {b = b} ts us of none h all one after = record {
  all = all_seats;
  rounds = subst (λ n. EachFrom (λ (k : ℕ). HasAsked (roots_of (once_round s.leaves n k))) 0 us) (sym (AllZip-long IsSameSeat ts us same)) (rounds s b (length ts) 0 ts us h none);
  met = met;
  paths = paths;
  exchanged = λ m e. exchanged_mates of all_seats met paths (one m all_seats e) (after m e) e;
}
  where
    same : AllZip IsSameSeat ts us
    same = same_seats s b (length ts) 0 ts us h

    all_seats : HoldsAllSeats b us
    all_seats = all same

    met : (u : Seat) (x : ℕ) → Among u us → Among x (roots_of s.leaves) → HasMet u x
    met u x i leaf = let (k, t, went) = gone s b (length ts) 0 ts us h u i in asked_met x went.asked (round_has (k * length s.leaves / length ts) x s.leaves leaf)

    paths : (u : Seat) → Among u us → ExchangesItsPaths s b u
    paths u i = let (k, t, went) = gone s b (length ts) 0 ts us h u i in went.paths
