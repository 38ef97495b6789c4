-- What a board closes with once its seats have augmented a forest.
use Rattle.std.proofs.Common.{◌≡◌, ◌⊎◌, ◌↔◌, ◌∙◌, ℕ, ◌+◌, ◌<◌, List, [], ◌∷◌, Some, refl, sym, ap, subst, inl, inr, ⊎_elim, arith}
use Rattle.bip_defs.specs.Forest.{State, roots_of}
use Rattle.bip_defs.specs.Lists.{Among, option_at, numbers_of}
use Rattle.bip_defs.specs.Matrix.{Place}
use Rattle.bip_defs.specs.WordValues.{held}
use Rattle.bip_defs.proofs.Sets.{number_among, one_col, row_among, row_pair}
use Rattle.bip_graph.specs.Mates.{Mated}
use Rattle.flip_words.specs.Board.{Board, col_vertex}
use Rattle.flip_words.specs.ClosedBoards.{AreMatesAfter, HaveOneTakerEach, SettlesAll}
use Rattle.flip_words.specs.Seat.{HasSet, HasSetTo, HoldsAllSeats, Seat, Took}
use Rattle.forest_core.specs.Current.{IsOnPathOf, IsPairAfter, OnPath, leaf, up}
use Rattle.forest_core.specs.Exchanged.{AreExchanged}
use Rattle.tree_augment.specs.Augmented.{ExchangesItsPaths, HasMet}
use Rattle.tree_augment.specs.ForestBoards.{IsSoundBoardOf}

-- one of these seats has set the vertex, or none has
abbrev IsSetBySome : List Seat → ℕ → Type 0
IsSetBySome ts v = (t : Seat) × Among t ts × HasSet t v

seat_set : (t : Seat) (v : ℕ) → HasSet t v ⊎ (¬ HasSet t v)
seat_set t v = ⊎_elim (λ h. inl (row_pair v t.listed.sets h)) (λ n. inr (λ (h : HasSet t v). n (row_among v h.0 t.listed.sets h.1))) (number_among v (numbers_of t.listed.sets))

set_by : (ts : List Seat) (v : ℕ) → IsSetBySome ts v ⊎ ((t : Seat) → Among t ts → ¬ HasSet t v)
set_by [] v = inr (λ t n. absurd n)
set_by (t ∷ ts) v = ⊎_elim (λ h. inl (t, inl refl, h)) (λ n. ⊎_elim (λ (k : IsSetBySome ts v). inl (k.0, inr k.1, k.2)) (λ none. inr (λ u i. ⊎_elim (λ (e : u ≡ t). subst (λ (w : Seat). ¬ HasSet w v) (sym e) n) (λ j. none u j) i)) (set_by ts v)) (seat_set t v)

-- there is a seat
some_seat : (b : Board) (ts : List Seat) → HoldsAllSeats b ts → (t : Seat) × Among t ts
some_seat b [] all = absurd (let some = all.some in omega (arith, some))
some_seat b (t ∷ ts) all = (t, inl refl)

module _ {s : State} {b : Board} {ts : List Seat} {m : Mated} (of : IsSoundBoardOf s b) (all : HoldsAllSeats b ts) (met : (t : Seat) (x : ℕ) → Among t ts → Among x (roots_of s.leaves) → HasMet t x) (paths : (t : Seat) → Among t ts → ExchangesItsPaths s b t) (one : HaveOneTakerEach ts) (after : AreMatesAfter b ts m) where
  -- the tree of each root with a leaf was taken
  taker : (x : ℕ) → Among x (roots_of s.leaves) → (t : Seat) × Among t ts × Took t x
  taker x h =
      let (t, i) = some_seat b ts all in
      ⊎_elim (λ took. (t, i, took)) (λ (w : (number : ℕ) × Among (x, number) t.listed.seen). let (u, j, took, n) = one.seen t x w.0 i w.1 in (u, j, took)) (met t x i h)

  -- each row on a path was set, and the column that claimed it
  path_row : (r c : ℕ) → r < b.rows → IsOnPathOf s (roots_of s.leaves) r → Among (r, c) s.claims → (t : Seat) × Among t ts × HasSetTo t r c
  path_row r c lt (x, h, on) claim = let (t, i, took) = taker x h in (t, i, ((paths t i).rows r c lt).1 (x, took, (on, claim)))

  path_col : (r c : ℕ) → IsOnPathOf s (roots_of s.leaves) r → Among (r, c) s.claims → (t : Seat) × Among t ts × HasSetTo t (col_vertex b c) r
  path_col r c (x, h, on) claim = let (t, i, took) = taker x h in (t, i, ((paths t i).cols r c).1 (x, took, (on, claim)))

  row_mate : (r c : ℕ) → r < b.rows → (option_at m.rows r ≡ Some c) ↔ IsPairAfter s (roots_of s.leaves) (r, c)
  row_mate r c lt = ⊎_elim by_some by_none (set_by ts r)
    where
      by_some : IsSetBySome ts r → (option_at m.rows r ≡ Some c) ↔ IsPairAfter s (roots_of s.leaves) (r, c)
      by_some (t, i, (d, set)) =
          let mate : option_at m.rows r ≡ Some d = after.row_set t r d i lt set in
          let (x, took, (on, claim)) = ((paths t i).rows r d lt).0 set in
          let on_path : IsOnPathOf s (roots_of s.leaves) r = (x, (paths t i).taken x took, on) in (
            λ e. let both = sym mate ∙ e in let same : d ≡ c = cc in inl (subst (λ z. Among {X = Place} (r, z) s.claims) same claim, on_path),
            λ p. ⊎_elim (λ (q : Among (r, c) s.claims × IsOnPathOf s (roots_of s.leaves) r). mate ∙ ap (λ (z : ℕ). Some z) (one_col s.claims of.trees.rows_differ r d c claim q.0)) (λ (q : Among (r, c) s.base × (¬ IsOnPathOf s (roots_of s.leaves) r)). absurd (q.1 on_path)) p,
          )

      by_none : ((t : Seat) → Among t ts → ¬ HasSet t r) → (option_at m.rows r ≡ Some c) ↔ IsPairAfter s (roots_of s.leaves) (r, c)
      by_none none =
          let mate : option_at m.rows r ≡ held b.mates r = after.row_unset r lt none in
          let base = of.board.opened.row r c (subst (λ n. r < n) of.board.opened.rows lt) in
          let off : ¬ IsOnPathOf s (roots_of s.leaves) r = λ on. (let (d, claim, w) = of.trees.path_root on.0 r on.2 in let (t, i, set) = path_row r d lt on claim in none t i (d, set)) in (
            λ e. inr (base.0 (sym mate ∙ e), off),
            λ p. ⊎_elim (λ (q : Among (r, c) s.claims × IsOnPathOf s (roots_of s.leaves) r). absurd (off q.1)) (λ (q : Among (r, c) s.base × (¬ IsOnPathOf s (roots_of s.leaves) r)). mate ∙ base.1 q.0) p,
          )

  -- a row with a base mate is on a path because a row is that its mate claimed
  above_mate : (r c x : ℕ) → Among (r, c) s.base → OnPath s.base s.claims s.leaves x r → (q : ℕ) × OnPath s.base s.claims s.leaves x q × Among (q, c) s.claims
  above_mate r c x m (leaf h) = absurd ((of.trees.sound.leaves x r h).leaf_unmatched (row_among r c s.base m))
  above_mate r c x m (up q d on claim mate) = (q, on, subst (λ z. Among {X = Place} (q, z) s.claims) (one_col s.base of.trees.sound.base.rows_differ r d c mate m) claim)

  col_mate : (r c : ℕ) → c < b.cols → (option_at m.cols c ≡ Some r) ↔ IsPairAfter s (roots_of s.leaves) (r, c)
  col_mate r c lt = ⊎_elim by_some by_none (set_by ts (col_vertex b c))
    where
      by_some : IsSetBySome ts (col_vertex b c) → (option_at m.cols c ≡ Some r) ↔ IsPairAfter s (roots_of s.leaves) (r, c)
      by_some (t, i, (q, set)) =
          let mate : option_at m.cols c ≡ Some q = after.col_set t q c i set in
          let (x, took, (on, claim)) = ((paths t i).cols q c).0 set in
          let on_path : (z : ℕ) → OnPath s.base s.claims s.leaves x z → IsOnPathOf s (roots_of s.leaves) z = λ z w. (x, (paths t i).taken x took, w) in (
            λ e. let both = sym mate ∙ e in let same : q ≡ r = cc in inl (subst (λ z. Among {X = Place} (z, c) s.claims) same claim, on_path r (subst (OnPath s.base s.claims s.leaves x) same on)),
            λ p. ⊎_elim
                (λ (w : Among (r, c) s.claims × IsOnPathOf s (roots_of s.leaves) r). let (u, j, sets) = path_col r c w.1 w.0 in after.col_set u r c j sets)
                (λ (w : Among (r, c) s.base × (¬ IsOnPathOf s (roots_of s.leaves) r)). absurd (w.1 (on_path r (up q c on claim w.0)))) p,
          )

      by_none : ((t : Seat) → Among t ts → ¬ HasSet t (col_vertex b c)) → (option_at m.cols c ≡ Some r) ↔ IsPairAfter s (roots_of s.leaves) (r, c)
      by_none none =
          let mate : option_at m.cols c ≡ held b.mates (col_vertex b c) = after.col_unset c none in
          let base : (held b.mates (col_vertex b c) ≡ Some r) ↔ Among (r, c) s.base = subst (λ n. (held b.mates (n + c) ≡ Some r) ↔ Among (r, c) s.base) (sym of.board.opened.rows) (of.board.opened.col r c (subst (λ n. c < n) of.board.opened.cols lt)) in (
            λ e. inr (base.0 (sym mate ∙ e), λ on. (let (q, w, claim) = above_mate r c on.0 (base.0 (sym mate ∙ e)) on.2 in let (t, i, set) = path_col q c (on.0, on.1, w) claim in none t i (q, set))),
            λ p. ⊎_elim
                (λ (w : Among (r, c) s.claims × IsOnPathOf s (roots_of s.leaves) r). let (t, i, set) = path_col r c w.1 w.0 in absurd (none t i (r, set)))
                (λ (w : Among (r, c) s.base × (¬ IsOnPathOf s (roots_of s.leaves) r)). mate ∙ base.1 w.0) p,
          )

  pub exchanged_mates : SettlesAll b m ts → AreExchanged s m
  exchanged_mates e = record {
    rows_long = e.rows ∙ of.board.opened.rows;
    cols_long = e.cols ∙ of.board.opened.cols;
    row = λ r c lt. row_mate r c (subst (λ n. r < n) (sym of.board.opened.rows) lt);
    col = λ r c lt. col_mate r c (subst (λ n. c < n) (sym of.board.opened.cols) lt);
  }
