-- The board that four seats contest in a test.
use Rattle.std.proofs.Common.{◌≡◌, ◌∙◌, ◌⊎◌, ℕ, ◌+◌, ◌<◌, ◌≤◌, [], ◌∷◌, ◌++◌, Option, None, Some, refl, sym, ap, subst, inl, inr, ⊎_elim, arith}
use Rattle.bip_defs.specs.Lists.{Among}
use Rattle.bip_defs.proofs.Sets.{among_last, among_right}
use Rattle.flip_words.specs.Board.{Board}
use Rattle.flip_words.specs.Seat.{HasSet, Seat, Took, after_set, after_take}
use Rattle.board_tests.specs.FlipContest.{HasVisited, Visits}

pub took_mine : (s : Seat) {n : Seat} (root : ℕ) → n ≡ after_take s root None → Took n root
took_mine s root e = subst (λ (t : Seat). Took t root) (sym e) (among_right (root, s.number) s.listed.taken ((root, s.number) ∷ []) (inl refl))

module _ {b : Board} {tree : ℕ} {s : Seat} (v : HasVisited b tree s) (few : tree < 100) where
  pub row_unset : {n : Seat} (found : Option ℕ) → n ≡ after_take s tree found → ¬ HasSet n tree
  row_unset found e h = let old : HasSet s tree = (let k = subst (λ (t : Seat). HasSet t tree) e h in (k.0, k.1)) in ⊎_elim (λ lt. omega (arith, lt)) (λ t. let le = t.0 in let many = v.contested.rows in omega (arith, le, many, few)) (v.sets tree old)

  pub col_unset : {n m : Seat} (found : Option ℕ) (mate : ℕ) → n ≡ after_take s tree found → m ≡ after_set n tree mate → ¬ HasSet m (b.rows + tree)
  col_unset found mate e f h =
      let k = subst (λ (t : Seat). HasSet t (b.rows + tree)) (f ∙ ap (λ (t : Seat). after_set t tree mate) e) h in
      let many = v.contested.rows in
      ⊎_elim
      (λ (u : Among (b.rows + tree, k.0) s.listed.sets). ⊎_elim (λ lt. omega (arith, lt, many)) (λ t. let lt = t.1 in omega (arith, lt)) (v.sets (b.rows + tree) (k.0, u)))
      (λ (u : ◌≡◌ {A = ℕ × ℕ} (b.rows + tree, k.0) (tree, mate)). let same : b.rows + tree ≡ tree = ap (λ (p : ℕ × ℕ). p.0) u in omega (arith, same, many))
      (among_last (b.rows + tree, k.0) (tree, mate) s.listed.sets k.1)

  later : (w : ℕ) → (w < tree) ⊎ ((b.rows ≤ w) × (w < b.rows + tree)) → (w < tree + 1) ⊎ ((b.rows ≤ w) × (w < b.rows + (tree + 1)))
  later w h = ⊎_elim (λ lt. inl (omega (arith, lt))) (λ t. let lt = t.1 in inr (t.0, omega (arith, lt))) h

  pub visited_held : {n : Seat} (found : ℕ) → n ≡ after_take s tree (Some found) → Visits b (tree + 1) s n
  visited_held found e = subst (Visits b (tree + 1) s) (sym e) (
    record { board = refl; number = refl; seats = refl },
    record { board = v.board; contested = v.contested; sets = λ w h. later w (v.sets w (h.0, h.1)) },
  )

  pub visited_mine : {n m l : Seat} (mate other : ℕ) → n ≡ after_take s tree None → m ≡ after_set n tree mate → l ≡ after_set m (b.rows + tree) other → Visits b (tree + 1) s l
  visited_mine mate other e f g = subst (Visits b (tree + 1) s) (sym (g ∙ ap (λ (t : Seat). after_set t (b.rows + tree) other) (f ∙ ap (λ (t : Seat). after_set t tree mate) e))) (
    record { board = refl; number = refl; seats = refl },
    record {
      board = v.board;
      contested = v.contested;
      sets = λ w h. ⊎_elim
          (λ (u : Among (w, h.0) (s.listed.sets ++ (tree, mate) ∷ [])). ⊎_elim (λ (k : Among (w, h.0) s.listed.sets). later w (v.sets w (h.0, k))) (λ (k : ◌≡◌ {A = ℕ × ℕ} (w, h.0) (tree, mate)). let same : w ≡ tree = ap (λ (p : ℕ × ℕ). p.0) k in inl (omega (arith, same))) (among_last (w, h.0) (tree, mate) s.listed.sets u))
          (λ (u : ◌≡◌ {A = ℕ × ℕ} (w, h.0) (b.rows + tree, other)). let same : w ≡ b.rows + tree = ap (λ (p : ℕ × ℕ). p.0) u in inr (omega (arith, same), omega (arith, same)))
          (among_last (w, h.0) (b.rows + tree, other) (s.listed.sets ++ (tree, mate) ∷ []) h.1);
    },
  )

-- a set leaves what was taken
pub took_still : (n : Seat) {m : Seat} (v mate root : ℕ) → m ≡ after_set n v mate → Took n root → Took m root
took_still n v mate root e took = subst (λ (t : Seat). Took t root) (sym e) took
