-- Trees of roots alone.
use Rattle.std.proofs.Common.{◌≡◌, ◌≢◌, ◌∙◌, ℕ, ◌+◌, ◌<◌, List, [], ◌∷◌, ◌++◌, length, refl, sym, subst, inl, ⊎_elim, arith}
use Rattle.std.proofs.lemmas.List.{length-map}
use Rattle.bip_defs.specs.Lists.{Among, AreDistinct, IsMarked}
use Rattle.bip_defs.specs.Matching.{cols_of}
use Rattle.bip_defs.specs.Matrix.{Matrix, Place, cols}
use Rattle.bip_defs.proofs.Sets.{among_right, col_among, distinct_last, number_same}
use Rattle.path_search.specs.Forests.{HaveNoPath, IsForest, Trees, reached_at, reached_cols}
use Rattle.path_search.specs.declared.reached.Reached.{Reached}
use Rattle.bip_defs.proofs.Full.{few_below}
use Rattle.path_search.proofs.Queues.{each_place, grown_among, place_of, reached_last}

abbrev pub IsRoot : List Place → ℕ → Reached → Type 0
IsRoot m n x = (x.col < n) × (x.col ≡ x.root) × (¬ Among x.root (cols_of m))

-- the unmatched columns below n are the roots, and no row is marked
pub record HaveStarted (a : Matrix) (m : List Place) (t : Trees) (n : ℕ) : Type 0 where
  pub rows_are : length t.marks ≡ a.rows
  pub cols_are : t.cols ≡ cols a
  pub unmarked : (r : ℕ) → ¬ IsMarked t.marks r
  pub roots : (i : ℕ) → i < length t.queue → IsRoot m n (reached_at t.queue i)
  pub differ : AreDistinct (reached_cols t.queue)
  pub complete : (c : ℕ) → c < n → ¬ Among c (cols_of m) → Among c (reached_cols t.queue)

started_below : (a : Matrix) (m : List Place) (t : Trees) (n c : ℕ) → HaveStarted a m t n → Among c (reached_cols t.queue) → c < n
started_below a m t n c p h = let (i, lt, e) = place_of t.queue c h in subst (λ x. x < n) e (p.roots i lt).0

pub started_room : (a : Matrix) (m : List Place) (t : Trees) (n : ℕ) → HaveStarted a m t n → n < cols a → length t.queue < t.cols
started_room a m t n p lt = let le = few_below n (reached_cols t.queue) p.differ (λ c h. started_below a m t n c p h) in omega (arith, length-map t.queue (λ (x : Reached). x.col), p.cols_are)

more_below : (m : List Place) (n : ℕ) (x : Reached) → IsRoot m n x → IsRoot m (n + 1) x
more_below m n x r = (let lt = r.0 in omega arith, r.1, r.2)

-- a matched column is no root
pub started_matched : (a : Matrix) (m : List Place) (t : Trees) (n : ℕ) → HaveStarted a m t n → Among n (cols_of m) → HaveStarted a m t (n + 1)
started_matched a m t n p on = record {
  rows_are = p.rows_are;
  cols_are = p.cols_are;
  unmarked = p.unmarked;
  roots = λ i lt. more_below m n (reached_at t.queue i) (p.roots i lt);
  differ = p.differ;
  complete = λ c lt free. ⊎_elim (λ (e : c ≡ n). absurd (free (subst (λ x. Among x (cols_of m)) (sym e) on))) (λ (ne : c ≢ n). p.complete c (omega arith) free) (number_same c n);
}

pub started_more : (a : Matrix) (m : List Place) (t : Trees) (n : ℕ) → HaveStarted a m t n → ¬ Among n (cols_of m) → HaveStarted a m (record t { queue = t.queue ++ record { col = n; from = 0; root = n } ∷ [] }) (n + 1)
started_more a m t n p free = record {
  rows_are = p.rows_are;
  cols_are = p.cols_are;
  unmarked = p.unmarked;
  roots = each_place (λ i (x : Reached). IsRoot m (n + 1) x) t.queue (record { col = n; from = 0; root = n }) (λ i lt. more_below m n (reached_at t.queue i) (p.roots i lt)) (omega arith, refl, free);
  differ = rw reached_last (distinct_last (reached_cols t.queue) n p.differ (λ h. let lt = started_below a m t n n p h in absurd (omega arith)));
  complete = λ c lt unmatched. ⊎_elim (λ (e : c ≡ n). rw reached_last (among_right c (reached_cols t.queue) (n ∷ []) (inl e))) (λ (ne : c ≢ n). grown_among t.queue (record { col = n; from = 0; root = n } ∷ []) c (p.complete c (omega arith) unmatched)) (number_same c n);
}

pub started_forest : (a : Matrix) (m : List Place) (t : Trees) (n : ℕ) → n ≡ cols a → HaveStarted a m t n → IsForest a m t
started_forest a m t n all p = record {
  rows_are = p.rows_are;
  cols_are = p.cols_are;
  in_range = λ i lt. let root = p.roots i lt in let below : (reached_at t.queue i).col < cols a = (let lt = root.0 in omega arith) in (below, subst (λ x. x < cols a) root.1 below);
  cols_differ = p.differ;
  mates_marked = λ r c pair h. let (i, lt, e) = place_of t.queue c h in let root = p.roots i lt in absurd (root.2 (subst (λ x. Among x (cols_of m)) (sym e ∙ root.1) (col_among r c m pair)));
  found = λ i lt free. inl (p.roots i lt).1;
}

pub started_no_path : (a : Matrix) (m : List Place) (t : Trees) (n : ℕ) → n ≡ cols a → HaveStarted a m t n → HaveNoPath a m t 0
started_no_path a m t n all p = record {
  unmatched = λ c lt free. p.complete c (omega arith) free;
  roots_unmatched = λ i lt. (p.roots i lt).2;
  explored = λ i lt. absurd (omega arith);
  leads_on = λ r h. absurd (p.unmarked r h);
}
