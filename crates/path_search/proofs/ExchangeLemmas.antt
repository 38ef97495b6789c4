-- What an exchange leaves of the trees.
use Rattle.std.proofs.Common.{◌≡◌, ◌≢◌, ◌∙◌, ℕ, ◌<◌, List, length, sym, ap, subst, inl, inr, ⊎_elim}
use Rattle.bip_defs.specs.Lists.{Among, IsMarked}
use Rattle.bip_defs.specs.Matching.{IsMatching, cols_of, rows_of}
use Rattle.bip_defs.specs.Matrix.{Matrix, Place}
use Rattle.bip_defs.specs.Paths.{Exchanges}
use Rattle.bip_defs.proofs.Sets.{col_among, col_pair, one_col, row_among}
use Rattle.path_search.specs.Forests.{IsFound, IsForest, IsLeafOf, Traces, Trees, reached_at}
use Rattle.path_search.proofs.Queues.{col_reached, one_place}

-- the path's rows are marked
path_marked : (a : Matrix) (m : List Place) (t : Trees) (root leaf col : ℕ) (path : List Place) → IsForest a m t → IsLeafOf a m t col leaf → Traces a m t.queue root leaf path → (r : ℕ) → Among r (rows_of path) → IsMarked t.marks r
path_marked a m t root leaf col path f l s r h = ⊎_elim (λ (e : r ≡ leaf). subst (λ x. IsMarked t.marks x) (sym e) l.marked) (λ (i, within, tree, pair). f.mates_marked r (reached_at t.queue i).col pair (col_reached t.queue i within)) (s.in_tree r h)

-- the mate of a column of another tree is not on the path
path_apart : (a : Matrix) (m : List Place) (t : Trees) (root leaf col : ℕ) (path : List Place) (i r : ℕ) → IsMatching a m → IsForest a m t → IsLeafOf a m t col leaf → Traces a m t.queue root leaf path → i < length t.queue → (reached_at t.queue i).root ≢ root → Among (r, (reached_at t.queue i).col) m → ¬ Among r (rows_of path)
path_apart a m t root leaf col path i r k f l s within other pair h = ⊎_elim (λ (e : r ≡ leaf). l.unmatched (subst (λ x. Among x (rows_of m)) e (row_among r (reached_at t.queue i).col m pair))) (λ (j, in_j, tree, mate). other (ap (λ n. (reached_at t.queue n).root) (one_place t.queue i j f.cols_differ within in_j (one_col m k.rows_differ r (reached_at t.queue i).col (reached_at t.queue j).col pair mate)) ∙ tree)) (s.in_tree r h)

-- the tree of the path is done with, and the others go on, whatever stands in the path's place
pub forest_exchanged : (a : Matrix) (m new : List Place) (t : Trees) (root leaf col : ℕ) (path after : List Place) → IsMatching a m → IsForest a m t → IsLeafOf a m t col leaf → Traces a m t.queue root leaf path → Exchanges path m new → ((c : ℕ) → Among c (cols_of m) → Among c (cols_of new)) → IsForest a new (record t { path = after })
forest_exchanged a m new t root leaf col path after k f l s x stay = record {
  rows_are = f.rows_are;
  cols_are = f.cols_are;
  in_range = f.in_range;
  cols_differ = f.cols_differ;
  mates_marked = λ r c p h. ⊎_elim (λ on. path_marked a m t root leaf col path f l s r (row_among r c path on)) (λ (had, off). f.mates_marked r c had h) ((x (r, c)).0 p);
  found = λ i lt free. found_still i lt free (f.found i lt (λ h. free (stay (reached_at t.queue i).root h)));
}
  where
    matched : Among root (cols_of new)
    matched = let (r, on) = col_pair root path s.from_root in col_among r root new ((x (r, root)).1 (inl on))

    found_still : (i : ℕ) → i < length t.queue → ¬ Among (reached_at t.queue i).root (cols_of new) → IsFound a m t.queue i → IsFound a new t.queue i
    found_still i lt free (inl e) = inl e
    found_still i lt free (inr (before, tree, r, pair, entry)) =
        let other : (reached_at t.queue i).root ≢ root = λ e. free (subst (λ c. Among c (cols_of new)) (sym e) matched) in
        inr (before, tree, r, (x (r, (reached_at t.queue i).col)).1 (inr (pair, path_apart a m t root leaf col path i r k f l s lt other pair)), entry)
