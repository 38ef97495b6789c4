-- The path that a tree has found, followed back over the queue.
use Rattle.std.proofs.Common.{◌≡◌, ◌⊎◌, ◌∙◌, ℕ, zero, suc, ◌<◌, ◌≤◌, List, [], ◌∷◌, length, slice_index_or, refl, sym, ap, subst, inl, inr, ⊎_elim, arith}
use Rattle.std.proofs.lemmas.List.{get_or_default, length-map}
use Rattle.bip_defs.specs.Lists.{Among, AreDistinct}
use Rattle.bip_defs.specs.Matching.{IsMatching, cols_of, rows_of}
use Rattle.bip_defs.specs.Matrix.{IsEntry, Matrix, Place, cols}
use Rattle.bip_defs.specs.Paths.{IsAugmenting}
use Rattle.bip_defs.proofs.Full.{few_below}
use Rattle.bip_defs.proofs.Sets.{col_among, col_pair, number_among, one_col, one_row, place_among, row_pair}
use Rattle.bip_graph.specs.Matching.{IsMatchingOf, Pairing}
use Rattle.bip_graph.specs.Parents.{AreTrees, HasDepth, IsAncestor, IsTraced, child, itself, parent, root}
use Rattle.path_search.specs.Forests.{AreRooted, HasParent, IsFound, IsForest, IsLeafOf, IsRooted, Traces, Trees, reached_at, reached_cols}
use Rattle.path_search.specs.declared.reached.Reached.{Reached}
use Rattle.path_search.proofs.Queues.{one_place}

-- what was reached, at its place
reached_place : (q : List Reached) (x : Reached) → Among x q → (i : ℕ) × (i < length q) × (reached_at q i ≡ x)
reached_place q x h = place_among x (record { col = 0; from = 0; root = 0 }) q h

-- what is read at a place within the queue
pub read_at : (q : List Reached) (i : ℕ) (x : Reached) → x ≡ slice_index_or q i x → i < length q → x ≡ reached_at q i
read_at q i x e lt = e ∙ get_or_default q i x (record { col = 0; from = 0; root = 0 }) lt

pub read_any : (q : List Reached) (i : ℕ) (x : Reached) → i < length q → reached_at q i ≡ slice_index_or q i x
read_any q i x lt = get_or_default q i (record { col = 0; from = 0; root = 0 }) x lt

pub forest_rooted : (a : Matrix) (m : Pairing) (t : Trees) → IsMatchingOf a m → IsForest a m.pairs t → AreRooted m t.queue
forest_rooted a m t k f = record {
  in_range = λ x h. let (i, lt, e) = reached_place t.queue x h in rw k.cols (subst (λ (y : Reached). y.col < cols a) e (f.in_range i lt).0);
  distinct = f.cols_differ;
  rooted = λ i lt free. rooted i (f.found i lt free);
}
  where
    rooted : (i : ℕ) → IsFound a m.pairs t.queue i → IsRooted t.queue i
    rooted i (inl e) = inl e
    rooted i (inr (before, tree, r, pair, entry)) = inr (before, tree)

pub rooted_trees : (m : List Place) (q : List Reached) → AreDistinct (rows_of m) → AreDistinct (cols_of m) → AreDistinct (reached_cols q) → AreTrees m (HasParent m q)
rooted_trees m q rows columns differ = record {
  rows_differ = rows;
  cols_differ = columns;
  one_parent = λ r c d (i, in_i, free, p, before, tree, e) (j, in_j, free2, s, before2, tree2, f). sym e ∙ ap (λ n. (reached_at q (reached_at q n).from).col) (one_place q i j differ in_i in_j (one_col m rows r (reached_at q i).col (reached_at q j).col p s)) ∙ f;
}

-- a matched column whose root is unmatched, and its parent
parent_at : (m : Pairing) (q : List Reached) (i r : ℕ) → AreRooted m q → i < length q → ¬ Among (reached_at q i).root (cols_of m.pairs) → Among (r, (reached_at q i).col) m.pairs → HasParent m.pairs q r (reached_at q (reached_at q i).from).col
parent_at m q i r k lt free pair = by (k.rooted i lt free)
  where
    by : IsRooted q i → HasParent m.pairs q r (reached_at q (reached_at q i).from).col
    by (inl e) = absurd (free (subst (λ c. Among c (cols_of m.pairs)) e (col_among r (reached_at q i).col m.pairs pair)))
    by (inr (before, tree)) = (i, lt, free, pair, before, tree, refl)

pub parent_of : (m : Pairing) (q : List Reached) (x : Reached) (r : ℕ) → AreRooted m q → Among x q → ¬ Among x.root (cols_of m.pairs) → Among (r, x.col) m.pairs → (x.from < length q) × HasParent m.pairs q r (reached_at q x.from).col × (¬ Among (reached_at q x.from).root (cols_of m.pairs))
parent_of m q x r k h free pair =
    let (i, lt, e) = reached_place q x h in
    subst (λ (y : Reached). ¬ Among y.root (cols_of m.pairs) → Among {X = Place} (r, y.col) m.pairs → (y.from < length q) × HasParent m.pairs q r (reached_at q y.from).col × (¬ Among (reached_at q y.from).root (cols_of m.pairs))) e (at i lt) free pair
  where
    at : (i : ℕ) → i < length q → ¬ Among (reached_at q i).root (cols_of m.pairs) → Among {X = Place} (r, (reached_at q i).col) m.pairs → ((reached_at q i).from < length q) × HasParent m.pairs q r (reached_at q (reached_at q i).from).col × (¬ Among (reached_at q (reached_at q i).from).root (cols_of m.pairs))
    at i lt free p = by (k.rooted i lt free)
      where
        by : IsRooted q i → ((reached_at q i).from < length q) × HasParent m.pairs q r (reached_at q (reached_at q i).from).col × (¬ Among (reached_at q (reached_at q i).from).root (cols_of m.pairs))
        by (inl e) = absurd (free (subst (λ c. Among c (cols_of m.pairs)) e (col_among r (reached_at q i).col m.pairs p)))
        by (inr (before, tree)) = (omega arith, parent_at m q i r k lt free p, λ g. free (subst (λ c. Among c (cols_of m.pairs)) tree g))

-- the column at each place of a tree whose root is unmatched has a depth
rooted_within : (bound : ℕ) (m : Pairing) (q : List Reached) (i : ℕ) → AreRooted m q → i < bound → i < length q → ¬ Among (reached_at q i).root (cols_of m.pairs) → (n : ℕ) × HasDepth m.pairs (HasParent m.pairs q) (reached_at q i).col n
rooted_within zero m q i k lt within free = absurd (omega arith)
rooted_within (suc bound) m q i k lt within free = by (rooted_within bound m q (reached_at q i).from k) (k.rooted i within free)
  where
    by : ((reached_at q i).from < bound → (reached_at q i).from < length q → ¬ Among (reached_at q (reached_at q i).from).root (cols_of m.pairs) → (n : ℕ) × HasDepth m.pairs (HasParent m.pairs q) (reached_at q (reached_at q i).from).col n) → IsRooted q i → (n : ℕ) × HasDepth m.pairs (HasParent m.pairs q) (reached_at q i).col n
    by up (inl e) = (0, root (λ h. free (subst (λ c. Among c (cols_of m.pairs)) e h)))
    by up (inr (before, tree)) = ⊎_elim (λ h. let (r, p) = col_pair (reached_at q i).col m.pairs h in let (n, deep) = up (omega arith) (omega arith) (λ g. free (subst (λ c. Among c (cols_of m.pairs)) tree g)) in (suc n, child r p (i, within, free, p, before, tree, refl) deep)) (λ off. (0, root off)) (number_among (reached_at q i).col (cols_of m.pairs))

pub rooted_depth : (m : Pairing) (q : List Reached) (i : ℕ) → AreRooted m q → i < length q → ¬ Among (reached_at q i).root (cols_of m.pairs) → (n : ℕ) × HasDepth m.pairs (HasParent m.pairs q) (reached_at q i).col n
rooted_depth m q i k lt free = rooted_within (suc i) m q i k (omega arith) lt free

-- an ancestor stands in the same tree
ancestor_place : (m : List Place) (q : List Reached) (place d : ℕ) → AreDistinct (rows_of m) → AreDistinct (reached_cols q) → place < length q → IsAncestor m (HasParent m q) (reached_at q place).col d → (i : ℕ) × (i < length q) × ((reached_at q i).root ≡ (reached_at q place).root) × ((reached_at q i).col ≡ d)
ancestor_place m q place d rows differ lt itself = (place, lt, refl, refl)
ancestor_place m q place d rows differ lt (parent {d = c} r above pair (i, in_i, free, p, before, tree, e)) =
    let (j, in_j, same, is) = ancestor_place m q place c rows differ lt above in
    let one : i ≡ j = one_place q i j differ in_i in_j (one_col m rows r (reached_at q i).col c p pair ∙ sym is) in
    ((reached_at q i).from, omega arith, tree ∙ ap (λ n. (reached_at q n).root) one ∙ same, e)

-- what is followed back from an unmatched row in which the column at the place has an entry
pub traces : (a : Matrix) (m : List Place) (t : Trees) (place leaf : ℕ) (path : List Place) → IsMatching a m → IsForest a m t → place < length t.queue → IsLeafOf a m t (reached_at t.queue place).col leaf → ¬ Among (reached_at t.queue place).root (cols_of m) → IsAugmenting m path → ((p : Place) → Among p path → IsTraced m (HasParent m t.queue) leaf (reached_at t.queue place).col p) → Traces a m t.queue (reached_at t.queue place).root leaf path
traces a m t place leaf path k f lt l free aug traced = record {
  augmenting = aug;
  entries = λ r c h. entry r c (traced (r, c) h);
  from_root = from path aug traced;
  in_tree = λ r h. let (c, p) = row_pair r path h in in_tree r c (traced (r, c) p);
}
  where
    entry_of : (r c : ℕ) (i : ℕ) → Among {X = Place} (r, (reached_at t.queue i).col) m → ¬ Among (reached_at t.queue i).root (cols_of m) → (reached_at t.queue (reached_at t.queue i).from).col ≡ c → IsFound a m t.queue i → IsEntry a r c
    entry_of r c i pair off e (inl same) = absurd (off (subst (λ d. Among d (cols_of m)) same (col_among r (reached_at t.queue i).col m pair)))
    entry_of r c i pair off e (inr (before, tree, s, mate, on)) = subst (IsEntry a r) e (subst (λ x. IsEntry a x (reached_at t.queue (reached_at t.queue i).from).col) (one_row m k.cols_differ s r (reached_at t.queue i).col mate pair) on)

    entry : (r c : ℕ) → IsTraced m (HasParent m t.queue) leaf (reached_at t.queue place).col (r, c) → IsEntry a r c
    entry r c (inl e) = subst (λ (p : Place). IsEntry a p.0 p.1) (sym e) l.entry
    entry r c (inr (d, above, mate, (i, in_i, off, pair, before, tree, e))) = entry_of r c i pair off e (f.found i in_i off)

    in_tree : (r c : ℕ) → IsTraced m (HasParent m t.queue) leaf (reached_at t.queue place).col (r, c) → (r ≡ leaf) ⊎ ((i : ℕ) × (i < length t.queue) × ((reached_at t.queue i).root ≡ (reached_at t.queue place).root) × Among (r, (reached_at t.queue i).col) m)
    in_tree r c (inl e) = inl (ap (λ (p : Place). p.0) e)
    in_tree r c (inr (d, above, mate, up)) = let (i, in_i, same, is) = ancestor_place m t.queue place d k.rows_differ f.cols_differ lt above in inr (i, in_i, same, subst (λ x. Among {X = Place} (r, x) m) (sym is) mate)

    is_root : (c : ℕ) → ¬ Among c (cols_of m) → IsAncestor m (HasParent m t.queue) (reached_at t.queue place).col c → c ≡ (reached_at t.queue place).root
    is_root c off above = let (i, in_i, same, is) = ancestor_place m t.queue place c k.rows_differ f.cols_differ lt above in by i same is (f.found i in_i (subst (λ x. ¬ Among x (cols_of m)) (sym same) free))
      where
        by : (i : ℕ) → (reached_at t.queue i).root ≡ (reached_at t.queue place).root → (reached_at t.queue i).col ≡ c → IsFound a m t.queue i → c ≡ (reached_at t.queue place).root
        by i same is (inl e) = sym is ∙ e ∙ same
        by i same is (inr (before, tree, r, pair, on)) = absurd (off (subst (λ x. Among x (cols_of m)) is (col_among r (reached_at t.queue i).col m pair)))

    above_of : (p : Place) → IsTraced m (HasParent m t.queue) leaf (reached_at t.queue place).col p → IsAncestor m (HasParent m t.queue) (reached_at t.queue place).col p.1
    above_of p (inl e) = subst (λ (x : Place). IsAncestor m (HasParent m t.queue) (reached_at t.queue place).col x.1) (sym e) itself
    above_of p (inr (d, above, mate, up)) = parent p.0 above mate up

    from : (ps : List Place) → IsAugmenting m ps → ((p : Place) → Among p ps → IsTraced m (HasParent m t.queue) leaf (reached_at t.queue place).col p) → Among (reached_at t.queue place).root (cols_of ps)
    from [] aug traced = absurd aug.begins
    from (p ∷ ps) aug traced = inl (sym (is_root p.1 aug.begins (above_of p (traced p (inl refl)))))

-- the path has room: an unmatched row is none of the matched ones
pub path_fits : (a : Matrix) (m : List Place) (t : Trees) (c leaf : ℕ) {n room : ℕ} → IsMatching a m → IsForest a m t → IsLeafOf a m t c leaf → n ≡ length t.marks → n ≤ room → length m < room
path_fits a m t c leaf k f l long fits =
    let in_range = l.entry.0 in
    let few = few_below a.rows (leaf ∷ rows_of m) (l.unmatched, k.rows_differ) (λ r h. ⊎_elim (λ (e : r ≡ leaf). subst (λ x. x < a.rows) (sym e) in_range) (λ g. let (d, p) = row_pair r m g in (k.entries r d p).0) h) in
    omega (arith, few, long, fits, f.rows_are, length-map m (λ (p : Place). p.0))
