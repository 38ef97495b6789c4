-- What an exchanged path from a search leaves.
use Rattle.std.proofs.Common.{◌≡◌, ◌≢◌, ◌⊎◌, ◌∙◌, ℕ, ◌+◌, ◌<◌, List, [], ◌∷◌, length, slice_index, refl, sym, ap, subst, inl, ⊎_elim, arith}
use Rattle.std.proofs.lemmas.List.{length-map}
use Rattle.bip_defs.specs.Lists.{Among}
use Rattle.bip_defs.specs.Matching.{Covers, IsMatching, cols_of, rows_of}
use Rattle.bip_defs.specs.Matrix.{AreEntries, IsEntry, Matrix, Place, cols}
use Rattle.bip_defs.specs.Paths.{Exchanges, IsAugmenting}
use Rattle.bip_defs.proofs.Sets.{col_among, col_pair, entry_col, number_same}
use Rattle.bip_graph.specs.Matching.{Pairing}
use Rattle.bip_graph.specs.Parents.{IsQueue, IsReachedIn}
use Rattle.bip_defs.proofs.Full.{few_below}
use Rattle.integer_diagonal.proofs.Cheap.{cheap_cols}
use Rattle.integer_diagonal.proofs.Augmented.{bounded_next, distance_small, dual_small}
use Rattle.integer_diagonal.proofs.RaisedPrices.{raised_end, raised_entry, raised_feasible, raised_matching}
use Rattle.integer_diagonal.specs.Duals.{IsAssigned, IsBounded, Priced, cheap, dual}
use Rattle.integer_diagonal.specs.SearchTree.{IsGrown, IsNearest, IsRaised, IsSearched, Tree, stop}
use Rattle.integer_diagonal.specs.Amounts.{HasRoom, infinity}
use Rattle.sp_pattern.specs.Weights.{Weighing}
use Rattle.bip_defs.specs.Queues.{Queue, at, heads}
use Rattle.bip_defs.proofs.Queues.{head_at, place_of}

-- the path's pairs have a column of the queue that is unmatched
abbrev pub HasRoot : List Place → List ℕ → List Place → Type 0
HasRoot m queue path = (c : ℕ) × Among c (cols_of path) × (¬ Among c (cols_of m)) × Among c queue

-- each pair is that of the leaf, or a row and the column from which it was reached
abbrev pub IsFollowed : List Place → Queue → ℕ → ℕ → List Place → Type 0
IsFollowed m q leaf place path = (p : Place) → Among p path → (p ≡ (leaf, (at q place).0)) ⊎ IsReachedIn m q p.0 p.1

path_root : (m path : List Place) (q : Queue) (leaf place : ℕ) → place < length q → IsFollowed m q leaf place path → IsAugmenting m path → HasRoot m (heads q) path
path_root m [] q leaf place lt on aug = absurd aug.begins
path_root m (p ∷ path) q leaf place lt on aug = (p.1, inl refl, aug.begins, ⊎_elim (λ (e : p ≡ (leaf, (at q place).0)). subst (λ (z : Place). Among z.1 (heads q)) (sym e) (head_at q place lt)) (λ (i, within, pair, before, e). subst (λ c. Among c (heads q)) e (head_at q (at q i).1 (omega arith))) (on p (inl refl)))

-- that column is the root
pub root_matched : (x : Priced) (m n path : List Place) (root : ℕ) (t : Tree) → IsGrown x m root t → Exchanges path m n → HasRoot m (heads t.queue) path → Among root (cols_of n)
root_matched x m n path root t g swaps (c, on, free, h) =
    let (i, lt, e) = place_of t.queue c h in
    let (r, pair) = col_pair c path on in
    subst (λ d. Among d (cols_of n)) (is i lt e) (col_among r c n ((swaps (r, c)).1 (inl pair)))
  where
    is : (i : ℕ) → i < length t.queue → stop t i ≡ c → c ≡ root
    is i lt e = ⊎_elim (λ (z : i ≡ 0). sym e ∙ ap (stop t) z ∙ g.starts) (λ (nz : i ≢ 0). let (s, pair, earlier, way) = g.led i (omega arith) lt in absurd (free (subst (λ d. Among d (cols_of m)) e (col_among s (stop t i) m pair)))) (number_same i 0)

-- a search that has found an unmatched row
pub record IsFound (x : Priced) (m : List Place) (root : ℕ) (t : Tree) (row place distance : ℕ) : Type 0 where
  pub grown : IsGrown x m root t
  pub nearest : IsNearest x m t row place distance
  pub searched : IsSearched x m t distance

pub found_near : (x : Priced) (m : List Place) (root : ℕ) (s : Tree) (q : Queue) (ds : List ℕ) (row place distance : ℕ) → q ≡ s.queue → ds ≡ s.depths → IsGrown x m root s → (distance < infinity → IsNearest x m s row place distance × IsSearched x m s distance) → distance < infinity → IsFound x m root (record { queue = q; depths = ds }) row place distance
found_near x m root s q ds row place distance e f grown near lt = subst (λ q. IsFound x m root (record { queue = q; depths = ds }) row place distance) (sym e) (subst (λ d. IsFound x m root (record { queue = s.queue; depths = d }) row place distance) (sym f) (record { grown = grown; nearest = (near lt).0; searched = (near lt).1 }))

-- raised prices and dual variables fit
module _ (x : Priced) (m : List Place) (root : ℕ) (t : Tree) (row place distance limit : ℕ) where
  pub dual_fits : (c : ℕ) → HasRoom (cols x.weighing.matrix) x.top limit → IsMatching (cheap x) m → IsBounded x m → IsFound x m root t row place distance → dual x c + distance < limit
  dual_fits c room k b f =
      let low = dual_small x m c k b in
      let near = distance_small x m root t row place distance k b f.grown f.nearest in
      omega (arith, low, near, room)

  pub price_fits : (r : ℕ) → HasRoom (cols x.weighing.matrix) x.top limit → IsMatching (cheap x) m → IsBounded x m → IsFound x m root t row place distance → slice_index x.prices r + distance < limit
  price_fits r room k b f =
      let low = b.prices r in
      let near = distance_small x m root t row place distance k b f.grown f.nearest in
      omega (arith, low, near, room)

-- what the path leads back over, as prices are now
pub record IsWay (a : Matrix) (k : Pairing) (q : Queue) (row place : ℕ) : Type 0 where
  pub rows_are : a.rows ≡ k.rows
  pub cols_are : cols a ≡ k.cols
  pub matching : IsMatching a k.pairs
  pub queue : IsQueue k q
  pub within : place < length q
  pub entries : (r c : ℕ) → IsReachedIn k.pairs q r c → IsEntry a r c
  pub end : IsEntry a row (at q place).0
  pub free : ¬ Among row (rows_of k.pairs)

pub way_entries : (a : Matrix) (k : Pairing) (q : Queue) (row place : ℕ) (path : List Place) → IsWay a k q row place → IsFollowed k.pairs q row place path → AreEntries a path
way_entries a k q row place path on followed r c h = ⊎_elim (λ (e : (r, c) ≡ (row, (at q place).0)). subst (λ (p : Place). IsEntry a p.0 p.1) (sym e) on.end) (λ up. on.entries r c up) (followed (r, c) h)

pub way_root : (a : Matrix) (k : Pairing) (q : Queue) (row place : ℕ) (path : List Place) → IsWay a k q row place → IsFollowed k.pairs q row place path → IsAugmenting k.pairs path → HasRoot k.pairs (heads q) path
way_root a k q row place path on followed aug = path_root k.pairs path q row place on.within followed aug

-- its places are in range
pub way_range : (a : Matrix) (k : Pairing) (q : Queue) (row place : ℕ) (path : List Place) (r c : ℕ) → IsWay a k q row place → AreEntries a path → Among (r, c) path → (r < k.rows) × (c < k.cols)
way_range a k q row place path r c on entries h =
    let e = entries r c h in
    (subst (λ n. r < n) on.rows_are e.0, subst (λ n. c < n) on.cols_are (entry_col a r c e))

-- an unmatched column leaves fewer pairs than there are columns
pub pairs_fewer : (x : Priced) (m k : Pairing) (root : ℕ) → k ≡ m → IsAssigned x m → root < cols x.weighing.matrix → ¬ Among root (cols_of m.pairs) → length k.pairs < cols x.weighing.matrix
pairs_fewer x m k root same a lt free = subst (λ (z : Pairing). length z.pairs < cols x.weighing.matrix) (sym same) (omega (arith, length-map m.pairs (λ (p : Place). p.1), few_below (cols x.weighing.matrix) (root ∷ cols_of m.pairs) (free, a.matching.cols_differ) below))
  where
    below : (c : ℕ) → Among c (root ∷ cols_of m.pairs) → c < cols x.weighing.matrix
    below c h = ⊎_elim (λ (e : c ≡ root). subst (λ z. z < cols x.weighing.matrix) (sym e) lt) (λ on. let (r, p) = col_pair c m.pairs on in subst (λ n. c < n) (cheap_cols x) (entry_col (cheap x) r c (a.matching.entries r c p))) h

-- what exchanging the path has changed
pub record IsFlipped (a : Matrix) (k n : Pairing) (q : Queue) (path : List Place) : Type 0 where
  pub sizes : (n.rows ≡ k.rows) × (n.cols ≡ k.cols)
  pub matching : IsMatching a n.pairs
  pub covered : Covers k.pairs n.pairs
  pub swaps : Exchanges path k.pairs n.pairs
  pub root : HasRoot k.pairs (heads q) path

-- what is left after all
pub record IsExtended (y : Priced) (m n : Pairing) (root : ℕ) : Type 0 where
  pub assigned : IsAssigned y n
  pub covered : Covers m.pairs n.pairs
  pub mated : Among root (cols_of n.pairs)

module _ (w : Weighing) (top : ℕ) (prices duals prices2 duals2 : List ℕ) (m k : Pairing) (root : ℕ) (t : Tree) (row place distance : ℕ) where
  abbrev pub x : Priced
  x = record { weighing = w; top = top; prices = prices; duals = duals }

  abbrev pub y : Priced
  y = record { weighing = w; top = top; prices = prices2; duals = duals2 }

  pub way : k ≡ m → IsAssigned x m → IsFound x m.pairs root t row place distance → IsRaised x y m.pairs t distance → IsWay (cheap y) k t.queue row place
  way same a f u = subst (λ z. IsWay (cheap y) z t.queue row place) (sym same) (record {
    rows_are = sym a.rows_are;
    cols_are = cheap_cols y ∙ sym a.cols_are;
    matching = raised_matching w top prices duals prices2 duals2 m.pairs root t distance a.matching f.grown f.searched u;
    queue = queue;
    within = f.nearest.reaches.within;
    entries = λ r c. raised_entry w top prices duals prices2 duals2 m.pairs root t distance r c a.matching.cols_differ f.grown u;
    end = raised_end w top prices duals prices2 duals2 m.pairs root t distance row place f.nearest u;
    free = f.nearest.free;
  })
    where
      earlier : (i : ℕ) → i < length t.queue → Among (stop t i) (cols_of m.pairs) → (at t.queue i).1 < i
      earlier i lt on = ⊎_elim (λ (z : i ≡ 0). absurd (f.grown.free (subst (λ c. Among c (cols_of m.pairs)) (ap (stop t) z ∙ f.grown.starts) on))) (λ (nz : i ≢ 0). let (r, pair, before, way) = f.grown.led i (omega arith) lt in before) (number_same i 0)

      queue : IsQueue m t.queue
      queue = record { in_range = λ c h. subst (λ n. c < n) (sym a.cols_are) (f.grown.in_range c h); distinct = f.grown.distinct; earlier = earlier }

  pub extended : (n : Pairing) (path : List Place) → k ≡ m → IsAssigned x m → IsFound x m.pairs root t row place distance → IsRaised x y m.pairs t distance → IsFlipped (cheap y) k n t.queue path → IsExtended y m n root
  extended n path same a f u from = record {
    assigned = record {
      rows_are = flipped.sizes.0 ∙ a.rows_are;
      cols_are = flipped.sizes.1 ∙ a.cols_are;
      feasible = raised_feasible w top prices duals prices2 duals2 m.pairs root t distance a.feasible f.grown f.searched u;
      matching = flipped.matching;
      bounded = bounded_next x y m.pairs n.pairs root t row place distance a.matching a.bounded f.grown f.nearest u flipped.covered on_root;
    };
    covered = flipped.covered;
    mated = on_root;
  }
    where
      flipped : IsFlipped (cheap y) m n t.queue path
      flipped = subst (λ z. IsFlipped (cheap y) z n t.queue path) same from

      on_root : Among root (cols_of n.pairs)
      on_root = root_matched x m.pairs n.pairs path root t f.grown flipped.swaps flipped.root
