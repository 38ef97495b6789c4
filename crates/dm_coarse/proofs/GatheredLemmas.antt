-- The numbered rows and columns of a horizontal part are its connected components, in order.
use Rattle.std.proofs.Common.{◌≡◌, ◌∙◌, ℕ, ◌<◌, ◌≤◌, List, [], ◌∷◌, get_or, length, map, refl, sym, ap, subst, inl, inr, arith, le_antisymm}
use Rattle.bip_defs.specs.Blocks.{Block, ColAt, RowAt, Vertex, least_col}
use Rattle.bip_defs.specs.ConnectedComponents.{AreOrderedComponents, IsComponentWith, IsConnectedComponent, IsHorizontalVertex, IsVerticalVertex, Joined, alone, least_row, to_col, to_row}
use Rattle.bip_defs.specs.Lists.{Among, IsRising, Lists, StandsAt}
use Rattle.bip_defs.specs.Matrix.{Matrix, upto}
use Rattle.bip_defs.specs.Parts.{IsHorizontalCol, IsVerticalRow}
use Rattle.bip_defs.proofs.Connected.{component_same, joined_back, joined_inside, turned_block}
use Rattle.bip_defs.proofs.Queues.{distinct_at}
use Rattle.bip_defs.proofs.Sets.{among_map, among_map_back, below_each_from, below_each_sound, lists_same, rising_distinct, rising_order, upto_complete, upto_rising, upto_sound}
use Rattle.id_groups.specs.Groups.{block_of, group}
use Rattle.dm_coarse.specs.Gathered.{AreGathered}
use Rattle.outer_components.specs.Numbers.{AreNumbers}

-- the first of a rising list is at most each of it
first_least : (xs : List ℕ) (x : ℕ) → IsRising xs → Among x xs → get_or xs 0 0 ≤ x
first_least [] x rising on = elim on [ ]
first_least (y ∷ xs) x rising (inl e) = omega (arith, e)
first_least (y ∷ xs) x rising (inr on) = let lt = below_each_sound y x xs rising.0 on in omega (arith, lt)

first_among : (xs : List ℕ) (x : ℕ) → Among x xs → Among (get_or xs 0 0) xs
first_among [] x on = elim on [ ]
first_among (y ∷ xs) x on = inl refl

module _ (a : Matrix) (count : ℕ) (rs cs : List (List ℕ)) (g : AreGathered a count rs cs) where
  P : Vertex → Type 0
  P = IsHorizontalVertex a

  n : AreNumbers a count g.row_numbers g.col_numbers
  n = g.numbers

  root : ℕ → ℕ
  root k = get_or n.roots k 0

  block : ℕ → Block
  block k = block_of rs cs k

  -- the vertex has the number
  Has : ℕ → Vertex → Type 0
  Has k (RowAt x) = get_or g.row_numbers x 0 ≡ k
  Has k (ColAt x) = get_or g.col_numbers x 0 ≡ k

  has_joined : (k x : ℕ) → get_or g.col_numbers x 0 ≡ k → {v : Vertex} → Joined a P (ColAt x) v → Has k v
  unfolding Has P
  has_joined k x e alone = e
  has_joined k x e (to_col {r = i} {c = j} y entry p q) = sym (n.same i j q entry) ∙ has_joined k x e y
  has_joined k x e (to_row {r = i} {c = j} y entry p q) = n.same i j q entry ∙ has_joined k x e y

  row_number : (k i : ℕ) → k < count → Joined a P (ColAt (root k)) (RowAt i) → get_or g.row_numbers i 0 ≡ k
  unfolding Has P root
  row_number k i lt y = has_joined k (root k) (n.root k lt).1 y

  col_number : (k j : ℕ) → k < count → Joined a P (ColAt (root k)) (ColAt j) → get_or g.col_numbers j 0 ≡ k
  unfolding Has P root
  col_number k j lt y = has_joined k (root k) (n.root k lt).1 y

  component : (k : ℕ) → k < count → IsComponentWith a P (ColAt (root k)) (block k)
  unfolding P root block
  component k lt = record {
    inside = (n.root k lt).0;
    rows = lists_same (StandsAt g.row_numbers k) (λ i. Joined a P (ColAt (root k)) (RowAt i)) (group rs k)
        (λ i h. let o = n.row i (let l = n.long_rows in let m = h.0 in omega (arith, l, m)) (rw h.1 lt) in subst (λ x. Joined a P (ColAt (root x)) (RowAt i)) h.1 o.1)
        (λ i y. (let l = n.long_rows in let m = (row_in i (joined_inside a P (n.root k lt).0 y)) in omega (arith, l, m), row_number k i lt y))
        (g.by_row.lists k lt);
    cols = lists_same (StandsAt g.col_numbers k) (λ j. Joined a P (ColAt (root k)) (ColAt j)) (group cs k)
        (λ j h. let o = n.col j (let l = n.long_cols in let m = h.0 in omega (arith, l, m)) (rw h.1 lt) in subst (λ x. Joined a P (ColAt (root x)) (ColAt j)) h.1 o.0.1)
        (λ j y. (let l = n.long_cols in let m = (joined_inside a P (n.root k lt).0 y).0 in omega (arith, l, m), col_number k j lt y))
        (g.by_col.lists k lt);
  }
    where
      row_in : (i : ℕ) → IsHorizontalVertex a (RowAt i) → i < a.rows
      row_in i h = h.2.0

  -- the least column of a component is its root
  least : (k : ℕ) → k < count → least_col (block k) ≡ root k
  unfolding root block
  least k lt =
      let l : Lists (StandsAt g.col_numbers k) (group cs k) = g.by_col.lists k lt in
      let h = n.root k lt in
      let on : Among (root k) (group cs k) = l.complete (root k) (let m = h.0.0 in let q = n.long_cols in omega (arith, m, q), h.1) in
      let first = l.sound (get_or (group cs k) 0 0) (first_among (group cs k) (root k) on) in
      let above = (n.col (get_or (group cs k) 0 0) (let m = first.0 in let q = n.long_cols in omega (arith, m, q)) (rw first.1 lt)).1 in
      le_antisymm (first_least (group cs k) (root k) l.rising on) (subst (λ x. get_or n.roots x 0 ≤ get_or (group cs k) 0 0) first.1 above)

  rising_blocks : (ks : List ℕ) → IsRising ks → ((k : ℕ) → Among k ks → k < count) → IsRising (map least_col (map (block_of rs cs) ks))
  unfolding root block
  rising_blocks [] rising within = tt
  rising_blocks (k ∷ ks) rising within = (below_each_from (least_col (block k)) (map least_col (map (block_of rs cs) ks)) later, rising_blocks ks rising.1 (λ j on. within j (inr on)))
    where
      later : (y : ℕ) → Among y (map least_col (map (block_of rs cs) ks)) → least_col (block k) < y
      later y h =
          let (b, on, is) = among_map_back least_col y (map (block_of rs cs) ks) h in
          let (j, among, same) = among_map_back (block_of rs cs) b ks on in
          let kt = within k (inl refl) in
          let jt = within j (inr among) in
          let before = below_each_sound k j ks rising.0 among in
          let within : j < length n.roots = rw n.count_is jt in
          let order = rising_order n.roots n.rising k j (omega (arith, before)) within in
          let apart = distinct_at n.roots k j (rising_distinct n.roots n.rising) before within in
          omega (arith, order, apart, least k kt, least j jt, ap least_col same, is)

  -- each vertex of the part is joined with the root of a component
  has_root : (v : Vertex) → P v → (k : ℕ) × (k < count) × Joined a P v (ColAt (root k))
  unfolding P root
  has_root (ColAt j) h = let lt = n.numbered j h in let o = n.col j (h.0) lt in (get_or g.col_numbers j 0, lt, joined_back a P o.0.1)
  has_root (RowAt i) (j, h, e) =
      let lt : get_or g.row_numbers i 0 < count = rw (n.same i j h e) (n.numbered j h) in
      let o = n.row i e.0 lt in
      (get_or g.row_numbers i 0, lt, joined_back a P o.1)

  pub are_components : AreOrderedComponents a (IsHorizontalVertex a) least_col (map (block_of rs cs) (upto count))
  unfolding P root block
  are_components = record {
    sound = λ b h. let (k, on, is) = among_map_back (block_of rs cs) b (upto count) h in
        subst (IsConnectedComponent a P) is (ColAt (root k), component k (omega (arith, (upto_sound 0 count k on).1)));
    complete = λ b x. let (k, lt, y) = has_root x.0 x.1.inside in
        subst (λ d. Among d (map (block_of rs cs) (upto count))) (sym (component_same a P x.0 (ColAt (root k)) b (block k) x.1 (component k lt) y))
        (among_map (block_of rs cs) k (upto count) (upto_complete 0 count k (omega arith) (omega (arith, lt))));
    rising = rising_blocks (upto count) (upto_rising 0 count) (λ k on. omega (arith, (upto_sound 0 count k on).1));
  }

-- the same with columns for rows
pub turned_listed : (rs cs : List (List ℕ)) (ks : List ℕ) → map turned_block (map (block_of rs cs) ks) ≡ map (block_of cs rs) ks
turned_listed rs cs [] = refl
turned_listed rs cs (k ∷ ks) = ap (λ (bs : List Block). block_of cs rs k ∷ bs) (turned_listed rs cs ks)

-- A part without vertices has no components.

none_among : (xs : List ℕ) (x : ℕ) → length xs ≡ 0 → ¬ Among x xs
none_among [] x empty on = elim on [ ]
none_among (y ∷ xs) x empty on = absurd (omega (arith, empty))

no_components : (a : Matrix) (P : Vertex → Type 0) (least : Block → ℕ) → ((v : Vertex) → ¬ P v) → AreOrderedComponents a P least []
no_components a P least none = record {
  sound = λ b h. elim h [ ];
  complete = λ b x. absurd (none x.0 x.1.inside);
  rising = tt;
}

pub no_horizontal : (a : Matrix) (cols : List ℕ) → Lists (IsHorizontalCol a) cols → length cols ≡ 0 → AreOrderedComponents a (IsHorizontalVertex a) least_col []
no_horizontal a cols all empty = no_components a (IsHorizontalVertex a) least_col none
  where
    no_col : (c : ℕ) → ¬ IsHorizontalCol a c
    no_col c h = none_among cols c empty (all.complete c h)

    none : (v : Vertex) → ¬ IsHorizontalVertex a v
    none (ColAt c) h = no_col c h
    none (RowAt r) h = no_col h.0 h.1

pub no_vertical : (a : Matrix) (rows : List ℕ) → Lists (IsVerticalRow a) rows → length rows ≡ 0 → AreOrderedComponents a (IsVerticalVertex a) least_row []
no_vertical a rows all empty = no_components a (IsVerticalVertex a) least_row none
  where
    no_row : (r : ℕ) → ¬ IsVerticalRow a r
    no_row r h = none_among rows r empty (all.complete r h)

    none : (v : Vertex) → ¬ IsVerticalVertex a v
    none (RowAt r) h = no_row r h
    none (ColAt c) h = no_row h.0 h.1
