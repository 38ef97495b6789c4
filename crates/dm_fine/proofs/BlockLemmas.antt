-- Components with their rows and columns gathered are the fine blocks, and their order is that of the blocks.
use Rattle.std.proofs.Common.{◌≡◌, ◌≢◌, ◌⊎◌, ◌∙◌, ℕ, ◌^◌, ◌<◌, ◌≤◌, List, [], ◌∷◌, ◌++◌, map, length, get_or, refl, sym, ap, subst, inl, inr, ⊎_elim, arith}
use Rattle.std.proofs.lemmas.List.{get_or_default}
use Rattle.bip_defs.specs.Blocks.{AreBlocksOf, AreInOrder, Block, IsBlock, MeetsNoOther, least_col}
use Rattle.bip_defs.specs.Components.{IsComponent}
use Rattle.bip_defs.specs.Lists.{Among, AreDistinct, IsRising, Lists, StandsAt}
use Rattle.bip_defs.specs.Matrix.{Matrix, Place, cols}
use Rattle.bip_defs.specs.Parts.{IsSquareCol, IsSquareRow}
use Rattle.bip_defs.proofs.Fine.{block_is_component, component_is_block}
use Rattle.bip_defs.proofs.Sets.{among_at, among_left, among_map, among_map_back, among_right, below_each_sound, col_among, entry_col, lists_same, lists_unique, number_same, one_col, row_among, row_pair}
use Rattle.bip_graph.specs.Matching.{none}
use Rattle.square_components.specs.Answers.{IsOneComponent}
use Rattle.square_components.specs.Numbers.{look}
use Rattle.dm_fine.specs.BlockOrder.{AreOrdered, Follow}
use Rattle.dm_fine.specs.Condensation.{IsCondensation}
use Rattle.dm_fine.specs.Layout.{Layout, LeadsTo}
use Rattle.square_components.specs.Renumbering.{AreNumberedByLeast}
use Rattle.dm_fine.proofs.OrderLemmas.{follow_distinct, follow_fresh, follow_range}
use Rattle.id_groups.specs.Groups.{block_of, group}

col_stable : (a : Matrix) (c : ℕ) → c < cols a → ¬ ¬ IsSquareCol a c → IsSquareCol a c
col_stable a c lt nn = (lt, λ h. nn (λ s. s.1 h), λ v. nn (λ s. s.2 v))

pub number_square : (a : Matrix) (m : List Place) (numbers : List ℕ) (n c : ℕ) → n < 2 ^ 32 → AreNumberedByLeast a m numbers n → c < cols a → look numbers c < n → IsSquareCol a c
number_square a m numbers n c small s lt below = col_stable a c lt (λ off. let e = s.columns.outside c off in let few = s.columns.few in absurd (omega (arith, e, few, below, small)))

pub looked : (a : Matrix) (m : List Place) (numbers : List ℕ) (n c : ℕ) → AreNumberedByLeast a m numbers n → c < cols a → get_or numbers c 0 ≡ look numbers c
looked a m numbers n c s lt = let long = s.columns.long in get_or_default numbers c 0 none (omega (arith, long, lt))

-- the least column of component j
abbrev pub least_of : Layout → ℕ → ℕ
least_of t j = get_or (group t.cols j) 0 0

-- the first of a rising list is its least
head_least : (x : ℕ) (xs : List ℕ) → IsRising xs → Among x xs → get_or xs 0 0 ≤ x
head_least x [] rising h = elim h [ ]
head_least x (y ∷ xs) rising (inl e) = omega (arith, e)
head_least x (y ∷ xs) rising (inr h) = let lt = below_each_sound y x xs rising.0 h in omega (arith, lt)

some_at : (x : ℕ) (xs : List ℕ) → Among x xs → 0 < length xs
some_at x [] on = elim on [ ]
some_at x (y ∷ xs) on = omega arith

module _ (t : Layout) (of_rows : List ℕ) (g : IsCondensation t of_rows) where
  pub cols_component : (k : ℕ) → k < length t.cols → Lists (λ x. IsSquareCol t.matrix x × (look g.numbers x ≡ k)) (group t.cols k)
  cols_component k lt = lists_same (StandsAt g.numbers k) (λ x. IsSquareCol t.matrix x × (look g.numbers x ≡ k)) (group t.cols k)
      (λ x h.
      let long = g.numbered.columns.long in
      let within : x < cols t.matrix = let l = h.0 in omega (arith, l, long) in
      let is : look g.numbers x ≡ k = sym (looked t.matrix g.pairs g.numbers (length t.cols) x g.numbered within) ∙ h.1 in
      (number_square t.matrix g.pairs g.numbers (length t.cols) x g.laid_out.few g.numbered within (omega (arith, is, lt)), is))
      (λ x h. let long = g.numbered.columns.long in let within = h.0.0 in (omega (arith, long, within), looked t.matrix g.pairs g.numbers (length t.cols) x g.numbered within ∙ h.1))
      (g.by_col.lists k lt)

  pub rows_component : (k : ℕ) → k < length t.cols → Lists (λ x. (c : ℕ) × Among (x, c) g.numbered.columns.square × (look g.numbers c ≡ k)) (group t.rows k)
  rows_component k lt = lists_same (StandsAt of_rows k) (λ x. (c : ℕ) × Among (x, c) g.numbered.columns.square × (look g.numbers c ≡ k)) (group t.rows k) over back (g.by_row.lists k lt)
    where
      over : (x : ℕ) → StandsAt of_rows k x → (c : ℕ) × Among (x, c) g.numbered.columns.square × (look g.numbers c ≡ k)
      over x h = ⊎_elim
          (λ (q : (c : ℕ) × Among (x, c) g.pairs × (get_or of_rows x 0 ≡ get_or g.numbers c 0)).
          let within = entry_col t.matrix x q.0 (g.matching.entries x q.0 q.1) in
          let is : look g.numbers q.0 ≡ k = sym (looked t.matrix g.pairs g.numbers (length t.cols) q.0 g.numbered within) ∙ sym q.2 ∙ h.1 in
          (q.0, g.numbered.columns.all_pairs x q.0 q.1 (number_square t.matrix g.pairs g.numbers (length t.cols) q.0 g.laid_out.few g.numbered within (omega (arith, is, lt))), is))
          (λ q. let e = q.1 in let is = h.1 in let few = g.laid_out.few in absurd (omega (arith, e, is, few, lt)))
          (g.mates.each x (let long = g.mates.long in let l = h.0 in omega (arith, long, l)))

      back : (x : ℕ) → (c : ℕ) × Among (x, c) g.numbered.columns.square × (look g.numbers c ≡ k) → StandsAt of_rows k x
      back x h =
          let (c, p, is) = h in
          let pair = g.numbered.columns.are_pairs x c p in
          let entry = g.matching.entries x c pair in
          let within = entry_col t.matrix x c entry in
          let lt = entry.0 in
          let long = g.mates.long in (
            omega (arith, lt, long),
            ⊎_elim
                (λ (q : (d : ℕ) × Among (x, d) g.pairs × (get_or of_rows x 0 ≡ get_or g.numbers d 0)). q.2 ∙ ap (λ d. get_or g.numbers d 0) (one_col g.pairs g.matching.rows_differ x q.0 c q.1 pair) ∙ looked t.matrix g.pairs g.numbers (length t.cols) c g.numbered within ∙ is)
                (λ q. absurd (q.0 (row_among x c g.pairs pair)))
                (g.mates.each x lt),
          )

  -- each component has a column
  pub some_col : (k : ℕ) → k < length t.cols → 0 < length (group t.cols k)
  some_col k lt = let (x, square, is) = g.numbered.columns.used k lt in some_at x (group t.cols k) ((cols_component k lt).complete x (square, is))

  pub least : (k : ℕ) → k < length t.cols → IsSquareCol t.matrix (least_of t k) × (look g.numbers (least_of t k) ≡ k)
  least k lt = (cols_component k lt).sound (least_of t k) (among_at (group t.cols k) 0 0 (some_col k lt))

  -- they are numbered by their least columns
  pub rises : (j k : ℕ) → j ≤ k → k < length t.cols → least_of t j ≤ least_of t k
  rises j k le kt = ⊎_elim (λ (e : j ≡ k). rw e (omega arith)) (λ ne.
      let (square, is) = least k kt in
      let (d, lt, on, at) = g.numbered.earlier (least_of t k) j square (omega (arith, le, ne, is)) in
      let mine = cols_component j (omega (arith, le, kt)) in
      let first = head_least d (group t.cols j) mine.rising (mine.complete d (on, at)) in
      omega (arith, first, lt)) (number_same j k)

  -- a component leads to one that the search finished before it
  pub falls : (j k : ℕ) → j < length t.cols → k < length t.cols → LeadsTo t j k → g.numbered.finished (least_of t k) < g.numbered.finished (least_of t j)
  falls j k jt kt w =
      let (square, is) = (cols_component j jt).sound w.col w.in_col in
      let (d, p, e) = (rows_component k kt).sound w.row w.in_row in
      let mate_square = g.numbered.columns.perfect.only_cols d (col_among w.row d g.numbered.columns.square p) in
      let le = g.numbered.components.falling w.row w.col d square w.entry p in
      let apart : g.numbered.finished d ≢ g.numbered.finished w.col = λ f. w.other (sym is ∙ sym ((g.numbered.same d w.col mate_square square).1 f) ∙ e) in
      let here = (g.numbered.same d (least_of t k) mate_square (least k kt).0).0 (e ∙ sym (least k kt).1) in
      let there = (g.numbered.same w.col (least_of t j) square (least j jt).0).0 (is ∙ sym (least j jt).1) in
      omega (arith, le, apart, here, there)

-- Blocks.

-- the columns of a number are those that were finished with one of them
finished_component : (a : Matrix) (m : List Place) (numbers : List ℕ) (n x k : ℕ) (b : Block) → (s : AreNumberedByLeast a m numbers n) → IsSquareCol a x → look numbers x ≡ k → IsComponent a s.columns.square (look numbers) k b → IsComponent a s.columns.square s.finished (s.finished x) b
finished_component a m numbers n x k b s square is h = record {
  rows = lists_same (λ r. (c : ℕ) × Among (r, c) s.columns.square × (look numbers c ≡ k)) (λ r. (c : ℕ) × Among (r, c) s.columns.square × (s.finished c ≡ s.finished x)) b.rows
      (λ r p. let (c, on, e) = p in (c, on, (s.same c x (s.columns.perfect.only_cols c (col_among r c s.columns.square on)) square).0 (e ∙ sym is)))
      (λ r p. let (c, on, e) = p in (c, on, (s.same c x (s.columns.perfect.only_cols c (col_among r c s.columns.square on)) square).1 e ∙ is))
      h.rows;
  cols = lists_same (λ c. IsSquareCol a c × (look numbers c ≡ k)) (λ c. IsSquareCol a c × (s.finished c ≡ s.finished x)) b.cols
      (λ c p. (p.0, (s.same c x p.0 square).0 (p.1 ∙ sym is)))
      (λ c p. (p.0, (s.same c x p.0 square).1 p.1 ∙ is))
      h.cols;
}

component_same : (a : Matrix) (m : List Place) (number : ℕ → ℕ) (k : ℕ) (b d : Block) → IsComponent a m number k b → IsComponent a m number k d → b ≡ d
component_same a m number k b d x y = λ i. record {
  rows = lists_unique (λ r. (c : ℕ) × Among (r, c) m × (number c ≡ k)) b.rows d.rows x.rows y.rows i;
  cols = lists_unique (λ c. IsSquareCol a c × (number c ≡ k)) b.cols d.cols x.cols y.cols i;
}

distinct_blocks : (f : ℕ → Block) (ks : List ℕ) → ((j k : ℕ) → Among j ks → Among k ks → f j ≡ f k → j ≡ k) → AreDistinct ks → AreDistinct (map f ks)
distinct_blocks f [] own d = tt
distinct_blocks f (k ∷ ks) own d = (λ h. let (j, on, e) = among_map_back f (f k) ks h in d.0 (subst (λ i. Among i ks) (own j k (inr on) (inl refl) e) on), distinct_blocks f ks (λ i j h l. own i j (inr h) (inr l)) d.1)

-- where all square columns are one component, the rows and the columns of the square part are the only block
pub one_block : (a : Matrix) (rows cols : List ℕ) → IsOneComponent a → Lists (IsSquareRow a) rows → Lists (IsSquareCol a) cols → AreBlocksOf a (record { rows = rows; cols = cols } ∷ [])
one_block a rows cols one in_rows in_cols = record {
  sound = λ b h. ⊎_elim (λ (e : b ≡ whole). subst (IsBlock a) (sym e) (component_is_block a one.square (λ c. 0) one.some.0 whole one.perfect one.components one.some.1 comp)) (λ no. absurd no) h;
  complete = λ b block. let (x, square, is) = block_is_component a one.square (λ c. 0) b one.perfect one.components block in inl (component_same a one.square (λ c. 0) 0 b whole is comp);
  distinct = ((λ h. h), tt);
  in_order = ((λ d h ne. ⊎_elim (λ (e : d ≡ whole). absurd (ne e)) (λ no. absurd no) h), (λ d h free. ⊎_elim (λ (e : d ≡ whole). subst (λ (b : Block). least_col whole ≤ least_col b) (sym e) (omega arith)) (λ no. absurd no) h), tt);
}
  where
    whole : Block
    whole = record { rows = rows; cols = cols }

    comp : IsComponent a one.square (λ c. 0) 0 whole
    comp = record {
      rows = lists_same (IsSquareRow a) (λ r. (c : ℕ) × Among (r, c) one.square × (0 ≡ 0)) rows
          (λ r square. let (c, on) = row_pair r one.square (one.perfect.covers_row r square) in (c, on, refl))
          (λ r h. one.perfect.only_rows r (row_among r h.0 one.square h.1))
          in_rows;
      cols = lists_same (IsSquareCol a) (λ c. IsSquareCol a c × (0 ≡ 0)) cols (λ c square. (square, refl)) (λ c h. h.0) in_cols;
    }

-- Order.

follow_order : (t : Layout) (before ks : List ℕ) → ((j k : ℕ) → j < length t.cols → k < length t.cols → block_of t.rows t.cols j ≡ block_of t.rows t.cols k → j ≡ k) → ((j k : ℕ) → j ≤ k → k < length t.cols → least_of t j ≤ least_of t k) → Follow t before ks → ((k : ℕ) → k < length t.cols → Among k before ⊎ Among k ks) → AreInOrder t.matrix (map (block_of t.rows t.cols) ks)
follow_order t before [] own rises follow all = tt
follow_order t before (k ∷ ks) own rises follow all = (free, first, follow_order t (before ++ k ∷ []) ks own rises follow.1 (λ j lt. rest j (all j lt)))
  where
    kt : k < length t.cols
    kt = follow.0.in_range

    range : (j : ℕ) → Among j (k ∷ ks) → j < length t.cols
    range j h = follow_range t before (k ∷ ks) j follow h

    fresh : (j : ℕ) → Among j (k ∷ ks) → ¬ Among j before
    fresh j h = follow_fresh t before (k ∷ ks) j follow h

    free : MeetsNoOther t.matrix (map (block_of t.rows t.cols) (k ∷ ks)) (block_of t.rows t.cols k)
    free d h ne r c on in_col entry =
        let (p, there, e) = among_map_back (block_of t.rows t.cols) d (k ∷ ks) h in
        let other : k ≢ p = λ same. ne (sym e ∙ ap (block_of t.rows t.cols) (sym same)) in
        fresh p there (follow.0.free p (range p there) (record { other = other; row = r; col = c; in_col = in_col; in_row = subst (λ (b : Block). Among r b.rows) (sym e) on; entry = entry }))

    gone : (j : ℕ) → Among j (k ∷ ks) → MeetsNoOther t.matrix (map (block_of t.rows t.cols) (k ∷ ks)) (block_of t.rows t.cols j) → (p : ℕ) → p < length t.cols → LeadsTo t j p → Among p before
    gone j there is_free p pt w = ⊎_elim (λ g. g) (λ later.
        absurd (is_free (block_of t.rows t.cols p) (among_map (block_of t.rows t.cols) p (k ∷ ks) later) (λ same. w.other (sym (own p j pt (range j there) same))) w.row w.col w.in_row w.in_col w.entry)) (all p pt)

    first : (d : Block) → Among d (map (block_of t.rows t.cols) (k ∷ ks)) → MeetsNoOther t.matrix (map (block_of t.rows t.cols) (k ∷ ks)) d → least_col (block_of t.rows t.cols k) ≤ least_col d
    first d h is_free =
        let (j, there, e) = among_map_back (block_of t.rows t.cols) d (k ∷ ks) h in
        let le = follow.0.first j (range j there) (fresh j there) (λ p pt w. gone j there (subst (MeetsNoOther t.matrix (map (block_of t.rows t.cols) (k ∷ ks))) (sym e) is_free) p pt w) in
        subst (λ (b : Block). least_col (block_of t.rows t.cols k) ≤ least_col b) e (rises k j le (range j there))

    rest : (j : ℕ) → Among j before ⊎ Among j (k ∷ ks) → Among j (before ++ k ∷ []) ⊎ Among j ks
    rest j (inl g) = inl (among_left j before (k ∷ []) g)
    rest j (inr (inl e)) = inl (among_right j before (k ∷ []) (inl e))
    rest j (inr (inr g)) = inr g

-- The whole.

pub ordered_blocks : (t : Layout) (of_rows ks : List ℕ) → IsCondensation t of_rows → AreOrdered t ks → AreBlocksOf t.matrix (map (block_of t.rows t.cols) ks)
ordered_blocks t of_rows ks g ordered = record {
  sound = λ b on.
      let (k, there, e) = among_map_back (block_of t.rows t.cols) b ks on in
      let (x, square, is) = g.numbered.columns.used k (range k there) in
      subst (IsBlock t.matrix) e (component_is_block t.matrix g.numbered.columns.square g.numbered.finished x (block_of t.rows t.cols k) g.numbered.columns.perfect g.numbered.components square (finished_component t.matrix g.pairs g.numbers (length t.cols) x k (block_of t.rows t.cols k) g.numbered square is (comp k (range k there))));
  complete = λ b block.
      let (x, square, is) = block_is_component t.matrix g.numbered.columns.square g.numbered.finished b g.numbered.columns.perfect g.numbered.components block in
      let lt = g.numbered.columns.below x square in
      subst (λ d. Among d (map (block_of t.rows t.cols) ks)) (component_same t.matrix g.numbered.columns.square g.numbered.finished (g.numbered.finished x) (block_of t.rows t.cols (look g.numbers x)) b (finished_component t.matrix g.pairs g.numbers (length t.cols) x (look g.numbers x) (block_of t.rows t.cols (look g.numbers x)) g.numbered square refl (comp (look g.numbers x) lt)) is) (among_map (block_of t.rows t.cols) (look g.numbers x) ks (ordered.all (look g.numbers x) lt));
  distinct = distinct_blocks (block_of t.rows t.cols) ks (λ j k on there e. own j k (range j on) (range k there) e) (follow_distinct t [] ks ordered.follow);
  in_order = follow_order t [] ks own (rises t of_rows g) ordered.follow (λ k lt. inr (ordered.all k lt));
}
  where
    range : (k : ℕ) → Among k ks → k < length t.cols
    range k on = follow_range t [] ks k ordered.follow on

    comp : (k : ℕ) → k < length t.cols → IsComponent t.matrix g.numbered.columns.square (look g.numbers) k (block_of t.rows t.cols k)
    comp k lt = record { rows = rows_component t of_rows g k lt; cols = cols_component t of_rows g k lt }

    own : (j k : ℕ) → j < length t.cols → k < length t.cols → block_of t.rows t.cols j ≡ block_of t.rows t.cols k → j ≡ k
    own j k jt kt e = sym (least t of_rows g j jt).1 ∙ ap (λ (b : Block). look g.numbers (least_col b)) e ∙ (least t of_rows g k kt).1
