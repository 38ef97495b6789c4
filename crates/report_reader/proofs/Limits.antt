-- The report of a matrix within the limits of a text can be read.
use Rattle.std.proofs.Common.{◌≡◌, ◌<◌, ◌≤◌, ◌+◌, ◌^◌, ℕ, suc, Bool, true, false, List, [], ◌∷◌, ◌++◌, length, map, Option, None, Some, IfSome, refl, sym, ap, subst, inl, inr, ⊎_elim, arith}
use Rattle.std.specs.List.{AllByRecursion}
use Rattle.std.proofs.lemmas.List.{length-map}
use Rattle.bip_defs.specs.Blocks.{Block, Chain, ColAt, IsBlock, IsPerfect, RowAt, Vertex, all_cols, all_rows, least_col}
use Rattle.bip_defs.specs.Blocks.Chain.{by_col, by_row}
use Rattle.bip_defs.specs.ConnectedComponents.{AreOrderedComponents, Components, IsComponentWith, IsConnectedComponent, IsHorizontalVertex, IsVerticalVertex, Joined, alone, least_row, to_col, to_row}
use Rattle.bip_defs.specs.Decomposition.{Decomposition, IsDecompositionOf}
use Rattle.bip_defs.specs.Lists.{Among, AreDistinct, IsRising, Lists}
use Rattle.bip_defs.specs.Matching.{IsMatching, cols_of, rows_of}
use Rattle.bip_defs.specs.Matrix.{Matrix, Place, cols}
use Rattle.bip_defs.specs.Parts.{IsHorizontalCol, IsHorizontalRow, IsVerticalCol, IsVerticalRow}
use Rattle.bip_defs.proofs.Connected.{joined_inside}
use Rattle.bip_defs.proofs.Counts.{distinct_append, horizontal_row_in_range, vertical_col_in_range}
use Rattle.bip_defs.proofs.Sets.{among_either, among_map_back, col_pair, entry_col, one_col, one_row, pigeonhole, rising_distinct, row_pair}
use Rattle.bip_defs.proofs.Square.{square_pairs_perfect}
use Rattle.bip_defs.proofs.Uniqueness.{block_has_col, chain_square, least_among}
use Rattle.bip_defs.proofs.Full.{few_below}
use Rattle.bip_defs.proofs.Together.{blocks_share_row}
use Rattle.bip_graph.specs.Answers.{AreOfVersion, orders_of, report_of, where_asked}
use Rattle.bip_graph.specs.Texts.{square_size}
use Rattle.report_reader.specs.Readable.{AreBlocksLike, AreComponentsLike, AreNumberedLike, AreOrdersLike, FitsText, IsBlockLike, IsComponentLike, IsId, IsList, IsReadable}
use Rattle.report_reader.proofs.BlockLists.{rows_of_blocks, size_more}

-- ---- lists

all_ids : (n : ℕ) (xs : List ℕ) → n < 2 ^ 32 → ((x : ℕ) → Among x xs → x < n) → AllByRecursion IsId xs
all_ids n [] small within = tt
all_ids n (x ∷ xs) small within = (omega (arith, small, within x (inl refl)), all_ids n xs small (λ y on. within y (inr on)))

all_append : (xs ys : List ℕ) → AllByRecursion IsId xs → AllByRecursion IsId ys → AllByRecursion IsId (xs ++ ys)
all_append [] ys a b = b
all_append (x ∷ xs) ys a b = (a.0, all_append xs ys a.1 b)

list_fits : (P : ℕ → Type 0) (n : ℕ) (xs : List ℕ) → n < 2 ^ 32 → Lists P xs → ((x : ℕ) → P x → x < n) → IsList xs
list_fits P n xs small l within = record {
  ids_fit = all_ids n xs small (λ x on. within x (l.sound x on));
  rising = l.rising;
  few = omega (arith, small, few_below n xs (rising_distinct xs l.rising) (λ x on. within x (l.sound x on)));
}

some_among : {X : Type 0} (x : X) (xs : List X) → Among x xs → 0 < length xs
some_among x [] on = elim on [ ]
some_among x (y ∷ ys) on = omega arith

-- ---- blocks

module _ (a : Matrix) (m : List Place) (perfect : IsPerfect a m) where
  block_rows_few : (b : Block) → IsBlock a b → length b.rows ≤ length b.cols
  block_rows_few b x =
      pigeonhole (λ (r c : ℕ). Among (r, c) m) (λ r s c p q. one_row m perfect.matching.cols_differ r s c p q) b.rows b.cols (rising_distinct b.rows x.1.rows.rising)
      (λ r on. let (c, p) = row_pair r m (perfect.covers_row r (chain_square a x.1.square (x.1.rows.sound r on))) in (c, x.1.cols.complete c (by_row (x.1.rows.sound r on) (m, perfect, p)), p))

  block_cols_few : (b : Block) → IsBlock a b → length b.cols ≤ length b.rows
  block_cols_few b x =
      pigeonhole (λ (c r : ℕ). Among (r, c) m) (λ c d r p q. one_col m perfect.matching.rows_differ r c d p q) b.cols b.rows (rising_distinct b.cols x.1.cols.rising)
      (λ c on. let (r, p) = col_pair c m (perfect.covers_col c (chain_square a x.1.square (x.1.cols.sound c on))) in (r, x.1.rows.complete r (by_col (x.1.cols.sound c on) (m, perfect, p)), p))

  block_like : (b : Block) → a.rows < 2 ^ 32 → cols a < 2 ^ 32 → IsBlock a b → IsBlockLike b
  block_like b few_rows few_cols x =
      let c = block_has_col a m b perfect x in
      record {
        rows = list_fits (λ r. Chain a x.0 (RowAt r)) a.rows b.rows few_rows x.1.rows (λ r chain. (chain_square a x.1.square chain).0);
        cols = list_fits (λ c. Chain a x.0 (ColAt c)) (cols a) b.cols few_cols x.1.cols (λ c chain. (chain_square a x.1.square chain).0);
        some = omega (arith, some_among c.0 b.cols c.1, block_cols_few b x);
        same = omega (arith, block_rows_few b x, block_cols_few b x);
      }

  blocks_like : (bs : List Block) → a.rows < 2 ^ 32 → cols a < 2 ^ 32 → ((b : Block) → Among b bs → IsBlock a b) → AllByRecursion IsBlockLike bs
  blocks_like [] few_rows few_cols are = tt
  blocks_like (b ∷ bs) few_rows few_cols are = (block_like b few_rows few_cols (are b (inl refl)), blocks_like bs few_rows few_cols (λ d on. are d (inr on)))

in_block : (r : ℕ) (bs : List Block) → Among r (all_rows bs) → (b : Block) × Among b bs × Among r b.rows
in_block r [] on = elim on [ ]
in_block r (b ∷ bs) on = ⊎_elim (λ here. (b, inl refl, here)) (λ later. let (d, d_on, r_on) = in_block r bs later in (d, inr d_on, r_on)) (among_either r b.rows (all_rows bs) on)

col_in_block : (c : ℕ) (bs : List Block) → Among c (all_cols bs) → (b : Block) × Among b bs × Among c b.cols
col_in_block c [] on = elim on [ ]
col_in_block c (b ∷ bs) on = ⊎_elim (λ here. (b, inl refl, here)) (λ later. let (d, d_on, c_on) = col_in_block c bs later in (d, inr d_on, c_on)) (among_either c b.cols (all_cols bs) on)

rows_distinct : (a : Matrix) (bs : List Block) → ((b : Block) → Among b bs → IsBlock a b) → AreDistinct bs → AreDistinct (all_rows bs)
rows_distinct a [] are apart = tt
rows_distinct a (b ∷ bs) are apart =
    distinct_append b.rows (all_rows bs) (rising_distinct b.rows (are b (inl refl)).1.rows.rising) (rows_distinct a bs (λ d on. are d (inr on)) apart.1)
    (λ r here later. let (d, d_on, r_on) = in_block r bs later in apart.0 (subst (λ (e : Block). Among e bs) (sym (blocks_share_row a b d r (are b (inl refl)) (are d (inr d_on)) here r_on)) d_on))

few_blocks : (bs : List Block) → AllByRecursion IsBlockLike bs → length bs ≤ square_size bs
few_blocks [] like = omega arith
few_blocks (b ∷ bs) like = omega (arith, like.0.some, few_blocks bs like.1, size_more b bs)

row_below : (a : Matrix) (bs : List Block) → ((b : Block) → Among b bs → IsBlock a b) → (r : ℕ) → Among r (all_rows bs) → r < a.rows
row_below a bs are r on = let (b, b_on, r_on) = in_block r bs on in (chain_square a (are b b_on).1.square ((are b b_on).1.rows.sound r r_on)).0

col_below : (a : Matrix) (bs : List Block) → ((b : Block) → Among b bs → IsBlock a b) → (c : ℕ) → Among c (all_cols bs) → c < cols a
col_below a bs are c on = let (b, b_on, c_on) = col_in_block c bs on in (chain_square a (are b b_on).1.square ((are b b_on).1.cols.sound c c_on)).0

blocks_fit : (a : Matrix) (m : List Place) (bs : List Block) → IsPerfect a m → a.rows < 2 ^ 32 → cols a < 2 ^ 32 → ((b : Block) → Among b bs → IsBlock a b) → AreDistinct bs → AreBlocksLike bs
blocks_fit a m bs perfect few_rows few_cols are apart =
    let like = blocks_like a m perfect bs few_rows few_cols are in
    let few : length (all_rows bs) ≤ a.rows = few_below a.rows (all_rows bs) (rows_distinct a bs are apart) (row_below a bs are) in
    record {
      each = like;
      few = omega (arith, few_rows, few, few_blocks bs like, rows_of_blocks bs);
      few_rows = omega (arith, few_rows, few, rows_of_blocks bs);
    }

-- ---- components

-- the part's rows and columns are the matrix's
pub record IsInside (a : Matrix) (P : Vertex → Type 0) : Type 0 where
  pub rows : (r : ℕ) → P (RowAt r) → r < a.rows
  pub cols : (c : ℕ) → P (ColAt c) → c < cols a

component_like : (a : Matrix) (P : Vertex → Type 0) (b : Block) → IsInside a P → a.rows < 2 ^ 32 → cols a < 2 ^ 32 → IsConnectedComponent a P b → IsComponentLike b
component_like a P b inside few_rows few_cols x = record {
  rows = list_fits (λ r. Joined a P x.0 (RowAt r)) a.rows b.rows few_rows x.1.rows (λ r y. inside.rows r (joined_inside a P x.1.inside y));
  cols = list_fits (λ c. Joined a P x.0 (ColAt c)) (cols a) b.cols few_cols x.1.cols (λ c y. inside.cols c (joined_inside a P x.1.inside y));
  some = some x.0 x.1;
}
  where
    some : (v : Vertex) → IsComponentWith a P v b → 0 < length b.rows + length b.cols
    some (RowAt r) k = let lt = some_among r b.rows (k.rows.complete r alone) in omega (arith, lt)
    some (ColAt c) k = let lt = some_among c b.cols (k.cols.complete c alone) in omega (arith, lt)

all_components_like : (a : Matrix) (P : Vertex → Type 0) (bs : List Block) → IsInside a P → a.rows < 2 ^ 32 → cols a < 2 ^ 32 → ((b : Block) → Among b bs → IsConnectedComponent a P b) → AllByRecursion IsComponentLike bs
all_components_like a P [] inside few_rows few_cols are = tt
all_components_like a P (b ∷ bs) inside few_rows few_cols are = (component_like a P b inside few_rows few_cols (are b (inl refl)), all_components_like a P bs inside few_rows few_cols (λ d on. are d (inr on)))

numbered_like : (a : Matrix) (P : Vertex → Type 0) (least : Block → ℕ) (n : ℕ) (bs : List Block) → IsInside a P → a.rows < 2 ^ 32 → cols a < 2 ^ 32 → n < 2 ^ 32 → ((b : Block) → IsConnectedComponent a P b → least b < n) → AreOrderedComponents a P least bs → AreNumberedLike bs
numbered_like a P least n bs inside few_rows few_cols small below x = record {
  each = all_components_like a P bs inside few_rows few_cols x.sound;
  few = (let le = few_below n (map least bs) (rising_distinct (map least bs) x.rising) (λ y on. let (b, among, is) = among_map_back least y bs on in rw (← is) (below b (x.sound b among))) in omega (arith, le, length-map bs least, small));
}

horizontal_inside : (a : Matrix) → IsInside a (IsHorizontalVertex a)
horizontal_inside a = record { rows = horizontal_row_in_range a; cols = λ c h. h.0 }

vertical_inside : (a : Matrix) → IsInside a (IsVerticalVertex a)
vertical_inside a = record { rows = λ r h. h.0; cols = vertical_col_in_range a }

least_col_below : (a : Matrix) (b : Block) → IsConnectedComponent a (IsHorizontalVertex a) b → least_col b < cols a
least_col_below a b x = by x.0 x.1
  where
    by : (v : Vertex) → IsComponentWith a (IsHorizontalVertex a) v b → least_col b < cols a
    by (ColAt c) k = (joined_inside a (IsHorizontalVertex a) k.inside (k.cols.sound (least_col b) (least_among b.cols (c, k.cols.complete c alone)))).0
    by (RowAt r) k = let (c, h, e) = k.inside in (joined_inside a (IsHorizontalVertex a) k.inside (k.cols.sound (least_col b) (least_among b.cols (c, k.cols.complete c (to_col alone e k.inside h))))).0

least_row_below : (a : Matrix) (b : Block) → IsConnectedComponent a (IsVerticalVertex a) b → least_row b < a.rows
least_row_below a b x = by x.0 x.1
  where
    by : (v : Vertex) → IsComponentWith a (IsVerticalVertex a) v b → least_row b < a.rows
    by (RowAt r) k = (joined_inside a (IsVerticalVertex a) k.inside (k.rows.sound (least_row b) (least_among b.rows (r, k.rows.complete r alone)))).0
    by (ColAt c) k = let (r, h, e) = k.inside in (joined_inside a (IsVerticalVertex a) k.inside (k.rows.sound (least_row b) (least_among b.rows (r, k.rows.complete r (to_row alone e h k.inside))))).0

components_fit : (a : Matrix) (v : ℕ) (o : Option Components) → a.rows < 2 ^ 32 → cols a < 2 ^ 32 → AreOfVersion a v o → IfSome o AreComponentsLike
components_fit a v None few_rows few_cols is = tt
components_fit a v (Some c) few_rows few_cols is = record {
  horizontal = numbered_like a (IsHorizontalVertex a) least_col (cols a) c.horizontal (horizontal_inside a) few_rows few_cols few_cols (least_col_below a) is.1.horizontal;
  vertical = numbered_like a (IsVerticalVertex a) least_row a.rows c.vertical (vertical_inside a) few_rows few_cols few_rows (least_row_below a) is.1.vertical;
}

-- ---- the whole

asked_like : (order : Bool) (orders : List ℕ × List ℕ) → AreOrdersLike orders → IfSome (where_asked order orders) AreOrdersLike
asked_like true orders like = like
asked_like false orders like = tt

as_many_rows : (m : List Place) → length (rows_of m) ≡ length m
as_many_rows [] = refl
as_many_rows (p ∷ m) = ap suc (as_many_rows m)

few_pairs : (a : Matrix) (m : List Place) → a.rows < 2 ^ 32 → IsMatching a m → length m < 2 ^ 32
few_pairs a m few_rows paired =
    let within = λ (r : ℕ) (on : Among r (rows_of m)). let (c, p) = row_pair r m on in (paired.entries r c p).0 in
    omega (arith, few_rows, few_below a.rows (rows_of m) paired.rows_differ within, as_many_rows m)

pub can_be_read : (a : Matrix) (d : Decomposition) (v : ℕ) (cs : Option Components) (order : Bool) (m : List Place) → FitsText a → IsDecompositionOf a d → AreOfVersion a v cs → IsMatching a m → IsRising (cols_of m) → IsReadable (report_of a d cs order (Some m))
can_be_read a d v cs order m fits is of_version paired rising =
    let (best, max, size) = is.rank in
    let parts = is.parts in
    let perfect = square_pairs_perfect a best d.parts.square_rows max parts.square_rows in
    let hr = list_fits (IsHorizontalRow a) a.rows d.parts.horizontal_rows fits.rows parts.horizontal_rows (horizontal_row_in_range a) in
    let hc = list_fits (IsHorizontalCol a) (cols a) d.parts.horizontal_cols fits.columns parts.horizontal_cols (λ c x. x.0) in
    let vr = list_fits (IsVerticalRow a) a.rows d.parts.vertical_rows fits.rows parts.vertical_rows (λ r x. x.0) in
    let vc = list_fits (IsVerticalCol a) (cols a) d.parts.vertical_cols fits.columns parts.vertical_cols (vertical_col_in_range a) in
    let row_in = λ (r : ℕ) (on : Among r (rows_of m)). let (c, p) = row_pair r m on in (paired.entries r c p).0 in
    let col_in = λ (c : ℕ) (on : Among c (cols_of m)). let (r, p) = col_pair c m on in entry_col a r c (paired.entries r c p) in
    record {
      sizes = record { rows = fits.rows; cols = fits.columns; entries = fits.entries };
      rank = omega (arith, few_pairs a best fits.rows max.matching, size);
      components = components_fit a v cs fits.rows fits.columns of_version;
      horizontal_rows = hr;
      horizontal_cols = hc;
      blocks = blocks_fit a _ d.blocks perfect fits.rows fits.columns is.blocks.sound is.blocks.distinct;
      vertical_rows = vr;
      vertical_cols = vc;
      orders = asked_like order (orders_of d) (
        all_append (d.parts.horizontal_rows ++ all_rows d.blocks) d.parts.vertical_rows (all_append d.parts.horizontal_rows (all_rows d.blocks) hr.ids_fit (all_ids a.rows (all_rows d.blocks) fits.rows (row_below a d.blocks is.blocks.sound))) vr.ids_fit,
        all_append (d.parts.horizontal_cols ++ all_cols d.blocks) d.parts.vertical_cols (all_append d.parts.horizontal_cols (all_cols d.blocks) hc.ids_fit (all_ids (cols a) (all_cols d.blocks) fits.columns (col_below a d.blocks is.blocks.sound))) vc.ids_fit,
      );
      pairs = m;
      with_pairs = refl;
      are_pairs = record { rows_fit = all_ids a.rows (rows_of m) fits.rows row_in; cols_fit = all_ids (cols a) (cols_of m) fits.columns col_in; rising = rising; few = few_pairs a m fits.rows paired };
    }
