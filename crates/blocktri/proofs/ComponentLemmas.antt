-- The numbers of connected components.
use Rattle.std.proofs.Common.{◌≡◌, ◌≢◌, ◌⊎◌, ◌∙◌, ℕ, ◌+◌, ◌<◌, ◌≤◌, List, [], ◌∷◌, ◌++◌, length, map, replicate, set, take, get_or, refl, sym, ap, arith, subst, inl, inr, ⊎_elim, length-set, get_or-set_same, get_or-set_other}
use Rattle.std.proofs.Math.Decide.{dec_lt}
use Rattle.std.proofs.lemmas.List.{get_or-map, get_or-replicate, length-map, take_more}
use Rattle.bip_defs.specs.Blocks.{Block, ColAt, RowAt, Vertex, block_at, least_col, no_block}
use Rattle.bip_defs.specs.ConnectedComponents.{AreConnectedComponents, AreOrderedComponents, Components, IsConnectedComponent, IsHorizontalVertex, IsVerticalVertex, least_row}
use Rattle.bip_defs.specs.Lists.{Among, IsRising}
use Rattle.bip_defs.specs.Matrix.{Matrix, cols}
use Rattle.bip_defs.proofs.Connected.{component_same, joined_back, joined_inside, joined_on}
use Rattle.bip_defs.proofs.Counts.{horizontal_row_in_range, vertical_col_in_range}
use Rattle.bip_defs.proofs.Full.{few_below}
use Rattle.bip_defs.proofs.Queues.{distinct_at}
use Rattle.bip_defs.proofs.Sets.{among_at, among_last, among_left, among_map_back, among_right, number_same, rising_distinct}
use Rattle.bip_defs.proofs.Square.{cols_apart, rows_apart}
use Rattle.bip_graph.specs.Matching.{none}
use Rattle.blocktri.specs.OuterComponents.{AreApart, AreColumnComponents, AreNumbered, AreRowComponents, IsWrittenAt, cols_of_block, rows_of_block}

-- One number at the places of a list.

pub written_more : (xs old new : List ℕ) (k v x : ℕ) → k < length xs → x ≡ get_or xs k 0 → x < length old → IsWrittenAt (take k xs) v old new → IsWrittenAt (take (k + 1) xs) v old (set new x v)
written_more xs old new k v x lt is inside w = rw (take_more xs k 0 lt) (record {
  long = length-set new x v ∙ w.long;
  here = λ y h. at_place y (number_same y x) h;
  others = λ y out. get_or-set_other new x y v 0 (λ e. out (among_right y (take k xs) (get_or xs k 0 ∷ []) (inl (e ∙ is)))) ∙ w.others y (λ h. out (among_left y (take k xs) (get_or xs k 0 ∷ []) h));
})
  where
    at_place : (y : ℕ) → (y ≡ x) ⊎ (y ≢ x) → Among y (take k xs ++ get_or xs k 0 ∷ []) → get_or (set new x v) y 0 ≡ v
    at_place y (inl e) h = let long = w.long in rw e (get_or-set_same new x v 0 (omega (arith, long, inside)))
    at_place y (inr ne) h = get_or-set_other new x y v 0 ne ∙ w.here y (⊎_elim (λ (g : Among y (take k xs)). g) (λ (e : y ≡ get_or xs k 0). absurd (ne (e ∙ sym is))) (among_last y (get_or xs k 0) (take k xs) h))

-- a list that is filled with what stands for none
pub filled_none : (n : ℕ) (xs : List ℕ) → xs ≡ replicate n none → (x : ℕ) → x < n → get_or xs x 0 ≡ none
filled_none n xs filled x lt = rw filled (get_or-replicate n x none 0 lt)

-- The numbers of blocks, of one side.

pub numbered_more : (f : Block → List ℕ) (n size v : ℕ) (bs : List Block) (old mid new : List ℕ) → n < length bs → AreApart f bs size → v ≡ n → AreNumbered f bs n old mid → IsWrittenAt (f (block_at bs n)) v mid new → AreNumbered f bs (n + 1) old new
numbered_more f n size v bs old mid new lt apart is are w = record {
  long = w.long ∙ are.long;
  here = λ i x below h. at_block i x (number_same i n) below h;
  others = λ x out. w.others x (out n (omega arith)) ∙ are.others x (λ i below. out i (omega (arith, below)));
}
  where
    at_block : (i x : ℕ) → (i ≡ n) ⊎ (i ≢ n) → i < n + 1 → Among x (f (block_at bs i)) → get_or new x 0 ≡ i
    at_block i x (inl e) below h = let written = w.here x (subst (λ j. Among x (f (block_at bs j))) e h) in omega (arith, written, is, e)
    at_block i x (inr ne) below h = w.others x (λ g. ne (apart.once i n x (omega (arith, below, lt)) lt h g)) ∙ are.here i x (omega (arith, below, ne)) h

-- blocks at two places of a list that differ in a rising number are at one place
same_place : (least : Block → ℕ) (bs : List Block) (i j : ℕ) → IsRising (map least bs) → i < length bs → j < length bs → block_at bs i ≡ block_at bs j → i ≡ j
same_place least bs i j rising lt lt2 e = by (dec_lt i j) (dec_lt j i)
  where
    long : length (map least bs) ≡ length bs
    long = length-map bs least

    number : (k : ℕ) → k < length bs → get_or (map least bs) k 0 ≡ least (block_at bs k)
    number k within = get_or-map least bs k no_block 0 within

    equal : get_or (map least bs) i 0 ≡ get_or (map least bs) j 0
    equal = number i lt ∙ ap least e ∙ sym (number j lt2)

    by : Dec (i < j) → Dec (j < i) → i ≡ j
    by (yes before) d = absurd (distinct_at (map least bs) i j (rising_distinct (map least bs) rising) before (omega (arith, long, lt2)) equal)
    by (no late) (yes after) = absurd (distinct_at (map least bs) j i (rising_distinct (map least bs) rising) after (omega (arith, long, lt)) (sym equal))
    by (no late) (no early) = omega (arith, late, early)

-- no row is in two components of a part
pub rows_of_components : (a : Matrix) (P : Vertex → Type 0) (least : Block → ℕ) (bs : List Block) (n : ℕ) → AreOrderedComponents a P least bs → ((r : ℕ) → P (RowAt r) → r < n) → AreApart rows_of_block bs n
rows_of_components a P least bs n are bound = record {
  below = λ i r lt h. bound r (inside i r lt h);
  once = λ i j r lt lt2 h k. same_place least bs i j are.rising lt lt2 (component_same a P (component i lt).0 (component j lt2).0 (block_at bs i) (block_at bs j) (component i lt).1 (component j lt2).1 (joined_on a P ((component i lt).1.rows.sound r h) (joined_back a P ((component j lt2).1.rows.sound r k))));
}
  where
    component : (i : ℕ) → i < length bs → IsConnectedComponent a P (block_at bs i)
    component i lt = are.sound (block_at bs i) (among_at bs i no_block lt)

    inside : (i r : ℕ) → i < length bs → Among r (block_at bs i).rows → P (RowAt r)
    inside i r lt h = joined_inside a P (component i lt).1.inside ((component i lt).1.rows.sound r h)

pub cols_of_components : (a : Matrix) (P : Vertex → Type 0) (least : Block → ℕ) (bs : List Block) (n : ℕ) → AreOrderedComponents a P least bs → ((c : ℕ) → P (ColAt c) → c < n) → AreApart cols_of_block bs n
cols_of_components a P least bs n are bound = record {
  below = λ i c lt h. bound c (inside i c lt h);
  once = λ i j c lt lt2 h k. same_place least bs i j are.rising lt lt2 (component_same a P (component i lt).0 (component j lt2).0 (block_at bs i) (block_at bs j) (component i lt).1 (component j lt2).1 (joined_on a P ((component i lt).1.cols.sound c h) (joined_back a P ((component j lt2).1.cols.sound c k))));
}
  where
    component : (i : ℕ) → i < length bs → IsConnectedComponent a P (block_at bs i)
    component i lt = are.sound (block_at bs i) (among_at bs i no_block lt)

    inside : (i c : ℕ) → i < length bs → Among c (block_at bs i).cols → P (ColAt c)
    inside i c lt h = joined_inside a P (component i lt).1.inside ((component i lt).1.cols.sound c h)

pub row_inside : (a : Matrix) (P : Vertex → Type 0) (least : Block → ℕ) (bs : List Block) (i r : ℕ) → AreOrderedComponents a P least bs → i < length bs → Among r (block_at bs i).rows → P (RowAt r)
row_inside a P least bs i r are lt h = let (v, is) = are.sound (block_at bs i) (among_at bs i no_block lt) in joined_inside a P is.inside (is.rows.sound r h)

pub col_inside : (a : Matrix) (P : Vertex → Type 0) (least : Block → ℕ) (bs : List Block) (i c : ℕ) → AreOrderedComponents a P least bs → i < length bs → Among c (block_at bs i).cols → P (ColAt c)
col_inside a P least bs i c are lt h = let (v, is) = are.sound (block_at bs i) (among_at bs i no_block lt) in joined_inside a P is.inside (is.cols.sound c h)

pub horizontal_rows_apart : (a : Matrix) (c : Components) → AreConnectedComponents a c → AreApart rows_of_block c.horizontal a.rows
horizontal_rows_apart a c are = rows_of_components a (IsHorizontalVertex a) least_col c.horizontal a.rows are.horizontal (horizontal_row_in_range a)

pub horizontal_cols_apart : (a : Matrix) (c : Components) → AreConnectedComponents a c → AreApart cols_of_block c.horizontal (cols a)
horizontal_cols_apart a c are = cols_of_components a (IsHorizontalVertex a) least_col c.horizontal (cols a) are.horizontal (λ d h. h.0)

pub vertical_rows_apart : (a : Matrix) (c : Components) → AreConnectedComponents a c → AreApart rows_of_block c.vertical a.rows
vertical_rows_apart a c are = rows_of_components a (IsVerticalVertex a) least_row c.vertical a.rows are.vertical (λ r h. h.0)

pub vertical_cols_apart : (a : Matrix) (c : Components) → AreConnectedComponents a c → AreApart cols_of_block c.vertical (cols a)
vertical_cols_apart a c are = cols_of_components a (IsVerticalVertex a) least_row c.vertical (cols a) are.vertical (vertical_col_in_range a)

-- How many components a part has.

first_below : (xs : List ℕ) (n : ℕ) → 0 < n → ((x : ℕ) → Among x xs → x < n) → get_or xs 0 0 < n
first_below [] n some below = some
first_below (x ∷ xs) n some below = below x (inl refl)

few_ordered : (a : Matrix) (P : Vertex → Type 0) (least : Block → ℕ) (bs : List Block) (n : ℕ) → AreOrderedComponents a P least bs → ((b : Block) → IsConnectedComponent a P b → least b < n) → length bs ≤ n
few_ordered a P least bs n are below =
    let same = length-map bs least in
    let few = few_below n (map least bs) (rising_distinct (map least bs) are.rising) (λ x h. let (b, on, e) = among_map_back least x bs h in subst (λ y. y < n) e (below b (are.sound b on))) in
    omega (arith, same, few)

pub few_horizontal : (a : Matrix) (c : Components) (n : ℕ) → AreConnectedComponents a c → 0 < n → cols a ≤ n → length c.horizontal ≤ n
few_horizontal a c n are some wide = few_ordered a (IsHorizontalVertex a) least_col c.horizontal n are.horizontal (λ b k. let (v, is) = k in first_below b.cols n some (λ d h. let inside = joined_inside a (IsHorizontalVertex a) is.inside (is.cols.sound d h) in let lt : d < cols a = inside.0 in omega (arith, lt, wide)))

pub few_vertical : (a : Matrix) (c : Components) (n : ℕ) → AreConnectedComponents a c → 0 < n → a.rows ≤ n → length c.vertical ≤ n
few_vertical a c n are some long = few_ordered a (IsVerticalVertex a) least_row c.vertical n are.vertical (λ b k. let (v, is) = k in first_below b.rows n some (λ r h. let inside = joined_inside a (IsVerticalVertex a) is.inside (is.rows.sound r h) in let lt : r < a.rows = inside.0 in omega (arith, lt, long)))

-- Both parts.

-- what stands in no block keeps what stood there first
neither_numbered : (f : Block → List ℕ) (hs vs : List Block) (start mid new : List ℕ) (x : ℕ) → AreNumbered f hs (length hs) start mid → AreNumbered f vs (length vs) mid new → ((i : ℕ) → i < length hs → ¬ Among x (f (block_at hs i))) → ((i : ℕ) → i < length vs → ¬ Among x (f (block_at vs i))) → get_or new x 0 ≡ get_or start x 0
neither_numbered f hs vs start mid new x h v out out2 = v.others x out2 ∙ h.others x out

pub row_components : (a : Matrix) (c : Components) (start mid xs : List ℕ) → AreConnectedComponents a c → length start ≡ a.rows → ((r : ℕ) → r < a.rows → get_or start r 0 ≡ none)
    → AreNumbered rows_of_block c.horizontal (length c.horizontal) start mid → AreNumbered rows_of_block c.vertical (length c.vertical) mid xs → AreRowComponents a c xs
row_components a c start mid xs are long filled x y = record {
  long = y.long ∙ x.long ∙ long;
  horizontal = λ i r lt h. y.others r (λ j lt2 k. rows_apart a r (of_horizontal i r lt h) (of_vertical j r lt2 k)) ∙ x.here i r lt h;
  vertical = y.here;
  square = λ r s. neither_numbered rows_of_block c.horizontal c.vertical start mid xs r x y (λ i lt h. s.1 (of_horizontal i r lt h)) (λ i lt h. s.2 (of_vertical i r lt h)) ∙ filled r s.0;
}
  where
    of_horizontal : (i r : ℕ) → i < length c.horizontal → Among r (block_at c.horizontal i).rows → IsHorizontalVertex a (RowAt r)
    of_horizontal i r lt h = row_inside a (IsHorizontalVertex a) least_col c.horizontal i r are.horizontal lt h

    of_vertical : (i r : ℕ) → i < length c.vertical → Among r (block_at c.vertical i).rows → IsVerticalVertex a (RowAt r)
    of_vertical i r lt h = row_inside a (IsVerticalVertex a) least_row c.vertical i r are.vertical lt h

pub column_components : (a : Matrix) (c : Components) (start mid xs : List ℕ) → AreConnectedComponents a c → length start ≡ cols a → ((d : ℕ) → d < cols a → get_or start d 0 ≡ none)
    → AreNumbered cols_of_block c.horizontal (length c.horizontal) start mid → AreNumbered cols_of_block c.vertical (length c.vertical) mid xs → AreColumnComponents a c xs
column_components a c start mid xs are long filled x y = record {
  long = y.long ∙ x.long ∙ long;
  horizontal = λ i d lt h. y.others d (λ j lt2 k. cols_apart a d (on_horizontal i d lt h) (on_vertical j d lt2 k)) ∙ x.here i d lt h;
  vertical = y.here;
  square = λ d s. neither_numbered cols_of_block c.horizontal c.vertical start mid xs d x y (λ i lt h. s.1 (on_horizontal i d lt h)) (λ i lt h. s.2 (on_vertical i d lt h)) ∙ filled d s.0;
}
  where
    on_horizontal : (i d : ℕ) → i < length c.horizontal → Among d (block_at c.horizontal i).cols → IsHorizontalVertex a (ColAt d)
    on_horizontal i d lt h = col_inside a (IsHorizontalVertex a) least_col c.horizontal i d are.horizontal lt h

    on_vertical : (i d : ℕ) → i < length c.vertical → Among d (block_at c.vertical i).cols → IsVerticalVertex a (ColAt d)
    on_vertical i d lt h = col_inside a (IsVerticalVertex a) least_row c.vertical i d are.vertical lt h
