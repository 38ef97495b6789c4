-- Allowed entries lie on cycles, and numbered strong components are the blocks.
use Rattle.std.proofs.Common.{◌≡◌, ◌≢◌, ◌∙◌, ℕ, ◌≤◌, List, ◌∷◌, filter, leb, refl, sym, subst, inl, inr, ⊎_elim, arith, le_antisymm, le-leb, leb-true, le_refl, le_trans}
use Rattle.bip_defs.specs.Blocks.{Block, Chain, ColAt, IsAllowed, IsBlock, IsClassOf, IsPerfect, RowAt, Vertex, by_col, by_row, itself}
use Rattle.bip_defs.specs.Components.{AreComponents, IsComponent}
use Rattle.bip_defs.specs.Lists.{Among, AreDistinct}
use Rattle.bip_defs.specs.Matching.{cols_of, rows_of}
use Rattle.bip_defs.specs.Matrix.{IsEntry, Matrix, Place}
use Rattle.bip_defs.specs.Parts.{IsSquareCol}
use Rattle.bip_defs.specs.Walks.{Walk, stay, step}
use Rattle.bip_defs.proofs.Exchange.{adds_pair, drops_pair}
use Rattle.bip_defs.proofs.Reaching.{Shifted, avoids, shift, walk_stays}
use Rattle.bip_defs.proofs.Sets.{Drops, col_among, col_pair, drops_cols, drops_gone, drops_kept, drops_only, drops_rows, filter_complete, filter_distinct, filter_sound, lists_same, number_among, number_same, one_col, one_row, pigeonhole, row_among, row_pair, taken}
use Rattle.bip_defs.proofs.Uniqueness.{block_has_col, chain_back, chain_join, chain_square}

-- Allowed entries.

-- a walk of the square part stays there
pub walk_square : (a : Matrix) (m : List Place) → IsPerfect a m → {c d : ℕ} → IsSquareCol a c → Walk a m c d → IsSquareCol a d
walk_square a m perfect s w = walk_stays (IsSquareCol a) a m (λ r c d k e p. perfect.only_cols d (col_among r d m p)) s w

-- the pairs of a perfect matching are allowed
pub pair_allowed : (a : Matrix) (m : List Place) (r c : ℕ) → IsPerfect a m → Among (r, c) m → IsAllowed a r c
pair_allowed a m r c perfect p = (m, perfect, p)

-- the perfect matching in which r is given to c, and d has the mate that a shift leaves it
given_perfect : (a : Matrix) (m n o : List Place) (r c d : ℕ) → IsPerfect a m → IsSquareCol a c → IsEntry a r c → Among (r, d) m → Drops (r, d) m n → Shifted a n d c o → IsPerfect a ((r, c) ∷ o)
given_perfect a m n o r c d perfect square e p out sh = record {
  matching = adds_pair a r c o sh.matching e (λ h. drops_gone (drops_rows out) perfect.matching.rows_differ (sh.rows_back r h)) sh.misses;
  covers_row = λ x s. ⊎_elim (λ (f : x ≡ r). inl f) (λ g. inr (sh.rows_over x g)) (drops_kept (drops_rows out) x (perfect.covers_row x s));
  covers_col = λ x s. ⊎_elim (λ (f : x ≡ c). inl f) (λ (ne : x ≢ c). inr (sh.cols_over x ne (drops_kept (drops_cols out) x (perfect.covers_col x s)))) (number_same x c);
  only_rows = λ x h. ⊎_elim (λ (f : x ≡ r). perfect.only_rows x (subst (λ y. Among y (rows_of m)) (sym f) (row_among r d m p))) (λ g. perfect.only_rows x (drops_only (drops_rows out) x (sh.rows_back x g))) h;
  only_cols = λ x h. ⊎_elim (λ (f : x ≡ c). subst (IsSquareCol a) (sym f) square) (λ g. perfect.only_cols x (⊎_elim (λ (f : x ≡ d). subst (λ y. Among y (cols_of m)) (sym f) (col_among r d m p)) (λ l. drops_only (drops_cols out) x l) (sh.cols_back x g))) h;
}

-- an entry is allowed where its row's mate leads to its column
pub allowed_on_cycle : (a : Matrix) (m : List Place) (r c d : ℕ) → IsPerfect a m → IsEntry a r c → Among (r, d) m → Walk a m d c → IsAllowed a r c
allowed_on_cycle a m r c d perfect e p w =
    let (n, out) = taken (r, d) m p in
    let v = ⊎_elim (λ x. x) (λ x. x) (avoids a m n r d out w) in
    let (o, sh) = shift a n d c (drops_pair a out perfect.matching) (drops_gone (drops_cols out) perfect.matching.cols_differ) v in
    ((r, c) ∷ o, given_perfect a m n o r c d perfect (walk_square a m perfect (perfect.only_cols d (col_among r d m p)) w) e p out sh, inl refl)

-- an entry is not allowed where a set of columns parts it, out of which no entry of theirs leads
pub allowed_stays : (a : Matrix) (m : List Place) (w : List ℕ) (r c d : ℕ) → IsPerfect a m → AreDistinct w → ((x : ℕ) → Among x w → IsSquareCol a x) → ((t x y : ℕ) → Among x w → IsEntry a t x → Among (t, y) m → Among y w) → IsAllowed a r c → Among (r, d) m → Among d w → Among c w
allowed_stays a m w r c d perfect differ square closed allowed p on = ⊎_elim (λ h. h) (λ off. absurd (one_more off)) (number_among c w)
  where
    other : List Place
    other = allowed.0

    fine : IsPerfect a other
    fine = allowed.1

    images : (x : ℕ) → Among x (c ∷ w) → (y : ℕ) × Among y w × ((t : ℕ) × Among (t, x) other × Among (t, y) m)
    images x (inl e) = (d, on, (r, subst (λ z. Among (r, z) other) (sym e) allowed.2, p))
    images x (inr h) =
        let (t, q) = col_pair x other (fine.covers_col x (square x h)) in
        let (y, s) = row_pair t m (perfect.covers_row t (fine.only_rows t (row_among t x other q))) in
        (y, closed t x y h (fine.matching.entries t x q) s, (t, q, s))

    one_more : ¬ Among c w → ⊥
    one_more off = omega (
      arith,
      pigeonhole (λ (x y : ℕ). (t : ℕ) × Among (t, x) other × Among (t, y) m)
          (λ x z y g h. one_col other fine.matching.rows_differ g.0 x z g.1 (subst (λ t. Among (t, z) other) (one_row m perfect.matching.cols_differ h.0 g.0 y h.2 g.2) h.1))
          (c ∷ w) w (off, differ) images,
    )

-- Numbers.

-- the pairs' columns whose number is at most k
up_to : (ℕ → ℕ) → ℕ → List Place → List ℕ
up_to number k m = filter (λ x. leb (number x) k) (cols_of m)

up_to_sound : (number : ℕ → ℕ) (k : ℕ) (m : List Place) (x : ℕ) → Among x (up_to number k m) → Among x (cols_of m) × (number x ≤ k)
unfolding up_to
up_to_sound number k m x h = let (g, e) = filter_sound (λ y. leb (number y) k) x (cols_of m) h in (g, leb-true (number x) k e)

up_to_complete : (number : ℕ → ℕ) (k : ℕ) (m : List Place) (x : ℕ) → Among x (cols_of m) → number x ≤ k → Among x (up_to number k m)
unfolding up_to
up_to_complete number k m x h le = filter_complete (λ y. leb (number y) k) x (cols_of m) h (le-leb (number x) k le)

up_to_distinct : (number : ℕ → ℕ) (k : ℕ) (m : List Place) → AreDistinct (cols_of m) → AreDistinct (up_to number k m)
unfolding up_to
up_to_distinct number k m a = filter_distinct (λ y. leb (number y) k) (cols_of m) a

-- an allowed entry stays in its number
pub allowed_number : (a : Matrix) (m : List Place) (number : ℕ → ℕ) (r c d : ℕ) → IsPerfect a m → AreComponents a m number → IsAllowed a r c → Among (r, d) m → number c ≡ number d
allowed_number a m number r c d perfect comp allowed p = le_antisymm (up_to_sound number (number d) m c inside).1 (comp.falling r c d square entry p)
  where
    square : IsSquareCol a c
    square = allowed.1.only_cols c (col_among r c allowed.0 allowed.2)

    entry : IsEntry a r c
    entry = allowed.1.matching.entries r c allowed.2

    sound : (x : ℕ) → Among x (up_to number (number d) m) → IsSquareCol a x
    sound x h = perfect.only_cols x (up_to_sound number (number d) m x h).0

    closed : (t x y : ℕ) → Among x (up_to number (number d) m) → IsEntry a t x → Among (t, y) m → Among y (up_to number (number d) m)
    closed t x y h e q = up_to_complete number (number d) m y (col_among t y m q) (omega (arith, (up_to_sound number (number d) m x h).1, comp.falling t x y (sound x h) e q))

    inside : Among c (up_to number (number d) m)
    inside = allowed_stays a m (up_to number (number d) m) r c d perfect (up_to_distinct number (number d) m perfect.matching.cols_differ) sound closed allowed p (up_to_complete number (number d) m d (col_among r d m p) (le_refl (number d)))

-- a vertex has the number: a column, or a row whose mate has it
HasNumber : List Place → (ℕ → ℕ) → ℕ → Vertex → Type 0
HasNumber m number k (RowAt r) = (d : ℕ) → Among (r, d) m → number d ≡ k
HasNumber m number k (ColAt c) = number c ≡ k

chain_number : (a : Matrix) (m : List Place) (number : ℕ → ℕ) (c : ℕ) → IsPerfect a m → AreComponents a m number → {v : Vertex} → Chain a (ColAt c) v → HasNumber m number (number c) v
unfolding HasNumber
chain_number a m number c perfect comp itself = refl
chain_number a m number c perfect comp (by_row {r = r} {c = x} y e) =
    let (d, p) = row_pair r m (perfect.covers_row r (e.1.only_rows r (row_among r x e.0 e.2))) in
    allowed_number a m number r x d perfect comp e p ∙ chain_number a m number c perfect comp y d p
chain_number a m number c perfect comp (by_col {r = r} {c = x} y e) = λ d p. sym (allowed_number a m number r x d perfect comp e p) ∙ chain_number a m number c perfect comp y

-- chains from a column lead to columns of its number alone
pub chain_same_number : (a : Matrix) (m : List Place) (number : ℕ → ℕ) (c d : ℕ) → IsPerfect a m → AreComponents a m number → Chain a (ColAt c) (ColAt d) → number d ≡ number c
unfolding HasNumber
chain_same_number a m number c d perfect comp y = chain_number a m number c perfect comp y

pub chain_row_number : (a : Matrix) (m : List Place) (number : ℕ → ℕ) (c r d : ℕ) → IsPerfect a m → AreComponents a m number → Chain a (ColAt c) (RowAt r) → Among (r, d) m → number d ≡ number c
unfolding HasNumber
chain_row_number a m number c r d perfect comp y p = chain_number a m number c perfect comp y d p

-- numbers fall along a walk
pub walk_falls : (a : Matrix) (m : List Place) (number : ℕ → ℕ) {c d : ℕ} → IsPerfect a m → AreComponents a m number → IsSquareCol a c → Walk a m c d → number d ≤ number c
walk_falls a m number {c = c} perfect comp s stay = le_refl (number c)
walk_falls a m number {c = c} perfect comp s (step {d = y} r e p w) = le_trans (walk_falls a m number perfect comp (perfect.only_cols y (col_among r y m p)) w) (comp.falling r c y s e p)

-- a walk inside one number is a chain
pub walk_chain : (a : Matrix) (m : List Place) (number : ℕ → ℕ) {c d : ℕ} → IsPerfect a m → AreComponents a m number → IsSquareCol a c → number c ≤ number d → Walk a m c d → Chain a (ColAt c) (ColAt d)
walk_chain a m number perfect comp s le stay = itself
walk_chain a m number {c = c} {d = d} perfect comp s le (step {d = y} r e p w) =
    let square : IsSquareCol a y = perfect.only_cols y (col_among r y m p) in
    let first : number y ≤ number c = comp.falling r c y s e p in
    let rest : number d ≤ number y = walk_falls a m number perfect comp square w in
    let back : Walk a m y c = comp.joined y c square s (omega arith) in
    chain_join a (by_row (by_col itself (allowed_on_cycle a m r c y perfect e p back)) (pair_allowed a m r y perfect p)) (walk_chain a m number perfect comp square (omega arith) w)

pub same_number_chain : (a : Matrix) (m : List Place) (number : ℕ → ℕ) (c d : ℕ) → IsPerfect a m → AreComponents a m number → IsSquareCol a c → IsSquareCol a d → number c ≡ number d → Chain a (ColAt c) (ColAt d)
same_number_chain a m number c d perfect comp s t e = walk_chain a m number perfect comp s (omega arith) (comp.joined c d s t e)

-- Components and blocks.

pub component_is_class : (a : Matrix) (m : List Place) (number : ℕ → ℕ) (c : ℕ) (b : Block) → IsPerfect a m → AreComponents a m number → IsSquareCol a c → IsComponent a m number (number c) b → IsClassOf a (ColAt c) b
component_is_class a m number c b perfect comp s k = record {
  square = s;
  rows = lists_same (λ r. (d : ℕ) × Among (r, d) m × (number d ≡ number c)) (λ r. Chain a (ColAt c) (RowAt r)) b.rows
      (λ r h. by_col (same_number_chain a m number c h.0 perfect comp s (perfect.only_cols h.0 (col_among r h.0 m h.1)) (sym h.2)) (pair_allowed a m r h.0 perfect h.1))
      (λ r y. let (d, p) = row_pair r m (perfect.covers_row r (chain_square a {u = ColAt c} {v = RowAt r} s y)) in (d, p, chain_row_number a m number c r d perfect comp y p))
      k.rows;
  cols = lists_same (λ d. IsSquareCol a d × (number d ≡ number c)) (λ d. Chain a (ColAt c) (ColAt d)) b.cols
      (λ d h. same_number_chain a m number c d perfect comp s h.0 (sym h.1))
      (λ d y. (chain_square a {u = ColAt c} {v = ColAt d} s y, chain_same_number a m number c d perfect comp y))
      k.cols;
}

pub component_is_block : (a : Matrix) (m : List Place) (number : ℕ → ℕ) (c : ℕ) (b : Block) → IsPerfect a m → AreComponents a m number → IsSquareCol a c → IsComponent a m number (number c) b → IsBlock a b
component_is_block a m number c b perfect comp s k = (ColAt c, component_is_class a m number c b perfect comp s k)

-- the class of a vertex is that of each of its columns
pub class_of_col : (a : Matrix) (b : Block) (v : Vertex) (c : ℕ) → IsClassOf a v b → Among c b.cols → IsClassOf a (ColAt c) b
class_of_col a b v c k h = record {
  square = chain_square a {u = v} {v = ColAt c} k.square chain;
  rows = lists_same (λ r. Chain a v (RowAt r)) (λ r. Chain a (ColAt c) (RowAt r)) b.rows (λ r y. chain_join a (chain_back a chain) y) (λ r y. chain_join a chain y) k.rows;
  cols = lists_same (λ d. Chain a v (ColAt d)) (λ d. Chain a (ColAt c) (ColAt d)) b.cols (λ d y. chain_join a (chain_back a chain) y) (λ d y. chain_join a chain y) k.cols;
}
  where
    chain : Chain a v (ColAt c)
    chain = k.cols.sound c h

pub class_is_component : (a : Matrix) (m : List Place) (number : ℕ → ℕ) (c : ℕ) (b : Block) → IsPerfect a m → AreComponents a m number → IsClassOf a (ColAt c) b → IsComponent a m number (number c) b
class_is_component a m number c b perfect comp k = record {
  rows = lists_same (λ r. Chain a (ColAt c) (RowAt r)) (λ r. (d : ℕ) × Among (r, d) m × (number d ≡ number c)) b.rows
      (λ r y. let (d, p) = row_pair r m (perfect.covers_row r (chain_square a {u = ColAt c} {v = RowAt r} k.square y)) in (d, p, chain_row_number a m number c r d perfect comp y p))
      (λ r h. by_col (same_number_chain a m number c h.0 perfect comp k.square (perfect.only_cols h.0 (col_among r h.0 m h.1)) (sym h.2)) (pair_allowed a m r h.0 perfect h.1))
      k.rows;
  cols = lists_same (λ d. Chain a (ColAt c) (ColAt d)) (λ d. IsSquareCol a d × (number d ≡ number c)) b.cols
      (λ d y. (chain_square a {u = ColAt c} {v = ColAt d} k.square y, chain_same_number a m number c d perfect comp y))
      (λ d h. same_number_chain a m number c d perfect comp k.square h.0 (sym h.1))
      k.cols;
}

-- each block is the component of a column
pub block_is_component : (a : Matrix) (m : List Place) (number : ℕ → ℕ) (b : Block) → IsPerfect a m → AreComponents a m number → IsBlock a b → (c : ℕ) × IsSquareCol a c × IsComponent a m number (number c) b
block_is_component a m number b perfect comp x =
    let (c, h) = block_has_col a m b perfect x in
    let k = class_of_col a b x.0 c x.1 h in
    (c, k.square, class_is_component a m number c b perfect comp k)
