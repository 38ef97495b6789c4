-- The connected components of a part stand in one list.
use Rattle.std.proofs.Common.{subst, ◌≡◌, ◌↔◌, ℕ, ◌<◌, List, [], ◌∷◌, map, refl, sym, ap, ap₂, inl, inr, ⊎_elim, arith}
use Rattle.bip_defs.specs.Blocks.{Block, ColAt, RowAt, Vertex, least_col}
use Rattle.bip_defs.specs.ConnectedComponents.{AreConnectedComponents, AreOrderedComponents, Components, IsComponentWith, IsConnectedComponent, IsHorizontalVertex, IsVerticalVertex, Joined, alone, least_row, to_col, to_row}
use Rattle.bip_defs.specs.Lists.{Among, IsRising}
use Rattle.bip_defs.specs.Matrix.{IsTransposeOf, Matrix}
use Rattle.bip_defs.proofs.Transposed.{transpose_back, turned_vertical, turned_vertical_col, vertical_col_turned, vertical_turned}
use Rattle.bip_defs.proofs.Sets.{among_map, among_map_back, below_each_sound, lists_same, lists_unique}

-- Chains.

pub joined_on : (a : Matrix) (P : Vertex → Type 0) {u v w : Vertex} → Joined a P u v → Joined a P v w → Joined a P u w
joined_on a P x alone = x
joined_on a P x (to_col y e p q) = to_col (joined_on a P x y) e p q
joined_on a P x (to_row y e p q) = to_row (joined_on a P x y) e p q

pub joined_back : (a : Matrix) (P : Vertex → Type 0) {u v : Vertex} → Joined a P u v → Joined a P v u
joined_back a P alone = alone
joined_back a P (to_col y e p q) = joined_on a P (to_row alone e p q) (joined_back a P y)
joined_back a P (to_row y e p q) = joined_on a P (to_col alone e p q) (joined_back a P y)

-- a chain from the part stays there
pub joined_inside : (a : Matrix) (P : Vertex → Type 0) {u v : Vertex} → P u → Joined a P u v → P v
joined_inside a P s alone = s
joined_inside a P s (to_col y e p q) = q
joined_inside a P s (to_row y e p q) = p

-- Components.

-- components of vertices that a chain joins are one
pub component_same : (a : Matrix) (P : Vertex → Type 0) (u v : Vertex) (b d : Block) → IsComponentWith a P u b → IsComponentWith a P v d → Joined a P u v → b ≡ d
component_same a P u v b d x y chain = λ i. record {
  rows = lists_unique (λ r. Joined a P v (RowAt r)) b.rows d.rows (lists_same (λ r. Joined a P u (RowAt r)) (λ r. Joined a P v (RowAt r)) b.rows (λ r k. joined_on a P (joined_back a P chain) k) (λ r k. joined_on a P chain k) x.rows) y.rows i;
  cols = lists_unique (λ c. Joined a P v (ColAt c)) b.cols d.cols (lists_same (λ c. Joined a P u (ColAt c)) (λ c. Joined a P v (ColAt c)) b.cols (λ c k. joined_on a P (joined_back a P chain) k) (λ c k. joined_on a P chain k) x.cols) y.cols i;
}

-- a list whose elements have rising numbers is determined by its members
pub numbered_unique : {X : Type 0} (f : X → ℕ) (xs ys : List X) → IsRising (map f xs) → IsRising (map f ys) → ((x : X) → Among x xs → Among x ys) → ((x : X) → Among x ys → Among x xs) → xs ≡ ys
numbered_unique f [] [] a b over back = refl
numbered_unique f [] (y ∷ ys) a b over back = absurd (back y (inl refl))
numbered_unique f (x ∷ xs) [] a b over back = absurd (over x (inl refl))
numbered_unique {X = X} f (x ∷ xs) (y ∷ ys) a b over back = ap₂ (λ u v. u ∷ v) heads (numbered_unique f xs ys a.1 b.1 rest_over rest_back)
  where
    after_x : (z : X) → Among z xs → f x < f z
    after_x z h = below_each_sound (f x) (f z) (map f xs) a.0 (among_map f z xs h)

    after_y : (z : X) → Among z ys → f y < f z
    after_y z h = below_each_sound (f y) (f z) (map f ys) b.0 (among_map f z ys h)

    heads : x ≡ y
    heads = by (over x (inl refl)) (back y (inl refl))
      where
        by : Among x (y ∷ ys) → Among y (x ∷ xs) → x ≡ y
        by (inl e) k = e
        by (inr h) (inl e) = sym e
        by (inr h) (inr k) = absurd (omega (arith, after_y x h, after_x y k))

    rest_over : (z : X) → Among z xs → Among z ys
    rest_over z h = ⊎_elim (λ (e : z ≡ y). absurd (omega (arith, after_x z h, ap f e, ap f heads))) (λ k. k) (over z (inr h))

    rest_back : (z : X) → Among z ys → Among z xs
    rest_back z h = ⊎_elim (λ (e : z ≡ x). absurd (omega (arith, after_y z h, ap f e, ap f heads))) (λ k. k) (back z (inr h))

pub one_order_of_components : (a : Matrix) (P : Vertex → Type 0) (least : Block → ℕ) (bs ds : List Block) → AreOrderedComponents a P least bs → AreOrderedComponents a P least ds → bs ≡ ds
one_order_of_components a P least bs ds x y = numbered_unique least bs ds x.rising y.rising (λ b h. y.complete b (x.sound b h)) (λ b h. x.complete b (y.sound b h))

pub same_components : (a : Matrix) (c d : Components) → AreConnectedComponents a c → AreConnectedComponents a d → c ≡ d
same_components a c d x y = λ i. record {
  horizontal = one_order_of_components a (IsHorizontalVertex a) least_col c.horizontal d.horizontal x.horizontal y.horizontal i;
  vertical = one_order_of_components a (IsVerticalVertex a) least_row c.vertical d.vertical x.vertical y.vertical i;
}

-- The transpose.

abbrev turned : Vertex → Vertex
turned (RowAt r) = ColAt r
turned (ColAt c) = RowAt c

turned_twice : (v : Vertex) → turned (turned v) ≡ v
turned_twice (RowAt r) = refl
turned_twice (ColAt c) = refl

-- columns for rows and rows for columns
abbrev pub turned_block : Block → Block
turned_block b = record { rows = b.cols; cols = b.rows }

-- a part of b is a part of its transpose a, with columns for rows
abbrev AreTurned : (Vertex → Type 0) → (Vertex → Type 0) → Type 0
AreTurned P Q = (v : Vertex) → P v ↔ Q (turned v)

turned_back : (P Q : Vertex → Type 0) → AreTurned P Q → AreTurned Q P
turned_back P Q s v = (λ q. (s (turned v)).1 (subst Q (sym (turned_twice v)) q), λ p. subst Q (turned_twice v) ((s (turned v)).0 p))

joined_turned : (a b : Matrix) (P Q : Vertex → Type 0) → IsTransposeOf a b → AreTurned P Q → {u v : Vertex} → Joined a P u v → Joined b Q (turned u) (turned v)
joined_turned a b P Q t s alone = alone
joined_turned a b P Q t s (to_col {r = r} {c = c} y e p q) = to_row (joined_turned a b P Q t s y) (t.over r c e) ((s (ColAt c)).0 q) ((s (RowAt r)).0 p)
joined_turned a b P Q t s (to_row {r = r} {c = c} y e p q) = to_col (joined_turned a b P Q t s y) (t.over r c e) ((s (ColAt c)).0 q) ((s (RowAt r)).0 p)

turned_component : (a b : Matrix) (P Q : Vertex → Type 0) (v : Vertex) (d : Block) → IsTransposeOf a b → AreTurned P Q → IsComponentWith b Q v d → IsComponentWith a P (turned v) (turned_block d)
turned_component a b P Q v d t s k = record {
  inside = (turned_back P Q s v).0 k.inside;
  rows = lists_same (λ c. Joined b Q v (ColAt c)) (λ r. Joined a P (turned v) (RowAt r)) d.cols (λ r y. over y) (λ r y. subst (λ u. Joined b Q u (ColAt r)) (turned_twice v) (joined_turned a b P Q t s y)) k.cols;
  cols = lists_same (λ r. Joined b Q v (RowAt r)) (λ c. Joined a P (turned v) (ColAt c)) d.rows (λ c y. over y) (λ c y. subst (λ u. Joined b Q u (RowAt c)) (turned_twice v) (joined_turned a b P Q t s y)) k.rows;
}
  where
    over : {w : Vertex} → Joined b Q v w → Joined a P (turned v) (turned w)
    over y = joined_turned b a Q P (transpose_back a b t) (turned_back P Q s) y

turned_least : (bs : List Block) → map least_row (map turned_block bs) ≡ map least_col bs
turned_least [] = refl
turned_least (b ∷ bs) = ap (λ (ns : List ℕ). least_col b ∷ ns) (turned_least bs)

turned_components : (a b : Matrix) (P Q : Vertex → Type 0) (bs : List Block) → IsTransposeOf a b → AreTurned P Q → AreOrderedComponents b Q least_col bs → AreOrderedComponents a P least_row (map turned_block bs)
turned_components a b P Q bs t s x = record {
  sound = λ d h. let (e, on, is) = among_map_back turned_block d bs h in subst (IsConnectedComponent a P) is (let k = x.sound e on in (turned k.0, turned_component a b P Q k.0 e t s k.1));
  complete = λ d k. among_map turned_block (turned_block d) bs (x.complete (turned_block d) (turned k.0, turned_component b a Q P k.0 d (transpose_back a b t) (turned_back P Q s) k.1));
  rising = subst IsRising (sym (turned_least bs)) x.rising;
}

vertical_is_turned : (a b : Matrix) → IsTransposeOf a b → AreTurned (IsVerticalVertex a) (IsHorizontalVertex b)
vertical_is_turned a b t (RowAt r) = (vertical_turned a b r t, turned_vertical a b r t)
vertical_is_turned a b t (ColAt c) = (vertical_col_turned a b c t, turned_vertical_col a b c t)

-- the horizontal components of the transpose are the vertical ones
pub vertical_components : (a b : Matrix) (bs : List Block) → IsTransposeOf a b → AreOrderedComponents b (IsHorizontalVertex b) least_col bs → AreOrderedComponents a (IsVerticalVertex a) least_row (map turned_block bs)
vertical_components a b bs t x = turned_components a b (IsVerticalVertex a) (IsHorizontalVertex b) bs t (vertical_is_turned a b t) x
