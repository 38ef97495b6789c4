-- Distances from all unmatched columns, and the prices that they raise.
use Rattle.std.proofs.Common.{◌≡◌, ◌⊎◌, ◌∙◌, ℕ, slice_index, ◌+◌, ◌-◌, ◌<◌, ◌≤◌, List, Vec, Global, Result, Ok, Err, IfOk, length, get_or, sym, ap, subst, ⊎_elim, arith}
use Rattle.std.proofs.lemmas.List.{get_or_read}
use Rattle.bip_defs.specs.Lists.{Among, Lists}
use Rattle.bip_defs.specs.Matrix.{IsEntry, Matrix, cols}
use Rattle.bip_defs.proofs.Sets.{among_at}
use Rattle.bip_graph.specs.Matching.{Pairing}
use Rattle.integer_diagonal.proofs.Augmented.{dual_small}
use Rattle.integer_diagonal.specs.Amounts.{HasDistance, HasRoom}
use Rattle.integer_diagonal.specs.declared.assignment.Assignment.{Assignment}
use Rattle.integer_diagonal.specs.declared.distances.Distances.{Distances}
use Rattle.integer_diagonal.specs.Distances.{AreNear}
use Rattle.integer_diagonal.specs.Duals.{IsAssigned, Priced, cost, dual}
use Rattle.sp_pattern.specs.Weights.{weight_at}

module _ (x : Priced) (m : Pairing) (a : Matrix) (limit : ℕ) where
  room_here : x.weighing.matrix ≡ a → HasRoom (cols a) x.top limit → HasRoom (cols x.weighing.matrix) x.top limit
  room_here same room = subst (λ (z : Matrix). HasRoom (cols z) x.top limit) (sym same) room

  -- an entry leads to a distance
  pub entry_distance : (r c price weight out depth : ℕ) → IsAssigned x m → x.weighing.matrix ≡ a → HasRoom (cols a) x.top limit → depth ≤ x.top → IsEntry x.weighing.matrix r c → price ≡ slice_index x.prices r → weight ≡ weight_at x.weighing r c → out ≡ dual x c → HasDistance limit x.top price weight out depth
  entry_distance r c price weight out depth k same room near entry price_is weight_is dual_is =
      let low = k.bounded.prices r in
      let here = room_here same room in
      let small = k.feasible.small r c entry in
      let covers = k.feasible.covers r c entry in
      let one : x.top - weight ≤ x.top = omega arith in
      record {
        small = omega (arith, weight_is, small);
        covers = (let paid_is : price + (x.top - weight) ≡ price + cost x.top x.weighing r c = ap (λ z. price + (x.top - z)) weight_is in omega (arith, paid_is, price_is, covers, dual_is));
        priced = omega (arith, low, price_is, one, here);
        fits = omega (arith, low, price_is, one, here, near);
      }

  -- higher prices
  pub price_rises : (rise : ℕ) → IsAssigned x m → x.weighing.matrix ≡ a → HasRoom (cols a) x.top limit → rise ≤ x.top → (r : ℕ) → slice_index x.prices r + rise < limit
  price_rises rise k same room small r =
      let low = k.bounded.prices r in
      let here = room_here same room in
      omega (arith, low, here, small)

  -- higher dual variables
  pub dual_rises : (rise : ℕ) → IsAssigned x m → x.weighing.matrix ≡ a → HasRoom (cols a) x.top limit → rise ≤ x.top → (c : ℕ) → dual x c + rise < limit
  dual_rises rise k same room small c =
      let low = dual_small x m.pairs c k.matching k.bounded in
      let here = room_here same room in
      omega (arith, low, here, small)

-- the entry at a place of a row's columns
pub col_entry : (a b : Matrix) (r : ℕ) (cs : List ℕ) (k c : ℕ) → b ≡ a → Lists (λ d. IsEntry a r d) cs → k < length cs → c ≡ get_or cs k c → IsEntry b r c
col_entry a b r cs k c same lists lt is = subst (λ (z : Matrix). IsEntry z r c) (sym same) (lists.sound c (subst (λ s. Among s cs) (sym (get_or_read cs k c lt is 0)) (among_at cs k 0 lt)))

-- a matching of a square matrix has as many rows as columns
pub square_pairing : (x : Priced) (m : Pairing) (a : Matrix) → IsAssigned x m → x.weighing.matrix ≡ a → a.rows ≡ cols a → m.rows ≡ m.cols
square_pairing x m a k same square =
    let rows = ap (λ (z : Matrix). z.rows) same in
    let n = ap cols same in
    omega (arith, rows, n, square, k.rows_are, k.cols_are)

-- the nearest row is taken out, and the radius is its distance
pub taken_near : {W : Type 0} (rows most d r : ℕ) (l k : Distances W) → AreNear rows most l → k.of_far ≡ l.of_far → Among (d, r) l.frontier → ((e : ℕ × ℕ) → Among e k.frontier → Among e l.frontier) → AreNear rows most (record k { radius = d })
taken_near {W} rows most d r l k near same was rest = record {
  within = record { long = ap (λ (z : Vec ℕ Global). length z.items) same ∙ near.within.long; radius = (near.waiting (d, r) was).1 };
  waiting = λ e h. near.waiting e (rest e h);
}

-- a row is put among those that wait
pub put_near : {W : Type 0} (rows most d r : ℕ) (l k : Distances W) → AreNear rows most l → r < rows → d ≤ most → length k.of_far.items ≡ length l.of_far.items → k.radius ≡ l.radius → ((e : ℕ × ℕ) → Among e k.frontier → (e ≡ (d, r)) ⊎ Among e l.frontier) → AreNear rows most k
put_near {W} rows most d r l k near lt small long radius holds = record {
  within = record { long = long ∙ near.within.long; radius = (let old = near.within.radius in omega (arith, radius, old)) };
  waiting = λ e h. ⊎_elim (λ (is : e ≡ (d, r)). subst (λ (z : ℕ × ℕ). (z.1 < rows) × (z.0 ≤ most)) (sym is) (lt, small)) (λ k. near.waiting e k) (holds e h);
}

-- room that stays where `top` does
pub ok_room : {W E : Type 0} (n top limit : ℕ) (P Q : Assignment W → Type 0) (r : Result (Assignment W) E) → HasRoom n top limit → IfOk r (λ a. (a.top ≡ top) × P a × Q a) → IfOk r (λ a. HasRoom n a.top limit)
ok_room {W} {E} n top limit P Q (Ok a) room same = subst (λ t. HasRoom n t limit) (sym same.0) room
ok_room {W} {E} n top limit P Q (Err e) room same = tt
