-- The numbers of the seats, where the view of one seat changes, a seat is split off, or one is joined to another.
use Rattle.std.proofs.Common.{◌≡◌, ◌≢◌, ◌∙◌, ℕ, zero, suc, ◌+◌, ◌≤◌, ◌==◌, if◌then◌else◌, Option, None, Some, List, [], ◌∷◌, ◌++◌, map, set, sum_by, flat_map, refl, sym, ap, subst, ⊎_elim, arith, append-nil}
use Rattle.std.proofs.lemmas.List.Sums.{sum_by-cons, sum_by_push}
use mathlib.Core.Option.{some, some-injective, some-ne-none}
use lib.ListN.{get_elem?}
use Rattle.atomic_table.proofs.Lists.{at_set, at_snoc, set_else}
use Rattle.bip_defs.specs.Occurrences.{below}
use Rattle.bip_defs.proofs.Occurrences.{below_more, below_once, below_one, one_else, one_here}
use Rattle.bip_defs.proofs.Sets.{number_same}
use Rattle.board_seats.specs.View.{AreSeated, Known, counting_more, joined, knowing, known_or, listed_or, newcomer, opener, view_number}

-- Sums over views.

module _ {V : Type 0} (f : V → ℕ) where
  pub total_set : (vs : List V) (i : ℕ) (v w : V) → get_elem? vs i ≡ some v → sum_by f (set vs i w) + f v ≡ sum_by f vs + f w
  total_set [] i v w at = absurd (some-ne-none v (sym at))
  total_set (x ∷ vs) zero v w at = subst (λ y. sum_by f (w ∷ vs) + f y ≡ sum_by f (x ∷ vs) + f w) (some-injective x v at) (omega (arith, sum_by-cons f w vs, sum_by-cons f x vs))
  total_set (x ∷ vs) (suc i) v w at = let e = total_set vs i v w at in omega (arith, e, sum_by-cons f x (set vs i w), sum_by-cons f x vs)

  total_one : (vs : List V) (i : ℕ) (v : V) → get_elem? vs i ≡ some v → f v ≤ sum_by f vs
  total_one [] i v at = absurd (some-ne-none v (sym at))
  total_one (x ∷ vs) zero v at = subst (λ y. f y ≤ sum_by f (x ∷ vs)) (some-injective x v at) (omega (arith, sum_by-cons f x vs))
  total_one (x ∷ vs) (suc i) v at = let le = total_one vs i v at in omega (arith, le, sum_by-cons f x vs)

  total_two : (vs : List V) (i j : ℕ) (v w : V) → get_elem? vs i ≡ some v → get_elem? vs j ≡ some w → j ≢ i → f v + f w ≤ sum_by f vs
  total_two [] i j v w at there ne = absurd (some-ne-none v (sym at))
  total_two (x ∷ vs) zero zero v w at there ne = absurd (ne refl)
  total_two (x ∷ vs) zero (suc j) v w at there ne = subst (λ y. f y + f w ≤ sum_by f (x ∷ vs)) (some-injective x v at) (let le = total_one vs j w there in omega (arith, le, sum_by-cons f x vs))
  total_two (x ∷ vs) (suc i) zero v w at there ne = subst (λ y. f v + f y ≤ sum_by f (x ∷ vs)) (some-injective x w there) (let le = total_one vs i v at in omega (arith, le, sum_by-cons f x vs))
  total_two (x ∷ vs) (suc i) (suc j) v w at there ne = let le = total_two vs i j v w at there (λ e. ne (ap suc e)) in omega (arith, le, sum_by-cons f x vs)

-- Views.

pub known_same : {O L : Type 0} {k j : Known O L} → Some k ≡ Some j → k ≡ j
known_same {k = k} e = ap (known_or k) e

not_gone : {O L : Type 0} {k : Known O L} → None ≡ Some k → ⊥
not_gone e = cc

module _ {O L : Type 0} {o : O} {views : List (Option (Known O L))} (a : AreSeated o views) (id : ℕ) (k : Known O L) (at : get_elem? views id ≡ some (Some k)) where
  -- no two seats have one number
  one_seat : (i : ℕ) (j : Known O L) → get_elem? views i ≡ some (Some j) → j.number ≡ k.number → i ≡ id
  one_seat i j there same = ⊎_elim (λ e. e) (λ ne.
      let two = total_two (view_number k.number) views id i (Some k) (Some j) at there ne in
      let total = a.numbers k.number in
      absurd (omega (arith, two, total, below_once k.number a.count, one_here k.number k.number refl, one_here j.number k.number same))) (number_same i id)

  -- a seat has other lists
  pub seated_step : (l : L) → AreSeated o (set views id (knowing k l))
  seated_step l = record {
    count = a.count;
    some_seat = a.some_seat;
    numbers = λ n. let e = total_set (view_number n) views id (Some k) (knowing k l) at in let was = a.numbers n in omega (arith, e, was);
    keeps_count = λ i j there. ⊎_elim (λ (t : (i ≡ id) × (knowing k l ≡ Some j)). subst (λ (m : Known O L). m.number ≡ 0 → m.seats ≡ a.count) (known_same t.1) (a.keeps_count id k at)) (λ (t : (i ≢ id) × (get_elem? views i ≡ some (Some j))). a.keeps_count i j t.1) (at_set views id i (knowing k l) (Some j) there);
    opened = λ i j there. ⊎_elim (λ (t : (i ≡ id) × (knowing k l ≡ Some j)). subst (λ (m : Known O L). m.opened ≡ o) (known_same t.1) (a.opened id k at)) (λ (t : (i ≢ id) × (get_elem? views i ≡ some (Some j))). a.opened i j t.1) (at_set views id i (knowing k l) (Some j) there);
  }

  -- the seat 0 splits off a seat with the next number
  pub seated_more : (nothing : L) → k.number ≡ 0 → AreSeated o (set views id (counting_more (Some k)) ++ newcomer nothing (Some k) ∷ [])
  seated_more nothing zeroth = record {
    count = 1 + a.count;
    some_seat = omega arith;
    numbers = λ n.
        let pushed = sum_by_push (view_number n) (set views id (counting_more (Some k))) (newcomer nothing (Some k)) in
        let e = total_set (view_number n) views id (Some k) (counting_more (Some k)) at in
        let was = a.numbers n in
        let more = below_more n a.count in
        let last : view_number n (newcomer nothing (Some k)) ≡ (if a.count == n then 1 else 0) = ap (λ (c : ℕ). if c == n then 1 else 0) counted in
        omega (arith, pushed, e, was, more, last);
    keeps_count = λ i j there num. ⊎_elim (old_count i j num) (λ (e : newcomer nothing (Some k) ≡ Some j). absurd (let own : k.seats ≡ 0 = subst (λ (m : Known O L). m.number ≡ 0) (sym (known_same e)) num in let some = a.some_seat in omega (arith, own, counted, some))) (at_snoc (set views id (counting_more (Some k))) (newcomer nothing (Some k)) (Some j) i there);
    opened = λ i j there. ⊎_elim (old_opened i j) (λ (e : newcomer nothing (Some k) ≡ Some j). subst (λ (m : Known O L). m.opened ≡ o) (known_same e) (a.opened id k at)) (at_snoc (set views id (counting_more (Some k))) (newcomer nothing (Some k)) (Some j) i there);
  }
    where
      counted : k.seats ≡ a.count
      counted = a.keeps_count id k at zeroth

      old_count : (i : ℕ) (j : Known O L) → j.number ≡ 0 → get_elem? (set views id (counting_more (Some k))) i ≡ some (Some j) → j.seats ≡ 1 + a.count
      old_count i j num there = ⊎_elim (λ (t : (i ≡ id) × (counting_more (Some k) ≡ Some j)). subst (λ (m : Known O L). m.seats ≡ 1 + a.count) (known_same t.1) (ap (λ (c : ℕ). 1 + c) counted)) (λ (t : (i ≢ id) × (get_elem? views i ≡ some (Some j))). absurd (t.0 (one_seat i j t.1 (num ∙ sym zeroth)))) (at_set views id i (counting_more (Some k)) (Some j) there)

      old_opened : (i : ℕ) (j : Known O L) → get_elem? (set views id (counting_more (Some k))) i ≡ some (Some j) → j.opened ≡ o
      old_opened i j there = ⊎_elim (λ (t : (i ≡ id) × (counting_more (Some k) ≡ Some j)). subst (λ (m : Known O L). m.opened ≡ o) (known_same t.1) (a.opened id k at)) (λ (t : (i ≢ id) × (get_elem? views i ≡ some (Some j))). a.opened i j t.1) (at_set views id i (counting_more (Some k)) (Some j) there)

  -- the seat 0 takes in the seat with the highest number
  pub seated_fewer : (followed_by : L → L → L) → k.number ≡ 0 → (other : ℕ) (j : Known O L) → other ≢ id → get_elem? views other ≡ some (Some j) → k.seats ≡ 1 + j.number → AreSeated o (set (set views id (joined followed_by (Some k) (Some j))) other None)
  seated_fewer followed_by zeroth other j ne there highest = record {
    count = j.number;
    some_seat = some_left;
    numbers = λ n.
        let both = total_set (view_number n) views id (Some k) (joined followed_by (Some k) (Some j)) at in
        let gone = total_set (view_number n) (set views id (joined followed_by (Some k) (Some j))) other (Some j) None still in
        let was = a.numbers n in
        let fewer : below n a.count ≡ below n j.number + (if j.number == n then 1 else 0) = ap (below n) (sym counted ∙ highest) ∙ below_more n j.number in
        omega (arith, both, gone, was, fewer);
    keeps_count = λ i m at_i num. ⊎_elim (λ (t : (i ≡ other) × (None ≡ Some m)). absurd (not_gone t.1)) (λ (t : (i ≢ other) × (get_elem? (set views id (joined followed_by (Some k) (Some j))) i ≡ some (Some m))). rest_count i m num t.1) (at_set (set views id (joined followed_by (Some k) (Some j))) other i None (Some m) at_i);
    opened = λ i m at_i. ⊎_elim (λ (t : (i ≡ other) × (None ≡ Some m)). absurd (not_gone t.1)) (λ (t : (i ≢ other) × (get_elem? (set views id (joined followed_by (Some k) (Some j))) i ≡ some (Some m))). rest_opened i m t.1) (at_set (set views id (joined followed_by (Some k) (Some j))) other i None (Some m) at_i);
  }
    where
      counted : k.seats ≡ a.count
      counted = a.keeps_count id k at zeroth

      some_left : 1 ≤ j.number
      some_left = ⊎_elim (λ (e : j.number ≡ 0). absurd (ne (one_seat other j there (e ∙ sym zeroth)))) (λ (n : j.number ≢ 0). omega arith) (number_same j.number 0)

      still : get_elem? (set views id (joined followed_by (Some k) (Some j))) other ≡ some (Some j)
      still = set_else views id other (joined followed_by (Some k) (Some j)) ne ∙ there

      rest_count : (i : ℕ) (m : Known O L) → m.number ≡ 0 → get_elem? (set views id (joined followed_by (Some k) (Some j))) i ≡ some (Some m) → m.seats ≡ j.number
      rest_count i m num at_i = ⊎_elim (λ (t : (i ≡ id) × (joined followed_by (Some k) (Some j) ≡ Some m)). subst (λ (x : Known O L). x.seats ≡ j.number) (known_same t.1) (omega arith)) (λ (t : (i ≢ id) × (get_elem? views i ≡ some (Some m))). absurd (t.0 (one_seat i m t.1 (num ∙ sym zeroth)))) (at_set views id i (joined followed_by (Some k) (Some j)) (Some m) at_i)

      rest_opened : (i : ℕ) (m : Known O L) → get_elem? (set views id (joined followed_by (Some k) (Some j))) i ≡ some (Some m) → m.opened ≡ o
      rest_opened i m at_i = ⊎_elim (λ (t : (i ≡ id) × (joined followed_by (Some k) (Some j) ≡ Some m)). subst (λ (x : Known O L). x.opened ≡ o) (known_same t.1) (a.opened id k at)) (λ (t : (i ≢ id) × (get_elem? views i ≡ some (Some m))). a.opened i m t.1) (at_set views id i (joined followed_by (Some k) (Some j)) (Some m) at_i)

  -- where the count is 1, no other seat is left
  pub only_seat : k.number ≡ 0 → k.seats ≡ 1 → (i : ℕ) (j : Known O L) → get_elem? views i ≡ some (Some j) → i ≡ id
  only_seat zeroth one i j there = ⊎_elim (λ (e : j.number ≡ 0). one_seat i j there (e ∙ sym zeroth)) (λ ne. absurd (
      let le = total_one (view_number j.number) views i (Some j) there in
      let total : sum_by (view_number j.number) views ≡ 0 = a.numbers j.number ∙ ap (below j.number) (sym (a.keeps_count id k at zeroth) ∙ one) ∙ below_one j.number ne in
      omega (arith, le, total, one_here j.number j.number refl))) (number_same j.number 0)

-- where one seat is left, its lists are all that there are
module _ {O L X : Type 0} (nothing : L) (g : L → List X) (empty : g nothing ≡ []) where
  gone_flat : (views : List (Option (Known O L))) → ((i : ℕ) (j : Known O L) → ¬ (get_elem? views i ≡ some (Some j))) → flat_map g (map (listed_or nothing) views) ≡ []
  gone_flat [] none = refl
  gone_flat (None ∷ views) none = ap (λ xs. xs ++ flat_map g (map (listed_or nothing) views)) empty ∙ gone_flat views (λ i j. none (suc i) j)
  gone_flat (Some j ∷ views) none = absurd (none 0 j refl)

  pub only_flat : (views : List (Option (Known O L))) (id : ℕ) (k : Known O L) → get_elem? views id ≡ some (Some k) → ((i : ℕ) (j : Known O L) → get_elem? views i ≡ some (Some j) → i ≡ id) → flat_map g (map (listed_or nothing) views) ≡ g k.listed
  only_flat [] id k at only = absurd (some-ne-none (Some k) (sym at))
  only_flat (v ∷ views) zero k at only =
      ap (λ xs. g (listed_or nothing v) ++ xs) (gone_flat views (λ i j there. let e = only (suc i) j there in omega (arith, e))) ∙ append-nil (g (listed_or nothing v)) ∙ ap (λ o. g (listed_or nothing o)) (some-injective v (Some k) at)
  only_flat (None ∷ views) (suc id) k at only = ap (λ xs. xs ++ flat_map g (map (listed_or nothing) views)) empty ∙ only_flat views id k at (λ i j there. let e = only (suc i) j there in omega (arith, e))
  only_flat (Some j ∷ views) (suc id) k at only = absurd (let e = only 0 j refl in omega (arith, e))

-- The seats of a board that is opened.

first_below : (n : ℕ) → (if 0 == n then 1 else 0) ≡ below n 1
first_below zero = refl
first_below (suc n) = one_else 0 (suc n) (λ e. omega arith)

-- the one view of a board that is opened
pub only_view : {V : Type 0} {v : V} (id : ℕ) (w : V) → get_elem? (v ∷ []) id ≡ some w → v ≡ w
only_view {v = v} zero w at = some-injective v w at
only_view (suc id) w at = absurd (some-ne-none w (sym at))

pub seated_alone : {O L : Type 0} (nothing : L) (o : O) → AreSeated o (opener nothing o ∷ [])
seated_alone nothing o = record {
  count = 1;
  some_seat = omega arith;
  numbers = λ n. let e = sum_by-cons (view_number n) (opener nothing o) [] in omega (arith, e, first_below n);
  keeps_count = λ id k at zeroth. ap (λ (j : Known _ _). j.seats) (sym (known_same (only_view id (Some k) at)));
  opened = λ id k at. ap (λ (j : Known _ _). j.opened) (sym (known_same (only_view id (Some k) at)));
}
