-- Seats in the order of their numbers, and in any order.
use Rattle.std.proofs.Common.{◌≡◌, ◌∙◌, ◌⊎◌, ℕ, zero, suc, ◌+◌, ◌<◌, ◌≤◌, ◌==◌, if◌then◌else◌, List, [], ◌∷◌, ◌++◌, flat_map, length, sum_by, refl, sym, ap, subst, inl, inr, ⊎_elim, arith}
use Rattle.std.specs.List.{AllZip}
use Rattle.std.specs.List.Sorted.{IsNonDecreasingBy, IsPermutation}
use Rattle.std.proofs.lemmas.List.Sorted.{Contains-permutation, IsPermutation-sym, length_permutation, sum_by-IsPermutation}
use Rattle.std.proofs.lemmas.List.{map-append}
use Rattle.std.proofs.lemmas.List.Sums.{sum_by-cons}
use Rattle.std.proofs.lemmas.Slice.Zip.{AllZip-long}
use Rattle.bip_defs.specs.Lists.{Among}
use Rattle.bip_defs.specs.Occurrences.{below, times}
use Rattle.bip_defs.proofs.Occurrences.{below_more, below_once, one_else, one_here, times_append}
use Rattle.bip_defs.proofs.Sets.{among_either, among_from_contains, among_left, among_right, contains_from_among, number_same, place_among}
use Rattle.board_seats.specs.Seat.{AreAllSeats, AreNumbered, HoldsAllSeats, IsSameSeat, Seat, has_number, lists_of, more_seats, new_seat, new_seats}

-- Numbers below a count.

below_is : (n count : ℕ) → n < count → below n count ≡ 1
below_is n zero lt = absurd (omega arith)
below_is zero (suc count) lt = refl
below_is (suc n) (suc count) lt = below_is n count (omega (arith, lt))

below_not : (n count : ℕ) → count ≤ n → below n count ≡ 0
below_not n zero le = refl
below_not zero (suc count) le = absurd (omega (arith, le))
below_not (suc n) (suc count) le = below_not n count (omega (arith, le))

-- how two lists, and all of several, are one: a list at the end of these may go to the head of what follows them
pub record IsGathering {L : Type 0} (followed_by : L → L → L) (all_listed : List L → L) : Type 0 where
  pub last : (ls : List L) (l m : L) → followed_by (all_listed (ls ++ l ∷ [])) m ≡ followed_by (all_listed ls) (followed_by l m)

-- a permutation of a list has its elements
pub among_permuted : {X : Type 0} (xs ys : List X) (x : X) → IsPermutation xs ys → Among x xs → Among x ys
among_permuted xs ys x p h = among_from_contains x ys (Contains-permutation xs ys x p (contains_from_among x xs h))

module _ {B L : Type 0} where
  -- some seat has a number that is counted
  counted_some : (n : ℕ) (ss : List (Seat B L)) → 1 ≤ sum_by (has_number n) ss → (s : Seat B L) × Among s ss × (s.number ≡ n)
  counted_some n [] le = absurd (omega arith)
  counted_some n (s ∷ ss) le = ⊎_elim (λ (e : s.number ≡ n). (s, inl refl, e)) (λ ne. let t = counted_some n ss (omega (arith, le, sum_by-cons (has_number n) s ss, one_else s.number n ne)) in (t.0, inr t.1, t.2)) (number_same s.number n)

  -- and a seat's number is counted
  some_counted : (n : ℕ) (ss : List (Seat B L)) (s : Seat B L) → Among s ss → s.number ≡ n → 1 ≤ sum_by (has_number n) ss
  some_counted n [] s h e = absurd h
  some_counted n (t ∷ ss) s (inl same) e = let here = one_here t.number n (ap (λ (r : Seat B L). r.number) (sym same) ∙ e) in omega (arith, here, sum_by-cons (has_number n) t ss)
  some_counted n (t ∷ ss) s (inr h) e = let rest = some_counted n ss s h e in omega (arith, rest, sum_by-cons (has_number n) t ss)

  -- No two seats have one number.

  one_counted : (n : ℕ) (ss : List (Seat B L)) → sum_by (has_number n) ss ≤ 1 → (s t : Seat B L) → Among s ss → Among t ss → s.number ≡ n → t.number ≡ n → s ≡ t
  one_counted n [] le s t h k e f = absurd h
  one_counted n (x ∷ ss) le s t (inl p) (inl q) e f = p ∙ sym q
  one_counted n (x ∷ ss) le s t (inl p) (inr k) e f = absurd (let here = one_here x.number n (ap (λ (r : Seat B L). r.number) (sym p) ∙ e) in let rest = some_counted n ss t k f in omega (arith, le, here, rest, sum_by-cons (has_number n) x ss))
  one_counted n (x ∷ ss) le s t (inr h) (inl q) e f = absurd (let here = one_here x.number n (ap (λ (r : Seat B L). r.number) (sym q) ∙ f) in let rest = some_counted n ss s h e in omega (arith, le, here, rest, sum_by-cons (has_number n) x ss))
  one_counted n (x ∷ ss) le s t (inr h) (inr k) e f = one_counted n ss (omega (arith, le, sum_by-cons (has_number n) x ss)) s t h k e f

  pub one_of_all : {b : B} (ss : List (Seat B L)) (s t : Seat B L) → HoldsAllSeats b ss → Among s ss → Among t ss → s.number ≡ t.number → s ≡ t
  one_of_all ss s t all h k e = one_counted t.number ss (let was = all.numbers t.number in omega (arith, was, below_once t.number (length ss))) s t h k e refl

  -- they are as few as each of them counts
  pub few_of_counted : {b : B} (most : ℕ) (ss : List (Seat B L)) → HoldsAllSeats b ss → ((s : Seat B L) → Among s ss → s.seats ≤ most) → length ss ≤ most
  few_of_counted most ss all few =
      let own = all.numbers 0 in
      let there = below_is 0 (length ss) (let some = all.some in omega (arith, some)) in
      let (s, h, zeroth) = counted_some 0 ss (omega (arith, own, there)) in
      let le = few s h in
      let is = all.counted s h zeroth in
      omega (arith, le, is)

  -- Seats in the order of their numbers are all seats.

  numbered_counts : (b : B) (first : ℕ) (ss : List (Seat B L)) → AreNumbered b first ss → (n : ℕ) → sum_by (has_number n) ss + below n first ≡ below n (first + length ss)
  numbered_counts b first [] all n = let e : below n first ≡ below n (first + 0) = ap (below n) (omega arith) in omega (arith, e)
  numbered_counts b first (s ∷ ss) all n =
      let rest = numbered_counts b (1 + first) ss all.2 n in
      let own : has_number n s ≡ (if first == n then 1 else 0) = ap (λ (k : ℕ). if k == n then 1 else 0) all.1 in
      let long : below n (1 + first + length ss) ≡ below n (first + suc (length ss)) = ap (below n) (omega arith) in
      omega (arith, rest, own, long, below_more n first, sum_by-cons (has_number n) s ss)

  numbered_from : {b : B} (first : ℕ) (ss : List (Seat B L)) → AreNumbered b first ss → (s : Seat B L) → Among s ss → (s.board ≡ b) × (first ≤ s.number)
  numbered_from first [] all s h = absurd h
  numbered_from {b = b} first (t ∷ ss) all s (inl e) = subst (λ (r : Seat B L). (r.board ≡ b) × (first ≤ r.number)) (sym e) (all.0, let is = all.1 in omega (arith, is))
  numbered_from first (t ∷ ss) all s (inr h) = let rest = numbered_from (1 + first) ss all.2 s h in (rest.0, let le = rest.1 in omega (arith, le))

  pub in_order : (b : B) (ss : List (Seat B L)) → AreAllSeats b ss → HoldsAllSeats b ss
  in_order b [] all = absurd all
  in_order b (s ∷ others) all = record {
    some = omega arith;
    boards = λ t h. (numbered_from 0 (s ∷ others) (all.0, all.1, all.3) t h).0;
    numbers = λ n. let e = numbered_counts b 0 (s ∷ others) (all.0, all.1, all.3) n in let same : 0 + length (s ∷ others) ≡ length (s ∷ others) = omega arith in let long = ap (below n) same in let none = below_not n 0 (omega arith) in omega (arith, e, long, none);
    counted = λ t h zeroth. ⊎_elim (λ (e : t ≡ s). let is = ap (λ (r : Seat B L). r.seats) e ∙ all.2 in omega (arith, is)) (λ k. absurd (let le = (numbered_from 1 others all.3 t k).1 in omega (arith, le, zeroth))) h;
  }

  -- All seats, once they are sorted by their numbers, are in order.

  sorted_numbered : {b : B} (first : ℕ) (ss : List (Seat B L)) → ((s : Seat B L) → Among s ss → s.board ≡ b) → ((n : ℕ) → sum_by (has_number n) ss + below n first ≡ below n (first + length ss)) → IsNonDecreasingBy (λ (s : Seat B L). s.number) ss → AreNumbered b first ss
  sorted_numbered first [] boards counts rising = tt
  sorted_numbered {b = b} first (s ∷ ss) boards counts rising = (boards s (inl refl), number, sorted_numbered (1 + first) ss (λ t h. boards t (inr h)) rest (λ i j d le lt. rising (suc i) (suc j) d (omega (arith, le)) (omega (arith, lt))))
    where
      least : (t : Seat B L) → Among t (s ∷ ss) → s.number ≤ t.number
      least t h = let (k, lt, at) = place_among t s (s ∷ ss) h in subst (λ (r : Seat B L). s.number ≤ r.number) at (rising 0 k s (omega arith) lt)

      at_most : s.number ≤ first
      at_most =
          let own = counts first in
          let all = below_is first (first + length (s ∷ ss)) (omega arith) in
          let none = below_not first first (omega arith) in
          let (t, h, e) = counted_some first (s ∷ ss) (omega (arith, own, all, none)) in
          let le = least t h in
          omega (arith, le, e)

      at_least : first ≤ s.number
      at_least = ⊎_elim (λ le. le) (λ lt. absurd (
          let own = counts s.number in
          let some = some_counted s.number (s ∷ ss) s (inl refl) refl in
          let before = below_is s.number first lt in
          omega (arith, own, some, before, below_once s.number (first + length (s ∷ ss))))) (or first s.number)
        where
          or : (i n : ℕ) → (i ≤ n) ⊎ (n < i)
          or i n = grind arith

      number : s.number ≡ first
      number = omega (arith, at_most, at_least)

      rest : (n : ℕ) → sum_by (has_number n) ss + below n (1 + first) ≡ below n (1 + first + length ss)
      rest n =
          let all = counts n in
          let own : has_number n s ≡ (if first == n then 1 else 0) = ap (λ (k : ℕ). if k == n then 1 else 0) number in
          let long : below n (1 + first + length ss) ≡ below n (first + length (s ∷ ss)) = ap (below n) (omega arith) in
          omega (arith, all, own, long, below_more n first, sum_by-cons (has_number n) s ss)

  numbered_all : (b : B) (ss : List (Seat B L)) → 1 ≤ length ss → ((s : Seat B L) → Among s ss → s.number ≡ 0 → s.seats ≡ length ss) → AreNumbered b 0 ss → AreAllSeats b ss
  numbered_all b [] some counted all = absurd (omega (arith, some))
  numbered_all b (s ∷ ss) some counted all = (all.0, all.1, counted s (inl refl) all.1 ∙ omega arith, all.2)

  pub sorted_all : (b : B) (ss ts : List (Seat B L)) → HoldsAllSeats b ss → IsPermutation ss ts → IsNonDecreasingBy (λ (s : Seat B L). s.number) ts → AreAllSeats b ts
  sorted_all b ss ts all moved rising =
      let long : length ts ≡ length ss = length_permutation ss ts moved in
      let back = IsPermutation-sym ss ts moved in
      numbered_all b ts (let some = all.some in omega (arith, some, long)) (λ s h zeroth. all.counted s (among_permuted ts ss s back h) zeroth ∙ sym long)
      (sorted_numbered 0 ts (λ s h. all.boards s (among_permuted ts ss s back h)) (λ n.
      let counts = all.numbers n in
      let same = sum_by-IsPermutation (has_number n) ss ts moved in
      let none = below_not n 0 (omega arith) in
      let e : below n (length ss) ≡ below n (0 + length ts) = ap (below n) (omega (arith, long)) in
      omega (arith, counts, same, none, e)) rising)

  -- All seats stay all seats, whatever they list.

  same_boards : (ss ts : List (Seat B L)) → AllZip IsSameSeat ss ts → (t : Seat B L) → Among t ts → (s : Seat B L) × Among s ss × IsSameSeat s t
  same_boards [] [] z t h = absurd h
  same_boards [] (u ∷ ts) z t h = absurd z
  same_boards (s ∷ ss) [] z t h = absurd z
  same_boards (s ∷ ss) (u ∷ ts) z t (inl e) = (s, inl refl, subst (IsSameSeat s) (sym e) z.0)
  same_boards (s ∷ ss) (u ∷ ts) z t (inr h) = let r = same_boards ss ts z.1 t h in (r.0, inr r.1, r.2)

  same_numbers : (n : ℕ) (ss ts : List (Seat B L)) → AllZip IsSameSeat ss ts → sum_by (has_number n) ts ≡ sum_by (has_number n) ss
  same_numbers n [] [] z = refl
  same_numbers n [] (u ∷ ts) z = absurd z
  same_numbers n (s ∷ ss) [] z = absurd z
  same_numbers n (s ∷ ss) (u ∷ ts) z =
      let rest = same_numbers n ss ts z.1 in
      let own : has_number n u ≡ has_number n s = ap (λ (k : ℕ). if k == n then 1 else 0) z.0.number in
      omega (arith, rest, own, sum_by-cons (has_number n) s ss, sum_by-cons (has_number n) u ts)

  pub stay_all : (b : B) (ss ts : List (Seat B L)) → AllZip IsSameSeat ss ts → HoldsAllSeats b ss → HoldsAllSeats b ts
  stay_all b ss ts z all =
      let long = AllZip-long IsSameSeat ss ts z in
      record {
        some = let some = all.some in omega (arith, some, long);
        boards = λ t h. let (s, i, same) = same_boards ss ts z t h in same.board ∙ all.boards s i;
        numbers = λ n. same_numbers n ss ts z ∙ all.numbers n ∙ ap (below n) (omega (arith, long));
        counted = λ t h zeroth. let (s, i, same) = same_boards ss ts z t h in same.seats ∙ all.counted s i (sym same.number ∙ zeroth) ∙ omega (arith, long);
      }

  -- The seat that is last in order has the highest number.

  pub numbered_last : (b : B) (first : ℕ) (ss : List (Seat B L)) (s : Seat B L) → AreNumbered b first (ss ++ s ∷ []) → AreNumbered b first ss × (s.board ≡ b) × (s.number ≡ first + length ss)
  numbered_last b first [] s all = (tt, all.0, let is = all.1 in omega (arith, is))
  numbered_last b first (t ∷ ss) s all = let rest = numbered_last b (1 + first) ss s all.2 in ((all.0, all.1, rest.0), rest.1, let is = rest.2 in omega (arith, is))

  -- New seats.

  more_numbered : (nothing : L) (b : B) (first count : ℕ) → AreNumbered b first (more_seats nothing b first count)
  more_numbered nothing b first zero = tt
  more_numbered nothing b first (suc count) = (refl, refl, more_numbered nothing b (1 + first) count)

  more_many : (nothing : L) (b : B) (first count : ℕ) → length (more_seats nothing b first count) ≡ count
  more_many nothing b first zero = refl
  more_many nothing b first (suc count) = ap suc (more_many nothing b (1 + first) count)

  pub new_many : (nothing : L) (b : B) (count : ℕ) → length (new_seats nothing b count) ≡ count
  new_many nothing b zero = refl
  new_many nothing b (suc others) = ap suc (more_many nothing b 1 others)

  pub new_all : (nothing : L) (b : B) (count : ℕ) → 1 ≤ count → AreAllSeats b (new_seats nothing b count)
  new_all nothing b zero le = absurd (omega arith)
  new_all nothing b (suc others) le = (refl, refl, let many = more_many nothing b 1 others in omega (arith, many), more_numbered nothing b 1 others)

  -- one seat more
  pub more_last : (nothing : L) (b : B) (first count : ℕ) → more_seats nothing b first (count + 1) ≡ more_seats nothing b first count ++ new_seat nothing b (first + count) ∷ []
  more_last nothing b first zero = ap (λ n. new_seat nothing b n ∷ []) (let e : first ≡ first + 0 = omega arith in e)
  more_last nothing b first (suc count) = ap (more_seats nothing b first) (let e : suc count + 1 ≡ suc (count + 1) = omega arith in e)
      ∙ ap (λ ss. new_seat nothing b first ∷ ss) (more_last nothing b (1 + first) count ∙ ap (λ n. more_seats nothing b (1 + first) count ++ new_seat nothing b n ∷ []) (let e : 1 + first + count ≡ first + suc count = omega arith in e))

  new_empty : {X : Type 0} (g : L → List X) (nothing : L) → g nothing ≡ [] → (b : B) (first count : ℕ) → flat_map g (lists_of (more_seats nothing b first count)) ≡ []
  new_empty g nothing none b first zero = refl
  new_empty g nothing none b first (suc count) = ap (λ xs. xs ++ flat_map g (lists_of (more_seats nothing b (1 + first) count))) none ∙ new_empty g nothing none b (1 + first) count

  pub new_flat : {X : Type 0} (g : L → List X) (nothing : L) → g nothing ≡ [] → (b : B) (count : ℕ) → flat_map g (lists_of (new_seats nothing b count)) ≡ []
  new_flat g nothing none b zero = refl
  new_flat g nothing none b (suc others) = ap (λ xs. xs ++ flat_map g (lists_of (more_seats nothing b 1 others))) none ∙ new_empty g nothing none b 1 others

  -- What seats list together.

  pub of_all : {X : Type 0} (g : L → List X) (ss : List (Seat B L)) (s : Seat B L) (x : X) → Among s ss → Among x (g s.listed) → Among x (flat_map g (lists_of ss))
  of_all g [] s x h k = absurd h
  of_all g (r ∷ ss) s x h k = ⊎_elim (λ (e : s ≡ r). among_left x (g r.listed) (flat_map g (lists_of ss)) (subst (λ (t : Seat B L). Among x (g t.listed)) e k)) (λ t. among_right x (g r.listed) (flat_map g (lists_of ss)) (of_all g ss s x t k)) h

  pub of_one : {X : Type 0} (g : L → List X) (ss : List (Seat B L)) (x : X) → Among x (flat_map g (lists_of ss)) → (s : Seat B L) × Among s ss × Among x (g s.listed)
  of_one g [] x h = absurd h
  of_one g (r ∷ ss) x h = ⊎_elim (λ t. (r, inl refl, t)) (λ t. let u = of_one g ss x t in (u.0, inr u.1, u.2)) (among_either x (g r.listed) (flat_map g (lists_of ss)) h)

  -- seats in another order list the same

  pub among_moved_seats : {X : Type 0} (g : L → List X) (ss ts : List (Seat B L)) (x : X) → IsPermutation ss ts → Among x (flat_map g (lists_of ss)) → Among x (flat_map g (lists_of ts))
  among_moved_seats g ss ts x moved h = let (s, i, k) = of_one g ss x h in of_all g ts s x (among_permuted ss ts s moved i) k

  times_sum : (g : L → List (ℕ × ℕ)) (i : ℕ) (ss : List (Seat B L)) → times i (flat_map g (lists_of ss)) ≡ sum_by (λ (s : Seat B L). times i (g s.listed)) ss
  times_sum g i [] = refl
  times_sum g i (s ∷ ss) = let rest = times_sum g i ss in omega (arith, rest, times_append i (g s.listed) (flat_map g (lists_of ss)), sum_by-cons (λ (t : Seat B L). times i (g t.listed)) s ss)

  pub times_moved_seats : (g : L → List (ℕ × ℕ)) (i : ℕ) (ss ts : List (Seat B L)) → IsPermutation ss ts → times i (flat_map g (lists_of ts)) ≡ times i (flat_map g (lists_of ss))
  times_moved_seats g i ss ts moved = times_sum g i ts ∙ sum_by-IsPermutation (λ (s : Seat B L). times i (g s.listed)) ss ts moved ∙ sym (times_sum g i ss)

  -- the lists of the seat with the highest number go to before those of the seat 0
  pub listed_last : {followed_by : L → L → L} {all_listed : List L → L} → IsGathering followed_by all_listed → (ss : List (Seat B L)) (s : Seat B L) (m : L) → followed_by (all_listed (lists_of (ss ++ s ∷ []))) m ≡ followed_by (all_listed (lists_of ss)) (followed_by s.listed m)
  listed_last {followed_by = both} {all_listed = all} gathering ss s m = ap (λ ls. both (all ls) m) (map-append (λ (t : Seat B L). t.listed) ss (s ∷ [])) ∙ gathering.last (lists_of ss) s.listed m
