-- A search by halves in a list that rises.
use Rattle.std.proofs.Common.{◌≡◌, ◌∙◌, ◌<◌, ◌≤◌, ◌+◌, ◌-◌, ◌*◌, ◌/◌, ℕ, zero, suc, Bool, true, false, List, [], ◌∷◌, length, get_or, min, nat_lt, arith, refl, subst, ltb-true, ltb-false}
use Rattle.std.proofs.lemmas.List.{get_or_default}
use Rattle.bip_defs.specs.Lists.{Among, IsRising}
use Rattle.bip_defs.proofs.Sets.{place_among, rising_order}

-- a number that is one of the list stands at this place or at one of so many from it on
pub record IsSearched (xs : List ℕ) (x first len : ℕ) : Type 0 where
  pub within : first + len ≤ length xs
  pub some : 0 < length xs → 0 < len
  pub from : Among x xs → get_or xs first 0 ≤ x
  pub to : first + len < length xs → x < get_or xs (first + len) 0

-- numbers of a rising list are as far apart as their places at least
rising_apart : (xs : List ℕ) → IsRising xs → (i j : ℕ) → i ≤ j → j < length xs → get_or xs i 0 + j ≤ get_or xs j 0 + i
rising_apart [] a i j le lt = absurd (omega arith)
rising_apart (x ∷ xs) a zero zero le lt = omega arith
rising_apart (x ∷ []) a zero (suc j) le lt = absurd (omega (arith, lt))
rising_apart (x ∷ y ∷ ys) a zero (suc j) le lt = let b = rising_apart (y ∷ ys) a.1 0 j (omega arith) (omega (arith, lt)) in let c = a.0.0 in omega (arith, b, c)
rising_apart (x ∷ xs) a (suc i) zero le lt = absurd (omega arith)
rising_apart (x ∷ xs) a (suc i) (suc j) le lt = let b = rising_apart xs a.1 i j (omega (arith, le)) (omega (arith, lt)) in omega (arith, b)

-- from the least of a rising list to its greatest there is room for all
pub spread : (xs : List ℕ) (last least greatest : ℕ) → IsRising xs → length xs ≡ suc last → least ≡ get_or xs 0 least → greatest ≡ get_or xs last greatest → least + last ≤ greatest
spread xs last least greatest rising long is_least is_greatest =
    let first_is = get_or_default xs 0 least 0 (omega (arith, long)) in
    let last_is = get_or_default xs last greatest 0 (omega (arith, long)) in
    let far = rising_apart xs rising 0 last (omega arith) (omega (arith, long)) in
    omega (arith, far, is_least, is_greatest, first_is, last_is)

-- a number of a rising list has all numbers from the least on before it but those that are missing there, which are no more than are missing in all
pub searched_places : (xs : List ℕ) (x last least greatest before first end : ℕ) → IsRising xs → length xs ≡ suc last → least ≡ get_or xs 0 least → greatest ≡ get_or xs last greatest
    → before ≡ x - least → first ≡ min (before - (greatest - least - last)) last → end ≡ min before last → IsSearched xs x first (end - first + 1)
searched_places xs x last least greatest before first end rising long is_least is_greatest is_before is_first is_end = record {
  within = omega (arith, long, is_first, is_end);
  some = λ h. omega arith;
  from = from;
  to = to;
}
  where
    least_is : least ≡ get_or xs 0 0
    least_is = is_least ∙ get_or_default xs 0 least 0 (omega (arith, long))

    greatest_is : greatest ≡ get_or xs last 0
    greatest_is = is_greatest ∙ get_or_default xs last greatest 0 (omega (arith, long))

    from : Among x xs → get_or xs first 0 ≤ x
    from h =
        let (k, lt, e) = place_among x 0 xs h in
        let least_first = rising_order xs rising 0 k (omega arith) lt in
        let far = rising_apart xs rising k last (omega (arith, lt, long)) (omega (arith, long)) in
        let le = rising_order xs rising first k (omega (arith, least_first, e, far, least_is, greatest_is, is_before, is_first)) lt in
        omega (arith, le, e)

    to : first + (end - first + 1) < length xs → x < get_or xs (first + (end - first + 1)) 0
    to lt =
        let far = rising_apart xs rising 0 (first + (end - first + 1)) (omega arith) lt in
        omega (arith, lt, far, long, least_is, is_before, is_first, is_end)

-- whether one number is at most another, as a factor
factor_one : (x y : ℕ) → x < 4294967296 → y ≤ x → (4294967296 + x - y) / 4294967296 ≡ 1
factor_one x y lt le = omega (arith, lt, le)

factor_none : (x y : ℕ) → y < 4294967296 → x < y → (4294967296 + x - y) / 4294967296 ≡ 0
factor_none x y lt less = omega (arith, lt, less)

stays : (xs : List ℕ) (x first len half : ℕ) → IsRising xs → IsSearched xs x first len → half + half ≤ len → 0 < half → x < get_or xs (first + half) 0 → IsSearched xs x first (len - half)
stays xs x first len half rising s twice some less = record {
  within = let w = s.within in omega (arith, w);
  some = λ h. omega (arith, twice, some);
  from = s.from;
  to = λ lt. let le = rising_order xs rising (first + half) (first + (len - half)) (omega (arith, twice)) lt in omega (arith, le, less);
}

moves : (xs : List ℕ) (x first len half : ℕ) → IsSearched xs x first len → half + half ≤ len → 0 < half → get_or xs (first + half) 0 ≤ x → IsSearched xs x (first + half) (len - half)
moves xs x first len half s twice some le =
    let same : first + half + (len - half) ≡ first + len = omega (arith, twice) in
    record {
      within = let w = s.within in omega (arith, w, same);
      some = λ h. omega (arith, twice, some);
      from = λ h. le;
      to = λ lt. rw same (s.to (omega (arith, lt, same)));
    }

pub searched_half : (xs : List ℕ) (x y first len : ℕ) → IsRising xs → IsSearched xs x first len → 1 < len → x < 4294967296 → y < 4294967296 → y ≡ get_or xs (first + len / 2) 0
    → IsSearched xs x (first + len / 2 * ((4294967296 + x - y) / 4294967296)) (len - len / 2)
searched_half xs x y first len rising s more x_fits y_fits is = by (nat_lt x y) refl
  where
    twice : len / 2 + len / 2 ≤ len
    twice = omega arith

    some : 0 < len / 2
    some = omega (arith, more)

    by : (b : Bool) → nat_lt x y ≡ b → IsSearched xs x (first + len / 2 * ((4294967296 + x - y) / 4294967296)) (len - len / 2)
    by false e = rw (factor_one x y x_fits (ltb-false x y e)) (subst (λ f. IsSearched xs x f (len - len / 2)) (omega arith) (moves xs x first len (len / 2) s twice some (let le = ltb-false x y e in omega (arith, is, le))))
    by true e = rw (factor_none x y y_fits (ltb-true x y e)) (subst (λ f. IsSearched xs x f (len - len / 2)) (omega arith) (stays xs x first len (len / 2) rising s twice some (let less = ltb-true x y e in omega (arith, is, less))))

-- what is left of the list in the end tells whether the number is one of it
pub searched_one : (xs : List ℕ) (x first len : ℕ) → IsRising xs → IsSearched xs x first len → len ≡ 1 → Among x xs → get_or xs first 0 ≡ x
searched_one xs x first len rising s one h =
    let (k, lt, e) = place_among x 0 xs h in
    let from = s.from h in
    by k lt e from (nat_lt first k) refl
  where
    by : (k : ℕ) → k < length xs → get_or xs k 0 ≡ x → get_or xs first 0 ≤ x → (b : Bool) → nat_lt first k ≡ b → get_or xs first 0 ≡ x
    by k lt e from false f = let w = s.within in let le = ltb-false first k f in let up = rising_order xs rising k first le (omega (arith, w, one)) in omega (arith, up, from, e)
    by k lt e from true f =
        let less = ltb-true first k f in
        let above = s.to (omega (arith, less, lt, one)) in
        let up = rising_order xs rising (first + len) k (omega (arith, less, one)) lt in
        absurd (omega (arith, above, up, e))
