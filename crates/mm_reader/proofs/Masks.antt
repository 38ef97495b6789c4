-- Where digits end, read off a mask; and what lanes of digits stand for.
use Rattle.std.proofs.Common.{◌≡◌, ◌≢◌, ℕ, zero, suc, ◌+◌, ◌*◌, ◌-◌, ◌%◌, ◌/◌, ◌^◌, ◌<◌, ◌≤◌, Bool, true, false, not, ◌&&◌, leb, cond, List, [], ◌∷◌, length, map, take, drop, get_or, replicate, refl, sym, ap, ap₂, ◌∙◌, arith, leb-true, length-take-le, length-drop, length-append, w8, Fits, ◌++◌}
use Rattle.std.specs.List.{prefix_len}
use Rattle.std.specs.Char.{is_ascii_digit, digit_value}
use Rattle.std.specs.Str.{all_ascii_digits}
use Rattle.std.specs.Int.Digits.{number_from_digits}
use Rattle.std.proofs.lemmas.Int.Digits.{digits_value_is}
use Rattle.std.proofs.lemmas.Str.Parse.{digits_value_short, numerals_by_value, tells_all_ascii_digits}
use Rattle.std.proofs.lemmas.Bool.{leb-false, le-leb, lt-leb}
use Rattle.std.proofs.lemmas.List.{take-take, take-map, drop-map, drop-drop, length-map, length-replicate}
use Rattle.std.proofs.lemmas.List.Sums.{prefix_len-le-length}
use Rattle.std.proofs.lemmas.Nat.{shr-shr, shr_le, mod_below}
use Rattle.std.proofs.lemmas.Simd.{zip2_splat, zip2_splat_left, map-map, tops_compared, mask_l-mod, length-chunk, trailing_mask_l, chunk-fits}
use lib.Count.{count_trailing_zeros}
use lib.Lanes.{Each1, zip2, chunk, mask_l, top, number_l}
use Rattle.mm_defs.specs.Numbers.{value}
use Rattle.mm_defs.proofs.AnswerLemmas.{and_left, and_right}
use Rattle.mm_reader.specs.Plain.{between}
use Rattle.mm_reader.specs.Places.{is_no_digit, IsMask, IsShortNumber}
use Rattle.mm_defs.proofs.WordLemmas.{digit_at}
use Rattle.mm_reader.proofs.EightDigits.{number_moved, eight_small, zeros_in_front, each-zeros}

-- how far a byte is above the digit 0
abbrev pub above_zero : ℕ → ℕ
above_zero b = (b + 208) % 256

tests : (b : ℕ) (x y : Bool) → leb 48 b ≡ x → leb b 57 ≡ y → b < 256 → leb 10 ((b + 208) % 256) ≡ not (x && y)
tests b true true p q h =
    let low : 48 ≤ b = leb-true 48 b p in
    let high : b ≤ 57 = leb-true b 57 q in
    lt-leb 10 ((b + 208) % 256) (omega arith)
tests b true false p q h = let high : 57 < b = leb-false b 57 q in le-leb 10 ((b + 208) % 256) (omega arith)
tests b false y p q h = let low : b < 48 = leb-false 48 b p in le-leb 10 ((b + 208) % 256) (omega arith)

no_digit : (b : ℕ) → b < 256 → leb 10 (above_zero b) ≡ is_no_digit b
no_digit b h = tests b (leb 48 b) (leb b 57) refl refl h

no_digits : (xs : List ℕ) → Each1 (Fits w8) xs → map (λ b. leb 10 (above_zero b)) xs ≡ map is_no_digit xs
no_digits [] h = refl
no_digits (x ∷ xs) h = ap₂ (λ a b. a ∷ b) (no_digit x h.0.fits) (no_digits xs h.1)

-- the lanes of sixteen bytes, compared
pub compared : (bytes : List ℕ) (from : ℕ) → ((k : ℕ) → Fits w8 (get_or bytes k 0)) → from + 16 ≤ length bytes
    → mask_l (map (top 7) (zip2 (λ a b. cond (leb a b) 255 0) (replicate 16 10) (zip2 (λ a b. (a + (256 - b)) % 256) (chunk from 16 bytes) (replicate 16 48)))) % 2 ^ 64 ≡ mask_l (map is_no_digit (chunk from 16 bytes))
compared bytes from fits room =
    let v : List ℕ = chunk from 16 bytes in
    let long : length v ≡ 16 = length-chunk from 16 bytes room in
    let lanes : zip2 (λ a b. (a + (256 - b)) % 256) v (replicate 16 48) ≡ map above_zero v = zip2_splat (λ a b. (a + (256 - b)) % 256) v 16 48 long in
    let long_too : length (map above_zero v) ≡ 16 = length-map v above_zero ∙ long in
    let tops : map (top 7) (zip2 (λ a b. cond (leb a b) 255 0) (replicate 16 10) (map above_zero v)) ≡ map is_no_digit v =
    tops_compared w8 leb (replicate 16 10) (map above_zero v) ∙ zip2_splat_left leb 10 16 (map above_zero v) long_too ∙ map-map (leb 10) above_zero v ∙ no_digits v (chunk-fits w8 from 16 bytes fits) in
    ap (λ (t : List ℕ). mask_l (map (top 7) (zip2 (λ a b. cond (leb a b) 255 0) (replicate 16 10) t)) % 2 ^ 64) lanes
    ∙ ap (λ (t : List Bool). mask_l t % 2 ^ 64) tops ∙ mask_l-mod (map is_no_digit v) 64 (omega (arith, length-map v is_no_digit))

-- ---- what is left of a mask

half : (m : Bool) (n : ℕ) → (cond m 1 0 + 2 * n) / 2 ≡ n
half true n = omega arith
half false n = omega arith

mask_l-drop : (ms : List Bool) (i : ℕ) → mask_l ms / 2 ^ i ≡ mask_l (drop i ms)
mask_l-drop ms zero = omega arith
mask_l-drop [] (suc i) = let e = shr_le 0 (suc i) in omega arith
mask_l-drop (m ∷ ms) (suc i) =
    let e : suc i ≡ 1 + i = omega arith in
    ap (λ n. mask_l (m ∷ ms) / 2 ^ n) e ∙ sym (shr-shr (mask_l (m ∷ ms)) 1 i) ∙ ap (λ n. n / 2 ^ i) (half m (mask_l ms)) ∙ mask_l-drop ms i

none-take : (n : ℕ) → take {A = ℕ} n [] ≡ []
none-take zero = refl
none-take (suc n) = refl

drop-of_take : (i n : ℕ) (xs : List ℕ) → drop i (take n xs) ≡ take (n - i) (drop i xs)
drop-of_take zero n xs = let e : n ≡ n - 0 = omega arith in ap (λ k. take k xs) e
drop-of_take (suc i) zero xs = let e : 0 ≡ 0 - suc i = omega arith in ap (λ k. take k (drop (suc i) xs)) e
drop-of_take (suc i) (suc n) [] = sym (none-take (suc n - suc i))
drop-of_take (suc i) (suc n) (x ∷ xs) = let e : n - i ≡ suc n - suc i = omega arith in drop-of_take i n xs ∙ ap (λ k. take k (drop i xs)) e

chunk-drop : (bytes : List ℕ) (from n i : ℕ) → drop i (chunk from n bytes) ≡ chunk (from + i) (n - i) bytes
chunk-drop bytes from n i = drop-of_take i n (drop from bytes) ∙ ap (take (n - i)) (drop-drop i from bytes)

pub mask_left : (bytes : List ℕ) (from mask places : ℕ) → IsMask bytes from mask → from + places ≤ length bytes → IsMask bytes (from + places) (mask / 2 ^ places)
mask_left bytes from mask places m room = record {
  count = m.count - places;
  few = omega (arith, m.few);
  within = omega (arith, m.within);
  mask_is = ap (λ n. n / 2 ^ places) m.mask_is ∙ mask_l-drop (map is_no_digit (chunk from m.count bytes)) places
      ∙ ap mask_l (drop-map is_no_digit places (chunk from m.count bytes) ∙ ap (map is_no_digit) (chunk-drop bytes from m.count places));
}

-- ---- the digits in front of the first bit

one_more : (x : ℕ) (xs : List ℕ) (e : Bool) → is_ascii_digit x ≡ e → all_ascii_digits (take (prefix_len (λ y. not (is_no_digit y)) xs) xs) ≡ true
    → all_ascii_digits (take (prefix_len (λ y. not (is_no_digit y)) (x ∷ xs)) (x ∷ xs)) ≡ true
one_more x xs true e h =
    let n : ℕ = prefix_len (λ y. not (is_no_digit y)) xs in
    let next : 1 + n ≡ suc n = omega arith in
    let k : cond (not (is_no_digit x)) (1 + n) 0 ≡ suc n = ap (λ b. cond (not (not b)) (1 + n) 0) e ∙ next in
    ap (λ i. all_ascii_digits (take i (x ∷ xs))) k ∙ ap (λ b. b && all_ascii_digits (take n xs)) e ∙ h
one_more x xs false e h =
    let n : ℕ = prefix_len (λ y. not (is_no_digit y)) xs in
    let k : cond (not (is_no_digit x)) (1 + n) 0 ≡ 0 = ap (λ b. cond (not (not b)) (1 + n) 0) e in
    ap (λ i. all_ascii_digits (take i (x ∷ xs))) k

digits_in_front : (xs : List ℕ) → all_ascii_digits (take (prefix_len (λ x. not (is_no_digit x)) xs) xs) ≡ true
digits_in_front [] = refl
digits_in_front (x ∷ xs) = one_more x xs (is_ascii_digit x) refl (digits_in_front xs)

between_long : (bytes : List ℕ) (from n : ℕ) → between bytes from (from + n) ≡ take n (drop from bytes)
between_long bytes from n = let e : (from + n) - from ≡ n = omega arith in ap (λ i. take i (drop from bytes)) e

pub mask_digits : (bytes : List ℕ) (from mask : ℕ) → IsMask bytes from mask → mask ≢ 0
    → (all_ascii_digits (between bytes from (from + count_trailing_zeros 64 mask)) ≡ true) × (from + count_trailing_zeros 64 mask ≤ length bytes)
mask_digits bytes from mask m some =
    let v : List ℕ = chunk from m.count bytes in
    let n : ℕ = prefix_len (λ x. not (is_no_digit x)) v in
    let long : length v ≡ m.count = length-chunk from m.count bytes m.within in
    let set : 0 < mask_l (map is_no_digit v) = omega (arith, m.mask_is) in
    let k : count_trailing_zeros 64 mask ≡ n = ap (count_trailing_zeros 64) m.mask_is ∙ trailing_mask_l is_no_digit 64 v (omega (arith, m.few)) set in
    let bound = prefix_len-le-length (λ x. not (is_no_digit x)) v in
    let whole : between bytes from (from + n) ≡ take n v = between_long bytes from n ∙ sym (take-take n m.count (drop from bytes) (omega arith)) in
    (ap (λ i. all_ascii_digits (between bytes from (from + i))) k ∙ ap all_ascii_digits whole ∙ digits_in_front v, omega (arith, m.within))

pub short_found : (bytes : List ℕ) (from k n : ℕ) → all_ascii_digits (between bytes from (from + k)) ≡ true → n ≡ value (between bytes from (from + k)) → 0 < k → k ≤ 8 → from + k ≤ length bytes
    → IsShortNumber bytes from (from + k) n
short_found bytes from k n all e some few within =
    let room = length-drop from bytes in
    let l : length (between bytes from (from + k)) ≡ k = ap length (between_long bytes from k) ∙ length-take-le k (drop from bytes) (omega arith) in
    let v : value (between bytes from (from + k)) < 10 ^ 8 = digits_value_short (numerals_by_value (λ (ds : List ℕ). all_ascii_digits ds ≡ true) tells_all_ascii_digits) (between bytes from (from + k)) 8 all (omega arith) in
    record {
      digits = record { in_order = omega arith; within = within; all = all; value_is = e; small = omega arith };
      some = omega arith;
      few = omega arith;
    }

-- ---- the lanes of eight bytes, the digits moved up

each-above : (ys : List ℕ) → all_ascii_digits ys ≡ true → Each1 (λ d. d ≤ 9) (map above_zero ys)
each-above [] h = tt
each-above (y ∷ ys) h =
    let d : is_ascii_digit y ≡ true = and_left (is_ascii_digit y) (all_ascii_digits ys) h in
    let low : 48 ≤ y = leb-true 48 y (and_left (leb 48 y) (leb y 57) d) in
    let high : y ≤ 57 = leb-true y 57 (and_right (leb 48 y) (leb y 57) d) in
    (omega arith, each-above ys (and_right (is_ascii_digit y) (all_ascii_digits ys) h))

value-above : (ys : List ℕ) → all_ascii_digits ys ≡ true → map above_zero ys ≡ map digit_value ys
value-above [] h = refl
value-above (y ∷ ys) h =
    let d : is_ascii_digit y ≡ true = and_left (is_ascii_digit y) (all_ascii_digits ys) h in
    let low : 48 ≤ y = leb-true 48 y (and_left (leb 48 y) (leb y 57) d) in
    let high : y ≤ 57 = leb-true y 57 (and_right (leb 48 y) (leb y 57) d) in
    let v = digit_at y d in
    let e : (y + 208) % 256 ≡ digit_value y = omega arith in
    ap₂ (λ a b. a ∷ b) e (value-above ys (and_right (is_ascii_digit y) (all_ascii_digits ys) h))

each-byte : (xs : List ℕ) → Each1 (λ x. x < 256) (map above_zero xs)
each-byte [] = tt
each-byte (x ∷ xs) = (mod_below (x + 208) 256 (omega arith), each-byte xs)

-- the digits, behind as many zeros as make them eight
abbrev pub eight_here : List ℕ → ℕ → ℕ → List ℕ
eight_here bytes from count = replicate (8 - count) 0 ++ map above_zero (between bytes from (from + count))

abbrev pub word_here : List ℕ → ℕ → ℕ → ℕ
word_here bytes from count = number_l 256 (zip2 (λ a b. (a + (256 - b)) % 256) (chunk from 8 bytes) (replicate 8 48)) % 18446744073709551616 * 2 ^ (64 - 8 * count) % 18446744073709551616

module _ (bytes : List ℕ) (from count : ℕ) (room : from + 8 ≤ length bytes) (few : count ≤ 8) (digits : all_ascii_digits (between bytes from (from + count)) ≡ true) where
  pub word_is : word_here bytes from count ≡ number_l 256 (eight_here bytes from count)
  word_is =
      let v : List ℕ = chunk from 8 bytes in
      let long : length v ≡ 8 = length-chunk from 8 bytes room in
      let lanes : zip2 (λ a b. (a + (256 - b)) % 256) v (replicate 8 48) ≡ map above_zero v = zip2_splat (λ a b. (a + (256 - b)) % 256) v 8 48 long in
      let prefix : take count (map above_zero v) ≡ map above_zero (between bytes from (from + count)) =
      take-map above_zero count v ∙ ap (map above_zero) (take-take count 8 (drop from bytes) few ∙ sym (between_long bytes from count)) in
      ap (λ (t : List ℕ). number_l 256 t % 18446744073709551616 * 2 ^ (64 - 8 * count) % 18446744073709551616) lanes
      ∙ number_moved (map above_zero v) count (length-map v above_zero ∙ long) (each-byte v) few
      ∙ ap (λ (t : List ℕ). number_l 256 (replicate (8 - count) 0 ++ t)) prefix

  pub eight_long : length (eight_here bytes from count) ≡ 8
  eight_long =
      let all = length-drop from bytes in
      let k : length (between bytes from (from + count)) ≡ count = ap length (between_long bytes from count) ∙ length-take-le count (drop from bytes) (omega arith) in
      let m : length (map above_zero (between bytes from (from + count))) ≡ count = length-map (between bytes from (from + count)) above_zero ∙ k in
      let z : length (replicate {A = ℕ} (8 - count) 0) ≡ 8 - count = length-replicate (8 - count) 0 in
      length-append (replicate (8 - count) 0) (map above_zero (between bytes from (from + count))) ∙ ap₂ (λ a b. a + b) z m ∙ omega arith

  pub each_eight : Each1 (λ d. d ≤ 9) (eight_here bytes from count)
  each_eight = each-zeros (8 - count) (map above_zero (between bytes from (from + count))) (each-above (between bytes from (from + count)) digits)

  pub word_small : word_here bytes from count < 2 ^ 60
  word_small = let s = eight_small (eight_here bytes from count) eight_long each_eight in omega (arith, word_is)

  pub eight_value : number_from_digits 10 (eight_here bytes from count) ≡ value (between bytes from (from + count))
  eight_value =
      zeros_in_front (8 - count) (map above_zero (between bytes from (from + count))) ∙ ap (number_from_digits 10) (value-above (between bytes from (from + count)) digits)
      ∙ sym (digits_value_is 10 (between bytes from (from + count)))
