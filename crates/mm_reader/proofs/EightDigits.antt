-- Digits that lie in one number, the first in its lowest field: neighbours are joined until one field is left.
use Rattle.std.proofs.Common.{◌≡◌, ℕ, zero, suc, ◌+◌, ◌*◌, ◌-◌, ◌/◌, ◌%◌, ◌^◌, ◌<◌, ◌≤◌, List, [], ◌∷◌, ◌++◌, length, take, drop, replicate, refl, sym, subst, ap, ap₂, ◌∙◌, arith, take-append-drop, length-take-le}
use Rattle.std.specs.Int.Digits.{number_from_digits}
use Rattle.std.proofs.lemmas.List.{length-replicate}
use Rattle.std.proofs.lemmas.Nat.{pow_pos, pow-add, and_mask, and_block, and_le_r, shr_split, shr_high, mod_low, mul-le, mul-add-lt, mul-mod_first, shl_below}
use lib.Bits.{bit_and}
use lib.Lanes.{Each1, number_l}

-- of two digits each, one in the base's square
abbrev pub pairs : ℕ → List ℕ → List ℕ
pairs m [] = []
pairs m (a ∷ []) = []
pairs m (a ∷ b ∷ xs) = (a * m + b) ∷ pairs m xs

module _ (k m c : ℕ) (fits : c * m + c < 2 ^ k) where
  first_small : (xs : List ℕ) → Each1 (λ x. x ≤ c) xs → number_l (2 ^ k) xs % 2 ^ k ≤ c
  first_small [] h =
      let z : 0 ≡ 0 * 2 ^ k + 0 = omega arith in
      let e : 0 % 2 ^ k ≡ 0 = ap (λ n. n % 2 ^ k) z ∙ mod_low 0 k 0 (pow_pos k) in
      omega arith
  first_small (x ∷ xs) h =
      let low : x < 2 ^ k = omega (arith, h.0) in
      let turned : x + 2 ^ k * number_l (2 ^ k) xs ≡ number_l (2 ^ k) xs * 2 ^ k + x = omega arith in
      let e : (x + 2 ^ k * number_l (2 ^ k) xs) % 2 ^ k ≡ x = ap (λ n. n % 2 ^ k) turned ∙ mod_low (number_l (2 ^ k) xs) k x low in
      omega (arith, e, h.0)

  apart : (a b q r : ℕ) → (a + 2 ^ k * (b + 2 ^ k * (q * 2 ^ k + r))) * m + (b + 2 ^ k * (q * 2 ^ k + r)) ≡ ((q * 2 ^ k + r) * m + q) * (2 ^ k * 2 ^ k) + ((b * m + r) * 2 ^ k + (a * m + b))
  apart a b q r = omega arith

  -- each pair fills its fields, and the mask keeps the lower one
  pub pairs_joined : (n : ℕ) (xs : List ℕ) → length xs ≡ n + n → Each1 (λ x. x ≤ c) xs
      → bit_and (number_l (2 ^ k) xs * m + number_l (2 ^ k) xs / 2 ^ k) (number_l (2 ^ (k + k)) (replicate n (2 ^ k - 1))) ≡ number_l (2 ^ (k + k)) (pairs m xs)
  pairs_joined zero [] e h = let z = and_le_r (0 * m + 0 / 2 ^ k) 0 in omega arith
  pairs_joined zero (x ∷ xs) e h = absurd (omega arith)
  pairs_joined (suc n) [] e h = absurd (omega arith)
  pairs_joined (suc n) (a ∷ []) e h = absurd (omega arith)
  pairs_joined (suc n) (a ∷ b ∷ xs) e h =
      let v : ℕ = number_l (2 ^ k) xs in
      let q : ℕ = v / 2 ^ k in
      let r : ℕ = v % 2 ^ k in
      let rest : ℕ = number_l (2 ^ (k + k)) (replicate n (2 ^ k - 1)) in
      let low : ℕ = (b * m + r) * 2 ^ k + (a * m + b) in
      let wide : 2 ^ (k + k) ≡ 2 ^ k * 2 ^ k = pow-add 2 k k in
      let pos = pow_pos k in
      let small_r : r ≤ c = first_small xs h.1.1 in
      let small_a : a < 2 ^ k = omega (arith, h.0) in
      let small_am : a * m ≤ c * m = mul-le a m c m h.0 (omega arith) in
      let small_bm : b * m ≤ c * m = mul-le b m c m h.1.0 (omega arith) in
      let lower : a * m + b < 2 ^ k = omega (arith, h.1.0) in
      let upper : b * m + r < 2 ^ k = omega arith in
      let low_fits : low < 2 ^ k * 2 ^ k = mul-add-lt (b * m + r) (2 ^ k) (a * m + b) (2 ^ k) upper lower in
      let mask_fits : 0 * 2 ^ k + (2 ^ k - 1) < 2 ^ k * 2 ^ k = mul-add-lt 0 (2 ^ k) (2 ^ k - 1) (2 ^ k) (omega arith) (omega arith) in
      let turned : a + 2 ^ k * (b + 2 ^ k * v) ≡ (b + 2 ^ k * v) * 2 ^ k + a = omega arith in
      let shifted : (a + 2 ^ k * (b + 2 ^ k * v)) / 2 ^ k ≡ b + 2 ^ k * v = ap (λ n. n / 2 ^ k) turned ∙ shr_high (b + 2 ^ k * v) k a small_a in
      let sum : (a + 2 ^ k * (b + 2 ^ k * v)) * m + (b + 2 ^ k * v) ≡ (v * m + q) * (2 ^ k * 2 ^ k) + low =
      subst (λ n. (a + 2 ^ k * (b + 2 ^ k * n)) * m + (b + 2 ^ k * n) ≡ (n * m + q) * (2 ^ k * 2 ^ k) + low) (shr_split v k) (apart a b q r) in
      let left : (a + 2 ^ k * (b + 2 ^ k * v)) * m + (a + 2 ^ k * (b + 2 ^ k * v)) / 2 ^ k ≡ (v * m + q) * 2 ^ (k + k) + low =
      ap (λ n. (a + 2 ^ k * (b + 2 ^ k * v)) * m + n) shifted ∙ sum ∙ ap (λ n. (v * m + q) * n + low) (sym wide) in
      let right : (2 ^ k - 1) + 2 ^ (k + k) * rest ≡ rest * 2 ^ (k + k) + (2 ^ k - 1) = omega arith in
      let block = and_block (k + k) (v * m + q) rest low (2 ^ k - 1) (omega arith) (omega arith) in
      let kept : bit_and low (2 ^ k - 1) ≡ a * m + b = and_mask low k ∙ mod_low (b * m + r) k (a * m + b) lower in
      let more = pairs_joined n xs (omega arith) h.1.1 in
      let last : number_l (2 ^ (k + k)) (pairs m xs) * 2 ^ (k + k) + (a * m + b) ≡ (a * m + b) + 2 ^ (k + k) * number_l (2 ^ (k + k)) (pairs m xs) = omega arith in
      ap₂ bit_and left right ∙ block ∙ ap₂ (λ x y. x * 2 ^ (k + k) + y) more kept ∙ last

abbrev pub twos : ℕ → ℕ
twos w = bit_and (w * 10 + w / 256) 71777214294589695

abbrev pub fours : ℕ → ℕ
fours w = bit_and (w * 100 + w / 65536) 281470681808895

abbrev pub eights : ℕ → ℕ
eights w = bit_and (w * 10000 + w / 4294967296) 4294967295

pub eight_joined : (word : ℕ) (ds : List ℕ) → length ds ≡ 8 → Each1 (λ d. d ≤ 9) ds → word ≡ number_l 256 ds → eights (fours (twos word)) ≡ number_from_digits 10 ds
eight_joined word (d0 ∷ d1 ∷ d2 ∷ d3 ∷ d4 ∷ d5 ∷ d6 ∷ d7 ∷ []) e (h0, (h1, (h2, (h3, (h4, (h5, (h6, (h7, h8)))))))) w =
    let ds : List ℕ = d0 ∷ d1 ∷ d2 ∷ d3 ∷ d4 ∷ d5 ∷ d6 ∷ d7 ∷ [] in
    let by_twos : List ℕ = pairs 10 ds in
    let by_fours : List ℕ = pairs 100 by_twos in
    let a : twos word ≡ number_l 65536 by_twos = ap twos w ∙ pairs_joined 8 10 9 (omega arith) 4 ds refl (h0, (h1, (h2, (h3, (h4, (h5, (h6, (h7, h8)))))))) in
    let b : fours (twos word) ≡ number_l 4294967296 by_fours = ap fours a ∙ pairs_joined 16 100 99 (omega arith) 2 by_twos refl (omega arith, (omega arith, (omega arith, (omega arith, tt)))) in
    let c : eights (fours (twos word)) ≡ number_l 18446744073709551616 (pairs 10000 by_fours) = ap eights b ∙ pairs_joined 32 10000 9999 (omega arith) 1 by_fours refl (omega arith, (omega arith, tt)) in
    c ∙ omega arith
eight_joined word ds e h w = absurd (omega arith)

-- ---- the digits of a number that is moved up

number-append : (xs ys : List ℕ) → number_l 256 (xs ++ ys) ≡ number_l 256 xs + 2 ^ (8 * length xs) * number_l 256 ys
number-append [] ys = omega arith
number-append (x ∷ xs) ys =
    let more = number-append xs ys in
    let e : 8 * suc (length xs) ≡ 8 + 8 * length xs = omega arith in
    let p : 2 ^ (8 * suc (length xs)) ≡ 256 * 2 ^ (8 * length xs) = ap (λ n. 2 ^ n) e ∙ pow-add 2 8 (8 * length xs) in
    let t : x + 256 * (number_l 256 xs + 2 ^ (8 * length xs) * number_l 256 ys) ≡ (x + 256 * number_l 256 xs) + (256 * 2 ^ (8 * length xs)) * number_l 256 ys = omega arith in
    ap (λ n. x + 256 * n) more ∙ t ∙ ap (λ n. (x + 256 * number_l 256 xs) + n * number_l 256 ys) (sym p)

number_zeros : (n : ℕ) → number_l 256 (replicate n 0) ≡ 0
number_zeros zero = refl
number_zeros (suc n) = let e = number_zeros n in omega arith

number_fits : (xs : List ℕ) → Each1 (λ x. x < 256) xs → number_l 256 xs < 2 ^ (8 * length xs)
number_fits [] h = omega arith
number_fits (x ∷ xs) h =
    let more = number_fits xs h.1 in
    let e : 8 * suc (length xs) ≡ 8 + 8 * length xs = omega arith in
    let p : 2 ^ (8 * suc (length xs)) ≡ 256 * 2 ^ (8 * length xs) = ap (λ n. 2 ^ n) e ∙ pow-add 2 8 (8 * length xs) in
    omega (arith, h.0)

each-take : (c : ℕ) (n : ℕ) (xs : List ℕ) → Each1 (λ x. x < c) xs → Each1 (λ x. x < c) (take n xs)
each-take c zero xs h = tt
each-take c (suc n) [] h = tt
each-take c (suc n) (x ∷ xs) h = (h.0, each-take c n xs h.1)

-- what is moved out at the top is gone, and zeros come in below
pub number_moved : (ds : List ℕ) (k : ℕ) → length ds ≡ 8 → Each1 (λ x. x < 256) ds → k ≤ 8
    → number_l 256 ds % 18446744073709551616 * 2 ^ (64 - 8 * k) % 18446744073709551616 ≡ number_l 256 (replicate (8 - k) 0 ++ take k ds)
number_moved ds k long bytes few =
    let s : ℕ = 64 - 8 * k in
    let t : ℕ = number_l 256 (take k ds) in
    let r : ℕ = number_l 256 (drop k ds) in
    let lt : length (take k ds) ≡ k = length-take-le k ds (omega arith) in
    let zeros_long : length (replicate {A = ℕ} (8 - k) 0) ≡ 8 - k = length-replicate (8 - k) 0 in
    let eight : 8 * k + s ≡ 64 = omega arith in
    let above : 8 * (8 - k) ≡ s = omega arith in
    let split : number_l 256 ds ≡ t + 2 ^ (8 * k) * r = ap (number_l 256) (sym (take-append-drop k ds)) ∙ number-append (take k ds) (drop k ds) ∙ ap (λ n. t + 2 ^ (8 * n) * r) lt in
    let whole : 2 ^ (8 * k) * 2 ^ s ≡ 18446744073709551616 = sym (pow-add 2 (8 * k) s) ∙ ap (λ n. 2 ^ n) eight in
    let t_fits : t < 2 ^ (8 * k) = subst (λ n. t < 2 ^ (8 * n)) lt (number_fits (take k ds) (each-take 256 k ds bytes)) in
    let up : t * 2 ^ s < 2 ^ (8 * k + s) = shl_below t (8 * k) s t_fits in
    let fits : t * 2 ^ s < 2 ^ 64 = subst (λ n. t * 2 ^ s < 2 ^ n) eight up in
    let product : (t + 2 ^ (8 * k) * r) * 2 ^ s ≡ r * (2 ^ (8 * k) * 2 ^ s) + t * 2 ^ s = omega arith in
    let e : number_l 256 ds * 2 ^ s ≡ r * 2 ^ 64 + t * 2 ^ s = ap (λ n. n * 2 ^ s) split ∙ product ∙ ap (λ n. r * n + t * 2 ^ s) whole in
    let below : number_l 256 (replicate (8 - k) 0 ++ take k ds) ≡ 0 + 2 ^ s * t =
    number-append (replicate (8 - k) 0) (take k ds) ∙ ap₂ (λ a n. a + 2 ^ n * t) (number_zeros (8 - k)) (ap (λ n. 8 * n) zeros_long ∙ above) in
    let turned : t * 2 ^ s ≡ 0 + 2 ^ s * t = omega arith in
    mul-mod_first (number_l 256 ds) (2 ^ s) 18446744073709551616 ∙ ap (λ n. n % 18446744073709551616) e ∙ mod_low r 64 (t * 2 ^ s) fits ∙ turned ∙ sym below

pub eight_small : (ds : List ℕ) → length ds ≡ 8 → Each1 (λ d. d ≤ 9) ds → number_l 256 ds < 2 ^ 60
eight_small (d0 ∷ d1 ∷ d2 ∷ d3 ∷ d4 ∷ d5 ∷ d6 ∷ d7 ∷ []) e (h0, (h1, (h2, (h3, (h4, (h5, (h6, (h7, h8)))))))) = omega arith
eight_small ds e h = absurd (omega arith)

-- zeros in front stand for nothing
pub zeros_in_front : (n : ℕ) (ds : List ℕ) → number_from_digits 10 (replicate n 0 ++ ds) ≡ number_from_digits 10 ds
zeros_in_front zero ds = refl
zeros_in_front (suc n) ds = zeros_in_front n ds

pub each-zeros : (n : ℕ) (ds : List ℕ) → Each1 (λ d. d ≤ 9) ds → Each1 (λ d. d ≤ 9) (replicate n 0 ++ ds)
each-zeros zero ds h = h
each-zeros (suc n) ds h = (omega arith, each-zeros n ds h)
