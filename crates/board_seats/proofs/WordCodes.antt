-- Words as numbers, and what they hold.
use Rattle.std.proofs.Common.{◌≡◌, ◌∙◌, ℕ, ◌+◌, ◌-◌, ◌<◌, ◌≤◌, List, Option, None, map, take, drop, set, length, get_or, sym, ap, subst, arith, add_assoc}
use Rattle.std.proofs.lemmas.List.{drop-set-add, drop-set-lt, take-set-le, length-map, length-take, length-drop, map-set, get_or-map, get_or-take, get_or-drop}
use Rattle.std.proofs.lemmas.Grind.{get_or_after_one}
use Rattle.std.proofs.Math.Seq.{take-set-lt}
use Rattle.bip_defs.specs.WordValues.{held, value_of}
use Rattle.board_seats.specs.WordCodes.{firsts_in, rest_in}

-- Of the first kind: which words there are, what they hold, and what they hold after a write.

module _ (n : ℕ) (ws : List ℕ) where
  pub first_below : (i : ℕ) → i < length (firsts_in n ws) → (i < n) × (1 + i < length ws)
  first_below i lt =
      let a = length-map (take n (drop 1 ws)) value_of in
      let b = length-take n (drop 1 ws) in
      let c = length-drop 1 ws in
      omega (arith, a, b, c, lt)

  pub firsts_long : 1 + n ≤ length ws → length (firsts_in n ws) ≡ n
  firsts_long le =
      let a = length-map (take n (drop 1 ws)) value_of in
      let b = length-take n (drop 1 ws) in
      let c = length-drop 1 ws in
      omega (arith, a, b, c, le)

  pub first_read : (i : ℕ) → i < length (firsts_in n ws) → held (firsts_in n ws) i ≡ value_of (get_or ws (1 + i) 0)
  first_read i lt =
      let at = first_below i lt in
      let within : i < length (take n (drop 1 ws)) = subst (λ k. i < k) (length-map (take n (drop 1 ws)) value_of) lt in
      get_or-map value_of (take n (drop 1 ws)) i 0 None within ∙ ap value_of (get_or-take n (drop 1 ws) i 0 at.0 ∙ get_or_after_one ws i 0)

  pub firsts_first : (i x : ℕ) → i < n → firsts_in n (set ws (1 + i) x) ≡ set (firsts_in n ws) i (value_of x)
  firsts_first i x lt = ap (λ vs. map value_of (take n vs)) (drop-set-add 1 ws i x) ∙ ap (map value_of) (take-set-lt n (drop 1 ws) i x lt) ∙ map-set value_of (take n (drop 1 ws)) i x

  pub firsts_rest : (i x : ℕ) → firsts_in n (set ws (1 + n + i) x) ≡ firsts_in n ws
  firsts_rest i x = ap (λ vs. map value_of (take n vs)) (subst (λ j. drop 1 (set ws j x) ≡ set (drop 1 ws) (n + i) x) (sym (add_assoc 1 n i)) (drop-set-add 1 ws (n + i) x)) ∙ ap (map value_of) (take-set-le n (drop 1 ws) (n + i) x (omega arith))

-- Of the other kind.

module _ (f : ℕ → Option ℕ) (n : ℕ) (ws : List ℕ) where
  pub rest_long : length (rest_in f n ws) ≡ length ws - (1 + n)
  rest_long = length-map (drop (1 + n) ws) f ∙ length-drop (1 + n) ws

  pub rest_below : (i : ℕ) → i < length (rest_in f n ws) → 1 + n + i < length ws
  rest_below i lt = omega (arith, rest_long, lt)

  pub rest_read : (i : ℕ) → i < length (rest_in f n ws) → held (rest_in f n ws) i ≡ f (get_or ws (1 + n + i) 0)
  rest_read i lt =
      let within : i < length (drop (1 + n) ws) = subst (λ k. i < k) (length-map (drop (1 + n) ws) f) lt in
      get_or-map f (drop (1 + n) ws) i 0 None within ∙ ap f (get_or-drop (1 + n) ws i 0)

  pub rest_first : (i x : ℕ) → i < n → rest_in f n (set ws (1 + i) x) ≡ rest_in f n ws
  rest_first i x lt = ap (map f) (drop-set-lt (1 + n) ws (1 + i) x (omega arith))

  pub rest_rest : (i x : ℕ) → rest_in f n (set ws (1 + n + i) x) ≡ set (rest_in f n ws) i (f x)
  rest_rest i x = ap (map f) (drop-set-add (1 + n) ws i x) ∙ map-set f (drop (1 + n) ws) i x
